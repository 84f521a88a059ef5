-- The act at a place of a row, carried out.
use Rattle.std.proofs.Common.{◌≡◌, ◌<◌, ℕ, ◌+◌, Bool, true, false, Option, Result, Ok, Err, refl, ap, sym, subst, ◌∙◌, arith, inl, inr}
use Rattle.std.specs.Prelude.{◌⊎◌, IfOk, ltb, not, if◌then◌else◌}
use Rattle.std.proofs.lemmas.Bool.{ltb-true}
use Rattle.hp_elements.specs.declared.act.Act.{Act}
use Rattle.hp_elements.specs.declared.act.Act.TheVariants as act
use Rattle.hp_elements.specs.declared.act.Test.{Test}
use Rattle.hp_elements.specs.declared.known.Known.{Known}
use Rattle.hp_elements.specs.declared.token.Mode.{Mode}
use Rattle.hp_elements.specs.declared.token.Rest.{Rest}
use Rattle.hp_elements.specs.declared.token.Token.{Token}
use Rattle.hp_control.specs.declared.change.Refusal.{Refusal}
use Rattle.hp_control.specs.declared.change.Refusal.TheVariants.{Crossed, NoMemory}
use Rattle.hp_control.specs.declared.question.Crossing.{Crossing}
use Rattle.hp_control.specs.Faithful.{Split}
use Rattle.hp_control.specs.Plan.{Heard, Plan, followed_by, gives, Runs}
use Rattle.hp_control.specs.Running.{Partway, runs_crosses, runs_then}
use Rattle.hp_model.specs.Tokens.{as_start}
use Rattle.hp_views.specs.View.{Answers, Sight, Finds}
use Rattle.hp_acts.specs.declared.turns.Handled.{Handled}
use Rattle.hp_acts.specs.declared.turns.Next.{Next}
use Rattle.hp_acts.specs.declared.turns.Next.TheVariants.{At}
use Rattle.hp_acts.specs.Carrying.{CarriesBy, Goes, GoesBy, IsWay, Stays, going, present_plan}
use Rattle.hp_acts.specs.Handling.{GoesLater}
use Rattle.hp_acts.specs.Plans.{act_plan, by_plan, test_plan}
use Rattle.hp_acts.specs.RowPlans.{Reached, Came, act_then, again, changed}
use Rattle.hp_acts.proofs.RowRuns.{left_whole}

-- the acts that carry nothing out themselves
abbrev pub is_steering : Act → Bool
is_steering act.Done = true
is_steering act.Again = true
is_steering (act.AgainAs name) = true
is_steering (act.As m) = true
is_steering (act.AsFostered m) = true
is_steering act.AsPresent = true
is_steering (act.If test otherwise) = true
is_steering (act.Unless test otherwise) = true
is_steering act.Stop = true
is_steering (act.Lexer rest) = true
is_steering _ = false

pub not_steering : (a : Act) → (a ≡ act.Done → ⊥) → (a ≡ act.Again → ⊥) → ((name : Known) → a ≡ act.AgainAs name → ⊥) → ((m : Mode) → a ≡ act.As m → ⊥) → ((m : Mode) → a ≡ act.AsFostered m → ⊥) → (a ≡ act.AsPresent → ⊥) → ((test : Test) (otherwise : ℕ) → a ≡ act.If test otherwise → ⊥) → ((test : Test) (otherwise : ℕ) → a ≡ act.Unless test otherwise → ⊥) → (a ≡ act.Stop → ⊥) → ((rest : Rest) → a ≡ act.Lexer rest → ⊥) → is_steering a ≡ false
not_steering act.Done h1 h2 h3 h4 h5 h6 h7 h8 h9 h10 = absurd (h1 refl)
not_steering act.Again h1 h2 h3 h4 h5 h6 h7 h8 h9 h10 = absurd (h2 refl)
not_steering (act.AgainAs name) h1 h2 h3 h4 h5 h6 h7 h8 h9 h10 = absurd (h3 name refl)
not_steering (act.As m) h1 h2 h3 h4 h5 h6 h7 h8 h9 h10 = absurd (h4 m refl)
not_steering (act.AsFostered m) h1 h2 h3 h4 h5 h6 h7 h8 h9 h10 = absurd (h5 m refl)
not_steering act.AsPresent h1 h2 h3 h4 h5 h6 h7 h8 h9 h10 = absurd (h6 refl)
not_steering (act.If test otherwise) h1 h2 h3 h4 h5 h6 h7 h8 h9 h10 = absurd (h7 test otherwise refl)
not_steering (act.Unless test otherwise) h1 h2 h3 h4 h5 h6 h7 h8 h9 h10 = absurd (h8 test otherwise refl)
not_steering act.Stop h1 h2 h3 h4 h5 h6 h7 h8 h9 h10 = absurd (h9 refl)
not_steering (act.Lexer rest) h1 h2 h3 h4 h5 h6 h7 h8 h9 h10 = absurd (h10 rest refl)
not_steering _ h1 h2 h3 h4 h5 h6 h7 h8 h9 h10 = refl

pub way_on : (a : Act) (at : ℕ) → is_steering a ≡ false → IsWay a at (at + 1)
way_on act.Done at h = absurd (cc)
way_on act.Again at h = absurd (cc)
way_on (act.AgainAs name) at h = absurd (cc)
way_on (act.If test otherwise) at h = absurd (cc)
way_on (act.Unless test otherwise) at h = absurd (cc)
way_on _ at h = refl

-- the way on from an act that is b
pub way_of : (a b : Act) (at place : ℕ) (next : Next) → a ≡ b → next ≡ At place → IsWay b at place → GoesBy a at next
way_of a b at place next is e way =
    let P : Next → Type 0 = GoesBy a at in
    let Q : Act → Type 0 = λ x. IsWay x at place in
    subst P (sym e) (subst Q (sym is) way)

-- behind a test a row goes on at one of two places, and both stand later
pub one_of : (at otherwise : ℕ) (on : Bool) → ((if on then at + 1 else otherwise) ≡ at + 1) ⊎ ((if on then at + 1 else otherwise) ≡ otherwise)
one_of at otherwise true = inl refl
one_of at otherwise false = inr refl

pub later_of : (at otherwise : ℕ) (on : Bool) (next : Next) → ltb at otherwise ≡ true → next ≡ At (if on then at + 1 else otherwise) → GoesLater at next
later_of at otherwise on next later e = let P : Next → Type 0 = GoesLater at in subst P (sym e) (by_place on)
  where
    by_place : (b : Bool) → at < (if b then at + 1 else otherwise)
    by_place true = omega arith
    by_place false = ltb-true at otherwise later

-- a test leaves the token whole
pub whole_at : (whole : Bool) (t : Token) (place : ℕ) (next : Next) → next ≡ At place → Stays whole t t next
whole_at whole t place next e = let P : Next → Type 0 = Stays whole t t in subst P (sym e) (left_whole t, λ w. refl)

-- a test for which memory is wanting
pub no_next : (result : Result Next Refusal) (refused : Refusal) (P : Next → Type 0) → result ≡ Err refused → IfOk result P
no_next result refused P e = let Q : Result Next Refusal → Type 0 = λ x. IfOk x P in subst Q (sym e) tt

pub no_answer : (result : Result Next Refusal) (refused : Refusal) (old new : Sight) (plan : Split → Plan Bool) (whole : Plan Came) (rest : Next → Plan Came) → result ≡ Err refused → Answers {X = Bool} (Err refused) old new plan → Goes result old.heard new.heard whole rest
no_answer result refused old new plan whole rest e h = let Q : Result Next Refusal → Type 0 = λ x. Goes x old.heard new.heard whole rest in subst Q (sym e) (by_refusal refused h)
  where
    by_refusal : (x : Refusal) → Answers {X = Bool} (Err x) old new plan → Goes (Err x) old.heard new.heard whole rest
    by_refusal NoMemory h = tt
    by_refusal (Crossed crossing) h = absurd h

-- a token that isn't given away stays; one that is, is copied where it is to stay
pub token_stays : (gives whole : Bool) (old new : Token) → (gives ≡ false → new ≡ old) → (whole ≡ true → gives ≡ true → new ≡ old) → whole ≡ true → new ≡ old
token_stays true whole old new h k w = k w refl
token_stays false whole old new h k w = h refl

module _ (follow : Bool → Mode → Reached → Plan Came) (present : Reached → Plan Came) (fostering : Bool) (t : Token) (at : ℕ) (go : ℕ → Reached → Plan Came) where
  abbrev then_by : Act → Reached → Plan Came
  then_by a r = act_then follow present fostering t a at go r

  -- an act that only steers the row says itself what is left of it
  pub steered : (h : Heard) (r : Reached) (a b : Act) → a ≡ b → Partway h h (then_by a r) (then_by b r)
  steered h r a b is = let P : Act → Type 0 = λ x. Partway h h (then_by x r) (then_by b r) in subst P (sym is) (λ last end more. more)

  pub renamed : (h : Heard) (r : Reached) (a : Act) (name : Known) (new : Token) → a ≡ act.AgainAs name → new ≡ as_start name t → Partway h h (then_by a r) (gives (again new r))
  renamed h r a name new is e = let P : Token → Type 0 = λ x. Partway h h (then_by a r) (gives (again x r)) in subst P (sym e) (steered h r a (act.AgainAs name) is)

  then_carried : (a : Act) (r : Reached) → is_steering a ≡ false → then_by a r ≡ followed_by (by_plan (act_plan fostering t a) r.split) (λ v. go (at + 1) (changed r v))
  then_carried act.Done r h = absurd (cc)
  then_carried act.Again r h = absurd (cc)
  then_carried (act.AgainAs name) r h = absurd (cc)
  then_carried (act.As m) r h = absurd (cc)
  then_carried (act.AsFostered m) r h = absurd (cc)
  then_carried act.AsPresent r h = absurd (cc)
  then_carried (act.If test otherwise) r h = absurd (cc)
  then_carried (act.Unless test otherwise) r h = absurd (cc)
  then_carried act.Stop r h = absurd (cc)
  then_carried (act.Lexer rest) r h = absurd (cc)
  then_carried a r h = refl

  -- an act, by its plan
  ran : (old new : Sight) (a : Act) → CarriesBy (Ok tt) old new (act_plan fostering t a) → Runs old.heard new.heard (by_plan (act_plan fostering t a) old.split) (Ok new.split)
  ran old new act.Done h = h
  ran old new _ h = h

  crossed : (old new : Sight) (a : Act) (crossing : Crossing) → CarriesBy (Err (Crossed crossing)) old new (act_plan fostering t a) → Runs old.heard new.heard (by_plan (act_plan fostering t a) old.split) (Err crossing)
  crossed old new act.Done crossing h = h
  crossed old new _ crossing h = h

  pub act_goes : (old new : Sight) (handled : Handled) (a : Act) → is_steering a ≡ false → CarriesBy (Ok tt) old new (act_plan fostering t a) → Partway old.heard new.heard (then_by a (record { split = old.split; handled = handled })) (go (at + 1) (record { split = new.split; handled = handled }))
  act_goes old new handled a s h =
      let r : Reached = record { split = old.split; handled = handled } in
      let P : Plan Came → Type 0 = λ plan. Partway old.heard new.heard plan (go (at + 1) (record { split = new.split; handled = handled })) in
      subst P (sym (then_carried a r s)) (λ last end more. runs_then (λ v. go (at + 1) (changed r v)) (ran old new a h) more)

  pub act_crosses : (old new : Sight) (handled : Handled) (a : Act) (result : Result Next Refusal) (refused : Refusal) (rest : Next → Plan Came) → result ≡ Err refused → is_steering a ≡ false → CarriesBy (Err refused) old new (act_plan fostering t a) → Goes result old.heard new.heard (then_by a (record { split = old.split; handled = handled })) rest
  act_crosses old new handled a result refused rest e s h =
      let P : Result Next Refusal → Type 0 = λ x. Goes x old.heard new.heard (then_by a (record { split = old.split; handled = handled })) rest in
      subst P (sym e) (by_refusal refused h)
    where
      by_refusal : (refused : Refusal) → CarriesBy (Err refused) old new (act_plan fostering t a) → Goes (Err refused) old.heard new.heard (then_by a (record { split = old.split; handled = handled })) rest
      by_refusal NoMemory h = tt
      by_refusal (Crossed crossing) h =
          let r : Reached = record { split = old.split; handled = handled } in
          let P : Plan Came → Type 0 = λ plan. Runs old.heard new.heard plan (Err crossing) in
          subst P (sym (then_carried a r s)) (runs_crosses (λ v. go (at + 1) (changed r v)) (crossed old new a crossing h))

  tested : (old new : Sight) (handled : Handled) (test : Test) (holds : Bool) (place : Bool → ℕ) → Finds old new (λ v. test_plan t test v) holds → Partway old.heard new.heard (followed_by (test_plan t test old.split) (λ b. go (place b) (record { split = old.split; handled = handled }))) (go (place holds) (record { split = new.split; handled = handled }))
  tested old new handled test holds place f =
      let P : Split → Type 0 = λ v. Partway old.heard new.heard (followed_by (test_plan t test old.split) (λ b. go (place b) (record { split = old.split; handled = handled }))) (go (place holds) (record { split = v; handled = handled })) in
      subst P (sym f.same) (λ last end more. runs_then (λ b. go (place b) (record { split = old.split; handled = handled })) f.runs more)

  pub if_goes : (old new : Sight) (handled : Handled) (a : Act) (test : Test) (otherwise : ℕ) (holds : Bool) (next : Next) → a ≡ act.If test otherwise → next ≡ At (if holds then at + 1 else otherwise) → Finds old new (λ v. test_plan t test v) holds → Partway old.heard new.heard (then_by a (record { split = old.split; handled = handled })) (going follow go at (record { split = new.split; handled = handled }) t next)
  if_goes old new handled a test otherwise holds next is e f =
      let P : Next → Type 0 = λ n. Partway old.heard new.heard (then_by a (record { split = old.split; handled = handled })) (going follow go at (record { split = new.split; handled = handled }) t n) in
      let Q : Act → Type 0 = λ b. Partway old.heard new.heard (then_by b (record { split = old.split; handled = handled })) (go (if holds then at + 1 else otherwise) (record { split = new.split; handled = handled })) in
      subst P (sym e) (subst Q (sym is) (tested old new handled test holds (λ b. if b then at + 1 else otherwise) f))

  place_unless : (holds : Bool) (otherwise : ℕ) → (if not holds then at + 1 else otherwise) ≡ (if holds then otherwise else at + 1)
  place_unless true otherwise = refl
  place_unless false otherwise = refl

  pub unless_goes : (old new : Sight) (handled : Handled) (a : Act) (test : Test) (otherwise : ℕ) (holds : Bool) (next : Next) → a ≡ act.Unless test otherwise → next ≡ At (if not holds then at + 1 else otherwise) → Finds old new (λ v. test_plan t test v) holds → Partway old.heard new.heard (then_by a (record { split = old.split; handled = handled })) (going follow go at (record { split = new.split; handled = handled }) t next)
  unless_goes old new handled a test otherwise holds next is e f =
      let P : Next → Type 0 = λ n. Partway old.heard new.heard (then_by a (record { split = old.split; handled = handled })) (going follow go at (record { split = new.split; handled = handled }) t n) in
      let Q : Act → Type 0 = λ b. Partway old.heard new.heard (then_by b (record { split = old.split; handled = handled })) (go (if holds then otherwise else at + 1) (record { split = new.split; handled = handled })) in
      subst P (sym (e ∙ ap At (place_unless holds otherwise))) (subst Q (sym is) (tested old new handled test holds (λ b. if b then otherwise else at + 1) f))

-- the rules of the mode in which the turn began, or nothing where a row may not use them
pub present_goes : (follow : Bool → Mode → Reached → Plan Came) (fostering : Bool) (t : Token) (at : ℕ) (go : ℕ → Reached → Plan Came) (h : Heard) (r : Reached) (a : Act) (present mode : Option Mode) → a ≡ act.AsPresent → present ≡ mode → Partway h h (act_then follow (present_plan follow present) fostering t a at go r) (act_then follow (present_plan follow mode) fostering t act.AsPresent at go r)
present_goes follow fostering t at go h r a present mode is e =
    let P : Option Mode → Type 0 = λ p. Partway h h (act_then follow (present_plan follow p) fostering t a at go r) (act_then follow (present_plan follow mode) fostering t act.AsPresent at go r) in
    subst P (sym e) (steered follow (present_plan follow mode) fostering t at go h r a act.AsPresent is)
