-- A row carried out act by act: what remains of its plan at each place, and that each act finds the token as it wants it.
use Rattle.std.proofs.Common.{◌≡◌, ℕ, zero, suc, ◌+◌, ◌-◌, ◌≤◌, ◌<◌, Bool, true, false, List, [], ◌∷◌, drop, Some, None, Result, Ok, Err, refl, ap, sym, subst, ◌∙◌, arith, add-one, nat_lt, slice_get, inl, inr}
use Rattle.std.specs.Prelude.{not, ◌||◌, ◌&&◌, if◌then◌else◌}
use Rattle.std.specs.List.{list_any}
use Rattle.std.proofs.lemmas.Bool.{lt-ltb, le-ltb, and_parts}
use Rattle.std.proofs.lemmas.List.{drop-drop}
use Rattle.hp_elements.specs.declared.act.Act.{Act}
use Rattle.hp_elements.specs.declared.act.Act.TheVariants as act
use Rattle.hp_elements.specs.declared.token.Mode.{Mode}
use Rattle.hp_elements.specs.declared.token.Token.{Token}
use Rattle.std.specs.Result.{IsErrAnd}
use Rattle.hp_control.specs.declared.change.Refusal.{Refusal}
use Rattle.hp_control.specs.declared.change.Refusal.TheVariants.{Crossed, NoMemory}
use Rattle.hp_control.specs.declared.question.Crossing.{Crossing}
use Rattle.hp_control.specs.Plan.{Plan, gives, followed_by, Heard, Runs}
use Rattle.hp_control.specs.Running.{Partway, runs_crosses, runs_gives, runs_then}
use Rattle.hp_acts.specs.declared.turns.Next.{Next}
use Rattle.hp_acts.specs.declared.turns.Next.TheVariants.{At, Rules, Done, Again}
use Rattle.hp_acts.specs.Carrying.{Comes, Goes, GoesBy, IsWay, Stays, UsesRules, going}
use Rattle.hp_acts.specs.Handling.{GoesLater}
use Rattle.hp_acts.specs.RowPlans.{Reached, Came, left, again, act_then, acts_plan, where_left}
use Rattle.hp_acts.specs.Spending.{IsLeftOf, leaves_whole, row_keeps, wants_whole, ways_keep}
use Rattle.hp_acts.proofs.TokenLeft.{StillFits, fitting_alike}

-- the act at a place, and those behind it
drop_at : {X : Type 0} (xs : List X) (at : ℕ) (x : X) → slice_get xs at ≡ Some x → drop at xs ≡ x ∷ drop (suc at) xs
drop_at [] at x h = absurd (cc)
drop_at (y ∷ ys) zero x h = let same : y ≡ x = cc in ap (λ z. z ∷ ys) same
drop_at (y ∷ ys) (suc at) x h = drop_at ys at x h

pub drop_here : {X : Type 0} (xs : List X) (at : ℕ) (x : X) → slice_get xs at ≡ Some x → drop at xs ≡ x ∷ drop (at + 1) xs
drop_here xs at x h = drop_at xs at x h ∙ ap (λ n. x ∷ drop n xs) (sym (add-one at))

pub drop_past : {X : Type 0} (xs : List X) (at : ℕ) → slice_get xs at ≡ None → drop at xs ≡ []
drop_past [] zero h = refl
drop_past [] (suc at) h = refl
drop_past (y ∷ ys) zero h = absurd (cc)
drop_past (y ∷ ys) (suc at) h = drop_past ys at h

-- whether one of the acts from a place on passes a test
pub any_here : {X : Type 0} (test : X → Bool) (xs : List X) (at : ℕ) (x : X) → slice_get xs at ≡ Some x → list_any test (drop at xs) ≡ (test x || list_any test (drop (at + 1) xs))
any_here test xs at x h = ap (list_any test) (drop_here xs at x h)

pub any_past : {X : Type 0} (test : X → Bool) (xs : List X) (at : ℕ) → slice_get xs at ≡ None → list_any test (drop at xs) ≡ false
any_past test xs at h = ap (list_any test) (drop_past xs at h)

drop_on : {X : Type 0} (xs : List X) (at next : ℕ) → at ≤ next → drop (next - at) (drop at xs) ≡ drop next xs
drop_on xs at next h =
    let same : at + (next - at) ≡ next = omega arith in
    drop-drop (next - at) at xs ∙ ap (λ n. drop n xs) same

-- the acts before a place are passed over
keeps_over : (whole : Bool) (k at next : ℕ) (acts : List Act) → at + k ≡ next → row_keeps whole at next acts ≡ row_keeps whole next next (drop k acts)
keeps_over whole zero at next acts e = let same : at ≡ next = omega arith in ap (λ n. row_keeps whole n next acts) same
keeps_over whole (suc k) at next [] e = refl
keeps_over whole (suc k) at next (a ∷ acts) e =
    let before : nat_lt at next ≡ true = lt-ltb at next (omega arith) in
    ap (λ b. if b then row_keeps whole (at + 1) next acts else ((whole || not (wants_whole a)) && ways_keep a whole at acts (λ still place. row_keeps still (at + 1) place acts))) before
    ∙ keeps_over whole k (at + 1) next acts (omega arith)

keeps_here : (whole : Bool) (at : ℕ) (a : Act) (acts : List Act) → row_keeps whole at at (a ∷ acts) ≡ ((whole || not (wants_whole a)) && ways_keep a whole at acts (λ still place. row_keeps still (at + 1) place acts))
keeps_here whole at a acts =
    let here : nat_lt at at ≡ false = le-ltb at at (omega arith) in
    ap (λ b. if b then row_keeps whole (at + 1) at acts else ((whole || not (wants_whole a)) && ways_keep a whole at acts (λ still place. row_keeps still (at + 1) place acts))) here

-- a row from a place on finds the token as it wants it
abbrev pub KeepsFrom : Bool → ℕ → List Act → Type 0
KeepsFrom whole at acts = row_keeps whole at at (drop at acts) ≡ true

keeps_moved : (whole : Bool) (at next : ℕ) (acts : List Act) → at + 1 ≤ next → row_keeps whole (at + 1) next (drop (at + 1) acts) ≡ true → KeepsFrom whole next acts
keeps_moved whole at next acts h k =
    ap (row_keeps whole next next) (sym (drop_on acts (at + 1) next h))
    ∙ (sym (keeps_over whole (next - (at + 1)) (at + 1) next (drop (at + 1) acts) (omega arith)) ∙ k)

-- behind the act at a place the token that is left fits the rest of the row
pub record FitsFrom (t rest : Token) (at : ℕ) (acts : List Act) : Type 0 where
  pub whole : Bool
  pub fits : StillFits whole t rest
  pub keeps : KeepsFrom whole at acts

-- the rest of a row from a place on, whether the token is whole there or not
abbrev keeps_rest : ℕ → List Act → Bool → ℕ → Bool
keeps_rest at acts whole place = row_keeps whole (at + 1) place (drop (at + 1) acts)

parts_here : (whole : Bool) (at : ℕ) (a : Act) (acts : List Act) → slice_get acts at ≡ Some a → KeepsFrom whole at acts → ((whole || not (wants_whole a)) ≡ true) × (ways_keep a whole at (drop (at + 1) acts) (keeps_rest at acts) ≡ true)
parts_here whole at a acts h k =
    and_parts (whole || not (wants_whole a)) (ways_keep a whole at (drop (at + 1) acts) (keeps_rest at acts))
    (sym (keeps_here whole at a (drop (at + 1) acts)) ∙ (ap (row_keeps whole at at) (sym (drop_here acts at a h)) ∙ k))

and_yes : (b : Bool) → (b && true) ≡ b
and_yes true = refl
and_yes false = refl

-- wherever the row goes on, it finds the token as it wants it
way_keeps : (whole : Bool) (at place : ℕ) (a : Act) (acts : List Act) (go : Bool → ℕ → Bool) → ways_keep a whole at acts go ≡ true → IsWay a at place → go (whole && leaves_whole a acts) place ≡ true
way_keeps whole at place act.Done acts go h w = absurd w
way_keeps whole at place act.Again acts go h w = absurd w
way_keeps whole at place (act.AgainAs name) acts go h w = absurd w
way_keeps whole at place (act.If x otherwise) acts go h (inl e) = ap (λ b. go b place) (and_yes whole) ∙ (ap (go whole) e ∙ (and_parts (go whole (at + 1)) (go whole otherwise) h).0)
way_keeps whole at place (act.If x otherwise) acts go h (inr e) = ap (λ b. go b place) (and_yes whole) ∙ (ap (go whole) e ∙ (and_parts (go whole (at + 1)) (go whole otherwise) h).1)
way_keeps whole at place (act.Unless x otherwise) acts go h (inl e) = ap (λ b. go b place) (and_yes whole) ∙ (ap (go whole) e ∙ (and_parts (go whole (at + 1)) (go whole otherwise) h).0)
way_keeps whole at place (act.Unless x otherwise) acts go h (inr e) = ap (λ b. go b place) (and_yes whole) ∙ (ap (go whole) e ∙ (and_parts (go whole (at + 1)) (go whole otherwise) h).1)
way_keeps whole at place a acts go h w = ap (go (whole && leaves_whole a acts)) w ∙ h

and_no : (b : Bool) → (b && false) ≡ false
and_no true = refl
and_no false = refl

-- behind rules of a mode it may have given away what it had
rules_keep : (whole : Bool) (at : ℕ) (a : Act) (acts : List Act) (go : Bool → ℕ → Bool) → ways_keep a whole at acts go ≡ true → UsesRules a → go false (at + 1) ≡ true
rules_keep whole at (act.As m) acts go h u = ap (λ b. go b (at + 1)) (sym (and_no whole)) ∙ h
rules_keep whole at (act.AsFostered m) acts go h u = ap (λ b. go b (at + 1)) (sym (and_no whole)) ∙ h
rules_keep whole at act.AsPresent acts go h u = ap (λ b. go b (at + 1)) (sym (and_no whole)) ∙ h
rules_keep whole at _ acts go h u = absurd u

rules_want : (a : Act) → UsesRules a → wants_whole a ≡ true
rules_want (act.As m) u = refl
rules_want (act.AsFostered m) u = refl
rules_want act.AsPresent u = refl
rules_want _ u = absurd u

pub left_twice : (t old new : Token) → IsLeftOf t old → IsLeftOf old new → IsLeftOf t new
left_twice t old new l m = record { kind = m.kind ∙ l.kind; name = m.name ∙ l.name; closing = m.closing ∙ l.closing }

pub left_whole : (t : Token) → IsLeftOf t t
left_whole t = record { kind = refl; name = refl; closing = refl }

fits_left : (whole : Bool) (t old : Token) → StillFits whole t old → IsLeftOf t old
fits_left true t old e = let P : Token → Type 0 = λ token. IsLeftOf t token in subst P (sym e) (left_whole t)
fits_left false t old l = l

fits_on : (whole leaves : Bool) (t old new : Token) → StillFits whole t old → IsLeftOf old new → (leaves ≡ true → new ≡ old) → StillFits (whole && leaves) t new
fits_on true true t old new e l same = same refl ∙ e
fits_on true false t old new e l same = let P : Token → Type 0 = λ token. IsLeftOf token new in subst P e l
fits_on false leaves t old new e l same = left_twice t old new e l

is_whole : (whole wants : Bool) (t old : Token) → StillFits whole t old → (whole || not wants) ≡ true → wants ≡ true → old ≡ t
is_whole true wants t old fits h w = fits
is_whole false true t old fits h w = absurd (cc)
is_whole false false t old fits h w = absurd (cc)

-- follow: the rules of a mode; present: those of the mode in which the turn began; t: the whole token; acts: the row
module _ (follow : Bool → Mode → Reached → Plan Came) (present : Reached → Plan Came) (fostering : Bool) (t : Token) (acts : List Act) where
  abbrev plan_from : ℕ → ℕ → List Act → Reached → Plan Came
  plan_from = acts_plan follow present fostering t

  abbrev pub whole_row : Reached → Plan Came
  whole_row = acts_plan follow present fostering t 0 0 acts

  -- the row from a place on, and behind the act at a place
  abbrev pub rest_from : ℕ → Reached → Plan Came
  rest_from at = acts_plan follow present fostering t at at (drop at acts)

  abbrev pub rest_behind : ℕ → ℕ → Reached → Plan Came
  rest_behind at place = acts_plan follow present fostering t (at + 1) place (drop (at + 1) acts)

  abbrev pub act_by : Token → Act → ℕ → Reached → Plan Came
  act_by token a at r = act_then follow present fostering token a at (rest_behind at) r

  plan_over : (k at next : ℕ) (xs : List Act) (r : Reached) → at + k ≡ next → plan_from at next xs r ≡ plan_from next next (drop k xs) r
  plan_over zero at next xs r e = let same : at ≡ next = omega arith in ap (λ n. plan_from n next xs r) same
  plan_over (suc k) at next [] r e = refl
  plan_over (suc k) at next (a ∷ xs) r e =
      let before : nat_lt at next ≡ true = lt-ltb at next (omega arith) in
      ap (λ b. if b then plan_from (at + 1) next xs r else act_then follow present fostering t a at (λ place. plan_from (at + 1) place xs) r) before
      ∙ plan_over k (at + 1) next xs r (omega arith)

  plan_moved : (at next : ℕ) (r : Reached) → at + 1 ≤ next → rest_behind at next r ≡ rest_from next r
  plan_moved at next r h =
      plan_over (next - (at + 1)) (at + 1) next (drop (at + 1) acts) r (omega arith)
      ∙ ap (λ xs. plan_from next next xs r) (drop_on acts (at + 1) next h)

  plan_here : (at : ℕ) (a : Act) (r : Reached) → slice_get acts at ≡ Some a → rest_from at r ≡ act_by t a at r
  plan_here at a r h =
      let here : nat_lt at at ≡ false = le-ltb at at (omega arith) in
      ap (λ xs. plan_from at at xs r) (drop_here acts at a h)
      ∙ ap (λ b. if b then plan_from (at + 1) at (drop (at + 1) acts) r else act_by t a at r) here

  -- how far a row is, and what is left of its token
  pub record RowSo (start : Heard) (from : Reached) (at : ℕ) (now : Heard) (r : Reached) (rest : Token) : Type 0 where
    pub way : Partway start now (whole_row from) (rest_from at r)
    pub fit : FitsFrom t rest at acts

  pub begins : (start : Heard) (from : Reached) → row_keeps true 0 0 acts ≡ true → RowSo start from 0 start from t
  begins start from h = record {
    way = λ new end run. run;
    fit = record { whole = true; fits = refl; keeps = h };
  }

  alike_here : (at : ℕ) (a : Act) (r : Reached) (rest : Token) → slice_get acts at ≡ Some a → FitsFrom t rest at acts → act_by rest a at r ≡ act_by t a at r
  alike_here at a r rest h f = fitting_alike follow present fostering at (rest_behind at) r f.whole t rest f.fits a (parts_here f.whole at a acts h f.keeps).0

  -- the act at that place is next
  to_act : (start : Heard) (from : Reached) (at : ℕ) (now : Heard) (r : Reached) (rest : Token) (a : Act) → RowSo start from at now r rest → slice_get acts at ≡ Some a → Partway start now (whole_row from) (act_by rest a at r)
  to_act start from at now r rest a so h =
      let P : Plan Came → Type 0 = λ p. Partway start now (whole_row from) p in
      subst P (plan_here at a r h ∙ sym (alike_here at a r rest h so.fit)) so.way

  pub moves : (start : Heard) (from : Reached) (at : ℕ) (now new : Heard) (r s : Reached) (rest left_over : Token) (a : Act) (place : ℕ) → RowSo start from at now r rest → slice_get acts at ≡ Some a → Partway now new (act_by rest a at r) (rest_behind at place s) → at < place → IsWay a at place → Stays (leaves_whole a (drop (at + 1) acts)) rest left_over (At place) → RowSo start from place new s left_over
  moves start from at now new r s rest left_over a place so h p later w k =
      let f = so.fit in
      let above : at + 1 ≤ place = omega arith in
      let P : Plan Came → Type 0 = λ q. Partway start new (whole_row from) q in
      record {
        way = subst P (plan_moved at place s above) (λ last end run. to_act start from at now r rest a so h last end (p last end run));
        fit = record {
          whole = f.whole && leaves_whole a (drop (at + 1) acts);
          fits = fits_on f.whole (leaves_whole a (drop (at + 1) acts)) t rest left_over f.fits k.0 k.1;
          keeps = keeps_moved (f.whole && leaves_whole a (drop (at + 1) acts)) at place acts above (way_keeps f.whole at place a (drop (at + 1) acts) (keeps_rest at acts) (parts_here f.whole at a acts h f.keeps).1 w);
        };
      }

  pub whole_there : (start : Heard) (from : Reached) (at : ℕ) (now : Heard) (r : Reached) (rest : Token) (a : Act) → RowSo start from at now r rest → slice_get acts at ≡ Some a → UsesRules a → rest ≡ t
  whole_there start from at now r rest a so h u = is_whole so.fit.whole (wants_whole a) t rest so.fit.fits (parts_here so.fit.whole at a acts h so.fit.keeps).0 (rules_want a u)

  -- rules of a mode were used, and the row goes on
  pub uses : (start : Heard) (from : Reached) (at : ℕ) (now new last : Heard) (r s u : Reached) (rest left_over : Token) (a : Act) (other : Mode) (fostered : Bool) → RowSo start from at now r rest → slice_get acts at ≡ Some a → UsesRules a → Partway now new (act_by rest a at r) (followed_by (follow fostered other s) (where_left (rest_behind at (at + 1)))) → Runs new last (follow fostered other s) (Ok (left u)) → IsLeftOf rest left_over → RowSo start from (at + 1) last u left_over
  uses start from at now new last r s u rest left_over a other fostered so h uses_it p run l =
      let f = so.fit in
      let above : at + 1 ≤ at + 1 = omega arith in
      let P : Plan Came → Type 0 = λ q. Partway start last (whole_row from) q in
      record {
        way = subst P (plan_moved at (at + 1) u above) (λ after end more. to_act start from at now r rest a so h after end (p after end (runs_then (where_left (rest_behind at (at + 1))) run more)));
        fit = record {
          whole = false;
          fits = left_twice t rest left_over (fits_left f.whole t rest f.fits) l;
          keeps = keeps_moved false at (at + 1) acts above (rules_keep f.whole at a (drop (at + 1) acts) (keeps_rest at acts) (parts_here f.whole at a acts h f.keeps).1 uses_it);
        };
      }

  pub so_left : (start : Heard) (from : Reached) (at : ℕ) (now : Heard) (r : Reached) (rest : Token) → RowSo start from at now r rest → IsLeftOf t rest
  so_left start from at now r rest so = fits_left so.fit.whole t rest so.fit.fits

  -- the row ends behind its last act
  pub ends_past : (start : Heard) (from : Reached) (at : ℕ) (now : Heard) (r : Reached) (rest : Token) → RowSo start from at now r rest → slice_get acts at ≡ None → Runs start now (whole_row from) (Ok (left r))
  ends_past start from at now r rest so h =
      let P : List Act → Type 0 = λ xs. Runs now now (plan_from at at xs r) (Ok (left r)) in
      so.way now (Ok (left r)) (subst P (sym (drop_past acts at h)) (runs_gives now (left r)))

  -- or at the act, by what that comes to
  pub ends_at : (start : Heard) (from : Reached) (at : ℕ) (now new : Heard) (r : Reached) (rest : Token) (a : Act) (came : Came) → RowSo start from at now r rest → slice_get acts at ≡ Some a → Partway now new (act_by rest a at r) (gives came) → Runs start new (whole_row from) (Ok came)
  ends_at start from at now new r rest a came so h p = to_act start from at now r rest a so h new (Ok came) (p new (Ok came) (runs_gives new came))

  pub crosses_at : (start : Heard) (from : Reached) (at : ℕ) (now new : Heard) (r : Reached) (rest : Token) (a : Act) (crossing : Crossing) → RowSo start from at now r rest → slice_get acts at ≡ Some a → Runs now new (act_by rest a at r) (Err crossing) → Runs start new (whole_row from) (Err crossing)
  crosses_at start from at now new r rest a crossing so h run = to_act start from at now r rest a so h new (Err crossing) run

  -- or in the rules that it uses
  pub again_in : (start : Heard) (from : Reached) (at : ℕ) (now new last : Heard) (r s u : Reached) (rest other_token : Token) (a : Act) (other : Mode) (fostered : Bool) → RowSo start from at now r rest → slice_get acts at ≡ Some a → Partway now new (act_by rest a at r) (followed_by (follow fostered other s) (where_left (rest_behind at (at + 1)))) → Runs new last (follow fostered other s) (Ok (again other_token u)) → Runs start last (whole_row from) (Ok (again other_token u))
  again_in start from at now new last r s u rest other_token a other fostered so h p run =
      to_act start from at now r rest a so h last (Ok (again other_token u))
      (p last (Ok (again other_token u)) (runs_then (where_left (rest_behind at (at + 1))) run (runs_gives last (again other_token u))))

  pub crosses_in : (start : Heard) (from : Reached) (at : ℕ) (now new last : Heard) (r s : Reached) (rest : Token) (a : Act) (other : Mode) (fostered : Bool) (crossing : Crossing) → RowSo start from at now r rest → slice_get acts at ≡ Some a → Partway now new (act_by rest a at r) (followed_by (follow fostered other s) (where_left (rest_behind at (at + 1)))) → Runs new last (follow fostered other s) (Err crossing) → Runs start last (whole_row from) (Err crossing)
  crosses_in start from at now new last r s rest a other fostered crossing so h p run =
      to_act start from at now r rest a so h last (Err crossing) (p last (Err crossing) (runs_crosses (where_left (rest_behind at (at + 1))) run))

  -- what the act at a place came to
  pub record Stepped (at : ℕ) (now new : Heard) (r s : Reached) (rest left_over : Token) (a : Act) (next : Next) : Type 0 where
    pub plan : Partway now new (act_by rest a at r) (going follow (rest_behind at) at s left_over next)
    pub later : GoesLater at next
    pub goes : GoesBy a at next
    pub stays : Stays (leaves_whole a (drop (at + 1) acts)) rest left_over next

  pub moved_to : (start : Heard) (from : Reached) (at : ℕ) (now new : Heard) (r s : Reached) (rest left_over : Token) (a : Act) (next : Next) (place : ℕ) → RowSo start from at now r rest → slice_get acts at ≡ Some a → Stepped at now new r s rest left_over a next → next ≡ At place → RowSo start from place new s left_over
  moved_to start from at now new r s rest left_over a next place so h st e =
      let P : Next → Type 0 = λ n. Partway now new (act_by rest a at r) (going follow (rest_behind at) at s left_over n) in
      let L : Next → Type 0 = λ n. GoesLater at n in
      let G : Next → Type 0 = λ n. GoesBy a at n in
      let S : Next → Type 0 = λ n. Stays (leaves_whole a (drop (at + 1) acts)) rest left_over n in
      moves start from at now new r s rest left_over a place so h (subst P e st.plan) (subst L e st.later) (subst G e st.goes) (subst S e st.stays)

  pub done_at : (start : Heard) (from : Reached) (at : ℕ) (now new : Heard) (r s : Reached) (rest left_over : Token) (a : Act) (next : Next) → RowSo start from at now r rest → slice_get acts at ≡ Some a → Stepped at now new r s rest left_over a next → next ≡ Done → Runs start new (whole_row from) (Ok (left s)) × IsLeftOf t left_over
  done_at start from at now new r s rest left_over a next so h st e =
      let P : Next → Type 0 = λ n. Partway now new (act_by rest a at r) (going follow (rest_behind at) at s left_over n) in
      let S : Next → Type 0 = λ n. Stays (leaves_whole a (drop (at + 1) acts)) rest left_over n in
      let T : Token → Type 0 = λ token. IsLeftOf t token in
      let same : left_over ≡ rest = subst S e st.stays in
      (ends_at start from at now new r rest a (left s) so h (subst P e st.plan), subst T (sym same) (fits_left so.fit.whole t rest so.fit.fits))

  pub again_at : (start : Heard) (from : Reached) (at : ℕ) (now new : Heard) (r s : Reached) (rest left_over : Token) (a : Act) (next : Next) → RowSo start from at now r rest → slice_get acts at ≡ Some a → Stepped at now new r s rest left_over a next → next ≡ Again → Runs start new (whole_row from) (Ok (again left_over s))
  again_at start from at now new r s rest left_over a next so h st e =
      let P : Next → Type 0 = λ n. Partway now new (act_by rest a at r) (going follow (rest_behind at) at s left_over n) in
      ends_at start from at now new r rest a (again left_over s) so h (subst P e st.plan)

  -- rules of a mode are to be used, for the whole token
  pub record Using (start : Heard) (from : Reached) (at : ℕ) (now new : Heard) (r s : Reached) (rest left_over : Token) (a : Act) (other : Mode) (fostered : Bool) : Type 0 where
    pub so : RowSo start from at now r rest
    pub here : slice_get acts at ≡ Some a
    pub uses_rules : UsesRules a
    pub plan : Partway now new (act_by rest a at r) (followed_by (follow fostered other s) (where_left (rest_behind at (at + 1))))
    pub same : left_over ≡ rest
    pub whole : left_over ≡ t

  pub using_at : (start : Heard) (from : Reached) (at : ℕ) (now new : Heard) (r s : Reached) (rest left_over : Token) (a : Act) (next : Next) (other : Mode) (fostered : Bool) → RowSo start from at now r rest → slice_get acts at ≡ Some a → Stepped at now new r s rest left_over a next → next ≡ Rules other fostered → Using start from at now new r s rest left_over a other fostered
  using_at start from at now new r s rest left_over a next other fostered so h st e =
      let P : Next → Type 0 = λ n. Partway now new (act_by rest a at r) (going follow (rest_behind at) at s left_over n) in
      let G : Next → Type 0 = λ n. GoesBy a at n in
      let S : Next → Type 0 = λ n. Stays (leaves_whole a (drop (at + 1) acts)) rest left_over n in
      let same : left_over ≡ rest = subst S e st.stays in
      record {
        so = so;
        here = h;
        uses_rules = subst G e st.goes;
        plan = subst P e st.plan;
        same = same;
        whole = same ∙ whole_there start from at now r rest a so h (subst G e st.goes);
      }

  pub used_to : (start : Heard) (from : Reached) (at : ℕ) (now new last : Heard) (r s u : Reached) (rest left_over out : Token) (a : Act) (other : Mode) (fostered : Bool) → Using start from at now new r s rest left_over a other fostered → Runs new last (follow fostered other s) (Ok (left u)) → IsLeftOf left_over out → RowSo start from (at + 1) last u out
  used_to start from at now new last r s u rest left_over out a other fostered x run l =
      let P : Token → Type 0 = λ token. IsLeftOf token out in
      uses start from at now new last r s u rest out a other fostered x.so x.here x.uses_rules x.plan run (subst P x.same l)

  pub used_again : (start : Heard) (from : Reached) (at : ℕ) (now new last : Heard) (r s u : Reached) (rest left_over out : Token) (a : Act) (other : Mode) (fostered : Bool) → Using start from at now new r s rest left_over a other fostered → Runs new last (follow fostered other s) (Ok (again out u)) → Runs start last (whole_row from) (Ok (again out u))
  used_again start from at now new last r s u rest left_over out a other fostered x run = again_in start from at now new last r s u rest out a other fostered x.so x.here x.plan run

  pub used_crosses : (start : Heard) (from : Reached) (at : ℕ) (now new last : Heard) (r s : Reached) (rest left_over : Token) (a : Act) (other : Mode) (fostered : Bool) (crossing : Crossing) → Using start from at now new r s rest left_over a other fostered → Runs new last (follow fostered other s) (Err crossing) → Runs start last (whole_row from) (Err crossing)
  used_crosses start from at now new last r s rest left_over a other fostered crossing x run = crosses_in start from at now new last r s rest a other fostered crossing x.so x.here x.plan run

  -- an act that isn't carried out ends the row
  pub refused_at : (result : Result Bool Refusal) (refused : Refusal) (start : Heard) (from : Reached) (at : ℕ) (now new : Heard) (r s : Reached) (rest out : Token) (a : Act) (next : Next → Plan Came) → result ≡ Err refused → RowSo start from at now r rest → slice_get acts at ≡ Some a → Goes (Err refused) now new (act_by rest a at r) next → Comes result start new (whole_row from) out s
  refused_at result refused start from at now new r s rest out a next e so h g =
      let P : Result Bool Refusal → Type 0 = λ x. Comes x start new (whole_row from) out s in
      subst P (sym e) (by_refusal refused g)
    where
      by_refusal : (refused : Refusal) → Goes (Err refused) now new (act_by rest a at r) next → Comes (Err refused) start new (whole_row from) out s
      by_refusal NoMemory g = tt
      by_refusal (Crossed crossing) g = crosses_at start from at now new r rest a crossing so h g

  pub refused_in : (result : Result Bool Refusal) (refused : Refusal) (start : Heard) (from : Reached) (at : ℕ) (now new last : Heard) (r s u : Reached) (rest left_over out : Token) (a : Act) (other : Mode) (fostered : Bool) → result ≡ Err refused → Using start from at now new r s rest left_over a other fostered → Comes (Err refused) new last (follow fostered other s) out u → Comes result start last (whole_row from) out u
  refused_in result refused start from at now new last r s u rest left_over out a other fostered e x g =
      let P : Result Bool Refusal → Type 0 = λ y. Comes y start last (whole_row from) out u in
      subst P (sym e) (by_refusal refused g)
    where
      by_refusal : (refused : Refusal) → Comes (Err refused) new last (follow fostered other s) out u → Comes (Err refused) start last (whole_row from) out u
      by_refusal NoMemory g = tt
      by_refusal (Crossed crossing) g = used_crosses start from at now new last r s rest left_over a other fostered crossing x g

pub came_left : (b : Bool) (x y : Heard) (plan : Plan Came) (t : Token) (r : Reached) → Comes (Ok b) x y plan t r → b ≡ false → Runs x y plan (Ok (left r))
came_left false x y plan t r h e = h
came_left true x y plan t r h e = absurd (cc)

pub came_again : (b : Bool) (x y : Heard) (plan : Plan Came) (t : Token) (r : Reached) → Comes (Ok b) x y plan t r → b ≡ true → Runs x y plan (Ok (again t r))
came_again true x y plan t r h e = h
came_again false x y plan t r h e = absurd (cc)

pub is_error : {X : Type 0} (result : Result X Refusal) (refused : Refusal) → IsErrAnd result (λ e. e ≡ refused) → result ≡ Err refused
is_error (Ok x) refused h = absurd h
is_error (Err e) refused h = ap Err h
