-- An act carried out: what the call promises, told of the act, and what the act leaves of the token.
use Rattle.std.proofs.Common.{◌≡◌, ◌∙◌, ℕ, Bool, true, false, Option, Result, Ok, Err, refl, ap, sym, subst}
use Rattle.std.specs.Prelude.{OnOk}
use Rattle.std.proofs.lemmas.Bool.{true≢false}
use Rattle.hp_elements.specs.declared.act.Act.{Act}
use Rattle.hp_elements.specs.declared.act.Act.TheVariants as act
use Rattle.hp_elements.specs.declared.act.Test.{Test}
use Rattle.hp_elements.specs.declared.known.Known.{Known}
use Rattle.hp_elements.specs.declared.token.Token.{Token}
use Rattle.hp_elements.specs.declared.token.Mode.{Mode}
use Rattle.hp_control.specs.Faithful.{Split}
use Rattle.hp_control.specs.Plan.{Plan}
use Rattle.hp_control.specs.Running.{runs_gives}
use Rattle.hp_control.specs.declared.change.Refusal.{Refusal}
use Rattle.hp_control.specs.declared.change.Refusal.TheVariants.{Crossed, NoMemory}
use Rattle.hp_views.specs.View.{Answers, Sight}
use Rattle.hp_acts.specs.Carrying.{Carried, CarriesBy, unit_of}
use Rattle.hp_acts.specs.Plans.{act_plan, close_plan, field_plan}
use Rattle.hp_acts.specs.Spending.{IsLeftOf, gives_away}
use Rattle.hp_acts.proofs.RowRuns.{left_whole}

-- where the act is b, by the plan of b
pub by_act : (plans : Act → Option (Split → Plan Split)) (result : Result (Unit {0}) Refusal) (old new : Sight) (a b : Act) → a ≡ b → CarriesBy result old new (plans b) → CarriesBy result old new (plans a)
by_act plans result old new a b is h = let P : Act → Type 0 = λ x. CarriesBy result old new (plans x) in subst P (sym is) h

-- where the act is none that puts something into the tree, by the plan of those that close
pub by_close : (fostering : Bool) (t : Token) (result : Result (Unit {0}) Refusal) (old new : Sight) (a : Act) → (a ≡ act.Characters → ⊥) → (a ≡ act.Reconstruct → ⊥) → (a ≡ act.FramesetNotOk → ⊥) → (a ≡ act.Insert → ⊥) → ((name : Known) → a ≡ act.InsertBare name → ⊥) → (a ≡ act.InsertForeign → ⊥) → (a ≡ act.InsertAsCurrent → ⊥) → (a ≡ act.InsertHtml → ⊥) → (a ≡ act.InsertBareHtml → ⊥) → (a ≡ act.Comment → ⊥) → (a ≡ act.CommentIntoDocument → ⊥) → (a ≡ act.CommentIntoFirst → ⊥) → (a ≡ act.Replacement → ⊥) → (a ≡ act.AppendPending → ⊥) → (a ≡ act.AddMissingToFirst → ⊥) → (a ≡ act.AddMissingToBody → ⊥) → (a ≡ act.AppendToList → ⊥) → (a ≡ act.PutDoctype → ⊥) → (a ≡ act.QuirksOfDoctype → ⊥) → CarriesBy result old new (close_plan fostering t a) → CarriesBy result old new (act_plan fostering t a)
by_close f t r o n act.Characters h1 h2 h3 h4 h5 h6 h7 h8 h9 h10 h11 h12 h13 h14 h15 h16 h17 h18 h19 h = absurd (h1 refl)
by_close f t r o n act.Reconstruct h1 h2 h3 h4 h5 h6 h7 h8 h9 h10 h11 h12 h13 h14 h15 h16 h17 h18 h19 h = absurd (h2 refl)
by_close f t r o n act.FramesetNotOk h1 h2 h3 h4 h5 h6 h7 h8 h9 h10 h11 h12 h13 h14 h15 h16 h17 h18 h19 h = absurd (h3 refl)
by_close f t r o n act.Insert h1 h2 h3 h4 h5 h6 h7 h8 h9 h10 h11 h12 h13 h14 h15 h16 h17 h18 h19 h = absurd (h4 refl)
by_close f t r o n (act.InsertBare name) h1 h2 h3 h4 h5 h6 h7 h8 h9 h10 h11 h12 h13 h14 h15 h16 h17 h18 h19 h = absurd (h5 name refl)
by_close f t r o n act.InsertForeign h1 h2 h3 h4 h5 h6 h7 h8 h9 h10 h11 h12 h13 h14 h15 h16 h17 h18 h19 h = absurd (h6 refl)
by_close f t r o n act.InsertAsCurrent h1 h2 h3 h4 h5 h6 h7 h8 h9 h10 h11 h12 h13 h14 h15 h16 h17 h18 h19 h = absurd (h7 refl)
by_close f t r o n act.InsertHtml h1 h2 h3 h4 h5 h6 h7 h8 h9 h10 h11 h12 h13 h14 h15 h16 h17 h18 h19 h = absurd (h8 refl)
by_close f t r o n act.InsertBareHtml h1 h2 h3 h4 h5 h6 h7 h8 h9 h10 h11 h12 h13 h14 h15 h16 h17 h18 h19 h = absurd (h9 refl)
by_close f t r o n act.Comment h1 h2 h3 h4 h5 h6 h7 h8 h9 h10 h11 h12 h13 h14 h15 h16 h17 h18 h19 h = absurd (h10 refl)
by_close f t r o n act.CommentIntoDocument h1 h2 h3 h4 h5 h6 h7 h8 h9 h10 h11 h12 h13 h14 h15 h16 h17 h18 h19 h = absurd (h11 refl)
by_close f t r o n act.CommentIntoFirst h1 h2 h3 h4 h5 h6 h7 h8 h9 h10 h11 h12 h13 h14 h15 h16 h17 h18 h19 h = absurd (h12 refl)
by_close f t r o n act.Replacement h1 h2 h3 h4 h5 h6 h7 h8 h9 h10 h11 h12 h13 h14 h15 h16 h17 h18 h19 h = absurd (h13 refl)
by_close f t r o n act.AppendPending h1 h2 h3 h4 h5 h6 h7 h8 h9 h10 h11 h12 h13 h14 h15 h16 h17 h18 h19 h = absurd (h14 refl)
by_close f t r o n act.AddMissingToFirst h1 h2 h3 h4 h5 h6 h7 h8 h9 h10 h11 h12 h13 h14 h15 h16 h17 h18 h19 h = absurd (h15 refl)
by_close f t r o n act.AddMissingToBody h1 h2 h3 h4 h5 h6 h7 h8 h9 h10 h11 h12 h13 h14 h15 h16 h17 h18 h19 h = absurd (h16 refl)
by_close f t r o n act.AppendToList h1 h2 h3 h4 h5 h6 h7 h8 h9 h10 h11 h12 h13 h14 h15 h16 h17 h18 h19 h = absurd (h17 refl)
by_close f t r o n act.PutDoctype h1 h2 h3 h4 h5 h6 h7 h8 h9 h10 h11 h12 h13 h14 h15 h16 h17 h18 h19 h = absurd (h18 refl)
by_close f t r o n act.QuirksOfDoctype h1 h2 h3 h4 h5 h6 h7 h8 h9 h10 h11 h12 h13 h14 h15 h16 h17 h18 h19 h = absurd (h19 refl)
by_close f t r o n _ h1 h2 h3 h4 h5 h6 h7 h8 h9 h10 h11 h12 h13 h14 h15 h16 h17 h18 h19 h = h

-- an act that gives away is none that doesn't
pub given : (a b : Act) → a ≡ b → gives_away b ≡ true → gives_away a ≡ false → ⊥
given a b is gives keeps = true≢false (sym gives ∙ (ap gives_away (sym is) ∙ keeps))

pub where_ok : {X : Type 0} (result : Result X Refusal) (P : Type 0) → P → OnOk result P
where_ok (Ok x) P p = p
where_ok (Err e) P p = tt

-- the token that an act leaves alone
pub left_alone : {X : Type 0} (result : Result X Refusal) (t : Token) → OnOk result (IsLeftOf t t)
left_alone result t = where_ok result (IsLeftOf t t) (left_whole t)

-- an act that is no test
pub by_no_test : (fostering : Bool) (t : Token) (result : Result Bool Refusal) (old new : Sight) (a : Act) → ((test : Test) (otherwise : ℕ) → a ≡ act.If test otherwise → ⊥) → ((test : Test) (otherwise : ℕ) → a ≡ act.Unless test otherwise → ⊥) → CarriesBy (unit_of result) old new (act_plan fostering t a) → Carried fostering t a result old new
by_no_test f t r o n (act.If test otherwise) h1 h2 h = absurd (h1 test otherwise refl)
by_no_test f t r o n (act.Unless test otherwise) h1 h2 h = absurd (h2 test otherwise refl)
by_no_test f t r o n _ h1 h2 h = h

-- where the act is the test b
pub by_test : (fostering : Bool) (t : Token) (result : Result Bool Refusal) (old new : Sight) (a b : Act) → a ≡ b → Carried fostering t b result old new → Carried fostering t a result old new
by_test fostering t result old new a b is h = let P : Act → Type 0 = λ x. Carried fostering t x result old new in subst P (sym is) h

-- what was refused
pub not_ok : {X : Type 0} (result : Result X Refusal) (refused : Refusal) (P : Type 0) → result ≡ Err refused → OnOk result P
not_ok {X} result refused P e = let Q : Result X Refusal → Type 0 = λ x. OnOk x P in subst Q (sym e) tt

pub not_carried : (result : Result Bool Refusal) (refused : Refusal) (old new : Sight) (plan : Option (Split → Plan Split)) → result ≡ Err refused → CarriesBy (Err refused) old new plan → CarriesBy (unit_of result) old new plan
not_carried result refused old new plan e h = let Q : Result Bool Refusal → Type 0 = λ x. CarriesBy (unit_of x) old new plan in subst Q (sym e) h

pub not_answered : (result : Result Bool Refusal) (refused : Refusal) (old new : Sight) (plan other : Split → Plan Bool) → result ≡ Err refused → Answers {X = Bool} (Err refused) old new plan → Answers {X = Bool} result old new other
not_answered result refused old new plan other e h = let Q : Result Bool Refusal → Type 0 = λ x. Answers {X = Bool} x old new other in subst Q (sym e) (by_refusal refused h)
  where
    by_refusal : (x : Refusal) → Answers {X = Bool} (Err x) old new plan → Answers {X = Bool} (Err x) old new other
    by_refusal NoMemory h = tt
    by_refusal (Crossed crossing) h = absurd h

-- an act that none of the fields stands for changes nothing
pub by_nothing : (s : Sight) (a : Act) → ((m : Mode) → a ≡ act.Switch m → ⊥) → (a ≡ act.KeepOriginal → ⊥) → (a ≡ act.ToOriginal → ⊥) → (a ≡ act.Reset → ⊥) → (a ≡ act.Marker → ⊥) → (a ≡ act.ClearToMarker → ⊥) → ((m : Mode) → a ≡ act.PushTemplateMode m → ⊥) → ((m : Mode) → a ≡ act.ReplaceTemplateMode m → ⊥) → (a ≡ act.PopTemplateMode → ⊥) → (a ≡ act.SkipLineFeed → ⊥) → (a ≡ act.FormPointer → ⊥) → (a ≡ act.HeadPointer → ⊥) → (a ≡ act.PushHead → ⊥) → (a ≡ act.TakeHeadOff → ⊥) → (a ≡ act.Quirks → ⊥) → (a ≡ act.EmptyPending → ⊥) → (a ≡ act.Flush → ⊥) → CarriesBy (Ok tt) s s (field_plan a)
by_nothing s (act.Switch m) h1 h2 h3 h4 h5 h6 h7 h8 h9 h10 h11 h12 h13 h14 h15 h16 h17 = absurd (h1 m refl)
by_nothing s act.KeepOriginal h1 h2 h3 h4 h5 h6 h7 h8 h9 h10 h11 h12 h13 h14 h15 h16 h17 = absurd (h2 refl)
by_nothing s act.ToOriginal h1 h2 h3 h4 h5 h6 h7 h8 h9 h10 h11 h12 h13 h14 h15 h16 h17 = absurd (h3 refl)
by_nothing s act.Reset h1 h2 h3 h4 h5 h6 h7 h8 h9 h10 h11 h12 h13 h14 h15 h16 h17 = absurd (h4 refl)
by_nothing s act.Marker h1 h2 h3 h4 h5 h6 h7 h8 h9 h10 h11 h12 h13 h14 h15 h16 h17 = absurd (h5 refl)
by_nothing s act.ClearToMarker h1 h2 h3 h4 h5 h6 h7 h8 h9 h10 h11 h12 h13 h14 h15 h16 h17 = absurd (h6 refl)
by_nothing s (act.PushTemplateMode m) h1 h2 h3 h4 h5 h6 h7 h8 h9 h10 h11 h12 h13 h14 h15 h16 h17 = absurd (h7 m refl)
by_nothing s (act.ReplaceTemplateMode m) h1 h2 h3 h4 h5 h6 h7 h8 h9 h10 h11 h12 h13 h14 h15 h16 h17 = absurd (h8 m refl)
by_nothing s act.PopTemplateMode h1 h2 h3 h4 h5 h6 h7 h8 h9 h10 h11 h12 h13 h14 h15 h16 h17 = absurd (h9 refl)
by_nothing s act.SkipLineFeed h1 h2 h3 h4 h5 h6 h7 h8 h9 h10 h11 h12 h13 h14 h15 h16 h17 = absurd (h10 refl)
by_nothing s act.FormPointer h1 h2 h3 h4 h5 h6 h7 h8 h9 h10 h11 h12 h13 h14 h15 h16 h17 = absurd (h11 refl)
by_nothing s act.HeadPointer h1 h2 h3 h4 h5 h6 h7 h8 h9 h10 h11 h12 h13 h14 h15 h16 h17 = absurd (h12 refl)
by_nothing s act.PushHead h1 h2 h3 h4 h5 h6 h7 h8 h9 h10 h11 h12 h13 h14 h15 h16 h17 = absurd (h13 refl)
by_nothing s act.TakeHeadOff h1 h2 h3 h4 h5 h6 h7 h8 h9 h10 h11 h12 h13 h14 h15 h16 h17 = absurd (h14 refl)
by_nothing s act.Quirks h1 h2 h3 h4 h5 h6 h7 h8 h9 h10 h11 h12 h13 h14 h15 h16 h17 = absurd (h15 refl)
by_nothing s act.EmptyPending h1 h2 h3 h4 h5 h6 h7 h8 h9 h10 h11 h12 h13 h14 h15 h16 h17 = absurd (h16 refl)
by_nothing s act.Flush h1 h2 h3 h4 h5 h6 h7 h8 h9 h10 h11 h12 h13 h14 h15 h16 h17 = absurd (h17 refl)
by_nothing s _ h1 h2 h3 h4 h5 h6 h7 h8 h9 h10 h11 h12 h13 h14 h15 h16 h17 = runs_gives s.heard s.split
