-- An act that reads neither text nor attributes does the same for the token that is left.
use Rattle.std.proofs.Common.{◌≡◌, ℕ, ◌+◌, Bool, true, false, refl, ap}
use Rattle.std.specs.Prelude.{not, ◌||◌, if◌then◌else◌}
use Rattle.hp_elements.specs.Names.{known_of}
use Rattle.hp_elements.specs.declared.act.Act.{Act}
use Rattle.hp_elements.specs.declared.act.Act.TheVariants as act
use Rattle.hp_elements.specs.declared.act.Test.{Test}
use Rattle.hp_elements.specs.declared.act.Test.TheVariants as test
use Rattle.hp_elements.specs.declared.act.Which.{Which}
use Rattle.hp_elements.specs.declared.act.Which.TheVariants.{Its, Named}
use Rattle.hp_elements.specs.declared.kinds.Kinds.TheVariants as kinds
use Rattle.hp_elements.specs.declared.token.Mode.{Mode}
use Rattle.hp_elements.specs.declared.token.Token.{Token}
use Rattle.hp_control.specs.Faithful.{Split}
use Rattle.hp_control.specs.Plan.{Plan, followed_by}
use Rattle.hp_adoption.specs.AdoptPlans.{adopt_plan}
use Rattle.hp_views.specs.ClosingPlans.{walk_plan}
use Rattle.hp_views.specs.StackPlans.{in_scope_plan, through_plan}
use Rattle.hp_foreign.specs.Plans.{names_plan, through_foreign_plan}
use Rattle.hp_model.specs.Tokens.{name_for}
use Rattle.hp_acts.specs.Plans.{act_plan, by_plan, implied_but_plan, test_plan}
use Rattle.hp_acts.specs.RowPlans.{Reached, Came, act_then, changed}
use Rattle.hp_acts.specs.Spending.{IsLeftOf, is_of_attributes, wants_whole}

name_stays : (t left : Token) → IsLeftOf t left → (which : Which) → name_for left which ≡ name_for t which
name_stays t left l Its = l.name
name_stays t left l (Named name) = refl

pub test_alike : (t left : Token) → IsLeftOf t left → (x : Test) → is_of_attributes x ≡ false → (v : Split) → test_plan left x v ≡ test_plan t x v
test_alike t left l (test.InScope scope which) h v = ap (λ name. in_scope_plan scope (kinds.Html name) v) (name_stays t left l which)
test_alike t left l test.NamesForeign h v = ap (λ name. names_plan name v) l.name
test_alike t left l test.TypeIsHidden h v = absurd (cc)
test_alike t left l test.HasFontAttribute h v = absurd (cc)
test_alike t left l _ h v = refl

pub act_alike : (fostering : Bool) (t left : Token) → IsLeftOf t left → (a : Act) → wants_whole a ≡ false → (v : Split) → by_plan (act_plan fostering left a) v ≡ by_plan (act_plan fostering t a) v
act_alike f t left l (act.Through which) h v = ap (λ name. through_plan (kinds.Html name) kinds.Nothing v) (name_stays t left l which)
act_alike f t left l act.ThroughForeign h v = ap (λ name. through_foreign_plan name v) l.name
act_alike f t left l (act.ImpliedExcept which) h v = ap (λ name. implied_but_plan (known_of name) v) (name_stays t left l which)
act_alike f t left l (act.Adopt which) h v = ap (λ name. adopt_plan f name v) (name_stays t left l which)
act_alike f t left l act.Walk h v = ap (λ name. walk_plan name v) l.name
act_alike f t left l act.Characters h v = absurd (cc)
act_alike f t left l act.Replacement h v = absurd (cc)
act_alike f t left l act.AppendPending h v = absurd (cc)
act_alike f t left l act.Comment h v = absurd (cc)
act_alike f t left l act.CommentIntoDocument h v = absurd (cc)
act_alike f t left l act.CommentIntoFirst h v = absurd (cc)
act_alike f t left l act.PutDoctype h v = absurd (cc)
act_alike f t left l act.QuirksOfDoctype h v = absurd (cc)
act_alike f t left l act.AddMissingToFirst h v = absurd (cc)
act_alike f t left l act.AddMissingToBody h v = absurd (cc)
act_alike f t left l act.Insert h v = absurd (cc)
act_alike f t left l act.InsertForeign h v = absurd (cc)
act_alike f t left l act.InsertAsCurrent h v = absurd (cc)
act_alike f t left l act.InsertHtml h v = absurd (cc)
act_alike f t left l act.AppendToList h v = absurd (cc)
act_alike f t left l _ h v = refl

-- the token that is left is the whole one, or one that gave something away
abbrev pub StillFits : Bool → Token → Token → Type 0
StillFits true t left = left ≡ t
StillFits false t left = IsLeftOf t left

-- go: the rest of the row
module _ (follow : Bool → Mode → Reached → Plan Came) (present : Reached → Plan Came) (fostering : Bool) (at : ℕ) (go : ℕ → Reached → Plan Came) (r : Reached) where
  abbrev then_from : Token → Act → Plan Came
  then_from t a = act_then follow present fostering t a at go r

  abbrev on_test : (Bool → ℕ) → Plan Bool → Plan Came
  on_test place plan = followed_by plan (λ holds. go (place holds) r)

  abbrev on_act : Plan Split → Plan Came
  on_act plan = followed_by plan (λ v. go (at + 1) (changed r v))

  left_alike : (t left : Token) → IsLeftOf t left → (a : Act) → wants_whole a ≡ false → then_from left a ≡ then_from t a
  left_alike t left l act.Done h = refl
  left_alike t left l act.Again h = absurd (cc)
  left_alike t left l (act.AgainAs name) h = absurd (cc)
  left_alike t left l (act.As m) h = absurd (cc)
  left_alike t left l (act.AsFostered m) h = absurd (cc)
  left_alike t left l act.AsPresent h = absurd (cc)
  left_alike t left l (act.If x otherwise) h = ap (on_test (λ holds. if holds then at + 1 else otherwise)) (test_alike t left l x h r.split)
  left_alike t left l (act.Unless x otherwise) h = ap (on_test (λ holds. if holds then otherwise else at + 1)) (test_alike t left l x h r.split)
  left_alike t left l act.Stop h = refl
  left_alike t left l (act.Lexer rest) h = refl
  left_alike t left l a h = ap on_act (act_alike fostering t left l a h r.split)

  -- an act that finds the token as it wants it does what it does for the whole one
  pub fitting_alike : (whole : Bool) (t left : Token) → StillFits whole t left → (a : Act) → (whole || not (wants_whole a)) ≡ true → then_from left a ≡ then_from t a
  fitting_alike true t left fits a h = ap (λ token. then_from token a) fits
  fitting_alike false t left fits a h = left_alike t left fits a (unwanted (wants_whole a) h)
    where
      unwanted : (b : Bool) → not b ≡ true → b ≡ false
      unwanted false e = refl
      unwanted true e = absurd (cc)
