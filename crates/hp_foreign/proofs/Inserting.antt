-- An element is inserted, and then popped where its tag was self-closing.
use Rattle.std.proofs.Common.{◌≡◌, Bool, Result, Ok, Err, subst}
use Rattle.std.specs.Result.{IsErrAnd}
use Rattle.hp_elements.specs.declared.sets.Namespace.{Namespace}
use Rattle.hp_elements.specs.declared.tag.Tag.{Tag}
use Rattle.hp_control.specs.declared.change.Refusal.{Refusal}
use Rattle.hp_control.specs.Foreign.{tag_in}
use Rattle.hp_control.specs.Plan.{Runs}
use Rattle.hp_views.specs.PlacePlans.{insert_plan}
use Rattle.hp_views.specs.View.{Sight, Carries}
use Rattle.hp_views.proofs.Carrying.{carries_failed, carries_next}
use Rattle.hp_foreign.specs.Plans.{insert_in_plan, pop_where_plan}

pub inserted : (result : Result (Unit {0}) Refusal) (old mid new : Sight) (space : Namespace) (fostering self_closing : Bool) (tag made : Tag) → made ≡ tag_in space tag → Runs old.heard mid.heard (insert_plan fostering made old.split) (Ok mid.split) → Carries result mid new (pop_where_plan self_closing) → Carries result old new (insert_in_plan space fostering self_closing tag)
inserted result old mid new space fostering self_closing tag made e run k =
    let P : Tag → Type 0 = λ t. Runs old.heard mid.heard (insert_plan fostering t old.split) (Ok mid.split) in
    carries_next result old mid new (insert_plan fostering (tag_in space tag)) (pop_where_plan self_closing) (subst P e run) k

pub not_inserted : (result : Result (Unit {0}) Refusal) (refusal : Refusal) (old new : Sight) (space : Namespace) (fostering self_closing : Bool) (tag made : Tag) → IsErrAnd result (λ e. e ≡ refusal) → made ≡ tag_in space tag → Carries (Err refusal) old new (insert_plan fostering made) → Carries result old new (insert_in_plan space fostering self_closing tag)
not_inserted result refusal old new space fostering self_closing tag made is e k =
    let T : Tag → Type 0 = λ t. Carries (Err refusal) old new (insert_plan fostering t) in
    carries_failed result refusal old new (insert_plan fostering (tag_in space tag)) (pop_where_plan self_closing) is (subst T e k)
