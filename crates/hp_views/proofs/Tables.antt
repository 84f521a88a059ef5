-- Whether a table stands below a select before a template does, by a walk whose place doesn't count.
use Rattle.std.specs.Prelude.{◌≡◌, ℕ, List}
use Rattle.std.proofs.Common.{subst, refl}
use Rattle.hp_elements.specs.declared.kinds.Kinds.{Kinds}
use Rattle.hp_control.specs.declared.element.OpenElement.{OpenElement}
use Rattle.hp_views.specs.declared.walks.Walk.{Walk}
use Rattle.hp_views.specs.declared.walks.Walk.TheVariants.{Found, Stopped, PastAll}
use Rattle.hp_views.specs.PlacePlans.{a_table, a_template}
use Rattle.hp_views.specs.StackPlans.{seen_on}
use Rattle.hp_views.specs.Walks.{walk_of, EndsAs}

ends_seen : (popped : ℕ) (goals stops : Kinds) (v w : Walk) → EndsAs v w → seen_on popped goals stops w ≡ seen_on popped goals stops v
ends_seen popped goals stops (Found k) (Found j) e = refl
ends_seen popped goals stops (Found k) Stopped e = absurd e
ends_seen popped goals stops (Found k) PastAll e = absurd e
ends_seen popped goals stops Stopped (Found j) e = absurd e
ends_seen popped goals stops Stopped Stopped e = refl
ends_seen popped goals stops Stopped PastAll e = absurd e
ends_seen popped goals stops PastAll (Found j) e = absurd e
ends_seen popped goals stops PastAll Stopped e = absurd e
ends_seen popped goals stops PastAll PastAll e = refl

pub table_seen : (popped : ℕ) (es : List OpenElement) (goals stops : Kinds) (w u : Walk) → goals ≡ a_table → stops ≡ a_template → w ≡ u → EndsAs (walk_of goals stops es) w
    → seen_on popped a_table a_template u ≡ seen_on popped a_table a_template (walk_of a_table a_template es)
table_seen popped es goals stops w u g s e ends =
    let P : Kinds → Type 0 = λ k. EndsAs (walk_of k stops es) w in
    let Q : Kinds → Type 0 = λ k. EndsAs (walk_of a_table k es) w in
    let R : Walk → Type 0 = λ x. EndsAs (walk_of a_table a_template es) x in
    ends_seen popped a_table a_template (walk_of a_table a_template es) u (subst R e (subst Q s (subst P g ends)))
