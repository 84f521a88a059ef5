-- Where a walk down the stack ended; and a walk down the list finds an entry of the id where there is one.
use Rattle.std.proofs.Common.{◌≡◌, ℕ, List, ap, sym, ◌∙◌}
use Rattle.hp_elements.specs.declared.kinds.Kinds.{Kinds}
use Rattle.hp_control.specs.declared.element.FormattingEntry.{FormattingEntry}
use Rattle.hp_control.specs.declared.element.OpenElement.{OpenElement}
use Rattle.hp_control.specs.Walks.{has_entry}
use Rattle.hp_views.specs.declared.walks.Walk.{Walk}
use Rattle.hp_views.specs.OwnIds.{has_found}
use Rattle.hp_views.specs.Walks.{id_entry_walk, is_found, walk_of}

-- the walk ended so, seen with the kinds that were meant
pub walk_told : (goals stops g s : Kinds) (es : List OpenElement) (w u : Walk) → goals ≡ g → stops ≡ s → w ≡ u → w ≡ walk_of goals stops es → u ≡ walk_of g s es
walk_told goals stops g s es w u e f at is = sym at ∙ (is ∙ (ap (λ k. walk_of k stops es) e ∙ ap (λ k. walk_of g k es) f))

pub entry_found : (id : ℕ) (es : List FormattingEntry) (w : Walk) → w ≡ id_entry_walk id es → is_found w ≡ has_entry id es
entry_found id es w e = ap is_found e ∙ sym (has_found id es)
