use Rattle.std.proofs.Common.{◌≡◌, List, ℕ, true, arith, sym, ap, ◌∙◌, Some, subst}
use Rattle.hp_names.specs.Order as order
use Rattle.hp_names.specs.declared.names.Found.{Found}
use Rattle.hp_names.proofs.ClosedLemmas.{rows-closed, true_from_not}
use Rattle.hp_names.proofs.search.usual.Goals as goal

pub returns : goal.returns
returns c =
    let fits : order.begins c.args.text.now c.name_of.result.now ≡ true = sym c.begins.ensures ∙ c.if-not-begins.false in
    let P : List ℕ → Type 0 = λ x. order.begins c.args.text.now x ≡ true in
    rows-closed c.args.bytes.now c.args.rows.now c.args.text.now c.usual_place-at.result _ c.requires (omega arith)
    (subst P c.name_of.ensures fits)
    (sym (ap (λ (x : Found). x.ends_with_semicolon) c.found_of-found.ensures) ∙ true_from_not _ c.if-not-found.false)
    ∙ ap (λ (x : Found). Some x) (sym c.found_of-found.ensures)
