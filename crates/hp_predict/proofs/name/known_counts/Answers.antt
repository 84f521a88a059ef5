use Rattle.std.proofs.Common.{◌≡◌, ◌==◌, ◌||◌, Bool, sym, ap, ◌∙◌}
use Rattle.std.specs.Prelude.{not}
use Rattle.hp_elements.specs.KnownNames as k
use Rattle.hp_elements.specs.Names.{text_of, index_of, words, is_among}
use Rattle.hp_predict.proofs.NameLemmas.{is_outer, outer_is, or_left, or_right}
use Rattle.hp_predict.proofs.name.known_counts.Goals.{then-eq, else-eq, then-eq-2, else-eq-2}
use Rattle.hp_predict.proofs.name.known_counts.Goals as goal

pub returns-then-is_in : goal.returns-then-is_in
returns-then-is_in c = ap (λ (b : Bool). not (b || is_among (words "html head body") (text_of c.args.known))) (sym c.if-is_in.true ∙ c.is_in.ensures)

pub returns : goal.returns
returns c =
    let two : c.if-eq.value ≡ (index_of c.args.known == index_of k.Html || index_of c.args.known == index_of k.Head) =
    elim c.if-eq.branch [ then-eq w ↦ or_left _ _ _ _ w.value-is w.if-eq.true c.eq.ensures | else-eq w ↦ or_right _ _ _ _ _ w.value-is w.eq-else-eq.ensures w.if-eq.false c.eq.ensures ] in
    let three : c.if-eq-2.result ≡ is_outer c.args.known =
    elim c.if-eq-2.branch [ then-eq-2 w ↦ or_left _ _ _ _ w.result-is w.if-eq-2.true two | else-eq-2 w ↦ or_right _ _ _ _ _ w.result-is w.eq-else-eq-2.ensures w.if-eq-2.false two ] in
    ap not (three ∙ outer_is c.args.known) ∙ ap (λ (b : Bool). not (b || is_among (words "html head body") (text_of c.args.known))) (sym c.if-is_in.false ∙ c.is_in.ensures)
