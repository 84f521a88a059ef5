use Rattle.std.proofs.Common.{[], ◌∷◌, ◌++◌, List, ap, ◌∙◌, sym, subst}
use Rattle.hp_control.specs.declared.question.Kept.{Kept}
use Rattle.hp_control.specs.Guessing.{AreDistinct, IsIndexed, noted}
use Rattle.hp_control.specs.Plan.{is_asked}
use Rattle.hp_control.proofs.Once.{indexed_more, distinct_more}
use Rattle.hp_control.proofs.pairs.Pairs.add.Goals as goal

pub invariant_of-self-in-Ok : goal.invariant_of-self-in-Ok
invariant_of-self-in-Ok c =
    let old = c.self.inside in
    let put = c.in-Ok.ensures.ok ∙ ap (λ hash. noted old.places ++ hash ∷ []) c.requires.hash in
    let fresh = ap (λ kept. is_asked kept c.args.pair.question) c.self.view_is ∙ c.requires.new in
    let P : List Kept → Type 0 = λ kept. IsIndexed kept c.note.new.places × AreDistinct kept in
    subst P (sym c.in_default.ensures.ok) (
      indexed_more old.kept old.places c.note.new.places c.args.pair c.self.invariant.0 put,
      distinct_more old.kept c.args.pair c.self.invariant.1 fresh,
    )
