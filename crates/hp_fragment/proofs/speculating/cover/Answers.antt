use Rattle.std.proofs.Common.{Bool, List, ap, subst, sym, ◌∙◌}
use Rattle.hp_control.specs.declared.change.Change.{Change}
use Rattle.hp_control.specs.declared.edit.Edit.{Edit}
use Rattle.hp_control.specs.declared.question.Kept.{Kept}
use Rattle.hp_views.specs.Begins.{ended}
use Rattle.hp_pieces.specs.Guesses.{IsSound}
use Rattle.hp_fragment.specs.Guessing.{made_by}
use Rattle.hp_fragment.specs.Making.{AllComeTo}
use Rattle.hp_fragment.proofs.speculating.cover.Goals as goal

pub grown_guess-requires : goal.grown_guess-requires
grown_guess-requires g c = record {
  sound = λ grove outer comes.
      subst (λ (kept : List Kept). IsSound (made_by c.args.text.now c.args.covered kept c.into_change-change.result.0 grove outer)) (sym c.into_change-change.ensures.kept)
      (subst (λ (change : Change). IsSound (made_by c.args.text.now c.args.covered c.args.parsing.view.below.kept change grove outer)) (sym (c.into_change-change.ensures.change ∙ ap (λ (is_set : Bool). ended c.args.parsing.lexer.lex is_set c.args.parsing.view.change) c.is_some-is_set.ensures))
      (c.requires.sound c.into_splitting-splitting.result grove outer c.into_splitting-splitting.ensures
      (subst (λ (rest : List Edit). AllComeTo c.into_splitting-splitting.result rest grove outer) c.into_change-change.ensures.edits comes)));
}
