use Rattle.std.proofs.Common.{ap, refl, subst, sym, ◌∙◌}
use Rattle.hp_fragment.proofs.Covering.{crossed-at, refused-crossed, whole-reaches}
use Rattle.hp_fragment.proofs.Ended.{is-splitting, split-empty}
use Rattle.hp_fragment.proofs.Guesses.{covered-said, covered-sound}
use Rattle.hp_fragment.specs.Guessing.{IsReached}
use Rattle.hp_fragment.specs.Making.{SplitBy}
use Rattle.hp_fragment.specs.declared.sink.Naming.TheVariants.{Numbers}
use Rattle.hp_fragment.proofs.speculating.read_front.Goals as goal

pub cover-requires : goal.cover-requires
cover-requires g c = record {
  splits = is-splitting c.read_to_end.new.reader.sink Numbers (c.in-Ok-read_to_end.ensures.reads.kind ∙ ap SplitBy c.in-Ok.ensures.naming);
  sound = λ splitting grove outer is comes.
      covered-sound _ _ c.requires.begun c.in-Ok-read_to_end.ensures.reads _ refl c.comes_on.ensures.text_begins c.view_begins.ensures.guessed c.answers_tell.ensures.once c.guesses_grow.ensures.below c.args.text.now c.args.front.now c.utf8.text c.utf8.front c.requires.front c.of_str.ensures
      (λ s. split-empty c.in-Ok.splitting Numbers s c.in-Ok.ensures.growing c.in-Ok.ensures.naming) splitting grove outer is comes;
}

pub returns-in_ok-guessed-in-Ok-read_to_end : goal.returns-in_ok-guessed-in-Ok-read_to_end
returns-in_ok-guessed-in-Ok-read_to_end g c =
    subst (IsReached (g.P.Predictor.says c.args.view.below.predictor) c.args.text.now c.args.front.now) (sym c.in_ok-guessed-in-Ok-read_to_end.ensures) (
      covered-said _ _ c.requires.begun c.in-Ok-read_to_end.ensures.reads _ refl c.args.text.now _ refl refl refl,
      whole-reaches c.readings_alike.ensures.alike c.answers_are_right.ensures.start c.comes_on.ensures.text_begins c.view_begins.ensures.guessed c.answers_tell.ensures.once _ _ c.requires.begun c.in-Ok-read_to_end.ensures.reads c.args.front.now _ refl c.utf8.front c.of_str.ensures
          (λ s. split-empty c.in-Ok.splitting Numbers s c.in-Ok.ensures.growing c.in-Ok.ensures.naming),
    )

pub returns-in-Err-Crossed : goal.returns-in-Err-Crossed
returns-in-Err-Crossed g c =
    crossed-at c.readings_alike.ensures.alike c.answers_are_right.ensures.start c.comes_on.ensures.text_begins c.view_begins.ensures.guessed c.firsts.ensures.inside _ _ c.requires.begun
    (refused-crossed c.in-Err-Crossed.field-0 c.in-Err-Crossed.field-0-0 _ c.in-Err-Crossed.field-0-is c.in-Err-Crossed.ensures.crossed) c.args.front.now _ c.saturating_sub-at.ensures c.utf8.front c.of_str.ensures
    (λ s. split-empty c.in-Ok.splitting Numbers s c.in-Ok.ensures.growing c.in-Ok.ensures.naming)
