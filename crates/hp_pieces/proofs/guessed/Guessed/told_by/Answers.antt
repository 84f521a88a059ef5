use Rattle.std.proofs.Common.{subst, sym}
use Rattle.hp_pieces.specs.By.{IsBy}
use Rattle.hp_pieces.specs.Guesses.{Guessed}
use Rattle.hp_pieces.proofs.guessed.Guessed.told_by.Goals as goal

pub invariant_of-result : goal.invariant_of-result
invariant_of-result c =
    let sound = c.self.invariant.0 in
    let is = subst (λ (f : Guessed). IsBy f c.args.by) (sym c.self.view_is) c.requires.by in
    (record { utf8 = sound.utf8; within = sound.within; boundary = sound.boundary; sound = sound.sound }, record { text = is.text; said = record { more = is.said.more; first = is.said.first; said = is.said.said }; reaches = is.reaches })
