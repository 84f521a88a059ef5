use Rattle.std.proofs.Common.{List, ℕ, subst, sym}
use Rattle.hp_control.specs.declared.change.Change.{Change}
use Rattle.hp_pieces.specs.Guesses.{IsSound}
use Rattle.hp_fragment.specs.Guessing.{made_by}
use Rattle.hp_fragment.proofs.grown.grown_guess.Goals as goal

pub of_guess-requires : goal.of_guess-requires
of_guess-requires c =
    let grove = c.in-Ok-grown.grove in
    let outer = c.in-Ok-grown.outer in
    record {
      sound =
          subst (λ (bytes : List ℕ). IsSound (made_by bytes c.args.covered c.args.kept c.in-Ok.change.value grove outer)) (sym c.as_bytes-text.ensures.value)
          (subst (λ (change : Change). IsSound (made_by c.args.text.now c.args.covered c.args.kept change grove outer)) (sym c.in-Ok.ensures.ok) (c.requires.sound grove outer c.in-Ok-grown.ensures));
    }
