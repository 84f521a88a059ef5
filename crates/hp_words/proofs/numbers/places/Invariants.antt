use Rattle.std.proofs.Common.{◌≡◌, map, Some}
use Rattle.hp_words.specs.Numbers.{all_present, number}
use Rattle.hp_words.proofs.numbers.places.Given as goal

abbrev pub invariant-loop-piece : goal.invariant-loop-piece
invariant-loop-piece l = all_present (map (number 0 4294967295) (map (λ piece. piece.now) l.yielded)) ≡ Some l.places.items
