use Rattle.std.proofs.Common.{◌≡◌, length, true}
use Rattle.hp_lex_tags.specs.Straight.{Reading, gathered, is_between, Stands}
use Rattle.hp_lex_tags.proofs.straight.read_attributes.Given as goal

abbrev pub invariant-attributes : goal.invariant-attributes
invariant-attributes l =
    (is_between l.now ≡ true) × ((front : Reading) → l.fn.attributes ≡ gathered front → Stands l.fn.names l.fn.state front l.fn.input l.now l.attributes l.input)

abbrev pub decreases-attributes : goal.decreases-attributes
decreases-attributes l = length l.input.text
