use Rattle.std.proofs.Common.{ℕ, ◌≤◌, ◌^◌, []}
use Rattle.hp_tokens.specs.Ranks.{weight}
use Rattle.hp_tokens.specs.Advancing.{held, lexing, end_of_text, Leaves}
use Rattle.hp_lexer.specs.Table.{table}
use Rattle.hp_lexer.proofs.turns.make_all_end_moves.Given as goal

abbrev pub invariant-parts : goal.invariant-parts
invariant-parts l = (held l.state ≤ 2 ^ 32) × ((rested : ℕ) → Leaves (table l.names) (lexing l.fn.state end_of_text rested) [] l.state l.tokens)

abbrev pub decreases-parts : goal.decreases-parts
decreases-parts l = weight (lexing l.state end_of_text 0)
