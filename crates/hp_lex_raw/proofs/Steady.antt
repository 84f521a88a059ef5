-- A move that is made stays made when more text follows.
use Rattle.std.proofs.Common.{ℕ, List, ◌++◌, Bool, true, false, cond, refl, Some}
use Rattle.hp_tokens.specs.declared.rows.Reads.{Reads}
use Rattle.hp_tokens.specs.declared.rows.Reads.TheVariants.{Consume, Again, End}
use Rattle.hp_tokens.specs.Rows.{Row}
use Rattle.hp_tokens.specs.Moves.{Lexing, Move, asks_last_tag, needs_more, read_as, after_row}
use Rattle.hp_tokens.specs.Runs.{followed_by, Stays, IsSteady}
use Rattle.hp_lex_raw.specs.Rows.{has_row, row}
use Rattle.hp_lex_raw.specs.Raw.{asks, raw_rules}

row_stays : (r : Row) (l : Lexing) (c : ℕ) (cs text : List ℕ) (x : Reads)
    → Stays (after_row r l c cs x) (after_row r (followed_by l text) c (cs ++ text) x) text
row_stays r l c cs text Consume = refl
row_stays r l c cs text Again = refl
row_stays r l c cs text End = tt

either_stays : (text : List ℕ) (here asked : Bool) (x y : Move) → Stays x y text
    → Stays (cond here (cond asked asks_last_tag x) needs_more) (cond here (cond asked asks_last_tag y) needs_more) text
either_stays text true true x y h = refl
either_stays text true false x y h = h
either_stays text false asked x y h = tt

pub raw_steady : IsSteady raw_rules
raw_steady = record {
  stays = λ l c cs text.
      either_stays text (has_row l.machine.state) (asks l.machine c) _ _
      (row_stays (row l.machine (Some (read_as c))) l c cs text (row l.machine (Some (read_as c))).reads);
}
