-- A move of the lexer, over any rules of its states.
use Rattle.std.specs.Prelude.{ℕ, ◌+◌, ◌==◌, ◌&&◌, false, List, [], ◌∷◌, map, drop, take, sum_by, Option, None, Some, if◌then◌else◌}
use Rattle.std.specs.Char.{len_utf8}
use Rattle.hp_elements.specs.declared.token.Token.{Token}
use Rattle.hp_tokens.specs.declared.machine.Machine.{Machine}
use Rattle.hp_tokens.specs.declared.rows.Reads.{Reads}
use Rattle.hp_tokens.specs.declared.rows.Reads.TheVariants.{Consume, Again, End}
use Rattle.hp_tokens.specs.States.{is_resting}
use Rattle.hp_tokens.specs.Rows.{Row}

-- Where the lexer stands: the machine, the place of the first unread code point, the last place where it rested,
-- and the unread code points.
pub record Lexing : Type 0 where
  pub machine : Machine
  pub place : ℕ
  pub rested : ℕ
  pub unread : List ℕ

-- it stands there; in a resting state it rests there
abbrev pub standing : Machine → ℕ → ℕ → List ℕ → Lexing
standing m place rested unread =
    record { machine = m; place = place; rested = if is_resting m.state then place else rested; unread = unread }

-- a token, and the place where it began
pub record Emitted : Type 0 where
  pub began : ℕ
  pub token : Token

abbrev pub all_began : ℕ → List Token → List Emitted
all_began place ts = map (λ t. record { began = place; token = t }) ts

-- More input is needed. It is asked whether there is an adjusted current node outside the HTML namespace: where the
-- lexer stands if there is, and if there is none. The last start tag's name is asked. A move is made to where the lexer
-- then stands, and emits these. The input ends, and these are emitted last.
pub data Move : Type 0 where
  needs_more : Move
  asks_cdata : Lexing → Lexing → Move
  asks_last_tag : Move
  makes : Lexing → List Emitted → Move
  ends : List Emitted → Move

-- The rules of the lexer's states: the move on a code point with others behind it, where more text may follow; and the
-- move on what is unread where the input ends behind it.
pub record Rules : Type 0 where
  pub on : Lexing → ℕ → List ℕ → Move
  pub last : Lexing → List ℕ → Move

-- each CR is read as LF
abbrev pub read_as : ℕ → ℕ
read_as c = if c == 13 then 10 else c

-- a row that reads the code point c, with cs behind it
abbrev pub after_row : Row → Lexing → ℕ → List ℕ → Reads → Move
after_row r l c cs Consume =
    makes (standing (record r.to { after_cr = c == 13 }) (l.place + len_utf8 c) l.rested cs) (all_began l.rested r.emits)
after_row r l c cs Again = makes (standing r.to l.place l.rested (c ∷ cs)) (all_began l.rested r.emits)
after_row r l c cs End = needs_more

abbrev pub row_move : (Machine → Option ℕ → Row) → Lexing → ℕ → List ℕ → Move
row_move row l c cs = let r = row l.machine (Some (read_as c)) in after_row r l c cs r.reads

-- a row that reads the end of input
abbrev pub after_end : Row → Lexing → Reads → Move
after_end r l Consume = needs_more
after_end r l Again = makes (standing r.to l.place l.rested []) (all_began l.rested r.emits)
after_end r l End = ends (all_began l.rested r.emits)

abbrev pub row_end : (Machine → Option ℕ → Row) → Lexing → List ℕ → Move
row_end row l [] = let r = row l.machine None in after_end r l r.reads
row_end row l (c ∷ cs) = row_move row l c cs

-- n code points are read at once
abbrev pub taking : ℕ → Machine → Lexing → Lexing
taking n m l = standing m (l.place + sum_by len_utf8 (take n l.unread)) l.rested (drop n l.unread)

-- the LF of a CR LF pair is dropped
abbrev pub after_pair : Lexing → List ℕ → Move
after_pair l cs = makes (standing (record l.machine { after_cr = false }) (l.place + 1) l.rested cs) []

-- A move. Where nothing is unread more input is needed, also in states that read no code point.
abbrev pub move_on : Rules → Lexing → List ℕ → Move
move_on rules l [] = needs_more
move_on rules l (c ∷ cs) = if l.machine.after_cr && c == 10 then after_pair l cs else rules.on l c cs

abbrev pub move : Rules → Lexing → Move
move rules l = move_on rules l l.unread

-- a move where the input ends behind what is unread
abbrev pub end_move_on : Rules → Lexing → List ℕ → Move
end_move_on rules l [] = rules.last l []
end_move_on rules l (c ∷ cs) = if l.machine.after_cr && c == 10 then after_pair l cs else rules.last l (c ∷ cs)

abbrev pub end_move : Rules → Lexing → Move
end_move rules l = end_move_on rules l l.unread
