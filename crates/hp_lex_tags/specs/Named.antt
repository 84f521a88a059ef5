-- Named character references (13.2.5.73).
use Rattle.std.specs.Prelude.{ℕ, ◌==◌, ◌&&◌, ◌||◌, not, Bool, false, List, [], ◌∷◌, take, drop, Option, None, Some, if◌then◌else◌}
use Rattle.std.specs.Char.{is_ascii_alphanumeric}
use Rattle.hp_names.specs.References.{Reference}
use Rattle.hp_names.specs.Longest.{longest, is_open}
use Rattle.hp_names.specs.declared.names.Found.{Found}
use Rattle.hp_tokens.specs.declared.state.State.TheVariants.{AmbiguousAmpersand}
use Rattle.hp_tokens.specs.declared.machine.Machine.{Machine}
use Rattle.hp_tokens.specs.Reading.{first}
use Rattle.hp_tokens.specs.States.{enter, return_state, is_in_value}
use Rattle.hp_tokens.specs.Rows.{with_buffer, flushed, flushed_tokens}
use Rattle.hp_tokens.specs.Moves.{Lexing, Move, needs_more, makes, taking, all_began}
use Rattle.hp_lex_tags.specs.Letters.{ampersand, equals}

-- a name without a semicolon, in a value, with an equals sign or a letter or digit behind it, is no reference
abbrev pub goes_on : Option ℕ → Bool
goes_on None = false
goes_on (Some c) = c == equals || is_ascii_alphanumeric c

abbrev pub is_no_reference : Found → Machine → Option ℕ → Bool
is_no_reference f m behind = (is_in_value m.return_to && not f.ends_with_semicolon) && goes_on behind

-- what the name stands for
abbrev pub second_value : Option ℕ → List ℕ
second_value None = []
second_value (Some c) = c ∷ []

abbrev pub value : Found → List ℕ
value f = f.first ∷ second_value f.second

-- the buffer: what the name stands for, or the ampersand and the name
abbrev pub read_buffer : Found → Bool → List ℕ → List ℕ
read_buffer f kept name = if kept then ampersand ∷ name else value f

abbrev pub with_found : Found → Machine → List ℕ → Machine
with_found f m unread = with_buffer (read_buffer f (is_no_reference f m (first (drop f.length unread))) (take f.length unread)) m

abbrev pub unfound : Machine → Machine
unfound m = enter AmbiguousAmpersand (flushed m)

abbrev pub gone_back : Machine → Machine
gone_back m = enter (return_state m.return_to) (flushed m)

abbrev pub reference_move : Option Found → Lexing → Move
reference_move None l = makes (taking 0 (unfound l.machine) l) (all_began l.rested (flushed_tokens l.machine))
reference_move (Some f) l =
    let m = with_found f l.machine l.unread in
    makes (taking f.length (gone_back m) l) (all_began l.rested (flushed_tokens m))

-- more is needed where what is unread is the front of a longer name, or a name without a semicolon
abbrev pub named_move : List Reference → Lexing → Move
named_move names l = if is_open names l.unread then needs_more else reference_move (longest names l.unread) l

-- where the input ends behind what is unread
abbrev pub named_end : List Reference → Lexing → Move
named_end names l = reference_move (longest names l.unread) l
