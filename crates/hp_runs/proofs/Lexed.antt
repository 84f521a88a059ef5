-- In the data state code points that are no markup are emitted one by one (13.2.5.1).
use Rattle.std.proofs.Common.{◌≡◌, ℕ, ◌+◌, List, [], ◌∷◌, false, refl, map}
use Rattle.std.specs.Prelude.{◌==◌}
use Rattle.std.specs.Char.{len_utf8}
use Rattle.hp_elements.specs.declared.token.Token.TheVariants.{EndOfInput}
use Rattle.hp_names.specs.References.{Reference}
use Rattle.hp_tokens.specs.Advancing.{Ends, tokens_of}
use Rattle.hp_tokens.specs.Moves.{Lexing, Emitted, needs_more, makes, move}
use Rattle.hp_tokens.specs.Rows.{character}
use Rattle.hp_tokens.specs.Runs.{Leads, here, onward}
use Rattle.hp_control.specs.States.{lex_start}
use Rattle.hp_lexer.specs.Table.{table}

-- the lexer in the data state, before the first start tag
abbrev pub at_data : ℕ → ℕ → List ℕ → Lexing
at_data place rested unread = record { machine = lex_start.machine; place = place; rested = rested; unread = unread }

-- code points that the data state emits as they stand
abbrev pub ArePlain : List ℕ → Type 0
ArePlain [] = Unit {0}
ArePlain (c ∷ cs) = ((c == 60) ≡ false) × ((c == 38) ≡ false) × ((c == 13) ≡ false) × ((c == 0) ≡ false) × ArePlain cs

plain-move : (names : List Reference) (place rested c : ℕ) (cs : List ℕ) → (c == 60) ≡ false → (c == 38) ≡ false → (c == 13) ≡ false
    → move (table names) (at_data place rested (c ∷ cs)) ≡ makes (at_data (place + len_utf8 c) (place + len_utf8 c) cs) (record { began = rested; token = character c } ∷ [])
plain-move names place rested c cs e f g = rw (g, f, e, g) refl

pub record PlainLeads (names : List Reference) (place rested : ℕ) (text : List ℕ) : Type 0 where
  pub place_after : ℕ
  pub rested_after : ℕ
  pub es : List Emitted
  pub leads : Leads (move (table names)) (at_data place rested text) es (at_data place_after rested_after [])
  pub tokens : tokens_of es ≡ map character text

pub plain-leads : (names : List Reference) (place rested : ℕ) (text : List ℕ) → ArePlain text → PlainLeads names place rested text
plain-leads names place rested [] h = record { place_after = place; rested_after = rested; es = []; leads = here; tokens = refl }
plain-leads names place rested (c ∷ cs) h =
    let rest : PlainLeads names (place + len_utf8 c) (place + len_utf8 c) cs = plain-leads names (place + len_utf8 c) (place + len_utf8 c) cs h.4 in
    record {
      place_after = rest.place_after;
      rested_after = rest.rested_after;
      es = record { began = rested; token = character c } ∷ rest.es;
      leads = onward (plain-move names place rested c cs h.0 h.1 h.2) rest.leads;
      tokens = cc (rest.tokens);
    }

pub plain-ends : (names : List Reference) (place rested : ℕ) → Ends (table names) (at_data place rested []) [] (EndOfInput ∷ [])
plain-ends names place rested = record {
  mid = at_data place rested [];
  first = [];
  rest = record { began = rested; token = EndOfInput } ∷ [];
  leads = here;
  ended = refl;
  appends = record { more = EndOfInput ∷ []; appended = refl; spelled = refl; runs = (tt, tt) };
}

pub plain-waits : (names : List Reference) (place rested : ℕ) → move (table names) (at_data place rested []) ≡ needs_more
plain-waits names place rested = refl
