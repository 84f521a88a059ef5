-- The handling of a run of characters at once, and that it comes to the handling of its code points, one by one.
use Rattle.std.specs.Prelude.{◌≡◌, ℕ, ◌==◌, ◌&&◌, Bool, false, if◌then◌else◌, List, [], ◌∷◌, ◌++◌, Option, None, Some}
use Rattle.std.specs.List.{list_any}
use Rattle.hp_elements.specs.declared.token.CharClass.{CharClass}
use Rattle.hp_elements.specs.declared.token.Token.{Token}
use Rattle.hp_elements.specs.declared.token.Token.TheVariants as token
use Rattle.hp_tokens.specs.Advancing.{AreRuns, IsRun, singles, tokens_of}
use Rattle.hp_tokens.specs.Moves.{Emitted}
use Rattle.hp_control.specs.Outcome.{Touch, touches_any}
use Rattle.hp_control.specs.States.{ControlState, IsValid}
use Rattle.hp_groves.specs.Joining.{JoinTexts}
use Rattle.hp_model.specs.Handling.{all_turns, handle, settled}
use Rattle.hp_model.specs.Runs.{AreRead, Built, Parser, built, told}
use Rattle.hp_model.specs.Tokens.{is_line_feed}
use Rattle.hp_model.specs.Turns.{Handled, left_by, unchanged}
use Rattle.hp_model.specs.Whole.{IsRead}

-- what is left of a run behind its first code point, where something is
abbrev pub after_first : Token → Option Token
after_first (token.Characters class (x ∷ y ∷ text)) = Some (token.Characters class (y ∷ text))
after_first _ = None

abbrev pub handle_rest : ControlState → Option Token → Handled
handle_rest c None = unchanged c
handle_rest c (Some t) = all_turns c t

-- a token at once; where a line feed is to be skipped, a run without the one that it begins with
abbrev pub handle_at_once : ControlState → Token → Handled
handle_at_once c t = if c.skip_lf && is_line_feed t then handle_rest (settled c) (after_first t) else all_turns (settled c) t

-- the same is left, the same was touched, and the edits are the same but for how texts are joined
pub record LeaveSame (h k : Handled) : Type 0 where
  pub control : left_by h ≡ left_by k
  pub switch : h.switch ≡ k.switch
  pub stopped : h.stopped ≡ k.stopped
  pub edits : JoinTexts h.outcome.edits k.outcome.edits
  pub touched : (test : Touch → Bool) → list_any test h.outcome.touched ≡ list_any test k.outcome.touched
  pub spared : h.outcome.spared ≡ k.outcome.spared

-- a run of characters at once is its code points, one by one
abbrev pub RunsAtOnce : Type 0
RunsAtOnce = (t : Token) (c : ControlState) → IsRead t → IsRun t → IsValid c → LeaveSame (handle c t) (handle_at_once c t)

-- tokens one after the other, each at once; a switch takes effect behind its token
abbrev pub built_at_once : Parser → List Token → Built
built_at_once p [] = record { parser = p; edits = [] }
built_at_once p (t ∷ ts) =
    let h = handle_at_once p.control t in
    let rest = built_at_once (told p h) ts in
    record { parser = rest.parser; edits = h.outcome.edits ++ rest.edits }

-- what was emitted, taken as runs, each of which is handled at once
abbrev pub BuiltAtOnce : Type 0
BuiltAtOnce = (es : List Emitted) (ts : List Token) (p : Parser) → AreRead es → AreRuns ts → singles ts ≡ tokens_of es → IsValid p.control
    → ((built p es).parser ≡ (built_at_once p ts).parser) × JoinTexts (built p es).edits (built_at_once p ts).edits

-- of a run of characters only the first code point touches something older, unless it is a line feed that is dropped
abbrev pub RunsTouchFirst : Type 0
RunsTouchFirst = (class : CharClass) (x : ℕ) (xs : List ℕ) (s c : ControlState) → IsValid c → (c.skip_lf && (x == 0xA)) ≡ false
    → touches_any s (handle c (token.Characters class (x ∷ xs))).outcome ≡ touches_any s (handle c (token.Characters class (x ∷ []))).outcome
