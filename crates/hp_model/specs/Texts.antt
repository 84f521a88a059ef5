-- A text that goes into the current node at once, and that it comes to its code points, one by one (13.2.6.4.7, 13.2.6.4.8).
use Rattle.std.specs.Prelude.{◌≡◌, ℕ, ◌==◌, ◌||◌, Bool, true, false, if◌then◌else◌, List, [], ◌∷◌, map, None}
use Rattle.std.specs.List.{list_all}
use Rattle.hp_elements.specs.declared.token.CharClass.{CharClass}
use Rattle.hp_elements.specs.declared.token.CharClass.TheVariants.{White, Other}
use Rattle.hp_elements.specs.declared.token.Mode.{Mode}
use Rattle.hp_elements.specs.declared.token.Mode.TheVariants as mode
use Rattle.hp_elements.specs.declared.token.Token.{Token}
use Rattle.hp_elements.specs.declared.token.Token.TheVariants as token
use Rattle.hp_tokens.specs.Plain.{none_of}
use Rattle.hp_tokens.specs.Rows.{character}
use Rattle.hp_control.specs.declared.element.OpenElement.{OpenElement}
use Rattle.hp_control.specs.Outcome.{touches_any}
use Rattle.hp_control.specs.States.{ControlState, IsValid, is_html}
use Rattle.hp_model.specs.AtOnce.{LeaveSame, handle_at_once}
use Rattle.hp_model.specs.Handling.{handle}
use Rattle.hp_model.specs.Turns.{Handled, joined, left_by, unchanged}

-- the modes in which text goes into the current node
abbrev pub is_text_mode : Mode → Bool
is_text_mode mode.Text = true
is_text_mode mode.InBody = true
is_text_mode mode.InCell = true
is_text_mode mode.InCaption = true
is_text_mode _ = false

-- the current node is an HTML element
abbrev pub has_html_top : List OpenElement → Bool
has_html_top [] = false
has_html_top (e ∷ es) = is_html e

-- A text goes into the current node as it comes: white space and other characters, but not U+0000.
pub record TakesText (c : ControlState) : Type 0 where
  pub skips : c.skip_lf ≡ false
  pub place : is_text_mode c.mode ≡ true
  pub top : has_html_top c.stack ≡ true

-- white space, as the rules of tree construction have it
abbrev pub is_white : ℕ → Bool
is_white c = c == 0x9 || c == 0xA || c == 0xC || c == 0xD || c == 0x20

-- a text as one run: of white space where it is white space alone
abbrev pub white_or_other : Bool → CharClass
white_or_other white = if white then White else Other

abbrev pub run_of : Bool → List ℕ → Token
run_of white text = token.Characters (white_or_other white) text

abbrev pub as_run : List ℕ → Token
as_run text = run_of (list_all is_white text) text

-- tokens one after the other, each at once
abbrev pub each_at_once : ControlState → List Token → Handled
each_at_once c [] = unchanged c
each_at_once c (t ∷ ts) = let h = handle_at_once c t in joined h (each_at_once (left_by h) ts)

-- the run is handled as the tokens are, one by one; it tells the lexer nothing, and leaves a valid state
pub record ComesTo (c : ControlState) (ts : List Token) (run : Token) : Type 0 where
  pub same : LeaveSame (each_at_once c ts) (handle_at_once c run)
  pub quiet : (handle_at_once c run).switch ≡ None
  pub valid : IsValid (left_by (handle_at_once c run))

-- such a text without U+0000, where it is not empty, is its code points, one by one, each of its own class
abbrev pub TextsAtOnce : Type 0
TextsAtOnce = (x : ℕ) (xs : List ℕ) (c : ControlState) → IsValid c → TakesText c → list_all (none_of (0 ∷ [])) (x ∷ xs) ≡ true
    → ComesTo c (map character (x ∷ xs)) (as_run (x ∷ xs))

-- of such a text only the first code point touches something older
abbrev pub TextsTouchFirst : Type 0
TextsTouchFirst = (x : ℕ) (xs : List ℕ) (s c : ControlState) → IsValid c → TakesText c → list_all (none_of (0 ∷ [])) (x ∷ xs) ≡ true
    → touches_any s (handle_at_once c (as_run (x ∷ xs))).outcome ≡ touches_any s (handle c (character x)).outcome
