-- How the present state of a chunk stands to the older state in which the chunk began, as long as nothing older is touched.
use Prim.Native.String.{String}
use Rattle.std.specs.Prelude.{◌≡◌, ℕ, ◌+◌, Bool, true, not, ◌&&◌, ◌||◌, if◌then◌else◌, nat_le, List, [], ◌∷◌, length, Option, Some, All, IfSome}
use Rattle.hp_elements.specs.Names.{is_among, words}
use Rattle.hp_elements.specs.declared.token.Mode.{Mode}
use Rattle.hp_elements.specs.declared.token.Mode.TheVariants as mode
use Rattle.hp_control.specs.declared.element.OpenElement.{OpenElement}
use Rattle.hp_control.specs.declared.element.FormattingEntry.{FormattingEntry}
use Rattle.hp_control.specs.States.{ControlState, IsNew, entry_ids, is_html}
use Rattle.hp_model.specs.Finding.{is_empty}

-- the elements that pass a test, in order
abbrev pub kept : (OpenElement → Bool) → List OpenElement → List OpenElement
kept test [] = []
kept test (e ∷ es) = if test e then e ∷ kept test es else kept test es

-- made since s
abbrev pub is_new : ControlState → OpenElement → Bool
is_new s e = nat_le s.next e.id

-- the new elements that pass a test, the top first
abbrev pub own : ControlState → (OpenElement → Bool) → List OpenElement → List OpenElement
own s test es = kept (λ e. is_new s e && test e) es

-- an HTML element of one of these names
abbrev pub is_a : String → OpenElement → Bool
is_a names e = is_html e && is_among (words names) e.name

-- the elements that are kept track of
abbrev pub is_key : OpenElement → Bool
is_key = is_a "template td th select frameset html"

-- one that passes the test comes before any template, or there is neither
abbrev pub comes : (OpenElement → Bool) → List OpenElement → Bool
comes test [] = true
comes test (e ∷ es) = test e || (not (is_a "template" e) && comes test es)

abbrev pub no_new : ControlState → (OpenElement → Bool) → List OpenElement → Bool
no_new s test es = is_empty (own s test es)

-- what is known of the new elements in a mode
abbrev pub fits_mode : ControlState → Mode → List OpenElement → Bool
fits_mode s mode.InCell es = comes (is_a "td th") (own s (is_a "template td th") es) && no_new s (is_a "frameset") es
fits_mode s mode.InSelect es = comes (is_a "select") (own s (is_a "template select") es) && no_new s (is_a "frameset") es
fits_mode s mode.InSelectInTable es = comes (is_a "select") (own s (is_a "template select") es) && no_new s (is_a "frameset") es
fits_mode s mode.InFrameset es = no_new s (is_a "template") es
fits_mode s mode.AfterFrameset es = no_new s (is_a "template") es
fits_mode s mode.AfterAfterFrameset es = no_new s (is_a "template") es
fits_mode s _ es = no_new s (is_a "frameset") es

-- text and in table text are between two tokens of another mode
abbrev pub back_mode : Mode → Option Mode → Mode
back_mode mode.Text (Some m) = m
back_mode mode.InTableText (Some m) = m
back_mode m original = m

abbrev pub is_plain_top : ControlState → List OpenElement → Bool
is_plain_top s [] = true
is_plain_top s (e ∷ es) = not (is_new s e && is_key e)

-- in text the current node is plain
abbrev pub top_fits : ControlState → Mode → List OpenElement → Bool
top_fits s mode.Text es = is_plain_top s es
top_fits s _ es = true

-- no entry of the list is the element's, and the form pointer doesn't point at it
pub record IsFree (list : List FormattingEntry) (form : Option ℕ) (e : OpenElement) : Type 0 where
  pub unlisted : IsNew e.id (entry_ids list)
  pub no_form : IfSome form (λ id. id ≡ e.id → ⊥)

-- There is no new html element; a new template mode for each new template, and none beside; no new template or cell is a formatting
-- element or the form; and what each mode asks of the new elements.
pub record GoesOn (s c : ControlState) : Type 0 where
  pub html : own s (is_a "html") c.stack ≡ []
  pub together : length c.templates ≡ length s.templates + length (own s (is_a "template") c.stack)
  pub free : All (IsFree c.formatting c.form) (own s (is_a "template td th") c.stack)
  pub mode : fits_mode s (back_mode c.mode c.original) c.stack ≡ true
  pub top : top_fits s c.mode c.stack ≡ true
