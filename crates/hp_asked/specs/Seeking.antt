-- What the run over a chunk's text asks of the state that stood before it (13.2).
use Rattle.std.specs.Prelude.{◌≡◌, ◌⊎◌, Bool, true, if◌then◌else◌, List, [], ◌∷◌, ◌++◌, ℕ, map, Some, Ok}
use Rattle.std.specs.List.{list_all}
use Rattle.std.specs.Option.{unwrap_or}
use Rattle.hp_elements.specs.declared.kinds.Kinds.TheVariants as kinds
use Rattle.hp_elements.specs.declared.token.Token.{Token}
use Rattle.hp_elements.specs.declared.token.Token.TheVariants as token
use Rattle.hp_names.specs.References.{Reference}
use Rattle.hp_tokens.specs.Advancing.{singles, tokens_of}
use Rattle.hp_tokens.specs.Moves.{Emitted, Lexing, asks_cdata, asks_last_tag, move}
use Rattle.hp_tokens.specs.Plain.{none_of}
use Rattle.hp_tokens.specs.Rows.{character}
use Rattle.hp_control.specs.declared.question.FactKind.TheVariants.{LastTag}
use Rattle.hp_control.specs.declared.question.Question.{Question}
use Rattle.hp_control.specs.declared.question.Question.TheVariants as ask
use Rattle.hp_control.specs.Faithful.{Split}
use Rattle.hp_control.specs.Plan.{Plan, asked_by, end_by, followed_by, gives}
use Rattle.hp_control.specs.States.{ControlState}
use Rattle.hp_control.specs.Truth.{answer_of}
use Rattle.hp_lexer.specs.Table.{table}
use Rattle.hp_views.specs.SecondPlans.{foreign_now_plan}
use Rattle.hp_views.specs.StackPlans.{current_is_plan}
use Rattle.hp_model.specs.Runs.{switched}
use Rattle.hp_model.specs.Texts.{as_run}
use Rattle.hp_acts.specs.HandlePlans.{handle_plan}
use Rattle.hp_acts.specs.Plain.{may_take_text, takes_text}
use Rattle.hp_acts.specs.RowPlans.{Reached}
use Rattle.hp_runs.specs.Closing.{LeadsOn}

-- where a chunk's lexer stands, and what the chunk has changed so far
pub record Seeker : Type 0 where
  pub lexing : Lexing
  pub split : Split

abbrev pub at : Lexing → Seeker → Seeker
at l k = record k { lexing = l }

-- behind a token, where the lexer is switched if that calls for it
abbrev pub led_to : Reached → Seeker → Seeker
led_to r k = record { lexing = switched r.handled.switch k.lexing; split = r.split }

-- tokens that are handled one behind the other
abbrev pub seek : List Token → Seeker → Plan Seeker
seek [] k = gives k
seek (t ∷ ts) k = followed_by (handle_plan t k.split) (λ r. seek ts (led_to r k))

-- none of these is a run of no characters
abbrev pub AreFilled : List Token → Type 0
AreFilled [] = Unit {0}
AreFilled (token.Characters class [] ∷ ts) = ⊥
AreFilled (_ ∷ ts) = AreFilled ts

-- a text goes into the current node as it comes: an own one, or one of s that is HTML
abbrev pub GoesWhole : ControlState → Split → Type 0
GoesWhole s v = (takes_text v ≡ true) ⊎ ((may_take_text v ≡ true) × (end_by (answer_of s) (current_is_plan kinds.AnyHtml v) ≡ Ok true))

-- Tokens that spell what was emitted: characters of one class as they stand or in runs, and a text without U+0000 as one run where it
-- goes whole.
abbrev pub Spells : ControlState → Split → List Token → List Emitted → Type 0
Spells s v ts es =
    (AreFilled ts × (singles ts ≡ tokens_of es))
    ⊎ ((text : List ℕ) × GoesWhole s v × (list_all (none_of (0 ∷ [])) text ≡ true) × (ts ≡ as_run text ∷ []) × AreFilled ts × (tokens_of es ≡ map character text))

-- the last start tag's name before the text
abbrev pub name_before : ControlState → List ℕ
name_before s = unwrap_or s.lex.machine.last_tag []

abbrev pub named_last : List ℕ → Lexing → Lexing
named_last name l = record l { machine = record l.machine { last_tag = Some name } }

-- What the run over s asks from there on, up to some token, and with all that this asks, whether it touches something older or not. It
-- goes on only behind tokens that touch nothing older.
pub data Asks (names : List Reference) (s : ControlState) : Seeker → List Question → Type 0 where
  nothing : {k : Seeker} → Asks names s k []
  tokens : {k : Seeker} {l : Lexing} {es : List Emitted} {ts : List Token} → LeadsOn (move (table names)) k.lexing es l → Spells s k.split ts es
      → Asks names s k (asked_by (answer_of s) (seek ts (at l k)))
  onward : {k m : Seeker} {l : Lexing} {es : List Emitted} {ts : List Token} {qs : List Question} → LeadsOn (move (table names)) k.lexing es l → Spells s k.split ts es
      → end_by (answer_of s) (seek ts (at l k)) ≡ Ok m → Asks names s m qs → Asks names s k (asked_by (answer_of s) (seek ts (at l k)) ++ qs)
  section : {k : Seeker} {l foreign html : Lexing} {is_foreign : Bool} {qs : List Question} → LeadsOn (move (table names)) k.lexing [] l → move (table names) l ≡ asks_cdata foreign html
      → end_by (answer_of s) (foreign_now_plan k.split) ≡ Ok is_foreign → Asks names s (at (if is_foreign then foreign else html) k) qs
      → Asks names s k (asked_by (answer_of s) (foreign_now_plan k.split) ++ qs)
  name : {k : Seeker} {l : Lexing} {qs : List Question} → LeadsOn (move (table names)) k.lexing [] l → move (table names) l ≡ asks_last_tag
      → Asks names s (at (named_last (name_before s) l) k) qs → Asks names s k (ask.Fact LastTag ∷ qs)
