-- What a parser asks is what the run asks, so that right answers stay right.
use Rattle.std.proofs.Common.{◌≡◌, ℕ, ◌<◌, List, [], ◌∷◌, map, Bool, true, false, length, inl, inr, refl, ap, ◌∙◌, sym, subst, append-nil, arith, Some}
use Rattle.std.specs.Prelude.{Ok, if◌then◌else◌}
use Rattle.std.specs.List.{list_all}
use Rattle.std.proofs.lemmas.Bool.{and_parts}
use Rattle.hp_elements.specs.declared.kinds.Kinds.TheVariants as kinds
use Rattle.hp_elements.specs.declared.token.CharClass.{CharClass}
use Rattle.hp_elements.specs.declared.token.CharClass.TheVariants.{White}
use Rattle.hp_elements.specs.declared.token.Token.{Token}
use Rattle.hp_elements.specs.declared.token.Token.TheVariants.{Characters}
use Rattle.hp_names.specs.BuiltIn.{built_in}
use Rattle.hp_names.specs.References.{Reference}
use Rattle.hp_tokens.specs.Advancing.{single}
use Rattle.hp_tokens.specs.Moves.{Emitted, Lexing, asks_cdata, asks_last_tag, move}
use Rattle.hp_tokens.specs.Reading.{Unread}
use Rattle.hp_tokens.specs.Rows.{character, is_blank}
use Rattle.hp_control.specs.declared.question.Answer.{Answer}
use Rattle.hp_control.specs.declared.question.Question.{Question}
use Rattle.hp_control.specs.Agree.{AllTrue}
use Rattle.hp_control.specs.Faithful.{Split}
use Rattle.hp_control.specs.Plan.{Heard, Runs, asked_by, end_by, noting}
use Rattle.hp_control.specs.States.{ControlState}
use Rattle.hp_lexer.specs.declared.lexer.Asked.{Asked}
use Rattle.hp_lexer.specs.declared.lexer.Asked.TheVariants as asked
use Rattle.hp_lexer.specs.declared.lexer.Lexer.{Lexer}
use Rattle.hp_lexer.specs.declared.lexer.Step.TheVariants as steps
use Rattle.hp_lexer.specs.Places.{told}
use Rattle.hp_lexer.specs.Standing.{IsBatch, PlainStepped, Reaches, ReachesCdata, Stepped, TagStepped, stands, stands_answered}
use Rattle.hp_lexer.specs.Table.{table}
use Rattle.hp_acts.specs.Plain.{may_take_text}
use Rattle.hp_asked.specs.Laws.{RightBeforeText, RightName, RightSection, RightSilence, RightTokens, SectionLeads, SilenceLeads, TagLeads, TextLeads, TokensLead}
use Rattle.hp_asked.specs.Right.{RightFrom}
use Rattle.hp_asked.specs.Seeking.{AreFilled, GoesWhole, Spells, at, named_last, name_before, seek}
use Rattle.hp_model.specs.Texts.{as_run, is_white, white_or_other}
use Rattle.hp_older.specs.Laws.{LastTagTold}
use Rattle.hp_runs.proofs.AtOnce.{blank_white}
use Rattle.hp_runs.specs.Closing.{LeadsOn, last}
use Rattle.hp_views.specs.Asking.{ask_last_tag}
use Rattle.hp_views.specs.SecondPlans.{foreign_now_plan}
use Rattle.hp_views.specs.StackPlans.{current_is_plan}
use Rattle.hp_fragment.proofs.Unedited.{ended-in, right-same}
use Rattle.hp_fragment.specs.Reading.{AreRight, AsksRightly, Handled, IsAtText, IsReady, Stage, Touched, seeker_of}

-- the lexer has come so far in the text, and nothing else is done
abbrev pub lexed : Stage → Lexer → Unread → Stage
lexed p l u = record p { lexer = l; input = u }

-- the run's moves lead there, and these tokens spell what they emit, where the answers are right
pub record IsLed (old : Stage) (l : Lexer) (u : Unread) (tokens : List Token) : Type 0 where
  pub answered : l.asked ≡ asked.Nothing
  pub es : List Emitted
  pub leads : LeadsOn (move (table built_in)) (stands old.lexer old.input) es (stands l u)
  pub spells : (s : ControlState) → AreRight s old → Spells s old.split tokens es

led-in : (old : Stage) (l : Lexer) (u : Unread) (es : List Emitted) → IsReady old → LeadsOn (move (table old.lexer.names)) (stands old.lexer old.input) es (stands l u) → LeadsOn (move (table built_in)) (stands old.lexer old.input) es (stands l u)
led-in old l u es ready leads = subst (λ (names : List Reference). LeadsOn (move (table names)) (stands old.lexer old.input) es (stands l u)) ready.names leads

-- a run of characters isn't empty
run-filled : (class : CharClass) (text : List ℕ) → 0 < length text → AreFilled (Characters class text ∷ [])
run-filled class [] long = absurd (omega (arith, long))
run-filled class (x ∷ xs) long = tt

pub tokens-led : TokensLead → (old : Stage) (l : Lexer) (u : Unread) (began : ℕ) (tokens : List Token) → IsReady old → Stepped old.lexer old.input l u (steps.Tokens began tokens) → IsBatch old.lexer.names (stands old.lexer old.input) (stands l u) tokens l.rested → IsLed old l u tokens
tokens-led law old l u began tokens ready stepped batch =
    let led = law old.lexer l old.input u began tokens stepped batch in
    record { answered = stepped.2; es = led.0; leads = led-in old l u led.0 ready led.1; spells = λ s right. inl (led.2, led.3) }

pub tag-led : TagLeads → (old : Stage) (l : Lexer) (u : Unread) (tag : Token) → IsReady old → TagStepped old.lexer old.input l u (Some tag) → IsLed old l u (tag ∷ [])
tag-led law old l u tag ready stepped =
    let led = law old.lexer l old.input u tag stepped in
    record { answered = stepped.0.2; es = led.0; leads = led-in old l u led.0 ready led.1; spells = λ s right. inl (led.2, led.3) }

pub text-led : TextLeads → (old : Stage) (l : Lexer) (u : Unread) (text : List ℕ) → IsReady old → PlainStepped old.lexer old.input l u text → ((s : ControlState) → AreRight s old → GoesWhole s old.split) → IsLed old l u (as_run text ∷ [])
text-led law old l u text ready plain whole =
    let led = law old.lexer l old.input u text plain in
    record {
      answered = plain.stepped.2;
      es = led.0;
      leads = led-in old l u led.0 ready led.1;
      spells = λ s right. inr (text, whole s right, plain.no_nul, refl, run-filled (white_or_other (list_all is_white text)) text plain.long, led.2);
    }

-- white space as one run
white-single : (text : List ℕ) → list_all is_blank text ≡ true → single (Characters White text) ≡ map character text
white-single [] blank = refl
white-single (x ∷ xs) blank =
    let both = and_parts (is_blank x) (list_all is_blank xs) blank in
    ap (λ (class : CharClass). Characters class (x ∷ []) ∷ single (Characters White xs)) (sym (blank_white x both.0)) ∙ ap (λ (ts : List Token). character x ∷ ts) (white-single xs both.1)

pub blanks-led : TextLeads → (old : Stage) (l : Lexer) (u : Unread) (text : List ℕ) → IsReady old → PlainStepped old.lexer old.input l u text → list_all is_blank text ≡ true → IsLed old l u (Characters White text ∷ [])
blanks-led law old l u text ready plain blank =
    let led = law old.lexer l old.input u text plain in
    record {
      answered = plain.stepped.2;
      es = led.0;
      leads = led-in old l u led.0 ready led.1;
      spells = λ s right. inl (run-filled White text plain.long, append-nil (single (Characters White text)) ∙ (white-single text blank ∙ sym led.2));
    }

-- what is said stays the same
still-right : (s : ControlState) (old new : Stage) (qs : List Question) → new.heard ≡ noting old.heard qs → RightFrom built_in old.heard.says s (seeker_of new) → AreRight s new
still-right s old new qs noted right = subst (λ (says : Question → Answer). RightFrom built_in says s (seeker_of new)) (sym (ap (λ (h : Heard). h.says) noted)) right

module _ (law : RightTokens) where
  -- the tokens were handled
  pub handled-rightly : (old new : Stage) (l : Lexer) (u : Unread) (tokens : List Token) → IsLed old l u tokens → (h : Handled (lexed old l u) new tokens) → AsksRightly old new h.asked
  handled-rightly old new l u tokens led h s right =
      let sought = h.sought led.answered in
      let there = ended-in (end_by old.heard.says (seek tokens (at (stands l u) (seeker_of old)))) (seeker_of new) sought.ends in
      let on = law built_in old.heard.says s (seeker_of old) (stands l u) led.es tokens led.leads (led.spells s right) right in
      (subst (AllTrue s old.heard.says) (sym sought.asks) on.0, still-right s old new h.asked h.noted (right-same built_in old.heard.says s there.0 (seeker_of new) there.2 (on.1 there.0 there.1)))

  -- one of them crosses
  pub touched-right : (old new : Stage) (l : Lexer) (u : Unread) (tokens : List Token) → IsLed old l u tokens → (h : Touched (lexed old l u) new tokens) → (s : ControlState) → AreRight s old → AllTrue s old.heard.says h.asked
  touched-right old new l u tokens led h s right =
      subst (AllTrue s old.heard.says) (sym (h.sought led.answered).1.asks) (law built_in old.heard.says s (seeker_of old) (stands l u) led.es tokens led.leads (led.spells s right) right).0

-- nothing was asked
pub nothing-asked : (p : Stage) → AsksRightly p p []
nothing-asked p s right = (tt, right)

pub silence-rightly : RightSilence → SilenceLeads → (old : Stage) (l : Lexer) (u : Unread) → IsReady old → Reaches old.lexer old.input l u [] false → AsksRightly old (lexed old l u) []
silence-rightly law leads old l u ready reached s right = (tt, law built_in old.heard.says s (seeker_of old) (stands l u) (led-in old l u [] ready (leads old.lexer l old.input u reached)) right)

-- before a character it is right to ask whether the older current node is HTML
pub html-right : RightBeforeText → (s : ControlState) (old : Stage) → IsAtText (stands old.lexer old.input) → may_take_text old.split ≡ true → AreRight s old → AllTrue s old.heard.says (asked_by old.heard.says (current_is_plan kinds.AnyHtml old.split))
html-right law s old at_text may right = law built_in old.heard.says s (seeker_of old) at_text.next at_text.emitted at_text.code_point may (last at_text.makes_it) at_text.is_it right

pub html-rightly : RightBeforeText → (old : Stage) (h : Heard) (v : Split) (b : Bool) → IsAtText (stands old.lexer old.input) → may_take_text old.split ≡ true → Runs old.heard h (current_is_plan kinds.AnyHtml old.split) (Ok b) → v ≡ old.split
    → AsksRightly old (record old { heard = h; split = v }) (asked_by old.heard.says (current_is_plan kinds.AnyHtml old.split))
html-rightly law old h v b at_text may runs split s right = (
  html-right law s old at_text may right,
  still-right s old (record old { heard = h; split = v }) (asked_by old.heard.says (current_is_plan kinds.AnyHtml old.split)) runs.noted
      (subst (λ (x : Split). RightFrom built_in old.heard.says s (record { lexing = stands old.lexer old.input; split = x })) (sym split) right),
)

-- the question after `<![CDATA[`
answered-so : (foreign : Bool) (l : Lexer) (u : Unread) → (if foreign then stands_answered true l u else stands_answered false l u) ≡ stands_answered foreign l u
answered-so true l u = refl
answered-so false l u = refl

pub section-rightly : RightSection → SectionLeads → (old new : Stage) (l : Lexer) (u : Unread) (foreign : Bool) → IsReady old → ReachesCdata old.lexer old.input l u → Runs old.heard new.heard (foreign_now_plan old.split) (Ok foreign)
    → new.split ≡ old.split → new.lexer ≡ record l { asked = asked.CdataAnswered foreign } → new.input ≡ u → AsksRightly old new (asked_by old.heard.says (foreign_now_plan old.split))
section-rightly law leads old new l u foreign ready reached runs split lexer input s right =
    let led = leads old.lexer l old.input u reached in
    let k : Lexing = led.0 in
    let in_section : Lexing = stands_answered true l u in
    let in_comment : Lexing = stands_answered false l u in
    let on = law built_in old.heard.says s (seeker_of old) k in_section in_comment foreign (subst (λ (names : List Reference). LeadsOn (move (table names)) (stands old.lexer old.input) [] k) ready.names led.1)
    (subst (λ (names : List Reference). move (table names) k ≡ asks_cdata in_section in_comment) ready.names led.2) runs.ends right in
    let there : at (if foreign then in_section else in_comment) (seeker_of old) ≡ seeker_of new =
    ap (λ (x : Lexing). at x (seeker_of old)) (answered-so foreign l u ∙ sym (ap (λ (x : Lexer). stands x new.input) lexer ∙ ap (stands (record l { asked = asked.CdataAnswered foreign })) input))
    ∙ ap (λ (v : Split). at (stands new.lexer new.input) (record (seeker_of old) { split = v })) (sym split) in
    (on.0, still-right s old new (asked_by old.heard.says (foreign_now_plan old.split)) runs.noted (subst (RightFrom built_in old.heard.says s) there on.1))

-- the last start tag's name, told to the lexer
told-stands : (l : Lexer) (u : Unread) (name : List ℕ) → l.asked ≡ asked.LastTag → stands (told name l) u ≡ named_last name (stands l u)
told-stands l u name waits = subst (λ (a : Asked). stands (told name l) u ≡ named_last name (stands (record l { asked = a }) u)) (sym waits) refl

pub name-rightly : RightName → SilenceLeads → LastTagTold → (old new : Stage) (l : Lexer) (u : Unread) (name : List ℕ) → IsReady old → Stepped old.lexer old.input l u steps.AskLastTag → Runs old.heard new.heard ask_last_tag (Ok name)
    → new.split ≡ old.split → new.lexer ≡ told name l → new.input ≡ u → AsksRightly old new (asked_by old.heard.says ask_last_tag)
name-rightly law leads found old new l u name ready stepped runs split lexer input s right =
    let on = law built_in old.heard.says s (seeker_of old) (stands l u) (led-in old l u [] ready (leads old.lexer l old.input u stepped.0))
    (subst (λ (names : List Reference). move (table names) (stands l u) ≡ asks_last_tag) ready.names stepped.1) right in
    let own : name ≡ name_before s = found s old.heard new.heard name runs on.0 in
    let there : at (named_last (name_before s) (stands l u)) (seeker_of old) ≡ seeker_of new =
    ap (λ (n : List ℕ). at (named_last n (stands l u)) (seeker_of old)) (sym own)
    ∙ (ap (λ (x : Lexing). at x (seeker_of old)) (sym (told-stands l u name stepped.2) ∙ sym (ap (λ (x : Lexer). stands x new.input) lexer ∙ ap (stands (told name l)) input))
    ∙ ap (λ (v : Split). at (stands new.lexer new.input) (record (seeker_of old) { split = v })) (sym split)) in
    (on.0, still-right s old new (asked_by old.heard.says ask_last_tag) runs.noted (subst (RightFrom built_in old.heard.says s) there on.1))
