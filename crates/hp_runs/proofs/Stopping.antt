-- Where a token touches something older, the run over the whole text comes to the first that does.
use Rattle.std.proofs.Common.{◌≡◌, ℕ, ◌-◌, ◌^◌, List, [], ◌∷◌, map, Bool, true, false, not, ◌⊎◌, inl, inr, refl, ap, ◌∙◌, sym, subst, append-nil, arith}
use Rattle.std.specs.Prelude.{◌&&◌, ◌==◌}
use Rattle.std.specs.List.{list_all}
use Rattle.std.proofs.lemmas.Bool.{and_parts, eqb-true}
use Rattle.hp_elements.specs.declared.token.CharClass.{CharClass}
use Rattle.hp_elements.specs.declared.token.CharClass.TheVariants.{White}
use Rattle.hp_elements.specs.declared.token.Token.{Token}
use Rattle.hp_elements.specs.declared.token.Token.TheVariants as token
use Rattle.hp_names.specs.References.{Reference}
use Rattle.hp_tokens.specs.Advancing.{AreRuns, Began, IsRunText, single, singles, tokens_of}
use Rattle.hp_tokens.specs.Groups.{AllBegan}
use Rattle.hp_tokens.specs.Moves.{Emitted, Lexing, makes, move}
use Rattle.hp_tokens.specs.Reading.{Unread}
use Rattle.hp_tokens.specs.Rows.{character, is_blank}
use Rattle.hp_tokens.specs.Runs.{Leads}
use Rattle.hp_control.specs.declared.edit.Edit.{Edit}
use Rattle.hp_control.specs.Outcome.{is_older, touches_any}
use Rattle.hp_control.specs.States.{ControlState, IsValid}
use Rattle.hp_lexer.specs.declared.lexer.Lexer.{Lexer}
use Rattle.hp_lexer.specs.declared.lexer.Step.TheVariants as steps
use Rattle.hp_lexer.specs.Standing.{IsBatch, Stepped, stands}
use Rattle.hp_lexer.specs.Table.{table}
use Rattle.hp_model.proofs.AtOnce.{characters_at_once, first-touches, runs_at_once}
use Rattle.hp_model.proofs.Texts.{texts-touch-first}
use Rattle.hp_model.specs.AtOnce.{handle_at_once}
use Rattle.hp_model.specs.Handling.{handle}
use Rattle.hp_model.specs.Runs.{Parser}
use Rattle.hp_model.specs.Turns.{left_by}
use Rattle.hp_runs.specs.Closing.{AreCharacters, LeadsOn, last}
use Rattle.hp_runs.specs.Coming.{BlanksStop, HasCome, TagStops, TextStops, TokensStop, untouched_at_once}
use Rattle.hp_runs.specs.Tokens.{AllRead}
use Rattle.hp_runs.specs.Touching.{TouchesAt, TouchesFrom, touching_here, untouched}
use Rattle.hp_runs.proofs.AtOnce.{blank_white, characters-single, untouched-singles}
use Rattle.hp_runs.proofs.Batches.{at}
use Rattle.hp_runs.proofs.ClosingRows.{characters-alone}
use Rattle.hp_runs.proofs.Following.{led-touches}
use Rattle.hp_runs.proofs.Groups.{Led, batch-led, characters-led, led-behind, run-alone}
use Rattle.hp_runs.proofs.Own.{from-touching, own-join, touch_found, touches-began, touching-from}
use Rattle.hp_runs.proofs.Stepping.{stepped-read}

-- the first of some tokens touches something older
first_is : (e : Emitted) (es : List Emitted) (t : Token) (ts : List Token) → tokens_of (e ∷ es) ≡ t ∷ ts → e.token ≡ t
first_is e es t ts h = cc

pub head-touches : (s c : ControlState) (es : List Emitted) (t : Token) (ts : List Token) (place : ℕ) → tokens_of es ≡ t ∷ ts → Began es place → touches_any s (handle c t).outcome ≡ true → TouchesAt s c es place
head-touches s c [] t ts place h b u = absurd (cc)
head-touches s c (e ∷ es) t ts place h b u =
    let yes : touches_any s (handle c e.token).outcome ≡ true = ap (λ (x : Token). touches_any s (handle c x).outcome) (first_is e es t ts h) ∙ u in
    subst (λ (x : Bool). touching_here x (place ≡ e.began) (TouchesAt s (left_by (handle c e.token)) es place)) (sym yes) (sym b)

-- of a run the first code point does
pub run-first : (s c : ControlState) (class : CharClass) (x : ℕ) (xs : List ℕ) → IsValid c → IsRunText (x ∷ xs) → touches_any s (handle c (token.Characters class (x ∷ xs))).outcome ≡ true
    → touches_any s (handle c (token.Characters class (x ∷ []))).outcome ≡ true
run-first s c class x xs v run u = by (c.skip_lf && (x == 10)) refl
  where
    by : (b : Bool) → (c.skip_lf && (x == 10)) ≡ b → touches_any s (handle c (token.Characters class (x ∷ []))).outcome ≡ true
    by true e = subst (λ (ys : List ℕ). touches_any s (handle c (token.Characters class (x ∷ ys))).outcome ≡ true) (run (eqb-true x 10 (and_parts c.skip_lf (x == 10) e).1)) u
    by false e = sym (first-touches class x xs s c v e) ∙ u

not-false : (b : Bool) → (not b && true) ≡ false → b ≡ true
not-false true h = refl
not-false false h = cc

module _ (names : List Reference) (name : List ℕ) (s : ControlState) (from : Parser) where
  abbrev Come : Lexing → ControlState → List Edit → Type 0
  Come l c es = HasCome names name 0 s from l c es

  led-stops : (l k : Lexing) (c : ControlState) (es : List Edit) (emitted : List Emitted) (p : ℕ) → Come l c es → LeadsOn (move (table names)) l emitted k → TouchesAt s c emitted p → TouchesFrom (table names) s from (p - 2 ^ 32)
  led-stops l k c es emitted p h leads t =
      let more : TouchesFrom (table names) s (at h.at c) (p - 2 ^ 32) = led-touches names name s h.at c p leads h.follows t in
      from-touching (table names) s (own-join (table names) s h.goes more.goes) (touching-from (table names) s more)

  module _ (c : ControlState) (es : List Edit) (old new : Lexer) (old_input new_input : Unread) (h : Come (stands old old_input) c es) (is : old.names ≡ names) (valid : IsValid c) where
    -- characters alone, of which the first touches something older
    characters-stop : (began : ℕ) (tokens : List Token) (t : Token) (ts : List Token) → Stepped old old_input new new_input (steps.Tokens began tokens) → singles tokens ≡ t ∷ ts → AreCharacters (singles tokens)
        → touches_any s (handle c t).outcome ≡ true → TouchesFrom (table names) s from (new.rested - 2 ^ 32)
    characters-stop began tokens t ts stepped front alone u =
        let a = stepped.0 in
        let spelled : singles tokens ≡ tokens_of a.es = ap singles a.appends.appended ∙ a.appends.spelled in
        led-stops (stands old old_input) (stands new new_input) c es a.es new.rested h
        (characters-led names (subst (λ (n : List Reference). Leads (move (table n)) (stands old old_input) a.es (stands new new_input)) is a.leads) (subst AreCharacters spelled alone))
        (head-touches s c a.es t ts new.rested (sym spelled ∙ front) a.began u)

    -- one run
    run-stops : (began : ℕ) (class : CharClass) (text : List ℕ) → Stepped old old_input new new_input (steps.Tokens began (token.Characters class text ∷ [])) → untouched_at_once s c (token.Characters class text ∷ []) ≡ false
        → TouchesFrom (table names) s from (new.rested - 2 ^ 32)
    run-stops began class [] stepped u = absurd ((stepped-read old old_input new new_input began (token.Characters class [] ∷ []) stepped).1.0)
    run-stops began class (x ∷ xs) stepped u =
        let run : Token = token.Characters class (x ∷ xs) in
        let read = stepped-read old old_input new new_input began (run ∷ []) stepped in
        let touched : touches_any s (handle c run).outcome ≡ true = (runs_at_once run c read.0.0 read.1.0 valid).touched (is_older s) ∙ not-false (touches_any s (handle_at_once c run).outcome) u in
        characters-stop began (run ∷ []) (token.Characters class (x ∷ [])) (single (token.Characters class xs)) stepped (append-nil (single run))
        (subst AreCharacters (sym (append-nil (single run))) (run-alone class (x ∷ xs))) (run-first s c class x xs valid read.1.0 touched)

    -- one group, or one run
    group-stops : (began : ℕ) (tokens : List Token) → Stepped old old_input new new_input (steps.Tokens began tokens) → Led names (stands old old_input) (stands new new_input) tokens new.rested
        → untouched_at_once s c tokens ≡ false → TouchesFrom (table names) s from (new.rested - 2 ^ 32)
    group-stops began tokens stepped led u = by led.one_place
      where
        read : AllRead tokens × AreRuns tokens
        read = stepped-read old old_input new new_input began tokens stepped

        found : (p : ℕ) × TouchesAt s c led.es p
        found = touch_found s c led.es (ap (untouched s c) (sym led.spelled) ∙ (untouched-singles s tokens c read.0 read.1 valid ∙ u))

        by : AllBegan led.es new.rested ⊎ ((class : CharClass) × (text : List ℕ) × (tokens ≡ token.Characters class text ∷ [])) → TouchesFrom (table names) s from (new.rested - 2 ^ 32)
        by (inl all) =
            led-stops (stands old old_input) (stands new new_input) c es led.es new.rested h led.leads
            (subst (TouchesAt s c led.es) (touches-began s c led.es found.0 new.rested all found.1) found.1)
        by (inr (class, text, one)) =
            run-stops began class text (subst (λ (ts : List Token). Stepped old old_input new new_input (steps.Tokens began ts)) one stepped) (ap (untouched_at_once s c) (sym one) ∙ u)

pub tokens-stop : TokensStop
tokens-stop names name s from c es old new old_input new_input began tokens h is valid stepped batch u =
    group-stops names name s from c es old new old_input new_input h is valid began tokens stepped
    (batch-led names (stands old old_input) (stands new new_input) tokens new.rested (subst (λ (n : List Reference). IsBatch n (stands old old_input) (stands new new_input) tokens new.rested) is batch)) u

pub tag-stops : TagStops
tag-stops names name s from c es old new old_input new_input tag h is valid (stepped, emits) u =
    let read = stepped-read old old_input new new_input _ (tag ∷ []) stepped in
    let e : Emitted = record { began = new.rested; token = tag } in
    let touched : touches_any s (handle c tag).outcome ≡ true = (runs_at_once tag c read.0.0 read.1.0 valid).touched (is_older s) ∙ not-false (touches_any s (handle_at_once c tag).outcome) u in
    let leads : LeadsOn (move (table names)) (stands old old_input) (e ∷ []) (stands new new_input) =
    led-behind names (subst (λ (n : List Reference). Leads (move (table n)) (stands old old_input) [] emits.mid) is emits.leads) tt
    (last (subst (λ (n : List Reference). move (table n) emits.mid ≡ makes (stands new new_input) (e ∷ [])) is emits.last)) in
    led-stops names name s from (stands old old_input) (stands new new_input) c es (e ∷ []) new.rested h leads (head-touches s c (e ∷ []) tag [] new.rested refl refl touched)

pub text-stops : TextStops
text-stops names name s from c es old new old_input new_input [] h is valid plain takes u = absurd (omega (arith, plain.long))
text-stops names name s from c es old new old_input new_input (x ∷ xs) h is valid plain takes u =
    characters-stop names name s from c es old new old_input new_input h is valid _ (map character (x ∷ xs)) (character x) (map character xs) plain.stepped (characters-single (x ∷ xs))
    (subst AreCharacters (sym (characters-single (x ∷ xs))) (characters-alone (x ∷ xs))) (sym (texts-touch-first x xs s c valid takes plain.no_nul) ∙ u)

pub blanks-stop : BlanksStop
blanks-stop names name s from c es old new old_input new_input [] h is valid plain blank skips u = absurd (omega (arith, plain.long))
blanks-stop names name s from c es old new old_input new_input (x ∷ xs) h is valid plain blank skips u =
    characters-stop names name s from c es old new old_input new_input h is valid _ (map character (x ∷ xs)) (character x) (map character xs) plain.stepped (characters-single (x ∷ xs))
    (subst AreCharacters (sym (characters-single (x ∷ xs))) (characters-alone (x ∷ xs))) touched
  where
    one : token.Characters White (x ∷ []) ≡ character x
    one = ap (λ class. token.Characters class (x ∷ [])) (sym (blank_white x (and_parts (is_blank x) (list_all is_blank xs) blank).0))

    touched : touches_any s (handle c (character x)).outcome ≡ true
    touched =
        sym (ap (λ (t : Token). touches_any s (handle c t).outcome) one)
        ∙ (sym (first-touches White x xs s c valid (ap (λ b. b && (x == 10)) skips))
        ∙ ((characters_at_once White x xs c valid).touched (is_older s) ∙ u))
