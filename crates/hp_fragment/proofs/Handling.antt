-- Tokens that are handled over whatever is below, one behind the other.
use Rattle.std.proofs.Common.{◌≡◌, ℕ, List, [], ◌∷◌, ◌++◌, Bool, true, false, refl, ap, ◌∙◌, sym, subst, append-nil, append_assoc, Option, None}
use Rattle.std.specs.Prelude.{not, ◌&&◌, ◌||◌, Result, Ok, Err, IfErr, IsErrAnd}
use Rattle.std.specs.List.{list_all, list_any}
use Rattle.std.proofs.lemmas.Bool.{and_from, and_parts}
use Rattle.hp_elements.specs.declared.kinds.Kinds.TheVariants as kinds
use Rattle.hp_elements.specs.declared.token.CharClass.{CharClass}
use Rattle.hp_elements.specs.declared.token.Rest.{Rest}
use Rattle.hp_elements.specs.declared.token.Token.{Token}
use Rattle.hp_elements.specs.declared.token.Token.TheVariants.{Characters}
use Rattle.hp_control.specs.declared.change.Refusal.{Refusal}
use Rattle.hp_control.specs.declared.change.Refusal.TheVariants as refusal
use Rattle.hp_control.specs.declared.edit.Edit.{Edit}
use Rattle.hp_control.specs.declared.question.Answer.{Answer}
use Rattle.hp_control.specs.declared.question.Crossing.{Crossing}
use Rattle.hp_control.specs.declared.question.Question.{Question}
use Rattle.hp_control.specs.Faithful.{Split, state_over}
use Rattle.hp_control.specs.Outcome.{Outcome, Touch, is_older, is_touch, same_crossing, touches, touches_any}
use Rattle.hp_control.specs.Plan.{Heard, Runs, asked_by, noting}
use Rattle.hp_control.specs.States.{ControlState, lex_start}
use Rattle.hp_lexer.specs.declared.lexer.Lexer.{Lexer}
use Rattle.hp_lexer.specs.Standing.{SwitchesFall, stands}
use Rattle.hp_model.specs.Apart.{AtOnceApart, relexed, relexed_state}
use Rattle.hp_asked.specs.Seeking.{Seeker}
use Rattle.hp_model.specs.AtOnce.{handle_at_once}
use Rattle.hp_model.specs.Runs.{switched}
use Rattle.hp_model.specs.Texts.{as_run, is_white, white_or_other}
use Rattle.hp_model.specs.Turns.{Handled as Meant, left_by}
use Rattle.hp_acts.specs.declared.turns.Handled.{Handled as Told}
use Rattle.hp_acts.specs.HandlePlans.{handle_plan}
use Rattle.hp_acts.specs.Handling.{Handles, HandlesBelow}
use Rattle.hp_acts.specs.Plain.{may_take_text}
use Rattle.hp_older.proofs.Truly.{true-front}
use Rattle.hp_older.specs.Laws.{IsDoneOver, StayUnedited, TextsTakenBelow, TokensHandled}
use Rattle.hp_older.specs.Over.{IsOver}
use Rattle.hp_older.specs.Tokens.{MayAllCome}
use Rattle.hp_views.specs.StackPlans.{current_is_plan}
use Rattle.hp_views.specs.View.{Sight}
use Rattle.hp_runs.proofs.Batches.{left-append, made-append}
use Rattle.hp_runs.proofs.Quiet.{at_once-quiet}
use Rattle.hp_runs.specs.Coming.{untouched_at_once}
use Rattle.hp_runs.specs.Handling.{Handler, left_after, lexer_after, made_after, turned}
use Rattle.hp_fragment.proofs.Amounting.{amounts-more}
use Rattle.hp_fragment.proofs.Asking.{noted-none, noted-then, same-says, true-then}
use Rattle.hp_fragment.proofs.Quiet.{below-quiet}
use Rattle.hp_fragment.proofs.Refusing.{refused-so}
use Rattle.hp_fragment.proofs.Seeking.{one-sought, seeks-before, seeks-none, seeks-one, seeks-then, turned-stands}
use Rattle.hp_fragment.proofs.Turning.{none-turned, turned-once, turned-then}
use Rattle.hp_fragment.specs.Making.{Amounts, SinkKind, kind_of}
use Rattle.hp_fragment.specs.Reading.{Handled, IfCrossed, IsHandled, IsTurned, Seeks, Stage, TextHandled, TextTouched, Touched, TouchedBelow, control_at, seeker_of}

abbrev sight_of : Stage → Sight
sight_of p = record { heard = p.heard; split = p.split }

and-false : (b : Bool) → (b && false) ≡ false
and-false true = refl
and-false false = refl

first-false : (b : Bool) → (b && true) ≡ false → b ≡ false
first-false true h = cc
first-false false h = refl

-- what is touched by a crossing is touched
older-so : (c o t u : Bool) → ((c && o) || t) ≡ true → (t ≡ true → u ≡ true) → (o || u) ≡ true
older-so true true t u h next = refl
older-so true false t u h next = next h
older-so false true t u h next = refl
older-so false false t u h next = next h

any-older : (s : ControlState) (crossing : Crossing) (ts : List Touch) → list_any (is_touch s crossing) ts ≡ true → list_any (is_older s) ts ≡ true
any-older s crossing [] h = h
any-older s crossing (t ∷ ts) h = older-so (same_crossing crossing t.crossing) (is_older s t) (list_any (is_touch s crossing) ts) (list_any (is_older s) ts) h (any-older s crossing ts)

any-touches : (s : ControlState) (crossing : Crossing) (o : Outcome) → touches s crossing o ≡ true → touches_any s o ≡ true
any-touches s crossing o h = any-older s crossing o.touched h

lexer-append : (does : Handler) (c : ControlState) (xs ys : List Token) (l : Lexer) → lexer_after does c (xs ++ ys) l ≡ lexer_after does (left_after does c xs) ys (lexer_after does c xs l)
lexer-append does c [] ys l = refl
lexer-append does c (x ∷ xs) ys l = lexer-append does (left_by (does c x)) xs ys (turned (does c x).switch l)

untouched-append : (s c : ControlState) (xs ys : List Token) → untouched_at_once s c xs ≡ true → untouched_at_once s (left_after handle_at_once c xs) ys ≡ true → untouched_at_once s c (xs ++ ys) ≡ true
untouched-append s c [] ys h k = k
untouched-append s c (x ∷ xs) ys h k =
    let m : Meant = handle_at_once c x in
    let both = and_parts (not (touches_any s m.outcome)) (untouched_at_once s (left_by m) xs) h in
    and_from (not (touches_any s m.outcome)) (untouched_at_once s (left_by m) (xs ++ ys)) both.0 (untouched-append s (left_by m) xs ys both.1 k)

may-front : (s : ControlState) (xs ys : List Token) → MayAllCome s (xs ++ ys) → MayAllCome s xs
may-front s [] ys h = tt
may-front s (x ∷ xs) ys h = (h.0, may-front s xs ys h.1)

may-back : (s : ControlState) (xs ys : List Token) → MayAllCome s (xs ++ ys) → MayAllCome s ys
may-back s [] ys h = h
may-back s (x ∷ xs) ys h = may-back s xs ys h.1

pub none-handled : (p : Stage) → Handled p p []
none-handled p = record {
  input = refl;
  turned = none-turned p.lexer;
  asked = [];
  noted = noted-none p.heard;
  over = λ s all is may. record {
    over = is;
    unpaged = λ none. none;
    lexer = refl;
    control = refl;
    own = refl;
    amounts = λ kind es am. subst (Amounts kind p.sink s p.split.edits) (sym (append-nil es)) am;
  };
  sought = λ answered. seeks-none p.heard.says (seeker_of p);
  kind = refl;
}

both-handled : (s : ControlState) (a b c : Stage) (xs ys : List Token) → IsHandled s a b xs → IsHandled s b c ys → IsHandled s a c (xs ++ ys)
both-handled s a b c xs ys f g = record {
  over = g.over;
  unpaged = λ none. g.unpaged (f.unpaged none);
  lexer =
      g.lexer
      ∙ (ap (λ (d : ControlState). lexer_after handle_at_once d ys b.lexer) f.control
      ∙ (ap (lexer_after handle_at_once (left_after handle_at_once old xs) ys) f.lexer ∙ sym (lexer-append handle_at_once old xs ys a.lexer)));
  control = g.control ∙ (ap (λ (d : ControlState). left_after handle_at_once d ys) f.control ∙ sym (left-append handle_at_once old xs ys));
  own = untouched-append s old xs ys f.own (subst (λ (d : ControlState). untouched_at_once s d ys ≡ true) f.control g.own);
  amounts = λ kind es am. subst (Amounts kind c.sink s c.split.edits) (made es) (g.amounts kind (es ++ made_after handle_at_once old xs) (f.amounts kind es am));
}
  where
    old : ControlState
    old = control_at s a

    made : (es : List Edit) → (es ++ made_after handle_at_once old xs) ++ made_after handle_at_once (control_at s b) ys ≡ es ++ made_after handle_at_once old (xs ++ ys)
    made es =
        append_assoc es (made_after handle_at_once old xs) (made_after handle_at_once (control_at s b) ys)
        ∙ ap (λ (fs : List Edit). es ++ fs)
        (ap (λ (d : ControlState). made_after handle_at_once old xs ++ made_after handle_at_once d ys) f.control ∙ sym (made-append handle_at_once old xs ys))

-- the answers are those from before
said-before : (a b : Stage) (ts : List Token) (qs rs : List Question) (end : Result Seeker Crossing) → b.heard ≡ noting a.heard qs → Seeks b.heard.says (seeker_of b) ts rs end → Seeks a.heard.says (seeker_of b) ts rs end
said-before a b ts qs rs end noted h = subst (λ (says : Question → Answer). Seeks says (seeker_of b) ts rs end) (same-says a.heard b.heard qs noted) h

pub handled-then : (a b c : Stage) (xs ys : List Token) → Handled a b xs → Handled b c ys → Handled a c (xs ++ ys)
handled-then a b c xs ys f g = record {
  input = g.input ∙ f.input;
  turned = turned-then a.lexer b.lexer c.lexer f.turned g.turned;
  asked = f.asked ++ g.asked;
  noted = noted-then a.heard b.heard c.heard f.asked g.asked f.noted g.noted;
  over = λ s all is may.
      let first = f.over s (true-front s a.heard.says f.asked g.asked all) is (may-front s xs ys may) in
      both-handled s a b c xs ys first (g.over s (true-then s a.heard b.heard f.asked g.asked f.noted all) first.over (may-back s xs ys may));
  sought = λ answered.
      seeks-then a.heard.says (seeker_of a) (seeker_of b) xs ys f.asked g.asked (Ok (seeker_of c)) (f.sought answered) (said-before a b ys f.asked g.asked (Ok (seeker_of c)) f.noted (g.sought (f.turned.asked ∙ answered)));
  kind = g.kind ∙ f.kind;
}

-- a token behind others touches something older
touched-append : (s c : ControlState) (xs ys : List Token) → untouched_at_once s (left_after handle_at_once c xs) ys ≡ false → untouched_at_once s c (xs ++ ys) ≡ false
touched-append s c [] ys h = h
touched-append s c (x ∷ xs) ys h =
    let m : Meant = handle_at_once c x in
    ap (λ b. not (touches_any s m.outcome) && b) (touched-append s (left_by m) xs ys h) ∙ and-false (not (touches_any s m.outcome))

touched-front : (s c : ControlState) (t : Token) (ts : List Token) → untouched_at_once s c (t ∷ []) ≡ false → untouched_at_once s c (t ∷ ts) ≡ false
touched-front s c t ts h =
    let m : Meant = handle_at_once c t in
    ap (λ b. b && untouched_at_once s (left_by m) ts) (first-false (not (touches_any s m.outcome)) h)

touched-then : (a b c : Stage) (xs ys : List Token) (t : Token) → Handled a b xs → Touched b c (t ∷ []) → Touched a c (xs ++ t ∷ ys)
touched-then a b c xs ys t f g = record {
  asked = f.asked ++ g.asked;
  noted = noted-then a.heard b.heard c.heard f.asked g.asked f.noted g.noted;
  rested = g.rested ∙ f.turned.rested;
  over = λ s all is may.
      let first = f.over s (true-front s a.heard.says f.asked g.asked all) is (may-front s xs (t ∷ ys) may) in
      let one = g.over s (true-then s a.heard b.heard f.asked g.asked f.noted all) first.over ((may-back s xs (t ∷ ys) may).0, tt) in
      touched-append s (control_at s a) xs (t ∷ ys) (touched-front s (left_after handle_at_once (control_at s a) xs) t ys (subst (λ (d : ControlState). untouched_at_once s d (t ∷ []) ≡ false) first.control one));
  sought = λ answered.
      let second = g.sought (f.turned.asked ∙ answered) in
      let whole = seeks-before b.heard.says (seeker_of b) (t ∷ []) ys g.asked second.0 second.1 in
      (second.0, seeks-then a.heard.says (seeker_of a) (seeker_of b) xs (t ∷ ys) f.asked g.asked (Err second.0) (f.sought answered) (said-before a b (t ∷ ys) f.asked g.asked (Err second.0) f.noted whole));
}

-- what is left of the tokens is still to be handled
pub record Going (start now : Stage) (tokens rest : List Token) : Type 0 where
  pub done : List Token
  pub split : tokens ≡ done ++ rest
  pub handled : Handled start now done

pub going-start : (p : Stage) (tokens : List Token) → Going p p tokens tokens
going-start p tokens = record { done = []; split = refl; handled = none-handled p }

pub going-on : (start now next : Stage) (tokens before rest : List Token) (t : Token) → Going start now tokens before → before ≡ t ∷ rest → Handled now next (t ∷ []) → Going start next tokens rest
going-on start now next tokens before rest t g is one = record {
  done = g.done ++ t ∷ [];
  split = g.split ∙ (ap (λ (ts : List Token). g.done ++ ts) is ∙ sym (append_assoc g.done (t ∷ []) rest));
  handled = handled-then start now next g.done (t ∷ []) g.handled one;
}

pub going-end : (start now : Stage) (tokens rest : List Token) → Going start now tokens rest → rest ≡ [] → Handled start now tokens
going-end start now tokens rest g is =
    subst (Handled start now) (sym (g.split ∙ (ap (λ (ts : List Token). g.done ++ ts) is ∙ append-nil g.done))) g.handled

pub going-touched : (start now next : Stage) (tokens before rest : List Token) (t : Token) → Going start now tokens before → before ≡ t ∷ rest → Touched now next (t ∷ []) → Touched start next tokens
going-touched start now next tokens before rest t g is one =
    subst (Touched start next) (sym (g.split ∙ ap (λ (ts : List Token). g.done ++ ts) is)) (touched-then start now next g.done rest t g.handled one)

-- one token
module _ (law : TokensHandled) (apart : AtOnceApart) (stay : StayUnedited) where
  over-one : (s : ControlState) (old new : Stage) (w : Split) (edits : List Edit) (t : Token) (handled : Told) → new.split ≡ record w { edits = edits }
      → ((kind : SinkKind) (c : ControlState) (es : List Edit) → Amounts kind old.sink c w.edits es → Amounts kind new.sink c edits es)
      → new.lexer ≡ turned (handle_at_once (control_at s old) t).switch old.lexer → IsDoneOver s old.split w handled (handle_at_once (state_over old.split s) t) → IsHandled s old new (t ∷ [])
  over-one s old new w edits t handled split take lexer d = record {
    over = subst (IsOver s) (sym split) (stay s w edits d.over);
    unpaged = λ none. ap (λ (v : Split). v.page) split ∙ d.unpaged none;
    lexer = lexer;
    control = ap (λ (v : Split). relexed_state lex_start (state_over v s)) split ∙ (ap (relexed_state lex_start) d.control ∙ sym (ap left_by same));
    own = and_from (not (touches_any s now.outcome)) true (ap not (ap (λ (h : Meant). touches_any s h.outcome) same ∙ d.own)) refl;
    amounts = λ kind es am.
        subst (λ (v : Split). Amounts kind new.sink s v.edits (es ++ made_after handle_at_once (control_at s old) (t ∷ []))) (sym split)
        (subst (λ (fs : List Edit). Amounts kind new.sink s edits (es ++ fs)) (sym (ap (λ (h : Meant). h.outcome.edits ++ []) same ∙ append-nil was.outcome.edits))
        (take kind s (es ++ was.outcome.edits) (amounts-more kind old.sink s old.split.edits w.edits es was.outcome.edits am d.edits)));
  }
    where
      was : Meant
      was = handle_at_once (state_over old.split s) t

      now : Meant
      now = handle_at_once (control_at s old) t

      same : now ≡ relexed lex_start was
      same = apart lex_start (state_over old.split s) t

  -- and the lexer is switched where it calls for that
  pub one-handled : SwitchesFall → (old new : Stage) (w : Split) (edits : List Edit) (t : Token) (handled : Told) → Runs old.heard new.heard (handle_plan t old.split) (Ok (record { split = w; handled = handled }))
      → new.split ≡ record w { edits = edits } → ((kind : SinkKind) (c : ControlState) (es : List Edit) → Amounts kind old.sink c w.edits es → Amounts kind new.sink c edits es)
      → kind_of new.sink ≡ kind_of old.sink → new.lexer ≡ turned handled.switch old.lexer → new.input ≡ old.input → Handled old new (t ∷ [])
  one-handled falls old new w edits t handled runs split take kind lexer input = record {
    input = input;
    turned = subst (IsTurned old.lexer) (sym lexer) (turned-once falls old.lexer handled.switch);
    asked = asked_by old.heard.says (handle_plan t old.split);
    noted = runs.noted;
    over = λ s all is may.
        let d : IsDoneOver s old.split w handled (handle_at_once (state_over old.split s) t) = law t s old.split old.heard new.heard (Ok (record { split = w; handled = handled })) runs all is may.0 in
        over-one s old new w edits t handled split take
        (lexer ∙ ap (λ (to : Option Rest). turned to old.lexer) (d.switch ∙ sym (ap (λ (h : Meant). h.switch) (apart lex_start (state_over old.split s) t)))) d;
    sought = λ answered.
        one-sought old new w edits t handled runs.ends split
        (ap (λ (l : Lexer). stands l new.input) lexer ∙ (ap (stands (turned handled.switch old.lexer)) input ∙ turned-stands handled.switch old.lexer old.input answered));
    kind = kind;
  }

  -- or it crosses
  pub one-touched : (old new : Stage) (t : Token) (crossing : Crossing) → Runs old.heard new.heard (handle_plan t old.split) (Err crossing) → new.lexer ≡ old.lexer → Touched old new (t ∷ [])
  one-touched old new t crossing runs lexer = record {
    asked = asked_by old.heard.says (handle_plan t old.split);
    noted = runs.noted;
    rested = ap (λ (l : Lexer). l.rested) lexer;
    over = λ s all is may.
        let touched = law t s old.split old.heard new.heard (Err crossing) runs all is may.0 in
        ap (λ b. not b && true) (ap (λ (h : Meant). touches_any s h.outcome) (apart lex_start (state_over old.split s) t) ∙ any-touches s crossing (handle_at_once (state_over old.split s) t).outcome touched);
    sought = λ answered. (crossing, seeks-one old.heard.says (seeker_of old) t (Err crossing) runs.ends);
  }

  pub one-refused : {X : Type 0} (old new : Stage) (t : Token) (result : Result X Refusal) (refused : Refusal) → IsErrAnd result (λ e. e ≡ refused) → Handles (Err refused) (sight_of old) (sight_of new) (handle_plan t) → new.lexer ≡ old.lexer
      → IfErr result (λ e. IfCrossed e (Touched old new (t ∷ [])))
  one-refused old new t result refused is h lexer = refused-so result refused is (by refused h) (λ touched. touched)
    where
      by : (r : Refusal) → Handles (Err r) (sight_of old) (sight_of new) (handle_plan t) → IfCrossed r (Touched old new (t ∷ []))
      by (refusal.Crossed crossing) runs = one-touched old new t crossing runs lexer
      by refusal.NoMemory runs = tt

  -- a run of characters, which calls for no switch
  pub run-handled : (old new : Stage) (w : Split) (edits : List Edit) (class : CharClass) (text : List ℕ) (handled : Told) → Runs old.heard new.heard (handle_plan (Characters class text) old.split) (Ok (record { split = w; handled = handled }))
      → new.split ≡ record w { edits = edits } → ((kind : SinkKind) (c : ControlState) (es : List Edit) → Amounts kind old.sink c w.edits es → Amounts kind new.sink c edits es)
      → kind_of new.sink ≡ kind_of old.sink → handled.switch ≡ None → new.lexer ≡ old.lexer → new.input ≡ old.input → Handled old new (Characters class text ∷ [])
  run-handled old new w edits class text handled runs split take kind quiet lexer input = record {
    input = input;
    turned = subst (IsTurned old.lexer) (sym lexer) (none-turned old.lexer);
    asked = asked_by old.heard.says (handle_plan (Characters class text) old.split);
    noted = runs.noted;
    over = λ s all is may.
        over-one s old new w edits (Characters class text) handled split take (lexer ∙ ap (λ (to : Option Rest). turned to old.lexer) (sym (at_once-quiet class text (control_at s old))))
        (law (Characters class text) s old.split old.heard new.heard (Ok (record { split = w; handled = handled })) runs all is may.0);
    sought = λ answered.
        one-sought old new w edits (Characters class text) handled runs.ends split
        (ap (λ (l : Lexer). stands l new.input) lexer ∙ (ap (stands old.lexer) input ∙ ap (λ (to : Option Rest). switched to (stands old.lexer old.input)) (sym quiet)));
    kind = kind;
  }

  -- a text behind the question whether the older current node is HTML
  pub below-handled : TextsTakenBelow → (first : Heard) (old new : Stage) (w : Split) (edits : List Edit) (text : List ℕ) (handled : Told) → may_take_text old.split ≡ true → Runs first old.heard (current_is_plan kinds.AnyHtml old.split) (Ok true)
      → Runs first new.heard (handle_plan (as_run text) old.split) (Ok (record { split = w; handled = handled })) → new.split ≡ record w { edits = edits }
      → ((kind : SinkKind) (c : ControlState) (es : List Edit) → Amounts kind old.sink c w.edits es → Amounts kind new.sink c edits es) → kind_of new.sink ≡ kind_of old.sink → new.lexer ≡ old.lexer → new.input ≡ old.input → TextHandled (record old { heard = first }) new text
  unfolding run-handled
  below-handled below first old new w edits text handled may found runs split take kind lexer input = record {
    handled = run-handled (record old { heard = first }) new w edits (white_or_other (list_all is_white text)) text handled runs split take kind (below-quiet first.says text old.split w handled runs.ends may found.ends) lexer input;
    takes = λ s all is. below text s old.split first old.heard may found all is;
  }

  pub below-touched : TextsTakenBelow → (first : Heard) (old new : Stage) (text : List ℕ) (crossing : Crossing) → may_take_text old.split ≡ true → Runs first old.heard (current_is_plan kinds.AnyHtml old.split) (Ok true)
      → Runs first new.heard (handle_plan (as_run text) old.split) (Err crossing) → new.lexer ≡ old.lexer → TextTouched (record old { heard = first }) new text
  unfolding one-touched
  below-touched below first old new text crossing may found runs lexer = record {
    touched = one-touched (record old { heard = first }) new (as_run text) crossing runs lexer;
    takes = λ s all is. below text s old.split first old.heard may found all is;
  }

  pub below-refused : {X : Type 0} → TextsTakenBelow → (old new : Stage) (text : List ℕ) (result : Result X Refusal) (refused : Refusal) → IsErrAnd result (λ e. e ≡ refused) → may_take_text old.split ≡ true
      → HandlesBelow (Err refused) (sight_of old) (sight_of new) (handle_plan (as_run text)) → new.lexer ≡ old.lexer → IfErr result (λ e. IfCrossed e (TouchedBelow old new text))
  below-refused below old new text result refused is may h lexer = refused-so result refused is (by refused h) (λ touched. touched)
    where
      by : (r : Refusal) → HandlesBelow (Err r) (sight_of old) (sight_of new) (handle_plan (as_run text)) → IfCrossed r (TouchedBelow old new text)
      by (refusal.Crossed crossing) runs = λ first found. below-touched below first old new text crossing may found (runs (record { heard = first; split = old.split }) (record { runs = found; same = refl })) lexer
      by refusal.NoMemory runs = tt
