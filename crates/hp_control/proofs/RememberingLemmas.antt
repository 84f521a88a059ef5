-- What is remembered was asked, stays so, and is answered without a search as it would be with one.
use Rattle.std.proofs.Common.{◌≡◌, ◌⊎◌, inl, inr, ℕ, Bool, true, false, List, [], ◌∷◌, ◌++◌, Option, Some, None, refl, sym, ap, ◌∙◌, subst}
use Rattle.std.specs.Prelude.{◌||◌, Result, Ok, Err, if◌then◌else◌}
use Rattle.std.proofs.lemmas.List.Folds.{list_any-append}
use Rattle.hp_elements.specs.declared.known.Known.{Known}
use Rattle.hp_control.specs.declared.question.Question.{Question}
use Rattle.hp_control.specs.declared.question.Answer.{Answer}
use Rattle.hp_control.specs.declared.question.Answer.TheVariants.{Yes}
use Rattle.hp_control.specs.declared.question.Crossing.{Crossing}
use Rattle.hp_control.specs.declared.question.Kept.{Kept}
use Rattle.hp_control.specs.declared.recurring.Recurring.{Recurring}
use Rattle.hp_control.specs.declared.recurring.Recurring.TheVariants.{Html, Paragraph, Quiet, Listed}
use Rattle.hp_control.specs.declared.recurring.Remembered.{Remembered}
use Rattle.hp_control.specs.Plan.{Heard, Runs, asks, gives, is_asked, added, kept_with}
use Rattle.hp_control.specs.QuestionParts.{same_question}
use Rattle.hp_control.specs.Remembering.{Remembers, WasAsked, WereAsked, question_of, usual_answer}
use Rattle.hp_control.proofs.QuestionLemmas.{question_again}

or_left : (a b : Bool) → a ≡ true → (a || b) ≡ true
or_left true b h = refl
or_left false b h = absurd (cc)

or_right : (a b : Bool) → b ≡ true → (a || b) ≡ true
or_right true b h = refl
or_right false b h = h

-- what was asked is asked with one pair more
asked_more : (kept more : List Kept) (q : Question) → is_asked kept q ≡ true → is_asked (kept ++ more) q ≡ true
asked_more kept more q h = list_any-append (λ (p : Kept). same_question p.question q) kept more ∙ or_left (is_asked kept q) (is_asked more q) h

was_more : (says : Question → Answer) (kept more : List Kept) (q : Question) (a : Answer) → WasAsked says kept q a → WasAsked says (kept ++ more) q a
was_more says kept more q a w = (asked_more kept more q w.0, w.1)

pub were_more : (says : Question → Answer) (kept : List Kept) (k : Kept) (r : Remembered) → WereAsked says kept r → WereAsked says (kept ++ k ∷ []) r
were_more says kept k r w = λ q h. was_more says kept (k ∷ []) (question_of q) (usual_answer q) (w q h)

some_one : {X : Type 0} (x y : X) → Some x ≡ Some y → x ≡ y
some_one x y e = cc

-- one more is remembered
pub put_html : (r : Remembered) (depth : ℕ) (q : Recurring) → Remembers (record r { html = Some depth }) q → (q ≡ Html depth) ⊎ Remembers r q
put_html r depth (Html at) h = inl (ap Html (sym (some_one depth at h)))
put_html r depth (Paragraph at) h = inr h
put_html r depth (Quiet at cuts) h = inr h
put_html r depth (Listed at cuts name) h = inr h

pub put_paragraph : (r : Remembered) (depth : ℕ) (q : Recurring) → Remembers (record r { paragraph = Some depth }) q → (q ≡ Paragraph depth) ⊎ Remembers r q
put_paragraph r depth (Html at) h = inr h
put_paragraph r depth (Paragraph at) h = inl (ap Paragraph (sym (some_one depth at h)))
put_paragraph r depth (Quiet at cuts) h = inr h
put_paragraph r depth (Listed at cuts name) h = inr h

abbrev quiet_in : Option (ℕ × ℕ) → Recurring
quiet_in None = Quiet 0 0
quiet_in (Some p) = Quiet p.0 p.1

pub put_quiet : (r : Remembered) (depth cuts : ℕ) (q : Recurring) → Remembers (record r { quiet = Some (depth, cuts) }) q → (q ≡ Quiet depth cuts) ⊎ Remembers r q
put_quiet r depth cuts (Html at) h = inr h
put_quiet r depth cuts (Paragraph at) h = inr h
put_quiet r depth cuts (Quiet at cleared) h = inl (sym (ap quiet_in h))
put_quiet r depth cuts (Listed at cleared name) h = inr h

abbrev listed_in : Known → Option (ℕ × ℕ × Known) → Recurring
listed_in name None = Listed 0 0 name
listed_in name (Some p) = Listed p.0 p.1 p.2

pub put_listed : (r : Remembered) (depth cuts : ℕ) (name : Known) (q : Recurring) → Remembers (record r { listed = Some (depth, cuts, name) }) q → (q ≡ Listed depth cuts name) ⊎ Remembers r q
put_listed r depth cuts name (Html at) h = inr h
put_listed r depth cuts name (Paragraph at) h = inr h
put_listed r depth cuts name (Quiet at cleared) h = inr h
put_listed r depth cuts name (Listed at cleared other) h = inl (sym (ap (listed_in name) h))

-- all that is remembered then was asked, where the one more was
pub were_put : (says : Question → Answer) (kept : List Kept) (old new : Remembered) (q : Recurring) → ((other : Recurring) → Remembers new other → (other ≡ q) ⊎ Remembers old other)
    → WasAsked says kept (question_of q) (usual_answer q) → WereAsked says kept old → WereAsked says kept new
were_put says kept old new q put asked w = λ other h. go other (put other h)
  where
    go : (other : Recurring) → (other ≡ q) ⊎ Remembers old other → WasAsked says kept (question_of other) (usual_answer other)
    go other (inl e) = subst (λ (x : Recurring). WasAsked says kept (question_of x) (usual_answer x)) (sym e) asked
    go other (inr h) = w other h

-- what is added is among them
asked_added : (kept : List Kept) (k : Kept) → is_asked (added kept k) k.question ≡ true
asked_added kept k = go (is_asked kept k.question) refl
  where
    go : (b : Bool) → is_asked kept k.question ≡ b → is_asked (if b then kept else kept ++ k ∷ []) k.question ≡ true
    go true e = e
    go false e =
        list_any-append (λ (p : Kept). same_question p.question k.question) kept (k ∷ [])
        ∙ or_right (is_asked kept k.question) (same_question k.question k.question || false) (or_left (same_question k.question k.question) false (question_again k.question))

abbrev answer_in : Result Answer Crossing → Answer
answer_in (Ok a) = a
answer_in (Err crossing) = Yes

-- a question that is asked was asked then
pub asked_then : (old new : Heard) (kept now : List Kept) (q : Question) (a : Answer) → old.kept ≡ Some kept → new.kept ≡ Some now → Runs old new (asks q gives) (Ok a) → WasAsked new.says now q a
asked_then old new kept now q a is_kept is_now r =
    let pair : Kept = record { question = q; answer = old.says q } in
    let same : now ≡ added kept pair = some_one now (added kept pair) (sym is_now ∙ (ap (λ (h : Heard). h.kept) r.noted ∙ ap (λ (o : Option (List Kept)). kept_with o (pair ∷ [])) is_kept)) in
    (ap (λ (ks : List Kept). is_asked ks q) same ∙ asked_added kept pair, ap (λ (h : Heard). h.says q) r.noted ∙ ap answer_in r.ends)

-- and is answered again without a search
pub answered_again : (h : Heard) (kept : List Kept) (q : Question) (a : Answer) → h.kept ≡ Some kept → WasAsked h.says kept q a → Runs h h (asks q gives) (Ok a)
answered_again h kept q a is_kept w =
    let pair : Kept = record { question = q; answer = h.says q } in
    let none : h.kept ≡ kept_with h.kept (pair ∷ []) = is_kept ∙ (ap (λ (b : Bool). Some (if b then kept else kept ++ pair ∷ [])) (sym w.0) ∙ ap (λ (o : Option (List Kept)). kept_with o (pair ∷ [])) (sym is_kept)) in
    record {
      ends = ap Ok w.1;
      noted = ap (λ (o : Option (List Kept)). record { says = h.says; kept = o }) none;
    }
