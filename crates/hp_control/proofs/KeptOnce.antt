-- Pairs that are kept once are true exactly where all that was said is.
use Rattle.std.proofs.Common.{◌≡◌, Bool, true, false, List, [], ◌∷◌, ◌++◌, refl, sym, ap, ◌∙◌}
use Rattle.std.specs.Prelude.{◌||◌, if◌then◌else◌}
use Rattle.std.proofs.lemmas.List.Elements.{All-head, All-tail, All-nil, All-cons, All-append}
use Rattle.hp_control.specs.declared.question.Question.{Question}
use Rattle.hp_control.specs.declared.question.Answer.{Answer}
use Rattle.hp_control.specs.declared.question.Kept.{Kept}
use Rattle.hp_control.specs.States.{ControlState}
use Rattle.hp_control.specs.Truth.{answer_of}
use Rattle.hp_control.specs.Agree.{AllTrue}
use Rattle.hp_control.specs.Guessing.{AreDistinct, AreSaid}
use Rattle.hp_control.specs.Holds.{Holds}
use Rattle.hp_control.specs.Plan.{added, added_each, is_asked, kept_pairs}
use Rattle.hp_control.specs.QuestionParts.{same_question}
use Rattle.hp_control.proofs.Once.{distinct_more, said_more}
use Rattle.hp_control.proofs.QuestionLemmas.{question_told}

abbrev IsTrueOf : ControlState → Kept → Type 0
IsTrueOf s k = answer_of s k.question ≡ k.answer

-- the last of some pairs
last_true : (s : ControlState) (ks : List Kept) (k : Kept) → Holds (ks ++ k ∷ []) s → Holds ks s × IsTrueOf s k
last_true s [] k h = (All-nil (IsTrueOf s), All-head (IsTrueOf s) k [] h)
last_true s (x ∷ xs) k h =
    let rest = last_true s xs k (All-tail (IsTrueOf s) x (xs ++ k ∷ []) h) in
    (All-cons (IsTrueOf s) x xs (All-head (IsTrueOf s) x (xs ++ k ∷ []) h) rest.0, rest.1)

-- what was asked before is true where the pairs are
asked_true : (s : ControlState) (says : Question → Answer) (ks : List Kept) (q : Question) → AreSaid says ks → Holds ks s → is_asked ks q ≡ true → answer_of s q ≡ says q
asked_true s says [] q said h e = absurd (cc)
asked_true s says (x ∷ xs) q said h e = go (same_question x.question q) refl e (asked_true s says xs q said.1 (All-tail (IsTrueOf s) x xs h))
  where
    go : (b : Bool) → same_question x.question q ≡ b → (b || is_asked xs q) ≡ true → (is_asked xs q ≡ true → answer_of s q ≡ says q) → answer_of s q ≡ says q
    go true is there rest =
        let one = question_told x.question q is in
        ap (answer_of s) (sym one) ∙ (All-head (IsTrueOf s) x xs h ∙ (said.0 ∙ ap says one))
    go false is there rest = rest there

module _ (s : ControlState) (says : Question → Answer) (ks : List Kept) (q : Question) where
  abbrev pair : Kept
  pair = record { question = q; answer = says q }

  true_added : AreSaid says ks → Holds (added ks pair) s → Holds ks s × (answer_of s q ≡ says q)
  true_added said = go (is_asked ks q) refl
    where
      go : (b : Bool) → is_asked ks q ≡ b → Holds (if b then ks else ks ++ pair ∷ []) s → Holds ks s × (answer_of s q ≡ says q)
      go true e h = (h, asked_true s says ks q said h e)
      go false e h = last_true s ks pair h

  hold_added : Holds ks s → answer_of s q ≡ says q → Holds (added ks pair) s
  hold_added h t = go (is_asked ks q)
    where
      go : (b : Bool) → Holds (if b then ks else ks ++ pair ∷ []) s
      go true = h
      go false = All-append (IsTrueOf s) ks (pair ∷ []) h (All-cons (IsTrueOf s) pair [] t (All-nil (IsTrueOf s)))

pub said_added : (says : Question → Answer) (ks : List Kept) (q : Question) → AreSaid says ks → AreSaid says (added ks (record { question = q; answer = says q }))
said_added says ks q said = go (is_asked ks q)
  where
    go : (b : Bool) → AreSaid says (if b then ks else ks ++ record { question = q; answer = says q } ∷ [])
    go true = said
    go false = said_more says ks (record { question = q; answer = says q }) said refl

pub distinct_added : (ks : List Kept) (k : Kept) → AreDistinct ks → AreDistinct (added ks k)
distinct_added ks k d = go (is_asked ks k.question) refl
  where
    go : (b : Bool) → is_asked ks k.question ≡ b → AreDistinct (if b then ks else ks ++ k ∷ [])
    go true e = d
    go false e = distinct_more ks k d e

pub each_distinct : (ks more : List Kept) → AreDistinct ks → AreDistinct (added_each ks more)
each_distinct ks [] d = d
each_distinct ks (k ∷ more) d = each_distinct (added ks k) more (distinct_added ks k d)

pub once_true : (s : ControlState) (says : Question → Answer) (ks : List Kept) (qs : List Question) → AreSaid says ks → Holds (added_each ks (kept_pairs says qs)) s → Holds ks s × AllTrue s says qs
once_true s says ks [] said h = (h, tt)
once_true s says ks (q ∷ qs) said h =
    let more = once_true s says (added ks (record { question = q; answer = says q })) qs (said_added says ks q said) h in
    let one = true_added s says ks q said more.0 in
    (one.0, (one.1, more.1))

pub once_hold : (s : ControlState) (says : Question → Answer) (ks : List Kept) (qs : List Question) → Holds ks s → AllTrue s says qs → Holds (added_each ks (kept_pairs says qs)) s
once_hold s says ks [] h t = h
once_hold s says ks (q ∷ qs) h t = once_hold s says (added ks (record { question = q; answer = says q })) qs (hold_added s says ks q h t.0) t.1
