-- What a step asks of the older state, and how it goes on by each answer.
use Rattle.std.specs.Prelude.{◌≡◌, Bool, if◌then◌else◌, List, [], ◌∷◌, ◌++◌, Option, Some, None, Result, Ok, Err, map}
use Rattle.std.specs.List.{list_any}
use Rattle.hp_control.specs.declared.question.Crossing.{Crossing}
use Rattle.hp_control.specs.declared.question.Question.{Question}
use Rattle.hp_control.specs.declared.question.Answer.{Answer}
use Rattle.hp_control.specs.declared.question.Kept.{Kept}
use Rattle.hp_control.specs.QuestionParts.{same_question}

pub data Plan (X : Type 0) : Type 0 where
  gives : (x : X) → Plan X
  crosses : (crossing : Crossing) → Plan X
  asks : (question : Question) (go : Answer → Plan X) → Plan X

-- the first, then the second from what it gave
abbrev pub followed_by : {X Y : Type 0} → Plan X → (X → Plan Y) → Plan Y
followed_by (gives x) next = next x
followed_by (crosses crossing) next = crosses crossing
followed_by (asks q go) next = asks q (λ a. followed_by (go a) next)

-- what it gives under these answers, or by which crossing it ends
abbrev pub end_by : {X : Type 0} → (Question → Answer) → Plan X → Result X Crossing
end_by says (gives x) = Ok x
end_by says (crosses crossing) = Err crossing
end_by says (asks q go) = end_by says (go (says q))

-- what it asks under these answers, in order
abbrev pub asked_by : {X : Type 0} → (Question → Answer) → Plan X → List Question
asked_by says (gives x) = []
asked_by says (crosses crossing) = []
asked_by says (asks q go) = q ∷ asked_by says (go (says q))

-- what is answered to each question, and the answers so far, where they are kept
pub record Heard : Type 0 where
  pub says : Question → Answer
  pub kept : Option (List Kept)

abbrev pub kept_pairs : (Question → Answer) → List Question → List Kept
kept_pairs says qs = map (λ q. record { question = q; answer = says q }) qs

-- whether the question is among those of the pairs
abbrev pub is_asked : List Kept → Question → Bool
is_asked kept q = list_any (λ k. same_question k.question q) kept

-- with that pair behind, where its question isn't among them
abbrev pub added : List Kept → Kept → List Kept
added kept pair = if is_asked kept pair.question then kept else kept ++ pair ∷ []

-- with each of these pairs, in their order
abbrev pub added_each : List Kept → List Kept → List Kept
added_each kept [] = kept
added_each kept (pair ∷ more) = added_each (added kept pair) more

abbrev pub kept_with : Option (List Kept) → List Kept → Option (List Kept)
kept_with None more = None
kept_with (Some kept) more = Some (added_each kept more)

-- after these questions
abbrev pub noting : Heard → List Question → Heard
noting h qs = record { says = h.says; kept = kept_with h.kept (kept_pairs h.says qs) }

-- the plan was carried out: it ended so, and what it asks was asked and kept, and nothing else
pub record Runs {X : Type 0} (old new : Heard) (plan : Plan X) (end : Result X Crossing) : Type 0 where
  pub ends : end_by old.says plan ≡ end
  pub noted : new ≡ noting old (asked_by old.says plan)
