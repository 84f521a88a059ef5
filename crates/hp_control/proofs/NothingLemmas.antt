-- What a state with empty lists answers.
use Rattle.std.proofs.Common.{◌≡◌, ℕ, zero, suc, List, [], drop, slice_get, None, refl, ap, ◌∙◌}
use Rattle.std.specs.Prelude.{min}
use Rattle.std.proofs.Math.Seq.{drop-nil}
use Rattle.hp_elements.specs.declared.kinds.Kinds.{Kinds}
use Rattle.hp_elements.specs.declared.tag.Tag.{Tag}
use Rattle.hp_control.specs.declared.question.Question.TheVariants as ask
use Rattle.hp_control.specs.declared.question.Answer.TheVariants as answer
use Rattle.hp_control.specs.declared.question.EntryKind.TheVariants.{Absent}
use Rattle.hp_elements.specs.declared.token.Mode.TheVariants as mode
use Rattle.std.specs.Prelude.{false}
use Rattle.hp_control.specs.Nothing.{nothing}
use Rattle.hp_control.specs.States.{is_template}
use Rattle.hp_control.specs.Truth.{answer_of, element_answer, yes_or_no, depth_answer, listed_answer}
use Rattle.hp_control.specs.Walks.{reach, seen, run_of, is_quiet, reset_mode, equals_of, second_is_body}
use Rattle.hp_control.proofs.WalkLemmas.{cleared_nothing}
use Rattle.std.specs.List.{list_any}

no_elements : (n : ℕ) → drop n nothing.stack ≡ []
no_elements n = drop-nil n

no_element : (n : ℕ) → slice_get nothing.stack n ≡ None
no_element zero = refl
no_element (suc n) = refl

pub nothing_elem : (depth : ℕ) → answer_of nothing (ask.Elem depth) ≡ answer.NoElement
nothing_elem depth = ap element_answer (no_element depth)

pub nothing_seen : (depth : ℕ) (goals stops : Kinds) → answer_of nothing (ask.Seen depth goals stops) ≡ answer.No
nothing_seen depth goals stops = ap (λ es. yes_or_no (seen goals stops es)) (no_elements depth)

pub nothing_reach : (depth : ℕ) (goals stops : Kinds) → answer_of nothing (ask.Reach depth goals stops) ≡ answer.NoDepth
nothing_reach depth goals stops = ap (λ es. depth_answer depth (reach goals stops es)) (no_elements depth)

pub nothing_run : (depth : ℕ) (names : Kinds) → answer_of nothing (ask.RunOf depth names) ≡ answer.Count 0
nothing_run depth names = ap (λ es. answer.Count (run_of names es)) (no_elements depth)

pub nothing_template : (depth : ℕ) → answer_of nothing (ask.HasTemplate depth) ≡ answer.No
nothing_template depth = ap (λ es. yes_or_no (list_any is_template es)) (no_elements depth)

pub nothing_reset : (depth : ℕ) → answer_of nothing (ask.ResetFrom depth) ≡ answer.NewMode mode.InBody
nothing_reset depth = ap (λ es. answer.NewMode (reset_mode false [] es)) (no_elements depth)

pub nothing_quiet : (depth cuts : ℕ) → answer_of nothing (ask.Quiet depth cuts) ≡ answer.Yes
nothing_quiet depth cuts = ap (λ list. yes_or_no (is_quiet (drop depth nothing.stack) list)) (cleared_nothing cuts)

pub nothing_listed : (depth cuts : ℕ) (name : List ℕ) → answer_of nothing (ask.Listed depth cuts name) ≡ answer.Entry Absent false
nothing_listed depth cuts name =
    ap (λ list. listed_answer name (drop depth nothing.stack) list) (cleared_nothing cuts) ∙ ap (λ es. listed_answer name es []) (no_elements depth)

pub nothing_same : (cuts : ℕ) (tag : Tag) → answer_of nothing (ask.Same cuts tag) ≡ answer.Count 0
nothing_same cuts tag = ap (λ list. answer.Count (min 3 (equals_of tag list))) (cleared_nothing cuts)

pub nothing_whole : (depth : ℕ) → answer_of nothing (ask.Whole depth) ≡ answer.Whole false nothing.frameset_ok
nothing_whole depth = ap (λ es. answer.Whole (second_is_body es) nothing.frameset_ok) (no_elements depth)
