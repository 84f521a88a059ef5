-- What the predictors say that look at no text.
use Rattle.std.specs.Prelude.{Bool, true, false, if◌then◌else◌, [], None}
use Rattle.hp_elements.specs.Names.{text_of}
use Rattle.hp_elements.specs.declared.kinds.Kinds.{Kinds}
use Rattle.hp_elements.specs.declared.kinds.Kinds.TheVariants as kinds
use Rattle.hp_elements.specs.declared.kinds.Point.TheVariants as point
use Rattle.hp_elements.specs.KnownNames as known
use Rattle.hp_elements.specs.declared.sets.Namespace.TheVariants.{Html}
use Rattle.hp_elements.specs.declared.token.Mode.TheVariants as mode
use Rattle.hp_elements.specs.declared.token.Rest.TheVariants.{Data, Plaintext}
use Rattle.hp_control.specs.Truth.{yes_or_no}
use Rattle.hp_control.specs.declared.question.Question.{Question}
use Rattle.hp_control.specs.declared.question.Question.TheVariants as ask
use Rattle.hp_control.specs.declared.question.Answer.{Answer}
use Rattle.hp_control.specs.declared.question.Answer.TheVariants as answer
use Rattle.hp_control.specs.declared.question.EntryKind.TheVariants.{Absent}
use Rattle.hp_control.specs.declared.question.FactKind.{FactKind}
use Rattle.hp_control.specs.declared.question.FactKind.TheVariants.{Quirks, LastTag}
use Rattle.hp_predict.specs.OpenNames.{is_name}

-- the kinds that each HTML element is of
abbrev pub has_all_html : Kinds → Bool
has_all_html kinds.AnyHtml = true
has_all_html kinds.HtmlOrPoint = true
has_all_html _ = false

-- these, and body alone
abbrev pub has_body : Kinds → Bool
has_body (kinds.Html name) = is_name known.Body name
has_body goals = has_all_html goals

abbrev pub quiet_fact : FactKind → Answer
quiet_fact Quirks = answer.No
quiet_fact LastTag = answer.LastTag []

-- a div stands at each depth, in a body that has no form, no template and no formatting elements
abbrev pub quiet_says : Question → Answer
quiet_says ask.Entry = answer.Resting Data false mode.InBody None false
quiet_says (ask.Elem depth) = answer.Element Html (text_of known.Div) point.No
quiet_says (ask.Seen depth goals stops) = yes_or_no (has_body goals)
quiet_says (ask.Reach depth goals stops) = if has_all_html goals then answer.Depth depth else answer.NoDepth
quiet_says (ask.RunOf depth names) = answer.Count 0
quiet_says (ask.HasTemplate depth) = answer.No
quiet_says (ask.ResetFrom depth) = answer.NewMode mode.InBody
quiet_says (ask.Quiet depth cuts) = answer.Yes
quiet_says (ask.Listed depth cuts name) = answer.Entry Absent false
quiet_says (ask.Same cuts tag) = answer.Count 0
quiet_says (ask.Pointer depth) = answer.Null
quiet_says (ask.Fact which) = quiet_fact which
quiet_says (ask.Whole depth) = answer.Whole true false

-- at the start what no state of a page is: plain text to its end in the mode initial; otherwise the same
abbrev pub contrary_says : Question → Answer
contrary_says ask.Entry = answer.Resting Plaintext false mode.Initial None false
contrary_says question = quiet_says question
