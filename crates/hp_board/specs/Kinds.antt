-- The kind of a question.
use Rattle.hp_control.specs.declared.question.Question.{Question}
use Rattle.hp_control.specs.declared.question.Question.TheVariants as ask
use Rattle.hp_board.specs.declared.kinds.QuestionKind.{QuestionKind}
use Rattle.hp_board.specs.declared.kinds.QuestionKind.TheVariants as kind

abbrev pub kind_of : Question → QuestionKind
kind_of ask.Entry = kind.Entry
kind_of (ask.Elem depth) = kind.Elem
kind_of (ask.Seen depth goals stops) = kind.Seen
kind_of (ask.Reach depth goals stops) = kind.Reach
kind_of (ask.RunOf depth names) = kind.RunOf
kind_of (ask.HasTemplate depth) = kind.HasTemplate
kind_of (ask.ResetFrom depth) = kind.ResetFrom
kind_of (ask.Quiet depth cuts) = kind.Quiet
kind_of (ask.Listed depth cuts name) = kind.Listed
kind_of (ask.Same cuts tag) = kind.Same
kind_of (ask.Pointer depth) = kind.Pointer
kind_of (ask.Fact which) = kind.Fact
kind_of (ask.Whole depth) = kind.Whole
