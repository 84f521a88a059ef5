use Rattle.std.proofs.Common.{ap, sym, subst}
use Rattle.std.proofs.lemmas.Option.{IfSome_then}
use Rattle.hp_tokens.specs.declared.state.State.{State}
use Rattle.hp_tokens.specs.Rows.{is_blank}
use Rattle.hp_tokens.specs.Plain.{EmitsPlain, none_of, data_stops}
use Rattle.hp_lex_tags.specs.Rows.{row}
use Rattle.hp_lex_tags.specs.Tags.{is_here, tag_rules}
use Rattle.hp_lex_tags.proofs.NamedSteps.{tags_rows}
use Rattle.hp_lex_tags.proofs.PlainRows.{data_others, data_blanks}
use Rattle.hp_lex_tags.proofs.tags.next_text.Goals as goal

pub next_text-requires-clause-blanks : goal.next_text-requires-clause-blanks
next_text-requires-clause-blanks c = let P : State → Type 0 = λ s. EmitsPlain row is_blank s in subst P (sym c.in-Data.is) data_blanks

pub next_text-requires-clause-others : goal.next_text-requires-clause-others
next_text-requires-clause-others c = let P : State → Type 0 = λ s. EmitsPlain row (none_of data_stops) s in subst P (sym c.in-Data.is) data_others

pub returns-in-Data-clause-turn : goal.returns-in-Data-clause-turn
returns-in-Data-clause-turn c =
    IfSome_then c.next_text.result c.next_text.ensures.turn (λ token turned. turned (tag_rules c.args.names.now) is_here (tags_rows c.args.names.now))

pub returns-in-Data-clause-group : goal.returns-in-Data-clause-group
returns-in-Data-clause-group c =
    IfSome_then c.next_text.result c.next_text.ensures.group (λ token group. group (tag_rules c.args.names.now) is_here (tags_rows c.args.names.now) (ap is_here c.in-Data.is))

pub returns-in-Data-clause-here : goal.returns-in-Data-clause-here
returns-in-Data-clause-here c = IfSome_then c.next_text.result c.next_text.ensures.turn (λ token turned. ap is_here c.in-Data.is)
