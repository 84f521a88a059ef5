use Rattle.std.proofs.Common.{ap, sym, subst}
use Rattle.std.proofs.lemmas.Option.{IfSome_then}
use Rattle.hp_tokens.specs.declared.state.State.{State}
use Rattle.hp_tokens.specs.Plain.{EmitsPlain, none_of, whole_data_stops}
use Rattle.hp_lex_tags.specs.Rows.{row}
use Rattle.hp_lex_tags.specs.Tags.{is_here, tag_rules}
use Rattle.hp_lex_tags.proofs.NamedSteps.{tags_rows}
use Rattle.hp_lex_tags.proofs.PlainRows.{data_whole}
use Rattle.hp_lex_tags.proofs.tags.next_plain.Goals as goal

pub next_data-requires-clause-plain : goal.next_data-requires-clause-plain
next_data-requires-clause-plain c = let P : State → Type 0 = λ s. EmitsPlain row (none_of whole_data_stops) s in subst P (sym c.in-Data.is) data_whole

pub returns-in-Data-clause-turn : goal.returns-in-Data-clause-turn
returns-in-Data-clause-turn c =
    IfSome_then c.next_data.result c.next_data.ensures.turn (λ text turned. turned (tag_rules c.args.names.now) is_here (tags_rows c.args.names.now))

pub returns-in-Data-clause-here : goal.returns-in-Data-clause-here
returns-in-Data-clause-here c = IfSome_then c.next_data.result c.next_data.ensures.turn (λ text turned. ap is_here c.in-Data.is)
