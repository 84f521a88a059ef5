use Rattle.std.proofs.Common.{ap}
use Rattle.std.proofs.lemmas.Option.{IfSome_then}
use Rattle.hp_lex_raw.specs.Raw.{is_here, raw_rules}
use Rattle.hp_lex_raw.proofs.TextRuns.{text_rows, raw_whole, raw_here}
use Rattle.hp_lex_raw.proofs.raw.next_plain.Goals as goal

pub returns-in-Rcdata-clause-turn : goal.returns-in-Rcdata-clause-turn
returns-in-Rcdata-clause-turn c = IfSome_then c.next_data.result c.next_data.ensures.turn (λ text turned. turned raw_rules is_here text_rows)

pub returns-in-Rcdata-clause-here : goal.returns-in-Rcdata-clause-here
returns-in-Rcdata-clause-here c = IfSome_then c.next_data.result c.next_data.ensures.turn (λ text turned. ap is_here c.in-Rcdata.is)

pub next_raw-requires-clause-plain : goal.next_raw-requires-clause-plain
next_raw-requires-clause-plain c = raw_whole c.args.state.now.machine.state c.in-Rawtext.is

pub returns-in-Rawtext-clause-turn : goal.returns-in-Rawtext-clause-turn
returns-in-Rawtext-clause-turn c = IfSome_then c.next_raw.result c.next_raw.ensures.turn (λ text turned. turned raw_rules is_here text_rows)

pub returns-in-Rawtext-clause-here : goal.returns-in-Rawtext-clause-here
returns-in-Rawtext-clause-here c = IfSome_then c.next_raw.result c.next_raw.ensures.turn (λ text turned. raw_here c.args.state.now.machine.state c.in-Rawtext.is)
