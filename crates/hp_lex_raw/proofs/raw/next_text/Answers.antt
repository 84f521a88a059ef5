use Rattle.std.proofs.Common.{◌≡◌, ℕ, Bool, refl, ap, sym, subst}
use Rattle.std.proofs.lemmas.Option.{IfSome_then}
use Rattle.hp_tokens.specs.declared.state.State.{State}
use Rattle.hp_tokens.specs.declared.state.State.TheVariants.{Rcdata}
use Rattle.hp_tokens.specs.Plain.{none_of, data_stops, EmitsPlain}
use Rattle.hp_lex_raw.specs.Rows.{row}
use Rattle.hp_lex_raw.specs.Raw.{is_here, raw_rules}
use Rattle.hp_lex_raw.proofs.TextRuns.{text_rows, rcdata_blanks, rcdata_others, raw_blanks, raw_others, raw_here}
use Rattle.hp_lex_raw.proofs.raw.next_text.Goals as goal

rcdata_run : (passes : ℕ → Bool) → passes ≡ none_of data_stops → (s : State) → s ≡ Rcdata → EmitsPlain row passes s
rcdata_run passes same s is =
    let P : (ℕ → Bool) → Type 0 = λ p. EmitsPlain row p s in
    subst P (sym same) (rcdata_others s is)

pub next_text-requires-clause-blanks : goal.next_text-requires-clause-blanks
next_text-requires-clause-blanks c = rcdata_blanks c.args.state.now.machine.state c.in-Rcdata.is

pub next_text-requires-clause-others : goal.next_text-requires-clause-others
next_text-requires-clause-others c = rcdata_run _ refl c.args.state.now.machine.state c.in-Rcdata.is

pub next_text-requires-in-Rawtext-clause-blanks : goal.next_text-requires-in-Rawtext-clause-blanks
next_text-requires-in-Rawtext-clause-blanks c = raw_blanks c.args.state.now.machine.state c.in-Rawtext.is

pub next_text-requires-in-Rawtext-clause-others : goal.next_text-requires-in-Rawtext-clause-others
next_text-requires-in-Rawtext-clause-others c = raw_others c.args.state.now.machine.state c.in-Rawtext.is

pub returns-in-Rcdata-clause-turn : goal.returns-in-Rcdata-clause-turn
returns-in-Rcdata-clause-turn c = IfSome_then c.next_text.result c.next_text.ensures.turn (λ token turned. turned raw_rules is_here text_rows)

pub returns-in-Rcdata-clause-group : goal.returns-in-Rcdata-clause-group
returns-in-Rcdata-clause-group c = IfSome_then c.next_text.result c.next_text.ensures.group (λ token group. group raw_rules is_here text_rows (ap is_here c.in-Rcdata.is))

pub returns-in-Rcdata-clause-here : goal.returns-in-Rcdata-clause-here
returns-in-Rcdata-clause-here c = IfSome_then c.next_text.result c.next_text.ensures.turn (λ token turned. ap is_here c.in-Rcdata.is)

pub returns-in-Rawtext-clause-turn : goal.returns-in-Rawtext-clause-turn
returns-in-Rawtext-clause-turn c = IfSome_then c.next_text-in-Rawtext.result c.next_text-in-Rawtext.ensures.turn (λ token turned. turned raw_rules is_here text_rows)

pub returns-in-Rawtext-clause-here : goal.returns-in-Rawtext-clause-here
returns-in-Rawtext-clause-here c =
    IfSome_then c.next_text-in-Rawtext.result c.next_text-in-Rawtext.ensures.turn (λ token turned. raw_here c.args.state.now.machine.state c.in-Rawtext.is)

pub returns-in-Rawtext-clause-group : goal.returns-in-Rawtext-clause-group
returns-in-Rawtext-clause-group c =
    IfSome_then c.next_text-in-Rawtext.result c.next_text-in-Rawtext.ensures.group (λ token group. group raw_rules is_here text_rows (raw_here c.args.state.now.machine.state c.in-Rawtext.is))
