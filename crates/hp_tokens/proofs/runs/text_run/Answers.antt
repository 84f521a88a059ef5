use Rattle.std.proofs.Common.{ℕ, List, Some, inl, inr, ap, sym, ◌∙◌, arith}
use Rattle.hp_elements.specs.declared.token.Token.TheVariants.{Characters}
use Rattle.hp_elements.specs.declared.token.CharClass.TheVariants.{White}
use Rattle.hp_tokens.proofs.Texts.{has_none}
use Rattle.hp_tokens.proofs.PlainRuns.{line_feed_taken, blanks_taken, others_taken, text_answer}
use Rattle.hp_tokens.proofs.runs.text_run.Goals as goal

pub returns-in-10-clause-ran : goal.returns-in-10-clause-ran
returns-in-10-clause-ran g c =
    text_answer g.T.Table.has_row g.T.Table.row_of g.R.Run.passes g.met.R.Run.no_cr g.met.R.TextRun.other c.args.state.now
    c.args.input.now c.next.new.self (Some (Characters White c.of_char.result))
    c.requires.row c.requires.blanks c.requires.others c.if-state.false (has_none _ c.if-not-is_empty.ensures)
    (inl (line_feed_taken c.args.input.now c.next.new.self c.next.result _
    (sym c.peek.ensures ∙ (c.in_ok-peek.was ∙ ap (λ (x : ℕ). Some x) c.in-10.is)) c.next.ensures (ap (λ (t : List ℕ). Characters White t) c.of_char.ensures)))

pub returns-in-9-clause-ran : goal.returns-in-9-clause-ran
returns-in-9-clause-ran g c =
    text_answer g.T.Table.has_row g.T.Table.row_of g.R.Run.passes g.met.R.Run.no_cr g.met.R.TextRun.other c.args.state.now
    c.args.input.now c.take_blanks.new.self c.one_token.result
    c.requires.row c.requires.blanks c.requires.others c.if-state.false (has_none _ c.if-not-is_empty.ensures)
    (blanks_taken g.R.Run.passes c.args.input.now c.take_blanks.new.self c.take_blanks.result c.one_token.result (sym c.peek.ensures ∙ c.in_ok-peek.was)
    (λ feed. elim c.in-9.is [
      | inl tab ↦ omega (arith, feed, tab)
      | inr rest ↦ elim rest [ inl form_feed ↦ omega (arith, feed, form_feed) | inr space ↦ omega (arith, feed, space) ]
    ]) c.take_blanks.ensures.run c.one_token.ensures)

pub returns-in_default-clause-ran : goal.returns-in_default-clause-ran
returns-in_default-clause-ran g c =
    text_answer g.T.Table.has_row g.T.Table.row_of g.R.Run.passes g.met.R.Run.no_cr g.met.R.TextRun.other c.args.state.now
    c.args.input.now c.take_text.new.self c.one_token-in_default.result
    c.requires.row c.requires.blanks c.requires.others c.if-state.false (has_none _ c.if-not-is_empty.ensures)
    (others_taken g.R.Run.passes g.met.R.TextRun.other c.args.input.now c.take_text.new.self c.take_text.result c.one_token-in_default.result
    c.take_text.ensures.run c.one_token-in_default.ensures)
