use Rattle.std.proofs.Common.{ℕ, ◌∙◌, ap, sym, refl, not, nat_eq, length}
use Rattle.hp_names.specs.Longest.{longest}
use Rattle.hp_tokens.specs.Advancing.{unread, lexing}
use Rattle.hp_tokens.proofs.Stepping.{no_pair_at, text_of_some, by_rows, nothing_unread}
use Rattle.hp_lex_tags.specs.Rows.{has_row, row}
use Rattle.hp_lex_tags.specs.Tags.{tag_rules}
use Rattle.hp_lex_tags.proofs.NamedSteps.{tags_rows, step_goes, step_needs, decided_held}
use Rattle.hp_lex_tags.proofs.named.step.Goals as goal

pub returns-in_default-clause-step : goal.returns-in_default-clause-step
returns-in_default-clause-step c = λ rested settled.
    (nothing_unread (tag_rules c.args.names.now) (lexing c.args.state.now c.args.input.now rested) (sym c.peek.ensures ∙ c.in_default.is), refl, refl)

pub returns-then-is_pair_next-clause-step : goal.returns-then-is_pair_next-clause-step
returns-then-is_pair_next-clause-step c =
    c.drop_line_feed.ensures.dropped _ has_row row c.args.tokens.now (by_rows (tag_rules c.args.names.now) has_row row (tags_rows c.args.names.now))

pub returns-then-not-decided-clause-step : goal.returns-then-not-decided-clause-step
returns-then-not-decided-clause-step c = λ rested settled.
    let text = text_of_some (unread c.args.state.now c.args.input.now) (sym c.in-Some.ensures) in
    let no_pair = sym c.is_pair_next.ensures ∙ c.if-is_pair_next.false in
    let no_lf = no_pair_at c.args.state.now.machine.after_cr (unread c.args.state.now c.args.input.now) no_pair c.in-Some.field-0 text.0 text.1 in
    let undecided = c.in_ok-decided.ensures.undecided c.if-not-decided.true in
    let needs = step_needs c.args.names.now c.args.state.now c.args.input.now c.in-Some.field-0 text.0 c.gather.new.state c.gather.new.input rested
    c.requires.here text.1 no_lf c.in_ok-decided.ensures.same undecided.0 undecided.1 in
    (needs.0, needs.1, refl)

pub returns-clause-step : goal.returns-clause-step
returns-clause-step c = λ rested settled.
    let text = text_of_some (unread c.args.state.now c.args.input.now) (sym c.in-Some.ensures) in
    let no_pair = sym c.is_pair_next.ensures ∙ c.if-is_pair_next.false in
    let no_lf = no_pair_at c.args.state.now.machine.after_cr (unread c.args.state.now c.args.input.now) no_pair c.in-Some.field-0 text.0 text.1 in
    let flag = ap (λ (x : ℕ). not (nat_eq x c.len-before.result)) c.len.ensures
    ∙ ap (λ (x : ℕ). not (nat_eq (length c.decide.new.tokens) x)) c.len-before.ensures in
    step_goes c.args.names.now c.args.state.now c.args.input.now c.in-Some.field-0 text.0 c.gather.new.state c.gather.new.input rested
    c.requires.here text.1 no_lf c.in_ok-decided.ensures.same (c.in_ok-decided.ensures.closed c.if-not-decided.false)
    c.decide.new.state c.args.tokens.now c.decide.new.tokens _ c.in_ok-decide.ensures settled flag

pub returns-clause-held : goal.returns-clause-held
returns-clause-held c =
    decided_held (longest c.args.names.now c.gather.new.state.ahead) c.gather.new.state c.gather.new.input c.decide.new.state
    c.args.tokens.now c.decide.new.tokens c.in_ok-decide.ensures c.in_ok-decided.ensures.same.held

pub returns-in_default-clause-held : goal.returns-in_default-clause-held
returns-in_default-clause-held c = c.requires.held

pub returns-then-is_pair_next-clause-held : goal.returns-then-is_pair_next-clause-held
returns-then-is_pair_next-clause-held c = c.drop_line_feed.ensures.held

pub returns-then-not-decided-clause-held : goal.returns-then-not-decided-clause-held
returns-then-not-decided-clause-held c = c.in_ok-decided.ensures.same.held
