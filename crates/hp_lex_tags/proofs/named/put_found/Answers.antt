use Rattle.std.proofs.Common.{◌≡◌, ◌++◌, ℕ, Option, ap, ◌∙◌}
use Rattle.hp_tokens.specs.declared.machine.Machine.{Machine}
use Rattle.hp_tokens.specs.declared.state.State.{State}
use Rattle.hp_tokens.specs.States.{enter, return_state}
use Rattle.hp_tokens.specs.Rows.{with_buffer, flushed_tokens}
use Rattle.hp_tokens.specs.Advancing.{unread}
use Rattle.hp_lex_tags.specs.Named.{is_no_reference, with_found, gone_back}
use Rattle.hp_lex_tags.proofs.NamedSteps.{with_found_is}
use Rattle.hp_lex_tags.proofs.named.put_found.Goals as goal

pub returns : goal.returns
returns c =
    let m : Machine = c.args.state.now.machine in
    let there : with_buffer c.read_into.new.buffer m ≡ with_found c.args.found.now m (unread c.args.state.now c.args.input.now) =
    with_found_is c.args.found.now m c.args.state.now.ahead c.args.input.now.text c.in_ok-name.name c.take_front.new.text c.read_into.new.buffer
    c.is_no_reference-kept.result c.requires c.in_ok-name.ensures.front c.in_ok-name.ensures.rest
    (c.is_no_reference-kept.ensures ∙ ap (λ (o : Option ℕ). is_no_reference c.args.found.now m o) c.peek.ensures) c.in_ok-read_into.ensures in (
      c.requires,
      c.enter.ensures ∙ (ap (λ (s : State). enter s c.flush.new.self) c.state-back.ensures ∙ (ap (enter (return_state m.return_to)) c.in_ok-flush.ensures.to ∙ ap (λ (n : Machine). gone_back n) there)),
      c.in_ok-name.ensures.rest,
      c.in_ok-flush.ensures.emits ∙ ap (λ (n : Machine). c.args.tokens.now ++ flushed_tokens n) there,
    )
