use Rattle.std.proofs.Common.{List, ap, subst, sym}
use Rattle.hp_elements.specs.declared.token.Token.{Token}
use Rattle.hp_tokens.specs.declared.state.State.{State}
use Rattle.hp_tokens.specs.declared.rows.Turn.TheVariants as turns
use Rattle.hp_tokens.specs.Moves.{move}
use Rattle.hp_tokens.specs.States.{is_resting}
use Rattle.hp_tokens.specs.Advancing.{lexing, IsGroup, Turned}
use Rattle.hp_lex_tags.specs.Tags.{is_here, tag_rules}
use Rattle.hp_lex_tags.proofs.UsualReference.{emits_group, emits_turn}
use Rattle.hp_lex_tags.proofs.usual_reference.emit_reference.Goals as goal

pub returns-in_ok-push_char-in-Some-clause-turn : goal.returns-in_ok-push_char-in-Some-clause-turn
returns-in_ok-push_char-in-Some-clause-turn c =
    let old = lexing c.args.state.now c.args.input.now c.args.rested.now in
    let new = lexing c.read_reference.new.state c.read_reference.new.input c.read_reference.new.rested in
    let P : List Token → Type 0 = λ tokens. Turned (tag_rules c.args.names.now) is_here old c.args.tokens.now new tokens c.read_reference.new.rested turns.Emitted in
    λ done. subst P (sym c.in_ok-push_char-in-Some.ensures)
    (emits_turn c.args.names.now old new c.in-Some.stands_for c.read_reference.new.rested c.args.tokens.now c.in-Some.ensures.emits (ap (λ (s : State). is_resting s) c.in-Some.ensures.rests))

pub returns-in_ok-push_char-in-Some-clause-group : goal.returns-in_ok-push_char-in-Some-clause-group
returns-in_ok-push_char-in-Some-clause-group c =
    let old = lexing c.args.state.now c.args.input.now c.args.rested.now in
    let new = lexing c.read_reference.new.state c.read_reference.new.input c.read_reference.new.rested in
    let P : List Token → Type 0 = λ tokens. IsGroup (move (tag_rules c.args.names.now)) is_here old c.args.tokens.now new tokens c.read_reference.new.rested in
    λ done. subst P (sym c.in_ok-push_char-in-Some.ensures)
    (emits_group c.args.names.now old new c.in-Some.stands_for c.read_reference.new.rested c.args.tokens.now c.in-Some.ensures.emits)
