use Rattle.std.proofs.Common.{List, ℕ, refl, ap, arith, ◌≡◌}
use Rattle.std.specs.Prelude.{sum_by}
use Rattle.std.specs.Char.{len_utf8}
use Rattle.hp_tokens.specs.declared.state.State.{State}
use Rattle.hp_tokens.specs.declared.machine.Machine.{Machine}
use Rattle.hp_tokens.specs.Advancing.{lexing}
use Rattle.hp_lex_tags.specs.Decided.{EmitsOne}
use Rattle.hp_lex_tags.specs.Tags.{is_here}
use Rattle.hp_lex_tags.specs.Usual.{ReferenceTaken}
use Rattle.hp_lex_tags.proofs.UsualReference.{reference_emits}
use Rattle.hp_lex_tags.proofs.usual_reference.read_reference.Goals as goal
use Rattle.std.proofs.Common.{subst, sym}

pub returns-clause-emits : goal.returns-clause-emits
returns-clause-emits c =
    let stands : ℕ = c.in_ok-stands_for.stands_for in
    let taken : ReferenceTaken c.args.names.now c.args.input.now stands c.take_reference.new.input = c.in_ok-stands_for.ensures.some in
    let R : Machine → Type 0 = λ m. EmitsOne c.args.names.now (lexing c.args.state.now c.args.input.now c.args.rested.now) (lexing (record c.args.state.now { machine = m }) c.take_reference.new.input c.place-place.result) stands c.place-place.result in
    subst R (sym c.enter.ensures)
    (reference_emits c.args.names.now c.args.state.now c.args.input.now taken.mid c.take_reference.new.input stands taken.length c.args.rested.now c.place-place.result
    (c.if-not-stands_in_data.ensures.data refl) (c.if-not-stands_in_data.ensures.clear refl) (c.if-not-stands_in_data.ensures.ahead refl) c.place-place.ensures.place
    taken.begins taken.decided taken.skipped taken.read)

pub returns-clause-here : goal.returns-clause-here
returns-clause-here c = ap (λ (s : State). is_here s) (c.if-not-stands_in_data.ensures.data refl)

pub returns-clause-no_nul : goal.returns-clause-no_nul
returns-clause-no_nul c = c.in_ok-stands_for.ensures.some.decided.some

pub returns-clause-held : goal.returns-clause-held
returns-clause-held c =
    let none : sum_by len_utf8 c.args.state.now.ahead ≡ 0 = ap (λ (xs : List ℕ). sum_by len_utf8 xs) (c.if-not-stands_in_data.ensures.ahead refl) in omega (arith, none)
