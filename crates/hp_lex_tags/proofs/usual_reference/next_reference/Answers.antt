use Rattle.std.proofs.Common.{◌≡◌, List, ℕ, [], ◌∷◌, map, true, false, refl, sym, ap, subst, arith}
use Rattle.std.specs.Prelude.{◌==◌}
use Rattle.std.specs.List.{list_all}
use Rattle.hp_tokens.specs.declared.state.State.{State}
use Rattle.hp_tokens.specs.declared.rows.Turn.TheVariants as turns
use Rattle.hp_tokens.specs.Plain.{none_of}
use Rattle.hp_tokens.specs.Rows.{character}
use Rattle.hp_tokens.specs.States.{is_resting}
use Rattle.hp_tokens.specs.Advancing.{lexing, Turned}
use Rattle.hp_lex_tags.specs.Tags.{is_here, tag_rules}
use Rattle.hp_lex_tags.proofs.UsualReference.{emits_turn}
use Rattle.hp_lex_tags.proofs.usual_reference.next_reference.Goals as goal

pub returns-clause-turn : goal.returns-clause-turn
returns-clause-turn c =
    let old = lexing c.args.state.now c.args.input.now c.args.rested.now in
    let new = lexing c.read_reference.new.state c.read_reference.new.input c.read_reference.new.rested in
    let P : List ℕ → Type 0 = λ text. Turned (tag_rules c.args.names.now) is_here old [] new (map character text) c.read_reference.new.rested turns.Emitted in
    subst P (sym c.of_char.ensures)
    (emits_turn c.args.names.now old new c.in_ok-stands_for.stands_for c.read_reference.new.rested [] c.in_ok-stands_for.ensures.emits (ap (λ (s : State). is_resting s) c.in_ok-stands_for.ensures.rests))

some_no_nul : (x : ℕ) → (x == 0) ≡ false → list_all (none_of (0 ∷ [])) (x ∷ []) ≡ true
some_no_nul x some = rw some refl

pub returns-clause-no_nul : goal.returns-clause-no_nul
returns-clause-no_nul c = rw c.of_char.ensures (some_no_nul c.in_ok-stands_for.stands_for c.in_ok-stands_for.ensures.no_nul)

pub returns-clause-long : goal.returns-clause-long
returns-clause-long c = rw c.of_char.ensures (omega arith)
