use Rattle.std.proofs.Common.{◌≡◌, ap, ◌∙◌, subst, sym, ℕ, List, Bool}
use Rattle.std.proofs.lemmas.Str.{chars-nil}
use Rattle.hp_tokens.specs.declared.rows.EndStep.{EndStep}
use Rattle.hp_tokens.specs.Advancing.{lexing, Goes, EndSteps}
use Rattle.hp_tokens.specs.Moves.{end_move}
use Rattle.hp_tokens.proofs.OneByOne.{end_init, end_more, end_done, end_left}
use Rattle.hp_tokens.proofs.steps.at_end.Given.{Over}
use Rattle.hp_tokens.proofs.steps.at_end.Goals as goal
use Rattle.hp_tokens.proofs.steps.at_end.Goals.{In-Made}

pub moves-init : goal.moves-init
moves-init g c = end_init (g.L.Lexes.rules c.args.lexer.now) c.args.state.now c.of_str-input.result c.args.tokens.now
    (c.of_str-input.ensures ∙ ap (λ (xs : List ℕ). record { place = 4294967296; text = xs }) chars-nil) c.requires.held

made : (g : Over) (c : In-Made g) (rested : ℕ) → rested ≡ (lexing c.moves.state c.moves.input rested).rested
    → (emitted : Bool) × Goes (end_move (g.L.Lexes.rules c.args.lexer.now)) (lexing c.moves.state c.moves.input rested) c.moves.tokens
    (lexing c.end.new.state c.end.new.input rested) c.end.new.tokens emitted
made g c =
    let P : EndStep → Type 0 = λ s. EndSteps (g.L.Lexes.rules c.args.lexer.now) c.moves.state c.moves.input c.moves.tokens c.end.new.state c.end.new.input c.end.new.tokens s in
    subst P c.in-Made.is c.in_ok-end.ensures.step

pub moves-smaller : goal.moves-smaller
moves-smaller g c =
    let now = c.moves.invariant.leads 0 in
    (made g c now.0 now.1).1.smaller

pub moves-preserved : goal.moves-preserved
moves-preserved g c =
    end_more (g.L.Lexes.rules c.args.lexer.now) _ _ c.moves.state c.moves.input c.moves.tokens c.end.new.state c.end.new.input c.end.new.tokens
    c.moves.invariant c.in_ok-end.ensures.held c.in_ok-end.ensures.ended (made g c)

pub returns-in-Ended : goal.returns-in-Ended
returns-in-Ended g c = λ rested.
    let P : EndStep → Type 0 = λ s. EndSteps (g.L.Lexes.rules c.args.lexer.now) c.moves.state c.moves.input c.moves.tokens c.end.new.state c.end.new.input c.end.new.tokens s in
    end_done (g.L.Lexes.rules c.args.lexer.now) _ _ c.moves.state c.moves.input c.moves.tokens c.end.new.tokens c.moves.invariant
    (subst P c.in-Ended.is c.in_ok-end.ensures.step) rested

pub returns : goal.returns
returns g c = λ rested. (
  end_left (g.L.Lexes.rules c.args.lexer.now) _ _ c.moves.state _ c.moves.tokens c.moves.invariant rested,
  sym c.is_here.ensures ∙ c.moves-test.false,
)
