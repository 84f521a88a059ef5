use Rattle.std.proofs.Common.{◌≡◌, ℕ, ◌||◌, Bool, true, false, refl, sym, ◌∙◌, subst, inl}
use Rattle.hp_tokens.specs.States.{is_resting}
use Rattle.hp_tokens.specs.Moves.{Lexing, move}
use Rattle.hp_tokens.specs.Advancing.{lexing, Stepped, Goes, Advances, Along, place_of, at_rest, IsGroup}
use Rattle.hp_tokens.specs.declared.rows.Step.{Step}
use Rattle.hp_tokens.proofs.OneByOne.{none_yet, one_more, rests, settled_at_rest, settled_elsewhere, moved_on, needing, asking, naming, left_here}
use Rattle.hp_tokens.proofs.Grouping.{grouped, still_open, was_emitted, left_so}
use Rattle.hp_tokens.proofs.steps.advance.Given.{Over}
use Rattle.hp_tokens.proofs.steps.advance.Goals as goal
use Rattle.hp_tokens.proofs.steps.advance.Goals.{then-is_resting, else-is_resting, In-Made}

gone : (g : Over) (c : In-Made g)
    → Goes (move (g.L.Lexes.rules c.args.lexer.now)) (lexing c.moves.state c.moves.input c.moves.rested) c.moves.tokens
    (lexing c.step.new.state c.step.new.input c.moves.rested) c.step.new.tokens c.in-Made.now
gone g c =
    let P : Step → Type 0 = λ s. Stepped (move (g.L.Lexes.rules c.args.lexer.now)) (lexing c.moves.state c.moves.input c.moves.rested) c.moves.tokens
    (lexing c.step.new.state c.step.new.input c.moves.rested) c.step.new.tokens s in
    subst P c.in-Made.is (c.in_ok-now.ensures.step c.moves.rested c.moves.invariant.settled)

further : (g : Over) (c : In-Made g) (emitted : Bool) → (c.moves.emitted || c.in-Made.now) ≡ emitted
    → Advances (g.L.Lexes.rules c.args.lexer.now) (lexing c.args.state.now c.args.input.now c.args.rested.now) c.args.tokens.now
    (lexing c.step.new.state c.step.new.input c.moves.rested) c.step.new.tokens c.moves.rested emitted
further g c emitted is =
    let P : Bool → Type 0 = λ e. Advances (g.L.Lexes.rules c.args.lexer.now) (lexing c.args.state.now c.args.input.now c.args.rested.now) c.args.tokens.now
    (lexing c.step.new.state c.step.new.input c.moves.rested) c.step.new.tokens c.moves.rested e in
    subst P is
    (one_more (g.L.Lexes.rules c.args.lexer.now) _ _ _ _ _ _ c.moves.rested c.moves.emitted c.in-Made.now c.moves.invariant.advances (gone g c) c.moves.invariant.settled)

group_here : (g : Over) (c : In-Made g) → (c.moves.emitted || c.in-Made.now) ≡ true
    → IsGroup (move (g.L.Lexes.rules c.args.lexer.now)) g.L.Lexes.here (lexing c.args.state.now c.args.input.now c.args.rested.now) c.args.tokens.now
    (lexing c.step.new.state c.step.new.input c.moves.rested) c.step.new.tokens c.moves.rested
group_here g c some =
    grouped (g.L.Lexes.rules c.args.lexer.now) g.L.Lexes.here _ _ _ _ _ _ c.moves.rested c.moves.invariant.settled (sym c.is_here.ensures ∙ c.moves-test.true)
    c.moves.emitted c.in-Made.now c.moves.invariant.advances c.moves.invariant.group (gone g c) some

pub moves-init : goal.moves-init
moves-init g c = elim c.if-is_resting.branch [
  | then-is_resting w ↦
      let here : is_resting c.args.state.now.machine.state ≡ true = sym c.is_resting.ensures ∙ w.if-is_resting.true in
      let at : c.if-is_resting.rested ≡ place_of c.args.state.now c.args.input.now = w.rested-is ∙ w.place.ensures in
      let P : ℕ → Type 0 = λ r. r ≡ (lexing c.args.state.now c.args.input.now r).rested in
      let Q : Lexing → Type 0 = λ l. Advances (g.L.Lexes.rules c.args.lexer.now) l c.args.tokens.now (lexing c.args.state.now c.args.input.now c.if-is_resting.rested) c.args.tokens.now c.if-is_resting.rested false in
      record {
        held = c.requires.held;
        settled = subst P (sym at) (settled_at_rest c.args.state.now c.args.input.now here);
        group = λ some. cc;
        advances = subst Q (rests c.args.state.now c.args.input.now c.if-is_resting.rested c.args.rested.now here) (none_yet (g.L.Lexes.rules c.args.lexer.now) _ _ _);
      }
  | else-is_resting w ↦
      let there : is_resting c.args.state.now.machine.state ≡ false = sym c.is_resting.ensures ∙ w.if-is_resting.false in
      let Q : ℕ → Type 0 = λ r. Advances (g.L.Lexes.rules c.args.lexer.now) (lexing c.args.state.now c.args.input.now r) c.args.tokens.now (lexing c.args.state.now c.args.input.now c.if-is_resting.rested) c.args.tokens.now c.if-is_resting.rested false in
      record {
        held = c.requires.held;
        settled = settled_elsewhere c.args.state.now c.args.input.now c.if-is_resting.rested there;
        group = λ some. cc;
        advances = subst Q w.rested-is (none_yet (g.L.Lexes.rules c.args.lexer.now) _ _ _);
      }
]

pub returns-then-emitted-clause-turn : goal.returns-then-emitted-clause-turn
returns-then-emitted-clause-turn g c = (
  further g (goal.at.returns-then-emitted-clause-turn g c).In-Made true c.if-emitted.true,
  at_rest (sym c.is_resting-in-moves.ensures ∙ c.if-is_resting-2.true),
)

pub moves-preserved-then-is_resting-2 : goal.moves-preserved-then-is_resting-2
moves-preserved-then-is_resting-2 g c =
    let here : is_resting c.step.new.state.machine.state ≡ true = sym c.is_resting-in-moves.ensures ∙ c.if-is_resting-2.true in
    let at : c.place-then-is_resting-2.result ≡ place_of c.step.new.state c.step.new.input = c.place-then-is_resting-2.ensures in
    let P : ℕ → Type 0 = λ r. r ≡ (lexing c.step.new.state c.step.new.input r).rested in
    let R : Bool → Type 0 = λ e. Along (g.L.Lexes.rules c.args.lexer.now) g.L.Lexes.here c.args.state.now c.args.input.now c.args.rested.now c.args.tokens.now
    c.step.new.state c.step.new.input c.place-then-is_resting-2.result c.step.new.tokens e in
    subst R (sym c.if-emitted.false) record {
      held = c.in_ok-now.ensures.held;
      settled = subst P (sym at) (settled_at_rest c.step.new.state c.step.new.input here);
      advances =
          moved_on (g.L.Lexes.rules c.args.lexer.now) _ _ c.step.new.state c.step.new.input c.step.new.tokens c.moves.rested _ here
          (further g (goal.at.moves-preserved-then-is_resting-2 g c).In-Made false c.if-emitted.false);
      group = λ some. cc;
    }

pub moves-preserved : goal.moves-preserved
moves-preserved g c =
    let there : is_resting c.step.new.state.machine.state ≡ false = sym c.is_resting-in-moves.ensures ∙ c.if-is_resting-2.false in
    record {
      held = c.in_ok-now.ensures.held;
      settled = settled_elsewhere c.step.new.state c.step.new.input c.moves.rested there;
      advances = further g (goal.at.moves-preserved g c).In-Made _ refl;
      group = λ some. (there, still_open (move (g.L.Lexes.rules c.args.lexer.now)) g.L.Lexes.here _ _ _ _ c.moves.rested (group_here g (goal.at.moves-preserved g c).In-Made some) there);
    }

pub returns-in-NeedsMore-clause-turn : goal.returns-in-NeedsMore-clause-turn
returns-in-NeedsMore-clause-turn g c =
    let P : Step → Type 0 = λ s. Stepped (move (g.L.Lexes.rules c.args.lexer.now)) (lexing c.moves.state c.moves.input c.moves.rested) c.moves.tokens
    (lexing c.step.new.state c.step.new.input c.moves.rested) c.step.new.tokens s in
    needing (g.L.Lexes.rules c.args.lexer.now) g.L.Lexes.here _ _ _ _ _ _ c.moves.rested c.moves.emitted _ c.moves.invariant.advances c.turned.ensures
    (subst P c.in-NeedsMore.is (c.in_ok-now.ensures.step c.moves.rested c.moves.invariant.settled))

pub returns-in-AskCdata-clause-turn : goal.returns-in-AskCdata-clause-turn
returns-in-AskCdata-clause-turn g c =
    let P : Step → Type 0 = λ s. Stepped (move (g.L.Lexes.rules c.args.lexer.now)) (lexing c.moves.state c.moves.input c.moves.rested) c.moves.tokens
    (lexing c.step.new.state c.step.new.input c.moves.rested) c.step.new.tokens s in
    asking (g.L.Lexes.rules c.args.lexer.now) g.L.Lexes.here _ _ _ _ _ _ c.moves.rested c.moves.emitted _ c.moves.invariant.advances c.turned-in-AskCdata.ensures
    (subst P c.in-AskCdata.is (c.in_ok-now.ensures.step c.moves.rested c.moves.invariant.settled))

pub returns-in-AskLastTag-clause-turn : goal.returns-in-AskLastTag-clause-turn
returns-in-AskLastTag-clause-turn g c =
    let P : Step → Type 0 = λ s. Stepped (move (g.L.Lexes.rules c.args.lexer.now)) (lexing c.moves.state c.moves.input c.moves.rested) c.moves.tokens
    (lexing c.step.new.state c.step.new.input c.moves.rested) c.step.new.tokens s in
    naming (g.L.Lexes.rules c.args.lexer.now) g.L.Lexes.here _ _ _ _ _ _ c.moves.rested c.moves.emitted _ c.moves.invariant.advances c.turned-in-AskLastTag.ensures
    (subst P c.in-AskLastTag.is (c.in_ok-now.ensures.step c.moves.rested c.moves.invariant.settled))

pub returns-clause-turn : goal.returns-clause-turn
returns-clause-turn g c =
    left_here (g.L.Lexes.rules c.args.lexer.now) g.L.Lexes.here _ _ _ _ c.moves.rested c.moves.emitted _ c.turned-2.ensures c.moves.invariant.advances
    (sym c.is_here.ensures ∙ c.moves-test.false)

pub returns-then-emitted-clause-group : goal.returns-then-emitted-clause-group
returns-then-emitted-clause-group g c = λ is. group_here g (goal.at.returns-then-emitted-clause-group g c).In-Made c.if-emitted.true

pub returns-in-NeedsMore-clause-group : goal.returns-in-NeedsMore-clause-group
returns-in-NeedsMore-clause-group g c = λ is.
    let P : Step → Type 0 = λ s. Stepped (move (g.L.Lexes.rules c.args.lexer.now)) (lexing c.moves.state c.moves.input c.moves.rested) c.moves.tokens
    (lexing c.step.new.state c.step.new.input c.moves.rested) c.step.new.tokens s in
    let same = subst P c.in-NeedsMore.is (c.in_ok-now.ensures.step c.moves.rested c.moves.invariant.settled) in
    let some : c.moves.emitted ≡ true = was_emitted c.moves.emitted _ _ c.turned.ensures is (λ h. cc) in
    left_so (move (g.L.Lexes.rules c.args.lexer.now)) g.L.Lexes.here _ _ _ _ _ _ c.moves.rested (c.moves.invariant.group some).1 same.1 same.2

pub returns-in-AskCdata-clause-group : goal.returns-in-AskCdata-clause-group
returns-in-AskCdata-clause-group g c = λ is.
    let P : Step → Type 0 = λ s. Stepped (move (g.L.Lexes.rules c.args.lexer.now)) (lexing c.moves.state c.moves.input c.moves.rested) c.moves.tokens
    (lexing c.step.new.state c.step.new.input c.moves.rested) c.step.new.tokens s in
    let same = subst P c.in-AskCdata.is (c.in_ok-now.ensures.step c.moves.rested c.moves.invariant.settled) in
    let some : c.moves.emitted ≡ true = was_emitted c.moves.emitted _ _ c.turned-in-AskCdata.ensures is (λ h. cc) in
    left_so (move (g.L.Lexes.rules c.args.lexer.now)) g.L.Lexes.here _ _ _ _ _ _ c.moves.rested (c.moves.invariant.group some).1 same.1 same.2

pub returns-in-AskLastTag-clause-group : goal.returns-in-AskLastTag-clause-group
returns-in-AskLastTag-clause-group g c = λ is.
    let P : Step → Type 0 = λ s. Stepped (move (g.L.Lexes.rules c.args.lexer.now)) (lexing c.moves.state c.moves.input c.moves.rested) c.moves.tokens
    (lexing c.step.new.state c.step.new.input c.moves.rested) c.step.new.tokens s in
    let same = subst P c.in-AskLastTag.is (c.in_ok-now.ensures.step c.moves.rested c.moves.invariant.settled) in
    let some : c.moves.emitted ≡ true = was_emitted c.moves.emitted _ _ c.turned-in-AskLastTag.ensures is (λ h. cc) in
    left_so (move (g.L.Lexes.rules c.args.lexer.now)) g.L.Lexes.here _ _ _ _ _ _ c.moves.rested (c.moves.invariant.group some).1 same.1 same.2

pub returns-clause-group : goal.returns-clause-group
returns-clause-group g c = λ is.
    let some : c.moves.emitted ≡ true = was_emitted c.moves.emitted _ _ c.turned-2.ensures is (λ h. cc) in
    inl (c.moves.invariant.group some).1
