use Rattle.std.proofs.Common.{◌≡◌, ℕ, List, true, false, refl, ap, sym, ◌∙◌}
use Rattle.hp_tokens.specs.declared.machine.Machine.{Machine}
use Rattle.hp_tokens.specs.declared.lexing.LexState.{LexState}
use Rattle.hp_tokens.proofs.Told.{never}
use Rattle.hp_lex_markup.specs.Words.{is_open}
use Rattle.hp_lex_markup.proofs.words.gather.Goals as goal

still_open : (old new : LexState) → new.machine ≡ old.machine → new.ahead ≡ old.ahead → true ≡ is_open old.machine.state old.ahead
    → is_open new.machine.state new.ahead ≡ true
still_open old new m a h =
    ap (λ (x : Machine). is_open x.state new.ahead) m ∙ (ap (λ (xs : List ℕ). is_open old.machine.state xs) a ∙ sym h)

pub returns-then-not-branch : goal.returns-then-not-branch
returns-then-not-branch c =
    let ahead = c.in_ok-read_ahead.ensures in
    let before = c.reading.invariant in
    let none = ahead.all c.if-not-branch.true in record {
      same = record {
        machine = ahead.machine ∙ before.machine;
        text = ahead.text ∙ before.text;
        place = ahead.place ∙ before.place;
        held = ahead.held;
      };
      closed = λ e. never e;
      undecided = λ e. (none.0, still_open c.reading.state c.read_ahead.new.self ahead.machine none.1 (c.reading-test.ensures {u = tt}));
    }

pub reading-init : goal.reading-init
reading-init c = record { machine = refl; text = refl; place = refl; held = c.requires }

pub reading-preserved : goal.reading-preserved
reading-preserved c =
    let ahead = c.in_ok-read_ahead.ensures in
    let before = c.reading.invariant in
    record { machine = ahead.machine ∙ before.machine; text = ahead.text ∙ before.text; place = ahead.place ∙ before.place; held = ahead.held }
