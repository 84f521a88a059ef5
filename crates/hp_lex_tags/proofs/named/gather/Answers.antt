use Rattle.std.proofs.Common.{◌≡◌, ℕ, List, Bool, true, refl, ap, sym, ◌∙◌}
use Rattle.hp_names.specs.References.{Reference}
use Rattle.hp_names.specs.Longest.{is_open}
use Rattle.hp_tokens.proofs.Told.{never}
use Rattle.hp_lex_tags.proofs.named.gather.Goals as goal

still_open : (names : List Reference) (old new : List ℕ) (more : Bool) → new ≡ old → more ≡ is_open names old → more ≡ true → is_open names new ≡ true
still_open names old new more same is h = ap (λ (xs : List ℕ). is_open names xs) same ∙ (sym is ∙ h)

pub returns-then-not-branch : goal.returns-then-not-branch
returns-then-not-branch c =
    let ahead = c.in_ok-read_ahead.ensures in
    let before = c.reading.invariant in
    let none = ahead.all c.if-not-branch.true in record {
      same = record {
        machine = ahead.machine ∙ before.machine;
        text = ahead.text ∙ before.text;
        place = ahead.place ∙ before.place;
        held = ahead.held;
      };
      closed = λ e. never e;
      undecided = λ e. (none.0, still_open c.args.names.now c.reading.state.ahead c.read_ahead.new.self.ahead c.is_open.result none.1 c.is_open.ensures.open c.reading-test.true);
    }

pub reading-init : goal.reading-init
reading-init c = record { machine = refl; text = refl; place = refl; held = c.requires }

pub reading-preserved : goal.reading-preserved
reading-preserved c =
    let ahead = c.in_ok-read_ahead.ensures in
    let before = c.reading.invariant in
    record { machine = ahead.machine ∙ before.machine; text = ahead.text ∙ before.text; place = ahead.place ∙ before.place; held = ahead.held }
