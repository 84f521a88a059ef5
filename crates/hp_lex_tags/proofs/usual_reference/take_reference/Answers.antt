use Rattle.std.proofs.Common.{ℕ, List, subst}
use Rattle.hp_lex_tags.specs.Decided.{IsReference}
use Rattle.hp_lex_tags.proofs.usual_reference.take_reference.Goals as goal

pub returns-clause-some : goal.returns-clause-some
returns-clause-some c =
    let U : List ℕ → Type 0 = λ xs. IsReference c.args.names.now xs c.in_ok-usual.usual.stands_for c.in_ok-usual.usual.length in
    record {
      length = c.in_ok-usual.usual.length;
      mid = c.skip_ascii.new.self;
      begins = c.is_at_ampersand.ensures c.if-not-is_at_ampersand.false;
      decided = subst U c.behind_front.ensures.chars c.in_ok-usual.ensures;
      skipped = c.skip_ascii.ensures;
      read = c.skip_ascii-2.ensures;
    }
