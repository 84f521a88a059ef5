use Rattle.std.proofs.Common.{◌≡◌, ◌++◌, sym, ◌∙◌, drop, arith}
use lib.Utf8.{encode}
use Rattle.hp_tokens.proofs.Characters.{past-IsAt, past-chars}
use Rattle.hp_tokens.proofs.cursor.Cursor.next.Goals as goal
use Rattle.hp_tokens.proofs.cursor.Cursor.next.Goals.{After-self-1}

front : (c : After-self-1) → drop c.self.inside.at c.self.inside.text.now ≡ encode c.in_ok-c.c ++ c.next.new.self.rest.now
front c = sym c.range_from.ensures.value ∙ (sym c.chars.ensures.rest ∙ c.in_ok-c.ensures.steps.0)

pub invariant_of-self : goal.invariant_of-self
invariant_of-self c = past-IsAt _ _ _ _ _ c.len_utf8.ensures.value c.self.invariant (front c)

pub returns : goal.returns
returns c = rw (← c.self.view_is) record {
  text = past-chars _ _ _ _ _ c.len_utf8.ensures.value c.self.invariant (front c);
  place = omega (arith, c.len_utf8.ensures.value);
}
