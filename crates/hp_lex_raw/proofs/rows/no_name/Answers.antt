use Rattle.std.proofs.Common.{◌≡◌, ℕ, List, [], ◌∷◌, ◌++◌, ap, ◌∙◌, append_assoc}
use Rattle.std.proofs.lemmas.Result.{IfOk-weaker}
use Rattle.hp_elements.specs.declared.token.Token.{Token}
use Rattle.hp_tokens.specs.declared.machine.Machine.{Machine}
use Rattle.hp_tokens.specs.declared.rows.Reads.{Reads}
use Rattle.hp_tokens.specs.Rows.{Row, Follows, character, plus, again}
use Rattle.hp_lex_raw.specs.Letters.{less_than, solidus}
use Rattle.hp_lex_raw.proofs.rows.no_name.Goals as goal

-- a code point was emitted before the rest of the row
behind : (r : Row) (c : ℕ) (old mid new : List Token) (m : Machine) (x : Reads) → mid ≡ old ++ character c ∷ [] → Follows r mid m new x → Follows (plus c r) old m new x
behind r c old mid new m x e f = record {
  to = f.to;
  reads = f.reads;
  emits = f.emits ∙ (ap (λ (ts : List Token). ts ++ r.emits) e ∙ append_assoc old (character c ∷ []) r.emits);
}

pub returns : goal.returns
returns c =
    let r : Row = plus solidus (again c.args.text c.args.machine.now) in
    IfOk-weaker c.push_and_again.result (λ (x : Reads). Follows r c.push_char.new.tokens c.push_and_again.new.machine c.push_and_again.new.tokens x)
    (λ (x : Reads). Follows (plus less_than r) c.args.tokens.now c.push_and_again.new.machine c.push_and_again.new.tokens x)
    (λ x f. behind r less_than c.args.tokens.now c.push_char.new.tokens c.push_and_again.new.tokens c.push_and_again.new.machine x c.in_ok-push_char.ensures f)
    c.push_and_again.ensures
