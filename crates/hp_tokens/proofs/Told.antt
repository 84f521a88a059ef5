-- What follows from what is said of an answer.
use Rattle.std.proofs.Common.{◌≡◌, ◌++◌, [], ◌∷◌, ℕ, List, Option, None, Some, Result, Ok, Err, true, false, ap, ◌∙◌, append_assoc}
use Rattle.std.specs.Prelude.{IfSome, IfNone, IfOk}
use Rattle.hp_elements.specs.declared.token.Token.{Token}
use Rattle.hp_tokens.specs.declared.machine.Machine.{Machine}
use Rattle.hp_tokens.specs.declared.rows.Reads.{Reads}
use Rattle.hp_tokens.specs.Rows.{Row, Follows, plus, character}

-- from what does not hold anything follows
pub never : {A : Type 0} → false ≡ true → A
never h = cc

pub IfSome_both : {X : Type 0} (r : Option X) {P Q R : X → Type 0} → IfSome r P → IfSome r Q → ((x : X) → P x → Q x → R x) → IfSome r R
IfSome_both None p q f = tt
IfSome_both (Some x) p q f = f x p q

pub IfNone_then : {X : Type 0} (r : Option X) {P Q : Type 0} → IfNone r P → (P → Q) → IfNone r Q
IfNone_then None p f = f p
IfNone_then (Some x) p f = tt

pub IfOk_then : {X E : Type 0} (r : Result X E) {P Q : X → Type 0} → IfOk r P → ((x : X) → P x → Q x) → IfOk r Q
IfOk_then (Ok x) h f = f x h
IfOk_then (Err e) h f = tt

-- a code point was emitted, and then the rest of a row was carried out
pub follows_plus : (c : ℕ) (row : Row) (old mid new : List Token) (m : Machine) (reads : Reads) → mid ≡ old ++ character c ∷ [] → Follows row mid m new reads → Follows (plus c row) old m new reads
follows_plus c row old mid new m reads e f = record {
  to = f.to;
  reads = f.reads;
  emits = f.emits ∙ (ap (λ (ts : List Token). ts ++ row.emits) e ∙ append_assoc old (character c ∷ []) row.emits);
}
