use Rattle.std.proofs.Common.{◌≡◌, ◌≤◌, ℕ, List, ◌∷◌, ◌++◌, ap, ◌∙◌, sym, subst, arith, length, drop}
use Rattle.std.specs.Prelude.{string_bytes}
use Rattle.std.specs.Str.{chars}
use Rattle.hp_elements.specs.Names.{text_of}
use Rattle.hp_elements.proofs.NameLemmas.{known_utf8}
use Rattle.hp_tokens.specs.Texts.{spelled, IsStored}
use Rattle.hp_tokens.specs.declared.owned.Store.{Store}
use Rattle.hp_tokens.proofs.Texts.{front-within, dropped-utf8, dropped-chars, removed-utf8, removed-chars, width-positive}
use Rattle.hp_tokens.proofs.owned.OwnedText.take_first.Goals as goal
use Rattle.hp_tokens.proofs.owned.OwnedText.take_first.Goals.{in-Long-1, in-Few-1}

pub drop_front-requires : goal.drop_front-requires
drop_front-requires c =
    let P : Store → Type 0 = λ s. IsStored s in
    front-within c.in-Few.bytes _ c.in_ok-c.c (subst P c.in-Few.is c.self.invariant) (sym (ap spelled c.in-Few.is) ∙ c.self.view_is) c.in_ok-c.ensures _ c.len_utf8.ensures.value

pub remove-requires-clause-in_bounds : goal.remove-requires-clause-in_bounds
remove-requires-clause-in_bounds c =
    let P : Store → Type 0 = λ s. IsStored s in
    let some = width-positive (string_bytes c.in-Long.text) _ c.in_ok-c.c (subst P c.in-Long.is c.self.invariant) (sym (ap spelled c.in-Long.is) ∙ c.self.view_is) c.in_ok-c.ensures in
    omega (arith, some, c.as_bytes-bytes.ensures.len, ap length c.as_bytes-bytes.ensures.value)

pub drop_front-requires-in-Named : goal.drop_front-requires-in-Named
drop_front-requires-in-Named c =
    let whole : c.extend.new.self ≡ text_of c.in-Named.known = c.extend.ensures ∙ (ap (λ (xs : List ℕ). xs ++ c.as_bytes.result.now) c.new-bytes.ensures ∙ (c.as_bytes.ensures.value ∙ c.text.ensures)) in
    let P : List ℕ → Type 0 = λ xs. c.len_utf8-in-Named.result ≤ length xs in
    subst P (sym whole)
    (front-within (text_of c.in-Named.known) _ c.in_ok-c.c (known_utf8 c.in-Named.known) (sym (ap spelled c.in-Named.is) ∙ c.self.view_is) c.in_ok-c.ensures _ c.len_utf8-in-Named.ensures.value)

pub invariant_of-self : goal.invariant_of-self
invariant_of-self c =
    let P : Store → Type 0 = λ s. IsStored s in
    dropped-utf8 c.in-Few.bytes _ c.in_ok-c.c (subst P c.in-Few.is c.self.invariant) (sym (ap spelled c.in-Few.is) ∙ c.self.view_is) c.in_ok-c.ensures _ _ c.len_utf8.ensures.value c.drop_front.ensures

pub invariant_of-self-in-Long : goal.invariant_of-self-in-Long
invariant_of-self-in-Long c =
    let P : Store → Type 0 = λ s. IsStored s in
    removed-utf8 (string_bytes c.in-Long.text) _ c.in_ok-c.c (subst P c.in-Long.is c.self.invariant) (sym (ap spelled c.in-Long.is) ∙ c.self.view_is) c.in_ok-c.ensures _ _ _ c.remove.ensures.bytes.1 c.remove.ensures.bytes.2

pub invariant_of-self-in-Named-2 : goal.invariant_of-self-in-Named-2
invariant_of-self-in-Named-2 c =
    let whole : c.extend.new.self ≡ text_of c.in-Named.known = c.extend.ensures ∙ (ap (λ (xs : List ℕ). xs ++ c.as_bytes.result.now) c.new-bytes.ensures ∙ (c.as_bytes.ensures.value ∙ c.text.ensures)) in
    dropped-utf8 (text_of c.in-Named.known) _ c.in_ok-c.c (known_utf8 c.in-Named.known) (sym (ap spelled c.in-Named.is) ∙ c.self.view_is) c.in_ok-c.ensures _ _ c.len_utf8-in-Named.ensures.value
    (c.drop_front-in-Named.ensures ∙ ap (λ (xs : List ℕ). drop c.len_utf8-in-Named.result xs) whole)

pub returns-in-Few : goal.returns-in-Few
returns-in-Few c =
    let P : Store → Type 0 = λ s. IsStored s in
    dropped-chars c.in-Few.bytes _ c.in_ok-c.c (subst P c.in-Few.is c.self.invariant) (sym (ap spelled c.in-Few.is) ∙ c.self.view_is) c.in_ok-c.ensures _ _ c.len_utf8.ensures.value c.drop_front.ensures

pub returns-in-Long : goal.returns-in-Long
returns-in-Long c =
    let P : Store → Type 0 = λ s. IsStored s in
    removed-chars (string_bytes c.in-Long.text) _ c.in_ok-c.c (subst P c.in-Long.is c.self.invariant) (sym (ap spelled c.in-Long.is) ∙ c.self.view_is) c.in_ok-c.ensures _ _ _ c.remove.ensures.bytes.1 c.remove.ensures.bytes.2

pub returns-in-Named : goal.returns-in-Named
returns-in-Named c =
    let whole : c.extend.new.self ≡ text_of c.in-Named.known = c.extend.ensures ∙ (ap (λ (xs : List ℕ). xs ++ c.as_bytes.result.now) c.new-bytes.ensures ∙ (c.as_bytes.ensures.value ∙ c.text.ensures)) in
    let taken : c.args.self.now ≡ c.in_ok-c.c ∷ chars c.drop_front-in-Named.new.self =
    dropped-chars (text_of c.in-Named.known) _ c.in_ok-c.c (known_utf8 c.in-Named.known) (sym (ap spelled c.in-Named.is) ∙ c.self.view_is) c.in_ok-c.ensures _ _ c.len_utf8-in-Named.ensures.value
    (c.drop_front-in-Named.ensures ∙ ap (λ (xs : List ℕ). drop c.len_utf8-in-Named.result xs) whole)
    in
    elim c.match-self-2.branch [ in-Long-1 w ↦ rw w.self-is taken | in-Few-1 w ↦ rw w.self-is taken ]
