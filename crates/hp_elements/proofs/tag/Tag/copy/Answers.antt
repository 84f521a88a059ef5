use Rattle.std.proofs.Common.{◌≡◌, ℕ, suc, ◌==◌, List, [], ◌∷◌, length, true, false, refl, sym, ◌∙◌, arith}
use Rattle.std.proofs.lemmas.Bool.Decides.{nat_tests}
use Rattle.hp_elements.proofs.NameLemmas.{found_text}
use Rattle.hp_elements.proofs.tag.Tag.copy.Goals as goal

not_none : (n : ℕ) → (suc n == 0) ≡ false
not_none n = grind (arith, nat_tests)

none_left : {A : Type 0} (xs : List A) → (length xs == 0) ≡ true → [] ≡ xs
none_left [] h = refl
none_left (x ∷ xs) h = absurd (cc (not_none (length xs)))

pub returns-in-Some : goal.returns-in-Some
returns-in-Some c =
    let name : c.of_known.result ≡ c.args.self.now.name = c.of_known.ensures ∙ found_text c.args.self.now.name c.in-Some.known (sym c.in-Some.ensures) in
    let attributes : c.new.result ≡ c.args.self.now.attributes = c.new.ensures ∙ none_left c.args.self.now.attributes (sym c.is_empty.ensures ∙ c.if-is_empty.true) in
    rw (name, attributes) refl
