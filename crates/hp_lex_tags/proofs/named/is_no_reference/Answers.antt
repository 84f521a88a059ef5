use Rattle.std.proofs.Common.{◌≡◌, ℕ, Bool, true, false, ◌&&◌, ◌||◌, not, refl, sym, ◌∙◌, Option, Some, eq-eqb}
use Rattle.std.specs.Prelude.{◌==◌}
use Rattle.std.specs.Char.{is_ascii_alphanumeric}
use Rattle.std.proofs.lemmas.Bool.{ne_eqb}
use Rattle.hp_tokens.specs.States.{is_in_value}
use Rattle.hp_tokens.proofs.Told.{never}
use Rattle.hp_lex_tags.specs.Named.{goes_on}
use Rattle.hp_lex_tags.proofs.named.is_no_reference.Goals as goal
use Rattle.hp_lex_tags.proofs.named.is_no_reference.Goals.{then-is_in_value, else-is_in_value}

both : (a b : Bool) → a ≡ true → b ≡ true → (a && b) ≡ true
both true b h k = k
both false b h k = h

first_holds : (b y : Bool) → b ≡ true → b ≡ (b || y)
first_holds true y h = refl
first_holds false y h = cc

second_holds : (b x y : Bool) → b ≡ false → x ≡ y → x ≡ (b || y)
second_holds true x y h k = cc
second_holds false x y h k = k

told : (a x : Bool) (behind : Option ℕ) (c : ℕ) → a ≡ true → behind ≡ Some c → x ≡ (c == 61 || is_ascii_alphanumeric c) → x ≡ (a && goes_on behind)
told a x behind c h is k = rw (h, is) k

pub returns-then-c-eq61 : goal.returns-then-c-eq61
returns-then-c-eq61 c =
    let open_value : (is_in_value c.args.machine.now.return_to && not c.args.found.now.ends_with_semicolon) ≡ true = elim c.if-is_in_value.branch [
      | then-is_in_value w ↦ both _ _ (sym c.is_in_value.ensures ∙ w.if-is_in_value.true) (sym w.value-is ∙ c.if-not-found.true)
      | else-is_in_value w ↦ never (sym w.if-is_in_value.false ∙ (sym w.value-is ∙ c.if-not-found.true))
    ] in
    told _ _ c.args.behind c.in-Some.c open_value c.in-Some.is (first_holds (c.in-Some.c == 61) _ (eq-eqb c.in-Some.c 61 c.if-c-eq61.true))

pub returns-else-c-eq61 : goal.returns-else-c-eq61
returns-else-c-eq61 c =
    let open_value : (is_in_value c.args.machine.now.return_to && not c.args.found.now.ends_with_semicolon) ≡ true = elim c.if-is_in_value.branch [
      | then-is_in_value w ↦ both _ _ (sym c.is_in_value.ensures ∙ w.if-is_in_value.true) (sym w.value-is ∙ c.if-not-found.true)
      | else-is_in_value w ↦ never (sym w.if-is_in_value.false ∙ (sym w.value-is ∙ c.if-not-found.true))
    ] in
    told _ _ c.args.behind c.in-Some.c open_value c.in-Some.is
    (second_holds (c.in-Some.c == 61) _ _ (ne_eqb c.in-Some.c 61 c.if-c-eq61.false) c.is_ascii_alphanumeric.ensures.value)
