use Rattle.std.proofs.Common.{◌≡◌, ◌⊎◌, ℕ, List, [], ◌++◌, Option, None, Some, Bor, true, false, not, codes, refl, sym, ap, ◌∙◌, inl, inr}
use Rattle.std.proofs.lemmas.Bool.{true≢false}
use Rattle.std.specs.Prelude.{is_some, unwrap_or, encode_utf8_all}
use Rattle.std.specs.Option.{option_copied}
use Rattle.hp_print.specs.declared.output.Out.{Out}
use Rattle.hp_print.specs.Out.{Prints, Sight}
use Rattle.hp_print.specs.Print.{identifiers}
use Rattle.hp_print.proofs.Pieces.{prints_none, prints_as, prints_then}
use Rattle.hp_print.proofs.items.print_identifiers.Goals as goal
use Rattle.hp_print.proofs.items.print_identifiers.Goals.{else-is_none-via-then-is_none+else-is_none-2, else-is_none-via-else-is_none}

-- where there is neither of them, nothing is printed
neither : (out : Out) (s : Sight) (public system : Option (Bor (List ℕ))) → is_some public ≡ false → is_some system ≡ false → Prints out out s s (identifiers (option_copied public) (option_copied system))
neither out s None None p q = prints_none out s
neither out s None (Some system) p q = absurd (true≢false q)
neither out s (Some public) system p q = absurd (true≢false p)

-- and else both are, the missing one as an empty text
either : (public system : Option (Bor (List ℕ))) → (is_some public ≡ true) ⊎ (is_some system ≡ true)
    → codes " \"" ++ encode_utf8_all (unwrap_or (option_copied public) []) ++ codes "\" \"" ++ encode_utf8_all (unwrap_or (option_copied system) []) ++ codes "\"" ≡ identifiers (option_copied public) (option_copied system)
either None None h = absurd (elim h [ inl e ↦ true≢false (sym e) | inr e ↦ true≢false (sym e) ])
either None (Some system) h = refl
either (Some public) system h = refl

pub returns-then-is_none-2 : goal.returns-then-is_none-2
returns-then-is_none-2 g c =
    neither _ _ c.args.public c.args.system (c.is_none.ensures ∙ ap not c.if-is_none.true) (c.is_none-then-is_none.ensures ∙ ap not c.if-is_none-2.true)

pub returns : goal.returns
returns g c =
    let one : (is_some c.args.public ≡ true) ⊎ (is_some c.args.system ≡ true) = elim c.else-is_none.branch [
      | else-is_none-via-then-is_none+else-is_none-2 w ↦ inr (w.is_none-then-is_none.ensures ∙ ap not w.if-is_none-2.false)
      | else-is_none-via-else-is_none w ↦ inl (c.is_none.ensures ∙ ap not w.if-is_none.false)
    ] in
    let first = prints_then _ _ _ _ _ _ _ _ c.put.ensures c.print_identifier.ensures in
    let second = prints_then _ _ _ _ _ _ _ _ first c.put-2.ensures in
    let third = prints_then _ _ _ _ _ _ _ _ second c.print_identifier-2.ensures in
    prints_as _ _ _ _ _ _ (prints_then _ _ _ _ _ _ _ _ third c.put-3.ensures) (either c.args.public c.args.system one)
