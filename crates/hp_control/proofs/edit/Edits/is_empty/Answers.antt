use Rattle.std.proofs.Common.{◌≡◌, suc, List, [], ◌∷◌, length, Bool, IsTrue, refl, sym, ap, ◌∙◌, arith}
use Rattle.std.specs.Prelude.{◌==◌, ◌↔◌}
use Rattle.std.proofs.lemmas.Bool.{eqb-true}
use Rattle.hp_control.proofs.edit.Edits.is_empty.Goals as goal

tells_empty : {X : Type 0} (xs : List X) (b : Bool) → b ≡ (length xs == 0) → IsTrue b ↔ (xs ≡ [])
tells_empty [] b e = (λ t. refl, λ u. e)
tells_empty (x ∷ xs) b e = (λ t. let z : suc (length xs) ≡ 0 = eqb-true (suc (length xs)) 0 (sym e ∙ t) in absurd (omega arith), λ u. absurd (cc))

pub returns : goal.returns
returns c = tells_empty c.args.self.now c.is_empty.result (c.is_empty.ensures ∙ ap (λ xs. length xs == 0) c.as_slice.ensures)
