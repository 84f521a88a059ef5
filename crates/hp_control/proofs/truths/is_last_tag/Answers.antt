use Rattle.std.proofs.Common.{◌≡◌, ℕ, List, [], Bool, IsTrue, ap, sym, ◌∙◌}
use Rattle.hp_elements.proofs.TextLemmas.{same_texts}
use Rattle.hp_control.specs.declared.question.Answer.{Answer}
use Rattle.hp_control.specs.declared.question.Answer.TheVariants.{LastTag}
use Rattle.hp_control.proofs.truths.is_last_tag.Goals as goal

name_of : Answer → List ℕ
name_of (LastTag name) = name
name_of _ = []

told : (r : Bool) (x y : List ℕ) (answer : Answer) → answer ≡ LastTag y → (IsTrue r → x ≡ y) × (x ≡ y → IsTrue r) → (IsTrue r → LastTag x ≡ answer) × (LastTag x ≡ answer → IsTrue r)
unfolding name_of
told r x y answer e h = (λ t. ap LastTag (h.0 t) ∙ sym e, λ s. h.1 (ap name_of (s ∙ e)))

pub returns-in-LastTag : goal.returns-in-LastTag
returns-in-LastTag c =
    told c.eq.result _ _ c.args.answer.now c.in-LastTag.is (same_texts c.eq.result c.last_tag.result.now c.as_str.result.now _ _ c.eq.ensures c.last_tag.utf8 c.as_str.utf8 c.last_tag.ensures c.as_str.ensures)
