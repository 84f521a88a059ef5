use Rattle.std.proofs.Common.{◌≡◌, refl, sym, ◌∙◌}
use Rattle.std.specs.Prelude.{◌&&◌}
use Rattle.std.specs.Str.{bytes_eq}
use Rattle.hp_control.specs.Walks.{same_space}
use Rattle.hp_control.proofs.TagTests.{both, neither, spaces_alike}
use Rattle.hp_control.proofs.TextTests.{text_test}
use Rattle.hp_control.proofs.tags.same_attribute.Goals.{then-eq, else-eq}
use Rattle.hp_control.proofs.tags.same_attribute.Goals as goal

pub returns-then-same_name : goal.returns-then-same_name
returns-then-same_name c =
    let a = c.args.attribute.now in
    let b = c.args.other.now in
    let two : c.if-eq.value ≡ (same_space a.space b.space && bytes_eq a.name b.name) =
    elim c.if-eq.branch [
      | then-eq w ↦ both (sym (c.eq.ensures ∙ spaces_alike a.space b.space) ∙ w.if-eq.true) w.value-is w.same_name.ensures
      | else-eq w ↦ neither _ (sym (c.eq.ensures ∙ spaces_alike a.space b.space) ∙ w.if-eq.false) (cc)
    ] in
    both (sym two ∙ c.if-same_name.true) refl (text_test c.same.result a.value b.value c.same.ensures)

pub returns-else-same_name : goal.returns-else-same_name
returns-else-same_name c =
    let a = c.args.attribute.now in
    let b = c.args.other.now in
    let two : c.if-eq.value ≡ (same_space a.space b.space && bytes_eq a.name b.name) =
    elim c.if-eq.branch [
      | then-eq w ↦ both (sym (c.eq.ensures ∙ spaces_alike a.space b.space) ∙ w.if-eq.true) w.value-is w.same_name.ensures
      | else-eq w ↦ neither _ (sym (c.eq.ensures ∙ spaces_alike a.space b.space) ∙ w.if-eq.false) (cc)
    ] in
    neither _ (sym two ∙ c.if-same_name.false) c.if-same_name.false
