use Rattle.std.proofs.Common.{◌≡◌, refl, sym, ◌∙◌}
use Rattle.std.specs.Prelude.{◌&&◌}
use Rattle.std.specs.Str.{bytes_eq}
use Rattle.hp_elements.specs.Sets.{same_namespace}
use Rattle.hp_control.specs.Walks.{among}
use Rattle.hp_control.proofs.TagTests.{both, neither, namespaces_alike}
use Rattle.hp_control.proofs.tags.same_tag.Goals.{then-eq, else-eq, then-same_name, else-same_name}
use Rattle.hp_control.proofs.tags.same_tag.Goals as goal

pub returns-then-are_among : goal.returns-then-are_among
returns-then-are_among c =
    let s = c.args.tag.now in
    let t = c.args.other.now in
    let two : c.if-eq.value ≡ (same_namespace s.namespace t.namespace && bytes_eq s.name t.name) =
    elim c.if-eq.branch [
      | then-eq w ↦ both (sym (c.eq.ensures ∙ namespaces_alike s.namespace t.namespace) ∙ w.if-eq.true) w.value-is w.same_name.ensures
      | else-eq w ↦ neither _ (sym (c.eq.ensures ∙ namespaces_alike s.namespace t.namespace) ∙ w.if-eq.false) (cc)
    ] in
    let three : c.if-same_name.value ≡ (same_namespace s.namespace t.namespace && bytes_eq s.name t.name && among s.attributes t.attributes) =
    elim c.if-same_name.branch [
      | then-same_name w ↦ both (sym two ∙ w.if-same_name.true) w.value-is w.are_among.ensures
      | else-same_name w ↦ neither _ (sym two ∙ w.if-same_name.false) (cc)
    ] in
    both (sym three ∙ c.if-are_among.true) refl c.are_among-then-are_among.ensures

pub returns-else-are_among : goal.returns-else-are_among
returns-else-are_among c =
    let s = c.args.tag.now in
    let t = c.args.other.now in
    let two : c.if-eq.value ≡ (same_namespace s.namespace t.namespace && bytes_eq s.name t.name) =
    elim c.if-eq.branch [
      | then-eq w ↦ both (sym (c.eq.ensures ∙ namespaces_alike s.namespace t.namespace) ∙ w.if-eq.true) w.value-is w.same_name.ensures
      | else-eq w ↦ neither _ (sym (c.eq.ensures ∙ namespaces_alike s.namespace t.namespace) ∙ w.if-eq.false) (cc)
    ] in
    let three : c.if-same_name.value ≡ (same_namespace s.namespace t.namespace && bytes_eq s.name t.name && among s.attributes t.attributes) =
    elim c.if-same_name.branch [
      | then-same_name w ↦ both (sym two ∙ w.if-same_name.true) w.value-is w.are_among.ensures
      | else-same_name w ↦ neither _ (sym two ∙ w.if-same_name.false) (cc)
    ] in
    neither _ (sym three ∙ c.if-are_among.false) c.if-are_among.false
