use Rattle.std.proofs.Common.{◌∷◌, ◌++◌, ◌∙◌, ℕ, List, ap}
use Rattle.hp_control.specs.declared.edit.Edit.{Edit}
use Rattle.hp_control.specs.declared.edit.Ref.{Ref}
use Rattle.hp_control.specs.declared.element.OpenElement.{OpenElement}
use Rattle.hp_control.specs.Acts.{element_for}
use Rattle.hp_control.specs.Adoption.{Climbed}
use Rattle.hp_adoption.specs.Entries.{ref_of}
use Rattle.hp_adoption.specs.Turning.{closed_parts, closing, with_parts}
use Rattle.hp_adoption.proofs.Climbing.{put_as}
use Rattle.hp_adoption.proofs.adopting.put_together.Goals as goal

pub returns-clause-change : goal.returns-clause-change
returns-clause-change c =
    let k : Climbed = record { formatting = c.climb.inside.formatting; next = c.climb.inside.next; kept = c.climb.inside.kept; last = c.climb.inside.last; bookmark = c.climb.inside.bookmark; edits = c.climb.inside.edits } in
    put_as (ref_of c.args.element.is_page) c.args.element.place c.args.element.id c.args.element.tag c.args.above c.args.block k c.args.change.now c.restack.new.stack c.swap.new.x c.in-Some.next
    (c.in_ok-restack.ensures ∙ ap (λ (l : List OpenElement). (c.args.above ++ element_for c.climb.inside.next c.args.element.tag ∷ l) ++ c.args.change.now.stack) c.replace-kept.ensures.value)
    (c.swap.ensures.x_after ∙ c.in_ok-settle.ensures)
    c.in-Some.ensures.1
    ∙ ap (λ (x : Climbed). with_parts (closed_parts (ref_of c.args.element.is_page) c.args.element.place c.args.element.id c.args.element.tag c.args.above c.args.block x) c.args.change.now) (c.climb.view_is ∙ c.in_ok-pass_all.ensures)

pub returns-clause-edits : goal.returns-clause-edits
returns-clause-edits c =
    let ref : ℕ → Ref = ref_of c.args.element.is_page in
    let made = λ (x y z : Ref) (es : List Edit). es ++ closing x c.args.element.place y z c.args.element.tag in
    c.in_ok-close.ensures
    ∙ (ap (λ (r : Ref). made r c.own_ref-block.result c.own_ref-made.result c.climb.inside.edits) c.own_ref-last.ensures
    ∙ (ap (λ (r : Ref). made (ref c.climb.inside.last) r c.own_ref-made.result c.climb.inside.edits) c.own_ref-block.ensures
    ∙ (ap (λ (r : Ref). made (ref c.climb.inside.last) (ref c.args.block) r c.climb.inside.edits) c.own_ref-made.ensures
    ∙ ap (λ (x : Climbed). made (ref x.last) (ref c.args.block) (ref x.next) x.edits) (c.climb.view_is ∙ c.in_ok-pass_all.ensures))))
