use Rattle.std.proofs.Common.{◌≡◌, ◌∙◌, ℕ, List, ap, refl}
use Rattle.hp_control.specs.declared.edit.Edit.{Edit}
use Rattle.hp_control.specs.declared.edit.Ref.{Ref}
use Rattle.hp_control.specs.declared.element.OpenElement.{OpenElement}
use Rattle.hp_control.specs.declared.element.FormattingEntry.{FormattingEntry}
use Rattle.hp_control.specs.Adoption.{Climbed, pass_all}
use Rattle.hp_adoption.specs.Entries.{ref_of}
use Rattle.hp_adoption.specs.Starting.{block_after}
use Rattle.hp_adoption.specs.Turning.{closed_parts, with_parts}
use Rattle.hp_adoption.proofs.Climbing.{ok_between, rebuilt_change, rebuilt_edits}
use Rattle.hp_adoption.proofs.Spots.{ok_as}
use Rattle.hp_adoption.proofs.adopting.rebuild.Goals as goal

pub returns-clause-change : goal.returns-clause-change
returns-clause-change c =
    let ref : ℕ → Ref = ref_of c.args.element.is_page in
    let block : OpenElement = c.args.over.block in
    let next : ℕ = c.args.change.now.made in
    let start : c.at_block-climb.result ≡ block_after c.args.edits.now block c.args.change.now.formatting next =
    c.at_block-climb.ensures
    ∙ (ap (λ (es : List Edit). block_after es block c.replace-list.result next) c.replace-before.ensures.value
    ∙ ap (λ (l : List FormattingEntry). block_after c.args.edits.now block l next) c.replace-list.ensures.value) in
    let climbed : Climbed = pass_all ref block.id 0 c.as_slice-between.result.now c.at_block-climb.result in
    let top : climbed ≡ pass_all ref block.id 0 c.args.over.between c.at_block-climb.result =
    ap (λ (ns : List OpenElement). pass_all ref block.id 0 ns c.at_block-climb.result) c.as_slice-between.ensures in
    ok_as _ _ _ c.put_together-done.result c.put_together-done.ensures.change
    (rebuilt_change ref c.args.element.place c.args.element.id c.args.element.tag c.args.over.above block c.args.over.between c.args.change.now.formatting next c.args.edits.now c.at_block-climb.result climbed c.args.change.now
    (with_parts (closed_parts ref c.args.element.place c.args.element.id c.args.element.tag c.args.over.above block.id climbed) c.args.change.now)
    start top refl)

pub returns-clause-edits : goal.returns-clause-edits
returns-clause-edits c =
    let ref : ℕ → Ref = ref_of c.args.element.is_page in
    let block : OpenElement = c.args.over.block in
    let next : ℕ = c.args.change.now.made in
    let start : c.at_block-climb.result ≡ block_after c.args.edits.now block c.args.change.now.formatting next =
    c.at_block-climb.ensures
    ∙ (ap (λ (es : List Edit). block_after es block c.replace-list.result next) c.replace-before.ensures.value
    ∙ ap (λ (l : List FormattingEntry). block_after c.args.edits.now block l next) c.replace-list.ensures.value) in
    let climbed : Climbed = pass_all ref block.id 0 c.as_slice-between.result.now c.at_block-climb.result in
    let top : climbed ≡ pass_all ref block.id 0 c.args.over.between c.at_block-climb.result =
    ap (λ (ns : List OpenElement). pass_all ref block.id 0 ns c.at_block-climb.result) c.as_slice-between.ensures in
    ok_between c.swap.new.x c.put_together-done.new.climb.edits _ _ c.put_together-done.result
    (c.swap.ensures.x_after ∙ ap (λ (x : Climbed). x.edits) c.climb.view_is)
    c.put_together-done.ensures.edits
    (rebuilt_edits ref c.args.element.place c.args.element.id c.args.element.tag c.args.over.above block c.args.over.between c.args.change.now.formatting next c.args.edits.now c.at_block-climb.result climbed
    (closed_parts ref c.args.element.place c.args.element.id c.args.element.tag c.args.over.above block.id climbed).edits
    start top refl)
