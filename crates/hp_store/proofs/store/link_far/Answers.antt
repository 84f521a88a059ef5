use Rattle.std.proofs.Common.{◌≡◌, ◌<◌, Bool, true, false, length, get_or, refl, sym, subst}
use Rattle.std.proofs.lemmas.List.{get_or_default}
use Rattle.hp_store.specs.declared.node.Node.{Node}
use Rattle.hp_store.specs.declared.part.Part.{Part}
use Rattle.hp_store.specs.Lists.{node_linked}
use Rattle.hp_store.specs.Parts.{HasNode}
use Rattle.hp_store.proofs.Standing.{fits-here, part-held}
use Rattle.hp_store.proofs.Whole.{nodes-part, KeepsPartsAside-set}
use Rattle.hp_store.proofs.store.link_far.Goals as goal

true_else : (b : Bool) → (b ≡ false → ⊥) → b ≡ true
true_else true h = refl
true_else false h = absurd (h refl)

pub link-requires : goal.link-requires
link-requires c =
    let ps = c.args.parts.now in
    let k = c.node_part-number.result in
    let e = c.index-parts-number.result in
    let p : Part = get_or ps k e in
    let h : k < length ps = c.node_part-number.ensures.finished c.requires.at_in in
    let fits = fits-here ps c.args.last.now k p c.requires.laid (part-held ps c.args.last.now k p h (get_or_default ps k e p h)) c.requires.fits in
    fits.nodes

pub returns-clause-nodes : goal.returns-clause-nodes
returns-clause-nodes c =
    let ps = c.args.parts.now in
    let last = c.args.last.now in
    let k = c.node_part-number.result in
    let e = c.index-parts-number.result in
    let p : Part = get_or ps k e in
    let h : k < length ps = c.node_part-number.ensures.finished c.requires.at_in in
    let held : p ≡ get_or ps k p = get_or_default ps k e p h in
    let has : HasNode p c.args.at = subst (λ q. HasNode q c.args.at) (sym (part-held ps last k p h held)) c.node_part-number.ensures.here in
    let done : c.link.result ≡ true = true_else c.link.result (λ unset. c.link.ensures.absent unset has) in
    nodes-part ps last k c.args.at p c.link.new.self (λ (n : Node). node_linked c.args.side n c.args.to) c.requires.laid h held has (c.link.ensures.nodes done)

pub returns-clause-kept : goal.returns-clause-kept
returns-clause-kept c =
    let ps = c.args.parts.now in
    let k = c.node_part-number.result in
    let e = c.index-parts-number.result in
    let p : Part = get_or ps k e in
    let h : k < length ps = c.node_part-number.ensures.finished c.requires.at_in in
    KeepsPartsAside-set ps c.args.last.now k p c.link.new.self c.requires.laid h (get_or_default ps k e p h) c.link.ensures.kept
