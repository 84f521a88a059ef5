use Rattle.std.proofs.Common.{List, ap, ◌∙◌, slice_index_or}
use Rattle.hp_elements.specs.declared.tag.Attribute.{Attribute}
use Rattle.hp_control.specs.Tree.{has_name}
use Rattle.hp_store.proofs.attributes.is_known.Goals as goal

pub returns : goal.returns
returns c = λ one more e.
    c.has_name.ensures ∙ ap (has_name c.args.attributes.now) (c.in-Some.ensures.value ∙ ap (λ (xs : List Attribute). slice_index_or xs 0 c.in-Some.one.now) e)
