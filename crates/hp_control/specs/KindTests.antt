-- Which elements are of which kinds.
use Rattle.std.specs.Prelude.{Bool}
use Rattle.hp_elements.specs.Kinds.{is_of}
use Rattle.hp_elements.specs.declared.kinds.Kinds.{Kinds}
use Rattle.hp_control.specs.declared.element.OpenElement.{OpenElement}

-- whether the element is of these kinds
abbrev pub within : Kinds → OpenElement → Bool
within kinds e = is_of kinds e.namespace e.name e.point
