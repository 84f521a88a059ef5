-- The attributes of a token that are others in elements of a namespace (13.2.6.1).
use Rattle.std.specs.Prelude.{Bool, ◌||◌}
use Rattle.std.specs.Option.{is_some}
use Rattle.hp_elements.specs.Respelling.{respelling_of, foreign_attribute_of}
use Rattle.hp_elements.specs.declared.sets.Namespace.{Namespace}
use Rattle.hp_elements.specs.declared.tag.Attribute.{Attribute}
use Rattle.hp_control.specs.Foreign.{attribute_spellings}

-- it has a namespace there, or another spelling
abbrev pub changes_in : Namespace → Attribute → Bool
changes_in namespace a = is_some (foreign_attribute_of a.name) || is_some (respelling_of (attribute_spellings namespace) a.name)
