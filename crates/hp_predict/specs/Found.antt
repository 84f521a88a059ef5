-- A tag as it was found.
use Rattle.std.specs.Prelude.{true, false, List, ◌∷◌, Option}
use Rattle.std.specs.Option.{option_map}
use Rattle.hp_elements.specs.Names.{lowered}
use Rattle.hp_predict.specs.Tags.{SeenTag, tags}
use Rattle.hp_predict.specs.declared.found.Opening.{Opening}
use Rattle.hp_predict.specs.declared.found.FoundTag.{FoundTag}

abbrev pub opening : Opening → SeenTag
opening o = record { is_end = o.is_end; name = lowered o.name.now }

abbrev pub opening_tag : Option Opening → Option SeenTag
opening_tag found = option_map opening found

abbrev pub found_tag : FoundTag → SeenTag
found_tag f = record { is_end = f.is_end; name = lowered f.name.now }

-- the end tag that closes a start tag
abbrev pub closing : SeenTag → SeenTag
closing start = record { is_end = true; name = start.name }

-- the tags from one that was found on
abbrev pub tags_from : FoundTag → List SeenTag
tags_from f = found_tag f ∷ tags false f.rest.now
