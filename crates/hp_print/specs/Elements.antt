-- Single elements of a tree as text.
use Rattle.std.specs.Prelude.{ℕ, List, [], Option, None, Some}
use Rattle.std.specs.List.{flat_map}
use Rattle.hp_elements.specs.declared.tag.Tag.{Tag}
use Rattle.hp_control.specs.Tree.{Tree, branch}
use Rattle.hp_arena.specs.Readers.{element_at}
use Rattle.hp_arena.specs.declared.readers.At.{At}
use Rattle.hp_print.specs.Print.{tag_lines}

-- an element with its attributes at depth 0, without what stands inside it
abbrev pub lines_alone : Option Tag → List ℕ
lines_alone None = []
lines_alone (Some tag) = tag_lines 0 tag

abbrev pub element_text : Tree → ℕ → List ℕ
element_text t id = lines_alone (branch t id).tag

-- the same of what stands at a place, where that is an element
abbrev pub text_at : Tree → Option ℕ → List ℕ
text_at t None = []
text_at t (Some id) = element_text t id

-- those of the elements at these places, one behind the other
abbrev pub elements_text : Tree → List At → List ℕ
elements_text t found = flat_map (λ a. text_at t (element_at t a)) found
