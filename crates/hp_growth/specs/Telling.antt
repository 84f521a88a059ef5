-- Edits that tell each element by its id, as a fragment tells them whose own elements are counted from an id on.
use Rattle.std.specs.Prelude.{ℕ, ◌-◌, nat_lt, if◌then◌else◌}
use Rattle.hp_control.specs.Apply.{named_edit}
use Rattle.hp_control.specs.Nothing.{nothing}
use Rattle.hp_control.specs.declared.edit.Edit.{Edit}
use Rattle.hp_control.specs.declared.edit.Ref.{Ref}
use Rattle.hp_control.specs.declared.edit.Ref.TheVariants.{Fixed, Older, Own}
use Rattle.hp_groves.specs.Naming.{edit_by}

-- an element that has an id from `next` on is an own one
abbrev pub own_from : ℕ → Ref → Ref
own_from next (Fixed id) = if nat_lt id next then Fixed id else Own (id - next)
own_from next (Older depth) = Older depth
own_from next (Own number) = Own number

abbrev pub own_told : ℕ → Edit → Edit
own_told next e = edit_by (own_from next) e

-- so it is of an edit that is told by ids where no older state is below
abbrev pub own_named : ℕ → Edit → Edit
own_named next e = own_told next (named_edit nothing e)
