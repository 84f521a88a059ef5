-- A text that is printed by parts.
use Rattle.std.specs.Prelude.{◌≡◌, ◌≤◌, ℕ, List, ◌++◌, Bool, true, false, length, vec_capacity}
use Rattle.hp_control.specs.Tree.{Tree}
use Rattle.hp_arena.specs.Arena.{Seen}
use Rattle.hp_print.specs.Out.{Prints, Sight}
use Rattle.hp_print.specs.Stack.{AreMarks, HasRoom, pending}
use Rattle.hp_print.specs.declared.output.Out.{Out}
use Rattle.hp_print.specs.declared.output.Out.TheVariants.{Gathered, Failed}
use Rattle.hp_print.specs.declared.walk.Mark.{Mark}
use Rattle.hp_print.specs.declared.walk.Printing.{Printing}
use Rattle.hp_print.specs.declared.parts.Part.{Part}

-- marks in this tree, with room for as many as it can have
pub record AreRoomy (t : Seen) (marks : List Mark) (room : ℕ) : Type 0 where
  pub in_tree : AreMarks t 0 marks
  pub fit : length t.branches ≤ room

-- the printing can go on with this tree
pub record IsReady (t : Seen) (p : Printing) : Type 0 where
  pub marks : AreRoomy t p.marks.items (vec_capacity p.marks)
  pub list : HasRoom t.branches (vec_capacity p.list)

-- some of what was to come was printed, and the rest is still to come
pub record PrintsOn (t : Tree) (old new : Printing) (earlier later : Sight) : Type 0 where
  pub piece : List ℕ
  pub printed : Prints old.out new.out earlier later piece
  pub rest : piece ++ pending t new.marks.items ≡ pending t old.marks.items

-- whether a write failed
abbrev pub has_failed : Out → Bool
has_failed (Gathered gathered written) = false
has_failed (Failed taken) = true

-- the part can be printed, and where it says that it was, its text is what was to come at its start, up to what is still to come
pub record IsPart (t : Seen) (part : Part) : Type 0 where
  pub ready : IsReady t part.printing
  pub start : AreRoomy t part.start.items (vec_capacity part.start)
  pub text : part.is_whole ≡ true → pending t.branches part.start.items ≡ part.text.bytes.items ++ pending t.branches part.printing.marks.items
