-- A run of which the first edits were split comes to what all come to.
use Rattle.std.proofs.Common.{◌≡◌, ℕ, List, ◌++◌, map, sym, subst}
use Rattle.std.specs.Str.{chars, IsUtf8}
use Rattle.hp_names.specs.BuiltIn.{built_in}
use Rattle.hp_control.specs.Apply.{named_edit}
use Rattle.hp_control.specs.Nothing.{nothing}
use Rattle.hp_control.specs.States.{IsValid}
use Rattle.hp_control.specs.Tree.{Tree}
use Rattle.hp_control.specs.declared.edit.Edit.{Edit}
use Rattle.hp_groves.specs.Naming.{own_grove}
use Rattle.hp_growing.specs.Laws.{RunGrows}
use Rattle.hp_pieces.specs.Fragments.{IsRun, Known}
use Rattle.hp_pieces.specs.Growth.{Grows}
use Rattle.hp_fragment.proofs.Ended.{told-fixed}
use Rattle.hp_fragment.specs.Known.{LeadsPartlySplit}
use Rattle.hp_fragment.specs.Making.{AllComeTo, ComeTo, as_split}
use Rattle.hp_fragment.specs.declared.sink.Naming.{Naming}
use Rattle.hp_fragment.specs.declared.sink.Naming.TheVariants.{Ids}
use Rattle.hp_fragment.specs.declared.sink.Splitting.{Splitting}

pub split-run : RunGrows → (known : Known) (text : List ℕ) (splitting : Splitting) (rest : List Edit) → known.text ≡ text → IsUtf8 known.text → IsValid known.entry → AllComeTo splitting rest known.grove known.outer
    → LeadsPartlySplit (chars text) known.entry splitting rest known.exit → IsRun known
split-run law known text splitting rest same utf8 valid comes l = record {
  utf8 = utf8;
  grows =
      subst (λ (bytes : List ℕ). Grows built_in (chars bytes) known.entry known.grove known.outer known.exit) (sym same)
      (subst (λ (made : Tree). Grows built_in (chars text) known.entry made known.outer known.exit) (sym come.inner)
      (subst (λ (edits : List Edit). Grows built_in (chars text) known.entry (own_grove (as_split (Ids known.entry.next) all)) edits known.exit) (sym come.others)
      (law built_in (chars text) known.entry known.exit (map (named_edit nothing) all) valid (told-fixed all) l.leads)));
}
  where
    all : List Edit
    all = l.first ++ rest

    come : ComeTo (Ids known.entry.next) all known.grove known.outer
    come = subst (λ (naming : Naming). ComeTo naming all known.grove known.outer) l.naming (comes l.first l.grown)
