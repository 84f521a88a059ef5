-- A tree of own elements, in which the older ones are blank, stays one after an edit of own elements.
use Rattle.std.proofs.Common.{◌≡◌, ℕ, ◌≤◌, true, false, [], length, replicate, refl, ap, ◌∙◌, arith}
use Rattle.std.specs.Prelude.{nat_lt}
use Rattle.std.proofs.lemmas.Bool.{le-ltb}
use Rattle.std.proofs.lemmas.List.{length-replicate}
use Rattle.hp_control.specs.declared.edit.Edit.{Edit}
use Rattle.hp_control.specs.declared.edit.Edit.TheVariants.{NewElement, Put, Detach, MoveChildren, AddMissing}
use Rattle.hp_control.specs.Tree.{Tree, applied, id_of, no_branch}
use Rattle.hp_groves.specs.Split.{ids, is_among, moved}
use Rattle.hp_groves.proofs.Among.{moved-named, parents-named}
use Rattle.hp_groves.proofs.Avoiding.{avoids-applied}
use Rattle.hp_groves.proofs.Branches.{inside}
use Rattle.hp_groves.proofs.Commuting.{InnerTag, IsInner, fits-inner, not-among, twice, within}
use Rattle.hp_groves.proofs.Fitting.{among-first}
use Rattle.hp_groves.proofs.Grafting.{blank-inside, older}
use Rattle.hp_groves.proofs.Items.{stands}
use Rattle.hp_groves.proofs.Lengths.{length-applied}
use Rattle.hp_groves.proofs.Sides.{Avoids, Fits, lists-stay, others}

-- older elements have no children and stand nowhere
pub record IsGrove (next : ℕ) (g : Tree) : Type 0 where
  pub long : next ≤ length g
  pub blank : (i : ℕ) → older next i ≡ true → inside g i ≡ []
  pub own : (c : ℕ) → older next c ≡ true → Avoids (λ _. true) g c

pub no-grove : (next : ℕ) → IsGrove next (replicate next no_branch)
no-grove next = record {
  long = omega (arith, length-replicate next no_branch);
  blank = λ i _. blank-inside next i;
  own = λ c _. record { at = λ i _. ap (stands c) (blank-inside next i) };
}

pub inner-tag : (next len : ℕ) (e : Edit) → next ≤ len → ((c : ℕ) → is_among (ids e) c ≡ true → nat_lt c next ≡ false) → InnerTag (older next) len e
inner-tag next len (NewElement tag) h own = le-ltb len next h
inner-tag next len (Put c place) h own = tt
inner-tag next len (Detach node) h own = tt
inner-tag next len (MoveChildren from to) h own = tt
inner-tag next len (AddMissing node more) h own = own (id_of node) (among-first (id_of node) [])

module _ (next : ℕ) (g : Tree) (e : Edit) (x : IsGrove next g) where
  pub blank-avoids : (c : ℕ) → Avoids (older next) g c
  blank-avoids c = record { at = λ i o. ap (stands c) (x.blank i o) }

  pub grove-after : ((c : ℕ) → is_among (ids e) c ≡ true → nat_lt c next ≡ false) → IsGrove next (applied g e)
  grove-after own =
      let inner : IsInner (older next) (older next) (older next) g e = record {
        lists = λ q m. own q (parents-named e q m);
        nodes = λ c m. own c (moved-named e c m);
        avoids = λ c _. blank-avoids c;
        tags = inner-tag next (length g) e x.long own;
      } in
      let fit : Fits (others (older next)) (others (older next)) g g e = fits-inner (older next) (older next) (older next) g g e refl inner (λ c _. blank-avoids c) in
      record {
        long = omega (arith, x.long, length-applied g e);
        blank = λ i o. (lists-stay (others (older next)) (others (older next)) g g e fit).at i (twice (older next) i o) ∙ x.blank i o;
        own = λ c o. avoids-applied (λ _. true) c g e (within (λ _. true) e (λ _ _. refl)) (not-among (older next) true (moved e) c (λ y m. own y (moved-named e y m)) o) (x.own c o);
      }
