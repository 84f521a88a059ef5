-- What the leaves mean, as they grow.
use Rattle.std.proofs.Common.{◌≡◌, ℕ, zero, suc, ◌<◌, List, [], ◌∷◌, ◌++◌, true, false, length, refl, sym, ap, ◌∙◌, subst, get_or}
use Rattle.std.proofs.lemmas.Bool.{true≢false}
use Rattle.std.proofs.lemmas.List.{map-append, length-map}
use Rattle.hp_control.specs.Tree as item
use Rattle.hp_control.specs.Tree.{Item, is_element}
use Rattle.hp_store.specs.Leaves.{leaf_item, leaf_items, text_of, is_text_of}
use Rattle.hp_store.specs.Lists.{leaf_at}
use Rattle.hp_arena.specs.Leaves.{is_text_leaf, IsTextAt}
use Rattle.hp_arena.specs.Shape.{no_item, kind_item, is_text}
use Rattle.hp_store.specs.declared.node.Node.{Node}
use Rattle.hp_store.specs.declared.node.Kind.{Kind}
use Rattle.hp_store.specs.declared.node.Kind.TheVariants.{End, Element, Leaf}
use Rattle.hp_store.specs.declared.part.Leaf.{Leaf as LeafOf}
use Rattle.hp_store.specs.declared.part.Leaf.TheVariants.{Run, Text, Comment, Doctype}
use Rattle.hp_arena.proofs.Shapes.{AreLeaves}
use Rattle.hp_arena.proofs.Texts.{IsTextBefore}

-- the item of a leaf that is there, and of none
pub item-at : (leaves : List LeafOf) (number : ℕ) → get_or (leaf_items leaves) number no_item ≡ leaf_item (leaf_at leaves number)
item-at [] number = refl
item-at (leaf ∷ leaves) zero = refl
item-at (leaf ∷ leaves) (suc number) = item-at leaves number

pub leaf-no_element : (id : ℕ) (leaf : LeafOf) → is_element id (leaf_item leaf) ≡ false
leaf-no_element id (Run run) = refl
leaf-no_element id (Text runs) = refl
leaf-no_element id (Comment text) = refl
leaf-no_element id (Doctype parts) = refl

pub leaves-plain : (leaves : List LeafOf) → AreLeaves (leaf_items leaves)
leaves-plain leaves number id = ap (is_element id) (item-at leaves number) ∙ leaf-no_element id (leaf_at leaves number)

pub length-leaf_items : (leaves : List LeafOf) → length (leaf_items leaves) ≡ length leaves
length-leaf_items leaves = length-map leaves (leaf_item)

pub leaf_items-push : (leaves : List LeafOf) (leaf : LeafOf) → leaf_items (leaves ++ leaf ∷ []) ≡ leaf_items leaves ++ leaf_item leaf ∷ []
leaf_items-push leaves leaf = map-append (leaf_item) leaves (leaf ∷ [])

pub AreLeaves-push : (leaves : List Item) (x : Item) → AreLeaves leaves → ((id : ℕ) → is_element id x ≡ false) → AreLeaves (leaves ++ x ∷ [])
AreLeaves-push [] x all own zero id = own id
AreLeaves-push [] x all own (suc number) id = refl
AreLeaves-push (first ∷ rest) x all own zero id = all 0 id
AreLeaves-push (first ∷ rest) x all own (suc number) id = AreLeaves-push rest x (λ n i. all (suc n) i) own number id

leaf-is_text : (leaf : LeafOf) → is_text (leaf_item leaf) ≡ is_text_of leaf
leaf-is_text (Run run) = refl
leaf-is_text (Text runs) = refl
leaf-is_text (Comment text) = refl
leaf-is_text (Doctype parts) = refl

-- what the code tells of a node is so of its item
pub kind-is_text : (leaves : List LeafOf) (k : Kind) → is_text (kind_item (leaf_items leaves) k) ≡ is_text_leaf leaves k
kind-is_text leaves (End id) = refl
kind-is_text leaves (Element id) = refl
kind-is_text leaves (Leaf number) = ap is_text (item-at leaves number) ∙ leaf-is_text (leaf_at leaves number)

pub leaf-text : (leaf : LeafOf) → is_text_of leaf ≡ true → leaf_item leaf ≡ item.Text (text_of leaf)
leaf-text (Run run) h = refl
leaf-text (Text runs) h = refl
leaf-text (Comment text) h = absurd (true≢false (sym h))
leaf-text (Doctype parts) h = absurd (true≢false (sym h))

pub text-before : (nodes : List Node) (leaves : List LeafOf) (s number : ℕ) → IsTextAt nodes leaves s number → IsTextBefore nodes (leaf_items leaves) s number (text_of (leaf_at leaves number))
text-before nodes leaves s number at = record {
  leaf = at.leaf;
  number_in = subst (λ n. number < n) (sym (length-leaf_items leaves)) at.number_in;
  text = item-at leaves number ∙ leaf-text (leaf_at leaves number) at.text;
}
