-- Elements that are printed alone.
use Rattle.std.proofs.Common.{◌≡◌, ℕ, suc, ◌+◌, ◌<◌, List, ◌∷◌, ◌++◌, drop, length, get_or, ap, sym, ◌∙◌, append_assoc, add-one, Some}
use Rattle.std.specs.Borrow.{Bor}
use Rattle.std.proofs.lemmas.List.{get_or_default}
use Rattle.std.proofs.Math.Seq.{drop-cons}
use Rattle.hp_elements.specs.declared.tag.Tag.{Tag}
use Rattle.hp_control.specs.Tree.{Tree, branch}
use Rattle.hp_arena.specs.Readers.{element_at, element_of, shown, IsShown}
use Rattle.hp_arena.specs.declared.readers.At.{At}
use Rattle.hp_arena.specs.declared.readers.At.TheVariants as at
use Rattle.hp_arena.specs.declared.readers.NodeView.{NodeView}
use Rattle.hp_arena.specs.declared.readers.NodeView.TheVariants as node
use Rattle.hp_print.specs.Elements.{elements_text, lines_alone, text_at}
use Rattle.hp_print.specs.Print.{tag_lines}

-- the element that a view shows stands there
pub seen_at : (t : Tree) (a : At) (view : NodeView) → IsShown t a view → element_at t a ≡ element_of (shown view)
seen_at t at.Document view is = ap (λ (v : NodeView). element_of (shown v)) (sym is)
seen_at t (at.Child spot) view is = ap element_of is.0
seen_at t (at.Contents id) view is = ap (λ (v : NodeView). element_of (shown v)) (sym is)

-- the lines of an element that a view shows
pub tag_at : (t : Tree) (a : At) (view : NodeView) (id : ℕ) (tag : Bor Tag) → IsShown t a view → view ≡ node.Element id tag → (branch t id).tag ≡ Some tag.now
    → tag_lines 0 tag.now ≡ text_at t (element_at t a)
tag_at t a view id tag shows is has = sym (ap (text_at t) (seen_at t a view shows ∙ ap (λ (v : NodeView). element_of (shown v)) is) ∙ ap lines_alone has)

-- one element more
pub elements_next : (t : Tree) (done : List ℕ) (xs : List At) (i : ℕ) (x : At) → i < length xs → get_or xs i x ≡ x
    → (done ++ text_at t (element_at t x)) ++ elements_text t (drop (i + 1) xs) ≡ done ++ elements_text t (drop i xs)
elements_next t done xs i x lt is =
    let here : drop i xs ≡ x ∷ drop (suc i) xs = drop-cons xs i x lt ∙ ap (λ y. y ∷ drop (suc i) xs) is in
    rw (here, add-one) (append_assoc done (text_at t (element_at t x)) (elements_text t (drop (suc i) xs)))

pub place_again : (xs : List At) (i : ℕ) → i < length xs → get_or xs i (get_or xs i at.Document) ≡ get_or xs i at.Document
place_again xs i lt = get_or_default xs i (get_or xs i at.Document) at.Document lt
