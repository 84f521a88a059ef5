-- The lists of a part, once one of its items has changed.
use Rattle.std.proofs.Common.{◌≡◌, ℕ, ◌+◌, ◌-◌, ◌^◌, ◌<◌, List, ◌++◌, length, map, get_or, set, Option, Some, arith, refl, ap, sym, ◌∙◌, subst}
use Rattle.std.proofs.lemmas.List.{get_or-map, map-set, length-set, get_or_default}
use Rattle.std.proofs.lemmas.List.{get_or-append_right, set-append_right}
use Rattle.hp_elements.specs.declared.tag.Attribute.{Attribute}
use Rattle.hp_elements.specs.declared.tag.Tag.{Tag}
use Rattle.hp_store.specs.declared.node.Counts.{Counts}
use Rattle.hp_store.specs.declared.node.Kind.{Kind}
use Rattle.hp_store.specs.declared.node.Node.{Node}
use Rattle.hp_store.specs.declared.node.Side.{Side}
use Rattle.hp_store.specs.declared.node.Side.TheVariants.{Next, Prev}
use Rattle.hp_store.specs.declared.part.Element.{Element as OwnElement}
use Rattle.hp_store.specs.Store.{Element as ElementOf}
use Rattle.hp_store.specs.Numbers.{counted, way, element_in}
use Rattle.hp_store.specs.Grafting.{raised_kind, raised_node}
use Rattle.hp_store.proofs.Wraps.{counted-way, way-place}
use Rattle.hp_store.specs.Lists.{blank, node_at, no_element, node_linked, with_link, with_next, with_prev, linked, put_between, with_tag_at}

abbrev pub joined_node : ℕ → ℕ → Kind → Node
joined_node prev next kind = record { prev = prev; next = next; kind = kind }

abbrev pub tagged : Option Tag → ℕ → ElementOf
tagged tag node = record { tag = tag; node = node }

-- a tag with these attributes
abbrev pub attributed : Tag → List Attribute → Tag
attributed tag attributes = record { namespace = tag.namespace; name = tag.name; attributes = attributes }

pub node-raised : (b : Counts) (ns : List Node) (i : ℕ) → i < length ns → node_at (map (raised_node b) ns) i ≡ raised_node b (node_at ns i)
node-raised b ns i h = get_or-map (raised_node b) ns i blank blank h

-- numbers rise as well after as before the link
link-risen : (b : Counts) (side : Side) (n : Node) (own to : ℕ) → counted b.nodes own ≡ to → raised_node b (node_linked side n own) ≡ node_linked side (raised_node b n) to
link-risen b Next n own to is = ap (λ t. joined_node (counted b.nodes n.prev) t (raised_kind b n.kind)) is
link-risen b Prev n own to is = ap (λ t. joined_node t (counted b.nodes n.next) (raised_kind b n.kind)) is

pub link-raised : (b : Counts) (side : Side) (ns : List Node) (i own to : ℕ) → i < length ns → counted b.nodes own ≡ to → map (raised_node b) (with_link side ns i own) ≡ with_link side (map (raised_node b) ns) i to
link-raised b side ns i own to h is =
    map-set (raised_node b) ns i (node_linked side (node_at ns i) own)
    ∙ ap (λ n. set (map (raised_node b) ns) i n) (link-risen b side (node_at ns i) own to is)
    ∙ ap (λ n. set (map (raised_node b) ns) i (node_linked side n to)) (sym (node-raised b ns i h))

pub length-linked : (ns : List Node) (first second : ℕ) → length (linked ns first second) ≡ length ns
length-linked ns first second =
    length-set (with_next ns first second) second (record (node_at (with_next ns first second) second) { prev = first }) ∙ length-set ns first (record (node_at ns first) { next = second })

pub linked-raised : (b : Counts) (ns : List Node) (i j first second : ℕ) → i < length ns → j < length ns → counted b.nodes i ≡ first → counted b.nodes j ≡ second
    → map (raised_node b) (linked ns i j) ≡ with_prev (with_next (map (raised_node b) ns) i second) j first
linked-raised b ns i j first second hi hj isFirst isSecond =
    link-raised b Prev (with_next ns i j) j i first (omega (arith, length-set ns i (record (node_at ns i) { next = j }))) isFirst
    ∙ ap (λ ms. with_prev ms j first) (link-raised b Next ns i j second hi isSecond)

-- reads and writes behind other nodes
module _ (front ns : List Node) (start : ℕ) (is : start ≡ length front) where
  node-behind : (i at : ℕ) → start + i ≡ at → node_at (front ++ ns) at ≡ node_at ns i
  node-behind i at place =
      let same : at - start ≡ i = omega (arith, place) in
      get_or-append_right front ns start at blank (sym is) (omega (arith, place)) ∙ ap (node_at ns) same

  set-behind : (i at : ℕ) (n : Node) → start + i ≡ at → set (front ++ ns) at n ≡ front ++ set ns i n
  set-behind i at n place =
      let same : at - start ≡ i = omega (arith, place) in
      set-append_right front ns start at n (sym is) (omega (arith, place)) ∙ ap (λ j. front ++ set ns j n) same

pub link-behind : (side : Side) (front ns : List Node) (start i at to : ℕ) → start ≡ length front → start + i ≡ at → front ++ with_link side ns i to ≡ with_link side (front ++ ns) at to
link-behind side front ns start i at to is place =
    sym (set-behind front ns start is i at (node_linked side (node_at ns i) to) place) ∙ ap (λ n. set (front ++ ns) at (node_linked side n to)) (sym (node-behind front ns start is i at place))

-- nodes of a part are linked, and those of the whole with them
pub linked-behind : (b : Counts) (front ns : List Node) (i j : ℕ) → b.nodes ≡ length front → i < length ns → j < length ns → b.nodes + length ns < 2 ^ 32
    → front ++ map (raised_node b) (linked ns i j) ≡ linked (front ++ map (raised_node b) ns) (b.nodes + i) (b.nodes + j)
linked-behind b front ns i j is hi hj fits =
    let first : counted b.nodes i ≡ b.nodes + i = grind arith in
    let second : counted b.nodes j ≡ b.nodes + j = grind arith in
    ap (λ ms. front ++ ms) (linked-raised b ns i j (b.nodes + i) (b.nodes + j) hi hj first second)
    ∙ link-behind Prev front (with_next (map (raised_node b) ns) i (b.nodes + j)) b.nodes j (b.nodes + j) (b.nodes + i) is refl
    ∙ ap (λ ms. with_prev ms (b.nodes + j) (b.nodes + i)) (link-behind Next front (map (raised_node b) ns) b.nodes i (b.nodes + i) (b.nodes + j) is refl)

pub put-behind : (b : Counts) (front ns : List Node) (at node : ℕ) → b.nodes ≡ length front → at < length ns → node < length ns → (node_at ns at).prev < length ns → b.nodes + length ns < 2 ^ 32
    → front ++ map (raised_node b) (put_between ns at node) ≡ put_between (front ++ map (raised_node b) ns) (b.nodes + at) (b.nodes + node)
put-behind b front ns at node is hat hnode hprev fits =
    let prev = (node_at ns at).prev in
    let all = front ++ map (raised_node b) ns in
    let there : node_at all (b.nodes + at) ≡ raised_node b (node_at ns at) = node-behind front (map (raised_node b) ns) b.nodes is at (b.nodes + at) refl ∙ node-raised b ns at hat in
    let plain : counted b.nodes prev ≡ b.nodes + prev = grind arith in
    let before : (node_at all (b.nodes + at)).prev ≡ b.nodes + prev = ap (λ n. n.prev) there ∙ plain in
    let count = length-linked ns prev node in
    linked-behind b front (linked ns prev node) node at is (omega (arith, count)) (omega (arith, count)) (omega (arith, count))
    ∙ ap (λ ms. linked ms (b.nodes + node) (b.nodes + at)) (linked-behind b front ns prev node is hprev hnode fits)
    ∙ ap (λ p. linked (linked all p (b.nodes + node)) (b.nodes + node) (b.nodes + at)) (sym before)

pub element-raised : (nodes : ℕ) (es : List OwnElement) (i : ℕ) (e : OwnElement) → i < length es → e ≡ get_or es i e → get_or (map (element_in nodes) es) i no_element ≡ element_in nodes e
element-raised nodes es i e h held = get_or-map (element_in nodes) es i e no_element h ∙ ap (element_in nodes) (sym held)

pub tag-written : (nodes : ℕ) (es : List OwnElement) (i : ℕ) (e : OwnElement) (tag : Tag) (t : Option Tag) → i < length es → e ≡ get_or es i e → Some tag ≡ t
    → map (element_in nodes) (set es i (record { tag = tag; node = e.node })) ≡ with_tag_at (map (element_in nodes) es) i t
tag-written nodes es i e tag t h held is =
    map-set (element_in nodes) es i (record { tag = tag; node = e.node })
    ∙ ap (λ s. set (map (element_in nodes) es) i (tagged s (counted nodes e.node))) is
    ∙ ap (λ x. set (map (element_in nodes) es) i (tagged t x.node)) (sym (element-raised nodes es i e h held))

-- a node of a part is linked, and that of the whole with it
module _ (b : Counts) (side : Side) (ns : List Node) (at to place : ℕ) (n : Node) (fits : b.nodes + length ns < 2 ^ 32) (at_fits : at < 2 ^ 32) (to_fits : to < 2 ^ 32) (found : place ≡ way b.nodes at) (h : place < length ns) (held : n ≡ get_or ns place n) where
  at_place : place ≡ at - b.nodes
  at_place = omega (arith, way-place b.nodes at (length ns) fits at_fits (subst (λ k. k < length ns) found h), found)

  read : n ≡ node_at ns place
  read = held ∙ get_or_default ns place n blank h

  pub link-written : (m : Node) → m ≡ node_linked side n (way b.nodes to) → map (raised_node b) (set ns place m) ≡ with_link side (map (raised_node b) ns) (at - b.nodes) to
  link-written m is =
      ap (λ k. map (raised_node b) (set ns place k)) is
      ∙ ap (λ k. map (raised_node b) (set ns place (node_linked side k (way b.nodes to)))) read
      ∙ link-raised b side ns place (way b.nodes to) to h (counted-way b.nodes to (omega (arith, fits)) to_fits)
      ∙ ap (λ i. with_link side (map (raised_node b) ns) i to) at_place
