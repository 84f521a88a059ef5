-- A front at a place of a page's text goes on by a fragment of what follows.
use Rattle.std.proofs.Common.{◌≡◌, ℕ, ◌+◌, ◌-◌, ◌≤◌, List, length, map, take, drop, sym, ap, subst, ◌∙◌, arith}
use Rattle.std.specs.Prelude.{slice_range}
use Rattle.std.specs.Str.{chars, IsCharBoundary, IsUtf8}
use Rattle.std.proofs.lemmas.List.{length-take, take-take, take_all}
use Rattle.std.proofs.lemmas.Str.{IsCharBoundary-from_rest, IsCharBoundary-from_take, IsUtf8-drop, IsUtf8-take}
use Rattle.hp_names.specs.BuiltIn.{built_in}
use Rattle.hp_names.specs.References.{Reference}
use Rattle.hp_control.specs.States.{ControlState, start}
use Rattle.hp_control.specs.declared.edit.Edit.{Edit}
use Rattle.hp_control.specs.Apply.{named_edit}
use Rattle.hp_control.specs.Tree.{Tree, applied_all, document}
use Rattle.hp_growing.specs.Laws.{BuildsOn, GrownBuilds, GuessBuilds, PlacesCount}
use Rattle.hp_pieces.specs.At.{AtCovers, AtStart, AtValid, IsAt}
use Rattle.hp_pieces.specs.Growth.{Grows, grown_tree}
use Rattle.hp_pieces.specs.Guesses.{state_behind, tree_behind}
use Rattle.hp_pieces.specs.Laws.{RunsWait}
use Rattle.hp_pieces.specs.Running.{Leads}
use Rattle.hp_pieces.specs.Waiting.{MayStand, Waits}
use Rattle.hp_pieces.specs.declared.fragment.Fragment.TheVariants.{Exact, Guessed}
use Rattle.hp_merge.specs.Laws.{GoesOn, StandsBehind}

-- what a part covers ends within it
reaches : (text part : List ℕ) (n m k : ℕ) → part ≡ slice_range text n m → k ≤ length part → n ≤ m → n + k ≤ m
reaches text part n m k is h low = omega (arith, ap length is, length-take (m - n) (drop n text))

covers_front : (text part : List ℕ) (n m k : ℕ) → part ≡ slice_range text n m → k ≤ length part → k ≤ m - n
covers_front text part n m k is h = omega (arith, ap length is, length-take (m - n) (drop n text))

covers_rest : (text part : List ℕ) (n m k : ℕ) → part ≡ slice_range text n m → k ≤ length part → k ≤ length (drop n text)
covers_rest text part n m k is h = omega (arith, ap length is, length-take (m - n) (drop n text))

begins : (text part : List ℕ) (n m k : ℕ) → IsUtf8 text → IsCharBoundary text n → part ≡ slice_range text n m → k ≤ length part → IsUtf8 (take k part) → IsCharBoundary text (n + k)
begins text part n m k utf8 from is h covered =
    let same : take k part ≡ take k (drop n text) = ap (take k) is ∙ take-take k (m - n) (drop n text) (covers_front text part n m k is h) in
    IsCharBoundary-from_rest text n k from.0 (IsCharBoundary-from_take (drop n text) k (IsUtf8-drop text n utf8 from) (covers_rest text part n m k is h) (subst IsUtf8 same covered))

pub stands_behind : StandsBehind
stands_behind text n m (Exact known) utf8 from low sound is =
    let all : take (length known.text) known.text ≡ known.text = take_all (length known.text) known.text (omega arith) in
    (begins text known.text n m (length known.text) utf8 from is (omega arith) (subst IsUtf8 (sym all) sound.utf8), reaches text known.text n m (length known.text) is (omega arith) low)
stands_behind text n m (Guessed g) utf8 from low sound is =
    (begins text g.text n m g.covered utf8 from is sound.0.within (IsUtf8-take g.text g.covered sound.0.utf8 sound.0.boundary), reaches text g.text n m g.covered is sound.0.within low)

-- a tree that is that one, at the same place
at_tree : (text : List ℕ) (n : ℕ) (s : ControlState) (made is : Tree) → made ≡ is → IsAt text n s made → IsAt text n s is
at_tree text n s made is same at = subst (λ (t : Tree). IsAt text n s t) same at

-- what leads over the covered text leads over that part of the page's
leads_on : (names : List Reference) (text part : List ℕ) (n m k : ℕ) (s u : ControlState) (es : List Edit) → part ≡ slice_range text n m → names ≡ built_in
    → Leads names (chars (take k part)) s es u → Leads built_in (chars (take k (slice_range text n m))) s es u
leads_on names text part n m k s u es is named leads =
    subst (λ (bytes : List ℕ). Leads built_in (chars (take k bytes)) s es u) is (subst (λ (ns : List Reference). Leads ns (chars (take k part)) s es u) named leads)

pub goes_on : AtCovers → AtStart → AtValid → RunsWait → PlacesCount → GuessBuilds → GrownBuilds → GoesOn
goes_on covers begun valid waits places builds grown text n m f (Exact known) at fits utf8 from low sound entry is =
    let all : take (length known.text) known.text ≡ known.text = take_all (length known.text) known.text (omega arith) in
    let grows : Grows built_in (chars known.text) f.control known.grove known.outer known.exit =
    subst (λ (s : ControlState). Grows built_in (chars known.text) s known.grove known.outer known.exit) entry sound.grows in
    at_tree text (n + length known.text) known.exit (applied_all f.tree (map (named_edit f.control) grows.edits)) (grown_tree known.grove known.outer f.control f.tree)
    (grown built_in (chars known.text) f.control known.exit known.grove known.outer f.tree grows (valid text n f.control f.tree at) (places text n f.control f.tree at))
    (covers text n m (length known.text) f.control known.exit f.tree (map (named_edit f.control) grows.edits) at utf8 from (reaches text known.text n m (length known.text) is (omega arith) low)
    (subst (λ (bytes : List ℕ). Leads built_in (chars bytes) f.control (map (named_edit f.control) grows.edits) known.exit) (sym all ∙ ap (take (length known.text)) is) grows.leads))
goes_on covers begun valid waits places builds grown text n m f (Guessed g) at fits utf8 from low sound holds is =
    let may : MayStand g.names f.control = record {
      valid = valid text n f.control f.tree at;
      fits = fits;
      waits = subst (λ (names : List Reference). Waits names f.control) (sym sound.1) (waits (chars (take n text)) start f.control at.edits at.leads (valid text 0 start document (begun text)));
    } in
    let on : BuildsOn g f.control f.tree = builds g f.control f.tree sound.0 may holds (places text n f.control f.tree at) in
    at_tree text (n + g.covered) (state_behind g f.control) (applied_all f.tree on.edits) (tree_behind g f.control f.tree) on.builds
    (covers text n m g.covered f.control (state_behind g f.control) f.tree on.edits at utf8 from (reaches text g.text n m g.covered is sound.0.within low)
    (leads_on g.names text g.text n m g.covered f.control (state_behind g f.control) on.edits is sound.1 on.leads))
