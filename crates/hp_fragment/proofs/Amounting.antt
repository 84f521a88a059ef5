-- What the edits amount to, once more are made.
use Rattle.std.proofs.Common.{◌≡◌, ℕ, true, List, [], ◌∷◌, ◌++◌, map, ap, ◌∙◌, sym, subst, append_assoc, append-nil, Result, Ok, Err}
use Rattle.std.specs.Prelude.{OnOk}
use Rattle.std.specs.List.{list_all}
use Rattle.std.proofs.lemmas.Bool.{and_from, and_parts}
use Rattle.std.proofs.lemmas.List.{map-append}
use Rattle.std.proofs.lemmas.Simd.{map-map}
use Rattle.hp_control.specs.Apply.{named_edit}
use Rattle.hp_control.specs.Nothing.{nothing}
use Rattle.hp_control.specs.States.{ControlState}
use Rattle.hp_control.specs.Tree.{Tree, applied_all, document}
use Rattle.hp_control.specs.declared.edit.Edit.{Edit}
use Rattle.hp_groves.specs.Joining.{JoinTexts, Same, Through}
use Rattle.hp_groves.proofs.Joined.{joined-make_same, one_by_one-join}
use Rattle.hp_growth.specs.Growing.{Grows as GrowsBy, IsGrown}
use Rattle.hp_groves.specs.Naming.{own_grove, own_outer, refs}
use Rattle.hp_growth.specs.Marking.{is_first, name_first}
use Rattle.hp_growth.specs.Telling.{own_named, own_told}
use Rattle.hp_model.proofs.JoinedTexts.{join-behind}
use Rattle.hp_runs.proofs.Together.{applied-append}
use Rattle.hp_fragment.specs.Making.{AllComeTo, AllMade, Amounts, ComeTo, HasGrownTo, HasSplit, MayBeSplit, SinkKind, SplitBy, as_split, kind_of}
use Rattle.hp_fragment.specs.declared.sink.Naming.{Naming}
use Rattle.hp_fragment.specs.declared.sink.Naming.TheVariants.{Ids, Numbers}
use Rattle.hp_fragment.specs.declared.sink.Sink.{Sink}
use Rattle.hp_fragment.specs.declared.sink.Sink.TheVariants.{Grows, Keeps, Splits}
use Rattle.hp_fragment.specs.declared.sink.Splitting.{Splitting}

-- edits behind others that have the same effect
pub same-behind : (tree : Tree) (xs ys es : List Edit) (now : Tree) → applied_all now xs ≡ applied_all tree ys → applied_all (applied_all now xs) es ≡ applied_all tree (ys ++ es)
same-behind tree xs ys es now h = ap (λ (t : Tree). applied_all t es) h ∙ sym (applied-append tree ys es)

first-both : (xs ys : List Edit) → name_first xs ≡ true → name_first ys ≡ true → name_first (xs ++ ys) ≡ true
first-both [] ys f g = g
first-both (e ∷ es) ys f g =
    let both = and_parts (list_all is_first (refs e)) (name_first es) f in
    and_from (list_all is_first (refs e)) (name_first (es ++ ys)) both.0 (first-both es ys both.1 g)

-- more edits were made
made-more : (x : Sink) (s : ControlState) (v w es fs : List Edit) → AllMade x s v es → JoinTexts (map (named_edit s) w) (map (named_edit s) v ++ fs) → AllMade x s w (es ++ fs)
made-more (Grows tree) s v w es fs made same = λ none.
    joined-make_same (map (named_edit nothing) w) (map (named_edit nothing) v ++ fs) (subst (λ (c : ControlState). JoinTexts (map (named_edit c) w) (map (named_edit c) v ++ fs)) none same) tree.branches
    ∙ (applied-append tree.branches (map (named_edit nothing) v) fs ∙ same-behind document (map (named_edit nothing) v) es fs tree.branches (made none))
made-more Keeps s v w es fs made same = Through _ _ _ same (one_by_one-join (map (named_edit s) v) es fs fs made (Same fs))
made-more (Splits splitting) s v w es fs made same = record {
  first = made.first;
  grown = made.grown;
  same = subst (λ (all : List Edit). JoinTexts all (es ++ fs)) (sym (map-append (named_edit s) made.first w))
      (Through _ _ _ (join-behind (map (named_edit s) made.first) (map (named_edit s) w) (map (named_edit s) v ++ fs) same)
      (subst (λ (all : List Edit). JoinTexts all (es ++ fs)) front (one_by_one-join (map (named_edit s) (made.first ++ v)) es fs fs made.same (Same fs))));
}
  where
    front : map (named_edit s) (made.first ++ v) ++ fs ≡ map (named_edit s) made.first ++ (map (named_edit s) v ++ fs)
    front = ap (λ (all : List Edit). all ++ fs) (map-append (named_edit s) made.first v) ∙ append_assoc (map (named_edit s) made.first) (map (named_edit s) v) fs

pub amounts-more : (kind : SinkKind) (x : Sink) (s : ControlState) (v w es fs : List Edit) → Amounts kind x s v es → JoinTexts (map (named_edit s) w) (map (named_edit s) v ++ fs) → Amounts kind x s w (es ++ fs)
amounts-more kind x s v w es fs am same = record { is_kind = am.is_kind; all_made = made-more x s v w es fs am.all_made same }

-- they may be told otherwise
made-same : (x : Sink) (s : ControlState) (v es fs : List Edit) → AllMade x s v es → JoinTexts es fs → AllMade x s v fs
made-same (Grows tree) s v es fs made same = λ none. made none ∙ joined-make_same es fs same document
made-same Keeps s v es fs made same = Through _ _ _ made same
made-same (Splits splitting) s v es fs made same = record { first = made.first; grown = made.grown; same = Through _ _ _ made.same same }

pub amounts-same : (kind : SinkKind) (x : Sink) (s : ControlState) (v es fs gs : List Edit) → Amounts kind x s v (es ++ fs) → JoinTexts fs gs → Amounts kind x s v (es ++ gs)
amounts-same kind x s v es fs gs am same = record { is_kind = am.is_kind; all_made = made-same x s v (es ++ fs) (es ++ gs) am.all_made (join-behind es fs gs same) }

-- all edits were split
amounts-split : (kind : SinkKind) (s : ControlState) (v w es : List Edit) (old new : Splitting) → HasSplit old v new → w ≡ [] → Amounts kind (Splits old) s v es → Amounts kind (Splits new) s w es
amounts-split kind s v w es old new split none am = record {
  is_kind = ap SplitBy split.naming ∙ am.is_kind;
  all_made = record {
    first = am.all_made.first ++ v;
    grown = split.grows am.all_made.first am.all_made.grown;
    same =
        subst (λ (rest : List Edit). JoinTexts (map (named_edit s) ((am.all_made.first ++ v) ++ rest)) es) (sym none)
        (subst (λ (all : List Edit). JoinTexts (map (named_edit s) all) es) (sym (append-nil (am.all_made.first ++ v))) am.all_made.same);
  };
}

pub taken-split : {T E : Type 0} (result : Result T E) (x : Sink) (v w : List Edit) (old new : Splitting) → x ≡ Splits old → OnOk result (HasSplit old v new) → OnOk result (w ≡ [])
    → OnOk result ((kind : SinkKind) (s : ControlState) (es : List Edit) → Amounts kind x s v es → Amounts kind (Splits new) s w es)
taken-split (Ok done) x v w old new is split none = λ kind s es am. amounts-split kind s v w es old new split none (subst (λ (y : Sink). Amounts kind y s v es) is am)
taken-split (Err fault) x v w old new is split none = tt

-- they were split where own elements are named by numbers,
split-numbers : (old new : Splitting) (made : List Edit) → old.naming ≡ Numbers → new.naming ≡ old.naming → GrowsBy old.growing made new.growing → name_first made ≡ true → HasSplit old made new
split-numbers old new made numbers same grows few = record {
  naming = same;
  grows = λ first is.
      let by : Naming → Type 0 = λ n. MayBeSplit n first → IsGrown (as_split n first) old.growing → MayBeSplit n (first ++ made) × IsGrown (as_split n (first ++ made)) new.growing in
      let at : by old.naming = subst by (sym numbers) (λ may grown. (first-both first made may few, grows first grown)) in
      let is_new = at is.may is.grown in
      record {
        may = subst (λ (n : Naming). MayBeSplit n (first ++ made)) (sym same) is_new.0;
        grown = subst (λ (n : Naming). IsGrown (as_split n (first ++ made)) new.growing) (sym same) is_new.1;
      };
}

-- or by ids
split-ids : (old new : Splitting) (made : List Edit) (next : ℕ) → old.naming ≡ Ids next → new.naming ≡ old.naming → GrowsBy old.growing (as_split (Ids next) made) new.growing → HasSplit old made new
split-ids old new made next ids same grows = record {
  naming = same;
  grows = λ first is.
      let by : Naming → Type 0 = λ n. IsGrown (as_split n first) old.growing → MayBeSplit n (first ++ made) × IsGrown (as_split n (first ++ made)) new.growing in
      let at : by old.naming = subst by (sym ids) (λ grown. (tt, subst (λ (es : List Edit). IsGrown es new.growing) (sym (ids-both first)) (grows (as_split (Ids next) first) grown))) in
      let is_new = at is.grown in
      record {
        may = subst (λ (n : Naming). MayBeSplit n (first ++ made)) (sym same) is_new.0;
        grown = subst (λ (n : Naming). IsGrown (as_split n (first ++ made)) new.growing) (sym same) is_new.1;
      };
}
  where
    ids-both : (first : List Edit) → as_split (Ids next) (first ++ made) ≡ as_split (Ids next) first ++ as_split (Ids next) made
    ids-both first = ap (map (own_told next)) (map-append (named_edit nothing) first made) ∙ map-append (own_told next) (map (named_edit nothing) first) (map (named_edit nothing) made)

-- All come to what the grown ones are handed on as.
pub all-come : (old new : Splitting) (rest : List Edit) (grove : Tree) (outer : List Edit) → HasSplit old rest new → ((es : List Edit) → IsGrown es new.growing → grove ≡ own_grove es) → ((es : List Edit) → IsGrown es new.growing → outer ≡ own_outer es)
    → AllComeTo old rest grove outer
all-come old new rest grove outer split inner others = λ first is.
    let now : HasGrownTo new (first ++ rest) = split.grows first is in
    subst (λ (naming : Naming). ComeTo naming (first ++ rest) grove outer) split.naming
    (record { may = now.may; inner = inner (as_split new.naming (first ++ rest)) now.grown; others = others (as_split new.naming (first ++ rest)) now.grown })

-- what becomes of edits stays
pub kind-stays : {T E : Type 0} (result : Result T E) (x : Sink) (v : List Edit) (old new : Splitting) → x ≡ Splits old → OnOk result (HasSplit old v new) → OnOk result (kind_of (Splits new) ≡ kind_of x)
kind-stays (Ok done) x v old new is split = ap SplitBy split.naming ∙ ap kind_of (sym is)
kind-stays (Err fault) x v old new is split = tt

-- so it is where an answer tells it
pub numbers-taken : {T E : Type 0} (result : Result T E) (old new : Splitting) (made : List Edit) → old.naming ≡ Numbers → new.naming ≡ old.naming → OnOk result (GrowsBy old.growing made new.growing) → OnOk result (name_first made ≡ true) → OnOk result (HasSplit old made new)
numbers-taken (Ok done) old new made numbers same grows few = split-numbers old new made numbers same grows few
numbers-taken (Err fault) old new made numbers same grows few = tt

pub ids-taken : {T E : Type 0} (result : Result T E) (old new : Splitting) (made : List Edit) (next : ℕ) → old.naming ≡ Ids next → new.naming ≡ old.naming → OnOk result (GrowsBy old.growing (map (own_named next) made) new.growing)
    → OnOk result (HasSplit old made new)
ids-taken (Ok done) old new made next ids same grows = split-ids old new made next ids same (subst (λ (es : List Edit). GrowsBy old.growing es new.growing) (sym (map-map (own_told next) (named_edit nothing) made)) grows)
ids-taken (Err fault) old new made next ids same grows = tt
