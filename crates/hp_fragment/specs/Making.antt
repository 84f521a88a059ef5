-- Where edits go, and what all that were made amount to (13.2.6).
use Rattle.std.specs.Prelude.{◌≡◌, true, List, ◌++◌, map}
use Rattle.hp_control.specs.Apply.{named_edit}
use Rattle.hp_control.specs.Nothing.{nothing}
use Rattle.hp_control.specs.States.{ControlState}
use Rattle.hp_control.specs.Tree.{Tree, applied_all, document}
use Rattle.hp_control.specs.declared.edit.Edit.{Edit}
use Rattle.hp_groves.specs.Joining.{JoinTexts}
use Rattle.hp_groves.specs.Naming.{own_grove, own_outer}
use Rattle.hp_growth.specs.Growing.{IsGrown}
use Rattle.hp_growth.specs.Marking.{name_first}
use Rattle.hp_growth.specs.Telling.{own_told}
use Rattle.hp_fragment.specs.declared.sink.Naming.{Naming}
use Rattle.hp_fragment.specs.declared.sink.Naming.TheVariants.{Ids, Numbers}
use Rattle.hp_fragment.specs.declared.sink.Sink.{Sink}
use Rattle.hp_fragment.specs.declared.sink.Sink.TheVariants.{Grows, Keeps, Splits}
use Rattle.hp_fragment.specs.declared.sink.Splitting.{Splitting}

-- what becomes of edits: they are kept; they are applied to a page's tree; or they are split, where own elements are named so
pub data SinkKind : Type 0 where
  Kept : SinkKind
  Applied : SinkKind
  SplitBy : Naming → SinkKind

-- what becomes of edits in a sink
abbrev pub kind_of : Sink → SinkKind
kind_of Keeps = Kept
kind_of (Grows tree) = Applied
kind_of (Splits splitting) = SplitBy splitting.naming

-- a view's edits as they are split: as they are; or told by ids, of which those from there on are own elements'
abbrev pub as_split : Naming → List Edit → List Edit
as_split Numbers edits = edits
as_split (Ids next) edits = map (own_told next) (map (named_edit nothing) edits)

-- by numbers edits are split only where, of ids, they name no others than the document's and the first element's
abbrev pub MayBeSplit : Naming → List Edit → Type 0
MayBeSplit Numbers edits = name_first edits ≡ true
MayBeSplit (Ids next) edits = Unit {0}

-- these edits were split
pub record HasGrownTo (splitting : Splitting) (edits : List Edit) : Type 0 where
  pub may : MayBeSplit splitting.naming edits
  pub grown : IsGrown (as_split splitting.naming edits) splitting.growing

-- With these edits still to be split, all that were made over s are those but for how texts are joined: the first of them were split.
pub record IsSplit (splitting : Splitting) (s : ControlState) (made edits : List Edit) : Type 0 where
  pub first : List Edit
  pub grown : HasGrownTo splitting first
  pub same : JoinTexts (map (named_edit s) (first ++ made)) edits

-- With these edits still to be taken, all that were made over s are those but for how texts are joined, where they are kept, or where
-- they are split; they have the effect of those on the document where they grow a page's tree.
abbrev pub AllMade : Sink → ControlState → List Edit → List Edit → Type 0
AllMade Keeps s made edits = JoinTexts (map (named_edit s) made) edits
AllMade (Grows tree) s made edits = s ≡ nothing → applied_all tree.branches (map (named_edit nothing) made) ≡ applied_all document edits
AllMade (Splits splitting) s made edits = IsSplit splitting s made edits

-- so it is, and this is what becomes of them
pub record Amounts (kind : SinkKind) (sink : Sink) (s : ControlState) (made edits : List Edit) : Type 0 where
  pub is_kind : kind_of sink ≡ kind
  pub all_made : AllMade sink s made edits

-- the edits of a known state were applied
abbrev pub HasGrown : Tree → List Edit → Tree → Type 0
HasGrown old made new = new ≡ applied_all old (map (named_edit nothing) made)

-- the edits were applied to the tree of a sink
abbrev pub HasGrownBy : Sink → List Edit → Tree → Type 0
HasGrownBy (Grows tree) made new = HasGrown tree.branches made new
HasGrownBy Keeps made new = ⊥
HasGrownBy (Splits splitting) made new = ⊥

-- these edits were split behind others
pub record HasSplit (old : Splitting) (made : List Edit) (new : Splitting) : Type 0 where
  pub naming : new.naming ≡ old.naming
  pub grows : (first : List Edit) → HasGrownTo old first → HasGrownTo new (first ++ made)

-- this is what the inner ones of these edits make, and these are the outer ones
pub record ComeTo (naming : Naming) (edits : List Edit) (grove : Tree) (outer : List Edit) : Type 0 where
  pub may : MayBeSplit naming edits
  pub inner : grove ≡ own_grove (as_split naming edits)
  pub others : outer ≡ own_outer (as_split naming edits)

-- so it is of those that were split and these
abbrev pub AllComeTo : Splitting → List Edit → Tree → List Edit → Type 0
AllComeTo splitting rest grove outer = (first : List Edit) → HasGrownTo splitting first → ComeTo splitting.naming (first ++ rest) grove outer

-- the edits that a sink has split
abbrev pub IsSplitIn : Sink → Splitting → Type 0
IsSplitIn (Splits splitting) x = x ≡ splitting
IsSplitIn Keeps x = ⊥
IsSplitIn (Grows tree) x = ⊥

-- the edits are split
abbrev pub IsSplitting : Sink → Type 0
IsSplitting (Splits splitting) = Unit {0}
IsSplitting Keeps = ⊥
IsSplitting (Grows tree) = ⊥
