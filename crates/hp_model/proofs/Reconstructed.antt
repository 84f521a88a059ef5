-- Reconstruction leaves nothing to reconstruct, and at most an element of formatting on top of the stack.
use Rattle.std.proofs.Common.{◌≡◌, ℕ, zero, suc, List, [], ◌∷◌, Bool, true, false, Option, Some, None, refl, sym, ap, ◌∙◌, subst, inl, inr}
use Rattle.std.specs.Prelude.{◌⊎◌, if◌then◌else◌, All, slice_get}
use Rattle.std.specs.Option.{is_some, option_map}
use Rattle.std.proofs.lemmas.Bool.{eq-eqb}
use Rattle.hp_elements.specs.Sets.{in_set, members}
use Rattle.hp_elements.specs.declared.kinds.Kinds.TheVariants as kinds
use Rattle.hp_elements.specs.declared.sets.Namespace.TheVariants.{Html}
use Rattle.hp_elements.specs.declared.sets.SetName.TheVariants.{Formatting, TableTextParents}
use Rattle.hp_elements.specs.declared.tag.Tag.{Tag}
use Rattle.hp_control.specs.declared.element.OpenElement.{OpenElement}
use Rattle.hp_control.specs.declared.element.FormattingEntry.{FormattingEntry}
use Rattle.hp_control.specs.declared.element.FormattingEntry.TheVariants.{Marker, Element}
use Rattle.hp_control.specs.Acts.{element_for, insert}
use Rattle.hp_control.specs.Adoption.{relist, renew, renew_entry, renew_down, reconstruct, stale}
use Rattle.hp_control.specs.KindTests.{within}
use Rattle.hp_control.specs.Outcome.{and_then, becomes}
use Rattle.hp_control.specs.States.{ControlState, IsFormatting, is_html}
use Rattle.hp_control.specs.Walks.{open_at}
use Rattle.hp_model.proofs.Stacks.{refused}
use Rattle.hp_model.proofs.Thinning.{got-formatting, one_entry, spliced-formatting}

-- nothing is to be reconstructed
abbrev pub Fresh : ControlState → Type 0
Fresh c = stale c.stack c.formatting ≡ 0

pub reconstruct-fresh : (fostering : Bool) (c : ControlState) → Fresh c → reconstruct fostering c ≡ becomes c
reconstruct-fresh fostering c e = ap (λ n. renew_down fostering n c) e

-- the last entry is that of an element
abbrev EndsWithElement : List FormattingEntry → Type 0
EndsWithElement [] = ⊥
EndsWithElement (Marker ∷ es) = ⊥
EndsWithElement (Element id tag ∷ es) = Unit {0}

open-here : (id : ℕ) (e : OpenElement) (es : List OpenElement) → e.id ≡ id → is_some (open_at id (e ∷ es)) ≡ true
open-here id e es h = ap (λ b. is_some (if b then Some 0 else option_map suc (open_at id es))) (eq-eqb e.id id h)

fresh-top : (id : ℕ) (tag : Tag) (e : OpenElement) (es : List OpenElement) (list : List FormattingEntry) → e.id ≡ id → stale (e ∷ es) (Element id tag ∷ list) ≡ 0
fresh-top id tag e es list h = ap (λ b. if b then 0 else suc (stale (e ∷ es) list)) (open-here id e es h)

renewed-last : (fostering : Bool) (list : List FormattingEntry) (c : ControlState) → EndsWithElement list → Fresh (renew fostering 0 (record c { formatting = list })).control
renewed-last fostering [] c h = absurd h
renewed-last fostering (Marker ∷ es) c h = absurd h
renewed-last fostering (Element id tag ∷ es) c h = fresh-top c.next tag (element_for c.next tag) c.stack es refl

renewed-below : (fostering : Bool) (depth : ℕ) (list : List FormattingEntry) (c : ControlState) → EndsWithElement list → EndsWithElement (renew fostering (suc depth) (record c { formatting = list })).control.formatting
renewed-below fostering depth [] c h = absurd h
renewed-below fostering depth (Marker ∷ es) c h = absurd h
renewed-below fostering depth (Element id tag ∷ es) c h = go (slice_get es depth)
  where
    go : (o : Option FormattingEntry) → EndsWithElement (renew_entry fostering o (suc depth) (record c { formatting = Element id tag ∷ es })).control.formatting
    go None = tt
    go (Some Marker) = tt
    go (Some (Element other name)) = tt

renewed-fresh : (fostering : Bool) (depth : ℕ) (c : ControlState) → EndsWithElement c.formatting → Fresh (renew_down fostering (suc depth) c).control
renewed-fresh fostering zero c h = renewed-last fostering c.formatting c h
renewed-fresh fostering (suc depth) c h = renewed-fresh fostering depth (renew fostering (suc depth) c).control (renewed-below fostering depth c.formatting c h)

stale-some : (stack : List OpenElement) (list : List FormattingEntry) (n : ℕ) → stale stack list ≡ suc n → EndsWithElement list
stale-some stack [] n h = absurd (cc)
stale-some stack (Marker ∷ es) n h = absurd (cc)
stale-some stack (Element id tag ∷ es) n h = tt

pub reconstructed-fresh : (fostering : Bool) (c : ControlState) → Fresh (reconstruct fostering c).control
reconstructed-fresh fostering c = go (stale c.stack c.formatting) refl
  where
    go : (n : ℕ) → stale c.stack c.formatting ≡ n → Fresh (renew_down fostering n c).control
    go zero e = e
    go (suc n) e = renewed-fresh fostering n c (stale-some c.stack c.formatting n e)

-- an HTML element in which text of tables isn't kept
pub record IsInline (e : OpenElement) : Type 0 where
  pub html : is_html e ≡ true
  pub no_parent : within (kinds.Set TableTextParents) e ≡ false

-- the stack is the same, or has such an element on top
abbrev pub Topped : List OpenElement → List OpenElement → Type 0
Topped old new = (new ≡ old) ⊎ ((e : OpenElement) × (es : List OpenElement) × (new ≡ e ∷ es) × IsInline e)

topped-then : (a b c : List OpenElement) → Topped a b → Topped b c → Topped a c
topped-then a b c f (inl e) = subst (λ x. Topped a x) (sym e) f
topped-then a b c f (inr g) = inr g

formatting-inline : (id : ℕ) (tag : Tag) → IsFormatting (Element id tag) → (n : ℕ) → IsInline (element_for n tag)
formatting-inline id tag h n = record {
  html = subst (λ space. is_html (element_for n (record tag { namespace = space })) ≡ true) (sym h.0) refl;
  no_parent =
      subst (λ space. in_set TableTextParents space tag.name ≡ false) (sym h.0)
      (refused (λ name. in_set TableTextParents Html name) (members Formatting) tag.namespace tag.name refl h.1);
}

-- what reconstruction keeps
pub record Rebuilds (c d : ControlState) : Type 0 where
  pub mode : d.mode ≡ c.mode
  pub skip_lf : d.skip_lf ≡ c.skip_lf
  pub formatting : All IsFormatting d.formatting
  pub stack : Topped c.stack d.stack

rebuilds_none : (c : ControlState) → All IsFormatting c.formatting → Rebuilds c c
rebuilds_none c a = record { mode = refl; skip_lf = refl; formatting = a; stack = inl refl }

rebuilds_then : (b c d : ControlState) → Rebuilds b c → Rebuilds c d → Rebuilds b d
rebuilds_then b c d f g = record { mode = g.mode ∙ f.mode; skip_lf = g.skip_lf ∙ f.skip_lf; formatting = g.formatting; stack = topped-then b.stack c.stack d.stack f.stack g.stack }

rebuilds_renew : (fostering : Bool) (depth : ℕ) (c : ControlState) → All IsFormatting c.formatting → Rebuilds c (renew fostering depth c).control
rebuilds_renew fostering depth c a = go (slice_get c.formatting depth) refl
  where
    made : (id : ℕ) (tag : Tag) → IsFormatting (Element id tag) → Rebuilds c (and_then (relist depth id tag) (insert fostering tag) c).control
    made id tag h = record {
      mode = refl;
      skip_lf = refl;
      formatting = spliced-formatting depth 1 (Element c.next tag ∷ []) c.formatting (one_entry c.next tag h) a;
      stack = inr (element_for c.next tag, c.stack, refl, formatting-inline id tag h c.next);
    }

    go : (o : Option FormattingEntry) → slice_get c.formatting depth ≡ o → Rebuilds c (renew_entry fostering o depth c).control
    go None e = rebuilds_none c a
    go (Some Marker) e = rebuilds_none c a
    go (Some (Element id tag)) e = made id tag (got-formatting c.formatting depth (Element id tag) e a)

rebuilds_down : (fostering : Bool) (depth : ℕ) (c : ControlState) → All IsFormatting c.formatting → Rebuilds c (renew_down fostering depth c).control
rebuilds_down fostering zero c a = rebuilds_none c a
rebuilds_down fostering (suc depth) c a =
    let first = rebuilds_renew fostering depth c a in
    let d : ControlState = (renew fostering depth c).control in
    rebuilds_then c d (renew_down fostering depth d).control first (rebuilds_down fostering depth d first.formatting)

pub rebuilds : (fostering : Bool) (c : ControlState) → All IsFormatting c.formatting → Rebuilds c (reconstruct fostering c).control
rebuilds fostering c a = rebuilds_down fostering (stale c.stack c.formatting) c a
