-- Which modes reset gives.
use Rattle.std.proofs.Common.{◌≡◌, List, [], ◌∷◌, Bool, true, false, ◌&&◌, ◌||◌, not, Option, Some, refl, sym}
use Rattle.std.specs.Prelude.{if◌then◌else◌, All}
use Rattle.std.specs.List.{list_any}
use Rattle.std.specs.Option.{unwrap_or}
use Rattle.std.proofs.lemmas.Bool.{and_parts, true≢false}
use Rattle.std.proofs.lemmas.List.Elements.{All-head}
use Rattle.hp_elements.specs.KnownNames as known
use Rattle.hp_elements.specs.declared.kinds.Kinds.TheVariants as kinds
use Rattle.hp_elements.specs.declared.sets.SetName.TheVariants as sets
use Rattle.hp_elements.specs.declared.token.Mode.{Mode}
use Rattle.hp_elements.specs.declared.token.Mode.TheVariants as mode
use Rattle.hp_control.specs.declared.element.OpenElement.{OpenElement}
use Rattle.hp_control.specs.KindTests.{within}
use Rattle.hp_control.specs.States.{is_named, is_settled, is_template_mode}
use Rattle.hp_control.specs.Walks.{is_cell, is_last, last_template_mode, select_mode, table_comes, html_mode, mode_of, reset_mode}
use Rattle.hp_model.proofs.Course.{is_select, is_select_mode}

settled-template_mode : (m : Mode) → is_template_mode m ≡ true → (is_settled m && not (is_select_mode m)) ≡ true
settled-template_mode mode.InTemplate h = refl
settled-template_mode mode.InTable h = refl
settled-template_mode mode.InColumnGroup h = refl
settled-template_mode mode.InTableBody h = refl
settled-template_mode mode.InRow h = refl
settled-template_mode mode.InBody h = refl
settled-template_mode _ h = absurd (true≢false (sym h))

last_mode-passes : (modes : List Mode) → All (λ m. is_template_mode m ≡ true) modes → (is_settled (last_template_mode modes) && not (is_select_mode (last_template_mode modes))) ≡ true
last_mode-passes [] h = refl
last_mode-passes (m ∷ ms) h = settled-template_mode m (All-head (λ x. is_template_mode x ≡ true) m ms h)

-- a test that each mode passes but those of select, which are given only where there is one
module _ (p : Mode → Bool) (modes : List Mode) (has_head : Bool) (at_template : p (last_template_mode modes) ≡ true)
    (passes : (p mode.InCell ≡ true) × (p mode.InRow ≡ true) × (p mode.InTableBody ≡ true) × (p mode.InCaption ≡ true) × (p mode.InColumnGroup ≡ true) × (p mode.InTable ≡ true)
    × (p mode.InHead ≡ true) × (p mode.InBody ≡ true) × (p mode.InFrameset ≡ true) × (p mode.AfterHead ≡ true) × (p mode.BeforeHead ≡ true)) where
  if_mode : (b : Bool) (x y : Option Mode) (d : Mode) → p (unwrap_or x d) ≡ true → p (unwrap_or y d) ≡ true → p (unwrap_or (if b then x else y) d) ≡ true
  if_mode true x y d h k = h
  if_mode false x y d h k = k

  html_passes : (b : Bool) → p (html_mode b) ≡ true
  html_passes true = passes.9
  html_passes false = passes.10

  beyond_select : (e : OpenElement) (es : List OpenElement) → p (reset_mode has_head modes es) ≡ true → p (unwrap_or (
      if is_cell e && not (is_last es) then Some mode.InCell
      else if is_named known.Template e then Some (last_template_mode modes)
      else if is_named known.Head e && not (is_last es) then Some mode.InHead
      else if is_named known.Html e then Some (html_mode has_head)
      else mode_of e) (reset_mode has_head modes es)) ≡ true
  beyond_select e es h =
      if_mode (is_cell e && not (is_last es)) _ _ _ passes.0
      (if_mode (is_named known.Template e) _ _ _ at_template
      (if_mode (is_named known.Head e && not (is_last es)) _ _ _ passes.6
      (if_mode (is_named known.Html e) _ _ _ (html_passes has_head)
      (if_mode (is_named known.Tr e) _ _ _ passes.1
      (if_mode (within (kinds.Set sets.TableSections) e) _ _ _ passes.2
      (if_mode (is_named known.Caption e) _ _ _ passes.3
      (if_mode (is_named known.Colgroup e) _ _ _ passes.4
      (if_mode (is_named known.Table e) _ _ _ passes.5
      (if_mode (is_named known.Body e) _ _ _ passes.7
      (if_mode (is_named known.Frameset e) _ _ _ passes.8 h))))))))))

  select_passes : (b : Bool) → p mode.InSelect ≡ true → p mode.InSelectInTable ≡ true → p (select_mode b) ≡ true
  select_passes true h k = k
  select_passes false h k = h

  pub reset-passes : (st : List OpenElement) → p mode.InSelect ≡ true → p mode.InSelectInTable ≡ true → p (reset_mode has_head modes st) ≡ true
  reset-passes [] h k = passes.7
  reset-passes (e ∷ es) h k = if_mode (is_named known.Select e) _ _ _ (select_passes (table_comes es) h k) (beyond_select e es (reset-passes es h k))

  pub reset-passes_without : (st : List OpenElement) → list_any is_select st ≡ false → p (reset_mode has_head modes st) ≡ true
  reset-passes_without [] h = passes.7
  reset-passes_without (e ∷ es) h = go (is_named known.Select e) h (reset-passes_without es)
    where
      go : (b : Bool) → (b || list_any is_select es) ≡ false → (list_any is_select es ≡ false → p (reset_mode has_head modes es) ≡ true) → p (unwrap_or (
          if b then Some (select_mode (table_comes es))
          else if is_cell e && not (is_last es) then Some mode.InCell
          else if is_named known.Template e then Some (last_template_mode modes)
          else if is_named known.Head e && not (is_last es) then Some mode.InHead
          else if is_named known.Html e then Some (html_mode has_head)
          else mode_of e) (reset_mode has_head modes es)) ≡ true
      go true k later = absurd (true≢false k)
      go false k later = beyond_select e es (later k)

pub reset-settled : (modes : List Mode) (has_head : Bool) (st : List OpenElement) → All (λ m. is_template_mode m ≡ true) modes → is_settled (reset_mode has_head modes st) ≡ true
reset-settled modes has_head st h =
    reset-passes is_settled modes has_head (and_parts (is_settled (last_template_mode modes)) (not (is_select_mode (last_template_mode modes))) (last_mode-passes modes h)).0
    (refl, refl, refl, refl, refl, refl, refl, refl, refl, refl, refl) st refl refl

not_true : (b : Bool) → not b ≡ true → b ≡ false
not_true true h = sym h
not_true false h = refl

pub reset-no_select : (modes : List Mode) (has_head : Bool) (st : List OpenElement) → All (λ m. is_template_mode m ≡ true) modes → list_any is_select st ≡ false → is_select_mode (reset_mode has_head modes st) ≡ false
reset-no_select modes has_head st h k =
    not_true (is_select_mode (reset_mode has_head modes st)) (reset-passes_without (λ m. not (is_select_mode m)) modes has_head
    (and_parts (is_settled (last_template_mode modes)) (not (is_select_mode (last_template_mode modes))) (last_mode-passes modes h)).1
    (refl, refl, refl, refl, refl, refl, refl, refl, refl, refl, refl) st k)
