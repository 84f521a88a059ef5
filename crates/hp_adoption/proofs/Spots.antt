-- Entries found by their ids, as walks find them.
use Rattle.std.proofs.Common.{◌≡◌, ℕ, zero, suc, ◌+◌, ◌<◌, ◌==◌, true, false, if◌then◌else◌, List, [], ◌∷◌, ◌++◌, Option, Some, None, Result, Ok, Err, IfOk, length, take, drop, slice_set, nat_lt, ap, sym, refl, ◌∙◌, arith, drop-drop}
use Rattle.std.specs.Option.{option_map}
use Rattle.hp_elements.specs.declared.tag.Tag.{Tag}
use Rattle.hp_control.specs.declared.edit.Ref.{Ref}
use Rattle.hp_control.specs.declared.element.FormattingEntry.{FormattingEntry}
use Rattle.hp_control.specs.declared.element.FormattingEntry.TheVariants.{Marker, Element}
use Rattle.hp_control.specs.Adoption.{Spot, Climbed, find_id, lower, spliced, spliced_at, edit_at, pass_listed, renewed}
use Rattle.hp_views.specs.declared.walks.Walk.{Walk}
use Rattle.hp_views.specs.declared.walks.Walk.TheVariants.{Found, Stopped, PastAll}
use Rattle.hp_views.specs.Walks.{id_entry_walk, deeper}
use Rattle.hp_adoption.specs.Entries.{tag_of}

abbrev edit_found : Walk → ℕ → List FormattingEntry → List FormattingEntry → List FormattingEntry
edit_found (Found k) count items es = spliced k count items es
edit_found Stopped count items es = es
edit_found PastAll count items es = es

later_spot : (o : Option Spot) (count : ℕ) (items es : List FormattingEntry) (e : FormattingEntry) → spliced_at (option_map lower o) count items (e ∷ es) ≡ e ∷ spliced_at o count items es
later_spot None count items es e = refl
later_spot (Some spot) count items es e = refl

later_walk : (w : Walk) (count : ℕ) (items es : List FormattingEntry) (e : FormattingEntry) → e ∷ edit_found w count items es ≡ edit_found (deeper 1 w) count items (e ∷ es)
later_walk (Found k) count items es e = ap (λ n. spliced n count items (e ∷ es)) (let h : suc k ≡ 1 + k = omega arith in h)
later_walk Stopped count items es e = refl
later_walk PastAll count items es e = refl

edit_walked : (id count : ℕ) (items es : List FormattingEntry) → edit_at id count items es ≡ edit_found (id_entry_walk id es) count items es
edit_walked id count items [] = refl
edit_walked id count items (Marker ∷ es) =
    later_spot (find_id id es) count items es Marker
    ∙ (ap (λ l. Marker ∷ l) (edit_walked id count items es) ∙ later_walk (id_entry_walk id es) count items es Marker)
edit_walked id count items (Element other tag ∷ es) =
    elim (other == id) as (λ b. spliced_at (if b then Some (record { depth = 0; id = other; tag = tag }) else option_map lower (find_id id es)) count items (Element other tag ∷ es) ≡ edit_found (if b then Found 0 else deeper 1 (id_entry_walk id es)) count items (Element other tag ∷ es)) [
      | true ↦ refl
      | false ↦ later_spot (find_id id es) count items es (Element other tag) ∙ (ap (λ l. Element other tag ∷ l) (edit_walked id count items es) ∙ later_walk (id_entry_walk id es) count items es (Element other tag))
    ]

-- where the walk ended so
edit_as : (id count : ℕ) (items es : List FormattingEntry) (w : Walk) → w ≡ id_entry_walk id es → edit_at id count items es ≡ edit_found w count items es
edit_as id count items es w e = edit_walked id count items es ∙ ap (λ v. edit_found v count items es) (sym e)

set_spliced : {X : Type 0} (es : List X) (k : ℕ) (e : X) → k < length es → slice_set es k e ≡ spliced k 1 (e ∷ []) es
set_spliced [] k e h = absurd (omega (arith, h))
set_spliced (x ∷ es) zero e h = refl
set_spliced (x ∷ es) (suc k) e h = ap (λ l. x ∷ l) (set_spliced es k e (omega (arith, h)))

pub struck : (id k : ℕ) (es new : List FormattingEntry) → Found k ≡ id_entry_walk id es → new ≡ take k es ++ drop (k + 1) es → new ≡ edit_at id 1 [] es
struck id k es new w n = n ∙ (ap (λ l. take k es ++ l) (sym (drop-drop 1 k es)) ∙ sym (edit_as id 1 [] es (Found k) w))

pub supplanted : (id k : ℕ) (e : FormattingEntry) (es new : List FormattingEntry) → Found k ≡ id_entry_walk id es → k < length es → new ≡ slice_set es k e → new ≡ edit_at id 1 (e ∷ []) es
supplanted id k e es new w h n = n ∙ (set_spliced es k e h ∙ sym (edit_as id 1 (e ∷ []) es (Found k) w))

pub joins : (id k : ℕ) (e : FormattingEntry) (es : List FormattingEntry) → Found k ≡ id_entry_walk id es → spliced k 0 (e ∷ []) es ≡ edit_at id 0 (e ∷ []) es
joins id k e es w = sym (edit_as id 0 (e ∷ []) es (Found k) w)

-- the same list, told otherwise
pub ok_as : {X E L : Type 0} (a b c : L) (r : Result X E) → IfOk r (λ _. a ≡ b) → b ≡ c → IfOk r (λ _. a ≡ c)
ok_as a b c (Ok x) h e = h ∙ e
ok_as a b c (Err x) h e = tt

pub left_stopped : (id count : ℕ) (items es : List FormattingEntry) → Stopped ≡ id_entry_walk id es → es ≡ edit_at id count items es
left_stopped id count items es w = sym (edit_as id count items es Stopped w)

pub left_past : (id count : ℕ) (items es : List FormattingEntry) → PastAll ≡ id_entry_walk id es → es ≡ edit_at id count items es
left_past id count items es w = sym (edit_as id count items es PastAll w)

-- a spot has the tag of its entry
abbrev tagged : Option Spot → Option Tag
tagged = option_map (λ s. s.tag)

tagged_lower : (o : Option Spot) → tagged (option_map lower o) ≡ tagged o
tagged_lower None = refl
tagged_lower (Some spot) = refl

tag_found : (id : ℕ) (es : List FormattingEntry) → tag_of id es ≡ tagged (find_id id es)
tag_found id [] = refl
tag_found id (Marker ∷ es) = tag_found id es ∙ sym (tagged_lower (find_id id es))
tag_found id (Element other tag ∷ es) =
    elim (other == id) as (λ b. (if b then Some tag else tag_of id es) ≡ tagged (if b then Some (record { depth = 0; id = other; tag = tag }) else option_map lower (find_id id es))) [
      | true ↦ refl
      | false ↦ tag_found id es ∙ sym (tagged_lower (find_id id es))
    ]

-- what a node is passed with
abbrev passed_by : (ℕ → Ref) → ℕ → ℕ → ℕ → Option Tag → Climbed → Climbed
passed_by ref block turn node None k = k
passed_by ref block turn node (Some tag) k = if nat_lt 3 turn then record k { formatting = edit_at node 1 [] k.formatting } else renewed ref block node tag k

passed_tagged : (ref : ℕ → Ref) (block turn node : ℕ) (o : Option Spot) (k : Climbed) → pass_listed ref block turn node o k ≡ passed_by ref block turn node (tagged o) k
passed_tagged ref block turn node None k = refl
passed_tagged ref block turn node (Some spot) k = refl

passed_as : (ref : ℕ → Ref) (block turn node : ℕ) (k : Climbed) → pass_listed ref block turn node (find_id node k.formatting) k ≡ passed_by ref block turn node (tag_of node k.formatting) k
passed_as ref block turn node k = passed_tagged ref block turn node (find_id node k.formatting) k ∙ ap (λ t. passed_by ref block turn node t k) (sym (tag_found node k.formatting))

pub passed_none : (ref : ℕ → Ref) (block turn node : ℕ) (k : Climbed) → None ≡ tag_of node k.formatting → k ≡ pass_listed ref block turn node (find_id node k.formatting) k
passed_none ref block turn node k t = sym (passed_as ref block turn node k ∙ ap (λ o. passed_by ref block turn node o k) (sym t))

pub passed_new : (ref : ℕ → Ref) (block turn node : ℕ) (tag : Tag) (k : Climbed) → nat_lt 3 turn ≡ false → Some tag ≡ tag_of node k.formatting → renewed ref block node tag k ≡ pass_listed ref block turn node (find_id node k.formatting) k
passed_new ref block turn node tag k l t = sym (passed_as ref block turn node k ∙ (ap (λ o. passed_by ref block turn node o k) (sym t) ∙ ap (λ b. if b then record k { formatting = edit_at node 1 [] k.formatting } else renewed ref block node tag k) l))

late_on : (ref : ℕ → Ref) (block turn node : ℕ) (k : Climbed) (o : Option Spot) → o ≡ find_id node k.formatting → nat_lt 3 turn ≡ true → record k { formatting = edit_at node 1 [] k.formatting } ≡ pass_listed ref block turn node o k
late_on ref block turn node k None e l = ap (λ s. record k { formatting = spliced_at s 1 [] k.formatting }) (sym e)
late_on ref block turn node k (Some spot) e l = sym (ap (λ b. if b then record k { formatting = edit_at node 1 [] k.formatting } else renewed ref block node spot.tag k) l)

-- past the third turn its entry goes, where it has one
pub passed_late : (ref : ℕ → Ref) (block turn node : ℕ) (k : Climbed) → nat_lt 3 turn ≡ true → record k { formatting = edit_at node 1 [] k.formatting } ≡ pass_listed ref block turn node (find_id node k.formatting) k
passed_late ref block turn node k l = late_on ref block turn node k (find_id node k.formatting) refl l
