-- A course that falls by the test leads to a state of less weight.
use Rattle.std.proofs.Common.{◌≡◌, ℕ, ◌+◌, ◌*◌, ◌≤◌, ◌<◌, List, Bool, true, false, nat_lt, refl, sym, subst, arith, inl, inr, ◌⊎◌, lit<}
use Rattle.std.proofs.lemmas.Bool.{and_parts, ltb-true}
use Rattle.hp_elements.specs.declared.token.Kind.{Kind}
use Rattle.hp_elements.specs.declared.token.Mode.{Mode}
use Rattle.hp_elements.specs.declared.token.Mode.TheVariants as mode
use Rattle.hp_elements.proofs.PlaceLemmas.{at_every_kind}
use Rattle.hp_control.specs.declared.element.OpenElement.{OpenElement}
use Rattle.hp_control.specs.States.{is_settled}
use Rattle.hp_model.proofs.Tally.{tally}
use Rattle.hp_model.proofs.Stacks.{is_counted}
use Rattle.hp_model.proofs.Course as course
use Rattle.hp_model.proofs.Course.{Count, fell, kept, unknown, Where, at, anywhere, left, CountIs, PlaceIs, is_select_mode}
use Rattle.hp_model.proofs.Passes.{Rank, fixed, beside, rank, falls, falls_to, falls_by, falls_anywhere, falls_left, is_kept}

abbrev pub value : Rank → ℕ → ℕ
value (fixed a) c = a
value (beside a) c = a + 16 + 16 * c

abbrev pub weight : Kind → Mode → List OpenElement → ℕ
weight kind m st = value (rank kind m) (tally is_counted st)

-- how far a mode can be from the modes that it goes on to
abbrev pub top : Mode → ℕ
top mode.Text = 16
top mode.InTableText = 16
top mode.InSelect = 14
top mode.InSelectInTable = 14
top _ = 13

abbrev pub is_within : ℕ → Rank → Bool
is_within k (fixed a) = nat_lt a 16
is_within k (beside a) = nat_lt a k

rank_within : (m : Mode) (kind : Kind) → is_within (top m) (rank kind m) ≡ true
rank_within mode.Initial kind = at_every_kind (λ k. is_within (top mode.Initial) (rank k mode.Initial)) refl kind
rank_within mode.BeforeHtml kind = at_every_kind (λ k. is_within (top mode.BeforeHtml) (rank k mode.BeforeHtml)) refl kind
rank_within mode.BeforeHead kind = at_every_kind (λ k. is_within (top mode.BeforeHead) (rank k mode.BeforeHead)) refl kind
rank_within mode.InHead kind = at_every_kind (λ k. is_within (top mode.InHead) (rank k mode.InHead)) refl kind
rank_within mode.InHeadNoscript kind = at_every_kind (λ k. is_within (top mode.InHeadNoscript) (rank k mode.InHeadNoscript)) refl kind
rank_within mode.AfterHead kind = at_every_kind (λ k. is_within (top mode.AfterHead) (rank k mode.AfterHead)) refl kind
rank_within mode.InBody kind = at_every_kind (λ k. is_within (top mode.InBody) (rank k mode.InBody)) refl kind
rank_within mode.Text kind = at_every_kind (λ k. is_within (top mode.Text) (rank k mode.Text)) refl kind
rank_within mode.InTable kind = at_every_kind (λ k. is_within (top mode.InTable) (rank k mode.InTable)) refl kind
rank_within mode.InTableText kind = at_every_kind (λ k. is_within (top mode.InTableText) (rank k mode.InTableText)) refl kind
rank_within mode.InCaption kind = at_every_kind (λ k. is_within (top mode.InCaption) (rank k mode.InCaption)) refl kind
rank_within mode.InColumnGroup kind = at_every_kind (λ k. is_within (top mode.InColumnGroup) (rank k mode.InColumnGroup)) refl kind
rank_within mode.InTableBody kind = at_every_kind (λ k. is_within (top mode.InTableBody) (rank k mode.InTableBody)) refl kind
rank_within mode.InRow kind = at_every_kind (λ k. is_within (top mode.InRow) (rank k mode.InRow)) refl kind
rank_within mode.InCell kind = at_every_kind (λ k. is_within (top mode.InCell) (rank k mode.InCell)) refl kind
rank_within mode.InSelect kind = at_every_kind (λ k. is_within (top mode.InSelect) (rank k mode.InSelect)) refl kind
rank_within mode.InSelectInTable kind = at_every_kind (λ k. is_within (top mode.InSelectInTable) (rank k mode.InSelectInTable)) refl kind
rank_within mode.InTemplate kind = at_every_kind (λ k. is_within (top mode.InTemplate) (rank k mode.InTemplate)) refl kind
rank_within mode.AfterBody kind = at_every_kind (λ k. is_within (top mode.AfterBody) (rank k mode.AfterBody)) refl kind
rank_within mode.InFrameset kind = at_every_kind (λ k. is_within (top mode.InFrameset) (rank k mode.InFrameset)) refl kind
rank_within mode.AfterFrameset kind = at_every_kind (λ k. is_within (top mode.AfterFrameset) (rank k mode.AfterFrameset)) refl kind
rank_within mode.AfterAfterBody kind = at_every_kind (λ k. is_within (top mode.AfterAfterBody) (rank k mode.AfterAfterBody)) refl kind
rank_within mode.AfterAfterFrameset kind = at_every_kind (λ k. is_within (top mode.AfterAfterFrameset) (rank k mode.AfterAfterFrameset)) refl kind

value_within : (k : ℕ) (r : Rank) (c : ℕ) → 0 < k → is_within k r ≡ true → value r c < k + 16 + 16 * c
value_within k (fixed a) c p h = let e : a < 16 = ltb-true a 16 h in omega arith
value_within k (beside a) c p h = let e : a < k = ltb-true a k h in omega arith

top_positive : (m : Mode) → 0 < top m
top_positive mode.Initial = lit< tt
top_positive mode.BeforeHtml = lit< tt
top_positive mode.BeforeHead = lit< tt
top_positive mode.InHead = lit< tt
top_positive mode.InHeadNoscript = lit< tt
top_positive mode.AfterHead = lit< tt
top_positive mode.InBody = lit< tt
top_positive mode.Text = lit< tt
top_positive mode.InTable = lit< tt
top_positive mode.InTableText = lit< tt
top_positive mode.InCaption = lit< tt
top_positive mode.InColumnGroup = lit< tt
top_positive mode.InTableBody = lit< tt
top_positive mode.InRow = lit< tt
top_positive mode.InCell = lit< tt
top_positive mode.InSelect = lit< tt
top_positive mode.InSelectInTable = lit< tt
top_positive mode.InTemplate = lit< tt
top_positive mode.AfterBody = lit< tt
top_positive mode.InFrameset = lit< tt
top_positive mode.AfterFrameset = lit< tt
top_positive mode.AfterAfterBody = lit< tt
top_positive mode.AfterAfterFrameset = lit< tt

pub weight-below : (kind : Kind) (m : Mode) (st : List OpenElement) → weight kind m st < top m + 16 + 16 * tally is_counted st
weight-below kind m st = value_within (top m) (rank kind m) (tally is_counted st) (top_positive m) (rank_within m kind)

top_of_settled : (m : Mode) → is_settled m ≡ true → top m ≤ 14
top_of_settled mode.Initial h = absurd (cc)
top_of_settled mode.BeforeHtml h = absurd (cc)
top_of_settled mode.BeforeHead h = omega arith
top_of_settled mode.InHead h = omega arith
top_of_settled mode.InHeadNoscript h = omega arith
top_of_settled mode.AfterHead h = omega arith
top_of_settled mode.InBody h = omega arith
top_of_settled mode.Text h = absurd (cc)
top_of_settled mode.InTable h = omega arith
top_of_settled mode.InTableText h = absurd (cc)
top_of_settled mode.InCaption h = omega arith
top_of_settled mode.InColumnGroup h = omega arith
top_of_settled mode.InTableBody h = omega arith
top_of_settled mode.InRow h = omega arith
top_of_settled mode.InCell h = omega arith
top_of_settled mode.InSelect h = omega arith
top_of_settled mode.InSelectInTable h = omega arith
top_of_settled mode.InTemplate h = omega arith
top_of_settled mode.AfterBody h = omega arith
top_of_settled mode.InFrameset h = omega arith
top_of_settled mode.AfterFrameset h = omega arith
top_of_settled mode.AfterAfterBody h = omega arith
top_of_settled mode.AfterAfterFrameset h = omega arith

top_without_select : (m : Mode) → is_settled m ≡ true → is_select_mode m ≡ false → top m ≤ 13
top_without_select mode.Initial h k = absurd (cc)
top_without_select mode.BeforeHtml h k = absurd (cc)
top_without_select mode.BeforeHead h k = omega arith
top_without_select mode.InHead h k = omega arith
top_without_select mode.InHeadNoscript h k = omega arith
top_without_select mode.AfterHead h k = omega arith
top_without_select mode.InBody h k = omega arith
top_without_select mode.Text h k = absurd (cc)
top_without_select mode.InTable h k = omega arith
top_without_select mode.InTableText h k = absurd (cc)
top_without_select mode.InCaption h k = omega arith
top_without_select mode.InColumnGroup h k = omega arith
top_without_select mode.InTableBody h k = omega arith
top_without_select mode.InRow h k = omega arith
top_without_select mode.InCell h k = omega arith
top_without_select mode.InSelect h k = absurd (cc)
top_without_select mode.InSelectInTable h k = absurd (cc)
top_without_select mode.InTemplate h k = omega arith
top_without_select mode.AfterBody h k = omega arith
top_without_select mode.InFrameset h k = omega arith
top_without_select mode.AfterFrameset h k = omega arith
top_without_select mode.AfterAfterBody h k = omega arith
top_without_select mode.AfterAfterFrameset h k = omega arith

pub top_at_most : (m : Mode) → top m ≤ 16
top_at_most mode.Initial = omega arith
top_at_most mode.BeforeHtml = omega arith
top_at_most mode.BeforeHead = omega arith
top_at_most mode.InHead = omega arith
top_at_most mode.InHeadNoscript = omega arith
top_at_most mode.AfterHead = omega arith
top_at_most mode.InBody = omega arith
top_at_most mode.Text = omega arith
top_at_most mode.InTable = omega arith
top_at_most mode.InTableText = omega arith
top_at_most mode.InCaption = omega arith
top_at_most mode.InColumnGroup = omega arith
top_at_most mode.InTableBody = omega arith
top_at_most mode.InRow = omega arith
top_at_most mode.InCell = omega arith
top_at_most mode.InSelect = omega arith
top_at_most mode.InSelectInTable = omega arith
top_at_most mode.InTemplate = omega arith
top_at_most mode.AfterBody = omega arith
top_at_most mode.InFrameset = omega arith
top_at_most mode.AfterFrameset = omega arith
top_at_most mode.AfterAfterBody = omega arith
top_at_most mode.AfterAfterFrameset = omega arith

kept_count : (c : Count) (n : ℕ) (st : List OpenElement) → is_kept c ≡ true → CountIs c n st → tally is_counted st ≤ n
kept_count fell n st h k = omega arith
kept_count kept n st h k = k
kept_count course.cleared n st h k = k.0
kept_count unknown n st h k = absurd (cc)

fall_by : (c : Count) (a b n : ℕ) (st : List OpenElement) → falls_by c a b ≡ true → CountIs c n st → a + 16 + 16 * tally is_counted st < b + 16 + 16 * n
fall_by fell a b n st h k = let e : a < b + 16 = ltb-true a (b + 16) h in omega arith
fall_by kept a b n st h k = let e : a < b = ltb-true a b h in omega arith
fall_by course.cleared a b n st h k = let e : a < b = ltb-true a b h in let f : tally is_counted st ≤ n = k.0 in omega arith
fall_by unknown a b n st h k = absurd (cc)

fall_to : (c : Count) (now before : Rank) (n : ℕ) (st : List OpenElement) → falls_to c now before ≡ true → CountIs c n st → value now (tally is_counted st) < value before n
fall_to c (fixed a) (fixed b) n st h k = ltb-true a b h
fall_to c (fixed a) (beside b) n st h k = let e : a < 16 = ltb-true a 16 h in omega arith
fall_to c (beside a) (fixed b) n st h k = absurd (cc)
fall_to c (beside a) (beside b) n st h k = fall_by c a b n st h k

fall_anywhere : (c : Count) (before : Rank) (w n : ℕ) (st : List OpenElement) → w < 14 + 16 + 16 * tally is_counted st → falls_anywhere c before ≡ true → CountIs c n st → w < value before n
fall_anywhere c (fixed b) w n st e h k = absurd (cc)
fall_anywhere fell (beside b) w n st e h k = omega arith
fall_anywhere kept (beside b) w n st e h k = let f : 13 < b = ltb-true 13 b h in omega arith
fall_anywhere course.cleared (beside b) w n st e h k = let f : 13 < b = ltb-true 13 b h in let g : tally is_counted st ≤ n = k.0 in omega arith
fall_anywhere unknown (beside b) w n st e h k = absurd (cc)

fall_left : (kind : Kind) (m : Mode) (before : Rank) (n : ℕ) (st : List OpenElement) → is_settled m ≡ true → tally is_counted st ≤ n → (tally is_counted st < n) ⊎ (is_select_mode m ≡ false) → falls_left before ≡ true → weight kind m st < value before n
fall_left kind m (fixed b) n st s k e h = absurd (cc)
fall_left kind m (beside b) n st s k (inl f) h =
    let g : weight kind m st < top m + 16 + 16 * tally is_counted st = weight-below kind m st in
    let t : top m ≤ 14 = top_of_settled m s in
    let d : 12 < b = ltb-true 12 b h in
    omega arith
fall_left kind m (beside b) n st s k (inr f) h =
    let g : weight kind m st < top m + 16 + 16 * tally is_counted st = weight-below kind m st in
    let t : top m ≤ 13 = top_without_select m s f in
    let d : 12 < b = ltb-true 12 b h in
    omega arith

pub falls-weight : (kind : Kind) (before : Rank) (c : Count) (w : Where) (n : ℕ) (st : List OpenElement) (m : Mode) → CountIs c n st → PlaceIs w n st m → falls kind before c w ≡ true → weight kind m st < value before n
falls-weight kind before c (at there) n st m k p h = subst (λ x. weight kind x st < value before n) (sym p) (fall_to c (rank kind there) before n st h k)
falls-weight kind before c anywhere n st m k p h =
    let g : weight kind m st < top m + 16 + 16 * tally is_counted st = weight-below kind m st in
    let t : top m ≤ 14 = top_of_settled m p in
    fall_anywhere c before (weight kind m st) n st (omega arith) h k
falls-weight kind before c left n st m k p h =
    let parts = and_parts (is_kept c) (falls_left before) h in
    fall_left kind m before n st p.0 (kept_count c n st parts.0 k) p.1 parts.1
