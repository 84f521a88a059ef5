-- The second element, template modes, foreign content and the last tag: what a plan finds out is what holds of the whole state.
use Rattle.std.specs.Prelude.{◌≡◌, ℕ, zero, suc, ◌+◌, ◌<◌, Bool, true, false, not, ◌||◌, List, [], ◌∷◌, ◌++◌, Option, Some, None, Ok, map, drop, length, refl, slice_get}
use Rattle.std.specs.Option.{is_some, unwrap_or}
use Rattle.std.proofs.Common.{sym, ap, ◌∙◌, arith}
use Rattle.std.proofs.lemmas.Bool.{ne_eqb}
use Rattle.std.proofs.lemmas.List.{length-drop}
use Rattle.hp_elements.specs.declared.kinds.Kinds.TheVariants as kinds
use Rattle.hp_elements.specs.declared.token.Mode.{Mode}
use Rattle.hp_control.specs.declared.change.Change.{Change}
use Rattle.hp_control.specs.declared.edit.Edit.{Edit}
use Rattle.hp_control.specs.declared.element.OpenElement.{OpenElement}
use Rattle.hp_control.specs.States.{ControlState}
use Rattle.hp_control.specs.Walks.{seen, second_is_body}
use Rattle.hp_control.specs.Truth.{answer_of, element_answer}
use Rattle.hp_control.specs.Apply.{applied, shifted}
use Rattle.hp_control.specs.Composed.{has_modes, is_second_body, first_is_foreign, is_foreign_now}
use Rattle.hp_control.specs.Faithful.{Page, Split, state_over, IsBase, StandsOn, FaithfulTest}
use Rattle.hp_control.specs.Plan.{end_by}
use Rattle.hp_views.specs.Asking.{is_there, is_foreign, ask_last_tag}
use Rattle.hp_views.specs.PopLaws.{none_left}
use Rattle.hp_views.specs.Quiet.{view, paged_part}
use Rattle.hp_views.specs.Reading.{yes_read}
use Rattle.hp_views.specs.SecondPlans.{last_is_body, second_by, second_older_on, second_on, second_plan, own_modes, foreign_by, foreign_on, foreign_now_plan}
use Rattle.hp_views.specs.StackLaws.{full_stack, first_seen}

-- only the first element is left below: the first own one is the second
second_alone : (n : ℕ) (xs : List OpenElement) (y : OpenElement) → second_is_body (map (shifted n) xs ++ y ∷ []) ≡ last_is_body xs
second_alone n [] y = refl
second_alone n (x ∷ []) y = refl
second_alone n (x ∷ z ∷ []) y = refl
second_alone n (x ∷ z ∷ w ∷ xs) y = second_alone n (z ∷ w ∷ xs) y

-- more is left
second_below : (n : ℕ) (xs : List OpenElement) (y z : OpenElement) (ys : List OpenElement) → second_is_body (map (shifted n) xs ++ y ∷ z ∷ ys) ≡ second_is_body (y ∷ z ∷ ys)
second_below n [] y z ys = refl
second_below n (x ∷ []) y z ys = refl
second_below n (x ∷ w ∷ []) y z ys = refl
second_below n (x ∷ w ∷ v ∷ xs) y z ys = second_below n (w ∷ v ∷ xs) y z ys

second_shifted : (n : ℕ) (xs : List OpenElement) → second_is_body (map (shifted n) xs ++ []) ≡ second_is_body xs
second_shifted n [] = refl
second_shifted n (x ∷ []) = refl
second_shifted n (x ∷ y ∷ []) = refl
second_shifted n (x ∷ y ∷ z ∷ xs) = second_shifted n (y ∷ z ∷ xs)

get_below : (es : List OpenElement) (popped : ℕ) → slice_get es (popped + 1) ≡ slice_get (drop popped es) 1
get_below es zero = refl
get_below [] (suc n) = refl
get_below (e ∷ es) (suc n) = ap (slice_get (e ∷ es)) (let z : suc n + 1 ≡ suc (n + 1) = omega arith in z) ∙ get_below es n

get_top : (es : List OpenElement) (popped : ℕ) → slice_get es popped ≡ slice_get (drop popped es) 0
get_top [] zero = refl
get_top (e ∷ es) zero = refl
get_top [] (suc n) = refl
get_top (e ∷ es) (suc n) = get_top es n

second_asked : (s : ControlState) (popped n : ℕ) (xs ys : List OpenElement) (b : Bool) → drop popped s.stack ≡ ys → 0 < length ys → b ≡ last_is_body xs → end_by (answer_of s) (second_older_on popped b) ≡ Ok (second_is_body (map (shifted n) xs ++ ys))
second_asked s popped n xs [] b e h m = absurd (omega (arith, h))
second_asked s popped n xs (y ∷ []) false e h m = ap (λ l. Ok (second_is_body l)) e ∙ ap Ok (m ∙ sym (second_alone n xs y))
second_asked s popped n xs (y ∷ []) true e h m =
    ap (λ o. end_by (answer_of s) (second_by popped (is_there (element_answer o)))) (get_below s.stack popped ∙ ap (λ l. slice_get l 1) e)
    ∙ ap Ok (m ∙ sym (second_alone n xs y))
second_asked s popped n xs (y ∷ z ∷ ys) false e h m = ap (λ l. Ok (second_is_body l)) e ∙ ap Ok (sym (second_below n xs y z ys))
second_asked s popped n xs (y ∷ z ∷ ys) true e h m =
    ap (λ o. end_by (answer_of s) (second_by popped (is_there (element_answer o)))) (get_below s.stack popped ∙ ap (λ l. slice_get l 1) e)
    ∙ (ap (λ l. Ok (second_is_body l)) e ∙ ap Ok (sym (second_below n xs y z ys)))

second_way : (s : ControlState) (c : Change) (edits : List Edit) (text : Bool) (page : Option Page) → StandsOn s (view c edits text page) → end_by (answer_of s) (second_on page (view c edits text page)) ≡ Ok (second_is_body (map (shifted s.next) c.stack ++ drop c.popped s.stack))
second_way s c edits text None st = second_asked s c.popped s.next c.stack (drop c.popped s.stack) (last_is_body c.stack) refl (omega (arith, st.base.left, length-drop c.popped s.stack)) refl
second_way s c edits text (Some p) st = ap Ok (sym (ap (λ l. second_is_body (map (shifted s.next) c.stack ++ l)) (none_left s st.base c.popped) ∙ second_shifted s.next c.stack))

pub second_faithful : FaithfulTest second_plan is_second_body
second_faithful = λ s v st. second_way s v.change v.edits v.older_text v.page st ∙ ap Ok (sym (ap second_is_body (full_stack s v)))

-- whether the current node is foreign
first_html : (es : List OpenElement) → seen kinds.AnyHtml kinds.All es ≡ true → first_is_foreign es ≡ false
first_html [] h = refl
first_html (e ∷ es) h = ap not (sym (first_seen kinds.AnyHtml (e ∷ es)) ∙ h)

first_other : (es : List OpenElement) → seen kinds.AnyHtml kinds.All es ≡ false → is_foreign (element_answer (slice_get es 0)) ≡ first_is_foreign es
first_other [] h = refl
first_other (e ∷ es) h = refl

foreign_asked : (s : ControlState) (popped : ℕ) (es : List OpenElement) (b : Bool) → drop popped s.stack ≡ es → seen kinds.AnyHtml kinds.All es ≡ b → end_by (answer_of s) (foreign_by popped b) ≡ Ok (first_is_foreign es)
foreign_asked s popped es true e h = ap Ok (sym (first_html es h))
foreign_asked s popped es false e h = ap Ok (ap (λ o. is_foreign (element_answer o)) (get_top s.stack popped ∙ ap (λ l. slice_get l 0) e) ∙ first_other es h)

foreign_way : (s : ControlState) (popped : ℕ) (es : List OpenElement) → end_by (answer_of s) (foreign_on popped es) ≡ Ok (first_is_foreign (map (shifted s.next) es ++ drop popped s.stack))
foreign_way s popped [] =
    let below = drop popped s.stack in
    ap (λ b. end_by (answer_of s) (foreign_by popped b)) (yes_read (seen kinds.AnyHtml kinds.All below))
    ∙ foreign_asked s popped below (seen kinds.AnyHtml kinds.All below) refl refl
foreign_way s popped (e ∷ es) = refl

pub foreign_now_faithful : FaithfulTest foreign_now_plan is_foreign_now
foreign_now_faithful = λ s v st. foreign_way s v.change.popped v.change.stack ∙ ap Ok (sym (ap first_is_foreign (full_stack s v)))

-- the name of the last start tag before the chunk
pub last_tag_told : (s : ControlState) → end_by (answer_of s) ask_last_tag ≡ Ok (unwrap_or s.lex.machine.last_tag [])
last_tag_told s = refl

-- a template mode, where it is the view's own or there is no older state
abbrev pub sees_modes : Split → Bool
sees_modes v = own_modes v.change.templates || is_some v.page

modes_way : (s : ControlState) (page : Option Page) (own : List Mode) (c : Change) → (own_modes own || is_some page) ≡ true → IsBase page c s → own_modes own ≡ is_some (slice_get (own ++ s.templates) 0)
modes_way s page (m ∷ ms) c h base = ap not (ne_eqb (suc (length ms)) 0 (λ q. omega (arith, q)))
modes_way s (Some p) [] c h base = sym (ap (λ (t : ControlState). is_some (slice_get t.templates 0)) base)
modes_way s None [] c h base = absurd (cc)

pub modes_told : (s : ControlState) (v : Split) → StandsOn s v → sees_modes v ≡ true → own_modes v.change.templates ≡ has_modes (state_over v s)
modes_told s v st h = modes_way s v.page v.change.templates v.change h st.base ∙ sym (paged_part v.page (λ c. is_some (slice_get c.templates 0)) (applied v.change s) (λ p c. refl))
