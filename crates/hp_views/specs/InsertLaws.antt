-- Nodes put into places: each plan does to a view what its act does to the whole state.
use Rattle.std.specs.Prelude.{◌≡◌, ℕ, ◌+◌, Bool, false, ◌||◌, List, [], ◌∷◌, ◌++◌, Option, Some, None, Result, Ok, map, refl}
use Rattle.std.proofs.Common.{sym, subst, ap, ◌∙◌, arith, append_assoc}
use Rattle.std.proofs.lemmas.List.{map-append}
use Rattle.hp_elements.specs.declared.tag.Attribute.{Attribute}
use Rattle.hp_elements.specs.declared.tag.Tag.{Tag}
use Rattle.hp_control.specs.declared.change.Change.{Change}
use Rattle.hp_control.specs.declared.edit.Child.{Child}
use Rattle.hp_control.specs.declared.edit.Child.TheVariants as child
use Rattle.hp_control.specs.declared.edit.Edit.{Edit}
use Rattle.hp_control.specs.declared.edit.Edit.TheVariants.{NewElement, Put, Detach, AddMissing}
use Rattle.hp_control.specs.declared.edit.Place.{Place}
use Rattle.hp_control.specs.declared.edit.Place.TheVariants.{Into}
use Rattle.hp_control.specs.declared.edit.Ref.{Ref}
use Rattle.hp_control.specs.declared.edit.Ref.TheVariants.{Fixed, Older, Own}
use Rattle.hp_control.specs.declared.element.OpenElement.{OpenElement}
use Rattle.hp_control.specs.declared.question.Crossing.{Crossing}
use Rattle.hp_control.specs.Edits.{IsFixed, IsFixedChild}
use Rattle.hp_control.specs.States.{ControlState}
use Rattle.hp_control.specs.Truth.{answer_of}
use Rattle.hp_control.specs.Apply.{applied, named, named_place, named_child, named_edit}
use Rattle.hp_control.specs.Outcome.{Act, Outcome}
use Rattle.hp_control.specs.Acts.{first_id, second_id, place, element_for, insert, insert_at as insert_act, insert_into_document, put_at as put_act, put_here, put_into_first, add_missing_to, add_missing_to_first, add_missing_to_body, detach_body, outer}
use Rattle.hp_control.specs.Faithful.{Page, Split, state_over, with_page, IsBase, StandsOn, IsDone, Matches, Faithful}
use Rattle.hp_control.specs.Plan.{gives, followed_by, end_by}
use Rattle.hp_control.specs.Running.{on_end, end_then}
use Rattle.hp_views.specs.PlaceLaws.{place_placed, first_named, whole_stack, none_made}
use Rattle.hp_views.specs.PlacePlans.{own_ref, first_ref, place_plan, put_at, put_plan, put_document_plan, put_first_plan, pushed, insert_at, insert_plan, insert_document_plan, add_to_on, add_first_plan, add_body_plan, detach_on, detach_plan}
use Rattle.hp_views.specs.PopLaws.{stack_over}
use Rattle.hp_views.specs.Quiet.{view, paged, page_there, none_there, stands_kept}
use Rattle.hp_views.specs.StackLaws.{full_stack}

-- one more edit
one_edit : (s : ControlState) (edits : List Edit) (e f : Edit) → named_edit s e ≡ f → map (named_edit s) (edits ++ e ∷ []) ≡ map (named_edit s) edits ++ f ∷ []
one_edit s edits e f h = map-append (named_edit s) edits (e ∷ []) ∙ ap (λ x. map (named_edit s) edits ++ x ∷ []) h

fixed_ref : (s : ControlState) (r : Ref) → IsFixed r → named s r ≡ r
fixed_ref s (Fixed id) h = refl
fixed_ref s (Older depth) h = absurd h
fixed_ref s (Own number) h = absurd h

-- a child that is no element of the chunk's own is the same in each state
fixed_child : (s : ControlState) (what : Child) → IsFixedChild what → named_child s what ≡ what
fixed_child s (child.Element node) h = ap child.Element (fixed_ref s node h)
fixed_child s (child.Text text) h = refl
fixed_child s (child.Comment text) h = refl
fixed_child s (child.Doctype parts) h = refl

-- where the place that was found stands for the true one
at_place : (s : ControlState) (v : Split) (fostering : Bool) (next : Place → Split) (o : Outcome) → StandsOn s v → ((p : Place) → named_place s p ≡ place fostering (state_over v s).stack → IsDone s v (next p) o) → Matches s v (end_by (answer_of s) (followed_by (place_plan fostering v) (λ p. gives (next p)))) o
at_place s v fostering next o st h =
    let d = place_placed s v fostering st in
    let P : Result Split Crossing → Type 0 = λ e. Matches s v e o in
    subst P (sym (end_then (answer_of s) (place_plan fostering v) (λ p. gives (next p)) ∙ ap (λ e. on_end e (λ p. Ok (next p))) d.ends)) (h d.found d.named)

-- a child put into a place
put_done : (s : ControlState) (v : Split) (what : Child) (p q : Place) → StandsOn s v → IsFixedChild what → named_place s p ≡ q → IsDone s v (put_at what v p) (put_act what q (state_over v s))
put_done s v what p q st f h = record {
  control = refl;
  edits = one_edit s v.edits (Put what p) (Put what q) (ap (λ w. Put w (named_place s p)) (fixed_child s what f) ∙ ap (Put what) h);
  own = refl;
  stands = record { older = st.older; text = st.text; base = st.base };
}

pub put_faithful : (fostering : Bool) (what : Child) → IsFixedChild what → Faithful (put_plan fostering what) (put_here fostering what)
put_faithful fostering what f = λ s v st fit u. at_place s v fostering (put_at what v) (put_here fostering what (state_over v s)) st (λ p h. put_done s v what p (place fostering (state_over v s).stack) st f h)

pub put_document_faithful : (what : Child) → IsFixedChild what → Faithful (put_document_plan what) (put_act what (Into (Fixed 0)))
put_document_faithful what f = λ s v st fit u. put_done s v what (Into (Fixed 0)) (Into (Fixed 0)) st f refl

first_full : (s : ControlState) (v : Split) → StandsOn s v → named s (first_ref v.page v.change.stack) ≡ Fixed (first_id (state_over v s).stack)
first_full s v st = first_named s v.change v.page st.base ∙ ap (λ l. Fixed (first_id l)) (sym (full_stack s v))

pub put_first_faithful : (what : Child) → IsFixedChild what → Faithful (put_first_plan what) (put_into_first what)
put_first_faithful what f = λ s v st fit u. put_done s v what (Into (first_ref v.page v.change.stack)) (Into (Fixed (first_id (state_over v s).stack))) st f (ap Into (first_full s v st))

-- an element made, put into a place and pushed
own_made : (s : ControlState) (c : Change) (page : Option Page) → IsBase page c s → named s (own_ref page c.made) ≡ Fixed (s.next + c.made)
own_made s c None h = refl
own_made s c (Some p) h = ap Fixed (let n : c.made ≡ s.next + c.made = omega (arith, none_made s h) in n)

paged_next : (page : Option Page) (c : ControlState) → (with_page page c).next ≡ c.next
paged_next None c = refl
paged_next (Some p) c = refl

abbrev pub grown : Tag → ControlState → ControlState
grown tag c = record c { stack = element_for c.next tag ∷ c.stack; next = c.next + 1 }

insert_done : (s : ControlState) (v : Split) (tag : Tag) (p q : Place) → StandsOn s v → named_place s p ≡ q → IsDone s v (insert_at tag v p) (insert_act tag q (state_over v s))
insert_done s v tag p q st h =
    let made = s.next + v.change.made in
    let next : (state_over v s).next ≡ made = paged_next v.page (applied v.change s) in
    record {
      control =
          ap (λ n. with_page v.page (record (applied v.change s) { stack = element_for made tag ∷ (applied v.change s).stack; next = n })) (let z : s.next + (v.change.made + 1) ≡ made + 1 = omega arith in z)
          ∙ paged v.page (grown tag) (applied v.change s) (λ page c. refl);
      edits =
          one_edit s (v.edits ++ NewElement tag ∷ []) (Put (child.Element (own_ref v.page v.change.made)) p) (Put (child.Element (Fixed (state_over v s).next)) q)
          (ap (λ r. Put (child.Element r) (named_place s p)) (own_made s v.change v.page st.base ∙ ap Fixed (sym next)) ∙ ap (Put (child.Element (Fixed (state_over v s).next))) h)
          ∙ (ap (λ l. l ++ Put (child.Element (Fixed (state_over v s).next)) q ∷ []) (one_edit s v.edits (NewElement tag) (NewElement tag) refl)
          ∙ append_assoc (map (named_edit s) v.edits) (NewElement tag ∷ []) (Put (child.Element (Fixed (state_over v s).next)) q ∷ []));
      own = refl;
      stands = (let t = stands_kept s v (pushed tag v.change) refl st in record { older = t.older; text = t.text; base = t.base });
    }

pub insert_faithful : (fostering : Bool) (tag : Tag) → Faithful (insert_plan fostering tag) (insert fostering tag)
insert_faithful fostering tag = λ s v st fit u. at_place s v fostering (insert_at tag v) (insert fostering tag (state_over v s)) st (λ p h. insert_done s v tag p (place fostering (state_over v s).stack) st h)

pub insert_document_faithful : (tag : Tag) → Faithful (insert_document_plan tag) (insert_into_document tag)
insert_document_faithful tag = λ s v st fit u. insert_done s v tag (Into (Fixed 0)) (Into (Fixed 0)) st refl

-- the html and the body element
add_way : (pick : List OpenElement → ℕ) (s : ControlState) (c : Change) (edits : List Edit) (text : Bool) (page : Option Page) (attributes : List Attribute) → StandsOn s (view c edits text page) → Matches s (view c edits text page) (end_by (answer_of s) (add_to_on page (pick c.stack) attributes (view c edits text page))) (add_missing_to (pick (stack_over s c)) attributes (with_page page (applied c s)))
add_way pick s c edits text None attributes st = ap (λ b. b || false) (page_there c s st.base)
add_way pick s c edits text (Some p) attributes st = record {
  control = refl;
  edits = one_edit s edits (AddMissing (Fixed (pick c.stack)) attributes) (AddMissing (Fixed (pick (stack_over s c))) attributes) (ap (λ l. AddMissing (Fixed (pick l)) attributes) (sym (whole_stack s st.base c)));
  own = ap (λ b. b || false) (none_there s st.base);
  stands = record { older = st.older; text = st.text; base = st.base };
}

add_faithful : (pick : List OpenElement → ℕ) (attributes : List Attribute) → Faithful (λ v. add_to_on v.page (pick v.change.stack) attributes v) (λ c. add_missing_to (pick c.stack) attributes c)
add_faithful pick attributes = λ s v st fit u.
    let P : List OpenElement → Type 0 = λ l. Matches s v (end_by (answer_of s) (add_to_on v.page (pick v.change.stack) attributes v)) (add_missing_to (pick l) attributes (state_over v s)) in
    subst P (sym (full_stack s v)) (add_way pick s v.change v.edits v.older_text v.page attributes st)

pub add_first_faithful : (attributes : List Attribute) → Faithful (add_first_plan attributes) (add_missing_to_first attributes)
add_first_faithful attributes = add_faithful first_id attributes

pub add_body_faithful : (attributes : List Attribute) → Faithful (add_body_plan attributes) (add_missing_to_body attributes)
add_body_faithful attributes = add_faithful second_id attributes

-- the body leaves the document
abbrev pub detached : ℕ → Act
detached id c = record { control = c; edits = Detach (Fixed id) ∷ []; touched = outer ∷ []; spared = false }

detach_way : (s : ControlState) (c : Change) (edits : List Edit) (text : Bool) (page : Option Page) → StandsOn s (view c edits text page) → Matches s (view c edits text page) (end_by (answer_of s) (detach_on page (second_id c.stack) (view c edits text page))) (detached (second_id (stack_over s c)) (with_page page (applied c s)))
detach_way s c edits text None st = ap (λ b. b || false) (page_there c s st.base)
detach_way s c edits text (Some p) st = record {
  control = refl;
  edits = one_edit s edits (Detach (Fixed (second_id c.stack))) (Detach (Fixed (second_id (stack_over s c)))) (ap (λ l. Detach (Fixed (second_id l))) (sym (whole_stack s st.base c)));
  own = ap (λ b. b || false) (none_there s st.base);
  stands = record { older = st.older; text = st.text; base = st.base };
}

pub detach_faithful : Faithful detach_plan detach_body
detach_faithful = λ s v st fit u.
    let P : List OpenElement → Type 0 = λ l. Matches s v (end_by (answer_of s) (detach_on v.page (second_id v.change.stack) v)) (detached (second_id l) (state_over v s)) in
    subst P (sym (full_stack s v)) (detach_way s v.change v.edits v.older_text v.page st)
