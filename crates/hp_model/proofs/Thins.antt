-- Acts that take elements off the stack, or add some that don't weigh, and leave the modes as they are.
use Rattle.std.proofs.Common.{◌≡◌, ℕ, ◌+◌, ◌≤◌, ◌<◌, ◌==◌, List, [], ◌∷◌, map, Bool, true, false, Option, Some, None, refl, sym, ◌∙◌, subst, arith}
use Rattle.std.specs.Prelude.{if◌then◌else◌, IfSome, All}
use Rattle.hp_control.specs.declared.element.OpenElement.{OpenElement}
use Rattle.hp_control.specs.declared.element.FormattingEntry.{FormattingEntry}
use Rattle.hp_control.specs.declared.element.FormattingEntry.TheVariants.{Marker, Element}
use Rattle.hp_control.specs.Outcome.{Act, and_then, choose, nothing_done}
use Rattle.hp_control.specs.States.{ControlState, AreIds, IsId, IsFormatting, entry_ids, is_rooted}
use Rattle.hp_model.proofs.Tally.{one, tally, tally-nil, tally-cons, tally-map}
use Rattle.hp_model.proofs.Ids.{between, between-then, is_id, grown, within}
use Rattle.hp_model.proofs.Stacks.{Keeps, keeps_all, keeps_then, has_id, root-id}

abbrev pub entry_is : ℕ → FormattingEntry → Bool
entry_is i Marker = false
entry_is i (Element id tag) = id == i

pub tally-entries : (i : ℕ) (es : List FormattingEntry) → tally (is_id i) (entry_ids es) ≡ tally (entry_is i) es
tally-entries i [] = tally-nil (is_id i) ∙ sym (tally-nil (entry_is i))
tally-entries i (Marker ∷ es) =
    let e : tally (entry_is i) (Marker ∷ es) ≡ 0 + tally (entry_is i) es = tally-cons (entry_is i) Marker es in
    let f : tally (is_id i) (entry_ids es) ≡ tally (entry_is i) es = tally-entries i es in
    omega arith
tally-entries i (Element id tag ∷ es) =
    let e : tally (entry_is i) (Element id tag ∷ es) ≡ one (id == i) + tally (entry_is i) es = tally-cons (entry_is i) (Element id tag) es in
    let g : tally (is_id i) (id ∷ entry_ids es) ≡ one (id == i) + tally (is_id i) (entry_ids es) = tally-cons (is_id i) id (entry_ids es) in
    let f : tally (is_id i) (entry_ids es) ≡ tally (entry_is i) es = tally-entries i es in
    omega arith

abbrev pub ids_of : List OpenElement → List ℕ
ids_of es = map (λ e. e.id) es

pub tally-stack : (i : ℕ) (es : List OpenElement) → tally (is_id i) (ids_of es) ≡ tally (has_id i) es
tally-stack i es = tally-map (is_id i) (λ (e : OpenElement). e.id) es

-- what these acts need
pub record Ready (c : ControlState) : Type 0 where
  pub rooted : is_rooted c.stack ≡ true
  pub stack_ids : AreIds 0 c.next (ids_of c.stack)
  pub list_ids : AreIds 1 c.next (entry_ids c.formatting)
  pub head : IfSome c.head (IsId c.next)
  pub form : IfSome c.form (IsId c.next)
  pub formatting : All IsFormatting c.formatting

pub next-more : (next : ℕ) (stack : List OpenElement) → is_rooted stack ≡ true → AreIds 0 next (ids_of stack) → 1 < next
next-more next stack r a =
    let t : tally (is_id 1) (ids_of stack) ≡ tally (has_id 1) stack = tally-stack 1 stack in
    let h : 0 < tally (has_id 1) stack = root-id stack r in
    (within 0 next (ids_of stack) 1 a (omega arith)).1

pub record Alike (c d : ControlState) : Type 0 where
  pub mode : d.mode ≡ c.mode
  pub original : d.original ≡ c.original
  pub pending : d.pending ≡ c.pending
  pub templates : d.templates ≡ c.templates
  pub head : d.head ≡ c.head
  pub lex : d.lex ≡ c.lex

pub record Thins (c d : ControlState) : Type 0 where
  pub next : c.next ≤ d.next
  pub stack : Keeps c.next d.next c.stack d.stack
  pub list : (i : ℕ) → tally (entry_is i) d.formatting ≤ tally (entry_is i) c.formatting + between c.next d.next i
  pub formatting : All IsFormatting d.formatting
  pub form : IfSome d.form (λ id. c.form ≡ Some id)
  pub alike : Alike c d

alike_then : (b c d : ControlState) → Alike b c → Alike c d → Alike b d
alike_then b c d f g = record {
  mode = g.mode ∙ f.mode;
  original = g.original ∙ f.original;
  pending = g.pending ∙ f.pending;
  templates = g.templates ∙ f.templates;
  head = g.head ∙ f.head;
  lex = g.lex ∙ f.lex;
}

form_then : (a b c : Option ℕ) → IfSome b (λ id. a ≡ Some id) → IfSome c (λ id. b ≡ Some id) → IfSome c (λ id. a ≡ Some id)
form_then a b None f g = tt
form_then a b (Some id) f g = subst (λ o. IfSome o (λ i. a ≡ Some i)) g f

pub thins_then : (b c d : ControlState) → Thins b c → Thins c d → Thins b d
thins_then b c d f g =
    let h : b.next ≤ c.next = f.next in
    let k : c.next ≤ d.next = g.next in
    record {
      next = omega arith;
      stack = keeps_then b.next c.next d.next b.stack c.stack d.stack h k f.stack g.stack;
      list = λ i.
          let p : tally (entry_is i) c.formatting ≤ tally (entry_is i) b.formatting + between b.next c.next i = f.list i in
          let q : tally (entry_is i) d.formatting ≤ tally (entry_is i) c.formatting + between c.next d.next i = g.list i in
          let w : between b.next c.next i + between c.next d.next i ≤ between b.next d.next i = between-then b.next c.next d.next i h k in
          omega arith;
      formatting = g.formatting;
      form = form_then b.form c.form d.form f.form g.form;
      alike = alike_then b c d f.alike g.alike;
    }

same_form : (o : Option ℕ) → IfSome o (λ id. o ≡ Some id)
same_form None = tt
same_form (Some id) = refl

pub alike_all : (c : ControlState) → Alike c c
alike_all c = record { mode = refl; original = refl; pending = refl; templates = refl; head = refl; lex = refl }

-- only the stack changed
pub thins_stack : (c : ControlState) (stack : List OpenElement) → Ready c → Keeps c.next c.next c.stack stack → Thins c (record c { stack = stack })
thins_stack c stack r k = record {
  next = omega arith;
  stack = k;
  list = λ i. omega arith;
  formatting = r.formatting;
  form = same_form c.form;
  alike = record { mode = refl; original = refl; pending = refl; templates = refl; head = refl; lex = refl };
}

-- only the list changed
pub thins_list : (c : ControlState) (list : List FormattingEntry) → ((i : ℕ) → tally (entry_is i) list ≤ tally (entry_is i) c.formatting) → All IsFormatting list → Thins c (record c { formatting = list })
thins_list c list h a = record {
  next = omega arith;
  stack = keeps_all c.next c.next c.stack;
  list = λ i. let e : tally (entry_is i) list ≤ tally (entry_is i) c.formatting = h i in omega arith;
  formatting = a;
  form = same_form c.form;
  alike = record { mode = refl; original = refl; pending = refl; templates = refl; head = refl; lex = refl };
}

pub thins_all : (c : ControlState) → Ready c → Thins c c
thins_all c r = record { next = omega arith; stack = keeps_all c.next c.next c.stack; list = λ i. omega arith; formatting = r.formatting; form = same_form c.form; alike = alike_all c }

pub id_later : (n m : ℕ) (o : Option ℕ) → n ≤ m → IfSome o (IsId n) → IfSome o (IsId m)
id_later n m None h k = tt
id_later n m (Some id) h k = let e : id < n = k.1 in (k.0, omega arith)

form_later : (n m : ℕ) (o p : Option ℕ) → n ≤ m → IfSome o (IsId n) → IfSome p (λ id. o ≡ Some id) → IfSome p (IsId m)
form_later n m o None h k f = tt
form_later n m o (Some id) h k f = id_later n m (Some id) h (subst (λ p. IfSome p (IsId n)) f k)

pub stack-grown : (n m : ℕ) (old new : List OpenElement) → 0 < n → n ≤ m → ((i : ℕ) → tally (has_id i) new ≤ tally (has_id i) old + between n m i) → AreIds 0 n (ids_of old) → AreIds 0 m (ids_of new)
stack-grown n m old new l k h a = grown 0 n m (ids_of old) (ids_of new) l k
    (λ i.
    let e : tally (is_id i) (ids_of old) ≡ tally (has_id i) old = tally-stack i old in
    let f : tally (is_id i) (ids_of new) ≡ tally (has_id i) new = tally-stack i new in
    let g : tally (has_id i) new ≤ tally (has_id i) old + between n m i = h i in
    omega arith)
    a

pub list-grown : (n m : ℕ) (old new : List FormattingEntry) → 1 < n → n ≤ m → ((i : ℕ) → tally (entry_is i) new ≤ tally (entry_is i) old + between n m i) → AreIds 1 n (entry_ids old) → AreIds 1 m (entry_ids new)
list-grown n m old new l k h a = grown 1 n m (entry_ids old) (entry_ids new) l k
    (λ i.
    let e : tally (is_id i) (entry_ids old) ≡ tally (entry_is i) old = tally-entries i old in
    let f : tally (is_id i) (entry_ids new) ≡ tally (entry_is i) new = tally-entries i new in
    let g : tally (entry_is i) new ≤ tally (entry_is i) old + between n m i = h i in
    omega arith)
    a

pub ready_next : (c : ControlState) → Ready c → 1 < c.next
ready_next c r = next-more c.next c.stack r.rooted r.stack_ids

pub ready_after : (c d : ControlState) → Ready c → Thins c d → Ready d
ready_after c d r t =
    let l : 1 < c.next = ready_next c r in
    record {
      rooted = t.stack.rooted r.rooted;
      stack_ids = stack-grown c.next d.next c.stack d.stack (omega arith) t.next t.stack.ids r.stack_ids;
      list_ids = list-grown c.next d.next c.formatting d.formatting l t.next t.list r.list_ids;
      head = subst (λ o. IfSome o (IsId d.next)) (sym t.alike.head) (id_later c.next d.next c.head t.next r.head);
      form = form_later c.next d.next c.form d.form t.next r.form t.form;
      formatting = t.formatting;
    }

abbrev pub Thinning : Act → Type 0
Thinning f = (c : ControlState) → Ready c → Thins c (f c).control

pub thinning_nothing : Thinning nothing_done
thinning_nothing c r = thins_all c r

pub thinning_then : (f g : Act) → Thinning f → Thinning g → Thinning (and_then f g)
thinning_then f g p q c r =
    let t = p c r in
    thins_then c (f c).control (g (f c).control).control t (q (f c).control (ready_after c (f c).control r t))

pub thinning_choose : (test : ControlState → Bool) (f g : Act) → Thinning f → Thinning g → Thinning (choose test f g)
thinning_choose test f g p q c r = go (test c)
  where
    go : (b : Bool) → Thins c (if b then f c else g c).control
    go true = p c r
    go false = q c r
