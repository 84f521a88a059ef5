-- What a new element on the stack does to a track.
use Rattle.std.proofs.Common.{◌≡◌, ℕ, suc, ◌+◌, ◌<◌, List, ◌∷◌, length, Bool, true, false, ◌||◌, ◌&&◌, not, refl, sym, ap, ◌∙◌, subst, arith, Option, None, Some}
use Rattle.std.specs.Prelude.{All, IfSome}
use Rattle.std.proofs.lemmas.Bool.{and_from, true≢false, and_right}
use Rattle.std.proofs.lemmas.List.Elements.{All-cons}
use Rattle.hp_elements.specs.Names.{words}
use Rattle.hp_control.specs.declared.element.OpenElement.{OpenElement}
use Rattle.hp_control.specs.States.{ControlState, AreIds, IsId, IsNew, entry_ids, is_rooted}
use Rattle.hp_model.proofs.Courses.{new-above}
use Rattle.hp_model.proofs.Stacks.{rooted-some}
use Rattle.hp_older.specs.GoesOn.{IsFree, comes, is_a, is_key, is_new, own}
use Rattle.hp_older.proofs.Kept.{kept-no, kept-yes}
use Rattle.hp_older.proofs.Keys.{named-named, named_in}
use Rattle.hp_older.proofs.Levels.{Strong, core_names, fewer, key_names, own_of, template_names}
use Rattle.hp_older.proofs.Track.{Balance, even, over, under, BalanceIs, On, common, template, cell, select, frames, Track, is_even, pushed}
use Rattle.hp_older.proofs.Tracking.{back-strong, place-loose}

-- a new element of one of the names, and one of none of them
pub own-more : (s : ControlState) (names : List (List ℕ)) (e : OpenElement) (es : List OpenElement) → is_new s e ≡ true → named_in names e ≡ true → own_of s names (e ∷ es) ≡ e ∷ own_of s names es
own-more s names e es n h = kept-yes (λ x. is_new s x && named_in names x) e es (and_from (is_new s e) (named_in names e) n h)

pub own-same : (s : ControlState) (names : List (List ℕ)) (e : OpenElement) (es : List OpenElement) → named_in names e ≡ false → own_of s names (e ∷ es) ≡ own_of s names es
own-same s names e es h = kept-no (λ x. is_new s x && named_in names x) e es (and_right (is_new s e) (named_in names e) h)

-- the element that is made next is free
pub next-free : (c : ControlState) (e : OpenElement) → e.id ≡ c.next → AreIds 1 c.next (entry_ids c.formatting) → IfSome c.form (IsId c.next) → IsFree c.formatting c.form e
next-free c e i list fm = record { unlisted = subst (λ n. IsNew n (entry_ids c.formatting)) (sym i) (new-above 1 c.next (entry_ids c.formatting) list); no_form = go c.form fm }
  where
    go : (o : Option ℕ) → IfSome o (IsId c.next) → IfSome o (λ id. id ≡ e.id → ⊥)
    go None h = tt
    go (Some id) h = λ k. let l : id < c.next = h.1 in let z : id ≡ c.next = k ∙ i in absurd (omega arith)

abbrev pub with_top : OpenElement → ControlState → ControlState
with_top e c = record c { stack = e ∷ c.stack; next = c.next + 1 }

-- an element that isn't kept track of
pub push_common : (w : Track) (s c : ControlState) (e : OpenElement) → On w s c → is_rooted c.stack ≡ true → is_new s e ≡ true → named_in key_names e ≡ false → On (pushed common w) s (with_top e c)
push_common w s c e g r n h =
    let none : (names : List (List ℕ)) → named_in names e ≡ false → own_of s names (e ∷ c.stack) ≡ own_of s names c.stack = λ names k. own-same s names e c.stack k in
    let k : Strong s c.stack (e ∷ c.stack) = none key_names h in
    let few : own_of s template_names (e ∷ c.stack) ≡ own_of s template_names c.stack = fewer s template_names key_names c.stack (e ∷ c.stack) refl k in
    let core : own_of s core_names (e ∷ c.stack) ≡ own_of s core_names c.stack = fewer s core_names key_names c.stack (e ∷ c.stack) refl k in
    record {
      html = fewer s (words "html") key_names c.stack (e ∷ c.stack) refl k ∙ g.html;
      balance = subst (λ es. BalanceIs w.balance (length es) (length c.templates) (length s.templates)) (sym few) g.balance;
      free = subst (λ es. All (IsFree c.formatting c.form) es) (sym core) g.free;
      top = (rooted-some c.stack r, ap not (and_right (is_new s e) (is_key e) h), n);
      there = tt;
      cell = λ z. ap (comes (is_a "td th")) core ∙ g.cell z;
      select = λ z. ap (comes (is_a "select")) (fewer s (words "template select") key_names c.stack (e ∷ c.stack) refl k) ∙ g.select z;
      bare = λ z. few ∙ g.bare z;
      still = λ z. fewer s (words "frameset") key_names c.stack (e ∷ c.stack) refl k ∙ g.still z;
      back = back-strong w.back s c.original c.stack (e ∷ c.stack) k g.back;
      place = place-loose w.place s c.mode c.stack (e ∷ c.stack) g.place;
    }

over_more : (b : Balance) (templates modes older : ℕ) → is_even b ≡ true → BalanceIs b templates modes older → modes + 1 ≡ older + suc templates
over_more even templates modes older h k = omega arith
over_more over templates modes older h k = absurd (true≢false (sym h))
over_more under templates modes older h k = absurd (true≢false (sym h))

-- a template
pub push_template : (w : Track) (s c : ControlState) (e : OpenElement) → On w s c → is_new s e ≡ true → named_in template_names e ≡ true → is_even w.balance ≡ true → IsFree c.formatting c.form e
    → named_in (words "frameset") e ≡ false → named_in (words "html") e ≡ false → On (pushed template w) s (with_top e c)
push_template w s c e g n h b f nf nh =
    let few : own_of s template_names (e ∷ c.stack) ≡ e ∷ own_of s template_names c.stack = own-more s template_names e c.stack n h in
    let core : own_of s core_names (e ∷ c.stack) ≡ e ∷ own_of s core_names c.stack = own-more s core_names e c.stack n (named-named template_names core_names refl e h) in
    record {
      html = own-same s (words "html") e c.stack nh ∙ g.html;
      balance = subst (λ es. length c.templates + 1 ≡ length s.templates + length es) (sym few) (over_more w.balance (length (own s (is_a "template") c.stack)) (length c.templates) (length s.templates) b g.balance);
      free = subst (λ es. All (IsFree c.formatting c.form) es) (sym core) (All-cons (IsFree c.formatting c.form) e (own s (is_a "template td th") c.stack) f g.free);
      top = tt;
      there = tt;
      cell = λ z. absurd (true≢false (sym z));
      select = λ z. absurd (true≢false (sym z));
      bare = λ z. absurd (true≢false (sym z));
      still = λ z. own-same s (words "frameset") e c.stack nf ∙ g.still z;
      back = tt;
      place = place-loose w.place s c.mode c.stack (e ∷ c.stack) g.place;
    }

pub comes-one : (test : OpenElement → Bool) (e : OpenElement) (es : List OpenElement) → test e ≡ true → comes test (e ∷ es) ≡ true
comes-one test e es h = ap (λ b. b || (not (is_a "template" e) && comes test es)) h

-- a cell
pub push_cell : (w : Track) (s c : ControlState) (e : OpenElement) → On w s c → is_new s e ≡ true → named_in (words "td th") e ≡ true → IsFree c.formatting c.form e
    → named_in template_names e ≡ false → named_in (words "template select") e ≡ false → named_in (words "frameset") e ≡ false → named_in (words "html") e ≡ false → On (pushed cell w) s (with_top e c)
push_cell w s c e g n h f nt nc nf nh =
    let few : own_of s template_names (e ∷ c.stack) ≡ own_of s template_names c.stack = own-same s template_names e c.stack nt in
    let core : own_of s core_names (e ∷ c.stack) ≡ e ∷ own_of s core_names c.stack = own-more s core_names e c.stack n (named-named (words "td th") core_names refl e h) in
    record {
      html = own-same s (words "html") e c.stack nh ∙ g.html;
      balance = subst (λ es. BalanceIs w.balance (length es) (length c.templates) (length s.templates)) (sym few) g.balance;
      free = subst (λ es. All (IsFree c.formatting c.form) es) (sym core) (All-cons (IsFree c.formatting c.form) e (own s (is_a "template td th") c.stack) f g.free);
      top = tt;
      there = tt;
      cell = λ z. ap (comes (is_a "td th")) core ∙ comes-one (is_a "td th") e (own s (is_a "template td th") c.stack) h;
      select = λ z. ap (comes (is_a "select")) (own-same s (words "template select") e c.stack nc) ∙ g.select z;
      bare = λ z. few ∙ g.bare z;
      still = λ z. own-same s (words "frameset") e c.stack nf ∙ g.still z;
      back = tt;
      place = place-loose w.place s c.mode c.stack (e ∷ c.stack) g.place;
    }

-- a select
pub push_select : (w : Track) (s c : ControlState) (e : OpenElement) → On w s c → is_new s e ≡ true → named_in (words "select") e ≡ true
    → named_in core_names e ≡ false → named_in template_names e ≡ false → named_in (words "frameset") e ≡ false → named_in (words "html") e ≡ false → On (pushed select w) s (with_top e c)
push_select w s c e g n h nc nt nf nh =
    let few : own_of s template_names (e ∷ c.stack) ≡ own_of s template_names c.stack = own-same s template_names e c.stack nt in
    let core : own_of s core_names (e ∷ c.stack) ≡ own_of s core_names c.stack = own-same s core_names e c.stack nc in
    record {
      html = own-same s (words "html") e c.stack nh ∙ g.html;
      balance = subst (λ es. BalanceIs w.balance (length es) (length c.templates) (length s.templates)) (sym few) g.balance;
      free = subst (λ es. All (IsFree c.formatting c.form) es) (sym core) g.free;
      top = tt;
      there = tt;
      cell = λ z. ap (comes (is_a "td th")) core ∙ g.cell z;
      select = λ z. ap (comes (is_a "select")) (own-more s (words "template select") e c.stack n (named-named (words "select") (words "template select") refl e h)) ∙ comes-one (is_a "select") e (own s (is_a "template select") c.stack) h;
      bare = λ z. few ∙ g.bare z;
      still = λ z. own-same s (words "frameset") e c.stack nf ∙ g.still z;
      back = tt;
      place = place-loose w.place s c.mode c.stack (e ∷ c.stack) g.place;
    }

-- a frameset
pub push_frames : (w : Track) (s c : ControlState) (e : OpenElement) → On w s c → named_in core_names e ≡ false → named_in template_names e ≡ false → named_in (words "template select") e ≡ false → named_in (words "html") e ≡ false
    → On (pushed frames w) s (with_top e c)
push_frames w s c e g nc nt ns nh =
    let few : own_of s template_names (e ∷ c.stack) ≡ own_of s template_names c.stack = own-same s template_names e c.stack nt in
    let core : own_of s core_names (e ∷ c.stack) ≡ own_of s core_names c.stack = own-same s core_names e c.stack nc in
    record {
      html = own-same s (words "html") e c.stack nh ∙ g.html;
      balance = subst (λ es. BalanceIs w.balance (length es) (length c.templates) (length s.templates)) (sym few) g.balance;
      free = subst (λ es. All (IsFree c.formatting c.form) es) (sym core) g.free;
      top = tt;
      there = tt;
      cell = λ z. ap (comes (is_a "td th")) core ∙ g.cell z;
      select = λ z. ap (comes (is_a "select")) (own-same s (words "template select") e c.stack ns) ∙ g.select z;
      bare = λ z. few ∙ g.bare z;
      still = λ z. absurd (true≢false (sym z));
      back = tt;
      place = place-loose w.place s c.mode c.stack (e ∷ c.stack) g.place;
    }
