-- How much of the new elements an act leaves as they are.
use Rattle.std.proofs.Common.{◌≡◌, ℕ, ◌<◌, List, [], ◌∷◌, drop, length, Bool, true, false, ◌&&◌, refl, sym, ap, ◌∙◌}
use Rattle.std.specs.Prelude.{if◌then◌else◌}
use Rattle.std.specs.List.{list_all}
use Rattle.std.proofs.lemmas.Bool.{true≢false}
use Rattle.hp_elements.specs.Names.{is_among, words}
use Rattle.hp_control.specs.declared.element.OpenElement.{OpenElement}
use Rattle.hp_control.specs.Acts.{popped_by}
use Rattle.hp_control.specs.States.{ControlState}
use Rattle.hp_older.specs.GoesOn.{is_new, kept}
use Rattle.hp_older.proofs.Kept.{kept-drop, kept-part}
use Rattle.hp_older.proofs.Keys.{named-named, named_in}
use Rattle.hp_older.proofs.Popping.{all-popped}

-- the names of what is kept track of; of templates and cells; of templates
abbrev pub key_names : List (List ℕ)
key_names = words "template td th select frameset html"

abbrev pub core_names : List (List ℕ)
core_names = words "template td th"

abbrev pub template_names : List (List ℕ)
template_names = words "template"

abbrev pub own_of : ControlState → List (List ℕ) → List OpenElement → List OpenElement
own_of s names es = kept (λ e. is_new s e && named_in names e) es

-- all stays
abbrev pub Strong : ControlState → List OpenElement → List OpenElement → Type 0
Strong s old new = own_of s key_names new ≡ own_of s key_names old

-- templates and cells stay, and no html or frameset comes
pub record Weak (s : ControlState) (old new : List OpenElement) : Type 0 where
  pub core : own_of s core_names new ≡ own_of s core_names old
  pub html : own_of s (words "html") old ≡ [] → own_of s (words "html") new ≡ []
  pub frameset : own_of s (words "frameset") old ≡ [] → own_of s (words "frameset") new ≡ []

-- templates stay, cells may go
pub record Thin (s : ControlState) (old new : List OpenElement) : Type 0 where
  pub template : own_of s template_names new ≡ own_of s template_names old
  pub html : own_of s (words "html") old ≡ [] → own_of s (words "html") new ≡ []
  pub frameset : own_of s (words "frameset") old ≡ [] → own_of s (words "frameset") new ≡ []
  pub gone : ℕ
  pub core : own_of s core_names new ≡ drop gone (own_of s core_names old)

-- of the new ones of some names, those of fewer
pub own-of : (s : ControlState) (few many : List (List ℕ)) → list_all (is_among many) few ≡ true → (es : List OpenElement) → kept (named_in few) (own_of s many es) ≡ own_of s few es
own-of s few many h [] = refl
own-of s few many h (e ∷ es) = go (is_new s e) (named_in many e) refl (named_in few e) refl (own-of s few many h es)
  where
    go : (n b : Bool) → named_in many e ≡ b → (a : Bool) → named_in few e ≡ a → kept (named_in few) (own_of s many es) ≡ own_of s few es
        → kept (named_in few) (if n && b then e ∷ own_of s many es else own_of s many es) ≡ (if n && a then e ∷ own_of s few es else own_of s few es)
    go true true f true g r = ap (λ b. if b then e ∷ kept (named_in few) (own_of s many es) else kept (named_in few) (own_of s many es)) g ∙ ap (λ l. e ∷ l) r
    go true true f false g r = ap (λ b. if b then e ∷ kept (named_in few) (own_of s many es) else kept (named_in few) (own_of s many es)) g ∙ r
    go true false f true g r = absurd (true≢false (sym (named-named few many h e g) ∙ f))
    go true false f false g r = r
    go false b f a g r = r

pub fewer : (s : ControlState) (few many : List (List ℕ)) (old new : List OpenElement) → list_all (is_among many) few ≡ true → own_of s many new ≡ own_of s many old → own_of s few new ≡ own_of s few old
fewer s few many old new h k = sym (own-of s few many h new) ∙ (ap (kept (named_in few)) k ∙ own-of s few many h old)

pub strong-weak : (s : ControlState) (old new : List OpenElement) → Strong s old new → Weak s old new
strong-weak s old new k = record {
  core = fewer s core_names key_names old new refl k;
  html = λ h. fewer s (words "html") key_names old new refl k ∙ h;
  frameset = λ h. fewer s (words "frameset") key_names old new refl k ∙ h;
}

pub weak-thin : (s : ControlState) (old new : List OpenElement) → Weak s old new → Thin s old new
weak-thin s old new k = record {
  template = fewer s template_names core_names old new refl k.core;
  html = k.html;
  frameset = k.frameset;
  gone = 0;
  core = k.core;
}

pub weak_then : (s : ControlState) (a b c : List OpenElement) → Weak s a b → Weak s b c → Weak s a c
weak_then s a b c f g = record { core = g.core ∙ f.core; html = λ h. g.html (f.html h); frameset = λ h. g.frameset (f.frameset h) }

pub weak_all : (s : ControlState) (es : List OpenElement) → Weak s es es
weak_all s es = record { core = refl; html = λ h. h; frameset = λ h. h }

-- pops
pub strong_pop : (s : ControlState) (k : ℕ) (es : List OpenElement) → k < length es → own_of s key_names (drop k es) ≡ own_of s key_names es → Strong s es (popped_by k es)
strong_pop s k es l h = ap (own_of s key_names) (all-popped k es l) ∙ h

pub weak_pop : (s : ControlState) (k : ℕ) (es : List OpenElement) → k < length es → own_of s core_names (drop k es) ≡ own_of s core_names es → Weak s es (popped_by k es)
weak_pop s k es l h =
    let e = all-popped k es l in
    record {
      core = ap (own_of s core_names) e ∙ h;
      html = λ z. ap (own_of s (words "html")) e ∙ kept-drop (λ x. is_new s x && named_in (words "html") x) k es z;
      frameset = λ z. ap (own_of s (words "frameset")) e ∙ kept-drop (λ x. is_new s x && named_in (words "frameset") x) k es z;
    }

pub thin_pop : (s : ControlState) (k : ℕ) (es : List OpenElement) → k < length es → own_of s template_names (drop k es) ≡ own_of s template_names es → Thin s es (popped_by k es)
thin_pop s k es l h =
    let e = all-popped k es l in
    let (m, part) = kept-part (λ x. is_new s x && named_in core_names x) k es in
    record {
      template = ap (own_of s template_names) e ∙ h;
      html = λ z. ap (own_of s (words "html")) e ∙ kept-drop (λ x. is_new s x && named_in (words "html") x) k es z;
      frameset = λ z. ap (own_of s (words "frameset")) e ∙ kept-drop (λ x. is_new s x && named_in (words "frameset") x) k es z;
      gone = m;
      core = ap (own_of s core_names) e ∙ part;
    }
