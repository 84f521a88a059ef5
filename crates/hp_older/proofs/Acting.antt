-- Each act leads from its track to the track after it, or touches something older, and never pops the only element.
use Rattle.std.proofs.Common.{◌≡◌, ℕ, List, Bool, true, false, ◌||◌, not, refl, sym, ap, ◌∙◌, Option, None, Some}
use Rattle.std.specs.Prelude.{if◌then◌else◌}
use Rattle.std.specs.List.{list_all}
use Rattle.std.specs.Option.{is_some}
use Rattle.std.proofs.lemmas.Bool.{and_parts, and_from, true≢false, false_from_ne_true, not-true, and_right}
use Rattle.hp_elements.specs.Names.{is_among, known_of, text_of, words}
use Rattle.hp_elements.specs.Tokens.{kind_of}
use Rattle.hp_elements.specs.declared.act.Which.{Which}
use Rattle.hp_elements.specs.declared.act.Which.TheVariants.{Its, Named}
use Rattle.hp_elements.specs.declared.known.Known.{Known}
use Rattle.hp_elements.specs.declared.token.Kind.TheVariants.{Start, End}
use Rattle.hp_elements.specs.declared.token.Token.{Token}
use Rattle.hp_elements.specs.declared.token.Token.TheVariants as token
use Rattle.hp_elements.proofs.NameLemmas.{found_text}
use Rattle.hp_control.specs.declared.element.OpenElement.{OpenElement}
use Rattle.hp_control.specs.States.{ControlState, is_html, is_rooted}
use Rattle.hp_model.specs.Tokens.{name_for}
use Rattle.hp_older.specs.GoesOn.{IsFree, is_new}
use Rattle.hp_older.proofs.Keys.{among-all, named_in}
use Rattle.hp_older.proofs.Levels.{core_names, key_names, template_names}
use Rattle.hp_older.proofs.Pushing.{push_cell, push_common, push_frames, push_select, push_template, with_top}
use Rattle.hp_older.proofs.Steps.{is_common}
use Rattle.hp_older.proofs.Track.{On, Track, can_push, name_told, pushed, sort_of, common, template, cell, select, frames, root}

-- of disjoint names one excludes the others
pub disjoint : (these those : List (List ℕ)) → list_all (λ x. not (is_among those x)) these ≡ true → (e : OpenElement) → named_in these e ≡ true → named_in those e ≡ false
disjoint these those h e k =
    let parts = and_parts (is_html e) (is_among these e.name) k in
    and_right (is_html e) (is_among those e.name) (not-true (is_among those e.name) (among-all (λ x. not (is_among those x)) these e.name h parts.1))

-- a name that is none of the parts is none at all
five : (a b c d e : Bool) → a ≡ false → b ≡ false → c ≡ false → d ≡ false → e ≡ false → (a || (b || (c || (d || e)))) ≡ false
five false b c d e x y z u v = four b c d e y z u v
  where
    four : (p q r o : Bool) → p ≡ false → q ≡ false → r ≡ false → o ≡ false → (p || (q || (r || o))) ≡ false
    four false false false o i j k l = l
    four true q r o i j k l = absurd (true≢false i)
    four false true r o i j k l = absurd (true≢false j)
    four false false true o i j k l = absurd (true≢false k)
five true b c d e x y z u v = absurd (true≢false x)

abbrev parts_of_key : List ℕ → Bool
parts_of_key x = is_among (words "template") x || (is_among (words "td th") x || (is_among (words "select") x || (is_among (words "frameset") x || is_among (words "html") x)))

pub common-name : (name : List ℕ) → is_among (words "template") name ≡ false → is_among (words "td th") name ≡ false → is_among (words "select") name ≡ false → is_among (words "frameset") name ≡ false → is_among (words "html") name ≡ false → is_among key_names name ≡ false
common-name name a b c d e = false_from_ne_true (is_among key_names name)
    (λ h. true≢false (sym (among-all parts_of_key key_names name refl h) ∙ five (is_among (words "template") name) (is_among (words "td th") name) (is_among (words "select") name) (is_among (words "frameset") name) (is_among (words "html") name) a b c d e))

-- a name of the common sort
pub common-sort : (name : List ℕ) → is_common (sort_of name) ≡ true → is_among key_names name ≡ false
common-sort name h = go (is_among (words "template") name) refl (is_among (words "td th") name) refl (is_among (words "select") name) refl (is_among (words "frameset") name) refl (is_among (words "html") name) refl h
  where
    go : (a : Bool) → is_among (words "template") name ≡ a → (b : Bool) → is_among (words "td th") name ≡ b → (c : Bool) → is_among (words "select") name ≡ c → (d : Bool) → is_among (words "frameset") name ≡ d → (e : Bool) → is_among (words "html") name ≡ e
        → is_common (if a then template else if b then cell else if c then select else if d then frames else if e then root else common) ≡ true → is_among key_names name ≡ false
    go true x b y c z d u e v k = absurd (true≢false (sym k))
    go false x true y c z d u e v k = absurd (true≢false (sym k))
    go false x false y true z d u e v k = absurd (true≢false (sym k))
    go false x false y false z true u e v k = absurd (true≢false (sym k))
    go false x false y false z false u true v k = absurd (true≢false (sym k))
    go false x false y false z false u false v k = common-name name x y z u v

-- an HTML element of any sort
pub push_sorted : (w : Track) (s c : ControlState) (e : OpenElement) → On w s c → is_rooted c.stack ≡ true → is_new s e ≡ true → is_html e ≡ true → IsFree c.formatting c.form e → can_push (sort_of e.name) w ≡ true → On (pushed (sort_of e.name) w) s (with_top e c)
push_sorted w s c e g r n h f = go (is_among (words "template") e.name) refl (is_among (words "td th") e.name) refl (is_among (words "select") e.name) refl (is_among (words "frameset") e.name) refl (is_among (words "html") e.name) refl
  where
    is_one : (names : List (List ℕ)) → is_among names e.name ≡ true → named_in names e ≡ true
    is_one names k = and_from (is_html e) (is_among names e.name) h k

    go : (a : Bool) → is_among (words "template") e.name ≡ a → (b : Bool) → is_among (words "td th") e.name ≡ b → (d : Bool) → is_among (words "select") e.name ≡ d → (i : Bool) → is_among (words "frameset") e.name ≡ i → (j : Bool) → is_among (words "html") e.name ≡ j
        → can_push (if a then template else if b then cell else if d then select else if i then frames else if j then root else common) w ≡ true
        → On (pushed (if a then template else if b then cell else if d then select else if i then frames else if j then root else common) w) s (with_top e c)
    go true x b y d z i u j q k =
        let one = is_one (words "template") x in
        push_template w s c e g n one k f (disjoint (words "template") (words "frameset") refl e one) (disjoint (words "template") (words "html") refl e one)
    go false x true y d z i u j q k =
        let one = is_one (words "td th") y in
        push_cell w s c e g n one f (disjoint (words "td th") template_names refl e one) (disjoint (words "td th") (words "template select") refl e one) (disjoint (words "td th") (words "frameset") refl e one) (disjoint (words "td th") (words "html") refl e one)
    go false x false y true z i u j q k =
        let one = is_one (words "select") z in
        push_select w s c e g n one (disjoint (words "select") core_names refl e one) (disjoint (words "select") template_names refl e one) (disjoint (words "select") (words "frameset") refl e one) (disjoint (words "select") (words "html") refl e one)
    go false x false y false z true u j q k =
        let one = is_one (words "frameset") u in
        push_frames w s c e g (disjoint (words "frameset") core_names refl e one) (disjoint (words "frameset") template_names refl e one) (disjoint (words "frameset") (words "template select") refl e one) (disjoint (words "frameset") (words "html") refl e one)
    go false x false y false z false u true q k = absurd (true≢false (sym k))
    go false x false y false z false u false q k = push_common w s c e g r n (and_right (is_html e) (is_among key_names e.name) (common-name e.name x y z u q))

-- a name that isn't known is none of the known ones
pub unknown-name : (name : List ℕ) → known_of name ≡ None → is_among key_names name ≡ false
unfolding known_of
unknown-name name h = false_from_ne_true (is_among key_names name) (λ k. true≢false (sym (among-all (λ x. is_some (known_of x)) key_names name refl k) ∙ ap is_some h))

-- the name that a kind tells is the token's
pub name-told : (t : Token) (which : Which) (name : List ℕ) → name_told (kind_of t) which ≡ Some name → name_for t which ≡ name
name-told t (Named k) name h = same h
  where
    same : Some (text_of k) ≡ Some name → text_of k ≡ name
    same q = cc
name-told (token.Start self_closing tag) Its name h = go (known_of tag.name) refl h
  where
    go : (o : Option Known) → known_of tag.name ≡ o → name_told (Start o) Its ≡ Some name → tag.name ≡ name
    go None e q = absurd (cc)
    go (Some k) e q = let z : text_of k ≡ name = cc in sym (found_text tag.name k e) ∙ z
name-told (token.EndTag text) Its name h = go (known_of text) refl h
  where
    go : (o : Option Known) → known_of text ≡ o → name_told (End o) Its ≡ Some name → text ≡ name
    go None e q = absurd (cc)
    go (Some k) e q = let z : text_of k ≡ name = cc in sym (found_text text k e) ∙ z
name-told (token.Characters class text) Its name h = absurd (cc)
name-told (token.Comment text) Its name h = absurd (cc)
name-told (token.Doctype parts) Its name h = absurd (cc)
name-told token.EndOfInput Its name h = absurd (cc)
