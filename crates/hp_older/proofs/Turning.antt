-- Acts that pop by what a test found, or through a template.
use Rattle.std.proofs.Common.{◌≡◌, ℕ, suc, ◌+◌, ◌<◌, List, [], ◌∷◌, drop, length, Bool, true, false, ◌||◌, ◌&&◌, refl, sym, ap, ◌∙◌, subst, arith, inl, inr, Option, None, Some}
use Rattle.std.specs.Prelude.{if◌then◌else◌, All}
use Rattle.std.specs.Option.{is_some, option_map}
use Rattle.std.specs.Str.{bytes_eq}
use Rattle.std.proofs.lemmas.Bool.{and_parts, and_from, true≢false, lt-leb, false_from_ne_true}
use Rattle.std.proofs.lemmas.Option.{none-some, same_Some}
use Rattle.std.proofs.lemmas.List.Elements.{All-drop}
use Rattle.hp_elements.specs.Names.{is_among, text_of, words}
use Rattle.hp_elements.specs.declared.kinds.Kinds.TheVariants as kinds
use Rattle.hp_elements.specs.KnownNames as known
use Rattle.hp_elements.proofs.FindLemmas.{equal_bytes}
use Rattle.hp_control.specs.declared.element.OpenElement.{OpenElement}
use Rattle.hp_control.specs.Acts.{pop_by, through_named, with_it}
use Rattle.hp_control.specs.KindTests.{within}
use Rattle.hp_control.specs.Outcome.{nothing_done}
use Rattle.hp_control.specs.States.{ControlState, is_html, is_rooted}
use Rattle.hp_control.specs.Walks.{reach}
use Rattle.hp_model.proofs.Course.{Course, Along, is_standing}
use Rattle.hp_model.proofs.Courses.{ready}
use Rattle.hp_model.proofs.Stacks.{deeper}
use Rattle.hp_model.proofs.Thinning.{thinning_through_named}
use Rattle.hp_model.proofs.Thins.{Thins}
use Rattle.hp_older.specs.GoesOn.{IsFree, is_a, is_new, own}
use Rattle.hp_older.proofs.Kept.{kept-drop, kept-part}
use Rattle.hp_older.proofs.Keys.{apart-name, named_in}
use Rattle.hp_older.proofs.Popping.{all-popped, reach-short}
use Rattle.hp_older.proofs.Effects.{named-of, root-apart}
use Rattle.hp_older.proofs.Levels.{core_names, own_of, template_names}
use Rattle.hp_older.proofs.Moves.{Did, rooted_on}
use Rattle.hp_older.proofs.Pushing.{own-more, own-same}
use Rattle.hp_older.proofs.Resets.{below-older, is_sorted}
use Rattle.hp_older.proofs.Track.{BalanceIs, On, Track, even, is_even, loose, over, thinly, under, PlaceIs}
use Rattle.hp_older.proofs.Tracking.{below-kept, free-later, place-loose}

or_left_false : (b : Bool) → (b || false) ≡ true → b ≡ true
or_left_false true h = refl
or_left_false false h = absurd (true≢false (sym h))

-- a template's name
template_goal : (e : OpenElement) → within (kinds.Html (text_of known.Template)) e ≡ false → named_in template_names e ≡ false
template_goal e h = false_from_ne_true (named_in template_names e) (λ k. true≢false (sym (back k) ∙ h))
  where
    back : named_in template_names e ≡ true → within (kinds.Html (text_of known.Template)) e ≡ true
    back k =
        let parts = and_parts (is_html e) (is_among template_names e.name) k in
        let same : e.name ≡ text_of known.Template = equal_bytes true e.name (text_of known.Template) (sym (or_left_false (bytes_eq e.name (text_of known.Template)) parts.1)) refl in
        and_from (is_html e) (bytes_eq (text_of known.Template) e.name) parts.0 (subst (λ x. bytes_eq (text_of known.Template) x ≡ true) (sym same) refl)

-- past the nearest template: the first of the new ones, or none is new
pub past-template : (s : ControlState) (st : List OpenElement) → is_sorted s st ≡ true → (k : ℕ) → reach (kinds.Html (text_of known.Template)) kinds.Nothing st ≡ Some k → own_of s template_names (drop (k + 1) st) ≡ drop 1 (own_of s template_names st)
past-template s [] srt k e = absurd (none-some k e)
past-template s (y ∷ ys) srt k e = go (within (kinds.Html (text_of known.Template)) y) refl e (λ j q. past-template s ys (and_parts _ (is_sorted s ys) srt).1 j q)
  where
    here : (b : Bool) → is_new s y ≡ b → named_in template_names y ≡ true → own_of s template_names ys ≡ drop 1 (own_of s template_names (y ∷ ys))
    here true n h = sym (ap (drop 1) (own-more s template_names y ys n h))
    here false n h =
        let none = below-older s template_names y ys srt n in
        (tail_none (kept-drop (λ x. is_new s x && named_in template_names x) 1 (y ∷ ys) none)) ∙ sym (ap (drop 1) none)
      where
        tail_none : own_of s template_names (drop 1 (y ∷ ys)) ≡ [] → own_of s template_names ys ≡ []
        tail_none q = q

    go : (a : Bool) → within (kinds.Html (text_of known.Template)) y ≡ a → (if a then Some 0 else option_map suc (reach (kinds.Html (text_of known.Template)) kinds.Nothing ys)) ≡ Some k
        → ((j : ℕ) → reach (kinds.Html (text_of known.Template)) kinds.Nothing ys ≡ Some j → own_of s template_names (drop (j + 1) ys) ≡ drop 1 (own_of s template_names ys))
        → own_of s template_names (drop (k + 1) (y ∷ ys)) ≡ drop 1 (own_of s template_names (y ∷ ys))
    go true f p later = subst (λ i. own_of s template_names (drop (i + 1) (y ∷ ys)) ≡ drop 1 (own_of s template_names (y ∷ ys))) (same_Some 0 k p) (here (is_new s y) refl (named-of (text_of known.Template) y f))
    go false f p later =
        let (j, there) = deeper (reach (kinds.Html (text_of known.Template)) kinds.Nothing ys) k p in
        let more : suc (j + 1) ≡ k + 1 = omega (arith, there.1) in
        subst (λ i. own_of s template_names (drop i (y ∷ ys)) ≡ drop 1 (own_of s template_names (y ∷ ys))) more
        (later j there.0 ∙ ap (drop 1) (sym (own-same s template_names y ys (template_goal y f))))

pub no-template : (s : ControlState) (st : List OpenElement) → reach (kinds.Html (text_of known.Template)) kinds.Nothing st ≡ None → own_of s template_names st ≡ []
no-template s [] e = refl
no-template s (y ∷ ys) e = go (within (kinds.Html (text_of known.Template)) y) refl e (no-template s ys)
  where
    unmapped : (o : Option ℕ) → option_map suc o ≡ None → o ≡ None
    unmapped None k = refl
    unmapped (Some j) k = absurd (cc)

    go : (a : Bool) → within (kinds.Html (text_of known.Template)) y ≡ a → (if a then Some 0 else option_map suc (reach (kinds.Html (text_of known.Template)) kinds.Nothing ys)) ≡ None → (reach (kinds.Html (text_of known.Template)) kinds.Nothing ys ≡ None → own_of s template_names ys ≡ []) → own_of s template_names (y ∷ ys) ≡ []
    go true f p later = absurd (cc)
    go false f p later = own-same s template_names y ys (template_goal y f) ∙ later (unmapped (reach (kinds.Html (text_of known.Template)) kinds.Nothing ys) p)

under_from : (b : List OpenElement) (modes older : ℕ) → modes ≡ older + length b → BalanceIs under (length (drop 1 b)) modes older
under_from [] modes older h = inr (refl, omega arith)
under_from (x ∷ xs) modes older h = inl (omega arith)

even_balance : (w : Track) (templates modes older : ℕ) → is_even w.balance ≡ true → BalanceIs w.balance templates modes older → modes ≡ older + templates
even_balance w templates modes older h k = go w.balance h k
  where
    go : (b : _) → is_even b ≡ true → BalanceIs b templates modes older → modes ≡ older + templates
    go even x y = y
    go over x y = absurd (true≢false (sym x))
    go under x y = absurd (true≢false (sym x))

-- through the nearest template
pub through_template : (s : ControlState) (w : Track) (v : Course) (n : ℕ) (c : ControlState) → is_sorted s c.stack ≡ true → Along v n c → On w s c → is_standing v.base ≡ true → is_even w.balance ≡ true → Did s (through_named (text_of known.Template)) (record (thinly w) { balance = under }) c
through_template s w v n c srt g on h b = go (reach (kinds.Html (text_of known.Template)) kinds.Nothing c.stack) refl
  where
    r : is_rooted c.stack ≡ true
    r = rooted_on v n c g h

    t : Thins c (through_named (text_of known.Template) c).control
    t = thinning_through_named (text_of known.Template) c (ready v n c h g)

    modes : length c.templates ≡ length s.templates + length (own s (is_a "template") c.stack)
    modes = even_balance w (length (own s (is_a "template") c.stack)) (length c.templates) (length s.templates) b on.balance

    -- the stack without so many
    dropped : (k : ℕ) (d : ControlState) → Thins c d → d.stack ≡ drop k c.stack → d.templates ≡ c.templates → own_of s template_names (drop k c.stack) ≡ drop 1 (own_of s template_names c.stack) → On (record (thinly w) { balance = under }) s d
    dropped k d u e ts q =
        let (m, part) = kept-part (λ x. is_new s x && named_in core_names x) k c.stack in
        record {
          html = ap (own_of s (words "html")) e ∙ kept-drop (λ x. is_new s x && named_in (words "html") x) k c.stack on.html;
          balance = subst (λ l. BalanceIs under (length (own s (is_a "template") d.stack)) (length l) (length s.templates)) (sym ts)
              (subst (λ l. BalanceIs under (length l) (length c.templates) (length s.templates)) (sym (ap (own_of s template_names) e ∙ q)) (under_from (own s (is_a "template") c.stack) (length c.templates) (length s.templates) modes));
          free = subst (λ l. All (IsFree d.formatting d.form) l) (sym (ap (own_of s core_names) e ∙ part))
              (free-later c d u (drop m (own s (is_a "template td th") c.stack)) (All-drop (λ (x : OpenElement). x.id < c.next) m (own s (is_a "template td th") c.stack) (below-kept (λ x. is_new s x && is_a "template td th" x) 0 c.next c.stack g.stack_ids))
              (All-drop (IsFree c.formatting c.form) m (own s (is_a "template td th") c.stack) on.free));
          top = tt;
          there = tt;
          cell = λ z. absurd (true≢false (sym z));
          select = λ z. absurd (true≢false (sym z));
          bare = λ z. ap (own_of s template_names) e ∙ kept-drop (λ x. is_new s x && named_in template_names x) k c.stack (on.bare z);
          still = λ z. ap (own_of s (words "frameset")) e ∙ kept-drop (λ x. is_new s x && named_in (words "frameset") x) k c.stack (on.still z);
          back = tt;
          place = subst (λ m2. PlaceIs (loose w.place) s m2 d.stack) (sym u.alike.mode) (place-loose w.place s c.mode c.stack d.stack on.place);
        }

    go : (o : Option ℕ) → reach (kinds.Html (text_of known.Template)) kinds.Nothing c.stack ≡ o → Did s (through_named (text_of known.Template)) (record (thinly w) { balance = under }) c
    go None e =
        let none = no-template s c.stack e in
        let same : (through_named (text_of known.Template) c) ≡ nothing_done c = ap (λ o. if is_some o then pop_by (with_it (reach (kinds.Html (text_of known.Template)) kinds.Nothing c.stack)) c else nothing_done c) e in
        (ap (λ o. o.spared) same, inr (dropped 0 (through_named (text_of known.Template) c).control t (ap (λ o. o.control.stack) same) (ap (λ o. o.control.templates) same) (none ∙ sym (ap (drop 1) none))))
    go (Some k) e =
        let short = reach-short (kinds.Html (text_of known.Template)) kinds.Nothing c.stack k e r (root-apart (kinds.Html (text_of known.Template)) (apart-name (words "html") (text_of known.Template) refl)) in
        let same : (through_named (text_of known.Template) c) ≡ pop_by (k + 1) c = ap (λ o. if is_some o then pop_by (with_it o) c else nothing_done c) e in
        (ap (λ o. o.spared) same ∙ lt-leb (length c.stack) (k + 1) short, inr (dropped (k + 1) (through_named (text_of known.Template) c).control t (ap (λ o. o.control.stack) same ∙ all-popped (k + 1) c.stack short) (ap (λ o. o.control.templates) same) (past-template s c.stack srt k e)))
