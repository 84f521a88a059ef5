-- The names that tags leave opens, a tag at a time.
use Rattle.std.proofs.Common.{◌≡◌, ℕ, ◌<◌, Bool, true, false, ◌&&◌, ◌||◌, cond, List, [], ◌∷◌, ◌++◌, length, get_or, refl, sym, ap, ◌∙◌, arith, append_assoc}
use Rattle.std.specs.Prelude.{Option, None, Some, not, ◌==◌, if◌then◌else◌}
use Rattle.std.specs.Option.{is_some, unwrap_or}
use Rattle.std.specs.Char.{to_ascii_lowercase}
use Rattle.std.specs.Str.{bytes_eq}
use Rattle.std.proofs.lemmas.Grind.{common_steps}
use Rattle.std.proofs.lemmas.Slice.Eq.{bytes_eq-Decides}
use Rattle.hp_elements.specs.Names.{text_of, lowered}
use Rattle.hp_elements.specs.Sets.{in_set}
use Rattle.hp_elements.specs.KnownNames as known
use Rattle.hp_elements.specs.declared.sets.Namespace.TheVariants.{Html}
use Rattle.hp_elements.specs.declared.sets.SetName.TheVariants.{TableSections}
use Rattle.hp_predict.specs.Tags.{SeenTag, counts, counting}
use Rattle.hp_predict.specs.OpenNames.{Names, IsPair, begins_with_t, is_name, is_cell, is_in_table, is_in_section, with_section, with_row, implied, below, is_unmatched, after_tag, opened, after, unmatched}

-- the last name decides
pub table_at : (opens : Names) (x : List ℕ) → 0 < length opens → x ≡ get_or opens 0 x → bytes_eq x (text_of known.Table) ≡ is_in_table opens
table_at [] x h e = absurd (omega arith)
table_at (y ∷ ys) x h e = ap (λ (n : List ℕ). bytes_eq n (text_of known.Table)) e

pub section_at : (opens : Names) (x : List ℕ) → 0 < length opens → x ≡ get_or opens 0 x → in_set TableSections Html x ≡ is_in_section opens
section_at [] x h e = absurd (omega arith)
section_at (y ∷ ys) x h e = ap (in_set TableSections Html) e

-- no more tags
pub after_none : (opens : Names) → after [] opens ≡ opens
unfolding after
after_none opens = refl

pub unmatched_none : (opens : Names) → unmatched [] opens ≡ []
unfolding unmatched
unmatched_none opens = refl

-- a tag that does not count, and one that does
pub uncounted : (tag : SeenTag) (ts : List SeenTag) → counts tag.name ≡ false → counting (tag ∷ ts) ≡ counting ts
uncounted tag ts n = ap (λ (b : Bool). cond b (tag ∷ counting ts) (counting ts)) n

pub counted : (tag : SeenTag) (ts : List SeenTag) → counts tag.name ≡ true → counting (tag ∷ ts) ≡ tag ∷ counting ts
counted tag ts y = ap (λ (b : Bool). cond b (tag ∷ counting ts) (counting ts)) y

pub after_one : (tag : SeenTag) (ts : List SeenTag) (opens : Names) → after (tag ∷ ts) opens ≡ after ts (after_tag tag opens)
unfolding after
after_one tag ts opens = refl

-- an end tag that closes none leaves the names
stays : (tag : SeenTag) (opens : Names) → is_unmatched tag opens ≡ true → after_tag tag opens ≡ opens
stays tag opens h = go tag.is_end (below tag.name opens) h
  where
    go : (is_end : Bool) (b : Option Names) → (is_end && not (is_some b)) ≡ true → (if is_end then unwrap_or b opens else opened tag.name opens) ≡ opens
    go true None h = refl
    go true (Some x) h = absurd (cc)
    go false b h = absurd (cc)

with_one : (b : Bool) (found more : Names) (name : List ℕ) → (if b then found ++ name ∷ [] else found) ++ more ≡ found ++ (if b then name ∷ more else more)
with_one true found more name = append_assoc found (name ∷ []) more
with_one false found more name = refl

unmatched_one : (tag : SeenTag) (ts : List SeenTag) (opens : Names) → unmatched (tag ∷ ts) opens ≡ (if is_unmatched tag opens then tag.name ∷ unmatched ts (after_tag tag opens) else unmatched ts (after_tag tag opens))
unfolding unmatched
unmatched_one tag ts opens = go (is_unmatched tag opens) refl
  where
    go : (b : Bool) → is_unmatched tag opens ≡ b → (if b then tag.name ∷ unmatched ts opens else unmatched ts (after_tag tag opens)) ≡ (if b then tag.name ∷ unmatched ts (after_tag tag opens) else unmatched ts (after_tag tag opens))
    go true e = ap (λ (names : Names). tag.name ∷ unmatched ts names) (sym (stays tag opens e))
    go false e = refl

-- what was found before a tag, with what it adds and what comes after it
pub unmatched_more : (found : Names) (tag : SeenTag) (ts : List SeenTag) (opens : Names) → (if is_unmatched tag opens then found ++ tag.name ∷ [] else found) ++ unmatched ts (after_tag tag opens) ≡ found ++ unmatched (tag ∷ ts) opens
unmatched_more found tag ts opens =
    with_one (is_unmatched tag opens) found (unmatched ts (after_tag tag opens)) tag.name
    ∙ ap (λ (more : Names). found ++ more) (sym (unmatched_one tag ts opens))

-- the names after one more tag
pub names_step : (ts : List SeenTag) (tag : SeenTag) (names names' : Names) → names' ≡ (if counts tag.name then after_tag tag names else names) → after (counting ts) names' ≡ after (counting (tag ∷ ts)) names
names_step ts tag names names' is = go (counts tag.name) refl
  where
    go : (b : Bool) → counts tag.name ≡ b → after (counting ts) names' ≡ after (counting (tag ∷ ts)) names
    go true y =
        ap (after (counting ts)) (is ∙ ap (λ (c : Bool). if c then after_tag tag names else names) y)
        ∙ sym (ap (λ (us : List SeenTag). after us names) (counted tag ts y) ∙ after_one tag (counting ts) names)
    go false n =
        ap (after (counting ts)) (is ∙ ap (λ (c : Bool). if c then after_tag tag names else names) n)
        ∙ sym (ap (λ (us : List SeenTag). after us names) (uncounted tag ts n))

-- and the end tags that closed none
pub unmatched_step : (ts : List SeenTag) (tag : SeenTag) (names names' found found' : Names) → names' ≡ (if counts tag.name then after_tag tag names else names) → found' ≡ (if counts tag.name then (if is_unmatched tag names then found ++ tag.name ∷ [] else found) else found) → found' ++ unmatched (counting ts) names' ≡ found ++ unmatched (counting (tag ∷ ts)) names
unmatched_step ts tag names names' found found' is more = go (counts tag.name) refl
  where
    go : (b : Bool) → counts tag.name ≡ b → found' ++ unmatched (counting ts) names' ≡ found ++ unmatched (counting (tag ∷ ts)) names
    go true y =
        let a : names' ≡ after_tag tag names = is ∙ ap (λ (c : Bool). if c then after_tag tag names else names) y in
        let f : found' ≡ (if is_unmatched tag names then found ++ tag.name ∷ [] else found) = more ∙ ap (λ (c : Bool). if c then (if is_unmatched tag names then found ++ tag.name ∷ [] else found) else found) y in
        let t : counting (tag ∷ ts) ≡ tag ∷ counting ts = counted tag ts y in
        rw (f, a, t) (unmatched_more found tag (counting ts) names)
    go false n =
        let a : names' ≡ names = is ∙ ap (λ (c : Bool). if c then after_tag tag names else names) n in
        let f : found' ≡ found = more ∙ ap (λ (c : Bool). if c then (if is_unmatched tag names then found ++ tag.name ∷ [] else found) else found) n in
        let t : counting (tag ∷ ts) ≡ counting ts = uncounted tag ts n in
        rw (f, a, t) refl

-- a pair leaves the names as they are, and closes none but its own
module _ (start end : SeenTag) (p : IsPair start end) (names : Names) where
  opened_so : after_tag start names ≡ start.name ∷ names
  opened_so = ap (λ (b : Bool). if b then unwrap_or (below start.name names) names else opened start.name names) p.opens ∙ ap (λ (ns : Names). start.name ∷ ns) (p.alone names)

  found_so : below end.name (after_tag start names) ≡ Some names
  found_so =
      ap (below end.name) opened_so
      ∙ ap (λ (b : Bool). if b then Some names else below end.name names) (ap (bytes_eq start.name) p.same ∙ (bytes_eq-Decides start.name start.name).1 refl)

  after_pair : after_tag end (after_tag start names) ≡ names
  after_pair =
      ap (λ (b : Bool). if b then unwrap_or (below end.name (after_tag start names)) (after_tag start names) else opened end.name (after_tag start names)) p.closes
      ∙ ap (λ (o : Option Names). unwrap_or o (after_tag start names)) found_so

  start_matched : is_unmatched start names ≡ false
  start_matched = ap (λ (b : Bool). b && not (is_some (below start.name names))) p.opens

  end_matched : is_unmatched end (after_tag start names) ≡ false
  end_matched =
      ap (λ (b : Bool). b && not (is_some (below end.name (after_tag start names)))) p.closes
      ∙ ap (λ (o : Option Names). true && not (is_some o)) found_so

  both_counted : (ts : List SeenTag) → counts start.name ≡ true → counting (start ∷ end ∷ ts) ≡ start ∷ end ∷ counting ts
  both_counted ts y = counted start (end ∷ ts) y ∙ ap (λ (us : List SeenTag). start ∷ us) (counted end ts (ap counts p.same ∙ y))

  both_uncounted : (ts : List SeenTag) → counts start.name ≡ false → counting (start ∷ end ∷ ts) ≡ counting ts
  both_uncounted ts n = uncounted start (end ∷ ts) n ∙ uncounted end ts (ap counts p.same ∙ n)

  pub pair_names : (ts : List SeenTag) → after (counting (start ∷ end ∷ ts)) names ≡ after (counting ts) names
  pair_names ts = go (counts start.name) refl
    where
      go : (b : Bool) → counts start.name ≡ b → after (counting (start ∷ end ∷ ts)) names ≡ after (counting ts) names
      go true y =
          ap (λ (us : List SeenTag). after us names) (both_counted ts y)
          ∙ (after_one start (end ∷ counting ts) names
          ∙ (after_one end (counting ts) (after_tag start names) ∙ ap (after (counting ts)) after_pair))
      go false n = ap (λ (us : List SeenTag). after us names) (both_uncounted ts n)

  matched_one : (tag : SeenTag) (ts : List SeenTag) (opens : Names) → is_unmatched tag opens ≡ false → unmatched (tag ∷ ts) opens ≡ unmatched ts (after_tag tag opens)
  matched_one tag ts opens e = unmatched_one tag ts opens ∙ ap (λ (b : Bool). if b then tag.name ∷ unmatched ts (after_tag tag opens) else unmatched ts (after_tag tag opens)) e

  pub pair_unmatched : (ts : List SeenTag) → unmatched (counting (start ∷ end ∷ ts)) names ≡ unmatched (counting ts) names
  pair_unmatched ts = go (counts start.name) refl
    where
      go : (b : Bool) → counts start.name ≡ b → unmatched (counting (start ∷ end ∷ ts)) names ≡ unmatched (counting ts) names
      go true y =
          ap (λ (us : List SeenTag). unmatched us names) (both_counted ts y)
          ∙ (matched_one start (end ∷ counting ts) names start_matched
          ∙ (matched_one end (counting ts) (after_tag start names) end_matched ∙ ap (unmatched (counting ts)) after_pair))
      go false n = ap (λ (us : List SeenTag). unmatched us names) (both_uncounted ts n)

-- no name of a row or a cell begins otherwise
apart : (c d : ℕ) (cs ds : List ℕ) → (c == d) ≡ false → bytes_eq (c ∷ cs) (d ∷ ds) ≡ false
apart c d cs ds e = ap (λ (b : Bool). b && bytes_eq cs ds) e

lowered_apart : (c : ℕ) → (c == 116 || c == 84) ≡ false → (to_ascii_lowercase c == 116) ≡ false
lowered_apart c h = grind (arith, common_steps)

pub implies_none : (name : List ℕ) (names : Names) → begins_with_t name ≡ false → implied (lowered name) names ≡ names
implies_none [] names h = refl
implies_none (c ∷ cs) names h =
    let n : List ℕ = lowered (c ∷ cs) in
    let e : (to_ascii_lowercase c == 116) ≡ false = lowered_apart c h in
    let row : is_name known.Tr n ≡ false = apart (to_ascii_lowercase c) 116 (lowered cs) (114 ∷ []) e in
    let td : bytes_eq n (116 ∷ 100 ∷ []) ≡ false = apart (to_ascii_lowercase c) 116 (lowered cs) (100 ∷ []) e in
    let th : bytes_eq n (116 ∷ 104 ∷ []) ≡ false = apart (to_ascii_lowercase c) 116 (lowered cs) (104 ∷ []) e in
    let cell : is_cell n ≡ false = ap (λ (b : Bool). (true && b) || ((true && bytes_eq n (116 ∷ 104 ∷ [])) || false)) td ∙ ap (λ (b : Bool). (true && b) || false) th in
    ap (λ (b : Bool). if b then with_section names else if is_cell n then with_row (with_section names) else names) row
    ∙ ap (λ (b : Bool). if b then with_row (with_section names) else names) cell
