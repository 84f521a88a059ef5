-- The mode that a reset gives fits the new elements.
use Rattle.std.proofs.Common.{◌≡◌, ℕ, ◌+◌, List, [], ◌∷◌, ◌++◌, map, Bool, true, false, ◌||◌, ◌&&◌, not, refl, sym, ap, ◌∙◌, subst, arith, Option, None, Some}
use Rattle.std.specs.Prelude.{if◌then◌else◌, All}
use Rattle.std.specs.Option.{unwrap_or}
use Rattle.std.specs.Str.{bytes_eq}
use Rattle.std.proofs.lemmas.Bool.{and_parts, and_from, true≢false, lt-leb, le-leb, false_from_ne_true}
use Rattle.std.proofs.lemmas.Option.{none-some}
use Rattle.std.proofs.lemmas.List.Elements.{All-head}
use Rattle.hp_elements.specs.Names.{text_of, words}
use Rattle.hp_elements.specs.declared.kinds.Kinds.TheVariants as kinds
use Rattle.hp_elements.specs.KnownNames as known
use Rattle.hp_elements.specs.declared.sets.SetName.TheVariants as sets
use Rattle.hp_elements.specs.declared.token.Mode.{Mode}
use Rattle.hp_elements.specs.declared.token.Mode.TheVariants as mode
use Rattle.hp_control.specs.declared.element.OpenElement.{OpenElement}
use Rattle.hp_control.specs.Apply.{shifted}
use Rattle.hp_control.specs.KindTests.{within}
use Rattle.hp_control.specs.States.{ControlState, AreIds, is_html, is_named, is_template, is_template_mode}
use Rattle.hp_control.specs.Walks.{html_mode, is_cell, is_last, last_template_mode, mode_at, mode_of, reset_mode, select_mode, table_comes}
use Rattle.hp_model.specs.Finding.{is_empty}
use Rattle.hp_model.proofs.Thins.{ids_of}
use Rattle.hp_older.specs.GoesOn.{comes, fits_mode, is_a, is_new, kept, no_new, own}
use Rattle.hp_older.proofs.Kept.{kept-tail}
use Rattle.hp_older.proofs.Keys.{named-named, named_in}
use Rattle.hp_older.proofs.Levels.{core_names, own_of, template_names}
use Rattle.hp_older.proofs.Pushing.{comes-one, own-more, own-same}
use Rattle.hp_older.proofs.Tracking.{fits-alike}

-- new elements stand above older ones
abbrev pub is_sorted : ControlState → List OpenElement → Bool
is_sorted s [] = true
is_sorted s (e ∷ es) = (is_new s e || is_empty (kept (is_new s) es)) && is_sorted s es

or_no : (b : Bool) → b ≡ (b || false)
or_no true = refl
or_no false = refl

pub named-a : (name : List ℕ) (e : OpenElement) → (is_html e && bytes_eq e.name name) ≡ named_in (name ∷ []) e
named-a name e = ap (λ b. is_html e && b) (or_no (bytes_eq e.name name))

cell_by : (h a b : Bool) → ((h && a) || (h && b)) ≡ (h && (a || (b || false)))
cell_by true true b = refl
cell_by true false b = or_no b
cell_by false a b = refl

pub cell-a : (e : OpenElement) → is_cell e ≡ is_a "td th" e
cell-a e = cell_by (is_html e) (bytes_eq e.name (text_of known.Td)) (bytes_eq e.name (text_of known.Th))

-- where an older element is seen, none below it is new
none_new : (s : ControlState) (names : List (List ℕ)) (es : List OpenElement) → is_empty (kept (is_new s) es) ≡ true → own_of s names es ≡ []
none_new s names [] h = refl
none_new s names (e ∷ es) h = go (is_new s e) h (none_new s names es)
  where
    go : (b : Bool) → is_empty (if b then e ∷ kept (is_new s) es else kept (is_new s) es) ≡ true → (is_empty (kept (is_new s) es) ≡ true → own_of s names es ≡ []) → (if b && named_in names e then e ∷ own_of s names es else own_of s names es) ≡ []
    go true k later = absurd (true≢false (sym k))
    go false k later = later k

pub below-older : (s : ControlState) (names : List (List ℕ)) (e : OpenElement) (es : List OpenElement) → is_sorted s (e ∷ es) ≡ true → is_new s e ≡ false → own_of s names (e ∷ es) ≡ []
below-older s names e es h n =
    let parts = and_parts (is_new s e || is_empty (kept (is_new s) es)) (is_sorted s es) h in
    ap (λ b. if b && named_in names e then e ∷ own_of s names es else own_of s names es) n
    ∙ none_new s names es (sym (ap (λ b. b || is_empty (kept (is_new s) es)) n) ∙ parts.0)

-- the modes of which nothing but framesets is asked
abbrev pub is_simple : Mode → Bool
is_simple mode.InCell = false
is_simple mode.InSelect = false
is_simple mode.InSelectInTable = false
is_simple mode.InFrameset = false
is_simple mode.AfterFrameset = false
is_simple mode.AfterAfterFrameset = false
is_simple _ = true

pub fits-simple : (s : ControlState) (m : Mode) (es : List OpenElement) → is_simple m ≡ true → own s (is_a "frameset") es ≡ [] → fits_mode s m es ≡ true
fits-simple s mode.InCell es h f = absurd (true≢false (sym h))
fits-simple s mode.InSelect es h f = absurd (true≢false (sym h))
fits-simple s mode.InSelectInTable es h f = absurd (true≢false (sym h))
fits-simple s mode.InFrameset es h f = absurd (true≢false (sym h))
fits-simple s mode.AfterFrameset es h f = absurd (true≢false (sym h))
fits-simple s mode.AfterAfterFrameset es h f = absurd (true≢false (sym h))
fits-simple s _ es h f = ap is_empty f

template_simple : (m : Mode) → is_template_mode m ≡ true → is_simple m ≡ true
template_simple mode.InTemplate h = refl
template_simple mode.InTable h = refl
template_simple mode.InColumnGroup h = refl
template_simple mode.InTableBody h = refl
template_simple mode.InRow h = refl
template_simple mode.InBody h = refl
template_simple _ h = absurd (true≢false (sym h))

last_simple : (ts : List Mode) → All (λ m. is_template_mode m ≡ true) ts → is_simple (last_template_mode ts) ≡ true
last_simple [] h = refl
last_simple (m ∷ ms) h = template_simple m (All-head (λ x. is_template_mode x ≡ true) m ms h)

-- the first of two names, new or with nothing new below it
first_comes : (s : ControlState) (test : OpenElement → Bool) (names : List (List ℕ)) (e : OpenElement) (es : List OpenElement) → is_sorted s (e ∷ es) ≡ true → test e ≡ true → named_in names e ≡ true → comes test (own_of s names (e ∷ es)) ≡ true
first_comes s test names e es srt h k = go (is_new s e) refl
  where
    go : (b : Bool) → is_new s e ≡ b → comes test (own_of s names (e ∷ es)) ≡ true
    go true n = ap (comes test) (own-more s names e es n k) ∙ comes-one test e (own_of s names es) h
    go false n = ap (comes test) (below-older s names e es srt n)

select_fits : (s : ControlState) (b : Bool) (es : List OpenElement) → comes (is_a "select") (own s (is_a "template select") es) ≡ true → own s (is_a "frameset") es ≡ [] → fits_mode s (select_mode b) es ≡ true
select_fits s true es h f = and_from (comes (is_a "select") (own s (is_a "template select") es)) (no_new s (is_a "frameset") es) h (ap is_empty f)
select_fits s false es h f = and_from (comes (is_a "select") (own s (is_a "template select") es)) (no_new s (is_a "frameset") es) h (ap is_empty f)

html_simple : (b : Bool) → is_simple (html_mode b) ≡ true
html_simple true = refl
html_simple false = refl

frames_fits : (s : ControlState) (e : OpenElement) (es : List OpenElement) → is_sorted s (e ∷ es) ≡ true → is_a "frameset" e ≡ true → own s (is_a "frameset") (e ∷ es) ≡ [] → fits_mode s mode.InFrameset (e ∷ es) ≡ true
frames_fits s e es srt h f = go (is_new s e) refl
  where
    cons_nil : (x : OpenElement) (xs : List OpenElement) → x ∷ xs ≡ [] → ⊥
    cons_nil x xs k = cc

    go : (b : Bool) → is_new s e ≡ b → fits_mode s mode.InFrameset (e ∷ es) ≡ true
    go true n = absurd (cons_nil e (own_of s (words "frameset") es) (sym (own-more s (words "frameset") e es n h) ∙ f))
    go false n = ap is_empty (below-older s template_names e es srt n)

-- what an element decides wherever it stands
of_fits : (s : ControlState) (e : OpenElement) (es : List OpenElement) (m : Mode) → is_sorted s (e ∷ es) ≡ true → own s (is_a "frameset") (e ∷ es) ≡ []
    → (tr sec cap col tab bod fra : Bool) → (fra ≡ true → is_a "frameset" e ≡ true)
    → (if tr then Some mode.InRow else if sec then Some mode.InTableBody else if cap then Some mode.InCaption else if col then Some mode.InColumnGroup else if tab then Some mode.InTable else if bod then Some mode.InBody else if fra then Some mode.InFrameset else None) ≡ Some m → fits_mode s m (e ∷ es) ≡ true
of_fits s e es m srt f true sec cap col tab bod fra h k = fits-simple s m (e ∷ es) (ap is_simple (some_mode m mode.InRow k)) f
  where
    some_mode : (a b : Mode) → Some b ≡ Some a → a ≡ b
    some_mode a b q = cc
of_fits s e es m srt f false true cap col tab bod fra h k = fits-simple s m (e ∷ es) (ap is_simple (some_mode m mode.InTableBody k)) f
  where
    some_mode : (a b : Mode) → Some b ≡ Some a → a ≡ b
    some_mode a b q = cc
of_fits s e es m srt f false false true col tab bod fra h k = fits-simple s m (e ∷ es) (ap is_simple (some_mode m mode.InCaption k)) f
  where
    some_mode : (a b : Mode) → Some b ≡ Some a → a ≡ b
    some_mode a b q = cc
of_fits s e es m srt f false false false true tab bod fra h k = fits-simple s m (e ∷ es) (ap is_simple (some_mode m mode.InColumnGroup k)) f
  where
    some_mode : (a b : Mode) → Some b ≡ Some a → a ≡ b
    some_mode a b q = cc
of_fits s e es m srt f false false false false true bod fra h k = fits-simple s m (e ∷ es) (ap is_simple (some_mode m mode.InTable k)) f
  where
    some_mode : (a b : Mode) → Some b ≡ Some a → a ≡ b
    some_mode a b q = cc
of_fits s e es m srt f false false false false false true fra h k = fits-simple s m (e ∷ es) (ap is_simple (some_mode m mode.InBody k)) f
  where
    some_mode : (a b : Mode) → Some b ≡ Some a → a ≡ b
    some_mode a b q = cc
of_fits s e es m srt f false false false false false false true h k = subst (λ x. fits_mode s x (e ∷ es) ≡ true) (sym (some_mode m mode.InFrameset k)) (frames_fits s e es srt (h refl) f)
  where
    some_mode : (a b : Mode) → Some b ≡ Some a → a ≡ b
    some_mode a b q = cc
of_fits s e es m srt f false false false false false false false h k = absurd (none-some m k)

no_frames : (tr sec cap col tab bod fra : Bool)
    → (if tr then Some mode.InRow else if sec then Some mode.InTableBody else if cap then Some mode.InCaption else if col then Some mode.InColumnGroup else if tab then Some mode.InTable else if bod then Some mode.InBody else if fra then Some mode.InFrameset else None) ≡ None → fra ≡ false
no_frames true sec cap col tab bod fra k = absurd (cc)
no_frames false true cap col tab bod fra k = absurd (cc)
no_frames false false true col tab bod fra k = absurd (cc)
no_frames false false false true tab bod fra k = absurd (cc)
no_frames false false false false true bod fra k = absurd (cc)
no_frames false false false false false true fra k = absurd (cc)
no_frames false false false false false false true k = absurd (cc)
no_frames false false false false false false false k = refl

-- an element that decides nothing is none of these, but for a cell that is the last
undecided : (sel cel tem hea htm : Bool) (sm tm hm : Mode) (o : Option Mode) → (if sel then Some sm else if cel then Some mode.InCell else if tem then Some tm else if hea then Some mode.InHead else if htm then Some hm else o) ≡ None → (sel ≡ false) × (cel ≡ false) × (tem ≡ false) × (o ≡ None)
undecided true cel tem hea htm sm tm hm o k = absurd (cc)
undecided false true tem hea htm sm tm hm o k = absurd (cc)
undecided false false true hea htm sm tm hm o k = absurd (cc)
undecided false false false true htm sm tm hm o k = absurd (cc)
undecided false false false false true sm tm hm o k = absurd (cc)
undecided false false false false false sm tm hm o k = (refl, refl, refl, k)

some_mode : (a b : Mode) → Some b ≡ Some a → a ≡ b
some_mode a b q = cc

-- what an element decides fits
decided_fits : (s : ControlState) (e : OpenElement) (es : List OpenElement) (m : Mode) → is_sorted s (e ∷ es) ≡ true → own s (is_a "frameset") (e ∷ es) ≡ [] → (b : Bool) (ts : List Mode) (hd : Bool) → All (λ x. is_template_mode x ≡ true) ts
    → (sel cel tem hea htm : Bool) → (sel ≡ true → is_named known.Select e ≡ true) → (cel ≡ true → is_cell e ≡ true)
    → (if sel then Some (select_mode b) else if cel then Some mode.InCell else if tem then Some (last_template_mode ts) else if hea then Some mode.InHead else if htm then Some (html_mode hd) else mode_of e) ≡ Some m → fits_mode s m (e ∷ es) ≡ true
decided_fits s e es m srt f b ts hd all true cel tem hea htm hs hc k =
    let one : is_a "select" e ≡ true = sym (named-a (text_of known.Select) e) ∙ hs refl in
    subst (λ x. fits_mode s x (e ∷ es) ≡ true) (sym (some_mode m (select_mode b) k))
    (select_fits s b (e ∷ es) (first_comes s (is_a "select") (words "template select") e es srt one (named-named (words "select") (words "template select") refl e one)) f)
decided_fits s e es m srt f b ts hd all false true tem hea htm hs hc k =
    let one : is_a "td th" e ≡ true = sym (cell-a e) ∙ hc refl in
    subst (λ x. fits_mode s x (e ∷ es) ≡ true) (sym (some_mode m mode.InCell k))
    (and_from (comes (is_a "td th") (own s (is_a "template td th") (e ∷ es))) (no_new s (is_a "frameset") (e ∷ es)) (first_comes s (is_a "td th") core_names e es srt one (named-named (words "td th") core_names refl e one)) (ap is_empty f))
decided_fits s e es m srt f b ts hd all false false true hea htm hs hc k = fits-simple s m (e ∷ es) (ap is_simple (some_mode m (last_template_mode ts) k) ∙ last_simple ts all) f
decided_fits s e es m srt f b ts hd all false false false true htm hs hc k = fits-simple s m (e ∷ es) (ap is_simple (some_mode m mode.InHead k)) f
decided_fits s e es m srt f b ts hd all false false false false true hs hc k = fits-simple s m (e ∷ es) (ap is_simple (some_mode m (html_mode hd) k) ∙ html_simple hd) f
decided_fits s e es m srt f b ts hd all false false false false false hs hc k =
    of_fits s e es m srt f (is_named known.Tr e) (within (kinds.Set sets.TableSections) e) (is_named known.Caption e) (is_named known.Colgroup e) (is_named known.Table e) (is_named known.Body e) (is_named known.Frameset e)
    (λ q. sym (named-a (text_of known.Frameset) e) ∙ q) k

and_first : (a b : Bool) → (a && b) ≡ true → a ≡ true
and_first a b h = (and_parts a b h).0

-- below an element that decides nothing
passed_fits : (s : ControlState) (e : OpenElement) (es : List OpenElement) (m : Mode) → named_in template_names e ≡ false → named_in (words "select") e ≡ false → named_in (words "frameset") e ≡ false
    → (named_in (words "td th") e ≡ false) → fits_mode s m es ≡ true → fits_mode s m (e ∷ es) ≡ true
passed_fits s e es m nt ns nf nc h =
    let core : named_in core_names e ≡ false = false_from_ne_true (named_in core_names e) (λ k. neither k) in
    let choice : named_in (words "template select") e ≡ false = false_from_ne_true (named_in (words "template select") e) (λ k. either_one k) in
    fits-alike s m es (e ∷ es) (own-same s core_names e es core) (own-same s (words "template select") e es choice) (own-same s template_names e es nt) (own-same s (words "frameset") e es nf) ∙ h
  where
    split : (x a b c : Bool) → (x && (a || (b || (c || false)))) ≡ true → (x && (a || false)) ≡ false → (x && (b || (c || false))) ≡ true
    split true true b c k n = absurd (true≢false n)
    split true false b c k n = k
    split false a b c k n = k

    neither : named_in core_names e ≡ true → ⊥
    neither k = true≢false (sym (split (is_html e) (bytes_eq e.name (text_of known.Template)) (bytes_eq e.name (text_of known.Td)) (bytes_eq e.name (text_of known.Th)) k nt) ∙ nc)

    split_two : (x a b : Bool) → (x && (a || (b || false))) ≡ true → (x && (a || false)) ≡ false → (x && (b || false)) ≡ true
    split_two true true b k n = absurd (true≢false n)
    split_two true false b k n = k
    split_two false a b k n = k

    either_one : named_in (words "template select") e ≡ true → ⊥
    either_one k = true≢false (sym (split_two (is_html e) (bytes_eq e.name (text_of known.Template)) (bytes_eq e.name (text_of known.Select)) k nt) ∙ ns)

frames_below : (s : ControlState) (e : OpenElement) (es : List OpenElement) → own s (is_a "frameset") (e ∷ es) ≡ [] → own s (is_a "frameset") es ≡ []
frames_below s e es h = (kept-tail (λ x. is_new s x && is_a "frameset" x) e es h).1

pub reset-fits : (s : ControlState) (hd : Bool) (ts : List Mode) (es : List OpenElement) → All (λ m. is_template_mode m ≡ true) ts → is_sorted s es ≡ true → own s (is_a "frameset") es ≡ [] → fits_mode s (reset_mode hd ts es) es ≡ true
reset-fits s hd ts [] all srt f = refl
reset-fits s hd ts (e ∷ es) all srt f = go (mode_at hd ts e es) refl (reset-fits s hd ts es all (and_parts (is_new s e || is_empty (kept (is_new s) es)) (is_sorted s es) srt).1 (frames_below s e es f))
  where
    none_left : (b : Bool) → is_last es ≡ b → (is_cell e && not (is_last es)) ≡ false → named_in template_names e ≡ false → named_in (words "select") e ≡ false → named_in (words "frameset") e ≡ false → fits_mode s (reset_mode hd ts es) es ≡ true → fits_mode s (reset_mode hd ts es) (e ∷ es) ≡ true
    none_left true l c nt ns nf r = fits-simple s (reset_mode hd ts es) (e ∷ es) (simple_last es l) f
      where
        simple_last : (xs : List OpenElement) → is_last xs ≡ true → is_simple (reset_mode hd ts xs) ≡ true
        simple_last [] k = refl
        simple_last (x ∷ xs) k = absurd (true≢false (sym k))
    none_left false l c nt ns nf r = passed_fits s e es (reset_mode hd ts es) nt ns nf (sym (cell-a e) ∙ cell_off (is_cell e) (sym (ap (λ b. is_cell e && not b) l) ∙ c)) r
      where
        cell_off : (b : Bool) → (b && true) ≡ false → b ≡ false
        cell_off true k = absurd (true≢false k)
        cell_off false k = refl

    go : (o : Option Mode) → mode_at hd ts e es ≡ o → fits_mode s (reset_mode hd ts es) es ≡ true → fits_mode s (unwrap_or o (reset_mode hd ts es)) (e ∷ es) ≡ true
    go (Some m) k r = decided_fits s e es m srt f (table_comes es) ts hd all (is_named known.Select e) (is_cell e && not (is_last es)) (is_template e) (is_named known.Head e && not (is_last es)) (is_named known.Html e) (λ q. q) (λ q. and_first (is_cell e) (not (is_last es)) q) k
    go None k r =
        let u = undecided (is_named known.Select e) (is_cell e && not (is_last es)) (is_template e) (is_named known.Head e && not (is_last es)) (is_named known.Html e) (select_mode (table_comes es)) (last_template_mode ts) (html_mode hd) (mode_of e) k in
        none_left (is_last es) refl u.1 (sym (named-a (text_of known.Template) e) ∙ u.2) (sym (named-a (text_of known.Select) e) ∙ u.0)
        (sym (named-a (text_of known.Frameset) e) ∙ no_frames (is_named known.Tr e) (within (kinds.Set sets.TableSections) e) (is_named known.Caption e) (is_named known.Colgroup e) (is_named known.Table e) (is_named known.Body e) (is_named known.Frameset e) u.3) r

-- over an older state new elements stand above older ones
pub sorted-over : (s : ControlState) (own_ones older : List OpenElement) → AreIds 0 s.next (ids_of older) → is_sorted s (map (shifted s.next) own_ones ++ older) ≡ true
sorted-over s [] [] h = refl
sorted-over s [] (e ∷ es) h = and_from (is_new s e || is_empty (kept (is_new s) es)) (is_sorted s es) (none_below (is_new s e)) (sorted-over s [] es h.3)
  where
    older_none : (xs : List OpenElement) → AreIds 0 s.next (ids_of xs) → kept (is_new s) xs ≡ []
    older_none [] k = refl
    older_none (x ∷ xs) k = ap (λ b. if b then x ∷ kept (is_new s) xs else kept (is_new s) xs) (lt-leb s.next x.id k.1) ∙ older_none xs k.3

    none_below : (b : Bool) → (b || is_empty (kept (is_new s) es)) ≡ true
    none_below true = refl
    none_below false = ap is_empty (older_none es h.3)
sorted-over s (e ∷ es) older h =
    and_from (is_new s (shifted s.next e) || is_empty (kept (is_new s) (map (shifted s.next) es ++ older))) (is_sorted s (map (shifted s.next) es ++ older))
    (ap (λ b. b || is_empty (kept (is_new s) (map (shifted s.next) es ++ older))) (le-leb s.next (s.next + e.id) (omega arith))) (sorted-over s es older h)
