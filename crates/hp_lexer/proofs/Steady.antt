-- A move of the table stays made when more text follows.
use Rattle.std.proofs.Common.{◌≡◌, ℕ, ◌+◌, ◌≤◌, List, [], ◌∷◌, ◌++◌, Bool, true, false, cond, ◌⊎◌, inl, inr, length, map, take, drop, refl, ap, ◌∙◌, sym, subst, arith, Option, None, Some, length-drop}
use Rattle.std.specs.Prelude.{◌==◌, ◌&&◌, ◌||◌, not, sum_by, codes}
use Rattle.std.specs.Char.{len_utf8, to_ascii_lowercase}
use Rattle.std.proofs.lemmas.List.{take-append-le, drop-append-le, map-append, length-map}
use Rattle.std.proofs.lemmas.Bool.{eq-eqb, and_parts}
use Rattle.hp_names.specs.References.{Reference}
use Rattle.hp_names.specs.Longest.{longest, is_open as is_open_name, is_whole_unclosed, IsLongest}
use Rattle.hp_names.specs.declared.names.Found.{Found}
use Rattle.hp_names.proofs.LawLemmas.{longest-IsLongest, or_first, or_second}
use Rattle.hp_names.proofs.OpenLemmas.{begins-length, closed-ended, whole-open, stays-closed}
use Rattle.hp_tokens.specs.declared.state.State.{State}
use Rattle.hp_tokens.specs.declared.state.State.TheVariants.{NamedCharacterReference, MarkupDeclarationOpen, AfterDoctypeName}
use Rattle.hp_tokens.specs.declared.machine.Machine.{Machine}
use Rattle.hp_tokens.specs.Reading.{first}
use Rattle.hp_tokens.specs.States.{is_in_value}
use Rattle.hp_tokens.specs.Rows.{with_buffer, flushed_tokens}
use Rattle.hp_tokens.specs.Valid.{is_front, is_front_without_case}
use Rattle.hp_tokens.specs.Moves.{Lexing, Move, all_began, needs_more, asks_cdata, makes, taking, standing}
use Rattle.hp_tokens.specs.Runs.{followed_by, Stays, IsSteady}
use Rattle.hp_tokens.proofs.Pieces.{row-stays}
use Rattle.hp_lex_tags.specs.Tags as tags
use Rattle.hp_lex_tags.specs.Rows as tag_rows
use Rattle.hp_lex_tags.specs.Named.{reference_move, named_move, with_found, is_no_reference, read_buffer, gone_back}
use Rattle.hp_lex_raw.specs.Raw as raw
use Rattle.hp_lex_raw.specs.Rows as raw_rows
use Rattle.hp_lex_markup.specs.Markup as markup
use Rattle.hp_lex_markup.specs.Rows as markup_rows
use Rattle.hp_lex_markup.specs.Words.{is_open, is_open_keyword, word, keyword, begins, begins_without_case, count}
use Rattle.hp_lex_markup.specs.declared.words.Word.{Word}
use Rattle.hp_lex_markup.specs.declared.words.Word.TheVariants.{Hyphens, Doctype, Cdata, Public, System}
use Rattle.hp_lexer.specs.Table.{table}

either : (b : Bool) → (b ≡ true) ⊎ (b ≡ false)
either true = inl refl
either false = inr refl

if_stays : (b : Bool) (x x' : Move) (text : List ℕ) → Stays x x' text → Stays (cond b x needs_more) (cond b x' needs_more) text
if_stays true x x' text h = h
if_stays false x x' text h = tt

both_stay : (b : Bool) (x y x' y' : Move) (text : List ℕ) → Stays x x' text → Stays y y' text → Stays (cond b x y) (cond b x' y') text
both_stay true x y x' y' text h k = h
both_stay false x y x' y' text h k = k

-- n code points that are there are taken in the same way when more text follows
taken_same : (n : ℕ) (m : Machine) (l : Lexing) (text : List ℕ) → n ≤ length l.unread → taking n m (followed_by l text) ≡ followed_by (taking n m l) text
taken_same n m l text h =
    ap (λ (t : List ℕ). standing m (l.place + sum_by len_utf8 t) l.rested (drop n (l.unread ++ text))) (take-append-le n l.unread text h)
    ∙ ap (λ (t : List ℕ). standing m (l.place + sum_by len_utf8 (take n l.unread)) l.rested t) (drop-append-le n l.unread text h)

-- named references
whole_closed : (f : Found) (n : ℕ) → f.length ≡ n → (f.length == n && not f.ends_with_semicolon) ≡ false → not f.ends_with_semicolon ≡ false
whole_closed f n e h = let same : (f.length == n) ≡ true = eq-eqb f.length n e in rw same at h

and_never : (a b c : Bool) → b ≡ false → ((a && b) && c) ≡ false
and_never true b c h = rw h refl
and_never false b c h = refl

is_same : (f : Found) (m : Machine) (u text : List ℕ) → f.length ≤ length u → (f.length == length u && not f.ends_with_semicolon) ≡ false
    → is_no_reference f m (first (drop f.length (u ++ text))) ≡ is_no_reference f m (first (drop f.length u))
is_same f m u text h closed = at (drop f.length u) refl
  where
    at : (rest : List ℕ) → drop f.length u ≡ rest → is_no_reference f m (first (drop f.length (u ++ text))) ≡ is_no_reference f m (first (drop f.length u))
    at [] e =
        let whole : f.length ≡ length u = omega (arith, h, length-drop f.length u, ap length e) in
        let never : not f.ends_with_semicolon ≡ false = whole_closed f (length u) whole closed in
        and_never (is_in_value m.return_to) (not f.ends_with_semicolon) _ never ∙ sym (and_never (is_in_value m.return_to) (not f.ends_with_semicolon) _ never)
    at (x ∷ xs) e =
        ap (λ (t : List ℕ). is_no_reference f m (first t)) (drop-append-le f.length u text h)
        ∙ (ap (λ (t : List ℕ). is_no_reference f m (first (t ++ text))) e ∙ ap (λ (t : List ℕ). is_no_reference f m (first t)) (sym e))

same_found : (f : Found) (m : Machine) (u text : List ℕ) → f.length ≤ length u → (f.length == length u && not f.ends_with_semicolon) ≡ false
    → with_found f m (u ++ text) ≡ with_found f m u
same_found f m u text h closed =
    ap (λ (b : Bool). with_buffer (read_buffer f b (take f.length (u ++ text))) m) (is_same f m u text h closed)
    ∙ ap (λ (t : List ℕ). with_buffer (read_buffer f (is_no_reference f m (first (drop f.length u))) t) m) (take-append-le f.length u text h)

found_within : (names : List Reference) (u : List ℕ) (f : Found) → longest names u ≡ Some f → f.length ≤ length u
found_within names u f e =
    let P : Option Found → Type 0 = λ o. IsLongest names u o in
    let law : IsLongest names u (Some f) = subst P e (longest-IsLongest names u) in
    omega (arith, begins-length u law.0.name law.2, ap (λ (g : Found). g.length) law.3)

found_stays : (names : List Reference) (l : Lexing) (text : List ℕ) (o : Option Found) → longest names l.unread ≡ o → is_whole_unclosed o l.unread ≡ false
    → Stays (reference_move o l) (reference_move o (followed_by l text)) text
found_stays names l text None e closed = refl
found_stays names l text (Some f) e closed =
    let within : f.length ≤ length l.unread = found_within names l.unread f e in
    ap (λ (m : Machine). makes (taking f.length (gone_back m) (followed_by l text)) (all_began l.rested (flushed_tokens m))) (same_found f l.machine l.unread text within closed)
    ∙ ap (λ (x : Lexing). makes x (all_began l.rested (flushed_tokens (with_found f l.machine l.unread)))) (taken_same f.length (gone_back (with_found f l.machine l.unread)) l text within)

named_stays : (names : List Reference) (l : Lexing) (text : List ℕ) → Stays (named_move names l) (named_move names (followed_by l text)) text
named_stays names l text = at (is_open_name names l.unread) refl
  where
    at : (b : Bool) → is_open_name names l.unread ≡ b → Stays (cond b needs_more (reference_move (longest names l.unread) l)) (named_move names (followed_by l text)) text
    at true e = tt
    at false e =
        let law = stays-closed names l.unread e text in
        let closed : is_whole_unclosed (longest names l.unread) l.unread ≡ false = whole-open names l.unread (closed-ended names l.unread e) ∙ e in
        let P : Bool → Type 0 = λ b. Stays (reference_move (longest names l.unread) l) (cond b needs_more (reference_move (longest names (l.unread ++ text)) (followed_by l text))) text in
        let Q : Option Found → Type 0 = λ o. Stays (reference_move (longest names l.unread) l) (reference_move o (followed_by l text)) text in
        subst P (sym law.1) (subst Q (sym law.0) (found_stays names l text (longest names l.unread) refl closed))

tags_stay : (s : State) (names : List Reference) (l : Lexing) (c : ℕ) (cs text : List ℕ)
    → Stays (tags.on_state s names l c cs) (tags.on_state s names (followed_by l text) c (cs ++ text)) text
tags_stay NamedCharacterReference names l c cs text = named_stays names l text
tags_stay s names l c cs text = if_stays (tag_rows.has_row s) _ _ text (row-stays tag_rows.row l c cs text)

-- words
same_front : (b x y z w : Bool) → (x ≡ false → (y ≡ false) × (z ≡ w)) → (b && x) ≡ false → ((b && y) ≡ false) × ((b && z) ≡ (b && w))
same_front true x y z w f h = f h
same_front false x y z w f h = (refl, refl)

front-stays : (u w text : List ℕ) → is_front u w ≡ false → (is_front (u ++ text) w ≡ false) × (begins (u ++ text) w ≡ begins u w)
front-stays [] [] [] h = (refl, refl)
front-stays [] [] (c ∷ cs) h = (refl, refl)
front-stays [] (x ∷ xs) text h = cc
front-stays (c ∷ cs) [] text h = (refl, refl)
front-stays (c ∷ cs) (x ∷ xs) text h = same_front (c == x) _ _ _ _ (front-stays cs xs text) h

front-stays-without_case : (u w text : List ℕ) → is_front_without_case u w ≡ false
    → (is_front_without_case (u ++ text) w ≡ false) × (begins_without_case (u ++ text) w ≡ begins_without_case u w)
front-stays-without_case u w text h =
    let a = front-stays (map to_ascii_lowercase u) w (map to_ascii_lowercase text) h in (
      ap (λ (t : List ℕ). is_front t w) (map-append to_ascii_lowercase u text) ∙ a.0,
      ap (λ (t : List ℕ). begins t w) (map-append to_ascii_lowercase u text) ∙ a.1,
    )

third : (a b c a' b' c' : Bool) → a ≡ a' → b ≡ b' → c ≡ c'
    → cond a (Some Hyphens) (cond b (Some Doctype) (cond c (Some Cdata) None)) ≡ cond a' (Some Hyphens) (cond b' (Some Doctype) (cond c' (Some Cdata) None))
third a b c a' b' c' h k i = cc

three : (a b c : Bool) → a ≡ false → b ≡ false → c ≡ false → (a || (b || c)) ≡ false
three a b c h k i = rw (h, k, i) refl

two : (a b : Bool) → a ≡ false → b ≡ false → (a || b) ≡ false
two a b h k = rw (h, k) refl

second_same : (a b a' b' : Bool) → a ≡ a' → b ≡ b' → cond a (Some Public) (cond b (Some System) None) ≡ cond a' (Some Public) (cond b' (Some System) None)
second_same a b a' b' h k = cc

keyword-stays : (u text : List ℕ) → is_open_keyword u ≡ false → (is_open_keyword (u ++ text) ≡ false) × (keyword (u ++ text) ≡ keyword u)
keyword-stays u text h =
    let a = front-stays-without_case u (codes "public") text (or_first (is_front_without_case u (codes "public")) _ h) in
    let b = front-stays-without_case u (codes "system") text (or_second (is_front_without_case u (codes "public")) _ h) in
    (two _ _ a.0 b.0, second_same _ _ _ _ a.1 b.1)

word-stays : (s : State) (u text : List ℕ) → is_open s u ≡ false → (is_open s (u ++ text) ≡ false) × (word s (u ++ text) ≡ word s u)
word-stays MarkupDeclarationOpen u text h =
    let rest : (is_front_without_case u (codes "doctype") || is_front u (codes "[CDATA[")) ≡ false =
    or_second (is_front u (codes "--")) (is_front_without_case u (codes "doctype") || is_front u (codes "[CDATA[")) h in
    let a = front-stays u (codes "--") text (or_first (is_front u (codes "--")) (is_front_without_case u (codes "doctype") || is_front u (codes "[CDATA[")) h) in
    let b = front-stays-without_case u (codes "doctype") text (or_first (is_front_without_case u (codes "doctype")) (is_front u (codes "[CDATA[")) rest) in
    let c = front-stays u (codes "[CDATA[") text (or_second (is_front_without_case u (codes "doctype")) (is_front u (codes "[CDATA[")) rest) in
    (three _ _ _ a.0 b.0 c.0, third _ _ _ _ _ _ a.1 b.1 c.1)
word-stays _ u text h = keyword-stays u text h

-- a word that is read is there
long-text : (t w : List ℕ) → begins t w ≡ true → length w ≤ length t
long-text t [] h = omega arith
long-text [] (x ∷ xs) h = cc
long-text (c ∷ cs) (x ∷ xs) h = omega (arith, long-text cs xs (and_parts (c == x) (begins cs xs) h).1)

long-without_case : (t w : List ℕ) → begins_without_case t w ≡ true → length w ≤ length t
long-without_case t w h = omega (arith, long-text (map to_ascii_lowercase t) w h, length-map t to_ascii_lowercase)

markup-long : (u : List ℕ) (w : Word) (a b c : Bool) → (a ≡ true → 2 ≤ length u) → (b ≡ true → 7 ≤ length u) → (c ≡ true → 7 ≤ length u)
    → cond a (Some Hyphens) (cond b (Some Doctype) (cond c (Some Cdata) None)) ≡ Some w → count w ≤ length u
markup-long u w true b c f g h e = let is : Hyphens ≡ w = cc in subst (λ (x : Word). count x ≤ length u) is (f refl)
markup-long u w false true c f g h e = let is : Doctype ≡ w = cc in subst (λ (x : Word). count x ≤ length u) is (g refl)
markup-long u w false false true f g h e = let is : Cdata ≡ w = cc in subst (λ (x : Word). count x ≤ length u) is (h refl)
markup-long u w false false false f g h e = cc

keyword-long : (u : List ℕ) (w : Word) (a b : Bool) → (a ≡ true → 6 ≤ length u) → (b ≡ true → 6 ≤ length u)
    → cond a (Some Public) (cond b (Some System) None) ≡ Some w → count w ≤ length u
keyword-long u w true b f g e = let is : Public ≡ w = cc in subst (λ (x : Word). count x ≤ length u) is (f refl)
keyword-long u w false true f g e = let is : System ≡ w = cc in subst (λ (x : Word). count x ≤ length u) is (g refl)
keyword-long u w false false f g e = cc

keyword_there : (u : List ℕ) (w : Word) → keyword u ≡ Some w → count w ≤ length u
keyword_there u w e =
    keyword-long u w (begins_without_case u (codes "public")) (begins_without_case u (codes "system"))
    (long-without_case u (codes "public")) (long-without_case u (codes "system")) e

word-there : (s : State) (u : List ℕ) (w : Word) → word s u ≡ Some w → count w ≤ length u
word-there MarkupDeclarationOpen u w e =
    markup-long u w (begins u (codes "--")) (begins_without_case u (codes "doctype")) (begins u (codes "[CDATA["))
    (long-text u (codes "--")) (long-without_case u (codes "doctype")) (long-text u (codes "[CDATA[")) e
word-there _ u w e = keyword_there u w e

read-stays : (l : Lexing) (c : ℕ) (cs text : List ℕ) (o : Option Word) → ((w : Word) → o ≡ Some w → count w ≤ length l.unread)
    → Stays (markup.word_read o l c cs) (markup.word_read o (followed_by l text) c (cs ++ text)) text
read-stays l c cs text None h = row-stays markup_rows.row l c cs text
read-stays l c cs text (Some Cdata) h =
    ap (λ (x : Lexing). asks_cdata x (taking 7 (markup.after_word Cdata l.machine) (followed_by l text))) (taken_same 7 (markup.in_section l.machine) l text (h Cdata refl))
    ∙ ap (λ (x : Lexing). asks_cdata (followed_by (taking 7 (markup.in_section l.machine) l) text) x) (taken_same 7 (markup.after_word Cdata l.machine) l text (h Cdata refl))
read-stays l c cs text (Some w) h =
    ap (λ (x : Lexing). makes x []) (taken_same (count w) (markup.after_word w l.machine) l text (h w refl))

word_move-stays : (l : Lexing) (c : ℕ) (cs text : List ℕ) → Stays (markup.word_move l c cs) (markup.word_move (followed_by l text) c (cs ++ text)) text
word_move-stays l c cs text = at (is_open l.machine.state l.unread) refl
  where
    at : (b : Bool) → is_open l.machine.state l.unread ≡ b
        → Stays (cond b needs_more (markup.word_read (word l.machine.state l.unread) l c cs)) (markup.word_move (followed_by l text) c (cs ++ text)) text
    at true e = tt
    at false e =
        let law = word-stays l.machine.state l.unread text e in
        let P : Bool → Type 0 = λ b. Stays (markup.word_read (word l.machine.state l.unread) l c cs)
        (cond b needs_more (markup.word_read (word l.machine.state (l.unread ++ text)) (followed_by l text) c (cs ++ text))) text in
        let Q : Option Word → Type 0 = λ o. Stays (markup.word_read (word l.machine.state l.unread) l c cs) (markup.word_read o (followed_by l text) c (cs ++ text)) text in
        subst P (sym law.0) (subst Q (sym law.1) (read-stays l c cs text (word l.machine.state l.unread) (word-there l.machine.state l.unread)))

markup_stays : (s : State) (l : Lexing) (c : ℕ) (cs text : List ℕ) → Stays (markup.on_state s l c cs) (markup.on_state s (followed_by l text) c (cs ++ text)) text
markup_stays MarkupDeclarationOpen l c cs text = word_move-stays l c cs text
markup_stays AfterDoctypeName l c cs text = word_move-stays l c cs text
markup_stays s l c cs text = if_stays (markup_rows.has_row s) _ _ text (row-stays markup_rows.row l c cs text)

raw_stays : (l : Lexing) (c : ℕ) (cs text : List ℕ) → Stays (raw.raw_rules.on l c cs) (raw.raw_rules.on (followed_by l text) c (cs ++ text)) text
raw_stays l c cs text =
    if_stays (raw_rows.has_row l.machine.state) _ _ text
    (both_stay (raw.asks l.machine c) _ _ _ _ text refl (row-stays raw_rows.row l c cs text))

pub table_steady : (names : List Reference) → IsSteady (table names)
table_steady names = record {
  stays = λ l c cs text.
      both_stay (tags.is_here l.machine.state) _ _ _ _ text (tags_stay l.machine.state names l c cs text)
      (both_stay (raw.is_here l.machine.state) _ _ _ _ text (raw_stays l c cs text) (markup_stays l.machine.state l c cs text));
}
