-- A text is open where a name goes on after it, or where the longest name is the whole text and has no semicolon; a closed text stays closed.
use Rattle.std.proofs.Common.{◌≡◌, ℕ, ◌<◌, ◌≤◌, List, [], ◌∷◌, ◌++◌, get_or, Bool, true, false, ◌&&◌, ◌||◌, not, nat_eq, nat_lt, length, refl, arith, sym, ap, ◌∙◌, Option, None, Some, eqb-true, eq-eqb}
use Rattle.std.proofs.lemmas.Bool.Decides.{nat_tests}
use Rattle.std.proofs.lemmas.List.Folds.{list_any_at, Any-from_list_any}
use Rattle.hp_names.specs.Order.{begins}
use Rattle.hp_names.specs.References.{Reference, ends_with_semicolon}
use Rattle.hp_names.specs.Longest.{longest, IsLongest, goes_on, may_grow, may_be_more, is_open, is_whole_unclosed, StaysClosed}
use Rattle.hp_names.specs.declared.names.Found.{Found}
use Rattle.hp_names.proofs.LawLemmas.{longest-IsLongest, longest-decided, or_first, or_second}

-- a word of the text's length or less that begins with the text, or with which the text begins, is the text
pub same-word : (text word : List ℕ) → begins word text ≡ true → nat_lt (length text) (length word) ≡ false → word ≡ text
same-word [] [] h l = refl
same-word [] (w ∷ ws) h l = absurd (grind (arith, nat_tests))
same-word (c ∷ cs) [] h l = cc
same-word (c ∷ cs) (w ∷ ws) h l =
    let later : begins ws cs ≡ true → nat_lt (length cs) (length ws) ≡ false → ws ≡ cs = same-word cs ws in
    grind (arith, nat_tests)

pub same-front : (text word : List ℕ) → begins text word ≡ true → length word ≡ length text → word ≡ text
same-front [] [] h l = refl
same-front [] (w ∷ ws) h l = cc
same-front (c ∷ cs) [] h l = absurd (omega arith)
same-front (c ∷ cs) (w ∷ ws) h l =
    let later : begins cs ws ≡ true → length ws ≡ length cs → ws ≡ cs = same-front cs ws in
    grind (arith, nat_tests)

pub begins-itself : (text : List ℕ) → begins text text ≡ true
begins-itself [] = refl
begins-itself (c ∷ cs) = let later : begins cs cs ≡ true = begins-itself cs in grind (arith, nat_tests)

pub begins-length : (text word : List ℕ) → begins text word ≡ true → length word ≤ length text
begins-length text [] h = omega arith
begins-length [] (w ∷ ws) h = cc
begins-length (c ∷ cs) (w ∷ ws) h =
    let later : begins cs ws ≡ true → length ws ≤ length cs = begins-length cs ws in
    grind (arith, nat_tests)

more_if_grows : (b l s rest more : Bool) → (rest ≡ true → more ≡ true) → ((b && l) || rest) ≡ true → ((b && (l || s)) || more) ≡ true
more_if_grows true true s rest more f h = refl
more_if_grows true false true rest more f h = refl
more_if_grows true false false rest more f h = f h
more_if_grows false l s rest more f h = f h

pub open-from_grow : (table : List Reference) (text : List ℕ) → may_grow table text ≡ true → is_open table text ≡ true
open-from_grow [] text h = h
open-from_grow (r ∷ rs) text h =
    more_if_grows (begins r.name text) (nat_lt (length text) (length r.name)) (not (ends_with_semicolon r.name)) _ _ (open-from_grow rs text) h

false_from : (b : Bool) → (b ≡ true → ⊥) → b ≡ false
false_from true h = absurd (h refl)
false_from false h = refl

pub closed-ended : (table : List Reference) (text : List ℕ) → is_open table text ≡ false → may_grow table text ≡ false
closed-ended table text h =
    false_from (may_grow table text) (λ g. let yes : is_open table text ≡ true = open-from_grow table text g in cc)

-- a name that is the text, has no semicolon, and stands in the table
whole_parts : (b l s : Bool) → (b && (l || s)) ≡ true → (b && l) ≡ false → (b ≡ true) × (l ≡ false) × (s ≡ true)
whole_parts true true s h k = cc
whole_parts true false s h k = (refl, refl, h)
whole_parts false l s h k = cc

not_false : (x : Bool) → not x ≡ true → x ≡ false
not_false true h = cc
not_false false h = refl

both : (x y : Bool) → x ≡ true → y ≡ true → (x && y) ≡ true
both true y h k = k
both false y h k = h

whole-found : (table : List Reference) (text : List ℕ) (o : Option Found) → IsLongest table text o → (k : ℕ) (d : Reference) → k < length table
    → (get_or table k d).name ≡ text → ends_with_semicolon text ≡ false → is_whole_unclosed o text ≡ true
whole-found table text None law k d l is s =
    let no : begins text (get_or table k d).name ≡ false = law k d l in
    let yes : begins text (get_or table k d).name ≡ true = rw is (begins-itself text) in cc
whole-found table text (Some f) (q, among, fits, found, bound) k d l is s =
    let yes : begins text (get_or table k d).name ≡ true = rw is (begins-itself text) in
    let least : length (get_or table k d).name ≤ length q.name = bound k d l yes in
    let size : length (get_or table k d).name ≡ length text = ap length is in
    let most : length q.name ≤ length text = begins-length text q.name fits in
    let whole : length q.name ≡ length text = omega arith in
    let same : q.name ≡ text = same-front text q.name fits whole in
    let long : f.length ≡ length text = ap (λ (x : Found). x.length) found ∙ whole in
    let ends : f.ends_with_semicolon ≡ false = ap (λ (x : Found). x.ends_with_semicolon) found ∙ ap ends_with_semicolon same ∙ s in
    both (nat_eq f.length (length text)) (not f.ends_with_semicolon) (eq-eqb f.length (length text) long) (ap not ends)

pub whole-from_open : (table : List Reference) (text : List ℕ) → may_grow table text ≡ false → is_open table text ≡ true → is_whole_unclosed (longest table text) text ≡ true
whole-from_open table text g h =
    let (k, r, l, among, here) = Any-from_list_any (may_be_more text) table h in
    let ended : goes_on text r ≡ false = false_from _ (λ e. let yes : may_grow table text ≡ true = list_any_at (goes_on text) table k r l (rw among e) in cc) in
    let parts = whole_parts (begins r.name text) (nat_lt (length text) (length r.name)) (not (ends_with_semicolon r.name)) here ended in
    let is : r.name ≡ text = same-word text r.name parts.0 parts.1 in
    let bare : ends_with_semicolon text ≡ false = sym (ap ends_with_semicolon is) ∙ not_false _ parts.2 in
    whole-found table text _ (longest-IsLongest table text) k r l (ap (λ (x : Reference). x.name) among ∙ is) bare

last_of : (x y : Bool) → (x && y) ≡ true → y ≡ true
last_of true y h = h
last_of false y h = cc

first_of_both : (x y : Bool) → (x && y) ≡ true → x ≡ true
first_of_both true y h = refl
first_of_both false y h = h

or_last : (x y : Bool) → y ≡ true → (x || y) ≡ true
or_last true y h = refl
or_last false y h = h

open-found : (table : List Reference) (text : List ℕ) (o : Option Found) → IsLongest table text o → is_whole_unclosed o text ≡ true → is_open table text ≡ true
open-found table text None law h = cc
open-found table text (Some f) (q, (k, l, at), fits, found, bound) h =
    let long : f.length ≡ length text = eqb-true f.length (length text) (first_of_both _ _ h) in
    let whole : length q.name ≡ length text = sym (ap (λ (x : Found). x.length) found) ∙ long in
    let same : q.name ≡ text = same-front text q.name fits whole in
    let bare : not (ends_with_semicolon q.name) ≡ true = sym (ap (λ (x : Found). not x.ends_with_semicolon) found) ∙ last_of _ _ h in
    let begun : begins q.name text ≡ true = rw same (begins-itself text) in
    let here : may_be_more text q ≡ true = both (begins q.name text) _ begun (or_last (nat_lt (length text) (length q.name)) _ bare) in
    list_any_at (may_be_more text) table k q l (rw at here)

same_from : (a b : Bool) → (a ≡ true → b ≡ true) → (b ≡ true → a ≡ true) → a ≡ b
same_from true b h k = sym (h refl)
same_from false b h k = sym (false_from b (λ e. let w : false ≡ true = k e in cc))

pub whole-open : (table : List Reference) (text : List ℕ) → may_grow table text ≡ false → is_whole_unclosed (longest table text) text ≡ is_open table text
whole-open table text g = same_from _ _ (open-found table text _ (longest-IsLongest table text)) (whole-from_open table text g)

-- more text opens no name
pub closed-decided : (text more word : List ℕ) (s : Bool) → (begins word text && (nat_lt (length text) (length word) || s)) ≡ false
    → (begins word (text ++ more) && (nat_lt (length (text ++ more)) (length word) || s)) ≡ false
closed-decided [] [] [] s h = h
closed-decided [] (m ∷ ms) [] s h = refl
closed-decided (c ∷ cs) more [] s h = refl
closed-decided [] more (w ∷ ws) s h = absurd (grind (arith, nat_tests))
closed-decided (c ∷ cs) more (w ∷ ws) s h =
    let later : (begins ws cs && (nat_lt (length cs) (length ws) || s)) ≡ false → (begins ws (cs ++ more) && (nat_lt (length (cs ++ more)) (length ws) || s)) ≡ false = closed-decided cs more ws s in
    grind (arith, nat_tests)

open-decided : (table : List Reference) (text more : List ℕ) → is_open table text ≡ false → is_open table (text ++ more) ≡ false
open-decided [] text more h = refl
open-decided (r ∷ rs) text more h =
    rw (closed-decided text more r.name (not (ends_with_semicolon r.name)) (or_first (may_be_more text r) _ h)) (open-decided rs text more (or_second (may_be_more text r) _ h))

pub stays-closed : (table : List Reference) (text : List ℕ) → is_open table text ≡ false → StaysClosed table text
stays-closed table text h = λ more. (longest-decided table text more None (closed-ended table text h), open-decided table text more h)
