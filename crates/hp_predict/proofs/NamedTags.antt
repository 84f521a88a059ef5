-- What stands behind a tag's name, and the tag that closes another one at once.
use Rattle.std.proofs.Common.{◌≡◌, ℕ, suc, ◌+◌, ◌≤◌, Bool, true, false, ◌&&◌, cond, List, [], ◌∷◌, ◌++◌, length, take, drop, get_or, refl, sym, ap, subst, ◌∙◌, arith}
use Rattle.std.specs.Prelude.{Option, None, Some, IfSome, MatchOption, ◌==◌, nat_eq, if◌then◌else◌}
use Rattle.std.specs.Char.{is_ascii_alphabetic, is_ascii_alphanumeric}
use Rattle.std.specs.List.{take_while, prefix_len}
use Rattle.std.specs.Cmp.Lexicographic.{pointwise, same_text}
use Rattle.std.proofs.lemmas.Grind.{common_steps}
use Rattle.std.proofs.lemmas.List.{take-append-drop}
use Rattle.std.proofs.lemmas.List.Sums.{take_while-cons}
use Rattle.hp_elements.specs.Names.{lowered}
use Rattle.hp_predict.specs.Tags.{SeenTag, IsTagName, begins_with_letter, begins_with_slash, tags, tag_after, has_end}
use Rattle.hp_predict.specs.declared.found.FoundTag.{FoundTag}
use Rattle.hp_predict.specs.declared.found.Opening.{Opening}
use Rattle.hp_predict.specs.Found.{found_tag, opening}
use Rattle.hp_predict.proofs.TagLemmas.{at, at_greater, no_greater, no_end, fails, opened, unclosed}

-- a byte of a name ends no tag
ends_none : (x : ℕ) → is_ascii_alphanumeric x ≡ true → (x == 62) ≡ false
ends_none x h = fails (x == 62) (λ e. grind (arith, common_steps, h, e))

letter_in_name : (x : ℕ) → is_ascii_alphabetic x ≡ true → is_ascii_alphanumeric x ≡ true
letter_in_name x h = grind (arith, common_steps, h)

-- what no other byte than `>` changes is not changed by a name
past_name : {X : Type 0} (P : List ℕ → X) → ((x : ℕ) (xs : List ℕ) → (x == 62) ≡ false → P (x ∷ xs) ≡ P xs) → (text : List ℕ) → P text ≡ P (drop (prefix_len is_ascii_alphanumeric text) text)
past_name P step [] = refl
past_name P step (x ∷ xs) = go (past_name P step xs) (is_ascii_alphanumeric x) refl
  where
    go : P xs ≡ P (drop (prefix_len is_ascii_alphanumeric xs) xs) → (b : Bool) → is_ascii_alphanumeric x ≡ b → P (x ∷ xs) ≡ P (drop (cond b (1 + prefix_len is_ascii_alphanumeric xs) 0) (x ∷ xs))
    go later true e =
        let more : suc (prefix_len is_ascii_alphanumeric xs) ≡ 1 + prefix_len is_ascii_alphanumeric xs = omega arith in
        step x xs (ends_none x e) ∙ (later ∙ ap (λ (k : ℕ). P (drop k (x ∷ xs))) more)
    go later false e = refl

pub end_past_name : (text behind : List ℕ) (n : ℕ) → n ≡ prefix_len is_ascii_alphanumeric text → behind ≡ drop n text → has_end text ≡ has_end behind
end_past_name text behind n e is = past_name has_end no_end text ∙ (ap (λ (k : ℕ). has_end (drop k text)) (sym e) ∙ ap has_end (sym is))

pub tags_past_name : (text behind : List ℕ) (n : ℕ) → n ≡ prefix_len is_ascii_alphanumeric text → behind ≡ drop n text → tags true text ≡ tags true behind
tags_past_name text behind n e is = past_name (tags true) no_greater text ∙ (ap (λ (k : ℕ). tags true (drop k text)) (sym e) ∙ ap (tags true) (sym is))

twice : (text : List ℕ) → take_while is_ascii_alphanumeric (take_while is_ascii_alphanumeric text) ≡ take_while is_ascii_alphanumeric text
twice [] = refl
twice (x ∷ xs) = go (twice xs) (is_ascii_alphanumeric x) refl
  where
    again : List ℕ → List ℕ
    again = take_while is_ascii_alphanumeric

    one_more : (ys : List ℕ) (b : Bool) → is_ascii_alphanumeric x ≡ b → again (x ∷ ys) ≡ cond b (x ∷ again ys) []
    one_more ys b e = take_while-cons is_ascii_alphanumeric x ys ∙ ap (λ (b : Bool). cond b (x ∷ again ys) []) e

    go : again (again xs) ≡ again xs → (b : Bool) → is_ascii_alphanumeric x ≡ b → again (again (x ∷ xs)) ≡ again (x ∷ xs)
    go later true e =
        ap again (one_more xs true e)
        ∙ (one_more (again xs) true e ∙ (ap (λ (ys : List ℕ). x ∷ ys) later ∙ sym (one_more xs true e)))
    go later false e = ap again (one_more xs false e) ∙ sym (one_more xs false e)

read : (text : List ℕ) → begins_with_letter text ≡ true → IsTagName (take_while is_ascii_alphanumeric text)
read [] e = record { first = e; whole = refl }
read (x ∷ xs) e = record {
  first = ap begins_with_letter (take_while-cons is_ascii_alphanumeric x xs ∙ ap (λ (b : Bool). cond b (x ∷ take_while is_ascii_alphanumeric xs) []) (letter_in_name x e)) ∙ e;
  whole = twice (x ∷ xs);
}

-- what is read as a name is one
pub read_name : (text name : List ℕ) (n : ℕ) → begins_with_letter text ≡ true → n ≡ prefix_len is_ascii_alphanumeric text → name ≡ take n text → IsTagName name
read_name text name n letter e is = subst IsTagName (ap (λ (k : ℕ). take k text) (sym e) ∙ sym is) (read text letter)

-- the name of an end tag stands behind a `/`
pub tags_past_slash : (text : List ℕ) → begins_with_slash text ≡ true → tags true text ≡ tags true (drop 1 text)
tags_past_slash [] e = refl
tags_past_slash (x ∷ xs) e = no_greater x xs (fails (x == 62) (λ is. grind (arith, common_steps, e, is)))

-- a name without its first byte, which is a letter or a digit, has no other bytes either
name_step : (x : ℕ) (xs : List ℕ) → take_while is_ascii_alphanumeric (x ∷ xs) ≡ x ∷ xs → (is_ascii_alphanumeric x ≡ true) × (take_while is_ascii_alphanumeric xs ≡ xs)
name_step x xs e = go (is_ascii_alphanumeric x) refl
  where
    rest : List ℕ → List ℕ
    rest [] = []
    rest (y ∷ ys) = ys

    cons : cond (is_ascii_alphanumeric x) (x ∷ take_while is_ascii_alphanumeric xs) [] ≡ x ∷ xs
    cons = sym (take_while-cons is_ascii_alphanumeric x xs) ∙ e

    go : (b : Bool) → is_ascii_alphanumeric x ≡ b → (is_ascii_alphanumeric x ≡ true) × (take_while is_ascii_alphanumeric xs ≡ xs)
    go true y = (y, ap rest (sym (ap (λ (b : Bool). cond b (x ∷ take_while is_ascii_alphanumeric xs) []) y) ∙ cons))
    go false n = absurd (differ (sym (ap (λ (b : Bool). cond b (x ∷ take_while is_ascii_alphanumeric xs) []) n) ∙ cons))
      where
        differ : [] ≡ x ∷ xs → ⊥
        differ d = cc

-- a name before a `>` is read as that name
name_before : (name rest : List ℕ) → take_while is_ascii_alphanumeric name ≡ name → take_while is_ascii_alphanumeric (name ++ 62 ∷ rest) ≡ name
name_before [] rest e = take_while-cons is_ascii_alphanumeric 62 rest
name_before (x ∷ xs) rest e =
    let step = name_step x xs e in
    take_while-cons is_ascii_alphanumeric x (xs ++ 62 ∷ rest)
    ∙ (ap (λ (b : Bool). cond b (x ∷ take_while is_ascii_alphanumeric (xs ++ 62 ∷ rest)) []) step.0 ∙ ap (λ (ys : List ℕ). x ∷ ys) (name_before xs rest step.1))

-- and goes on to it
passed : {X : Type 0} (P : List ℕ → X) → ((x : ℕ) (xs : List ℕ) → (x == 62) ≡ false → P (x ∷ xs) ≡ P xs) → (name rest : List ℕ) → take_while is_ascii_alphanumeric name ≡ name → P (name ++ rest) ≡ P rest
passed P step [] rest e = refl
passed P step (x ∷ xs) rest e =
    let parts = name_step x xs e in
    step x (xs ++ rest) (ends_none x parts.0) ∙ passed P step xs rest parts.1

letter_first : (name rest : List ℕ) → begins_with_letter name ≡ true → begins_with_letter (name ++ rest) ≡ true
letter_first [] rest e = absurd (never e)
  where
    never : false ≡ true → ⊥
    never d = cc
letter_first (x ∷ xs) rest e = e

-- the end tag of a name
end_tag : (name rest : List ℕ) → IsTagName name → tags false (60 ∷ 47 ∷ (name ++ 62 ∷ rest)) ≡ record { is_end = true; name = lowered name } ∷ tags false rest
end_tag name rest is =
    let text : List ℕ = 47 ∷ (name ++ 62 ∷ rest) in
    let end : has_end text ≡ true = passed has_end no_end name (62 ∷ rest) is.whole in
    let found : tag_after text ≡ Some (record { is_end = true; name = lowered name }) =
    ap (λ (b : Bool). if b then Some (record { is_end = true; name = lowered (take_while is_ascii_alphanumeric (name ++ 62 ∷ rest)) }) else None) (letter_first name (62 ∷ rest) is.first)
    ∙ ap (λ (ns : List ℕ). Some (record { is_end = true; name = lowered ns })) (name_before name rest is.whole) in
    at 60 text (record { is_end = true; name = lowered name }) (ap (λ (b : Bool). if true && b then tag_after text else None) end ∙ found)
    ∙ ap (λ (ts : List SeenTag). record { is_end = true; name = lowered name } ∷ ts)
    (no_greater 47 (name ++ 62 ∷ rest) refl ∙ (passed (tags true) no_greater name (62 ∷ rest) is.whole ∙ at_greater 62 rest refl))

front_of : (text : List ℕ) (c : ℕ) → 1 ≤ length text → get_or text 0 0 ≡ c → text ≡ c ∷ drop 1 text
front_of [] c some e = absurd (omega (arith, some))
front_of (x ∷ xs) c some e = ap (λ (y : ℕ). y ∷ xs) e

front_two : (text : List ℕ) (c d : ℕ) → 2 ≤ length text → get_or text 0 0 ≡ c → get_or text 1 0 ≡ d → text ≡ c ∷ d ∷ drop 2 text
front_two [] c d some e f = absurd (omega (arith, some))
front_two (x ∷ xs) c d some e f = ap (λ (y : ℕ). y ∷ xs) e ∙ ap (λ (ys : List ℕ). c ∷ ys) (front_of xs d (omega (arith, some)) f)

-- the same, where the name is found in a text
pub closes : (start text name found : List ℕ) → IsTagName start → 2 ≤ length text → get_or text 0 0 ≡ 60 → get_or text 1 0 ≡ 47 → name ≡ drop 2 text
    → pointwise nat_eq (take (length start) name) start ≡ true → found ≡ drop (length start) name → 1 ≤ length found → get_or found 0 0 ≡ 62
    → tags false text ≡ record { is_end = true; name = lowered start } ∷ tags false (drop 1 found)
closes start text name found is some less slash behind same more any greater =
    let parts : name ≡ start ++ 62 ∷ drop 1 found =
    sym (take-append-drop (length start) name)
    ∙ (ap (λ (front : List ℕ). front ++ drop (length start) name) (same_text (take (length start) name) start (sym same))
    ∙ ap (λ (back : List ℕ). start ++ back) (sym more ∙ front_of found 62 any greater)) in
    ap (tags false) (front_two text 60 47 some less slash ∙ ap (λ (ts : List ℕ). 60 ∷ 47 ∷ ts) (sym behind ∙ parts)) ∙ end_tag start (drop 1 found) is

-- a tag by what is found behind its name
pub found_first : (cs : List ℕ) (o : Opening) (r : Option FoundTag) → tag_after cs ≡ Some (opening o) → has_end cs ≡ has_end o.behind.now → tags true cs ≡ tags true o.behind.now
    → MatchOption r (has_end o.behind.now ≡ false) (λ f. has_end o.behind.now ≡ true) → IfSome r (λ f. found_tag f ≡ opening o) → IfSome r (λ f. tags true o.behind.now ≡ tags false f.rest.now)
    → MatchOption r (tags false (60 ∷ cs) ≡ []) (λ f. tags false (60 ∷ cs) ≡ found_tag f ∷ tags false f.rest.now)
found_first cs o None is end behind ends tag rest = unclosed cs (end ∙ ends)
found_first cs o (Some f) is end behind ends tag rest =
    opened cs f.rest.now (opening o) is (end ∙ ends) (behind ∙ rest) ∙ ap (λ (t : SeenTag). t ∷ tags false f.rest.now) (sym tag)
