-- End tags that are looked for in names, and the part of a text that is read.
use Rattle.std.proofs.Common.{◌≡◌, ℕ, zero, suc, ◌+◌, ◌<◌, ◌≤◌, Bool, true, false, List, [], ◌∷◌, ◌++◌, length, take, drop, get_or, refl, sym, ap, ◌∙◌, arith, add-one, drop-cons}
use Rattle.std.specs.Prelude.{◌==◌, if◌then◌else◌}
use Rattle.std.specs.List.{filter}
use Rattle.std.specs.Str.{bytes_eq}
use Rattle.std.proofs.lemmas.Grind.{common_steps}
use Rattle.std.proofs.lemmas.List.{take_all}
use Rattle.hp_predict.specs.Tags.{SeenTag, tags, counts, counted_tags}
use Rattle.hp_predict.specs.OpenNames.{Names}
use Rattle.hp_predict.specs.Guess.{continues, from_start, with_ends}
use Rattle.hp_predict.proofs.TagLemmas.{no_less}

-- no more names
pub ends_behind : (ends : Names) → with_ends [] ends ≡ ends
unfolding with_ends
ends_behind ends = refl

-- no more ends
pub no_more_ends : (names : Names) → with_ends names [] ≡ names
unfolding with_ends
no_more_ends [] = refl
no_more_ends (n ∷ ns) = refl

pub next_name : (n : List ℕ) (ns : Names) (e : List ℕ) (es : Names) → with_ends (n ∷ ns) (e ∷ es) ≡ n ∷ with_ends ns (if bytes_eq n e then es else e ∷ es)
unfolding with_ends
next_name n ns e es = refl

no_less_beyond : (byte : ℕ) → continues byte ≡ true → (byte == 60) ≡ false
no_less_beyond byte h = grind (arith, common_steps)

-- no tag begins in the rest of a code point
pub start_tags : (text : List ℕ) → tags false (from_start text) ≡ tags false text
start_tags [] = refl
start_tags (byte ∷ bytes) = go (continues byte) refl (start_tags bytes)
  where
    go : (b : Bool) → continues byte ≡ b → tags false (from_start bytes) ≡ tags false bytes → tags false (if b then from_start bytes else byte ∷ bytes) ≡ tags false (byte ∷ bytes)
    go true e h = h ∙ sym (no_less byte bytes (no_less_beyond byte e))
    go false e h = refl

pub start_counted : (text : List ℕ) → counted_tags (from_start text) ≡ counted_tags text
start_counted text = ap (filter (λ (t : SeenTag). counts t.name)) (start_tags text)

first_left : (ends : Names) (found : ℕ) (e : List ℕ) → found < length ends → e ≡ get_or ends found e → drop found ends ≡ e ∷ drop (found + 1) ends
first_left ends found e h is = rw add-one (drop-cons ends found e h ∙ ap (λ (x : List ℕ). x ∷ drop (suc found) ends) (sym is))

-- a name that is the end tag that is looked for
pub step_same : (n e : List ℕ) (rest ends : Names) (found : ℕ) → found < length ends → e ≡ get_or ends found e → bytes_eq n e ≡ true → with_ends (n ∷ rest) (drop found ends) ≡ n ∷ with_ends rest (drop (found + 1) ends)
step_same n e rest ends found h is same =
    ap (with_ends (n ∷ rest)) (first_left ends found e h is)
    ∙ (next_name n rest e (drop (found + 1) ends) ∙ ap (λ (b : Bool). n ∷ with_ends rest (if b then drop (found + 1) ends else e ∷ drop (found + 1) ends)) same)

-- a name that isn't
pub step_other : (n e : List ℕ) (rest ends : Names) (found : ℕ) → found < length ends → e ≡ get_or ends found e → bytes_eq n e ≡ false → with_ends (n ∷ rest) (drop found ends) ≡ n ∷ with_ends rest (drop found ends)
step_other n e rest ends found h is other =
    ap (with_ends (n ∷ rest)) (first_left ends found e h is)
    ∙ (next_name n rest e (drop (found + 1) ends)
    ∙ (ap (λ (b : Bool). n ∷ with_ends rest (if b then drop (found + 1) ends else e ∷ drop (found + 1) ends)) other
    ∙ ap (λ (es : Names). n ∷ with_ends rest es) (sym (first_left ends found e h is))))

none_left : (ends : Names) (found : ℕ) → length ends ≤ found → drop found ends ≡ []
none_left [] zero h = refl
none_left [] (suc found) h = refl
none_left (e ∷ es) zero h = absurd (omega arith)
none_left (e ∷ es) (suc found) h = none_left es found (omega arith)

-- all were found
pub step_done : (n : List ℕ) (rest ends : Names) (found : ℕ) → length ends ≤ found → with_ends (n ∷ rest) (drop found ends) ≡ n ∷ with_ends rest (drop found ends)
step_done n rest ends found h =
    ap (with_ends (n ∷ rest)) (none_left ends found h)
    ∙ (no_more_ends (n ∷ rest) ∙ ap (λ (ns : Names). n ∷ ns) (sym (ap (with_ends rest) (none_left ends found h) ∙ no_more_ends rest)))

pub taken : (xs : Names) (d : ℕ) (x : List ℕ) (ys : Names) → d < length xs → x ≡ get_or xs d x → take d xs ++ x ∷ ys ≡ take (suc d) xs ++ ys
taken [] d x ys h is = absurd (omega arith)
taken (z ∷ zs) zero x ys h is = ap (λ (n : List ℕ). n ∷ ys) is
taken (z ∷ zs) (suc d) x ys h is = ap (λ (ns : Names). z ∷ ns) (taken zs d x ys (omega arith) is)

-- one more name was looked at
pub looked : (names ends : Names) (depth found more : ℕ) (x : List ℕ) → depth < length names → x ≡ get_or names depth x → with_ends names ends ≡ take depth names ++ with_ends (drop depth names) (drop found ends) → ((rest : Names) → with_ends (x ∷ rest) (drop found ends) ≡ x ∷ with_ends rest (drop more ends)) → with_ends names ends ≡ take (depth + 1) names ++ with_ends (drop (depth + 1) names) (drop more ends)
looked names ends depth found more x h is so step =
    so
    ∙ (ap (λ (ns : Names). take depth names ++ with_ends ns (drop found ends)) (first_left names depth x h is)
    ∙ (ap (λ (ns : Names). take depth names ++ ns) (step (drop (depth + 1) names))
    ∙ rw add-one (taken names depth x (with_ends (drop (suc depth) names) (drop more ends)) h is)))

-- all names were looked at
pub looked_through : (names ends : Names) (depth found : ℕ) → length names ≤ depth → with_ends names ends ≡ take depth names ++ with_ends (drop depth names) (drop found ends) → with_ends names ends ≡ names ++ drop found ends
looked_through names ends depth found h so =
    so
    ∙ (ap (λ (ns : Names). ns ++ with_ends (drop depth names) (drop found ends)) (take_all depth names h)
    ∙ ap (λ (ns : Names). names ++ ns) (ap (λ (ms : Names). with_ends ms (drop found ends)) (none_left names depth h) ∙ ends_behind (drop found ends)))
