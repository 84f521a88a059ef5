-- What is told of a device's bytes, from one call to the next.
use Rattle.std.proofs.Common.{◌≡◌, ℕ, ◌+◌, List, ◌++◌, length, take, drop, Option, None, Some, IfSome, sym, ◌∙◌, ap, subst, refl, append_assoc, ◌<◌, ◌≤◌, length-append, ◌-◌, length-drop, arith}
use Rattle.std.proofs.lemmas.List.{take_all}
use Rattle.std.proofs.Math.Seq.{take-add}
use Rattle.std.specs.Io.KnownBytes.{prepend_known, append_known}
use Rattle.hp_text.specs.Device.{Gives}

append_known-append : (known : Option (List ℕ)) (xs ys : List ℕ) → append_known (append_known known xs) ys ≡ append_known known (xs ++ ys)
append_known-append None xs ys = refl
append_known-append (Some bs) xs ys = ap Some (append_assoc bs xs ys)

prepend_known-append : (xs ys : List ℕ) (known : Option (List ℕ)) → prepend_known xs (prepend_known ys known) ≡ prepend_known (xs ++ ys) known
prepend_known-append xs ys None = refl
prepend_known-append xs ys (Some bs) = ap Some (sym (append_assoc xs ys bs))

-- the bytes from place i to the end
from_place : (bytes : List ℕ) (i : ℕ) → take (length bytes - i) (drop i bytes) ≡ drop i bytes
from_place bytes i = take_all (length bytes - i) (drop i bytes) (omega (arith, length-drop i bytes))

-- a sink took the first i bytes, and then n more
pub took_more : (start before after : Option (List ℕ)) (bytes : List ℕ) (i n : ℕ) → before ≡ append_known start (take i bytes) → after ≡ append_known before (take n (take (length bytes - i) (drop i bytes))) → after ≡ append_known start (take (i + n) bytes)
took_more start before after bytes i n first next =
    next ∙ ap (λ piece. append_known before (take n piece)) (from_place bytes i)
    ∙ ap (λ known. append_known known (take n (drop i bytes))) first
    ∙ append_known-append start (take i bytes) (take n (drop i bytes))
    ∙ ap (append_known start) (sym (take-add i n bytes))

-- a source gave some bytes, and then some more
given_more : (start before after : Option (List ℕ)) (xs ys : List ℕ) → start ≡ prepend_known xs before → before ≡ prepend_known ys after → start ≡ prepend_known (xs ++ ys) after
given_more start before after xs ys first next = first ∙ ap (prepend_known xs) next ∙ prepend_known-append xs ys after

-- the same where only the number of the later bytes is known
gives_after : (amount total : ℕ → Type 0) (start before after : Option (List ℕ)) (xs : List ℕ) → start ≡ prepend_known xs before → ((n : ℕ) → amount n → total (length xs + n)) → Gives amount before after → Gives total start after
gives_after amount total start before after xs first adds (ys, (counted, next)) =
    (xs ++ ys, (subst total (sym (length-append xs ys)) (adds (length ys) counted), given_more start before after xs ys first next))

-- there is one byte too many, where that was given
pub gives_at_least : (limit : ℕ) (start after : Option (List ℕ)) → Gives (λ n. n ≡ limit + 1) start after → IfSome start (λ bytes. limit < length bytes)
gives_at_least limit start None (page, (counted, given)) =
    let P : Option (List ℕ) → Type 0 = λ known. IfSome known (λ bytes. limit < length bytes) in
    subst P (sym given) tt
gives_at_least limit start (Some rest) (page, (counted, given)) =
    let P : Option (List ℕ) → Type 0 = λ known. IfSome known (λ bytes. limit < length bytes) in
    subst P (sym given) (omega (arith, length-append page rest))

-- len bytes were given before, and later so many that there is one too many
pub gives_one_too_many : (limit len : ℕ) (start before after : Option (List ℕ)) (xs : List ℕ) → len ≡ length xs → start ≡ prepend_known xs before → Gives (λ n. len + n ≡ limit + 1) before after → Gives (λ n. n ≡ limit + 1) start after
gives_one_too_many limit len start before after xs counted first later =
    gives_after (λ n. len + n ≡ limit + 1) (λ n. n ≡ limit + 1) start before after xs first (λ n sum. omega arith) later

-- the same where there is none too many
pub gives_none_too_many : (limit len : ℕ) (start before after : Option (List ℕ)) (xs : List ℕ) → len ≡ length xs → start ≡ prepend_known xs before → Gives (λ n. len + n ≤ limit) before after → Gives (λ n. n ≤ limit) start after
gives_none_too_many limit len start before after xs counted first later =
    gives_after (λ n. len + n ≤ limit) (λ n. n ≤ limit) start before after xs first (λ n sum. omega arith) later
