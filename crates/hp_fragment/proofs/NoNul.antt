-- Runs of white space.
use Rattle.std.proofs.Common.{◌≡◌, ℕ, List, [], ◌∷◌, true, refl}
use Rattle.std.specs.List.{list_all}
use Rattle.std.proofs.lemmas.Bool.{and_parts, and_from}
use Rattle.hp_tokens.specs.Plain.{none_of}
use Rattle.hp_tokens.specs.PlainLaws.{blank-apart}
use Rattle.hp_tokens.specs.Rows.{is_blank}

-- none of it is U+0000
blank-none : (c : ℕ) → is_blank c ≡ true → none_of (0 ∷ []) c ≡ true
blank-none c h = let a = blank-apart (0 ∷ []) refl c h in rw a.0 refl

pub blanks-none : (text : List ℕ) → list_all is_blank text ≡ true → list_all (none_of (0 ∷ [])) text ≡ true
blanks-none [] h = refl
blanks-none (c ∷ cs) h =
    let parts = and_parts (is_blank c) (list_all is_blank cs) h in
    and_from (none_of (0 ∷ []) c) (list_all (none_of (0 ∷ [])) cs) (blank-none c parts.0) (blanks-none cs parts.1)
