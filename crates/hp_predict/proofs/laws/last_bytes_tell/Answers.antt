use Rattle.std.proofs.Common.{◌≡◌, ◌-◌, ◌+◌, ◌==◌, ℕ, List, [], ◌∷◌, ◌++◌, length, drop, refl, sym, ap, ap₂, ◌∙◌, arith, length-drop, get_or, get_or-drop}
use Rattle.hp_control.specs.Truth.{answer_of}
use Rattle.hp_predict.specs.declared.quiet.GuessKind.TheVariants.{Quiet, Prescan, Contrary}
use Rattle.hp_predict.specs.Guess.{ends_in_cr, last_bytes, names_for, state_for, from_start, with_ends}
use Rattle.hp_predict.specs.OpenNames.{Names, after, unmatched}
use Rattle.hp_predict.specs.Tags.{counted_tags}
use Rattle.hp_elements.specs.Names.{text_of}
use Rattle.hp_elements.specs.KnownNames as known
use Rattle.hp_predict.specs.Kinds.{LastBytesTell}
use Rattle.hp_predict.proofs.laws.last_bytes_tell.Goals as goal

-- the last byte is among the last ones
cr_among_last : (xs : List ℕ) → ends_in_cr (last_bytes xs) ≡ ends_in_cr xs
cr_among_last xs =
    let n = length xs - 4096 in
    let l = length-drop n xs in
    let at : n + (length (drop n xs) - 1) ≡ length xs - 1 = omega (arith, l) in
    ap (λ (byte : ℕ). byte == 13) (get_or-drop n xs (length (drop n xs) - 1) 0 ∙ ap (λ (i : ℕ). get_or xs i 0) at)

same_cr : (xs ys : List ℕ) → last_bytes xs ≡ last_bytes ys → ends_in_cr xs ≡ ends_in_cr ys
same_cr xs ys e = sym (cr_among_last xs) ∙ (ap ends_in_cr e ∙ cr_among_last ys)

-- the names, by the last bytes before
names_by : List ℕ → List ℕ → Names
names_by last text = with_ends (after (counted_tags (from_start last)) []) (unmatched (counted_tags text) []) ++ text_of known.Body ∷ text_of known.Html ∷ []

same_names : (xs ys text : List ℕ) → last_bytes xs ≡ last_bytes ys → names_for xs text ≡ names_for ys text
unfolding names_by
same_names xs ys text e = ap (λ last. names_by last text) e

tells : LastBytesTell
tells Quiet before other text question e = refl
tells Prescan before other text question e =
    ap (λ s. answer_of s question) (ap₂ state_for (same_cr before other e) (same_names before other text e))
tells Contrary before other text question e = refl

pub returns : goal.returns
returns c = tells
