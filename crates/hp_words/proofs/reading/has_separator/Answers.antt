use Rattle.std.proofs.Common.{◌≡◌, ◌∙◌, ap, rules, tests, List, [], ◌∷◌, refl, map, String, Global, string_bytes, codes, Bool, ◌||◌}
use Rattle.std.specs.List.{list_any}
use Rattle.std.specs.Str.{bytes_eq}
use Rattle.std.proofs.lemmas.Iterator.{YieldsList-from_slice}
use Rattle.std.proofs.lemmas.Iterator.Search.{any_from_yields_List}
use Rattle.hp_words.proofs.reading.has_separator.Goals as goal

any_of_map : {A B : Type 0} (f : A → B) (test : B → Bool) (xs : List A) → list_any (λ x. test (f x)) xs ≡ list_any test (map f xs)
any_of_map f test [] = refl
any_of_map f test (x ∷ xs) = ap (λ rest. test (f x) || rest) (any_of_map f test xs)

pub returns : goal.returns
returns c =
    any_from_yields_List (λ (word : String Global). bytes_eq (string_bytes word) (codes "--")) _ _ _ c.any.ensures.ran (YieldsList-from_slice c.args.words.now cc) (λ x b q k. search (rules, tests))
    ∙ any_of_map string_bytes (λ word. bytes_eq word (codes "--")) c.args.words.now
