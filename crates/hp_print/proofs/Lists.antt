-- Lists that are printed item by item.
use Rattle.std.proofs.Common.{◌≡◌, ℕ, List, [], ◌∷◌, ◌++◌, ap, sym, ◌∙◌, append_assoc}
use Rattle.std.specs.Prelude.{encode_utf8_all}
use Rattle.std.specs.List.{concat}
use Rattle.std.proofs.lemmas.Str.{encodes-append}

-- one run more
pub runs_next : (done run : List ℕ) (rest : List (List ℕ)) → (done ++ encode_utf8_all run) ++ encode_utf8_all (concat rest) ≡ done ++ encode_utf8_all (concat (run ∷ rest))
runs_next done run rest =
    append_assoc done (encode_utf8_all run) (encode_utf8_all (concat rest)) ∙ ap (λ xs. done ++ xs) (sym (encodes-append run (concat rest)))

-- a line that is put together from the front
pub line_joined : (front text : List ℕ) (left right end : ℕ) → ((front ++ left ∷ []) ++ text) ++ right ∷ end ∷ [] ≡ front ++ left ∷ (text ++ right ∷ end ∷ [])
line_joined front text left right end = append_assoc (front ++ left ∷ []) text (right ∷ end ∷ []) ∙ append_assoc front (left ∷ []) (text ++ right ∷ end ∷ [])
