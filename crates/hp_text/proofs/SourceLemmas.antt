-- The bytes that a source in memory gives.
use Rattle.std.proofs.Common.{◌≡◌, ℕ, ◌+◌, ◌≤◌, List, ◌++◌, length, take, drop, sym, ◌∙◌, ap}
use Rattle.std.proofs.lemmas.List.{take_at, take-append-drop, length-take-le, drop-drop}

-- n bytes from a place on were put into the front of the room
pub gave_front : (bytes front rest : List ℕ) (at n : ℕ) → n ≤ length (drop at bytes) → front ≡ take n (drop at bytes) → drop at bytes ≡ take n (front ++ rest) ++ drop (at + n) bytes
gave_front bytes front rest at n within copied =
    let len : length front ≡ n = ap length copied ∙ length-take-le n (drop at bytes) within in
    sym (take-append-drop n (drop at bytes))
    ∙ ap (λ xs. xs ++ drop n (drop at bytes)) (sym copied ∙ sym (take_at front rest n len))
    ∙ ap (λ xs. take n (front ++ rest) ++ xs) (drop-drop n at bytes)
