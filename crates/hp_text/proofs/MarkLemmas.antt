-- Where a text that begins with a byte order mark may be cut.
use Rattle.std.proofs.Common.{◌≡◌, ℕ, List, ◌++◌, true, IsUtf8, nat_eq, drop, refl}
use Rattle.std.specs.List.{starts_with}
use Rattle.std.specs.Str.{IsCharBoundary}
use Rattle.std.proofs.lemmas.Slice.Eq.{starts_is}
use Rattle.std.proofs.lemmas.Bool.Decides.{Decides-eqb}
use Rattle.std.proofs.lemmas.Str.{IsUtf8-past_char, IsCharBoundary-at_seam}
use Rattle.std.proofs.Math.Utf8.{encode}
use Rattle.hp_text.specs.Text.{byte_order_mark}

-- a code point begins after the mark
pub boundary_after_mark : (bs : List ℕ) → IsUtf8 bs → starts_with nat_eq bs byte_order_mark ≡ true → IsCharBoundary bs 3
unfolding encode
boundary_after_mark bs utf8 starts =
    let split : bs ≡ byte_order_mark ++ drop 3 bs = (starts_is Decides-eqb bs byte_order_mark (starts_with nat_eq bs byte_order_mark) refl).0 starts in
    let rest : IsUtf8 (drop 3 bs) = IsUtf8-past_char bs (drop 3 bs) 0xFEFF utf8 split in
    IsCharBoundary-at_seam bs byte_order_mark (drop 3 bs) split rest
