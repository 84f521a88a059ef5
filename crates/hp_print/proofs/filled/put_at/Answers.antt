use Rattle.std.proofs.Common.{◌≤◌, ◌+◌, ◌-◌, List, ℕ, length, take, ap, refl, ◌∙◌, arith}
use Rattle.std.proofs.lemmas.Slice.{take-put_mid}
use borrow.Rule.Slice.PartMut.{put_mid}
use Rattle.hp_print.proofs.filled.put_at.Goals as goal

pub returns-clause-bytes : goal.returns-clause-bytes
returns-clause-bytes c =
    let into = c.args.into.now in
    let at = c.args.at in
    let piece = c.args.piece.now in
    let end = at + length piece in
    let within : at ≤ length into = omega (arith, c.requires) in
    ap (λ (ys : List ℕ). take end (put_mid at (end - at) into ys)) c.copy_from_slice.ensures.after ∙ take-put_mid at (end - at) into piece end refl within
