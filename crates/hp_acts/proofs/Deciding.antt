-- What was found out, and then its opposite; and a test that tells whether two texts are the same, as one that computes.
use Rattle.std.proofs.Common.{◌≡◌, ℕ, List, true, false, IsTrue, map, refl, sym}
use Rattle.std.specs.Char.{to_ascii_lowercase}
use Rattle.std.specs.Prelude.{Bool, not, ◌↔◌, codes}
use Rattle.std.specs.Str.{bytes_eq, chars, IsUtf8}
use Rattle.std.proofs.lemmas.Slice.Eq.{bytes_eq-Decides}
use lib.Utf8.{encode}
use Rattle.hp_elements.specs.Names.{lowered}
use Rattle.hp_elements.proofs.Lowering.{same_lowered}
use Rattle.hp_control.specs.Faithful.{Split}
use Rattle.hp_control.specs.Plan.{Plan, gives, followed_by}
use Rattle.hp_control.specs.Running.{runs_then, runs_gives}
use Rattle.hp_views.specs.View.{Sight, Finds}

pub finds_not : (old new : Sight) (plan : Split → Plan Bool) (b : Bool) → Finds old new plan b → Finds old new (λ v. followed_by (plan v) (λ c. gives (not c))) (not b)
finds_not old new plan b f = record { runs = runs_then (λ c. gives (not c)) f.runs (runs_gives new.heard (not b)); same = f.same }

both : (r b : Bool) → (r ≡ true → b ≡ true) → (b ≡ true → r ≡ true) → r ≡ b
both true b h k = sym (h refl)
both false true h k = k refl
both false false h k = refl

pub told_alike : (r : Bool) (xs ys : List ℕ) → (IsTrue r ↔ (xs ≡ ys)) → r ≡ bytes_eq xs ys
told_alike r xs ys t =
    let d = bytes_eq-Decides xs ys in
    both r (bytes_eq xs ys) (λ h. d.1 (t.0 h)) (λ h. t.1 (d.0 h))

hidden_utf8 : IsUtf8 (codes "hidden")
unfolding encode
hidden_utf8 = (codes "hidden", (refl, refl))

-- a text was compared with that word, without ASCII case
pub told_hidden : (r : Bool) (xs text : List ℕ) → IsUtf8 xs → chars xs ≡ text → (IsTrue r ↔ (map to_ascii_lowercase xs ≡ map to_ascii_lowercase (codes "hidden"))) → r ≡ bytes_eq (lowered text) (codes "hidden")
unfolding chars
told_hidden r xs text u e t = told_alike r (lowered text) (codes "hidden") (same_lowered r xs (codes "hidden") text (codes "hidden") u hidden_utf8 e refl t)
