-- The front behind a fragment that is exact, and behind a guess that covers something.
use Rattle.std.proofs.Common.{◌≡◌, ◌<◌, ℕ, zero, suc, Bool, false, sym, ap, ap₂, subst, ◌∙◌, arith}
use Rattle.std.proofs.Math.Dec.{eqb-suc-zero}
use Rattle.std.specs.Prelude.{◌==◌, if◌then◌else◌}
use Rattle.hp_control.specs.Apply.{applied}
use Rattle.hp_control.specs.States.{ControlState}
use Rattle.hp_control.specs.Tree.{Tree}
use Rattle.hp_pieces.specs.Fragments.{Known}
use Rattle.hp_pieces.specs.Growth.{grown_tree}
use Rattle.hp_pieces.specs.Guesses.{Guessed as Guess}
use Rattle.hp_pieces.specs.declared.fragment.Fragment.TheVariants.{Exact, Guessed}
use Rattle.hp_merge.specs.Fore.{Fore}
use Rattle.hp_merge.specs.Joined.{joined}

abbrev pub fore : ControlState → Tree → Fore
fore s t = record { control = s; tree = t }

pub exact_joined : (f : Fore) (k : Known) (s exit : ControlState) (t made : Tree) → k.entry ≡ f.control → fore s t ≡ f → exit ≡ k.exit → made ≡ grown_tree k.grove k.outer k.entry t
    → fore exit made ≡ joined f (Exact k)
exact_joined f k s exit t made entry is exit_is made_is =
    ap₂ fore exit_is (made_is ∙ ap₂ (λ (x : ControlState) (y : Tree). grown_tree k.grove k.outer x y) entry (ap (λ (x : Fore). x.tree) is))

some : (n : ℕ) → 0 < n → (n == 0) ≡ false
some zero h = absurd (omega arith)
some (suc n) h = eqb-suc-zero n

pub guess_joined : (f : Fore) (g : Guess) (s new : ControlState) (t made : Tree) → 0 < g.covered → fore s t ≡ f → new ≡ applied g.change s
    → made ≡ grown_tree g.grove g.outer s t → fore new made ≡ joined f (Guessed g)
guess_joined f g s new t made covers is new_is made_is =
    let off = some g.covered covers in
    subst (λ (x : Fore). fore new made ≡ joined x (Guessed g)) is
    (ap₂ fore
    (new_is ∙ sym (ap (λ (b : Bool). if b then s else applied g.change s) off))
    (made_is ∙ sym (ap (λ (b : Bool). if b then t else grown_tree g.grove g.outer s t) off)))
