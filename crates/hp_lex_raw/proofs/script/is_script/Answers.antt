use Rattle.std.proofs.Common.{◌≡◌, ap, ◌∙◌, Bool, List, ℕ, refl}
use Rattle.std.specs.Prelude.{codes}
use Rattle.std.specs.Str.{bytes_eq, chars}
use Rattle.hp_lex_raw.proofs.script.is_script.Goals as goal

script_chars : chars (codes "script") ≡ codes "script"
unfolding chars
script_chars = refl

spelled : (r : Bool) (text given : List ℕ) → r ≡ bytes_eq text (chars given) → given ≡ codes "script" → r ≡ bytes_eq text (codes "script")
spelled r text given e same = e ∙ ap (λ (xs : List ℕ). bytes_eq text xs) (ap (λ (xs : List ℕ). chars xs) same ∙ script_chars)

pub returns : goal.returns
returns c = spelled c.spells.result c.args.text.now _ c.spells.ensures refl
