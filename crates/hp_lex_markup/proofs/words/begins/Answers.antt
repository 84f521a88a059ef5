use Rattle.std.proofs.Common.{◌≡◌, ℕ, List, Bool, false, refl, sym, ap, ◌∙◌}
use Rattle.hp_lex_markup.specs.declared.words.Progress.{Progress}
use Rattle.hp_lex_markup.specs.declared.words.Progress.TheVariants.{Whole}
use Rattle.hp_lex_markup.specs.Words.{progress, is_whole_progress, begins_of}
use Rattle.hp_lex_markup.proofs.Spelled.{whole_told}
use Rattle.hp_lex_markup.proofs.words.begins.Goals as goal

told : (fold : Bool) (text word : List ℕ) (p : Progress) (given r : Bool) → p ≡ progress given text word → given ≡ fold → r ≡ is_whole_progress p → r ≡ begins_of fold text word
told fold text word p given r e same h =
    h ∙ (ap (λ (x : Progress). is_whole_progress x) (e ∙ ap (λ (b : Bool). progress b text word) same) ∙ whole_told fold text word)

not_whole : (p : Progress) → (p ≡ Whole → ⊥) → false ≡ is_whole_progress p
not_whole Whole other = absurd (other refl)
not_whole _ other = refl

pub returns-in-Whole : goal.returns-in-Whole
returns-in-Whole c = told c.args.fold c.args.text.now c.args.word.now c.compared.result _ _ c.compared.ensures refl (ap (λ (p : Progress). is_whole_progress p) (sym c.in-Whole.is))

pub returns-in_default : goal.returns-in_default
returns-in_default c = told c.args.fold c.args.text.now c.args.word.now c.compared.result _ _ c.compared.ensures refl (not_whole c.compared.result c.in_default.not-Whole)
