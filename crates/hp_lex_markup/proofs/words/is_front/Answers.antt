use Rattle.std.proofs.Common.{◌≡◌, false, refl, sym, ap, ◌∙◌}
use Rattle.hp_lex_markup.specs.declared.words.Progress.{Progress}
use Rattle.hp_lex_markup.specs.declared.words.Progress.TheVariants.{Front}
use Rattle.hp_lex_markup.specs.Words.{is_front_progress}
use Rattle.hp_lex_markup.proofs.Spelled.{front_told}
use Rattle.hp_lex_markup.proofs.words.is_front.Goals as goal

not_front : (p : Progress) → (p ≡ Front → ⊥) → false ≡ is_front_progress p
not_front Front other = absurd (other refl)
not_front _ other = refl

pub returns-in-Front : goal.returns-in-Front
returns-in-Front c =
    ap (λ (p : Progress). is_front_progress p) (sym c.in-Front.is ∙ c.compared.ensures)
    ∙ front_told c.args.fold c.args.text.now c.args.word.now

pub returns-in_default : goal.returns-in_default
returns-in_default c =
    not_front c.compared.result c.in_default.not-Front
    ∙ (ap (λ (p : Progress). is_front_progress p) c.compared.ensures
    ∙ front_told c.args.fold c.args.text.now c.args.word.now)
