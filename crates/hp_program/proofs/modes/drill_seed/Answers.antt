use Rattle.std.proofs.Common.{◌∙◌, List, ℕ, ap, subst, sym}
use Rattle.std.proofs.lemmas.Bool.{true≢false}
use Rattle.std.proofs.lemmas.Str.{IsUtf8-from_ascii}
use Rattle.std.specs.Prelude.{IfOk, IsUtf8}
use Rattle.hp_text.specs.Text.{without_mark}
use Rattle.hp_program.specs.Modes.{IsDrillOf}
use Rattle.hp_program.proofs.Drilled.{unmarked}
use Rattle.hp_program.proofs.modes.drill_seed.Goals as goal

pub unreachable-requires : goal.unreachable-requires
unreachable-requires g c = true≢false (sym (c.in-Err.ensures.utf8.1 (subst IsUtf8 (sym c.as_slice.ensures.value) (IsUtf8-from_ascii _ c.in_ok-bytes.ensures.ascii))))

pub returns : goal.returns
returns g c =
    let same = c.in-Ok.ensures.text ∙ (ap without_mark c.as_slice.ensures.value ∙ (unmarked _ c.in_ok-bytes.ensures.ascii ∙ c.in_ok-bytes.ensures.exact)) in
    subst (λ (page : List ℕ). IfOk c.drill_page.result (λ text. IsDrillOf page c.args.asked.workers c.args.asked.chunk text.items)) same c.drill_page.ensures
