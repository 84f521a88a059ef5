use Rattle.std.proofs.Common.{◌≡◌, ℕ, Bool, List, IsUtf8, true, nat_eq, drop, ap, sym, ◌∙◌, subst}
use Rattle.std.specs.Prelude.{if◌then◌else◌}
use Rattle.std.specs.Str.{IsCharBoundary, IsValidUpTo}
use Rattle.std.specs.List.{starts_with}
use Rattle.hp_text.specs.Text.{byte_order_mark}
use Rattle.hp_text.proofs.MarkLemmas.{boundary_after_mark}
use Rattle.hp_text.proofs.pages.check_page.Goals as goal

pub range_from-requires : goal.range_from-requires
range_from-requires c = λ _.
    let utf8 : IsUtf8 c.args.bytes.now = c.in-Ok.ensures.cases.1 in
    let starts : starts_with nat_eq c.args.bytes.now byte_order_mark ≡ true = sym c.if-starts_with.ensures.value in
    let P : List ℕ → Type 0 = λ bs. IsCharBoundary bs 3 in
    subst P (sym c.in-Ok.ensures.cases.0) (boundary_after_mark c.args.bytes.now utf8 starts)

pub returns-in-Err-clause-at : goal.returns-in-Err-clause-at
returns-in-Err-clause-at c = subst (λ (n : ℕ). IsValidUpTo c.args.bytes.now n) (sym c.valid_up_to.ensures) c.in-Err.ensures.cases.1

pub returns-in-Ok-clause-text : goal.returns-in-Ok-clause-text
returns-in-Ok-clause-text c =
    c.range_from.ensures.value
    ∙ (ap (λ (xs : List ℕ). drop 3 xs) c.in-Ok.ensures.cases.0
    ∙ ap (λ (b : Bool). if b then drop 3 c.args.bytes.now else c.args.bytes.now) c.if-starts_with.ensures.value)
