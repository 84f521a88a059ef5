use Rattle.std.proofs.Common.{ℕ, List, subst, sym, ◌∙◌}
use Rattle.std.specs.Prelude.{IfOk, Ok}
use Rattle.hp_elements.proofs.NameLemmas.{found_text}
use Rattle.hp_control.specs.Plan.{Runs, asks, gives}
use Rattle.hp_control.specs.declared.question.Question.TheVariants as ask
use Rattle.hp_views.proofs.asking.listed_answer.Goals as goal

pub returns-in-Some : goal.returns-in-Some
returns-in-Some g c =
    let depth = c.args.depth in
    let cuts = c.args.cuts in
    let P : List ℕ → Type 0 = λ name. IfOk c.ask_recurring.result (λ answer. Runs (g.B.Below.heard c.args.below.now) (g.B.Below.heard c.ask_recurring.new.self) (asks (ask.Listed depth cuts name) gives) (Ok answer)) in
    subst P (found_text c.args.name c.in-Some.name (sym c.known.ensures ∙ c.in-Some.is)) c.ask_recurring.ensures.asked
