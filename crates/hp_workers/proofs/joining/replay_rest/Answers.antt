use Rattle.std.proofs.Common.{◌≡◌, ◌+◌, ℕ, ap, subst, OnOk, length, arith}
use Rattle.hp_text.specs.Page.{text_of as page_text}
use Rattle.hp_pieces.specs.Texts.{covered_of}
use Rattle.hp_workers.specs.Joining.{StandsAt}
use Rattle.hp_workers.proofs.Holding.{covers_all}
use Rattle.hp_workers.proofs.joining.replay_rest.Goals as goal

pub returns-clause-at : goal.returns-clause-at
returns-clause-at c =
    let text = page_text c.args.rest.page in
    let covers = covers_all c.in_ok-state.state c.in_ok-exact.exact c.in_ok-exact.ensures.exact in
    let ends : c.args.rest.from + covered_of c.in_ok-exact.exact ≡ c.args.rest.to = omega (arith, covers, ap length c.in_ok-exact.ensures.text, ap length c.text-text.ensures.value, c.text-text.ensures.len) in
    subst (λ (place : ℕ). OnOk c.commit.result (StandsAt text place c.commit.new.front)) ends c.commit.ensures.at
