use Rattle.std.proofs.Common.{ℕ, ◌∙◌, ap, subst, Option, false}
use Rattle.std.specs.Prelude.{IfSome}
use Rattle.hp_tokens.specs.declared.machine.Machine.{Machine}
use Rattle.hp_tokens.specs.Reading.{first}
use Rattle.hp_tokens.specs.Advancing.{Takes, unread}
use Rattle.hp_tokens.proofs.Stepping.{pair_dropped, pair_next_at}
use Rattle.hp_tokens.proofs.lexing.LexState.drop_line_feed.Goals as goal

pub returns-clause-dropped : goal.returns-clause-dropped
returns-clause-dropped c = λ next has row tokens rows rested settled.
    let there = pair_next_at c.args.self.now.machine.after_cr (first (unread c.args.self.now c.args.input.now)) c.requires.pair in
    let P : Option ℕ → Type 0 = λ o. IfSome o (Takes c.args.self.now c.args.input.now c.take.new.self c.take.new.input) in
    let takes = subst P (c.take.ensures.value ∙ there.1) c.take.ensures.takes in
    pair_dropped next rows c.args.self.now c.args.input.now
    (record c.take.new.self { machine = record c.take.new.self.machine { after_cr = false } }) c.take.new.input
    there.0 rested tokens there.2 settled
    (ap (λ (x : Machine). record x { after_cr = false }) takes.machine) takes.text takes.place
