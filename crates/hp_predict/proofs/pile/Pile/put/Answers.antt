use Rattle.std.proofs.Common.{ℕ, ◌+◌, ap}
use Rattle.hp_predict.proofs.StateLemmas.{one_put}
use Rattle.hp_predict.proofs.pile.Pile.put.Goals as goal

pub returns-clause-of : goal.returns-clause-of
returns-clause-of c = λ base of.
    one_put c.push.result base c.args.self.now (record { stack = c.push.new.self; formatting = c.put_entry.new.formatting; templates = c.put_mode.new.templates; form = c.first_form-self.result }) (c.len.result + 1) c.args.name.now _ of (ap (λ (n : ℕ). n + 1) c.len.ensures)
    c.in_ok-to_name.ensures c.push.ensures.ok
    c.in_ok-put_entry.ensures c.in_ok-put_mode.ensures c.first_form-self.ensures
