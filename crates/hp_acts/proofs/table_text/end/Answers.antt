use Rattle.std.proofs.Common.{◌-◌, ◌+◌, ◌*◌, ◌^◌, ◌∙◌, Ok, Err, ap, arith, refl, subst}
use Rattle.hp_elements.specs.declared.token.Token.{Token}
use Rattle.hp_adoption.specs.FlushPlans.{flush_plan}
use Rattle.hp_views.specs.FieldPlans.{original_plan}
use Rattle.hp_views.specs.View.{sight}
use Rattle.hp_acts.specs.Handling.{Handles}
use Rattle.hp_acts.specs.TableText.{turns_from}
use Rattle.hp_acts.proofs.TableRuns.{end_done, end_failed}
use Rattle.hp_acts.proofs.UsualRuns.{carries_failed, carries_next}
use Rattle.hp_acts.proofs.table_text.end.Goals as goal

pub returns-in_err-flush : goal.returns-in_err-flush
returns-in_err-flush g c =
    end_failed c.from_residual.result c.in_err-flush.field-0.0 (sight g.B.Below.heard c.args.view.now) (sight g.B.Below.heard c.flush.new.view) c.args.token.now c.requires c.from_residual.ensures.1
    (carries_failed (Err c.in_err-flush.field-0.0) c.in_err-flush.field-0.0 (sight g.B.Below.heard c.args.view.now) (sight g.B.Below.heard c.flush.new.view) flush_plan original_plan refl c.in_err-flush.ensures)

pub returns-in_err-to_original : goal.returns-in_err-to_original
returns-in_err-to_original g c =
    end_failed c.from_residual-in_err-to_original.result c.in_err-to_original.field-0.0 (sight g.B.Below.heard c.args.view.now) (sight g.B.Below.heard c.to_original.new.self) c.args.token.now c.requires c.from_residual-in_err-to_original.ensures.1
    (carries_next (Err c.in_err-to_original.field-0.0) (sight g.B.Below.heard c.args.view.now) (sight g.B.Below.heard c.flush.new.view) (sight g.B.Below.heard c.to_original.new.self) flush_plan original_plan c.in_ok-flush.ensures c.in_err-to_original.ensures)

pub returns-in-Some : goal.returns-in-Some
returns-in-Some g c =
    end_done c.handle_usual.result (sight g.B.Below.heard c.args.view.now) (sight g.B.Below.heard c.to_original.new.self) (sight g.B.Below.heard c.handle_usual.new.view) c.args.token.now (c.most_turns-most.result - 1) c.requires
    (ap (λ n. n - 1) (c.most_turns-most.ensures ∙ ap (λ n. 32 + 16 * (2 ^ 60 + n)) c.len.ensures))
    (carries_next (Ok tt) (sight g.B.Below.heard c.args.view.now) (sight g.B.Below.heard c.flush.new.view) (sight g.B.Below.heard c.to_original.new.self) flush_plan original_plan c.in_ok-flush.ensures c.in_ok-to_original.ensures)
    (c.handle_usual.ensures (c.most_turns-most.result - 1) (omega arith))

pub returns-in-None : goal.returns-in-None
returns-in-None g c =
    let P : Token → Type 0 = λ t. Handles c.take_turns.result (sight g.B.Below.heard c.to_original.new.self) (sight g.B.Below.heard c.take_turns.new.view) (turns_from (c.most_turns-most.result - 1) t) in
    end_done c.take_turns.result (sight g.B.Below.heard c.args.view.now) (sight g.B.Below.heard c.to_original.new.self) (sight g.B.Below.heard c.take_turns.new.view) c.args.token.now (c.most_turns-most.result - 1) c.requires
    (ap (λ n. n - 1) (c.most_turns-most.ensures ∙ ap (λ n. 32 + 16 * (2 ^ 60 + n)) c.len.ensures))
    (carries_next (Ok tt) (sight g.B.Below.heard c.args.view.now) (sight g.B.Below.heard c.flush.new.view) (sight g.B.Below.heard c.to_original.new.self) flush_plan original_plan c.in_ok-flush.ensures c.in_ok-to_original.ensures)
    (subst P c.taken.ensures c.take_turns.ensures)
