use Rattle.std.proofs.Common.{◌∙◌, Bool, true, Ok, Err, refl, subst, sym}
use Rattle.hp_control.specs.declared.question.Crossing.TheVariants.{X7}
use Rattle.hp_control.specs.Faithful.{Split}
use Rattle.hp_control.specs.Plan.{Heard, Runs}
use Rattle.hp_control.specs.Running.{runs_gives}
use Rattle.hp_views.specs.FieldPlans.{with_change, with_pending}
use Rattle.hp_views.specs.View.{Sight, sight, split_of}
use Rattle.hp_adoption.specs.FlushPlans.{flush_on}
use Rattle.hp_adoption.proofs.Flushing.{flushed, none_flushed, others_flushed, white_flushed}
use Rattle.hp_adoption.proofs.pending.flush.Goals as goal

pub returns-then-view : goal.returns-then-view
returns-then-view g c =
    let now : Heard = g.B.Below.heard c.args.view.now.below in
    let v : Split = split_of c.args.view.now in
    let P : Bool → Type 0 = λ b. Runs now now (flush_on v b) (Err X7) in
    let crossed : Runs now now (flush_on v true) (Err X7) = record { ends = refl; noted = (runs_gives now v).noted } in
    subst P (sym c.if-view.true) crossed

pub returns-then-is_empty : goal.returns-then-is_empty
returns-then-is_empty g c =
    let v : Split = split_of c.args.view.now in
    let mid : Sight = record { heard = g.B.Below.heard c.args.view.now.below; split = with_change (with_pending c.replace-text.new.dest v.change) v } in
    flushed (Ok _) mid.heard v mid c.replace-text.result c.replace-text.new.dest c.if-view.false c.replace-text.ensures.value (c.replace-text.ensures.after ∙ c.new.ensures)
    (none_flushed mid.heard mid.split c.replace-text.result (sym c.is_empty.ensures ∙ c.if-is_empty.true))

pub returns-then-are_white : goal.returns-then-are_white
returns-then-are_white g c =
    let v : Split = split_of c.args.view.now in
    let mid : Sight = record { heard = g.B.Below.heard c.args.view.now.below; split = with_change (with_pending c.replace-text.new.dest v.change) v } in
    let new : Sight = sight g.B.Below.heard c.put.new.self in
    flushed c.put.result mid.heard v new c.replace-text.result c.replace-text.new.dest c.if-view.false c.replace-text.ensures.value (c.replace-text.ensures.after ∙ c.new.ensures)
    (white_flushed c.put.result mid new c.replace-text.result (sym c.is_empty.ensures ∙ c.if-is_empty.false) (sym c.are_white.ensures ∙ c.if-are_white.true) c.put.ensures)

pub returns-else-are_white : goal.returns-else-are_white
returns-else-are_white g c =
    let v : Split = split_of c.args.view.now in
    let mid : Sight = record { heard = g.B.Below.heard c.args.view.now.below; split = with_change (with_pending c.replace-text.new.dest v.change) v } in
    let new : Sight = sight g.B.Below.heard c.foster.new.view in
    flushed c.foster.result mid.heard v new c.replace-text.result c.replace-text.new.dest c.if-view.false c.replace-text.ensures.value (c.replace-text.ensures.after ∙ c.new.ensures)
    (others_flushed c.foster.result mid new c.replace-text.result (sym c.is_empty.ensures ∙ c.if-is_empty.false) (sym c.are_white.ensures ∙ c.if-are_white.false) c.foster.ensures)
