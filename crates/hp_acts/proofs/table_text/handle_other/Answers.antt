use Rattle.std.proofs.Common.{subst, sym}
use Rattle.hp_elements.specs.declared.token.Token.{Token}
use Rattle.hp_views.specs.View.{sight, split_of}
use Rattle.hp_acts.specs.HandlePlans.{all_turns_plan}
use Rattle.hp_acts.specs.Handling.{Handles}
use Rattle.hp_acts.specs.Plain.{IsPlain}
use Rattle.hp_acts.proofs.table_text.handle_other.Goals as goal

pub end-requires : goal.end-requires
end-requires g c = c.ends.ensures c.if-ends.true

pub returns-then-ends : goal.returns-then-ends
returns-then-ends g c = c.end.ensures

pub begin-requires : goal.begin-requires
begin-requires g c = c.begins.ensures c.if-begins.true

pub returns-then-begins : goal.returns-then-begins
returns-then-begins g c = c.begin.ensures

pub go_on-requires : goal.go_on-requires
go_on-requires g c = c.continues.ensures c.if-continues.true

pub returns-then-continues : goal.returns-then-continues
returns-then-continues g c = c.go_on.ensures

pub put_plain-requires : goal.put_plain-requires
put_plain-requires g c = subst (IsPlain (split_of c.args.view.now)) (sym c.taken.ensures) (c.is_plain.ensures c.if-is_plain.true)

pub returns-then-is_plain : goal.returns-then-is_plain
returns-then-is_plain g c =
    let P : Token → Type 0 = λ t. Handles c.put_plain.result (sight g.B.Below.heard c.args.view.now) (sight g.B.Below.heard c.put_plain.new.view) (all_turns_plan t) in
    subst P c.taken.ensures c.put_plain.ensures

pub returns-else-is_plain : goal.returns-else-is_plain
returns-else-is_plain g c =
    let P : Token → Type 0 = λ t. Handles c.take_all_turns.result (sight g.B.Below.heard c.args.view.now) (sight g.B.Below.heard c.take_all_turns.new.view) (all_turns_plan t) in
    subst P c.taken-else-is_plain.ensures c.take_all_turns.ensures
