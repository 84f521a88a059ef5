use Rattle.std.proofs.Common.{◌≡◌, Bool, true, false, Result, ap, subst, sym}
use Rattle.hp_control.specs.Faithful.{Split}
use Rattle.hp_control.specs.Acts.{point_in}
use Rattle.hp_control.specs.Plan.{Plan, followed_by}
use Rattle.hp_control.specs.declared.change.Refusal.{Refusal}
use Rattle.hp_elements.specs.KnownNames as known
use Rattle.hp_elements.specs.Names.{text_of}
use Rattle.hp_elements.specs.declared.act.Scope.TheVariants as scope
use Rattle.hp_elements.specs.declared.kinds.Kinds.TheVariants as kinds
use Rattle.hp_elements.specs.declared.tag.Tag.{Tag}
use Rattle.hp_model.specs.Tokens.{bare}
use Rattle.hp_views.specs.ClosingPlans.{close_paragraph_plan}
use Rattle.hp_views.specs.PlacePlans.{insert_plan}
use Rattle.hp_views.specs.StackPlans.{in_scope_plan}
use Rattle.hp_views.specs.View.{Carries, Finds, Sight, sight}
use Rattle.hp_acts.specs.Usual.{paragraph_end_by, paragraph_end_plan}
use Rattle.hp_acts.proofs.UsualRuns.{carries_as, carries_failed, carries_next, carries_then}
use Rattle.hp_acts.proofs.ends.close_paragraph_any.Goals as goal

-- where it was found out whether a paragraph is in scope
where_found : (result : Result (Unit {0}) Refusal) (old mid new : Sight) (is_open found : Bool) → is_open ≡ found
    → Finds old mid (in_scope_plan scope.Button (kinds.Html (text_of known.P))) is_open → Carries result mid new (λ v. paragraph_end_by v found) → Carries result old new paragraph_end_plan
where_found result old mid new is_open found is f k =
    let P : Bool → Type 0 = λ b. Finds old mid (in_scope_plan scope.Button (kinds.Html (text_of known.P))) b in
    carries_then result old mid new (in_scope_plan scope.Button (kinds.Html (text_of known.P))) paragraph_end_by found (subst P is f) k

-- an empty one is made, and closed
abbrev made : Tag → Split → Plan Split
made tag v = followed_by (insert_plan false tag v) close_paragraph_plan

pub insert-requires : goal.insert-requires
insert-requires g c = record { point = sym (ap (λ (t : Tag). point_in t.namespace t) c.bare.ensures) }

pub returns-then-is_open : goal.returns-then-is_open
returns-then-is_open g c =
    where_found c.close_paragraph.result (sight g.B.Below.heard c.args.view.now) (sight g.B.Below.heard c.has_paragraph.new.self) (sight g.B.Below.heard c.close_paragraph.new.self) c.in_ok-is_open.is_open true c.if-is_open.true c.in_ok-is_open.ensures
    c.close_paragraph.ensures

pub returns-in_err-insert : goal.returns-in_err-insert
returns-in_err-insert g c =
    where_found c.from_residual-in_err-insert.result (sight g.B.Below.heard c.args.view.now) (sight g.B.Below.heard c.has_paragraph.new.self) (sight g.B.Below.heard c.insert.new.self) c.in_ok-is_open.is_open false c.if-is_open.false c.in_ok-is_open.ensures
    (carries_as c.from_residual-in_err-insert.result (sight g.B.Below.heard c.has_paragraph.new.self) (sight g.B.Below.heard c.insert.new.self) (made c.bare.result) (made (bare (text_of known.P))) (ap made c.bare.ensures)
    (carries_failed c.from_residual-in_err-insert.result c.in_err-insert.field-0.0 (sight g.B.Below.heard c.has_paragraph.new.self) (sight g.B.Below.heard c.insert.new.self)
    (insert_plan false c.bare.result) close_paragraph_plan c.from_residual-in_err-insert.ensures.1 c.in_err-insert.ensures))

pub returns : goal.returns
returns g c =
    where_found c.close_paragraph-2.result (sight g.B.Below.heard c.args.view.now) (sight g.B.Below.heard c.has_paragraph.new.self) (sight g.B.Below.heard c.close_paragraph-2.new.self) c.in_ok-is_open.is_open false c.if-is_open.false c.in_ok-is_open.ensures
    (carries_as c.close_paragraph-2.result (sight g.B.Below.heard c.has_paragraph.new.self) (sight g.B.Below.heard c.close_paragraph-2.new.self) (made c.bare.result) (made (bare (text_of known.P))) (ap made c.bare.ensures)
    (carries_next c.close_paragraph-2.result (sight g.B.Below.heard c.has_paragraph.new.self) (sight g.B.Below.heard c.insert.new.self) (sight g.B.Below.heard c.close_paragraph-2.new.self)
    (insert_plan false c.bare.result) close_paragraph_plan c.in_ok-insert.ensures c.close_paragraph-2.ensures))
