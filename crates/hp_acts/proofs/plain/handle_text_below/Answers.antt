use Rattle.std.proofs.Common.{◌≡◌, true, subst}
use Rattle.hp_control.specs.Faithful.{Split}
use Rattle.hp_views.specs.View.{sight}
use Rattle.hp_acts.specs.Plain.{may_take_text}
use Rattle.hp_acts.proofs.PlainRuns.{text_put_below, text_refused_below}
use Rattle.hp_acts.proofs.plain.handle_text_below.Goals as goal

pub returns-in-Ok : goal.returns-in-Ok
returns-in-Ok g c = record {
  plan = λ first f.
      text_put_below c.class_of_text-class.result c.args.text first (sight g.B.Below.heard c.args.view.now) (sight g.B.Below.heard c.put_characters.new.view)
      (subst (λ (v : Split). may_take_text v ≡ true) f.same c.requires.may) f c.class_of_text-class.ensures c.in-Ok.ensures;
}

pub returns-in-Err : goal.returns-in-Err
returns-in-Err g c = record {
  plan = λ first f.
      text_refused_below c.in-Err.refused c.class_of_text-class.result c.args.text first (sight g.B.Below.heard c.args.view.now) (sight g.B.Below.heard c.put_characters.new.view)
      (subst (λ (v : Split). may_take_text v ≡ true) f.same c.requires.may) f c.class_of_text-class.ensures c.in-Err.ensures;
}
