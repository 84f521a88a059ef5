use Rattle.hp_views.specs.View.{sight}
use Rattle.hp_acts.proofs.PlainRuns.{text_put, text_refused}
use Rattle.hp_acts.proofs.plain.handle_text.Goals as goal

pub returns-in-Ok : goal.returns-in-Ok
returns-in-Ok g c = record { plan = text_put c.class_of_text-class.result c.args.text (sight g.B.Below.heard c.args.view.now) (sight g.B.Below.heard c.put_characters.new.view) c.requires.takes c.class_of_text-class.ensures c.in-Ok.ensures }

pub returns-in-Err : goal.returns-in-Err
returns-in-Err g c = record { plan = text_refused c.in-Err.refused c.class_of_text-class.result c.args.text (sight g.B.Below.heard c.args.view.now) (sight g.B.Below.heard c.put_characters.new.view) c.requires.takes c.class_of_text-class.ensures c.in-Err.ensures }
