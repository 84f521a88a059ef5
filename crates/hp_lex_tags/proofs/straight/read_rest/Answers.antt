use Rattle.std.proofs.Common.{[], refl}
use Rattle.hp_tokens.specs.declared.state.State.TheVariants.{TagName}
use Rattle.hp_tokens.specs.declared.building.Building.TheVariants.{StartTag}
use Rattle.hp_lex_tags.specs.Straight.{bare, tag_of}
use Rattle.hp_lex_tags.specs.declared.straight.Way.TheVariants as way
use Rattle.hp_lex_tags.proofs.StraightMoves.{arrives_join, arrives_as}
use Rattle.hp_tokens.proofs.Told.{IfOk_then}
use Rattle.hp_lex_tags.proofs.straight.read_rest.Goals as goal

pub read_attributes-requires : goal.read_attributes-requires
read_attributes-requires c =
    let front = bare [] c.args.attributes.now in
    (arrives_as c.args.names.now TagName (StartTag (tag_of front)) c.args.input.now c.behind-way.new.input front c.behind-way.result (way.At c.in-At.state) c.in-At.is (c.behind-way.ensures c.args.names.now front)).1

pub returns-in-At : goal.returns-in-At
returns-in-At c = IfOk_then c.read_attributes.result c.read_attributes.ensures (λ end grown front e.
    let then = grown front e in
    record {
      to = then.to;
      named = then.named;
      gathers = then.gathers;
      arrives = arrives_join c.read_attributes.new.input then.to end
          (arrives_as c.args.names.now TagName (StartTag (tag_of front)) c.args.input.now c.behind-way.new.input front c.behind-way.result (way.At c.in-At.state) c.in-At.is (c.behind-way.ensures c.args.names.now front)).0
          then.arrives;
    })

pub returns-in_default : goal.returns-in_default
returns-in_default c = λ front e. record { to = front; named = refl; gathers = e; arrives = c.behind-way.ensures c.args.names.now front }
