use Rattle.std.proofs.Common.{refl}
use Rattle.hp_lex_tags.specs.Straight.{bare, ending}
use Rattle.hp_lex_tags.proofs.StraightMoves.{arrives_join}
use Rattle.hp_lex_tags.proofs.StraightParts.{quoted_end}
use Rattle.hp_lex_tags.proofs.straight.read_behind_run.Goals as goal

pub returns-then-take_byte : goal.returns-then-take_byte
returns-then-take_byte g c = record {
  whole = c.read_references.new.value;
  kept = c.in_ok-keep.ensures;
  arrives = λ tag.
      let names = c.args.names.now in
      let reading = ending tag c.args.attributes.now c.args.name c.read_references.new.value in
      arrives_join c.behind_quoted.new.input reading c.behind_quoted.result (c.in_ok-read_references.ensures (bare tag c.args.attributes.now) c.args.name)
      (quoted_end names g.R.Run.passes c.args.mark c.args.state c.requires.quoted reading c.read_references.new.input c.take_byte.new.self c.behind_quoted.new.input c.behind_quoted.result
      (c.if-take_byte.ensures.taken refl) (c.behind_quoted.ensures names reading));
}

pub returns : goal.returns
returns g c = record { whole = c.read_references.new.value; kept = c.in_ok-keep.ensures; arrives = λ tag. tt }
