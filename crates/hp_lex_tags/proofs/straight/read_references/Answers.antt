use Rattle.std.proofs.Common.{ap, arith, length, length-append, subst, sym}
use Rattle.std.specs.Str.{chars}
use Rattle.hp_tokens.specs.Reading.{Unread}
use Rattle.hp_lex_tags.specs.Straight.{naming, Onto}
use Rattle.hp_lex_tags.proofs.StraightMoves.{onto_same, onto_join}
use Rattle.hp_lex_tags.proofs.StraightParts.{refers}
use Rattle.hp_lex_tags.proofs.ValueReferences.{taken_shorter}
use Rattle.hp_lex_tags.proofs.straight.read_references.Goals as goal

pub parts-init : goal.parts-init
parts-init g c = λ reading name. onto_same c.args.state (naming reading name c.args.value.now) c.args.input.now

pub parts-smaller : goal.parts-smaller
parts-smaller g c =
    omega (
      arith,
      taken_shorter c.args.names.now c.parts.input c.in-Some.c c.take_reference.new.input c.in-Some.ensures.some,
      ap length c.take_run.ensures.run.text,
      length-append (chars c.take_run.result.now) c.take_run.new.self.text,
    )

pub parts-preserved : goal.parts-preserved
parts-preserved g c = λ reading name.
    onto_join (c.parts.invariant reading name)
    (refers g.R.Run.passes c.args.mark c.args.state c.requires.quoted c.in-Some.c c.parts.value (chars c.take_run.result.now) c.push.new.self c.push_str.new.self
    c.parts.input c.take_reference.new.input c.take_run.new.self c.in-Some.ensures.some c.take_run.ensures.run c.in_ok-push.ensures.ok c.in_ok-push_str.ensures.ok reading name)

pub returns : goal.returns
returns g c = λ reading name.
    let P : Unread → Type 0 = λ u. Onto c.args.names.now c.args.state (naming reading name c.args.value.now) c.args.input.now c.args.state (naming reading name c.parts.value) u in
    subst P (sym c.in_default.ensures.none) (c.parts.invariant reading name)
