use Rattle.std.proofs.Common.{refl, ap, ◌∙◌, List, [], ℕ, Some}
use Rattle.std.specs.Str.{chars}
use Rattle.hp_tokens.specs.Parts.{added}
use Rattle.hp_lex_tags.proofs.StraightParts.{quoted_closed, quoted_on, value_whole, value_on}
use Rattle.hp_tokens.proofs.Told.{IfOk_then}
use Rattle.hp_lex_tags.proofs.straight.read_quoted.Goals as goal

pub returns-then-take_byte : goal.returns-then-take_byte
returns-then-take_byte g c =
    value_whole c.args.names.now c.args.state c.args.name [] (chars c.take_long_run-run.result.now) c.args.attributes.now c.keep.new.attributes c.args.input.now c.behind_quoted.new.input c.behind_quoted.result
    (c.in_ok-keep.ensures ∙ ap (λ (v : List ℕ). added c.args.attributes.now (Some (record { name = c.args.name; value = v }))) c.in_ok-value.ensures)
    (λ reading to kept. quoted_closed c.args.names.now g.R.Run.passes c.args.mark c.args.state c.requires.quoted reading to c.args.name (chars c.take_long_run-run.result.now)
    c.args.input.now c.take_long_run-run.new.self c.take_byte.new.self c.behind_quoted.new.input c.behind_quoted.result c.take_long_run-run.ensures.run kept
    (c.if-take_byte.ensures.taken refl) (c.behind_quoted.ensures c.args.names.now to))

pub returns : goal.returns
returns g c =
    IfOk_then c.read_behind_run.result c.read_behind_run.ensures (λ way kept. value_on c.args.names.now c.args.state c.args.state c.args.name [] c.in_ok-value.value c.args.attributes.now c.read_behind_run.new.attributes c.args.input.now c.take_byte.new.self c.read_behind_run.new.input way
    (λ reading to. quoted_on c.args.names.now g.R.Run.passes c.args.mark c.args.state c.requires.quoted reading to c.args.name (chars c.take_long_run-run.result.now) c.in_ok-value.value
    c.args.input.now c.take_long_run-run.new.self c.take_byte.new.self c.read_behind_run.new.input way c.take_long_run-run.ensures.run c.in_ok-value.ensures
    (c.if-take_byte.ensures.left refl).0)
    kept)
