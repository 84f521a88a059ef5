use Rattle.std.specs.Prelude.{encode_utf8_all}
use Rattle.std.specs.Str.{chars}
use Rattle.hp_print.specs.Print.{indentation}
use Rattle.hp_print.proofs.Lists.{line_joined}
use Rattle.hp_print.proofs.Pieces.{prints_as, prints_then}
use Rattle.hp_print.proofs.output.Out.put_line_beyond.Goals as goal

pub returns : goal.returns
returns g c =
    let first = prints_then _ _ _ _ _ _ _ _ c.indent.ensures c.put.ensures in
    let second = prints_then _ _ _ _ _ _ _ _ first c.put_text.ensures in
    prints_as _ _ _ _ _ _ (prints_then _ _ _ _ _ _ _ _ second c.put-2.ensures) (line_joined (indentation c.args.depth) (encode_utf8_all (chars c.args.text.now)) c.args.left c.args.right 10)
