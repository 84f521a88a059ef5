use Rattle.std.proofs.Common.{leb, w8, arith}
use Rattle.std.proofs.lemmas.Simd.{bitmask_splat}
use Rattle.hp_lex_tags.proofs.attribute_name.low.Goals as goal

pub returns : goal.returns
returns c = bitmask_splat w8 leb c.args.v 16 62 c.fits-v.0 (omega arith)
