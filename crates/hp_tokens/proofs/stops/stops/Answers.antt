use Rattle.hp_tokens.proofs.Blocks.{stop_mask}
use Rattle.hp_tokens.proofs.stops.stops.Goals as goal

pub returns : goal.returns
returns c = stop_mask c.args.a c.args.b c.args.v c.fits-v.0
