use Rattle.hp_fragment.proofs.Amounting.{all-come}
use Rattle.hp_fragment.proofs.grown.grown.Goals as goal

pub returns : goal.returns
returns c = all-come c.args.splitting _ c.args.rest c.into_parts.result.0 c.into_parts.result.1 c.in-Ok.ensures.split c.into_parts.ensures.grove c.into_parts.ensures.outer
