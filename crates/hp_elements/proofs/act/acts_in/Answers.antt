use Rattle.std.proofs.Common.{◌∙◌, ap, refl}
use Rattle.hp_elements.proofs.PieceLemmas.{piece_taken, none_taken}
use Rattle.hp_elements.proofs.act.acts_in.Goals as goal

pub returns-in-Some : goal.returns-in-Some
returns-in-Some c =
    ap (λ acts. acts.now) c.unwrap_or.ensures
    ∙ piece_taken c.args.acts.now c.args.starts.now c.args.row c.from-at.result c.from.result c.from-in-Some.result c.get-in-Some.result _ c.from-at.ensures c.in-Some.ensures.lookup.3.0 c.from.ensures (c.from-in-Some.ensures ∙ c.in-Some.ensures.lookup.3.1 0) c.get-in-Some.ensures.lookup refl

pub returns-in-None : goal.returns-in-None
returns-in-None c = none_taken c.args.acts.now c.args.starts.now c.args.row c.from-at.result c.from-at.ensures c.in-None.ensures.lookup.3
