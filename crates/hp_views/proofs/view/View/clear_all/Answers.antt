use Rattle.std.proofs.Common.{◌∙◌, arith}
use Rattle.std.proofs.lemmas.List.{drop_all}
use Rattle.hp_views.specs.View.{split_of}
use Rattle.hp_views.proofs.AtOnce.{gives_same, cut_down}
use Rattle.hp_views.proofs.view.View.clear_all.Goals as goal

pub returns : goal.returns
returns g c =
    let v = c.args.self.now in
    gives_same (g.B.Below.heard v.below) _ _ (cut_down (split_of v) c.drop_top.new.self c.in-Some.cuts (c.drop_top.ensures ∙ drop_all c.len-count.result v.change.formatting (omega (arith, c.len-count.ensures))) c.in-Some.ensures.1)
