use Rattle.std.specs.Option.{is_some}
use Rattle.std.specs.Prelude.{Option, Some, None}
use Rattle.std.proofs.Common.{◌≡◌, ◌<◌, ◌∙◌, true, length, refl, sym, arith}
use Rattle.hp_views.specs.declared.view.PageFacts.{PageFacts}
use Rattle.hp_views.specs.View.{page_of, sight}
use Rattle.hp_adoption.proofs.FewEqual.{few_appended}
use Rattle.hp_adoption.proofs.ark.append_to_list.Goals as goal

page_known : (page : Option PageFacts) → is_some page ≡ true → is_some (page_of page) ≡ true
page_known None h = h
page_known (Some p) h = refl

pub returns-then-len-lt-FEW : goal.returns-then-len-lt-FEW
returns-then-len-lt-FEW g c =
    let few : length c.args.view.now.change.formatting < 3 = omega (arith, c.len.ensures, c.if-len-lt-FEW.true) in
    few_appended c.append_entry.result (sight g.B.Below.heard c.args.view.now) (sight g.B.Below.heard c.append_entry.new.self) c.args.tag
    (page_known c.args.view.now.page (sym c.is_some.ensures ∙ c.if-is_some.true), few) c.append_entry.ensures
