use Rattle.std.proofs.Common.{subst, sym}
use Rattle.hp_elements.specs.declared.kinds.Kinds.{Kinds}
use Rattle.hp_elements.specs.declared.kinds.Kinds.TheVariants as kinds
use Rattle.hp_views.specs.Asking.{ask_seen}
use Rattle.hp_views.specs.View.{Answers, sight}
use Rattle.hp_views.proofs.view.View.older_is.Goals as goal

pub returns-in-AnyHtml : goal.returns-in-AnyHtml
returns-in-AnyHtml g c =
    let P : Kinds → Type 0 = λ k. Answers c.html_below.result (sight g.B.Below.heard c.args.self.now) (sight g.B.Below.heard c.html_below.new.self) (λ v. ask_seen v.change.popped k kinds.All) in
    subst P (sym c.in-AnyHtml.is) c.html_below.ensures
