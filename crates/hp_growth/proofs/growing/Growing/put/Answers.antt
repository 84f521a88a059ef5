use Rattle.std.proofs.Common.{◌≡◌, length, sym, ◌∙◌, subst}
use Rattle.std.proofs.lemmas.Result.{on_ok_weaker}
use Rattle.hp_growth.specs.Growing.{Grown, IsRooted, own_edit}
use Rattle.hp_growth.specs.Marking.{names_made}
use Rattle.hp_growth.specs.Reaching.{reaches, way}
use Rattle.hp_growth.specs.declared.reaching.Way.TheVariants.{Outer, Inner}
use Rattle.hp_growth.proofs.Grown.{inner-grows, outer-keeps}
use Rattle.hp_growth.proofs.Ways.{way-inner, way-outer}
use Rattle.hp_growth.proofs.growing.Growing.put.Goals as goal

pub returns-in-Outer-clause-ok : goal.returns-in-Outer-clause-ok
returns-in-Outer-clause-ok c =
    let rooted = subst (λ (g : Grown). IsRooted g.grove (length g.marks)) c.self.view_is c.self.invariant in
    let outer = subst (λ (g : Grown). way (names_made (length g.marks) c.args.edit.now) (reaches g.grove g.marks (own_edit c.args.edit.now)) ≡ Outer) c.self.view_is (sym c.way_of.ensures ∙ c.in-Outer.is) in
    let parts = way-outer (names_made (length c.args.self.now.marks) c.args.edit.now) (reaches c.args.self.now.grove c.args.self.now.marks (own_edit c.args.edit.now)) outer in
    on_ok_weaker c.put_outer.result (outer-keeps c.args.edit.now c.args.self.now c.put_outer.new.self (length c.args.self.now.marks) rooted parts.1) c.put_outer.ensures.ok

pub returns-in-Inner-clause-ok : goal.returns-in-Inner-clause-ok
returns-in-Inner-clause-ok c =
    let rooted = subst (λ (g : Grown). IsRooted g.grove (length g.marks)) c.self.view_is c.self.invariant in
    let inner = subst (λ (g : Grown). way (names_made (length g.marks) c.args.edit.now) (reaches g.grove g.marks (own_edit c.args.edit.now)) ≡ Inner) c.self.view_is (sym c.way_of.ensures ∙ c.in-Inner.is) in
    let parts = way-inner (names_made (length c.args.self.now.marks) c.args.edit.now) (reaches c.args.self.now.grove c.args.self.now.marks (own_edit c.args.edit.now)) inner in
    on_ok_weaker c.put_inner.result (inner-grows c.args.edit.now c.args.self.now c.put_inner.new.self (length c.args.self.now.marks) rooted parts.1) c.put_inner.ensures.ok
