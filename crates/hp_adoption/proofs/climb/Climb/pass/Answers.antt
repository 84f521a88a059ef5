use Rattle.std.proofs.Common.{◌≡◌, ◌∙◌, false, Some, ap, nat_lt, sym, arith}
use Rattle.std.proofs.lemmas.Bool.Decides.{nat_tests}
use Rattle.hp_control.specs.Adoption.{Climbed}
use Rattle.hp_adoption.specs.Entries.{ref_of, tag_of}
use Rattle.hp_adoption.proofs.Spots.{ok_as, passed_new}
use Rattle.hp_adoption.proofs.climb.Climb.pass.Goals as goal

pub returns-in-Some : goal.returns-in-Some
returns-in-Some c =
    let few : nat_lt 3 c.args.count ≡ false = grind (arith, nat_tests) in
    let tag : Some c.in-Some.tag ≡ tag_of c.args.node c.args.self.now.formatting =
    sym c.in-Some.is ∙ (c.in_ok-find_tag.ensures ∙ ap (λ (k : Climbed). tag_of c.args.node k.formatting) c.self.view_is) in
    ok_as _ _ _ c.renew.result c.renew.ensures
    (passed_new (ref_of c.args.is_page) c.args.block c.args.count c.args.node c.in-Some.tag c.args.self.now few tag)
