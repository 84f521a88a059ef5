use Rattle.std.proofs.Common.{◌≡◌, List, ap, ◌∙◌, sym, subst, Option}
use Rattle.hp_names.specs.Longest as spec
use Rattle.hp_names.specs.Longest.{IsLongest}
use Rattle.hp_names.specs.References.{Reference}
use Rattle.hp_names.specs.declared.names.Found.{Found}
use Rattle.hp_names.proofs.LawLemmas.{longest-IsLongest}
use Rattle.hp_names.proofs.names.Names.longest.Goals as goal

pub returns-clause-law : goal.returns-clause-law
returns-clause-law c =
    let exact : c.longest.result ≡ spec.longest c.args.self.now c.args.text.now =
    c.longest.ensures ∙ ap (λ (t : List Reference). spec.longest t c.args.text.now) c.self.view_is in
    let P : Option Found → Type 0 = λ x. IsLongest c.args.self.now c.args.text.now x in
    subst P (sym exact) (longest-IsLongest c.args.self.now c.args.text.now)
