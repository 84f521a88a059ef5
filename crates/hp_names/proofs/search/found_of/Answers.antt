use Rattle.std.proofs.Common.{◌≡◌, ◌∙◌, ℕ, Bool, List, length, ap, rules}
use Rattle.hp_names.specs.References.{ends_with_semicolon}
use Rattle.hp_names.specs.declared.names.Found.{Found}
use Rattle.hp_names.specs.declared.table.Row.{Row}
use Rattle.hp_names.proofs.search.found_of.Goals as goal

abbrev of_row : Row → List ℕ → Bool → Found
of_row row name ends = record { length = length name; first = row.first; second = row.second; ends_with_semicolon = ends }

pub returns : goal.returns
returns c =
    let ends : c.eq.result ≡ ends_with_semicolon c.name_of-name.result.now = search rules in
    ap (λ (b : Bool). of_row c.args.row.now c.name_of-name.result.now b) ends
    ∙ ap (λ (name : List ℕ). of_row c.args.row.now name (ends_with_semicolon name)) c.name_of-name.ensures
