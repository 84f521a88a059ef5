-- Over the whole table: along each way through a row, no act reads what an earlier one gave away; and each row ends.
use Rattle.std.proofs.Common.{◌≡◌, ◌≤◌, ℕ, zero, suc, Bool, true, List, [], ◌∷◌, get_or, length, leb, map, refl, ap, ◌∙◌, ◌&&◌}
use Rattle.std.specs.List.{list_all}
use Rattle.std.proofs.lemmas.Bool.{and_parts, leb-true}
use Rattle.hp_elements.specs.Rules.{acts_numbered, acts_of, go_later, rows_end}
use Rattle.hp_elements.specs.declared.act.Act.{Act}
use Rattle.hp_acts.specs.declared.rows.Part.{Part}
use Rattle.hp_acts.specs.declared.rows.Part.TheVariants as part
use Rattle.hp_acts.specs.Rows.{most_acts, rows_in}
use Rattle.hp_acts.specs.Spending.{row_keeps, rows_keep}

part_keeps : (p : Part) → rows_keep (rows_in p) ≡ true
part_keeps part.Page = refl
part_keeps part.Body = refl
part_keeps part.Table = refl
part_keeps part.Rest = refl

passes_at : (test : List Act → Bool) (rows : List (List Act)) (i : ℕ) → test [] ≡ true → list_all test rows ≡ true → test (get_or rows i []) ≡ true
passes_at test [] i none h = none
passes_at test (acts ∷ rows) zero none h = (and_parts (test acts) (list_all test rows) h).0
passes_at test (acts ∷ rows) (suc i) none h = passes_at test rows i none (and_parts (test acts) (list_all test rows) h).1

part_ends : (p : Part) → rows_end (rows_in p) ≡ true
part_ends part.Page = refl
part_ends part.Body = refl
part_ends part.Table = refl
part_ends part.Rest = refl

-- the row of that number in a crate
module _ (p : Part) (number : ℕ) (acts : List Act) (is : acts ≡ acts_numbered (rows_in p) number) where
  pub numbered_keeps : row_keeps true 0 0 acts ≡ true
  numbered_keeps = ap (row_keeps true 0 0) is ∙ passes_at (row_keeps true 0 0) (map acts_of (rows_in p)) number refl (part_keeps p)

  ends : (go_later 0 acts && leb (length acts) most_acts) ≡ true
  ends = ap (λ (found : List Act). go_later 0 found && leb (length found) most_acts) is ∙ passes_at (λ found. go_later 0 found && leb (length found) most_acts) (map acts_of (rows_in p)) number refl (part_ends p)

  pub numbered_later : go_later 0 acts ≡ true
  numbered_later = (and_parts (go_later 0 acts) (leb (length acts) most_acts) ends).0

  pub numbered_short : length acts ≤ most_acts
  numbered_short = leb-true _ _ (and_parts (go_later 0 acts) (leb (length acts) most_acts) ends).1
