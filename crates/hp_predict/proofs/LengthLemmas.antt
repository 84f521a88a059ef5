-- How many names come of a text of so many bytes.
use Rattle.std.proofs.Common.{ℕ, suc, ◌+◌, ◌-◌, ◌*◌, ◌≤◌, Bool, true, false, List, [], ◌∷◌, length, drop, arith, length-append, length-drop}
use Rattle.std.specs.Prelude.{Option, None, Some, not, ◌==◌, if◌then◌else◌}
use Rattle.std.specs.Option.{unwrap_or}
use Rattle.std.specs.Str.{bytes_eq}
use Rattle.std.proofs.lemmas.List.Sums.{length-filter, count_by-le-length}
use Rattle.hp_predict.specs.Tags.{SeenTag, tags, tag_at, counts, counted_tags}
use Rattle.hp_predict.specs.OpenNames.{Names, is_name, is_cell, is_in_table, is_in_section, with_section, with_row, implied, opened, below, is_unmatched, after_tag, after, unmatched}
use Rattle.hp_predict.specs.Guess.{from_start, continues, last_part, with_ends, names_for}
use Rattle.hp_elements.specs.Names.{text_of}
use Rattle.hp_elements.specs.KnownNames as known

pub few_tags : (inside : Bool) (text : List ℕ) → length (tags inside text) ≤ length text
unfolding tags
few_tags true [] = omega arith
few_tags false [] = omega arith
few_tags true (c ∷ cs) = let h = few_tags (not (c == 62)) cs in omega arith
few_tags false (c ∷ cs) = go (tag_at c cs) (few_tags false cs) (few_tags true cs)
  where
    go : (o : Option SeenTag) → length (tags false cs) ≤ length cs → length (tags true cs) ≤ length cs → length {A = SeenTag} (elim o [ None ↦ tags false cs | Some tag ↦ tag ∷ tags true cs ]) ≤ suc (length cs)
    go None h k = omega arith
    go (Some tag) h k = omega arith

pub few_counted : (text : List ℕ) → length (counted_tags text) ≤ length text
few_counted text =
    let h = few_tags false text in
    let e = length-filter (λ (t : SeenTag). counts t.name) (tags false text) in
    let l = count_by-le-length (λ (t : SeenTag). counts t.name) (tags false text) in
    omega arith

section_length : (names : Names) → length (with_section names) ≤ suc (length names)
section_length names = go (is_in_table names)
  where
    go : (b : Bool) → length (if b then text_of known.Tbody ∷ names else names) ≤ suc (length names)
    go true = omega arith
    go false = omega arith

row_length : (names : Names) → length (with_row names) ≤ suc (length names)
row_length names = go (is_in_section names)
  where
    go : (b : Bool) → length (if b then text_of known.Tr ∷ names else names) ≤ suc (length names)
    go true = omega arith
    go false = omega arith

implied_length : (name : List ℕ) (names : Names) → length (implied name names) ≤ 2 + length names
implied_length name names = go (is_name known.Tr name) (is_cell name) (section_length names) (row_length (with_section names))
  where
    go : (a b : Bool) → length (with_section names) ≤ suc (length names) → length (with_row (with_section names)) ≤ suc (length (with_section names)) → length (if a then with_section names else if b then with_row (with_section names) else names) ≤ 2 + length names
    go true b h k = omega arith
    go false true h k = omega arith
    go false false h k = omega arith

below_short : (name : List ℕ) (names rest : Names) → length names ≤ length rest → length (unwrap_or (below name names) rest) ≤ length rest
below_short name [] rest h = omega arith
below_short name (n ∷ ns) rest h = go (bytes_eq n name) (below_short name ns rest (omega arith))
  where
    go : (b : Bool) → length (unwrap_or (below name ns) rest) ≤ length rest → length (unwrap_or (if b then Some ns else below name ns) rest) ≤ length rest
    go true k = omega arith
    go false k = k

tag_length : (tag : SeenTag) (names : Names) → length (after_tag tag names) ≤ 3 + length names
tag_length tag names = go tag.is_end (below_short tag.name names names (omega arith)) (implied_length tag.name names)
  where
    go : (b : Bool) → length (unwrap_or (below tag.name names) names) ≤ length names → length (implied tag.name names) ≤ 2 + length names → length (if b then unwrap_or (below tag.name names) names else opened tag.name names) ≤ 3 + length names
    go true h k = omega arith
    go false h k = omega arith

pub few_open : (ts : List SeenTag) (names : Names) → length (after ts names) ≤ 3 * length ts + length names
unfolding after
few_open [] names = omega arith
few_open (t ∷ ts) names =
    let h = few_open ts (after_tag t names) in
    let k = tag_length t names in
    omega arith

pub few_unmatched : (ts : List SeenTag) (names : Names) → length (unmatched ts names) ≤ length ts
unfolding unmatched
few_unmatched [] names = omega arith
few_unmatched (t ∷ ts) names = go (is_unmatched t names) (few_unmatched ts names) (few_unmatched ts (after_tag t names))
  where
    go : (b : Bool) → length (unmatched ts names) ≤ length ts → length (unmatched ts (after_tag t names)) ≤ length ts → length (if b then t.name ∷ unmatched ts names else unmatched ts (after_tag t names)) ≤ suc (length ts)
    go true h k = omega arith
    go false h k = omega arith

pub ends_length : (names ends : Names) → length (with_ends names ends) ≤ length names + length ends
unfolding with_ends
ends_length [] ends = omega arith
ends_length (n ∷ ns) [] = omega arith
ends_length (n ∷ ns) (e ∷ es) = go (bytes_eq n e) (ends_length ns es) (ends_length ns (e ∷ es))
  where
    go : (b : Bool) → length (with_ends ns es) ≤ length ns + length es → length (with_ends ns (e ∷ es)) ≤ length ns + suc (length es) → suc (length (with_ends ns (if b then es else e ∷ es))) ≤ suc (length ns) + suc (length es)
    go true h k = omega arith
    go false h k = omega arith

start_length : (text : List ℕ) → length (from_start text) ≤ length text
start_length [] = omega arith
start_length (b ∷ bs) = go (continues b) (start_length bs)
  where
    go : (c : Bool) → length (from_start bs) ≤ length bs → length (if c then from_start bs else b ∷ bs) ≤ suc (length bs)
    go true h = omega arith
    go false h = omega arith

pub part_length : (text : List ℕ) → length (last_part text) ≤ 4096
part_length text =
    let h = start_length (drop (length text - 4096) text) in
    let k = length-drop (length text - 4096) text in
    omega arith

pub names_length : (before text : List ℕ) → length (names_for before text) ≤ 12290 + length text
names_length before text =
    let opens = after (counted_tags (last_part before)) [] in
    let ends = unmatched (counted_tags text) [] in
    let a = few_open (counted_tags (last_part before)) [] in
    let b = few_counted (last_part before) in
    let c = part_length before in
    let d = few_unmatched (counted_tags text) [] in
    let e = few_counted text in
    let f = ends_length opens ends in
    let g = length-append (with_ends opens ends) (text_of known.Body ∷ text_of known.Html ∷ []) in
    omega arith

pub bytes_length : (text : List ℕ) → length (drop (length text - 4096) text) ≤ 4096
bytes_length text = let k = length-drop (length text - 4096) text in omega arith
