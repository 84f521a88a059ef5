-- Trees of runs and of pages are counted.
use Rattle.std.proofs.Common.{◌≡◌, ℕ, zero, suc, ◌+◌, List, [], ◌++◌, take, length, true, refl, ap, ◌∙◌, sym, subst, arith, Some}
use Rattle.std.specs.Prelude.{slice_get}
use Rattle.std.specs.Str.{chars}
use Rattle.std.proofs.lemmas.List.Elements.{All-nil}
use Rattle.hp_lexer.specs.Table.{table}
use Rattle.hp_control.specs.declared.edit.Edit.{Edit}
use Rattle.hp_control.specs.States.{ControlState, IsValid, start}
use Rattle.hp_control.specs.Tree.{Element, Tree, applied_all, document}
use Rattle.hp_groves.specs.Grafts.{graft}
use Rattle.hp_groves.specs.Laws.{HasOnlyWhatIsThere}
use Rattle.hp_groves.specs.Split.{grove_of, made_by, name_what_is_there, outer_of}
use Rattle.hp_groves.specs.Joining.{JoinTexts}
use Rattle.hp_groves.proofs.Joined.{joined-count_same, joined-name_same}
use Rattle.hp_groves.proofs.Splitting.{counts-on, split-makes_same, stays-there}
use Rattle.hp_names.specs.References.{Reference}
use Rattle.hp_names.specs.BuiltIn.{built_in}
use Rattle.hp_pieces.specs.Running.{Ends, Leads}
use Rattle.hp_growing.specs.Laws.{EndsHaveThere, LastNameThere, LeadsNameThere, LeadsSplit, PlacesCount, RunsCount, RunsSplit, TreesHaveThere}
use Rattle.hp_growing.specs.Naming.{IsCounted, NamesThere}
use Rattle.hp_growing.proofs.There.{IsThere, names_then}
use Rattle.hp_growing.proofs.Making.{Has}
use Rattle.hp_growing.proofs.Handled.{valid-has}
use Rattle.hp_growing.proofs.Runs.{end_leads, way_leads}

-- edits that name what is there lead from a counted tree to one
counted-on : (next later : ℕ) (es : List Edit) (t : Tree) → NamesThere next es later → IsCounted next t → IsCounted later (applied_all t es)
counted-on next later es t names c =
    let made : length (applied_all t es) ≡ length t + made_by es = counts-on t es in
    let before : length t ≡ next = c.count in
    let behind : later ≡ next + made_by es = names.counted in
    record { count = omega arith; there = stays-there t es c.there (subst (λ n. name_what_is_there n es ≡ true) (sym before) names.named) }

-- and the inner ones may be made first
split-on : (next later : ℕ) (es : List Edit) (t : Tree) → NamesThere next es later → IsCounted next t → applied_all t es ≡ applied_all (graft t (grove_of next es)) (outer_of next es)
split-on next later es t names c =
    subst (λ n. applied_all t es ≡ applied_all (graft t (grove_of n es)) (outer_of n es)) c.count
    (split-makes_same t es c.there (subst (λ n. name_what_is_there n es ≡ true) (sym c.count) names.named))

pub runs-split : RunsSplit
runs-split rules old new es t way v c = split-on old.control.next new.control.next es t (way_leads rules way (valid-has old.control v)).0 c

-- however texts are joined, the same is named and made
joined-there : (next later : ℕ) (es made : List Edit) → JoinTexts es made → NamesThere next made later → NamesThere next es later
joined-there next later es made j names = record {
  named = joined-name_same next es made j ∙ names.named;
  counted = names.counted ∙ ap (λ n. next + n) (sym (joined-count_same es made j));
}

-- so a fragment's edits name what is there
leads-there : (names : List Reference) (text : List ℕ) (s u : ControlState) (es : List Edit) → Leads names text s es u → Has s → NamesThere s.next es u.next
leads-there names text s u es f h =
    subst (λ (x : ControlState). NamesThere s.next es x.next) (sym f.reaches) (joined-there s.next f.there.control.next es f.made f.same (way_leads (table names) f.run.goes h).0)

pub leads-name_there : LeadsNameThere
leads-name_there names text s u es f v = leads-there names text s u es f (valid-has s v)

pub leads-split : LeadsSplit
leads-split names text s u es t f v c = split-on s.next u.next es t (leads-name_there names text s u es f v) c

-- and those of the end of input
ends-there : (names : List Reference) (s : ControlState) (es : List Edit) → Ends names s es → IsValid s → (later : ℕ) × NamesThere s.next es later
ends-there names s es f v =
    let (later, way) = end_leads (table names) f.ends (valid-has s v) in
    (later, joined-there s.next later es f.made f.same way)

pub last-name_there : LastNameThere
last-name_there names s es f v = let (later, way) = ends-there names s es f v in way.named

pub runs-count : RunsCount
runs-count names text s u es t f v c = counted-on s.next u.next es t (leads-name_there names text s u es f v) c

pub ends-have_there : EndsHaveThere
ends-have_there names s es t f v c = let (later, way) = ends-there names s es f v in (counted-on s.next later es t way c).there

-- pages begin with the document alone
start-has : Has start
start-has = record { document = omega arith; stack = All-nil (IsThere 1); head = tt }

document-there : HasOnlyWhatIsThere document
document-there zero place id h = absurd (none place h)
  where
    none : (k : ℕ) → slice_get [] k ≡ Some (Element id) → ⊥
    none k e = cc
document-there (suc parent) place id h = absurd (none place h)
  where
    none : (k : ℕ) → slice_get [] k ≡ Some (Element id) → ⊥
    none k e = cc

document-counted : IsCounted 1 document
document-counted = record { count = refl; there = document-there }

pub places-count : PlacesCount
places-count text place s t f =
    subst (IsCounted s.next) (sym f.builds) (counted-on 1 s.next f.edits document (leads-there built_in (chars (take place text)) start s f.edits f.leads start-has) document-counted)

pub trees-have_there : TreesHaveThere
trees-have_there names page tree f =
    let first = way_leads (table names) f.runs.goes start-has in
    let (later, rest) = end_leads (table names) f.ends first.1 in
    let all : NamesThere 1 (f.edits ++ f.at_end) later = names_then 1 f.read.control.next later f.edits f.at_end first.0 rest in
    subst HasOnlyWhatIsThere (sym f.builds) (counted-on 1 later (f.edits ++ f.at_end) document all document-counted).there
