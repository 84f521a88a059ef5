-- The text of a drill, put together.
use Rattle.std.proofs.Common.{◌≡◌, ◌++◌, ◌∙◌, ◌<◌, List, ℕ, Bool, true, false, ap, append_assoc, arith, refl, subst, Result, Ok, Err, nat_eq, slice_index}
use Rattle.std.specs.Prelude.{IsAscii, OnOk, drop, if◌then◌else◌, is_ok}
use Rattle.std.specs.List.{starts_with}
use Rattle.std.proofs.lemmas.Bool.Decides.{Decides-eqb}
use Rattle.std.proofs.lemmas.Slice.Eq.{starts_is}
use Rattle.hp_board.specs.declared.journal.Entry.{Entry}
use Rattle.hp_cut.specs.Places.{Cutting, IsOf}
use Rattle.hp_cut.specs.Targets.{places_of}
use Rattle.hp_cut.specs.declared.choice.Cutter.{Cutter}
use Rattle.hp_predict.specs.declared.quiet.GuessKind.{GuessKind}
use Rattle.hp_text.specs.Text.{byte_order_mark, without_mark}
use Rattle.hp_program.specs.Modes.{AreDrillLines, cutting_by}
use Rattle.hp_program.specs.Reports.{IsJournal, IsReportIf, IsReportTextIf}

-- two pieces one behind the other
pub two : (old one new a b : List ℕ) → one ≡ old ++ a → new ≡ one ++ b → new ≡ old ++ (a ++ b)
two old one new a b first second = second ∙ (ap (λ (t : List ℕ). t ++ b) first ∙ append_assoc old a b)

-- three pieces one behind the other
pub three : (old one mid new a b c : List ℕ) → one ≡ old ++ a → mid ≡ one ++ b → new ≡ mid ++ c → new ≡ old ++ (a ++ (b ++ c))
three old one mid new a b c first second third = two old one new a (b ++ c) first (two one mid new b c second third)

-- what follows where a call was done
pub on_ok : {F : Type 0} (done : Result (Unit {0}) F) (P Q : Type 0) → (P → Q) → OnOk done P → OnOk done Q
on_ok (Ok _) P Q f h = f h
on_ok (Err _) P Q f h = tt

-- what follows where a text has grown
pub grown : {F : Type 0} (done : Result (Unit {0}) F) (new whole part : List ℕ) {P : Type 0} → new ≡ (if is_ok done then whole else part) → (new ≡ whole → P) → OnOk done P
grown (Ok _) new whole part is f = f is
grown (Err _) new whole part is f = tt

-- the cuts by a cutter
pub cuts_are : (cuts : Cutting) (cutter : Cutter) (text : List ℕ) (size : ℕ) → cuts.places ≡ places_of cutter text size → IsOf text cuts → cuts ≡ cutting_by cutter text size
cuts_are cuts cutter text size places is =
    ap (λ (ps : List ℕ). the_cutting ps cuts.text_length) places ∙ ap (λ (n : ℕ). the_cutting (places_of cutter text size) n) is.same_length
  where
    the_cutting : List ℕ → ℕ → Cutting
    the_cutting ps n = record { places = ps; text_length = n }

-- the lines of the cuts by a cutter
pub lines_by : (cuts : Cutting) (cutter : Cutter) (text : List ℕ) (size workers : ℕ) (quiet prescan contrary lines : List ℕ) → cuts.places ≡ places_of cutter text size → IsOf text cuts
    → AreDrillLines text cuts workers quiet prescan contrary lines → AreDrillLines text (cutting_by cutter text size) workers quiet prescan contrary lines
lines_by cuts cutter text size workers quiet prescan contrary lines places is =
    subst (λ (c : Cutting). AreDrillLines text c workers quiet prescan contrary lines) (cuts_are cuts cutter text size places is)

if_false : (b : Bool) (xs ys : List ℕ) → (b ≡ true → ⊥) → (if b then xs else ys) ≡ ys
if_false true xs ys is = absurd (is refl)
if_false false xs ys is = refl

first_of : (bytes rest : List ℕ) → IsAscii bytes → bytes ≡ byte_order_mark ++ rest → ⊥
first_of bytes rest ascii is = let small : slice_index (byte_order_mark ++ rest) 0 < 128 = subst (λ (b : List ℕ). slice_index b 0 < 128) is (ascii 0) in omega (arith, small)

-- what is ASCII doesn't begin with a byte order mark
pub unmarked : (bytes : List ℕ) → IsAscii bytes → without_mark bytes ≡ bytes
unmarked bytes ascii = if_false (starts_with nat_eq bytes byte_order_mark) (drop 3 bytes) bytes
    (λ is. first_of bytes _ ascii ((starts_is Decides-eqb bytes byte_order_mark (starts_with nat_eq bytes byte_order_mark) refl).0 is))

-- the report of a page's journal is a report of the page
pub reported : (asked : Bool) (text : List ℕ) (cuts : Cutting) (kind : GuessKind) (workers : ℕ) (journal : List Entry) (report : List ℕ) → IsJournal text cuts kind workers journal
    → IsReportTextIf asked cuts journal report → IsReportIf asked text cuts kind workers report
reported true text cuts kind workers journal report is h = (journal, is, h)
reported false text cuts kind workers journal report is h = h
