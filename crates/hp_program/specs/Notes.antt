-- The lines of the notes.
use Rattle.std.specs.Prelude.{ℕ, List, ◌++◌, codes}
use Rattle.std.specs.Fmt.{decimal}
use Rattle.hp_cut.specs.declared.listed.CutRefusal.{CutRefusal}
use Rattle.hp_cut.specs.declared.listed.CutRefusal.TheVariants as cut

-- the words that the program takes to parse a page
abbrev pub usage_line : List ℕ
usage_line = codes "usage: hpar [--workers N] [--chunk N] [--cuts A,B,C] [--guess quiet|prescan|contrary] [--report] [--html] [--select TEXT]\n"

-- the place of the first byte that isn't UTF-8, counted in the bytes as they were read
abbrev pub not_utf8_line : ℕ → List ℕ
not_utf8_line at = codes "not UTF-8 at byte " ++ decimal at ++ codes "\n"

abbrev pub too_large_line : List ℕ
too_large_line = codes "page is larger than 16777216 bytes\n"

abbrev pub read_fault_line : List ℕ
read_fault_line = codes "the page could not be read\n"

-- how many bytes the output took
abbrev pub write_fault_line : ℕ → List ℕ
write_fault_line taken = codes "the tree could not be written after " ++ decimal taken ++ codes " bytes\n"

abbrev pub bad_selector_line : List ℕ
bad_selector_line = codes "selector is malformed\n"

abbrev pub no_memory_line : List ℕ
no_memory_line = codes "out of memory\n"

-- the first rule that the listed places break, with the index of the first place that breaks it
abbrev pub bad_cuts_line : CutRefusal → List ℕ
bad_cuts_line (cut.NotRising index) = codes "cut " ++ decimal index ++ codes ": not rising\n"
bad_cuts_line (cut.PastEnd index) = codes "cut " ++ decimal index ++ codes ": past the end\n"
bad_cuts_line (cut.NotABoundary index) = codes "cut " ++ decimal index ++ codes ": inside a character\n"
bad_cuts_line cut.TooMany = codes "too many cuts\n"
bad_cuts_line cut.NoMemory = no_memory_line
