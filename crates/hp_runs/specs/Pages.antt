-- The sequential parser by the rules of the standard's 80 states of the lexer (13.2.5), over any table of reference names.
use Rattle.std.specs.Prelude.{◌≡◌, ℕ, ◌≤◌, ◌^◌, List, ◌++◌, length}
use Rattle.hp_names.specs.References.{Reference}
use Rattle.hp_control.specs.declared.edit.Edit.{Edit}
use Rattle.hp_control.specs.States.{Fits, IsValid}
use Rattle.hp_control.specs.Tree.{Tree}
use Rattle.hp_lexer.specs.Table.{table}
use Rattle.hp_model.specs.Runs.{Parser, Parses, RunsOver, at_start}

-- The run over a text: the parser steps through it until no step is made.
abbrev pub Runs : List Reference → Parser → List ℕ → List Edit → Parser → Type 0
Runs names old text edits new = RunsOver (table names) old text edits new

-- The tree of a page (13.2): the parser steps through the page from its start until no step is made, which over the built-in names
-- is where it needs more text (RestsForMore of hp_pieces), then takes the end of input, and the edits of both, applied to the
-- document alone, give the tree.
abbrev pub IsTreeOf : List Reference → List ℕ → Tree → Type 0
IsTreeOf names page tree = Parses (table names) page tree

-- the run over two texts in a row is the run over the second from where the first led
abbrev pub Joined : Type 0
Joined = (names : List Reference) (old mid new : Parser) (a b : List ℕ) (es fs : List Edit)
    → Runs names old a es mid → Runs names mid b fs new → Runs names old (a ++ b) (es ++ fs) new

-- each state that a run leads to, from a valid one, is valid; and so those of every page
abbrev pub StayValid : Type 0
StayValid = (names : List Reference) (old new : Parser) (text : List ℕ) (es : List Edit) → Runs names old text es new → IsValid old.control → IsValid new.control

abbrev pub PagesStayValid : Type 0
PagesStayValid = (names : List Reference) (new : Parser) (text : List ℕ) (es : List Edit) → Runs names at_start text es new → IsValid new.control

-- a page has one tree
abbrev pub OneTree : Type 0
OneTree = (names : List Reference) (page : List ℕ) (tree other : Tree) → IsTreeOf names page tree → IsTreeOf names page other → tree ≡ other

-- there is a run over each text, and a tree of each page
abbrev pub RunsExist : Type 0
RunsExist = (names : List Reference) (old : Parser) (text : List ℕ) → (edits : List Edit) × (new : Parser) × Runs names old text edits new

abbrev pub TreesExist : Type 0
TreesExist = (names : List Reference) (page : List ℕ) → (tree : Tree) × IsTreeOf names page tree

-- after a run over a page the formatting list has at most an entry for each code point, and ids can be counted
abbrev pub PagesFit : Type 0
PagesFit = (names : List Reference) (new : Parser) (text : List ℕ) (es : List Edit) → Runs names at_start text es new
    → (length new.control.formatting ≤ length text) × (length text ≤ 2 ^ 24 → Fits new.control)
