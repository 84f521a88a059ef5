-- A tree as it is written.
use Rattle.std.specs.Prelude.{ℕ, List, Option, None, Some, encode_utf8_all, option_map}
use Rattle.std.specs.List.{flat_map}
use Rattle.std.specs.Str.{chars}
use Rattle.hp_control.specs.Tree.{Tree}
use Rattle.hp_print.specs.Elements.{element_text}
use Rattle.hp_print.specs.Print.{print}
use Rattle.hp_select.specs.Grammar.{selector_of}
use Rattle.hp_select.specs.Selected.{selected}
use Rattle.hp_serial.specs.Html.{html_of}
use Rattle.hp_words.specs.declared.setting.OutputForm.{OutputForm}
use Rattle.hp_words.specs.declared.setting.OutputForm.TheVariants as asked
use Rattle.hp_program.specs.declared.form.Form.{Form}
use Rattle.hp_program.specs.declared.form.Form.TheVariants.{PrintedTree, HtmlText, Elements}

-- as what the words ask for, with the selector read; none where its text is no selector
abbrev pub form_of : OutputForm → Option Form
form_of asked.PrintedTree = Some PrintedTree
form_of asked.HtmlText = Some HtmlText
form_of (asked.Elements text) = option_map Elements (selector_of (chars text))

-- in the printed form; as HTML (13.3), in UTF-8; or the elements that a selector matches, in tree order, each with its attributes at depth 0
abbrev pub tree_text : Form → Tree → List ℕ
tree_text PrintedTree tree = print tree
tree_text HtmlText tree = encode_utf8_all (html_of tree)
tree_text (Elements selector) tree = flat_map (element_text tree) (selected tree selector)
