-- The start tags that the rows of raw text emit are HTML's.
use Rattle.std.proofs.Common.{ℕ, Option, None, Some}
use Rattle.std.specs.Prelude.{IsTrue, ◌==◌, ◌&&◌}
use Rattle.std.specs.Char.{is_ascii_alphabetic}
use Rattle.hp_tokens.specs.declared.state.State.{State}
use Rattle.hp_tokens.specs.declared.state.State.TheVariants.{Data, BeforeAttributeName, SelfClosingStartTag, Rcdata, Rawtext, ScriptData, Plaintext, RcdataLessThanSign, RcdataEndTagOpen, RcdataEndTagName, RawtextLessThanSign, RawtextEndTagOpen, RawtextEndTagName, ScriptDataLessThanSign, ScriptDataEndTagOpen, ScriptDataEndTagName, ScriptDataEscapeStart, ScriptDataEscapeStartDash, ScriptDataEscaped, ScriptDataEscapedDash, ScriptDataEscapedDashDash, ScriptDataEscapedLessThanSign, ScriptDataEscapedEndTagOpen, ScriptDataEscapedEndTagName, ScriptDataDoubleEscapeStart, ScriptDataDoubleEscaped, ScriptDataDoubleEscapedDash, ScriptDataDoubleEscapedDashDash, ScriptDataDoubleEscapedLessThanSign, ScriptDataDoubleEscapeEnd}
use Rattle.hp_tokens.specs.declared.machine.Machine.{Machine}
use Rattle.hp_tokens.specs.declared.building.Part.TheVariants.{Name}
use Rattle.hp_tokens.specs.Rows.{is_blank, go, again, plus, lowered, putting, buffering, emitting_buffer, without_built}
use Rattle.hp_lex_raw.specs.Letters.{solidus, less_than}
use Rattle.hp_lex_raw.specs.Rows.{row, row_of, has_row, ends_name, is_appropriate, no_end_tag, end_tag_name}
use Rattle.hp_runs.proofs.ReadRows.{html, IsHtml, either-html, go-html, stay-html, plus-html, again-html, emitting-html, buffer-html}

no_tag_html : (text : State) (m : Machine) → IsHtml (again text m) → IsHtml (no_end_tag text m)
no_tag_html text m h =
    plus-html less_than (plus solidus (emitting_buffer (again text) m)) (plus-html solidus (emitting_buffer (again text) m) (buffer-html (again text) m h))

name_html : (text : State) (m : Machine) (c : ℕ) → IsHtml (end_tag_name text m (Some c))
name_html text m c =
    either-html (is_ascii_alphabetic c) (stay-html (buffering c (putting Name (lowered c) m)))
    (either-html (ends_name c && is_appropriate m)
    (either-html (is_blank c) (go-html BeforeAttributeName m) (either-html (c == solidus) (go-html SelfClosingStartTag m) (emitting-html (go Data) m (go-html Data (without_built m)))))
    (no_tag_html text m (again-html text m)))

name_end_html : (text : State) (m : Machine) → IsHtml (end_tag_name text m None)
name_end_html text m = no_tag_html text m (again-html text m)

each_html : (s : State) (m : Machine) (symbol : Option ℕ) → IsTrue (has_row s) → IsHtml (row_of s m symbol)
each_html Rcdata m None h = search html depth 9
each_html Rcdata m (Some c) h = search html depth 9
each_html Rawtext m None h = search html depth 9
each_html Rawtext m (Some c) h = search html depth 9
each_html ScriptData m None h = search html depth 9
each_html ScriptData m (Some c) h = search html depth 9
each_html Plaintext m None h = search html depth 9
each_html Plaintext m (Some c) h = search html depth 9
each_html RcdataLessThanSign m None h = search html depth 9
each_html RcdataLessThanSign m (Some c) h = search html depth 9
each_html RcdataEndTagOpen m None h = search html depth 9
each_html RcdataEndTagOpen m (Some c) h = search html depth 9
each_html RcdataEndTagName m None h = name_end_html Rcdata m
each_html RcdataEndTagName m (Some c) h = name_html Rcdata m c
each_html RawtextLessThanSign m None h = search html depth 9
each_html RawtextLessThanSign m (Some c) h = search html depth 9
each_html RawtextEndTagOpen m None h = search html depth 9
each_html RawtextEndTagOpen m (Some c) h = search html depth 9
each_html RawtextEndTagName m None h = name_end_html Rawtext m
each_html RawtextEndTagName m (Some c) h = name_html Rawtext m c
each_html ScriptDataLessThanSign m None h = search html depth 9
each_html ScriptDataLessThanSign m (Some c) h = search html depth 9
each_html ScriptDataEndTagOpen m None h = search html depth 9
each_html ScriptDataEndTagOpen m (Some c) h = search html depth 9
each_html ScriptDataEndTagName m None h = name_end_html ScriptData m
each_html ScriptDataEndTagName m (Some c) h = name_html ScriptData m c
each_html ScriptDataEscapeStart m None h = search html depth 9
each_html ScriptDataEscapeStart m (Some c) h = search html depth 9
each_html ScriptDataEscapeStartDash m None h = search html depth 9
each_html ScriptDataEscapeStartDash m (Some c) h = search html depth 9
each_html ScriptDataEscaped m None h = search html depth 9
each_html ScriptDataEscaped m (Some c) h = search html depth 9
each_html ScriptDataEscapedDash m None h = search html depth 9
each_html ScriptDataEscapedDash m (Some c) h = search html depth 9
each_html ScriptDataEscapedDashDash m None h = search html depth 9
each_html ScriptDataEscapedDashDash m (Some c) h = search html depth 9
each_html ScriptDataEscapedLessThanSign m None h = search html depth 9
each_html ScriptDataEscapedLessThanSign m (Some c) h = search html depth 9
each_html ScriptDataEscapedEndTagOpen m None h = search html depth 9
each_html ScriptDataEscapedEndTagOpen m (Some c) h = search html depth 9
each_html ScriptDataEscapedEndTagName m None h = name_end_html ScriptDataEscaped m
each_html ScriptDataEscapedEndTagName m (Some c) h = name_html ScriptDataEscaped m c
each_html ScriptDataDoubleEscapeStart m None h = search html depth 9
each_html ScriptDataDoubleEscapeStart m (Some c) h = search html depth 9
each_html ScriptDataDoubleEscaped m None h = search html depth 9
each_html ScriptDataDoubleEscaped m (Some c) h = search html depth 9
each_html ScriptDataDoubleEscapedDash m None h = search html depth 9
each_html ScriptDataDoubleEscapedDash m (Some c) h = search html depth 9
each_html ScriptDataDoubleEscapedDashDash m None h = search html depth 9
each_html ScriptDataDoubleEscapedDashDash m (Some c) h = search html depth 9
each_html ScriptDataDoubleEscapedLessThanSign m None h = search html depth 9
each_html ScriptDataDoubleEscapedLessThanSign m (Some c) h = search html depth 9
each_html ScriptDataDoubleEscapeEnd m None h = search html depth 9
each_html ScriptDataDoubleEscapeEnd m (Some c) h = search html depth 9
each_html _ m symbol h = cc

pub row_html : (m : Machine) (symbol : Option ℕ) → IsTrue (has_row m.state) → IsHtml (row m symbol)
row_html m symbol h = each_html m.state m symbol h
