-- The rows of raw text emit at most one token that is not characters, on a code point that they consume.
use Rattle.std.proofs.Common.{ℕ, Option, None, Some}
use Rattle.std.specs.Prelude.{IsTrue, ◌==◌, ◌&&◌}
use Rattle.std.specs.Char.{is_ascii_alphabetic}
use Rattle.hp_tokens.specs.declared.state.State.{State}
use Rattle.hp_tokens.specs.declared.state.State.TheVariants.{Data, BeforeAttributeName, SelfClosingStartTag, Rcdata, Rawtext, ScriptData, Plaintext, RcdataLessThanSign, RcdataEndTagOpen, RcdataEndTagName, RawtextLessThanSign, RawtextEndTagOpen, RawtextEndTagName, ScriptDataLessThanSign, ScriptDataEndTagOpen, ScriptDataEndTagName, ScriptDataEscapeStart, ScriptDataEscapeStartDash, ScriptDataEscaped, ScriptDataEscapedDash, ScriptDataEscapedDashDash, ScriptDataEscapedLessThanSign, ScriptDataEscapedEndTagOpen, ScriptDataEscapedEndTagName, ScriptDataDoubleEscapeStart, ScriptDataDoubleEscaped, ScriptDataDoubleEscapedDash, ScriptDataDoubleEscapedDashDash, ScriptDataDoubleEscapedLessThanSign, ScriptDataDoubleEscapeEnd}
use Rattle.hp_tokens.specs.declared.machine.Machine.{Machine}
use Rattle.hp_tokens.specs.declared.building.Part.TheVariants.{Name}
use Rattle.hp_tokens.specs.Rows.{is_blank, again, plus, lowered, putting, buffering, emitting_buffer}
use Rattle.hp_lex_raw.specs.Letters.{solidus, less_than}
use Rattle.hp_lex_raw.specs.Rows.{row, row_of, has_row, ends_name, is_appropriate, no_end_tag, end_tag_name}
use Rattle.hp_runs.proofs.SparseRows.{sparse, IsSparse, either-sparse, go-sparse, stay-sparse, plus-sparse, again-sparse, emitting-sparse, buffer-sparse}

no_tag_sparse : (text : State) (m : Machine) → IsSparse (again text m) → IsSparse (no_end_tag text m)
no_tag_sparse text m h =
    plus-sparse less_than (plus solidus (emitting_buffer (again text) m)) (plus-sparse solidus (emitting_buffer (again text) m) (buffer-sparse (again text) m h))

name_sparse : (text : State) (m : Machine) (c : ℕ) → IsSparse (end_tag_name text m (Some c))
name_sparse text m c =
    either-sparse (is_ascii_alphabetic c) (stay-sparse (buffering c (putting Name (lowered c) m)))
    (either-sparse (ends_name c && is_appropriate m)
    (either-sparse (is_blank c) (go-sparse BeforeAttributeName m) (either-sparse (c == solidus) (go-sparse SelfClosingStartTag m) (emitting-sparse Data m)))
    (no_tag_sparse text m (again-sparse text m)))

name_end_sparse : (text : State) (m : Machine) → IsSparse (end_tag_name text m None)
name_end_sparse text m = no_tag_sparse text m (again-sparse text m)

each_sparse : (s : State) (m : Machine) (symbol : Option ℕ) → IsTrue (has_row s) → IsSparse (row_of s m symbol)
each_sparse Rcdata m None h = search sparse depth 9
each_sparse Rcdata m (Some c) h = search sparse depth 9
each_sparse Rawtext m None h = search sparse depth 9
each_sparse Rawtext m (Some c) h = search sparse depth 9
each_sparse ScriptData m None h = search sparse depth 9
each_sparse ScriptData m (Some c) h = search sparse depth 9
each_sparse Plaintext m None h = search sparse depth 9
each_sparse Plaintext m (Some c) h = search sparse depth 9
each_sparse RcdataLessThanSign m None h = search sparse depth 9
each_sparse RcdataLessThanSign m (Some c) h = search sparse depth 9
each_sparse RcdataEndTagOpen m None h = search sparse depth 9
each_sparse RcdataEndTagOpen m (Some c) h = search sparse depth 9
each_sparse RcdataEndTagName m None h = name_end_sparse Rcdata m
each_sparse RcdataEndTagName m (Some c) h = name_sparse Rcdata m c
each_sparse RawtextLessThanSign m None h = search sparse depth 9
each_sparse RawtextLessThanSign m (Some c) h = search sparse depth 9
each_sparse RawtextEndTagOpen m None h = search sparse depth 9
each_sparse RawtextEndTagOpen m (Some c) h = search sparse depth 9
each_sparse RawtextEndTagName m None h = name_end_sparse Rawtext m
each_sparse RawtextEndTagName m (Some c) h = name_sparse Rawtext m c
each_sparse ScriptDataLessThanSign m None h = search sparse depth 9
each_sparse ScriptDataLessThanSign m (Some c) h = search sparse depth 9
each_sparse ScriptDataEndTagOpen m None h = search sparse depth 9
each_sparse ScriptDataEndTagOpen m (Some c) h = search sparse depth 9
each_sparse ScriptDataEndTagName m None h = name_end_sparse ScriptData m
each_sparse ScriptDataEndTagName m (Some c) h = name_sparse ScriptData m c
each_sparse ScriptDataEscapeStart m None h = search sparse depth 9
each_sparse ScriptDataEscapeStart m (Some c) h = search sparse depth 9
each_sparse ScriptDataEscapeStartDash m None h = search sparse depth 9
each_sparse ScriptDataEscapeStartDash m (Some c) h = search sparse depth 9
each_sparse ScriptDataEscaped m None h = search sparse depth 9
each_sparse ScriptDataEscaped m (Some c) h = search sparse depth 9
each_sparse ScriptDataEscapedDash m None h = search sparse depth 9
each_sparse ScriptDataEscapedDash m (Some c) h = search sparse depth 9
each_sparse ScriptDataEscapedDashDash m None h = search sparse depth 9
each_sparse ScriptDataEscapedDashDash m (Some c) h = search sparse depth 9
each_sparse ScriptDataEscapedLessThanSign m None h = search sparse depth 9
each_sparse ScriptDataEscapedLessThanSign m (Some c) h = search sparse depth 9
each_sparse ScriptDataEscapedEndTagOpen m None h = search sparse depth 9
each_sparse ScriptDataEscapedEndTagOpen m (Some c) h = search sparse depth 9
each_sparse ScriptDataEscapedEndTagName m None h = name_end_sparse ScriptDataEscaped m
each_sparse ScriptDataEscapedEndTagName m (Some c) h = name_sparse ScriptDataEscaped m c
each_sparse ScriptDataDoubleEscapeStart m None h = search sparse depth 9
each_sparse ScriptDataDoubleEscapeStart m (Some c) h = search sparse depth 9
each_sparse ScriptDataDoubleEscaped m None h = search sparse depth 9
each_sparse ScriptDataDoubleEscaped m (Some c) h = search sparse depth 9
each_sparse ScriptDataDoubleEscapedDash m None h = search sparse depth 9
each_sparse ScriptDataDoubleEscapedDash m (Some c) h = search sparse depth 9
each_sparse ScriptDataDoubleEscapedDashDash m None h = search sparse depth 9
each_sparse ScriptDataDoubleEscapedDashDash m (Some c) h = search sparse depth 9
each_sparse ScriptDataDoubleEscapedLessThanSign m None h = search sparse depth 9
each_sparse ScriptDataDoubleEscapedLessThanSign m (Some c) h = search sparse depth 9
each_sparse ScriptDataDoubleEscapeEnd m None h = search sparse depth 9
each_sparse ScriptDataDoubleEscapeEnd m (Some c) h = search sparse depth 9
each_sparse _ m symbol h = cc

pub row_sparse : (m : Machine) (symbol : Option ℕ) → IsTrue (has_row m.state) → IsSparse (row m symbol)
row_sparse m symbol h = each_sparse m.state m symbol h
