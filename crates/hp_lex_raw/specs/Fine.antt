-- Each row of this part reads a code point for good or goes to a state of a lower rank, and emits code points one by one.
use Rattle.std.proofs.Common.{ℕ, ◌<◌, List, [], ◌∷◌, Option, None, Some, arith}
use Rattle.std.specs.Prelude.{IsTrue, ◌==◌, ◌&&◌}
use Rattle.std.specs.Char.{is_ascii_alphabetic}
use Rattle.hp_tokens.specs.declared.state.State.{State}
use Rattle.hp_tokens.specs.declared.state.State.TheVariants.{Data, BeforeAttributeName, SelfClosingStartTag, Rcdata, Rawtext, ScriptData, Plaintext, RcdataLessThanSign, RcdataEndTagOpen, RcdataEndTagName, RawtextLessThanSign, RawtextEndTagOpen, RawtextEndTagName, ScriptDataLessThanSign, ScriptDataEndTagOpen, ScriptDataEndTagName, ScriptDataEscapeStart, ScriptDataEscapeStartDash, ScriptDataEscaped, ScriptDataEscapedDash, ScriptDataEscapedDashDash, ScriptDataEscapedLessThanSign, ScriptDataEscapedEndTagOpen, ScriptDataEscapedEndTagName, ScriptDataDoubleEscapeStart, ScriptDataDoubleEscaped, ScriptDataDoubleEscapedDash, ScriptDataDoubleEscapedDashDash, ScriptDataDoubleEscapedLessThanSign, ScriptDataDoubleEscapeEnd}
use Rattle.hp_tokens.specs.declared.machine.Machine.{Machine}
use Rattle.hp_tokens.specs.declared.building.Part.TheVariants.{Name}
use Rattle.hp_tokens.specs.Rows.{is_blank, go, again, plus, lowered, putting, buffering, emitting_buffer, without_built}
use Rattle.hp_tokens.specs.Ranks.{rank, IsFine}
use Rattle.hp_tokens.proofs.FineRows.{fine, either-fine, go-fine, stay-fine, plus-fine, again-fine, again_end-fine, emitting-fine, buffer-fine}
use Rattle.hp_lex_raw.specs.Letters.{solidus, less_than}
use Rattle.hp_lex_raw.specs.Raw.{reads_text}
use Rattle.hp_lex_raw.specs.Rows.{row, row_of, has_row, ends_name, is_appropriate, no_end_tag, end_tag_name}

no_tag_fine : {s : State} {symbol : Option ℕ} (text : State) (m : Machine) → IsFine s symbol (again text m) → IsFine s symbol (no_end_tag text m)
no_tag_fine text m h =
    plus-fine less_than (plus solidus (emitting_buffer (again text) m)) (plus-fine solidus (emitting_buffer (again text) m) (buffer-fine (again text) m h))

name_fine : (s text : State) (m : Machine) (c : ℕ) → rank text (Some c) < rank s (Some c) → IsFine s (Some c) (end_tag_name text m (Some c))
name_fine s text m c h =
    either-fine (is_ascii_alphabetic c) (stay-fine (buffering c (putting Name (lowered c) m)))
    (either-fine (ends_name c && is_appropriate m)
    (either-fine (is_blank c) (go-fine BeforeAttributeName m) (either-fine (c == solidus) (go-fine SelfClosingStartTag m) (emitting-fine (go Data) m (go-fine Data (without_built m)))))
    (no_tag_fine text m (again-fine text m h)))

name_end_fine : (s text : State) (m : Machine) → rank text None < rank s None → IsFine s None (end_tag_name text m None)
name_end_fine s text m h = no_tag_fine text m (again_end-fine text m h)

each_fine : (s : State) (m : Machine) (symbol : Option ℕ) → IsTrue (has_row s) → IsFine s symbol (row_of s m symbol)
each_fine Rcdata m None h = search fine
each_fine Rcdata m (Some c) h = search fine
each_fine Rawtext m None h = search fine
each_fine Rawtext m (Some c) h = search fine
each_fine ScriptData m None h = search fine
each_fine ScriptData m (Some c) h = search fine
each_fine Plaintext m None h = search fine
each_fine Plaintext m (Some c) h = search fine
each_fine RcdataLessThanSign m None h = search fine
each_fine RcdataLessThanSign m (Some c) h = search fine
each_fine RcdataEndTagOpen m None h = search fine
each_fine RcdataEndTagOpen m (Some c) h = search fine
each_fine RcdataEndTagName m None h = name_end_fine RcdataEndTagName Rcdata m (omega arith)
each_fine RcdataEndTagName m (Some c) h = name_fine RcdataEndTagName Rcdata m c (omega arith)
each_fine RawtextLessThanSign m None h = search fine
each_fine RawtextLessThanSign m (Some c) h = search fine
each_fine RawtextEndTagOpen m None h = search fine
each_fine RawtextEndTagOpen m (Some c) h = search fine
each_fine RawtextEndTagName m None h = name_end_fine RawtextEndTagName Rawtext m (omega arith)
each_fine RawtextEndTagName m (Some c) h = name_fine RawtextEndTagName Rawtext m c (omega arith)
each_fine ScriptDataLessThanSign m None h = search fine
each_fine ScriptDataLessThanSign m (Some c) h = search fine
each_fine ScriptDataEndTagOpen m None h = search fine
each_fine ScriptDataEndTagOpen m (Some c) h = search fine
each_fine ScriptDataEndTagName m None h = name_end_fine ScriptDataEndTagName ScriptData m (omega arith)
each_fine ScriptDataEndTagName m (Some c) h = name_fine ScriptDataEndTagName ScriptData m c (omega arith)
each_fine ScriptDataEscapeStart m None h = search fine
each_fine ScriptDataEscapeStart m (Some c) h = search fine
each_fine ScriptDataEscapeStartDash m None h = search fine
each_fine ScriptDataEscapeStartDash m (Some c) h = search fine
each_fine ScriptDataEscaped m None h = search fine
each_fine ScriptDataEscaped m (Some c) h = search fine
each_fine ScriptDataEscapedDash m None h = search fine
each_fine ScriptDataEscapedDash m (Some c) h = search fine
each_fine ScriptDataEscapedDashDash m None h = search fine
each_fine ScriptDataEscapedDashDash m (Some c) h = search fine
each_fine ScriptDataEscapedLessThanSign m None h = search fine
each_fine ScriptDataEscapedLessThanSign m (Some c) h = search fine
each_fine ScriptDataEscapedEndTagOpen m None h = search fine
each_fine ScriptDataEscapedEndTagOpen m (Some c) h = search fine
each_fine ScriptDataEscapedEndTagName m None h = name_end_fine ScriptDataEscapedEndTagName ScriptDataEscaped m (omega arith)
each_fine ScriptDataEscapedEndTagName m (Some c) h = name_fine ScriptDataEscapedEndTagName ScriptDataEscaped m c (omega arith)
each_fine ScriptDataDoubleEscapeStart m None h = search fine
each_fine ScriptDataDoubleEscapeStart m (Some c) h = search fine
each_fine ScriptDataDoubleEscaped m None h = search fine
each_fine ScriptDataDoubleEscaped m (Some c) h = search fine
each_fine ScriptDataDoubleEscapedDash m None h = search fine
each_fine ScriptDataDoubleEscapedDash m (Some c) h = search fine
each_fine ScriptDataDoubleEscapedDashDash m None h = search fine
each_fine ScriptDataDoubleEscapedDashDash m (Some c) h = search fine
each_fine ScriptDataDoubleEscapedLessThanSign m None h = search fine
each_fine ScriptDataDoubleEscapedLessThanSign m (Some c) h = search fine
each_fine ScriptDataDoubleEscapeEnd m None h = search fine
each_fine ScriptDataDoubleEscapeEnd m (Some c) h = search fine
each_fine _ m symbol h = cc

pub row_fine : (m : Machine) (symbol : Option ℕ) → IsTrue (has_row m.state) → IsFine m.state symbol (row m symbol)
row_fine m symbol h = each_fine m.state m symbol h

-- the states whose text is read in runs are states of this part
pub text_here : (s : State) → IsTrue (reads_text s) → IsTrue (has_row s)
text_here Rcdata h = h
text_here Rawtext h = h
text_here ScriptData h = h
text_here Plaintext h = h
text_here ScriptDataEscaped h = h
text_here ScriptDataDoubleEscaped h = h
text_here _ h = cc

pub text_fine : (m : Machine) (symbol : Option ℕ) → IsTrue (reads_text m.state) → IsFine m.state symbol (row m symbol)
text_fine m symbol h = row_fine m symbol (text_here m.state h)
