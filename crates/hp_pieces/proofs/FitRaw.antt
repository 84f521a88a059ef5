-- The rows of raw text keep a machine that fits.
use Rattle.std.proofs.Common.{◌≡◌, ℕ, List, true, ◌&&◌, refl, Some}
use Rattle.std.specs.Prelude.{IsTrue, ◌==◌}
use Rattle.hp_tokens.specs.declared.machine.Machine.{Machine}
use Rattle.hp_tokens.specs.declared.state.State.{State}
use Rattle.hp_tokens.specs.declared.state.State.TheVariants.{Rcdata, Rawtext, ScriptData, Plaintext, RcdataLessThanSign, RcdataEndTagOpen, RcdataEndTagName, RawtextLessThanSign, RawtextEndTagOpen, RawtextEndTagName, ScriptDataLessThanSign, ScriptDataEndTagOpen, ScriptDataEndTagName, ScriptDataEscapeStart, ScriptDataEscapeStartDash, ScriptDataEscaped, ScriptDataEscapedDash, ScriptDataEscapedDashDash, ScriptDataEscapedLessThanSign, ScriptDataEscapedEndTagOpen, ScriptDataEscapedEndTagName, ScriptDataDoubleEscapeStart, ScriptDataDoubleEscaped, ScriptDataDoubleEscapedDash, ScriptDataDoubleEscapedDashDash, ScriptDataDoubleEscapedLessThanSign, ScriptDataDoubleEscapeEnd, BeforeAttributeName, SelfClosingStartTag, Data}
use Rattle.hp_tokens.specs.States.{uses_buffer, uses_token}
use Rattle.std.specs.Char.{is_ascii_alphabetic}
use Rattle.hp_tokens.specs.declared.building.Part.TheVariants.{Name}
use Rattle.hp_tokens.specs.Rows.{is_blank, go, again, plus, lowered, putting, buffering, emitting_buffer, without_built}
use Rattle.hp_lex_raw.specs.Letters.{solidus, less_than}
use Rattle.hp_lex_raw.specs.Rows.{row, row_of, has_row, ends_name, is_appropriate, end_tag_name}
use Rattle.hp_pieces.proofs.FitRows.{Fits, Keeps, keeps, either-keeps, go-keeps, again-keeps, stay-keeps, plus-keeps, emitting-keeps, buffer-keeps, built-fits, buffer-fits, told-after}

name_keeps : (s text : State) (m : Machine) (c : ℕ) → m.state ≡ s → uses_token s ≡ true → uses_buffer s ≡ true → Fits m → Keeps (end_tag_name text m (Some c))
name_keeps s text m c e t b h =
    either-keeps (is_ascii_alphabetic c)
    (stay-keeps (buffering c (putting Name (lowered c) m)) (buffer-fits s (putting Name (lowered c) m) (buffering c m).buffer e b (built-fits s m (putting Name (lowered c) m).building e t h)))
    (either-keeps (ends_name c && is_appropriate m)
    (either-keeps (is_blank c) (go-keeps BeforeAttributeName m h.told) (either-keeps (c == solidus) (go-keeps SelfClosingStartTag m h.told) (emitting-keeps (go Data) m (go-keeps Data (without_built m) (told-after m.building m.last_tag h.told)))))
    (plus-keeps less_than (plus solidus (emitting_buffer (again text) m)) (plus-keeps solidus (emitting_buffer (again text) m) (buffer-keeps (again text) m (again-keeps text m h.told)))))

each_keeps : (s : State) (m : Machine) (c : ℕ) → m.state ≡ s → Fits m → IsTrue (has_row s) → Keeps (row_of s m (Some c))
each_keeps Rcdata m c e h k = search (keeps, h, h.told) depth 9
each_keeps Rawtext m c e h k = search (keeps, h, h.told) depth 9
each_keeps ScriptData m c e h k = search (keeps, h, h.told) depth 9
each_keeps Plaintext m c e h k = search (keeps, h) depth 9
each_keeps RcdataLessThanSign m c e h k = search (keeps, h.told) depth 9
each_keeps RcdataEndTagOpen m c e h k = search (keeps, h.told) depth 9
each_keeps RcdataEndTagName m c e h k = name_keeps RcdataEndTagName Rcdata m c e refl refl h
each_keeps RawtextLessThanSign m c e h k = search (keeps, h.told) depth 9
each_keeps RawtextEndTagOpen m c e h k = search (keeps, h.told) depth 9
each_keeps RawtextEndTagName m c e h k = name_keeps RawtextEndTagName Rawtext m c e refl refl h
each_keeps ScriptDataLessThanSign m c e h k = search (keeps, h.told) depth 9
each_keeps ScriptDataEndTagOpen m c e h k = search (keeps, h.told) depth 9
each_keeps ScriptDataEndTagName m c e h k = name_keeps ScriptDataEndTagName ScriptData m c e refl refl h
each_keeps ScriptDataEscapeStart m c e h k = search (keeps, h.told) depth 9
each_keeps ScriptDataEscapeStartDash m c e h k = search (keeps, h.told) depth 9
each_keeps ScriptDataEscaped m c e h k = search (keeps, h, h.told) depth 9
each_keeps ScriptDataEscapedDash m c e h k = search (keeps, h.told) depth 9
each_keeps ScriptDataEscapedDashDash m c e h k = search (keeps, h, h.told) depth 9
each_keeps ScriptDataEscapedLessThanSign m c e h k = search (keeps, h.told) depth 9
each_keeps ScriptDataEscapedEndTagOpen m c e h k = search (keeps, h.told) depth 9
each_keeps ScriptDataEscapedEndTagName m c e h k = name_keeps ScriptDataEscapedEndTagName ScriptDataEscaped m c e refl refl h
each_keeps ScriptDataDoubleEscapeStart m c e h k = let part : (x : List ℕ) → Fits (record m { buffer = x }) = λ x. buffer-fits ScriptDataDoubleEscapeStart m x e refl h in search (keeps, part, h.told) depth 9
each_keeps ScriptDataDoubleEscaped m c e h k = search (keeps, h, h.told) depth 9
each_keeps ScriptDataDoubleEscapedDash m c e h k = search (keeps, h.told) depth 9
each_keeps ScriptDataDoubleEscapedDashDash m c e h k = search (keeps, h, h.told) depth 9
each_keeps ScriptDataDoubleEscapedLessThanSign m c e h k = search (keeps, h.told) depth 9
each_keeps ScriptDataDoubleEscapeEnd m c e h k = let part : (x : List ℕ) → Fits (record m { buffer = x }) = λ x. buffer-fits ScriptDataDoubleEscapeEnd m x e refl h in search (keeps, part, h.told) depth 9
each_keeps _ m c e h k = cc

pub row_keeps : (m : Machine) (c : ℕ) → Fits m → IsTrue (has_row m.state) → Keeps (row m (Some c))
row_keeps m c h k = each_keeps m.state m c refl h k
