-- The rows of raw text emit characters alone, but where they consume `>`.
use Rattle.std.proofs.Common.{◌≡◌, ℕ, Bool, true, false, cond, refl, inr, Some}
use Rattle.std.specs.Prelude.{IsTrue, ◌==◌, ◌&&◌, ◌||◌}
use Rattle.std.specs.Char.{is_ascii_alphabetic}
use Rattle.hp_tokens.specs.declared.state.State.{State}
use Rattle.hp_tokens.specs.declared.state.State.TheVariants.{Data, BeforeAttributeName, SelfClosingStartTag, Rcdata, Rawtext, ScriptData, Plaintext, RcdataLessThanSign, RcdataEndTagOpen, RcdataEndTagName, RawtextLessThanSign, RawtextEndTagOpen, RawtextEndTagName, ScriptDataLessThanSign, ScriptDataEndTagOpen, ScriptDataEndTagName, ScriptDataEscapeStart, ScriptDataEscapeStartDash, ScriptDataEscaped, ScriptDataEscapedDash, ScriptDataEscapedDashDash, ScriptDataEscapedLessThanSign, ScriptDataEscapedEndTagOpen, ScriptDataEscapedEndTagName, ScriptDataDoubleEscapeStart, ScriptDataDoubleEscaped, ScriptDataDoubleEscapedDash, ScriptDataDoubleEscapedDashDash, ScriptDataDoubleEscapedLessThanSign, ScriptDataDoubleEscapeEnd}
use Rattle.hp_tokens.specs.declared.machine.Machine.{Machine}
use Rattle.hp_tokens.specs.declared.building.Part.TheVariants.{Name}
use Rattle.hp_tokens.specs.Rows.{Row, is_blank, go, again, plus, lowered, putting, buffering, emitting_buffer, emitting_built}
use Rattle.hp_lex_raw.specs.Letters.{solidus, less_than}
use Rattle.hp_lex_raw.specs.Rows.{row, row_of, has_row, is_appropriate, no_end_tag, end_tag_name}
use Rattle.hp_runs.proofs.ClosingRows.{closes, Closes, either-closes, go-closes, stay-closes, plus-closes, again-closes, buffer-closes}

no_tag_closes : (c : ℕ) (text : State) (m : Machine) → Closes c (no_end_tag text m)
no_tag_closes c text m =
    plus-closes c less_than (plus solidus (emitting_buffer (again text) m))
    (plus-closes c solidus (emitting_buffer (again text) m) (buffer-closes c (again text) m (again-closes c text m)))

-- behind the name of an end tag the tag is emitted where `>` is read
ends-closes : (c : ℕ) (a b g p : Bool) (n : State) (m : Machine) (x y w : Row) → (c == 62) ≡ g → Closes c x → Closes c y → Closes c w
    → Closes c (cond ((a || b || g) && p) (cond a x (cond b y (emitting_built (go n) m))) w)
ends-closes c true b g true n m x y w e h k i = h
ends-closes c true b g false n m x y w e h k i = i
ends-closes c false true g true n m x y w e h k i = k
ends-closes c false true g false n m x y w e h k i = i
ends-closes c false false true true n m x y w e h k i = record { how = inr (e, refl) }
ends-closes c false false true false n m x y w e h k i = i
ends-closes c false false false p n m x y w e h k i = i

name_closes : (text : State) (m : Machine) (c : ℕ) → Closes c (end_tag_name text m (Some c))
name_closes text m c =
    either-closes (is_ascii_alphabetic c) (stay-closes c (buffering c (putting Name (lowered c) m)))
    (ends-closes c (is_blank c) (c == solidus) (c == 62) (is_appropriate m) Data m (go BeforeAttributeName m) (go SelfClosingStartTag m) (no_end_tag text m) refl
    (go-closes c BeforeAttributeName m) (go-closes c SelfClosingStartTag m) (no_tag_closes c text m))

each_closes : (s : State) (m : Machine) (c : ℕ) → IsTrue (has_row s) → Closes c (row_of s m (Some c))
each_closes Rcdata m c h = search closes depth 9
each_closes Rawtext m c h = search closes depth 9
each_closes ScriptData m c h = search closes depth 9
each_closes Plaintext m c h = search closes depth 9
each_closes RcdataLessThanSign m c h = search closes depth 9
each_closes RcdataEndTagOpen m c h = search closes depth 9
each_closes RcdataEndTagName m c h = name_closes Rcdata m c
each_closes RawtextLessThanSign m c h = search closes depth 9
each_closes RawtextEndTagOpen m c h = search closes depth 9
each_closes RawtextEndTagName m c h = name_closes Rawtext m c
each_closes ScriptDataLessThanSign m c h = search closes depth 9
each_closes ScriptDataEndTagOpen m c h = search closes depth 9
each_closes ScriptDataEndTagName m c h = name_closes ScriptData m c
each_closes ScriptDataEscapeStart m c h = search closes depth 9
each_closes ScriptDataEscapeStartDash m c h = search closes depth 9
each_closes ScriptDataEscaped m c h = search closes depth 9
each_closes ScriptDataEscapedDash m c h = search closes depth 9
each_closes ScriptDataEscapedDashDash m c h = search closes depth 9
each_closes ScriptDataEscapedLessThanSign m c h = search closes depth 9
each_closes ScriptDataEscapedEndTagOpen m c h = search closes depth 9
each_closes ScriptDataEscapedEndTagName m c h = name_closes ScriptDataEscaped m c
each_closes ScriptDataDoubleEscapeStart m c h = search closes depth 9
each_closes ScriptDataDoubleEscaped m c h = search closes depth 9
each_closes ScriptDataDoubleEscapedDash m c h = search closes depth 9
each_closes ScriptDataDoubleEscapedDashDash m c h = search closes depth 9
each_closes ScriptDataDoubleEscapedLessThanSign m c h = search closes depth 9
each_closes ScriptDataDoubleEscapeEnd m c h = search closes depth 9
each_closes _ m c h = cc

pub row_closes : (m : Machine) (c : ℕ) → IsTrue (has_row m.state) → Closes c (row m (Some c))
row_closes m c h = each_closes m.state m c h
