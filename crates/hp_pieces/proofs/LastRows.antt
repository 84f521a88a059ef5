-- Rows at the end of input: those that don't end it emit characters alone.
use Rattle.std.proofs.Common.{◌≡◌, [], ◌∷◌, true, false, refl, None, ◌⊎◌, inl, inr}
use Rattle.std.specs.Prelude.{◌==◌, IsTrue}
use Rattle.hp_tokens.specs.declared.state.State.{State}
use Rattle.hp_tokens.specs.declared.state.State.TheVariants as states
use Rattle.hp_tokens.specs.declared.machine.Machine.{Machine}
use Rattle.hp_tokens.specs.declared.rows.Reads.TheVariants.{Consume, End}
use Rattle.hp_tokens.specs.Rows.{Row, again, emitting_buffer, plus, with_buffer}
use Rattle.hp_names.specs.Numeric.{numeric}
use Rattle.hp_lex_tags.specs.Letters.{ampersand}
use Rattle.hp_lex_tags.specs.Rows as tag_rows
use Rattle.hp_lex_raw.specs.Letters.{solidus, less_than}
use Rattle.hp_lex_raw.specs.Rows as raw_rows
use Rattle.hp_lex_markup.specs.Rows as markup_rows
use Rattle.hp_runs.specs.Closing.{AreCharacters}
use Rattle.hp_runs.proofs.ClosingRows.{Closes, again-closes, back-closes, buffer-closes, flushing-closes, plus-closes}

pub record Lasts (r : Row) : Type 0 where
  pub how : AreCharacters r.emits ⊎ (r.reads ≡ End)

-- a row that emits characters where it reads another code point than `>`
goes_on : (r : Row) → Closes 0 r → Lasts r
goes_on r h = at h.how
  where
    at : AreCharacters r.emits ⊎ (((0 == 62) ≡ true) × (r.reads ≡ Consume)) → Lasts r
    at (inl a) = record { how = inl a }
    at (inr e) = let no : false ≡ true = e.0 in cc

-- a row that ends the input, and one that is read again in another state
end : (r : Row) → r.reads ≡ End → Lasts r
end r e = record { how = inr e }

more : (r : Row) → AreCharacters r.emits → Lasts r
more r a = record { how = inl a }

pub tags_last : (s : State) (m : Machine) → IsTrue (tag_rows.has_row s) → Lasts (tag_rows.row_of s m None)
tags_last states.Data m h = end _ refl
tags_last states.TagOpen m h = end _ refl
tags_last states.EndTagOpen m h = end _ refl
tags_last states.TagName m h = end _ refl
tags_last states.BeforeAttributeName m h = more _ tt
tags_last states.AttributeName m h = more _ tt
tags_last states.AfterAttributeName m h = end _ refl
tags_last states.BeforeAttributeValue m h = more _ tt
tags_last states.AttributeValueDoubleQuoted m h = end _ refl
tags_last states.AttributeValueSingleQuoted m h = end _ refl
tags_last states.AttributeValueUnquoted m h = end _ refl
tags_last states.AfterAttributeValueQuoted m h = end _ refl
tags_last states.SelfClosingStartTag m h = end _ refl
tags_last states.CharacterReference m h = goes_on _ (flushing-closes 0 (with_buffer (ampersand ∷ []) m))
tags_last states.AmbiguousAmpersand m h = goes_on _ (back-closes 0 m)
tags_last states.NumericCharacterReference m h = more _ tt
tags_last states.HexadecimalCharacterReferenceStart m h = goes_on _ (flushing-closes 0 m)
tags_last states.DecimalCharacterReferenceStart m h = goes_on _ (flushing-closes 0 m)
tags_last states.HexadecimalCharacterReference m h = more _ tt
tags_last states.DecimalCharacterReference m h = more _ tt
tags_last states.NumericCharacterReferenceEnd m h = goes_on _ (flushing-closes 0 (with_buffer (numeric m.value ∷ []) m))
tags_last _ m h = cc

-- what is no end tag is text
no_tag : (text : State) (m : Machine) → Lasts (raw_rows.no_end_tag text m)
no_tag text m =
    goes_on (raw_rows.no_end_tag text m)
    (plus-closes 0 less_than (plus solidus (emitting_buffer (again text) m)) (plus-closes 0 solidus (emitting_buffer (again text) m) (buffer-closes 0 (again text) m (again-closes 0 text m))))

pub raw_last : (s : State) (m : Machine) → IsTrue (raw_rows.has_row s) → Lasts (raw_rows.row_of s m None)
raw_last states.Rcdata m h = end _ refl
raw_last states.Rawtext m h = end _ refl
raw_last states.ScriptData m h = end _ refl
raw_last states.Plaintext m h = end _ refl
raw_last states.RcdataLessThanSign m h = more _ tt
raw_last states.RcdataEndTagOpen m h = more _ tt
raw_last states.RcdataEndTagName m h = no_tag states.Rcdata m
raw_last states.RawtextLessThanSign m h = more _ tt
raw_last states.RawtextEndTagOpen m h = more _ tt
raw_last states.RawtextEndTagName m h = no_tag states.Rawtext m
raw_last states.ScriptDataLessThanSign m h = more _ tt
raw_last states.ScriptDataEndTagOpen m h = more _ tt
raw_last states.ScriptDataEndTagName m h = no_tag states.ScriptData m
raw_last states.ScriptDataEscapeStart m h = more _ tt
raw_last states.ScriptDataEscapeStartDash m h = more _ tt
raw_last states.ScriptDataEscaped m h = end _ refl
raw_last states.ScriptDataEscapedDash m h = end _ refl
raw_last states.ScriptDataEscapedDashDash m h = end _ refl
raw_last states.ScriptDataEscapedLessThanSign m h = more _ tt
raw_last states.ScriptDataEscapedEndTagOpen m h = more _ tt
raw_last states.ScriptDataEscapedEndTagName m h = no_tag states.ScriptDataEscaped m
raw_last states.ScriptDataDoubleEscapeStart m h = more _ tt
raw_last states.ScriptDataDoubleEscaped m h = end _ refl
raw_last states.ScriptDataDoubleEscapedDash m h = end _ refl
raw_last states.ScriptDataDoubleEscapedDashDash m h = end _ refl
raw_last states.ScriptDataDoubleEscapedLessThanSign m h = more _ tt
raw_last states.ScriptDataDoubleEscapeEnd m h = more _ tt
raw_last _ m h = cc

-- of each state of the part of markup
pub markup_last : (s : State) (m : Machine) → IsTrue (markup_rows.is_here s) → Lasts (markup_rows.row_of s m None)
markup_last states.MarkupDeclarationOpen m h = more _ tt
markup_last states.CommentStart m h = more _ tt
markup_last states.CommentLessThanSign m h = more _ tt
markup_last states.CommentLessThanSignBang m h = more _ tt
markup_last states.CommentLessThanSignBangDash m h = more _ tt
markup_last states.CommentLessThanSignBangDashDash m h = more _ tt
markup_last states.CdataSectionBracket m h = more _ tt
markup_last states.CdataSectionEnd m h = more _ tt
markup_last _ m h = end _ refl
