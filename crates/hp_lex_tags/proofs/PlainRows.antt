-- The rows of text, names and values on the code points of a run.
use Rattle.std.proofs.Common.{◌≡◌, ℕ, [], ◌∷◌, true, refl, Some, ◌∙◌, ap}
use Rattle.hp_tokens.specs.declared.state.State.{State}
use Rattle.hp_tokens.specs.declared.state.State.TheVariants.{Data, TagName, AttributeName, AttributeValueDoubleQuoted, AttributeValueSingleQuoted, AttributeValueUnquoted}
use Rattle.hp_tokens.specs.declared.state.Return.TheVariants.{DoubleQuoted, SingleQuoted}
use Rattle.hp_tokens.specs.declared.machine.Machine.{Machine}
use Rattle.hp_tokens.specs.declared.building.Part.{Part}
use Rattle.hp_tokens.specs.declared.building.Part.TheVariants.{Name, AttributeName as NameOfAttribute, Value}
use Rattle.hp_tokens.specs.Rows.{is_blank, stay, putting, replaced, lowered}
use Rattle.hp_tokens.specs.Plain.{EmitsPlain, PutsPlain, none_of, in_name, data_stops, whole_data_stops, double_quoted_stops, single_quoted_stops, unquoted_stops, tag_name_stops, attribute_name_stops}
use Rattle.hp_tokens.specs.PlainLaws.{apart, blank-apart, name-apart, not-replaced, name-stays}
use Rattle.hp_lex_tags.specs.Rows.{row, row_of, tag_name, attribute_name, quoted_value, unquoted_value}

pub data_others : EmitsPlain row (none_of data_stops) Data
data_others = record {
  stays = λ m c e h. let a = apart data_stops c h in rw (e, a.1.1.1.1.1.1.0, a.1.1.1.1.1.1.1.0) refl;
}

pub data_whole : EmitsPlain row (none_of whole_data_stops) Data
data_whole = record {
  stays = λ m c e h. let a = apart whole_data_stops c h in rw (e, a.1.1.0, a.1.1.1.0) refl;
}

pub data_blanks : EmitsPlain row is_blank Data
data_blanks = record { stays = λ m c e h. let a = blank-apart (38 ∷ 60 ∷ []) refl c h in rw (e, a.0, a.1.0) refl }

-- U+0000 is in no run, nor upper case in a name
kept : (part : Part) (m : Machine) (x c : ℕ) → x ≡ c → stay (putting part x m) ≡ stay (putting part c m)
kept part m x c e = ap (λ (y : ℕ). stay (putting part y m)) e

tag_name_stays : (m : Machine) (c : ℕ) → in_name tag_name_stops c ≡ true → tag_name m (Some c) ≡ stay (putting Name c m)
tag_name_stays m c h =
    let a = name-apart tag_name_stops c h in
    rw (a.1.0, a.1.1.0, a.1.1.1.0, a.1.1.1.1.1.0, a.1.1.1.1.1.1.0, a.1.1.1.1.1.1.1.0)
    (kept Name m (replaced (lowered c)) c (name-stays (9 ∷ 10 ∷ 12 ∷ 13 ∷ 32 ∷ 47 ∷ 62 ∷ []) c h))

attribute_name_stays : (m : Machine) (c : ℕ) → in_name attribute_name_stops c ≡ true → attribute_name m (Some c) ≡ stay (putting NameOfAttribute c m)
attribute_name_stays m c h =
    let a = name-apart attribute_name_stops c h in
    rw (a.1.0, a.1.1.0, a.1.1.1.0, a.1.1.1.1.1.0, a.1.1.1.1.1.1.0, a.1.1.1.1.1.1.1.0, a.1.1.1.1.1.1.1.1.0)
    (kept NameOfAttribute m (replaced (lowered c)) c (name-stays (9 ∷ 10 ∷ 12 ∷ 13 ∷ 32 ∷ 47 ∷ 61 ∷ 62 ∷ []) c h))

double_quoted_stays : (m : Machine) (c : ℕ) → none_of double_quoted_stops c ≡ true → quoted_value 34 DoubleQuoted m (Some c) ≡ stay (putting Value c m)
double_quoted_stays m c h =
    let a = apart double_quoted_stops c h in
    rw (a.1.1.0, a.1.1.1.0) (kept Value m (replaced c) c (not-replaced (13 ∷ 34 ∷ 38 ∷ []) c h))

single_quoted_stays : (m : Machine) (c : ℕ) → none_of single_quoted_stops c ≡ true → quoted_value 39 SingleQuoted m (Some c) ≡ stay (putting Value c m)
single_quoted_stays m c h =
    let a = apart single_quoted_stops c h in
    rw (a.1.1.1.0, a.1.1.0) (kept Value m (replaced c) c (not-replaced (13 ∷ 38 ∷ 39 ∷ []) c h))

unquoted_stays : (m : Machine) (c : ℕ) → none_of unquoted_stops c ≡ true → unquoted_value m (Some c) ≡ stay (putting Value c m)
unquoted_stays m c h =
    let a = apart unquoted_stops c h in
    rw (a.1.0, a.1.1.0, a.1.1.1.0, a.1.1.1.1.1.0, a.1.1.1.1.1.1.0, a.1.1.1.1.1.1.1.0)
    (kept Value m (replaced c) c (not-replaced (9 ∷ 10 ∷ 12 ∷ 13 ∷ 32 ∷ 38 ∷ 62 ∷ []) c h))

pub tag_name_plain : PutsPlain row (in_name tag_name_stops) Name TagName
tag_name_plain = record { stays = λ m c e h. ap (λ (s : State). row_of s m (Some c)) e ∙ tag_name_stays m c h }

pub attribute_name_plain : PutsPlain row (in_name attribute_name_stops) NameOfAttribute AttributeName
attribute_name_plain = record { stays = λ m c e h. ap (λ (s : State). row_of s m (Some c)) e ∙ attribute_name_stays m c h }

pub double_quoted_plain : PutsPlain row (none_of double_quoted_stops) Value AttributeValueDoubleQuoted
double_quoted_plain = record { stays = λ m c e h. ap (λ (s : State). row_of s m (Some c)) e ∙ double_quoted_stays m c h }

pub single_quoted_plain : PutsPlain row (none_of single_quoted_stops) Value AttributeValueSingleQuoted
single_quoted_plain = record { stays = λ m c e h. ap (λ (s : State). row_of s m (Some c)) e ∙ single_quoted_stays m c h }

pub unquoted_plain : PutsPlain row (none_of unquoted_stops) Value AttributeValueUnquoted
unquoted_plain = record { stays = λ m c e h. ap (λ (s : State). row_of s m (Some c)) e ∙ unquoted_stays m c h }
