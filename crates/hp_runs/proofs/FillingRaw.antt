-- The rows of raw text do the same where the last start tag's name is told, but where they ask for it.
use Rattle.std.proofs.Common.{◌≡◌, ℕ, List, Bool, true, false, ◌&&◌, refl, Option, None, Some}
use Rattle.std.specs.Prelude.{◌==◌}
use Rattle.std.specs.Char.{is_ascii_alphabetic}
use Rattle.std.specs.Option.{unwrap_or}
use Rattle.hp_tokens.specs.declared.building.Building.{Building}
use Rattle.hp_tokens.specs.declared.machine.Machine.{Machine}
use Rattle.hp_tokens.specs.declared.state.State.{State}
use Rattle.hp_tokens.specs.declared.state.State.TheVariants.{Data, Rcdata, Rawtext, ScriptData, ScriptDataEscaped, RcdataEndTagName, RawtextEndTagName, ScriptDataEndTagName, ScriptDataEscapedEndTagName}
use Rattle.hp_tokens.specs.Rows.{is_blank}
use Rattle.hp_lex_raw.specs.Letters.{solidus}
use Rattle.hp_lex_raw.specs.Raw.{is_untold, names_end_tag}
use Rattle.hp_lex_raw.specs.Rows.{end_tag_name, ends_name, is_appropriate, is_end_tag_named, row, row_of, told}
use Rattle.hp_runs.specs.Filled.{filled}
use Rattle.hp_runs.proofs.FillingRows.{fills, Fills, either-fills, emitting-fills, plain-fills, turned-fills}

-- where the name isn't asked, the same end tags are the last start tag's
same_end_tags : (name : List ℕ) (o : Option (List ℕ)) (e : Bool) (b : Building) → (is_untold o && e) ≡ false → (e && is_end_tag_named (told o) b) ≡ (e && is_end_tag_named (told (Some (unwrap_or o name))) b)
same_end_tags name (Some last) e b h = refl
same_end_tags name None true b h = cc
same_end_tags name None false b h = refl

name_fills : (text : State) (name : List ℕ) (m : Machine) (c : ℕ) → (is_untold m.last_tag && ends_name c) ≡ false → Fills name (end_tag_name text m (Some c)) (end_tag_name text (filled name m) (Some c))
name_fills text name m c h =
    either-fills name (is_ascii_alphabetic c) (plain-fills name _)
    (turned-fills name (ends_name c && is_appropriate m) (ends_name c && is_appropriate (filled name m)) (same_end_tags name m.last_tag (ends_name c) m.building h)
    (either-fills name (is_blank c) (plain-fills name _) (either-fills name (c == solidus) (plain-fills name _) (emitting-fills name Data m)))
    (plain-fills name _))

each_fills : (s : State) (name : List ℕ) (m : Machine) (c : ℕ) → ((names_end_tag s && is_untold m.last_tag) && ends_name c) ≡ false → Fills name (row_of s m (Some c)) (row_of s (filled name m) (Some c))
each_fills RcdataEndTagName name m c h = name_fills Rcdata name m c h
each_fills RawtextEndTagName name m c h = name_fills Rawtext name m c h
each_fills ScriptDataEndTagName name m c h = name_fills ScriptData name m c h
each_fills ScriptDataEscapedEndTagName name m c h = name_fills ScriptDataEscaped name m c h
each_fills _ name m c h = search fills depth 9

pub row_fills : (name : List ℕ) (m : Machine) (c : ℕ) → ((names_end_tag m.state && is_untold m.last_tag) && ends_name c) ≡ false → Fills name (row m (Some c)) (row (filled name m) (Some c))
row_fills name m c h = each_fills m.state name m c h
