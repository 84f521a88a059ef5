use Rattle.std.proofs.Common.{◌∙◌, ap, sym, map, None, Some, string_bytes, option_map}
use Rattle.std.proofs.lemmas.Result.{IfOk-weaker}
use Rattle.hp_words.specs.Options.{texts_of}
use Rattle.hp_words.proofs.SettingLemmas.{settings_found, settings_separator}
use Rattle.hp_words.proofs.reading.setting_in.Goals as goal

pub returns-then-has_separator : goal.returns-then-has_separator
returns-then-has_separator c = settings_separator (map string_bytes c.args.words.now) (sym c.has_separator.ensures ∙ c.if-has_separator.true)

pub returns-in-Some : goal.returns-in-Some
returns-in-Some c =
    let found = settings_found (map string_bytes c.args.words.now) (Some (texts_of c.in-Some.options)) (sym c.has_separator.ensures ∙ c.if-has_separator.false)
    (ap (option_map texts_of) (sym c.in-Some.is) ∙ c.in_ok-options.ensures) in
    IfOk-weaker c.setting_of.result _ _ (λ setting is. is ∙ found) c.setting_of.ensures

pub returns-in-None : goal.returns-in-None
returns-in-None c =
    settings_found (map string_bytes c.args.words.now) None (sym c.has_separator.ensures ∙ c.if-has_separator.false)
    (ap (option_map texts_of) (sym c.in-None.is) ∙ c.in_ok-options.ensures)
