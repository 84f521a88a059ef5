use Rattle.std.proofs.Common.{sym, subst, Option}
use Rattle.std.specs.Option.{IfSome}
use Rattle.std.proofs.lemmas.Result.{IfOk-weaker}
use Rattle.hp_words.specs.Within.{IsWithin}
use Rattle.hp_words.specs.declared.setting.Setting.{Setting}
use Rattle.hp_words.proofs.SettingLemmas.{settings_within}
use Rattle.hp_words.proofs.reading.read_setting.Goals as goal

pub returns-clause-within : goal.returns-clause-within
returns-clause-within c = IfOk-weaker c.setting_in.result _ _ (λ setting is. subst (λ (setting : Option Setting). IfSome setting IsWithin) (sym is) (settings_within _)) c.setting_in.ensures
