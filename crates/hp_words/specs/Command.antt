-- The command line, as clap reads it.
use Rattle.std.specs.Prelude.{true, codes, Some}
use Rattle.clap.specs.Words.{App, Rule, Text, new_app, new_rule, with_rule}
use Rattle.clap.specs.Simple.{Shape, on_top}
use Rattle.clap.specs.declared.builder.action.ArgAction.TheVariants.{SetTrue}

-- an option with a value: `--name value` or `--name=value`
abbrev pub option : Text → Rule
option name = record (new_rule name) { long = Some name }

-- an option without a value: `--name`
abbrev pub flag : Text → Rule
flag name = record (new_rule name) { long = Some name; action = Some SetTrue }

-- the program without options: all words are read, and there is no help and no version
abbrev pub plain_app : App
plain_app = on_top (λ (s : Shape). record s {
  no_binary_name = true;
  disable_help_flag = true;
  disable_version_flag = true;
}) (new_app (codes "hpar"))

-- the options of a page that is read
abbrev pub page_app : App
page_app =
    with_rule (with_rule (with_rule (with_rule (with_rule (with_rule (with_rule plain_app
    (option (codes "workers")))
    (option (codes "chunk")))
    (option (codes "cuts")))
    (option (codes "guess")))
    (flag (codes "report")))
    (flag (codes "html")))
    (option (codes "select"))

-- and those of the modes that read none
unfoldable pub app : App
app =
    with_rule (with_rule (with_rule page_app
    (option (codes "make")))
    (option (codes "drill")))
    (option (codes "bytes"))
