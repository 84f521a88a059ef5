-- What the words ask for.
use Rattle.std.specs.Prelude.{ℕ, Bool, true, false, ◌||◌, length, List, Option, Some, None, codes, if◌then◌else◌, is_some, option_map}
use Rattle.std.specs.Int.{is_in_range}
use Rattle.std.specs.List.{list_any}
use Rattle.std.specs.Str.{bytes_eq}
use Rattle.hp_words.specs.Numbers.{from, number, number_or, places_in}
use Rattle.hp_words.specs.Options.{Values, found}
use Rattle.hp_words.specs.declared.setting.Setting.{Setting}
use Rattle.hp_words.specs.declared.setting.Setting.TheVariants.{Page, Make, Drill}
use Rattle.hp_words.specs.declared.setting.CutSetting.{CutSetting}
use Rattle.hp_words.specs.declared.setting.CutSetting.TheVariants.{AtTags, Listed}
use Rattle.hp_words.specs.declared.setting.OutputForm.{OutputForm}
use Rattle.hp_words.specs.declared.setting.OutputForm.TheVariants.{PrintedTree, HtmlText, Elements}
use Rattle.hp_predict.specs.declared.quiet.GuessKind.{GuessKind}
use Rattle.hp_predict.specs.declared.quiet.GuessKind.TheVariants.{Quiet, Prescan, Contrary}

-- the word `--`, which ends the options of a command line elsewhere, is there
abbrev pub has_separator : List (List ℕ) → Bool
has_separator words = list_any (λ word. bytes_eq word (codes "--")) words

-- how many workers: 1 to 64, by default 4
abbrev pub workers_of : Option (List ℕ) → Option ℕ
workers_of value = number_or 4 1 64 value

-- a chunk's size in bytes: 64 to 16,777,216, by default 65,536
abbrev pub chunk_of : Option (List ℕ) → Option ℕ
chunk_of value = number_or 65536 64 16777216 value

-- listed cuts and the size of a chunk exclude each other
abbrev pub cutting_of : Option (List ℕ) → Option (List ℕ) → Option CutSetting
cutting_of None chunk = option_map AtTags (chunk_of chunk)
cutting_of (Some cuts) None = option_map Listed (places_in cuts)
cutting_of (Some cuts) (Some chunk) = None

-- the predictor of this name, by default prescan
abbrev pub guess_of : Option (List ℕ) → Option GuessKind
guess_of None = Some Prescan
guess_of (Some name) =
    if bytes_eq name (codes "quiet") then Some Quiet
    else (if bytes_eq name (codes "prescan") then Some Prescan
    else (if bytes_eq name (codes "contrary") then Some Contrary else None))

-- the elements that a selector matches, where its text has at most 1,024 bytes
abbrev pub elements_of : List ℕ → Option OutputForm
elements_of text = if is_in_range 0 1024 (length text) then Some (Elements text) else None

-- as what the tree is written: HTML and a selector exclude each other
abbrev pub form_of : Bool → Option (List ℕ) → Option OutputForm
form_of false None = Some PrintedTree
form_of true None = Some HtmlText
form_of false (Some selector) = elements_of selector
form_of true (Some selector) = None

-- the page on the standard input is parsed
abbrev pub page_of : Values → Option Setting
page_of values =
    from (workers_of values.workers) (λ workers.
    from (guess_of values.guess) (λ guess.
    from (cutting_of values.cuts values.chunk) (λ cutting.
    from (form_of values.html values.select) (λ form.
    Some (Page (record { workers = workers; cutting = cutting; guess = guess; report = values.report; form = form }))))))

-- an option is given that no mode allows
abbrev pub asks_for_page_alone : Values → Bool
asks_for_page_alone values = is_some values.cuts || is_some values.guess || values.report || values.html || is_some values.select

-- a seed: 0 to 2^64 - 1
abbrev pub seed_of : List ℕ → Option ℕ
seed_of = number 0 18446744073709551615

-- how many bytes a made page has: 1 to 16,777,216
abbrev pub bytes_of : List ℕ → Option ℕ
bytes_of = number 1 16777216

-- the page of a seed is written, with no other option
abbrev pub make_of : List ℕ → List ℕ → Values → Option Setting
make_of seed bytes values =
    if asks_for_page_alone values || is_some values.workers || is_some values.chunk then None
    else from (seed_of seed) (λ seed. from (bytes_of bytes) (λ bytes. Some (Make seed bytes)))

-- the page of a seed is parsed in each way, with no option but workers and chunk
abbrev pub drill_of : List ℕ → List ℕ → Values → Option Setting
drill_of seed bytes values =
    if asks_for_page_alone values then None
    else from (seed_of seed) (λ seed. from (bytes_of bytes) (λ bytes.
    from (workers_of values.workers) (λ workers. from (chunk_of values.chunk) (λ chunk.
    Some (Drill seed bytes workers chunk)))))

-- by the values of `make`, `drill` and `bytes`: at most one mode, and `bytes` exactly with one
abbrev pub setting_by : Option (List ℕ) → Option (List ℕ) → Option (List ℕ) → Values → Option Setting
setting_by None None None values = page_of values
setting_by (Some seed) None (Some bytes) values = make_of seed bytes values
setting_by None (Some seed) (Some bytes) values = drill_of seed bytes values
setting_by _ _ _ values = None

-- the setting of the values of the options
abbrev pub setting_of : Values → Option Setting
setting_of values = setting_by values.make values.drill values.bytes values

-- none where a word is `--`, where clap refuses the words, or where the values are out of their ranges or exclude each other
unfoldable pub settings : List (List ℕ) → Option Setting
settings words = if has_separator words then None else from (found words) setting_of
