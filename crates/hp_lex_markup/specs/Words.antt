-- The words that are read behind `<!` (13.2.5.42) and behind a doctype's name (13.2.5.56).
use Rattle.std.specs.Prelude.{ℕ, ◌==◌, ◌&&◌, ◌||◌, Bool, true, false, List, [], ◌∷◌, map, codes, Option, None, Some, if◌then◌else◌}
use Rattle.std.specs.Char.{to_ascii_lowercase}
use Rattle.hp_tokens.specs.declared.state.State.{State}
use Rattle.hp_tokens.specs.declared.state.State.TheVariants.{MarkupDeclarationOpen}
use Rattle.hp_tokens.specs.Valid.{is_front, is_front_without_case}
use Rattle.hp_lex_markup.specs.declared.words.Word.{Word}
use Rattle.hp_lex_markup.specs.declared.words.Word.TheVariants.{Hyphens, Doctype, Cdata, Public, System}
use Rattle.hp_lex_markup.specs.declared.words.Progress.{Progress}
use Rattle.hp_lex_markup.specs.declared.words.Progress.TheVariants.{Whole, Front, Other}

-- a text begins with a word
abbrev pub begins : List ℕ → List ℕ → Bool
begins text [] = true
begins [] (w ∷ ws) = false
begins (c ∷ cs) (w ∷ ws) = c == w && begins cs ws

-- the same without ASCII case, of a word in lower case
abbrev pub begins_without_case : List ℕ → List ℕ → Bool
begins_without_case text word = begins (map to_ascii_lowercase text) word

-- more is needed to know which word the text begins with, if any
abbrev pub is_open_markup : List ℕ → Bool
is_open_markup text = is_front text (codes "--") || (is_front_without_case text (codes "doctype") || is_front text (codes "[CDATA["))

abbrev pub is_open_keyword : List ℕ → Bool
is_open_keyword text = is_front_without_case text (codes "public") || is_front_without_case text (codes "system")

abbrev pub is_open : State → List ℕ → Bool
is_open MarkupDeclarationOpen text = is_open_markup text
is_open _ text = is_open_keyword text

-- the word that the text begins with
abbrev pub markup_word : List ℕ → Option Word
markup_word text =
    if begins text (codes "--") then Some Hyphens
    else if begins_without_case text (codes "doctype") then Some Doctype
    else if begins text (codes "[CDATA[") then Some Cdata
    else None

abbrev pub keyword : List ℕ → Option Word
keyword text =
    if begins_without_case text (codes "public") then Some Public
    else if begins_without_case text (codes "system") then Some System
    else None

abbrev pub word : State → List ℕ → Option Word
word MarkupDeclarationOpen text = markup_word text
word _ text = keyword text

-- how many code points a word has
abbrev pub count : Word → ℕ
count Hyphens = 2
count Doctype = 7
count Cdata = 7
count Public = 6
count System = 6

-- behind this word it is asked whether there is an adjusted current node outside the HTML namespace
abbrev pub asks : Word → Bool
asks Cdata = true
asks _ = false

-- How far a text has come with a word: the whole word, with or without more behind it; the front of the word alone; or
-- something else. With `fold` ASCII upper case is lowered first.
abbrev pub folded : Bool → ℕ → ℕ
folded fold c = if fold then to_ascii_lowercase c else c

abbrev pub progress : Bool → List ℕ → List ℕ → Progress
progress fold text [] = Whole
progress fold [] (w ∷ ws) = Front
progress fold (c ∷ cs) (w ∷ ws) = if folded fold c == w then progress fold cs ws else Other

abbrev pub is_front_progress : Progress → Bool
is_front_progress Front = true
is_front_progress _ = false

abbrev pub is_whole_progress : Progress → Bool
is_whole_progress Whole = true
is_whole_progress _ = false

-- with or without ASCII case
abbrev pub front_of : Bool → List ℕ → List ℕ → Bool
front_of fold text word = if fold then is_front_without_case text word else is_front text word

abbrev pub begins_of : Bool → List ℕ → List ℕ → Bool
begins_of fold text word = if fold then begins_without_case text word else begins text word
