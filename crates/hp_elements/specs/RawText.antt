-- The elements whose text the lexer reads in another state (13.2.6.2, 13.2.6.4.4, 13.2.6.4.7).
use Rattle.std.specs.Prelude.{ℕ, List, Option, None, Some, if◌then◌else◌}
use Rattle.hp_elements.specs.Names.{words, is_among}
use Rattle.hp_elements.specs.declared.token.Rest.{Rest}
use Rattle.hp_elements.specs.declared.token.Rest.TheVariants as rest

abbrev pub raw_text_of : List ℕ → Option Rest
raw_text_of name =
    if is_among (words "title textarea") name then Some rest.Rcdata
    else if is_among (words "style xmp iframe noembed noframes") name then Some rest.Rawtext
    else if is_among (words "script") name then Some rest.Script
    else if is_among (words "plaintext") name then Some rest.Plaintext
    else None
