-- What the plans of the acts and of the tests mean.
use Rattle.std.specs.Prelude.{◌≡◌, Bool}
use Rattle.hp_elements.specs.declared.act.Act.{Act}
use Rattle.hp_elements.specs.declared.act.Test.{Test}
use Rattle.hp_elements.specs.declared.token.Token.{Token}
use Rattle.hp_model.specs.Tokens.{tag_of}
use Rattle.hp_acts.specs.ActLaws.{ActMeans}
use Rattle.hp_acts.specs.Spending.{html_tag}
use Rattle.hp_acts.specs.TestLaws.{TestTells}

-- for a token whose tag is an HTML one, as the lexer's are
abbrev pub ActsMean : Type 0
ActsMean = (fostering : Bool) (t : Token) → html_tag t ≡ tag_of t → (a : Act) → ActMeans fostering t a

abbrev pub TestsTell : Type 0
TestsTell = (t : Token) (x : Test) → TestTells t x
