-- What of a token is given to the tree or the list, and what stays of it.
use Rattle.std.specs.Prelude.{◌≡◌, ℕ, ◌+◌, nat_lt, Bool, true, false, not, ◌&&◌, ◌||◌, if◌then◌else◌, List, [], ◌∷◌, map}
use Rattle.std.specs.List.{list_all, list_any}
use Rattle.hp_elements.specs.Rules.{Row, acts_of}
use Rattle.hp_elements.specs.Tokens.{kind_of}
use Rattle.hp_elements.specs.declared.act.Act.{Act}
use Rattle.hp_elements.specs.declared.act.Act.TheVariants as act
use Rattle.hp_elements.specs.declared.act.Test.{Test}
use Rattle.hp_elements.specs.declared.act.Test.TheVariants as test
use Rattle.hp_elements.specs.declared.sets.Namespace.TheVariants.{Html}
use Rattle.hp_elements.specs.declared.tag.Tag.{Tag}
use Rattle.hp_elements.specs.declared.token.Token.{Token}
use Rattle.hp_model.specs.Tokens.{is_self_closing, name_of, tag_of}

-- the tag of a token, as an HTML one
abbrev pub html_tag : Token → Tag
html_tag t = record { namespace = Html; name = name_of t; attributes = (tag_of t).attributes }

-- one that gave its text or its attributes away is still what it was
pub record IsLeftOf (t left : Token) : Type 0 where
  pub kind : kind_of left ≡ kind_of t
  pub name : name_of left ≡ name_of t
  pub closing : is_self_closing left ≡ is_self_closing t

-- the tests of a token's attributes
abbrev pub is_of_attributes : Test → Bool
is_of_attributes test.TypeIsHidden = true
is_of_attributes test.HasFontAttribute = true
is_of_attributes _ = false

-- the acts that read the attributes behind an insertion
abbrev pub reads_attributes : Act → Bool
reads_attributes act.AppendToList = true
reads_attributes (act.If test otherwise) = is_of_attributes test
reads_attributes (act.Unless test otherwise) = is_of_attributes test
reads_attributes _ = false

-- the acts that read the text, the attributes or the doctype, and those behind which other rows do
abbrev pub wants_whole : Act → Bool
wants_whole act.Characters = true
wants_whole act.Replacement = true
wants_whole act.AppendPending = true
wants_whole act.Comment = true
wants_whole act.CommentIntoDocument = true
wants_whole act.CommentIntoFirst = true
wants_whole act.PutDoctype = true
wants_whole act.QuirksOfDoctype = true
wants_whole act.AddMissingToFirst = true
wants_whole act.AddMissingToBody = true
wants_whole act.Insert = true
wants_whole act.InsertForeign = true
wants_whole act.InsertAsCurrent = true
wants_whole act.InsertHtml = true
wants_whole act.Again = true
wants_whole (act.AgainAs name) = true
wants_whole (act.As mode) = true
wants_whole (act.AsFostered mode) = true
wants_whole act.AsPresent = true
wants_whole other = reads_attributes other

-- the acts that give the text or the attributes away, themselves or by the rules that they use
abbrev pub gives_away : Act → Bool
gives_away act.Characters = true
gives_away act.Comment = true
gives_away act.CommentIntoDocument = true
gives_away act.CommentIntoFirst = true
gives_away act.AddMissingToFirst = true
gives_away act.AddMissingToBody = true
gives_away act.Insert = true
gives_away act.InsertForeign = true
gives_away act.InsertAsCurrent = true
gives_away act.InsertHtml = true
gives_away act.AppendToList = true
gives_away (act.As mode) = true
gives_away (act.AsFostered mode) = true
gives_away act.AsPresent = true
gives_away _ = false

-- whether the token is whole behind an act that these acts follow in its row: an insertion copies what one of them reads
abbrev pub leaves_whole : Act → List Act → Bool
leaves_whole act.Insert acts = list_any reads_attributes acts
leaves_whole act acts = not (gives_away act)

-- the ways on from an act: go tells whether the row keeps the token from a place on, whole or not
abbrev pub ways_keep : Act → Bool → ℕ → List Act → (Bool → ℕ → Bool) → Bool
ways_keep act.Done whole at acts go = true
ways_keep act.Again whole at acts go = true
ways_keep (act.AgainAs name) whole at acts go = true
ways_keep (act.If test otherwise) whole at acts go = go whole (at + 1) && go whole otherwise
ways_keep (act.Unless test otherwise) whole at acts go = go whole (at + 1) && go whole otherwise
ways_keep a whole at acts go = go (whole && leaves_whole a acts) (at + 1)

-- whether each act finds the token as it wants it, along each way through a row; the acts before the place next are passed over
abbrev pub row_keeps : Bool → ℕ → ℕ → List Act → Bool
row_keeps whole at next [] = true
row_keeps whole at next (a ∷ acts) =
    if nat_lt at next then row_keeps whole (at + 1) next acts
    else (whole || not (wants_whole a)) && ways_keep a whole at acts (λ still place. row_keeps still (at + 1) place acts)

abbrev pub rows_keep : List Row → Bool
rows_keep rows = list_all (row_keeps true 0 0) (map acts_of rows)
