-- How a table of rules is written: a row says for which tokens it is, and what is done (13.2.6).
use Prim.Native.String.{String}
use Rattle.std.specs.Prelude.{ℕ, zero, suc, ◌+◌, List, [], ◌∷◌, ◌++◌, length, map, slice_index_or, slice_range, Bool, true, false, Option, None, Some, not, ◌||◌, ◌&&◌, ltb, leb, if◌then◌else◌}
use Rattle.std.specs.List.{list_all}
use Rattle.hp_elements.specs.declared.act.Act.{Act}
use Rattle.hp_elements.specs.declared.act.Act.TheVariants.{As, AsFostered, If, Unless, Insert, Pop, Lexer, KeepOriginal, Switch}
use Rattle.hp_elements.specs.declared.act.Test.{Test}
use Rattle.hp_elements.specs.declared.known.Known.{Known}
use Rattle.hp_elements.specs.declared.token.CharClass.TheVariants.{White, Nul, Other}
use Rattle.hp_elements.specs.declared.token.Kind.{Kind}
use Rattle.hp_elements.specs.declared.token.Kind.TheVariants as kind
use Rattle.hp_elements.specs.declared.token.Mode.{Mode}
use Rattle.hp_elements.specs.declared.token.Mode.TheVariants.{Text}
use Rattle.hp_elements.specs.declared.token.Rest.{Rest}
use Rattle.hp_elements.specs.Names.{words, is_among, text_of}

infixr 75 ◌⨾◌
infixl 73 ◌or◌
infix 70 ◌⟶◌
-- the tokens that a row is for; the names stand one space apart
pub data Pattern : Type 0 where
  white : Pattern
  nul : Pattern
  other : Pattern
  comment : Pattern
  doctype : Pattern
  start : String → Pattern
  end : String → Pattern
  end_but : String → Pattern
  any_start : Pattern
  any_end : Pattern
  end_of_input : Pattern
  any : Pattern
  ◌or◌ : Pattern → Pattern → Pattern

-- acts in order; where the test holds (or fails) the first plan comes before the second
pub data Plan : Type 0 where
  ends : Plan
  ◌⨾◌ : Act → Plan → Plan
  when : Test → Plan → Plan → Plan
  unless : Test → Plan → Plan → Plan

pub record Row : Type 0 where
  pub tokens : Pattern
  pub plan : Plan

abbrev pub ◌⟶◌ : Pattern → Plan → Row
tokens ⟶ plan = record { tokens = tokens; plan = plan }

abbrev pub ignored : Plan
ignored = ends

abbrev pub void : Plan
void = Insert ⨾ Pop ⨾ ends

abbrev pub raw : Rest → Plan
raw rest = Insert ⨾ Lexer rest ⨾ KeepOriginal ⨾ Switch Text ⨾ ends

abbrev pub is_named : String → Option Known → Bool
is_named names None = false
is_named names (Some name) = is_among (words names) (text_of name)

abbrev pub is_for : Pattern → Kind → Bool
is_for white (kind.Characters White) = true
is_for nul (kind.Characters Nul) = true
is_for other (kind.Characters Other) = true
is_for comment kind.Comment = true
is_for doctype kind.Doctype = true
is_for (start names) (kind.Start name) = is_named names name
is_for (end names) (kind.End name) = is_named names name
is_for (end_but names) (kind.End name) = not (is_named names name)
is_for any_start (kind.Start name) = true
is_for any_end (kind.End name) = true
is_for end_of_input kind.EndOfInput = true
is_for any token = true
is_for (p or q) token = is_for p token || is_for q token
is_for _ _ = false

-- the number of the first row that is for the token
abbrev pub first_for : List Row → Kind → ℕ
first_for [] token = 0
first_for (row ∷ rows) token = if is_for row.tokens token then 0 else (1 + first_for rows token)

-- the plan of the first row that is for the token; where there is none the token is ignored
abbrev pub plan_for : List Row → Kind → Plan
plan_for [] token = ignored
plan_for (row ∷ rows) token = if is_for row.tokens token then row.plan else plan_for rows token

-- the acts of a plan that begins at a place of its row
abbrev pub acts_from : ℕ → Plan → List Act
acts_from at ends = []
acts_from at (act ⨾ plan) = act ∷ acts_from (at + 1) plan
acts_from at (when test plan rest) =
    let inner = acts_from (at + 1) plan in
    let next = at + 1 + length inner in
    If test next ∷ inner ++ acts_from next rest
acts_from at (unless test plan rest) =
    let inner = acts_from (at + 1) plan in
    let next = at + 1 + length inner in
    Unless test next ∷ inner ++ acts_from next rest

abbrev pub acts_of : Row → List Act
acts_of row = acts_from 0 row.plan

-- the acts that a token has by some rows
abbrev pub acts_for : List Row → Kind → List Act
acts_for rows token = acts_from 0 (plan_for rows token)

-- a list cut at these places: each piece goes from one to the next, and is empty where the list ends before that
abbrev pub pieces : {X : Type 0} → List X → List ℕ → List (List X)
pieces xs (from ∷ to ∷ places) = (if leb to (length xs) then slice_range xs from to else []) ∷ pieces xs (to ∷ places)
pieces xs _ = []

-- the acts of the row of that number, and none past the last row
abbrev pub acts_numbered : List Row → ℕ → List Act
acts_numbered rows number = slice_index_or (map acts_of rows) number []

-- whether a test goes on behind its own place where it fails
abbrev pub goes_later : ℕ → Act → Bool
goes_later at (If test next) = ltb at next
goes_later at (Unless test next) = ltb at next
goes_later at _ = true

abbrev pub go_later : ℕ → List Act → Bool
go_later at [] = true
go_later at (act ∷ acts) = goes_later at act && go_later (at + 1) acts

-- whether each test of each row goes on behind its own place, and no row has more than eight acts
abbrev pub rows_end : List Row → Bool
rows_end rows = list_all (λ acts. go_later 0 acts && leb (length acts) 8) (map acts_of rows)

-- whether each mode whose rules a plan uses passes the test
abbrev pub uses_pass : (Mode → Bool) → Plan → Bool
uses_pass test ends = true
uses_pass test (As mode ⨾ plan) = test mode && uses_pass test plan
uses_pass test (AsFostered mode ⨾ plan) = test mode && uses_pass test plan
uses_pass test (act ⨾ plan) = uses_pass test plan
uses_pass test (when condition plan rest) = uses_pass test plan && uses_pass test rest
uses_pass test (unless condition plan rest) = uses_pass test plan && uses_pass test rest

-- whether the rows of a mode for a token use those of others at most so many deep, its own counted
abbrev pub nests_within : (Mode → List Row) → ℕ → Mode → Kind → Bool
nests_within rows_of zero mode token = false
nests_within rows_of (suc depth) mode token = uses_pass (λ other. nests_within rows_of depth other token) (plan_for (rows_of mode) token)
