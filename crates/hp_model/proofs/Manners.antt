-- What the rules do with characters: in each mode, for each class, one of a few things that all code points of a run meet alike.
use Rattle.std.proofs.Common.{◌≡◌, ℕ, suc, ◌+◌, ◌≤◌, arith, List, [], Bool, true, false, None, refl, ap, ◌∙◌}
use Rattle.std.specs.Prelude.{if◌then◌else◌, slice_get}
use Rattle.hp_elements.specs.Names.{text_of}
use Rattle.hp_elements.specs.Rules.{Plan, ends, ◌⨾◌}
use Rattle.hp_elements.specs.declared.act.Act.TheVariants.{Again, AsFostered, Done, EmptyPending, KeepOriginal, Pop, Switch}
use Rattle.hp_elements.specs.declared.kinds.Kinds.TheVariants as kinds
use Rattle.hp_elements.specs.KnownNames.{Colgroup}
use Rattle.hp_elements.specs.declared.sets.SetName.TheVariants.{TableTextParents}
use Rattle.hp_elements.specs.declared.token.CharClass.{CharClass}
use Rattle.hp_elements.specs.declared.token.CharClass.TheVariants.{White, Nul, Other}
use Rattle.hp_elements.specs.declared.token.Kind.TheVariants.{Characters}
use Rattle.hp_elements.specs.declared.token.Mode.{Mode}
use Rattle.hp_elements.specs.declared.token.Mode.TheVariants as mode
use Rattle.hp_elements.specs.declared.token.Token.TheVariants as token
use Rattle.hp_control.specs.declared.edit.Child.TheVariants as child
use Rattle.hp_control.specs.declared.element.OpenElement.{OpenElement}
use Rattle.hp_control.specs.Acts.{append_pending, frameset_not_ok, put_here}
use Rattle.hp_control.specs.Adoption.{reconstruct}
use Rattle.hp_control.specs.Composed.{is_one}
use Rattle.hp_control.specs.Foreign.{is_foreign, replaced}
use Rattle.hp_control.specs.Outcome.{Act, and_then, nothing_done}
use Rattle.hp_control.specs.States.{ControlState}
use Rattle.hp_rules_rest.specs.Whole.{every_mode_rows}
use Rattle.hp_model.specs.Growth.{steps_left}
use Rattle.hp_model.specs.Rows.{carry_plan, entering, foreign_turn, mode_turn, nothing_more, rules, turn}
use Rattle.hp_model.specs.Turns.{Handled, Turn, goes_on, done, again, before, and_then as turn_then, as_part, joined, later, left_by, plainly, unchanged}
use Rattle.hp_model.proofs.RowLemmas.{before_first, last_act}

-- characters are dropped; they go to the pending table characters; they are handled again; they are put into the tree: with
-- fostering, behind a reconstruction, as replacements, and a frameset isn't ok any more
pub data Manner : Type 0 where
  drops : Manner
  pends : Manner
  hands_on : Manner
  puts : (fostering reconstructs replaces marks : Bool) → Manner

abbrev pub plain : Manner
plain = puts false false false false

abbrev pub in_body : Bool → CharClass → Manner
in_body fostering White = puts fostering true false false
in_body fostering Nul = drops
in_body fostering Other = puts fostering true false true

-- white space is put, and the others are handled again; or dropped
abbrev pub white_alone : Manner → Manner → CharClass → Manner
white_alone white others White = white
white_alone white others _ = others

abbrev pub unless_null : Manner → CharClass → Manner
unless_null others Nul = drops
unless_null others _ = others

-- keeps: the current node is one in which text of tables is kept; colgroup: it is a colgroup
abbrev pub in_mode : Mode → CharClass → (keeps colgroup : Bool) → Manner
in_mode mode.Initial class keeps colgroup = white_alone drops hands_on class
in_mode mode.BeforeHtml class keeps colgroup = white_alone drops hands_on class
in_mode mode.BeforeHead class keeps colgroup = white_alone drops hands_on class
in_mode mode.InHead class keeps colgroup = white_alone plain hands_on class
in_mode mode.InHeadNoscript class keeps colgroup = white_alone plain hands_on class
in_mode mode.AfterHead class keeps colgroup = white_alone plain hands_on class
in_mode mode.InBody class keeps colgroup = in_body false class
in_mode mode.Text class keeps colgroup = plain
in_mode mode.InTable class keeps colgroup = if keeps then hands_on else in_body true class
in_mode mode.InTableText class keeps colgroup = unless_null pends class
in_mode mode.InCaption class keeps colgroup = in_body false class
in_mode mode.InColumnGroup class keeps colgroup = white_alone plain (if colgroup then hands_on else drops) class
in_mode mode.InTableBody class keeps colgroup = if keeps then hands_on else in_body true class
in_mode mode.InRow class keeps colgroup = if keeps then hands_on else in_body true class
in_mode mode.InCell class keeps colgroup = in_body false class
in_mode mode.InSelect class keeps colgroup = unless_null plain class
in_mode mode.InSelectInTable class keeps colgroup = unless_null plain class
in_mode mode.InTemplate class keeps colgroup = in_body false class
in_mode mode.AfterBody class keeps colgroup = white_alone (puts false true false false) hands_on class
in_mode mode.InFrameset class keeps colgroup = white_alone plain drops class
in_mode mode.AfterFrameset class keeps colgroup = white_alone plain drops class
in_mode mode.AfterAfterBody class keeps colgroup = white_alone (puts false true false false) hands_on class
in_mode mode.AfterAfterFrameset class keeps colgroup = white_alone (puts false true false false) drops class

abbrev pub in_foreign : CharClass → Manner
in_foreign White = plain
in_foreign Nul = puts false false true false
in_foreign Other = puts false false false true

abbrev pub keeps_text : List OpenElement → Bool
keeps_text es = is_one (kinds.Set TableTextParents) (slice_get es 0)

abbrev pub is_colgroup : List OpenElement → Bool
is_colgroup es = is_one (kinds.Html (text_of Colgroup)) (slice_get es 0)

abbrev pub manner : CharClass → Mode → List OpenElement → Manner
manner class m es = if is_foreign (Characters class) es then in_foreign class else in_mode m class (keeps_text es) (is_colgroup es)

abbrev pub replaced_if : Bool → List ℕ → List ℕ
replaced_if replaces text = if replaces then replaced text else text

abbrev pub put_by : Bool → Bool → Bool → List ℕ → Act
put_by fostering replaces marks text = and_then (put_here fostering (child.Text (replaced_if replaces text))) (if marks then frameset_not_ok else nothing_done)

-- what is done to a run
abbrev pub carried : Manner → List ℕ → Act
carried drops text = nothing_done
carried pends text = append_pending text
carried hands_on text = nothing_done
carried (puts fostering reconstructs replaces marks) text = and_then (if reconstructs then reconstruct fostering else nothing_done) (put_by fostering replaces marks text)

-- each text is handled again, and its code points don't matter before; at most one element is made, and fewer steps are left
pub record HandsOn (reach : ℕ) (class : CharClass) (c : ControlState) (by : List ℕ → Turn) : Type 0 where
  pub first : Handled
  pub then_again : (text : List ℕ) → by text ≡ again (token.Characters class text) first
  pub formatting : (left_by first).formatting ≡ c.formatting
  pub skip_lf : (left_by first).skip_lf ≡ c.skip_lf
  pub switch : first.switch ≡ None
  pub next : (left_by first).next ≤ c.next + 1
  pub lower : suc (steps_left (left_by first).mode) ≤ reach

-- a turn deals with characters in that manner, where this was done before
abbrev pub DealsAfter : ℕ → Handled → CharClass → ControlState → Manner → (List ℕ → Turn) → Type 0
DealsAfter reach h class c hands_on by = HandsOn reach class c by
DealsAfter reach h class c drops by = (text : List ℕ) → by text ≡ goes_on (joined h (plainly (carried drops text c)))
DealsAfter reach h class c pends by = (text : List ℕ) → by text ≡ goes_on (joined h (plainly (carried pends text c)))
DealsAfter reach h class c (puts f r x k) by = (text : List ℕ) → by text ≡ goes_on (joined h (plainly (carried (puts f r x k) text c)))

abbrev pub Deals : ℕ → CharClass → ControlState → Manner → (List ℕ → Turn) → Type 0
Deals reach class c hands_on by = HandsOn reach class c by
Deals reach class c drops by = (text : List ℕ) → by text ≡ goes_on (plainly (carried drops text c))
Deals reach class c pends by = (text : List ℕ) → by text ≡ goes_on (plainly (carried pends text c))
Deals reach class c (puts f r x k) by = (text : List ℕ) → by text ≡ goes_on (plainly (carried (puts f r x k) text c))

-- a row that uses the rules of another mode, and does nothing else
abbrev as_they_do : (List ℕ → Turn) → List ℕ → Turn
as_they_do by text = turn_then (as_part (by text)) nothing_more

part : (t : Turn) (h : Handled) → t ≡ goes_on h → turn_then (as_part t) nothing_more ≡ goes_on h
part t h e = ap (λ u. turn_then (as_part u) nothing_more) e ∙ last_act (goes_on h)

by_part : (reach most : ℕ) (class : CharClass) (c : ControlState) (man : Manner) (by : List ℕ → Turn) → reach ≤ most → Deals reach class c man by → Deals most class c man (as_they_do by)
by_part reach most class c drops by le d = λ text. part (by text) (plainly (carried drops text c)) (d text)
by_part reach most class c pends by le d = λ text. part (by text) (plainly (carried pends text c)) (d text)
by_part reach most class c (puts f r x k) by le d = λ text. part (by text) (plainly (carried (puts f r x k) text c)) (d text)
by_part reach most class c hands_on by le d = record {
  first = d.first;
  then_again = λ text. ap (λ u. turn_then (as_part u) nothing_more) (d.then_again text);
  formatting = d.formatting;
  skip_lf = d.skip_lf;
  switch = d.switch;
  next = d.next;
  lower = let few : suc (steps_left (left_by d.first).mode) ≤ reach = d.lower in omega arith;
}

-- nothing before it
by_first : (reach : ℕ) (class : CharClass) (c : ControlState) (man : Manner) (by : List ℕ → Turn) → Deals reach class c man by → Deals reach class c man (λ text. before (unchanged c) (by text))
by_first reach class c drops by d = λ text. before_first c (by text) ∙ d text
by_first reach class c pends by d = λ text. before_first c (by text) ∙ d text
by_first reach class c (puts f r x k) by d = λ text. before_first c (by text) ∙ d text
by_first reach class c hands_on by d = record { first = d.first; then_again = λ text. before_first c (by text) ∙ d.then_again text; formatting = d.formatting; skip_lf = d.skip_lf; switch = d.switch; next = d.next; lower = d.lower }

body : (depth : ℕ) (fostering : Bool) (class : CharClass) (c : ControlState) → Deals (steps_left mode.InBody) class c (in_body fostering class) (λ text. rules (suc depth) (token.Characters class text) fostering mode.InBody c)
unfolding rules every_mode_rows
body depth fostering White c = λ text. refl
body depth fostering Nul c = λ text. refl
body depth fostering Other c = λ text. refl

head : (depth : ℕ) (c : ControlState) → Deals (steps_left mode.InHead) White c plain (λ text. rules (suc depth) (token.Characters White text) false mode.InHead c)
unfolding rules every_mode_rows
head depth c = λ text. refl

select : (depth : ℕ) (class : CharClass) (c : ControlState) → Deals (steps_left mode.InSelect) class c (unless_null plain class) (λ text. rules (suc depth) (token.Characters class text) false mode.InSelect c)
unfolding rules every_mode_rows
select depth White c = λ text. refl
select depth Nul c = λ text. refl
select depth Other c = λ text. refl

-- what was done before a token is handled again
abbrev passed : Turn → Handled
passed (goes_on h) = h
passed (done h) = h
passed (again t h) = h

abbrev keeping : Plan
keeping = EmptyPending ⨾ KeepOriginal ⨾ Switch mode.InTableText ⨾ Again ⨾ Done ⨾ ends

abbrev not_keeping : Plan
not_keeping = AsFostered mode.InBody ⨾ ends

-- a table's modes: text is kept, or goes before the table
keeps_or_fosters : (depth : ℕ) (class : CharClass) (c : ControlState) (b : Bool)
    → Deals (steps_left mode.InTable) class c (if b then hands_on else in_body true class)
    (λ text. turn_then (if b then carry_plan (rules (suc depth) (token.Characters class text)) nothing_more false (token.Characters class text) keeping c else goes_on (unchanged c))
    (carry_plan (rules (suc depth) (token.Characters class text)) nothing_more false (token.Characters class text) not_keeping))
keeps_or_fosters depth class c true = record {
  first = passed (carry_plan (rules (suc depth) (token.Characters class [])) nothing_more false (token.Characters class []) keeping c);
  then_again = λ text. refl;
  formatting = refl;
  skip_lf = refl;
  switch = refl;
  next = omega arith;
  lower = omega arith;
}
keeps_or_fosters depth class c false =
    by_first (steps_left mode.InTable) class c (in_body true class) (as_they_do (λ text. rules (suc depth) (token.Characters class text) true mode.InBody c))
    (by_part (steps_left mode.InBody) (steps_left mode.InTable) class c (in_body true class) (λ text. rules (suc depth) (token.Characters class text) true mode.InBody c) (omega arith) (body depth true class c))

table : (depth : ℕ) (class : CharClass) (c : ControlState) → Deals (steps_left mode.InTable) class c (if keeps_text c.stack then hands_on else in_body true class) (λ text. rules (suc (suc depth)) (token.Characters class text) false mode.InTable c)
unfolding rules every_mode_rows
table depth White c = keeps_or_fosters depth White c (keeps_text c.stack)
table depth Nul c = keeps_or_fosters depth Nul c (keeps_text c.stack)
table depth Other c = keeps_or_fosters depth Other c (keeps_text c.stack)

abbrev leaving : Plan
leaving = Pop ⨾ Switch mode.InTable ⨾ Again ⨾ ends

leaves_group : (depth : ℕ) (class : CharClass) (c : ControlState) (b : Bool)
    → Deals (steps_left mode.InColumnGroup) class c (if b then hands_on else drops)
    (λ text. turn_then (if b then carry_plan (rules depth (token.Characters class text)) nothing_more false (token.Characters class text) leaving c else goes_on (unchanged c))
    (carry_plan (rules depth (token.Characters class text)) nothing_more false (token.Characters class text) ends))
leaves_group depth class c true = record {
  first = passed (carry_plan (rules depth (token.Characters class [])) nothing_more false (token.Characters class []) leaving c);
  then_again = λ text. refl;
  formatting = refl;
  skip_lf = refl;
  switch = refl;
  next = omega arith;
  lower = omega arith;
}
leaves_group depth class c false = λ text. refl

-- the modes whose rules hand others than white space on, whatever the state
hands : (m : Mode) (class : CharClass) (c : ControlState) → ((text : List ℕ) → rules 4 (token.Characters class text) false m c ≡ again (token.Characters class text) (passed (rules 4 (token.Characters class []) false m c)))
    → (left_by (passed (rules 4 (token.Characters class []) false m c))).formatting ≡ c.formatting → (left_by (passed (rules 4 (token.Characters class []) false m c))).skip_lf ≡ c.skip_lf
    → (passed (rules 4 (token.Characters class []) false m c)).switch ≡ None → (left_by (passed (rules 4 (token.Characters class []) false m c))).next ≤ c.next + 1 → suc (steps_left (left_by (passed (rules 4 (token.Characters class []) false m c))).mode) ≤ steps_left m → HandsOn (steps_left m) class c (λ text. rules 4 (token.Characters class text) false m c)
hands m class c e f g h i j = record { first = passed (rules 4 (token.Characters class []) false m c); then_again = e; formatting = f; skip_lf = g; switch = h; next = i; lower = j }

mode_deals : (m : Mode) (class : CharClass) (c : ControlState) → Deals (steps_left m) class c (in_mode m class (keeps_text c.stack) (is_colgroup c.stack)) (λ text. rules 4 (token.Characters class text) false m c)
unfolding rules every_mode_rows
mode_deals mode.Initial White c = λ text. refl
mode_deals mode.Initial Nul c = hands mode.Initial Nul c (λ text. refl) refl refl refl (omega arith) (omega arith)
mode_deals mode.Initial Other c = hands mode.Initial Other c (λ text. refl) refl refl refl (omega arith) (omega arith)
mode_deals mode.BeforeHtml White c = λ text. refl
mode_deals mode.BeforeHtml Nul c = hands mode.BeforeHtml Nul c (λ text. refl) refl refl refl (omega arith) (omega arith)
mode_deals mode.BeforeHtml Other c = hands mode.BeforeHtml Other c (λ text. refl) refl refl refl (omega arith) (omega arith)
mode_deals mode.BeforeHead White c = λ text. refl
mode_deals mode.BeforeHead Nul c = hands mode.BeforeHead Nul c (λ text. refl) refl refl refl (omega arith) (omega arith)
mode_deals mode.BeforeHead Other c = hands mode.BeforeHead Other c (λ text. refl) refl refl refl (omega arith) (omega arith)
mode_deals mode.InHead White c = λ text. refl
mode_deals mode.InHead Nul c = hands mode.InHead Nul c (λ text. refl) refl refl refl (omega arith) (omega arith)
mode_deals mode.InHead Other c = hands mode.InHead Other c (λ text. refl) refl refl refl (omega arith) (omega arith)
mode_deals mode.InHeadNoscript White c = by_part (steps_left mode.InHead) (steps_left mode.InHeadNoscript) White c plain (λ text. rules 3 (token.Characters White text) false mode.InHead c) (omega arith) (head 2 c)
mode_deals mode.InHeadNoscript Nul c = hands mode.InHeadNoscript Nul c (λ text. refl) refl refl refl (omega arith) (omega arith)
mode_deals mode.InHeadNoscript Other c = hands mode.InHeadNoscript Other c (λ text. refl) refl refl refl (omega arith) (omega arith)
mode_deals mode.AfterHead White c = λ text. refl
mode_deals mode.AfterHead Nul c = hands mode.AfterHead Nul c (λ text. refl) refl refl refl (omega arith) (omega arith)
mode_deals mode.AfterHead Other c = hands mode.AfterHead Other c (λ text. refl) refl refl refl (omega arith) (omega arith)
mode_deals mode.InBody class c = body 3 false class c
mode_deals mode.Text White c = λ text. refl
mode_deals mode.Text Nul c = λ text. refl
mode_deals mode.Text Other c = λ text. refl
mode_deals mode.InTable class c = table 2 class c
mode_deals mode.InTableText White c = λ text. refl
mode_deals mode.InTableText Nul c = λ text. refl
mode_deals mode.InTableText Other c = λ text. refl
mode_deals mode.InCaption White c = by_part (steps_left mode.InBody) (steps_left mode.InCaption) White c (in_body false White) (λ text. rules 3 (token.Characters White text) false mode.InBody c) (omega arith) (body 2 false White c)
mode_deals mode.InCaption Nul c = by_part (steps_left mode.InBody) (steps_left mode.InCaption) Nul c (in_body false Nul) (λ text. rules 3 (token.Characters Nul text) false mode.InBody c) (omega arith) (body 2 false Nul c)
mode_deals mode.InCaption Other c = by_part (steps_left mode.InBody) (steps_left mode.InCaption) Other c (in_body false Other) (λ text. rules 3 (token.Characters Other text) false mode.InBody c) (omega arith) (body 2 false Other c)
mode_deals mode.InColumnGroup White c = λ text. refl
mode_deals mode.InColumnGroup Nul c = leaves_group 3 Nul c (is_colgroup c.stack)
mode_deals mode.InColumnGroup Other c = leaves_group 3 Other c (is_colgroup c.stack)
mode_deals mode.InTableBody White c = by_part (steps_left mode.InTable) (steps_left mode.InTableBody) White c (in_mode mode.InTable White (keeps_text c.stack) false) (λ text. rules 3 (token.Characters White text) false mode.InTable c) (omega arith) (table 1 White c)
mode_deals mode.InTableBody Nul c = by_part (steps_left mode.InTable) (steps_left mode.InTableBody) Nul c (in_mode mode.InTable Nul (keeps_text c.stack) false) (λ text. rules 3 (token.Characters Nul text) false mode.InTable c) (omega arith) (table 1 Nul c)
mode_deals mode.InTableBody Other c = by_part (steps_left mode.InTable) (steps_left mode.InTableBody) Other c (in_mode mode.InTable Other (keeps_text c.stack) false) (λ text. rules 3 (token.Characters Other text) false mode.InTable c) (omega arith) (table 1 Other c)
mode_deals mode.InRow White c = by_part (steps_left mode.InTable) (steps_left mode.InRow) White c (in_mode mode.InTable White (keeps_text c.stack) false) (λ text. rules 3 (token.Characters White text) false mode.InTable c) (omega arith) (table 1 White c)
mode_deals mode.InRow Nul c = by_part (steps_left mode.InTable) (steps_left mode.InRow) Nul c (in_mode mode.InTable Nul (keeps_text c.stack) false) (λ text. rules 3 (token.Characters Nul text) false mode.InTable c) (omega arith) (table 1 Nul c)
mode_deals mode.InRow Other c = by_part (steps_left mode.InTable) (steps_left mode.InRow) Other c (in_mode mode.InTable Other (keeps_text c.stack) false) (λ text. rules 3 (token.Characters Other text) false mode.InTable c) (omega arith) (table 1 Other c)
mode_deals mode.InCell White c = by_part (steps_left mode.InBody) (steps_left mode.InCell) White c (in_body false White) (λ text. rules 3 (token.Characters White text) false mode.InBody c) (omega arith) (body 2 false White c)
mode_deals mode.InCell Nul c = by_part (steps_left mode.InBody) (steps_left mode.InCell) Nul c (in_body false Nul) (λ text. rules 3 (token.Characters Nul text) false mode.InBody c) (omega arith) (body 2 false Nul c)
mode_deals mode.InCell Other c = by_part (steps_left mode.InBody) (steps_left mode.InCell) Other c (in_body false Other) (λ text. rules 3 (token.Characters Other text) false mode.InBody c) (omega arith) (body 2 false Other c)
mode_deals mode.InSelect class c = select 3 class c
mode_deals mode.InSelectInTable White c = by_part (steps_left mode.InSelect) (steps_left mode.InSelectInTable) White c plain (λ text. rules 3 (token.Characters White text) false mode.InSelect c) (omega arith) (select 2 White c)
mode_deals mode.InSelectInTable Nul c = by_part (steps_left mode.InSelect) (steps_left mode.InSelectInTable) Nul c drops (λ text. rules 3 (token.Characters Nul text) false mode.InSelect c) (omega arith) (select 2 Nul c)
mode_deals mode.InSelectInTable Other c = by_part (steps_left mode.InSelect) (steps_left mode.InSelectInTable) Other c plain (λ text. rules 3 (token.Characters Other text) false mode.InSelect c) (omega arith) (select 2 Other c)
mode_deals mode.InTemplate White c = by_part (steps_left mode.InBody) (steps_left mode.InTemplate) White c (in_body false White) (λ text. rules 3 (token.Characters White text) false mode.InBody c) (omega arith) (body 2 false White c)
mode_deals mode.InTemplate Nul c = by_part (steps_left mode.InBody) (steps_left mode.InTemplate) Nul c (in_body false Nul) (λ text. rules 3 (token.Characters Nul text) false mode.InBody c) (omega arith) (body 2 false Nul c)
mode_deals mode.InTemplate Other c = by_part (steps_left mode.InBody) (steps_left mode.InTemplate) Other c (in_body false Other) (λ text. rules 3 (token.Characters Other text) false mode.InBody c) (omega arith) (body 2 false Other c)
mode_deals mode.AfterBody White c = by_part (steps_left mode.InBody) (steps_left mode.AfterBody) White c (in_body false White) (λ text. rules 3 (token.Characters White text) false mode.InBody c) (omega arith) (body 2 false White c)
mode_deals mode.AfterBody Nul c = hands mode.AfterBody Nul c (λ text. refl) refl refl refl (omega arith) (omega arith)
mode_deals mode.AfterBody Other c = hands mode.AfterBody Other c (λ text. refl) refl refl refl (omega arith) (omega arith)
mode_deals mode.InFrameset White c = λ text. refl
mode_deals mode.InFrameset Nul c = λ text. refl
mode_deals mode.InFrameset Other c = λ text. refl
mode_deals mode.AfterFrameset White c = λ text. refl
mode_deals mode.AfterFrameset Nul c = λ text. refl
mode_deals mode.AfterFrameset Other c = λ text. refl
mode_deals mode.AfterAfterBody White c = by_part (steps_left mode.InBody) (steps_left mode.AfterAfterBody) White c (in_body false White) (λ text. rules 3 (token.Characters White text) false mode.InBody c) (omega arith) (body 2 false White c)
mode_deals mode.AfterAfterBody Nul c = hands mode.AfterAfterBody Nul c (λ text. refl) refl refl refl (omega arith) (omega arith)
mode_deals mode.AfterAfterBody Other c = hands mode.AfterAfterBody Other c (λ text. refl) refl refl refl (omega arith) (omega arith)
mode_deals mode.AfterAfterFrameset White c = by_part (steps_left mode.InBody) (steps_left mode.AfterAfterFrameset) White c (in_body false White) (λ text. rules 3 (token.Characters White text) false mode.InBody c) (omega arith) (body 2 false White c)
mode_deals mode.AfterAfterFrameset Nul c = λ text. refl
mode_deals mode.AfterAfterFrameset Other c = λ text. refl

foreign_deals : (reach : ℕ) (class : CharClass) (c : ControlState) → Deals reach class c (in_foreign class) (λ text. foreign_turn (token.Characters class text) c)
foreign_deals reach White c = λ text. refl
foreign_deals reach Nul c = λ text. refl
foreign_deals reach Other c = λ text. refl

by_before : (reach : ℕ) (h : Handled) (class : CharClass) (c : ControlState) (man : Manner) (by : List ℕ → Turn) → h.switch ≡ None → Deals reach class c man by → DealsAfter reach h class c man (λ text. before h (by text))
by_before reach h class c drops by n d = λ text. ap (before h) (d text)
by_before reach h class c pends by n d = λ text. ap (before h) (d text)
by_before reach h class c (puts f r x k) by n d = λ text. ap (before h) (d text)
by_before reach h class c hands_on by n d = record { first = joined h d.first; then_again = λ text. ap (before h) (d.then_again text); formatting = d.formatting; skip_lf = d.skip_lf; switch = ap (λ s. later s d.first.switch) n ∙ ap (λ s. later None s) d.switch; next = d.next; lower = d.lower }

-- what each turn does with a run
pub turn_deals : (class : CharClass) (c : ControlState) → DealsAfter (steps_left c.mode) (entering c) class c (manner class c.mode c.stack) (λ text. turn (token.Characters class text) c)
unfolding turn
turn_deals class c = by_before (steps_left c.mode) (entering c) class c (manner class c.mode c.stack) (λ text. if is_foreign (Characters class) c.stack then foreign_turn (token.Characters class text) c else mode_turn (token.Characters class text) c.mode c) refl (go (is_foreign (Characters class) c.stack))
  where
    go : (b : Bool) → Deals (steps_left c.mode) class c (if b then in_foreign class else in_mode c.mode class (keeps_text c.stack) (is_colgroup c.stack)) (λ text. if b then foreign_turn (token.Characters class text) c else mode_turn (token.Characters class text) c.mode c)
    go true = foreign_deals (steps_left c.mode) class c
    go false = mode_deals c.mode class c
