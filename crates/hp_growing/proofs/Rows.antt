-- A turn names what is there: each act of a row, the row's plan, the rules of a mode.
use Rattle.std.proofs.Common.{ℕ, zero, suc, Bool, true, false, Option, None, Some}
use Rattle.std.specs.Prelude.{if◌then◌else◌}
use Rattle.hp_elements.specs.Names.{known_of, text_of}
use Rattle.hp_elements.specs.Quirks.{gives_quirks}
use Rattle.hp_elements.specs.Rules.{Plan, ends, ◌⨾◌, when, unless, plan_for}
use Rattle.hp_elements.specs.Tokens.{kind_of}
use Rattle.hp_elements.specs.KnownNames as known
use Rattle.hp_elements.specs.declared.act.Act.{Act as RowAct}
use Rattle.hp_elements.specs.declared.act.Act.TheVariants as act
use Rattle.hp_elements.specs.declared.kinds.Kinds.TheVariants as kinds
use Rattle.hp_elements.specs.declared.known.Known.{Known}
use Rattle.hp_elements.specs.declared.sets.Namespace.{Namespace}
use Rattle.hp_elements.specs.declared.tag.Tag.{Tag}
use Rattle.hp_elements.specs.declared.token.DoctypeParts.{DoctypeParts}
use Rattle.hp_elements.specs.declared.token.Mode.{Mode}
use Rattle.hp_elements.specs.declared.token.Token.{Token}
use Rattle.hp_control.specs.declared.edit.Child.TheVariants as child
use Rattle.hp_control.specs.Acts.{headed, insert, pop, set_quirks, touching}
use Rattle.hp_control.specs.Foreign.{current_namespace, insert_in, is_foreign, opened_namespace, replaced, tag_in}
use Rattle.hp_control.specs.Outcome.{becomes, nothing_done}
use Rattle.hp_control.specs.States.{ControlState}
use Rattle.hp_rules_rest.specs.Foreign.{foreign}
use Rattle.hp_rules_rest.specs.Whole.{every_mode_rows}
use Rattle.hp_model.specs.Rows.{carry, carry_plan, foreign_turn, is_head_mode, mode_turn, nothing_more, rules, turn}
use Rattle.hp_model.specs.Steps.{holds, implied_but_for, quirks_of, step}
use Rattle.hp_model.specs.Tokens.{bare, characters, comment, doctype_of, is_self_closing, name_for, name_of, parts_of, tag_of}
use Rattle.hp_model.specs.Turns.{Handled, Turn, goes_on, done, again, and_then, as_part, before, joined, left_by, plainly, unchanged}
use Rattle.hp_growing.proofs.There.{names_then}
use Rattle.hp_growing.proofs.Making.{Has, Makes, Making, makes_none, making_add_missing_to_body, making_add_missing_to_first, making_append_to_list, making_close_description, making_close_item, making_close_paragraph, making_detach_body, making_end_form, making_implied, making_implied_except, making_implied_thoroughly, making_insert, making_insert_into_document, making_nothing, making_point_head, making_pop, making_pop_to, making_pop_to_first, making_push_head, making_put_here, making_put_into_document, making_put_into_first, making_reconstruct, making_take_head_off, making_then, making_through, making_through_named, making_walk}
use Rattle.hp_growing.proofs.Adopting.{making_adopt, making_close_link, making_flush}

making_insert_in : (space : Namespace) (fostering self_closing : Bool) (tag : Tag) → Making (insert_in space fostering self_closing tag)
making_insert_in space fostering self_closing tag = making_then (insert fostering (tag_in space tag)) (if self_closing then pop else nothing_done) (making_insert fostering (tag_in space tag)) (popped self_closing)
  where
    popped : (b : Bool) → Making (if b then pop else nothing_done)
    popped true = making_pop
    popped false = making_nothing

making_implied_but : (o : Option Known) → Making (implied_but_for o)
making_implied_but None = making_implied
making_implied_but (Some name) = making_implied_except name

making_quirks_of : (parts : DoctypeParts) → Making (quirks_of parts)
making_quirks_of parts = go (gives_quirks parts)
  where
    go : (b : Bool) → Making (if b then set_quirks else nothing_done)
    go true c h = makes_none c h
    go false c h = makes_none c h

making_step : (fostering : Bool) (t : Token) (a : RowAct) → Making (step fostering t a)
making_step fostering t act.Characters = making_put_here fostering (child.Text (characters t)) (λ next. tt)
making_step fostering t act.Replacement = making_put_here fostering (child.Text (replaced (characters t))) (λ next. tt)
making_step fostering t act.Comment = making_put_here fostering (child.Comment (comment t)) (λ next. tt)
making_step fostering t act.CommentIntoDocument = making_put_into_document (child.Comment (comment t)) (λ next. tt)
making_step fostering t act.CommentIntoFirst = making_put_into_first (child.Comment (comment t)) (λ next. tt)
making_step fostering t act.PutDoctype = making_put_into_document (doctype_of (parts_of t)) (λ next. tt)
making_step fostering t act.QuirksOfDoctype = making_quirks_of (parts_of t)
making_step fostering t act.Quirks = λ c h. makes_none c h
making_step fostering t act.AddMissingToFirst = making_add_missing_to_first (tag_of t).attributes
making_step fostering t act.AddMissingToBody = making_add_missing_to_body (tag_of t).attributes
making_step fostering t act.Insert = making_insert fostering (tag_of t)
making_step fostering t (act.InsertBare name) = making_insert fostering (bare (text_of name))
making_step fostering t act.InsertForeign = making_insert_in (opened_namespace (tag_of t).name) fostering (is_self_closing t) (tag_of t)
making_step fostering t act.InsertAsCurrent = λ c h. making_insert_in (current_namespace c.stack) fostering (is_self_closing t) (tag_of t) c h
making_step fostering t act.InsertHtml = making_insert_into_document (tag_of t)
making_step fostering t act.InsertBareHtml = making_insert_into_document (bare (text_of known.Html))
making_step fostering t act.PushHead = making_push_head
making_step fostering t act.Reconstruct = making_reconstruct fostering
making_step fostering t act.Pop = making_pop
making_step fostering t (act.PopTo names) = making_pop_to (kinds.Set names)
making_step fostering t act.PopToFirst = making_pop_to_first
making_step fostering t act.PopToPoint = making_pop_to kinds.HtmlOrPoint
making_step fostering t (act.Through which) = making_through_named (name_for t which)
making_step fostering t (act.ThroughFirstOf names) = making_through (kinds.Set names) kinds.Nothing
making_step fostering t act.ThroughForeign = making_through (kinds.Foreign (name_of t)) kinds.AnyHtml
making_step fostering t act.Implied = making_implied
making_step fostering t (act.ImpliedExcept which) = making_implied_but (known_of (name_for t which))
making_step fostering t act.ImpliedThoroughly = making_implied_thoroughly
making_step fostering t act.CloseParagraph = making_close_paragraph
making_step fostering t act.CloseItem = making_close_item
making_step fostering t act.CloseDescription = making_close_description
making_step fostering t act.Walk = making_walk (name_of t)
making_step fostering t act.DetachBody = making_detach_body
making_step fostering t act.TakeHeadOff = making_take_head_off
making_step fostering t act.EndForm = making_end_form
making_step fostering t act.CloseLink = making_close_link fostering
making_step fostering t act.AppendToList = making_append_to_list (tag_of t)
making_step fostering t (act.Adopt which) = making_adopt fostering (name_for t which)
making_step fostering t act.HeadPointer = making_point_head
making_step fostering t act.Flush = making_flush
making_step fostering t _ = λ c h. makes_none c h

-- what a turn makes, however it ends
abbrev pub MakesTurn : ControlState → Turn → Type 0
MakesTurn c (goes_on h) = Makes c h.outcome
MakesTurn c (done h) = Makes c h.outcome
MakesTurn c (again token h) = Makes c h.outcome

pub makes_joined : (c : ControlState) (h k : Handled) → Makes c h.outcome → Makes (left_by h) k.outcome → Makes c (joined h k).outcome
makes_joined c h k m n = (names_then c.next (left_by h).next (left_by k).next h.outcome.edits k.outcome.edits m.0 n.0, n.1)

makes_before : (c : ControlState) (h : Handled) (t : Turn) → Makes c h.outcome → MakesTurn (left_by h) t → MakesTurn c (before h t)
makes_before c h (goes_on k) m n = makes_joined c h k m n
makes_before c h (done k) m n = makes_joined c h k m n
makes_before c h (again token k) m n = makes_joined c h k m n

makes_then : (c : ControlState) (t : Turn) (f : ControlState → Turn) → MakesTurn c t → ((d : ControlState) → Has d → MakesTurn d (f d)) → MakesTurn c (and_then t f)
makes_then c (goes_on h) f m rest = makes_before c h (f (left_by h)) m (rest (left_by h) m.1)
makes_then c (done h) f m rest = m
makes_then c (again token h) f m rest = m

makes_part : (c : ControlState) (t : Turn) → MakesTurn c t → MakesTurn c (as_part t)
makes_part c (goes_on h) m = m
makes_part c (done h) m = m
makes_part c (again token h) m = m

module _ (follow : Bool → Mode → ControlState → Turn) (present : ControlState → Turn)
    (follow_makes : (f : Bool) (m : Mode) (c : ControlState) → Has c → MakesTurn c (follow f m c))
    (present_makes : (c : ControlState) → Has c → MakesTurn c (present c))
    (fostering : Bool) (t : Token) where
  makes_act : (a : RowAct) (c : ControlState) → Has c → MakesTurn c (carry follow present fostering t a c)
  makes_act act.Done c h = makes_none c h
  makes_act act.Again c h = makes_none c h
  makes_act (act.AgainAs name) c h = makes_none c h
  makes_act (act.As m) c h = makes_part c (follow fostering m c) (follow_makes fostering m c h)
  makes_act (act.AsFostered m) c h = makes_part c (follow true m c) (follow_makes true m c h)
  makes_act act.AsPresent c h = makes_part c (present c) (present_makes c h)
  makes_act act.Stop c h = makes_none c h
  makes_act (act.Lexer rest) c h = makes_none c h
  makes_act other c h = making_step fostering t other c h

  pub makes_plan : (plan : Plan) (c : ControlState) → Has c → MakesTurn c (carry_plan follow present fostering t plan c)
  makes_plan ends c h = makes_none c h
  makes_plan (a ⨾ plan) c h = makes_then c (carry follow present fostering t a c) (carry_plan follow present fostering t plan) (makes_act a c h) (makes_plan plan)
  makes_plan (when test plan rest) c h = go (holds t test c) (makes_plan plan c h) (makes_plan rest)
    where
      go : (b : Bool) → MakesTurn c (carry_plan follow present fostering t plan c) → ((d : ControlState) → Has d → MakesTurn d (carry_plan follow present fostering t rest d))
          → MakesTurn c (and_then (if b then carry_plan follow present fostering t plan c else goes_on (unchanged c)) (carry_plan follow present fostering t rest))
      go true m on = makes_then c (carry_plan follow present fostering t plan c) (carry_plan follow present fostering t rest) m on
      go false m on = makes_then c (goes_on (unchanged c)) (carry_plan follow present fostering t rest) (makes_none c h) on
  makes_plan (unless test plan rest) c h = go (holds t test c) (makes_plan plan c h) (makes_plan rest)
    where
      go : (b : Bool) → MakesTurn c (carry_plan follow present fostering t plan c) → ((d : ControlState) → Has d → MakesTurn d (carry_plan follow present fostering t rest d))
          → MakesTurn c (and_then (if b then goes_on (unchanged c) else carry_plan follow present fostering t plan c) (carry_plan follow present fostering t rest))
      go true m on = makes_then c (goes_on (unchanged c)) (carry_plan follow present fostering t rest) (makes_none c h) on
      go false m on = makes_then c (carry_plan follow present fostering t plan c) (carry_plan follow present fostering t rest) m on

makes_rules : (depth : ℕ) (t : Token) (fostering : Bool) (m : Mode) (c : ControlState) → Has c → MakesTurn c (rules depth t fostering m c)
unfolding rules
makes_rules zero t fostering m c h = makes_none c h
makes_rules (suc depth) t fostering m c h =
    makes_plan (rules depth t) nothing_more (λ f n d k. makes_rules depth t f n d k) (λ d k. makes_none d k) fostering t (plan_for (every_mode_rows m) (kind_of t)) c h

pub makes_turn : (t : Token) (c : ControlState) → Has c → MakesTurn c (turn t c)
unfolding turn
makes_turn t c h = enters (is_head_mode c.mode) (if is_foreign (kind_of t) c.stack then foreign_turn t c else mode_turn t c.mode c) (go (is_foreign (kind_of t) c.stack))
  where
    enters : (b : Bool) (u : Turn) → MakesTurn c u → MakesTurn c (before (plainly (if b then touching headed (becomes c) else becomes c)) u)
    enters true u m = makes_before c (plainly (touching headed (becomes c))) u (makes_none c h) m
    enters false u m = makes_before c (plainly (becomes c)) u (makes_none c h) m

    go : (b : Bool) → MakesTurn c (if b then foreign_turn t c else mode_turn t c.mode c)
    go true = makes_plan (rules 4 t) (mode_turn t c.mode) (λ f n d k. makes_rules 4 t f n d k) (λ d k. makes_rules 4 t false c.mode d k) false t (plan_for foreign (kind_of t)) c h
    go false = makes_rules 4 t false c.mode c h
