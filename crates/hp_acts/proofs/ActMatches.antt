-- Each act of a row does by its plan what it does to the whole state, its edits but for how texts are joined.
use Rattle.std.proofs.Common.{◌≡◌, Bool, true, Option, None, Some, refl, sym, ap, ◌∙◌}
use Rattle.std.specs.Prelude.{Result, Ok, Err, map}
use Rattle.std.specs.List.{list_any}
use Rattle.std.specs.Option.{is_some}
use Rattle.std.proofs.lemmas.Bool.{true≢false}
use Rattle.hp_elements.specs.declared.act.Act.{Act}
use Rattle.hp_elements.specs.declared.act.Act.TheVariants as act
use Rattle.hp_elements.specs.declared.sets.Namespace.{Namespace}
use Rattle.hp_elements.specs.declared.sets.Namespace.TheVariants.{Html}
use Rattle.hp_elements.specs.declared.tag.Tag.{Tag}
use Rattle.hp_elements.specs.declared.token.Token.{Token}
use Rattle.hp_elements.specs.declared.token.Token.TheVariants as token
use Rattle.hp_control.specs.declared.question.Crossing.{Crossing}
use Rattle.hp_control.specs.Apply.{named_edit}
use Rattle.hp_control.specs.Composed.{flush}
use Rattle.hp_control.specs.Faithful.{FaithfulWhere, Split}
use Rattle.hp_control.specs.Outcome.{Act as StateAct, Outcome, is_older, is_touch}
use Rattle.hp_control.specs.Plan.{Plan}
use Rattle.hp_control.specs.States.{ControlState}
use Rattle.hp_groves.specs.Joining.{Through}
use Rattle.hp_adoption.specs.FlushActs.{MeansAs, flush_at_once}
use Rattle.hp_adoption.specs.FlushMeans.{flushes_at_once}
use Rattle.hp_model.proofs.JoinedTexts.{join-behind}
use Rattle.hp_model.specs.Steps.{step}
use Rattle.hp_model.specs.Tokens.{tag_of}
use Rattle.hp_model.specs.Whole.{IsRead}
use Rattle.hp_acts.specs.ActLaws.{MeansBy, step_at_once}
use Rattle.hp_acts.specs.Plans.{act_plan, by_plan}
use Rattle.hp_acts.specs.Spending.{html_tag}
use Rattle.hp_acts.proofs.Matching.{MatchesAlike}
use Rattle.hp_acts.proofs.RowMatches.{is_row_act}

-- the tag of a token as the lexer reads it is an HTML one
tag_html : (tag : Tag) (space : Namespace) → tag.namespace ≡ space → (record { namespace = space; name = tag.name; attributes = tag.attributes }) ≡ tag
tag_html tag space e = ap (λ x. record { namespace = x; name = tag.name; attributes = tag.attributes }) (sym e)

pub read_html : (t : Token) → IsRead t → html_tag t ≡ tag_of t
read_html (token.Start self_closing tag) h = tag_html tag Html h
read_html (token.EndTag name) h = refl
read_html _ h = refl

pub by_its_plan : (fit : Split → Bool) (o : Option (Split → Plan Split)) (f : StateAct) → is_some o ≡ true → MeansBy fit o f → FaithfulWhere fit (by_plan o) f
by_its_plan fit (Some plan) f h m = m
by_its_plan fit None f h m = absurd (true≢false (sym h))

-- each act of a row has a plan
pub planned : (fostering : Bool) (t : Token) (a : Act) → is_row_act a ≡ true → is_some (act_plan fostering t a) ≡ true
planned fostering t act.Done h = refl
planned fostering t _ h = refl

-- what an act does, its edits but for how texts are joined
alike_flush : (s : ControlState) (d : Split) (end : Result Split Crossing) (o p : Outcome) → MeansAs o p → MatchesAlike s d end o → MatchesAlike s d end p
alike_flush s d (Ok w) o p e m = record {
  control = m.control ∙ e.control;
  edits = Through _ _ _ m.edits (join-behind (map (named_edit s) d.edits) o.edits p.edits e.edits);
  own = sym (ap (λ l. list_any (is_older s) l) e.touched) ∙ m.own;
  stands = m.stands;
}
alike_flush s d (Err crossing) o p e m = sym (ap (λ l. list_any (is_touch s crossing) l) e.touched) ∙ m

pub act_alike : (s : ControlState) (fostering : Bool) (t : Token) (a : Act) (c : ControlState) (d : Split) (end : Result Split Crossing) → MatchesAlike s d end (step_at_once fostering t a c) → MatchesAlike s d end (step fostering t a c)
act_alike s fostering t act.Flush c d end m = alike_flush s d end (flush_at_once c) (flush c) (flushes_at_once c) m
act_alike s fostering t _ c d end m = m

pub spared_alike : (fostering : Bool) (t : Token) (a : Act) (c : ControlState) → (step_at_once fostering t a c).spared ≡ (step fostering t a c).spared
spared_alike fostering t act.Flush c = (flushes_at_once c).spared
spared_alike fostering t _ c = refl
