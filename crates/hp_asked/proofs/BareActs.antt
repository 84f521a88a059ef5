-- No row of the rules, and no turn of a token, reads what a view edited so far.
use Rattle.std.proofs.Common.{◌≡◌, ℕ, zero, suc, ◌+◌, nat_lt, Bool, true, false, List, [], ◌∷◌, Option, None, Some, refl, ap, ◌∙◌}
use Rattle.std.specs.Prelude.{if◌then◌else◌}
use Rattle.hp_elements.specs.Rules.{acts_for}
use Rattle.hp_elements.specs.Tokens.{kind_of}
use Rattle.hp_elements.specs.declared.act.Act.{Act}
use Rattle.hp_elements.specs.declared.act.Act.TheVariants as act
use Rattle.hp_elements.specs.declared.kinds.Kinds.TheVariants as kinds
use Rattle.hp_elements.specs.declared.known.Known.{Known}
use Rattle.hp_elements.specs.KnownNames as known
use Rattle.hp_elements.specs.declared.sets.SetName.TheVariants as sets
use Rattle.hp_elements.specs.Names.{known_of, text_of}
use Rattle.hp_elements.specs.Quirks.{gives_quirks}
use Rattle.hp_elements.specs.declared.act.Test.{Test}
use Rattle.hp_elements.specs.declared.act.Test.TheVariants as test
use Rattle.hp_elements.specs.declared.token.Kind.{Kind}
use Rattle.hp_elements.specs.declared.token.Mode.{Mode}
use Rattle.hp_elements.specs.declared.token.Token.{Token}
use Rattle.hp_control.specs.declared.element.OpenElement.{OpenElement}
use Rattle.hp_control.specs.declared.question.Crossing.TheVariants.{X4}
use Rattle.hp_control.specs.declared.edit.Child.TheVariants as child
use Rattle.hp_control.specs.Composed.{implied_but}
use Rattle.hp_control.specs.Faithful.{Split}
use Rattle.hp_control.specs.Foreign.{is_end_of_input, replaced}
use Rattle.hp_control.specs.Plan.{Plan, gives, crosses, followed_by}
use Rattle.hp_foreign.specs.Plans.{goes_on, goes_plan, older_goes}
use Rattle.hp_views.specs.ClosingPlans.{leaves_it}
use Rattle.hp_views.specs.FieldPlans.{quirks_plan}
use Rattle.hp_model.specs.Tokens.{bare as bare_tag, characters, comment, is_self_closing, name_for, name_of, parts_of, tag_of}
use Rattle.hp_rules_rest.specs.Foreign.{foreign}
use Rattle.hp_rules_rest.specs.Whole.{every_mode_rows}
use Rattle.hp_acts.specs.HandlePlans.{all_turns_plan, handle_plan, handle_rest, most_turns, turns_plan, where_again, without_line_feed}
use Rattle.hp_acts.specs.Handling.{nothing_asked, unskipped}
use Rattle.hp_acts.specs.Plans.{act_plan, by_plan, close_plan, field_plan, implied_but_plan, test_plan}
use Rattle.hp_acts.specs.Spending.{html_tag}
use Rattle.hp_acts.specs.RowPlans.{Came, Reached, act_then, acts_plan, again, changed, dispatched, is_early, left, mode_plan, nothing_more, rules_plan, stopping, switching, turn_plan, where_left}
use Rattle.hp_asked.proofs.Bare.{IsBlind, bare, blind-then, same-then, told_as}
use Rattle.hp_asked.proofs.BareViews.{add_body-blind, add_first-blind, clear-blind, close_paragraph-blind, detach-blind, empty_pending-blind, end_form-blind, head-blind, insert-blind, leaves-blind, listed-bare, pop-blind, pop_mode-blind, pop_to-blind, pop_to_first-blind, push_head-blind, put-blind, quirks-blind, replace_mode-blind, reset-blind, run-blind, second-bare, take_head-blind, through-blind}
use Rattle.hp_asked.proofs.BareLists.{adopt-blind, append-blind, close_link-blind, flush-blind, insert_as_current-blind, insert_foreign-blind, reconstruct-blind}

-- where there is a plan
abbrev IsBlindIf : Option (Split → Plan Split) → Type 0
IsBlindIf None = Unit {0}
IsBlindIf (Some p) = IsBlind p

field-blind : (a : Act) → IsBlindIf (field_plan a)
field-blind (act.Switch m) = λ v. refl
field-blind act.KeepOriginal = λ v. refl
field-blind act.ToOriginal = λ v. refl
field-blind act.Reset = reset-blind
field-blind act.Marker = λ v. refl
field-blind act.ClearToMarker = clear-blind
field-blind (act.PushTemplateMode m) = λ v. refl
field-blind (act.ReplaceTemplateMode m) = replace_mode-blind m
field-blind act.PopTemplateMode = pop_mode-blind
field-blind act.SkipLineFeed = λ v. refl
field-blind act.FormPointer = λ v. refl
field-blind act.HeadPointer = head-blind
field-blind act.PushHead = push_head-blind
field-blind act.TakeHeadOff = take_head-blind
field-blind act.Quirks = quirks-blind
field-blind act.EmptyPending = empty_pending-blind
field-blind act.Flush = flush-blind
field-blind _ = leaves-blind

implied-but : (o : Option Known) → IsBlind (implied_but_plan o)
implied-but None = run-blind (kinds.Set sets.Implied)
implied-but (Some name) = run-blind (kinds.Set (implied_but name))

close-blind : (fostering : Bool) (t : Token) (a : Act) → IsBlindIf (close_plan fostering t a)
close-blind fostering t act.Pop = pop-blind
close-blind fostering t (act.PopTo names) = pop_to-blind (kinds.Set names)
close-blind fostering t act.PopToFirst = pop_to_first-blind
close-blind fostering t act.PopToPoint = pop_to-blind kinds.HtmlOrPoint
close-blind fostering t (act.Through which) = through-blind (kinds.Html (name_for t which)) kinds.Nothing
close-blind fostering t (act.ThroughFirstOf names) = through-blind (kinds.Set names) kinds.Nothing
close-blind fostering t act.ThroughForeign = through-blind (kinds.Foreign (name_of t)) kinds.AnyHtml
close-blind fostering t act.Implied = run-blind (kinds.Set sets.Implied)
close-blind fostering t (act.ImpliedExcept which) = implied-but (known_of (name_for t which))
close-blind fostering t act.ImpliedThoroughly = run-blind (kinds.Set sets.ThoroughlyImplied)
close-blind fostering t act.CloseParagraph = close_paragraph-blind
close-blind fostering t act.CloseItem = through-blind (kinds.Html (text_of known.Li)) (kinds.Set sets.ItemBarriers)
close-blind fostering t act.CloseDescription = through-blind (kinds.Set sets.DescriptionItems) (kinds.Set sets.ItemBarriers)
close-blind fostering t act.Walk = through-blind (kinds.Html (name_of t)) (kinds.Set sets.Special)
close-blind fostering t act.EndForm = end_form-blind
close-blind fostering t act.DetachBody = detach-blind
close-blind fostering t (act.Adopt which) = adopt-blind fostering (name_for t which)
close-blind fostering t act.CloseLink = close_link-blind fostering
close-blind fostering t other = field-blind other

quirks-if : (b : Bool) → IsBlind (if b then quirks_plan else leaves_it)
quirks-if true = quirks-blind
quirks-if false = leaves-blind

act-blind : (fostering : Bool) (t : Token) (a : Act) → IsBlindIf (act_plan fostering t a)
act-blind fostering t act.Characters = put-blind fostering (child.Text (characters t))
act-blind fostering t act.Insert = insert-blind fostering (html_tag t)
act-blind fostering t (act.InsertBare name) = insert-blind fostering (bare_tag (text_of name))
act-blind fostering t act.InsertForeign = insert_foreign-blind fostering (is_self_closing t) (html_tag t)
act-blind fostering t act.InsertAsCurrent = insert_as_current-blind fostering (is_self_closing t) (html_tag t)
act-blind fostering t act.InsertHtml = λ v. refl
act-blind fostering t act.InsertBareHtml = λ v. refl
act-blind fostering t act.Comment = put-blind fostering (child.Comment (comment t))
act-blind fostering t act.CommentIntoDocument = λ v. refl
act-blind fostering t act.CommentIntoFirst = λ v. refl
act-blind fostering t act.Replacement = put-blind fostering (child.Text (replaced (characters t)))
act-blind fostering t act.AppendPending = λ v. refl
act-blind fostering t act.AddMissingToFirst = add_first-blind (tag_of t).attributes
act-blind fostering t act.AddMissingToBody = add_body-blind (tag_of t).attributes
act-blind fostering t act.PutDoctype = λ v. refl
act-blind fostering t act.QuirksOfDoctype = quirks-if (gives_quirks (parts_of t))
act-blind fostering t act.FramesetNotOk = λ v. refl
act-blind fostering t act.Reconstruct = reconstruct-blind fostering
act-blind fostering t act.AppendToList = append-blind (html_tag t)
act-blind fostering t other = close-blind fostering t other

by-blind : (o : Option (Split → Plan Split)) → IsBlindIf o → IsBlind (by_plan o)
by-blind None h v = refl
by-blind (Some p) h v = h v

-- how far a token's handling is, without the edits
abbrev pub bare_reached : Reached → Reached
bare_reached r = record r { split = bare r.split }

abbrev pub bare_came : Came → Came
bare_came (left r) = left (bare_reached r)
bare_came (again t r) = again t (bare_reached r)

abbrev pub RowsAlike : (Reached → Plan Came) → Type 0
RowsAlike p = (r : Reached) → told_as bare_came (p r) ≡ told_as bare_came (p (bare_reached r))

left-alike : (next : Reached → Plan Came) → RowsAlike next → (c : Came) → told_as bare_came (where_left next c) ≡ told_as bare_came (where_left next (bare_came c))
left-alike next h (left r) = h r
left-alike next h (again t r) = refl

test-bare : (t : Token) (x : Test) (v : Split) → test_plan t x v ≡ test_plan t x (bare v)
test-bare t test.SecondIsBody v = second-bare v
test-bare t (test.Listed name) v = listed-bare (text_of name) v
test-bare t _ v = refl

tested-alike : (t : Token) (x : Test) (go : Bool → Reached → Plan Came) → ((b : Bool) → RowsAlike (go b)) → RowsAlike (λ r. followed_by (test_plan t x r.split) (λ b. go b r))
tested-alike t x go h r =
    same-then bare_came (test_plan t x r.split) (λ b. go b r) (λ b. go b (bare_reached r)) (λ b. h b r)
    ∙ ap (λ p. told_as bare_came (followed_by p (λ b. go b (bare_reached r)))) (test-bare t x r.split)

module _ (follow : Bool → Mode → Reached → Plan Came) (present : Reached → Plan Came) (fostering : Bool) (t : Token) (follows : (b : Bool) (m : Mode) → RowsAlike (follow b m)) (presents : RowsAlike present) where
  -- the act at a place, and then the rest of its row
  then-alike : (a : Act) (at : ℕ) (go : ℕ → Reached → Plan Came) → ((n : ℕ) → RowsAlike (go n)) → RowsAlike (act_then follow present fostering t a at go)
  then-alike act.Done at go h r = refl
  then-alike act.Again at go h r = refl
  then-alike (act.AgainAs name) at go h r = refl
  then-alike (act.As m) at go h r = blind-then bare_came bare_came (follow fostering m r) (follow fostering m (bare_reached r)) (where_left (go (at + 1))) (follows fostering m r) (left-alike (go (at + 1)) (h (at + 1)))
  then-alike (act.AsFostered m) at go h r = blind-then bare_came bare_came (follow true m r) (follow true m (bare_reached r)) (where_left (go (at + 1))) (follows true m r) (left-alike (go (at + 1)) (h (at + 1)))
  then-alike act.AsPresent at go h r = blind-then bare_came bare_came (present r) (present (bare_reached r)) (where_left (go (at + 1))) (presents r) (left-alike (go (at + 1)) (h (at + 1)))
  then-alike (act.If test otherwise) at go h r = tested-alike t test (λ holds. go (if holds then at + 1 else otherwise)) (λ holds. h (if holds then at + 1 else otherwise)) r
  then-alike (act.Unless test otherwise) at go h r = tested-alike t test (λ holds. go (if holds then otherwise else at + 1)) (λ holds. h (if holds then otherwise else at + 1)) r
  then-alike act.Stop at go h r = h (at + 1) (stopping r)
  then-alike (act.Lexer rest) at go h r = h (at + 1) (switching rest r)
  then-alike other at go h r =
      blind-then bare bare_came (by_plan (act_plan fostering t other) r.split) (by_plan (act_plan fostering t other) (bare r.split)) (λ v. go (at + 1) (changed r v))
      (by-blind (act_plan fostering t other) (act-blind fostering t other) r.split) (λ v. h (at + 1) (changed r v))

  passed-alike : (b : Bool) (p q : Reached → Plan Came) → RowsAlike p → RowsAlike q → RowsAlike (λ r. if b then p r else q r)
  passed-alike true p q h k r = h r
  passed-alike false p q h k r = k r

  acts-alike : (at next : ℕ) (acts : List Act) → RowsAlike (acts_plan follow present fostering t at next acts)
  acts-alike at next [] r = refl
  acts-alike at next (a ∷ acts) r =
      passed-alike (nat_lt at next) (acts_plan follow present fostering t (at + 1) next acts) (act_then follow present fostering t a at (λ place. acts_plan follow present fostering t (at + 1) place acts))
      (acts-alike (at + 1) next acts) (then-alike a at (λ place. acts_plan follow present fostering t (at + 1) place acts) (λ place. acts-alike (at + 1) place acts)) r

rules-alike : (depth : ℕ) (t : Token) (fostering : Bool) (m : Mode) → RowsAlike (rules_plan depth t fostering m)
unfolding rules_plan
rules-alike zero t fostering m r = refl
rules-alike (suc depth) t fostering m r = acts-alike (rules_plan depth t) nothing_more fostering t (rules-alike depth t) (λ s. refl) 0 0 (acts_for (every_mode_rows m) (kind_of t)) r

dispatched-alike : (b : Bool) (t : Token) (m : Mode) → RowsAlike (λ r. dispatched t m r b)
dispatched-alike true t m r = acts-alike (rules_plan 4 t) (mode_plan t m) false t (rules-alike 4 t) (rules-alike 4 t false m) 0 0 (acts_for foreign (kind_of t)) r
dispatched-alike false t m r = rules-alike 4 t false m r

goes-end : (b : Bool) (token : Kind) (v : Split) → (if b then gives false else older_goes token v) ≡ (if b then gives false else older_goes token (bare v))
goes-end true token v = refl
goes-end false token v = refl

goes-on : (token : Kind) (stack : List OpenElement) (v : Split) → goes_on token v stack ≡ goes_on token (bare v) stack
goes-on token [] v = goes-end (is_end_of_input token) token v
goes-on token (e ∷ es) v = refl

early-alike : (b : Bool) (t : Token) (r : Reached)
    → told_as bare_came (if b then crosses X4 else followed_by (goes_plan (kind_of t) r.split) (dispatched t r.split.change.mode r)) ≡ told_as bare_came (if b then crosses X4 else followed_by (goes_plan (kind_of t) (bare r.split)) (dispatched t r.split.change.mode (bare_reached r)))
early-alike true t r = refl
early-alike false t r =
    same-then bare_came (goes_plan (kind_of t) r.split) (dispatched t r.split.change.mode r) (dispatched t r.split.change.mode (bare_reached r)) (λ b. dispatched-alike b t r.split.change.mode r)
    ∙ ap (λ p. told_as bare_came (followed_by p (dispatched t r.split.change.mode (bare_reached r)))) (goes-on (kind_of t) r.split.change.stack r.split)

turn-alike : (t : Token) → RowsAlike (turn_plan t)
unfolding turn_plan
turn-alike t r = early-alike (is_early r.split.page r.split.change.mode) t r

abbrev HandledAlike : (Reached → Plan Reached) → Type 0
HandledAlike p = (r : Reached) → told_as bare_reached (p r) ≡ told_as bare_reached (p (bare_reached r))

again-alike : (next : Token → Reached → Plan Reached) → ((t : Token) → HandledAlike (next t)) → (c : Came) → told_as bare_reached (where_again next c) ≡ told_as bare_reached (where_again next (bare_came c))
again-alike next h (left r) = refl
again-alike next h (again t r) = h t r

turns-alike : (n : ℕ) (t : Token) → HandledAlike (turns_plan n t)
unfolding turns_plan
turns-alike zero t r = refl
turns-alike (suc n) t r = blind-then bare_came bare_reached (turn_plan t r) (turn_plan t (bare_reached r)) (where_again (turns_plan n)) (turn-alike t r) (again-alike (turns_plan n) (turns-alike n))

pub turned-alike : (t : Token) (v : Split) → told_as bare_reached (all_turns_plan t v) ≡ told_as bare_reached (all_turns_plan t (bare v))
turned-alike t v = turns-alike (most_turns v) t (record { split = v; handled = nothing_asked })

rest-alike : (o : Option Token) (v : Split) → told_as bare_reached (handle_rest o v) ≡ told_as bare_reached (handle_rest o (bare v))
rest-alike None v = refl
rest-alike (Some t) v = turned-alike t v

skipped-alike : (b : Bool) (t : Token) (v : Split)
    → told_as bare_reached (if b then handle_rest (without_line_feed t) (unskipped v) else all_turns_plan t v) ≡ told_as bare_reached (if b then handle_rest (without_line_feed t) (unskipped (bare v)) else all_turns_plan t (bare v))
skipped-alike true t v = rest-alike (without_line_feed t) (unskipped v)
skipped-alike false t v = turned-alike t v

-- the handling of a token
pub handled-alike : (t : Token) (v : Split) → told_as bare_reached (handle_plan t v) ≡ told_as bare_reached (handle_plan t (bare v))
handled-alike t v = skipped-alike v.change.skip_lf t v
