-- The straight way of a usual row comes to the same as the table's.
use Rattle.std.proofs.Common.{◌≡◌, ℕ, suc, ◌-◌, ◌<◌, true, false, List, [], ◌∷◌, Option, Some, None, Result, Ok, Err, refl, ap, sym, subst, ◌∙◌, arith, inl, inr}
use Rattle.std.specs.Prelude.{Bool, IfSome, if◌then◌else◌, not, ◌||◌, ◌&&◌}
use Rattle.std.specs.Result.{IsErrAnd}
use Rattle.hp_elements.specs.Names as names
use Rattle.hp_elements.specs.Names.{known_of, text_of}
use Rattle.hp_elements.specs.Rules.{acts_for}
use Rattle.hp_elements.specs.Tokens.{kind_of}
use Rattle.hp_elements.specs.declared.act.Act.{Act}
use Rattle.hp_elements.specs.declared.act.Act.TheVariants as act
use Rattle.hp_elements.specs.declared.act.Scope.TheVariants as scope
use Rattle.hp_elements.specs.declared.act.Which.TheVariants.{Its, Named}
use Rattle.hp_elements.specs.declared.kinds.Kinds.TheVariants as kinds
use Rattle.hp_elements.specs.KnownNames as known
use Rattle.hp_elements.specs.declared.sets.SetName.TheVariants as set
use Rattle.hp_elements.specs.declared.token.Kind.{Kind}
use Rattle.hp_elements.specs.declared.token.Mode.{Mode}
use Rattle.hp_elements.specs.declared.token.Mode.TheVariants as mode
use Rattle.hp_elements.specs.declared.token.Token.{Token}
use Rattle.hp_control.specs.declared.change.Refusal.{Refusal}
use Rattle.hp_control.specs.declared.change.Refusal.TheVariants.{Crossed, NoMemory}
use Rattle.hp_control.specs.declared.element.OpenElement.{OpenElement}
use Rattle.hp_control.specs.Faithful.{Page, Split}
use Rattle.hp_control.specs.Foreign.{enters, is_annotation, is_end_of_input, is_svg_start}
use Rattle.hp_control.specs.Plan.{Plan, Heard, gives, followed_by, Runs}
use Rattle.hp_control.specs.Running.{runs_crosses, runs_gives, runs_then}
use Rattle.hp_adoption.specs.ArkPlans.{append_to_list_plan}
use Rattle.hp_adoption.specs.LinkPlans.{close_link_plan}
use Rattle.hp_adoption.specs.ReconPlans.{reconstruct_plan}
use Rattle.hp_foreign.specs.Plans.{goes_on, goes_plan}
use Rattle.hp_rules_body.specs.Body.{in_body}
use Rattle.hp_rules_table.specs.TableModes.{in_cell, in_row, in_table_body}
use Rattle.hp_rules_rest.specs.Whole.{every_mode_rows}
use Rattle.hp_views.specs.ClosingPlans.{close_description_plan, close_item_plan, close_paragraph_plan, implied_except_plan, implied_plan}
use Rattle.hp_views.specs.FieldPlans.{frameset_plan, switch_plan}
use Rattle.hp_views.specs.ListPlans.{clear_plan, marker_plan}
use Rattle.hp_views.specs.PlacePlans.{insert_plan}
use Rattle.hp_views.specs.StackPlans.{in_scope_plan, pop_plan, pop_to_plan, through_plan}
use Rattle.hp_views.specs.View.{Sight, Carries, Finds}
use Rattle.hp_model.specs.Texts.{has_html_top}
use Rattle.hp_model.specs.Tokens.{bare, name_of}
use Rattle.hp_acts.specs.Carrying.{Comes}
use Rattle.hp_acts.specs.HandlePlans.{all_turns_plan, handle_plan, handle_rest, most_turns, turns_plan, where_again, without_line_feed}
use Rattle.hp_acts.specs.Handling.{Handles, nothing_asked, unskipped}
use Rattle.hp_acts.specs.RowPlans.{Reached, Came, left, acts_plan, changed, dispatched, is_early, mode_plan, nothing_more, rules_plan, turn_plan, where_left}
use Rattle.hp_acts.specs.Plans.{implied_but_plan}
use Rattle.hp_acts.specs.TableText.{turns_from}
use Rattle.hp_acts.specs.declared.turns.Handled.{Handled}
use Rattle.hp_acts.specs.Spending.{html_tag}
use Rattle.hp_acts.specs.Usual.{HasIn, HasRow, IsUsual, block_end_by, cell_end_by, description_end_by, item_end_by, paragraph_end_by, row_end_by, usual_acts, usual_plan}
use Rattle.hp_acts.specs.declared.usual.Closing.TheVariants as closing
use Rattle.hp_acts.specs.declared.usual.Opening.TheVariants as opening
use Rattle.hp_acts.specs.declared.usual.TablePart.TheVariants as part
use Rattle.hp_acts.specs.declared.usual.UsualRow.{UsualRow}
use Rattle.hp_acts.specs.declared.usual.UsualRow.TheVariants.{Begins, Closes, Ends, Opens}
use Rattle.hp_acts.proofs.PlainRuns.{first_refused, follow_assoc}
use Rattle.hp_acts.proofs.TurnRuns.{turn_by, turn_on, turns_next}

abbrev ended : Reached → Split → Plan Came
ended r v = gives (left (changed r v))

three : {X Y Z W : Type 0} (p : Plan X) (f : X → Plan Y) (h : Y → Plan Z) (g : Z → Plan W)
    → followed_by (followed_by p (λ x. followed_by (f x) h)) g ≡ followed_by p (λ x. followed_by (f x) (λ y. followed_by (h y) g))
three {X} {Y} {Z} {W} p f h g = follow_assoc p (λ x. followed_by (f x) h) g ∙ ap (λ (next : X → Plan W). followed_by p next) (λ i. λ x. follow_assoc (f x) h g i)

four : {X Y Z W V : Type 0} (p : Plan X) (f : X → Plan Y) (h : Y → Plan Z) (k : Z → Plan W) (g : W → Plan V)
    → followed_by (followed_by p (λ x. followed_by (f x) (λ y. followed_by (h y) k))) g ≡ followed_by p (λ x. followed_by (f x) (λ y. followed_by (h y) (λ z. followed_by (k z) g)))
four {X} {Y} {Z} {W} {V} p f h k g = follow_assoc p (λ x. followed_by (f x) (λ y. followed_by (h y) k)) g ∙ ap (λ (next : X → Plan V). followed_by p next) (λ i. λ x. three (f x) h k g i)

abbrev Same : ℕ → UsualRow → Token → Reached → Type 0
Same depth row t r = followed_by (usual_plan row t r.split) (ended r) ≡ acts_plan (rules_plan depth t) nothing_more false t 0 0 (usual_acts row) r

block_row : (depth : ℕ) (t : Token) (r : Reached) → Same depth (Opens opening.Block) t r
block_row depth t r = follow_assoc (close_paragraph_plan r.split) (insert_plan false (html_tag t)) (ended r)

item_row : (depth : ℕ) (t : Token) (r : Reached) → Same depth (Opens opening.Item) t r
item_row depth t r = four (frameset_plan r.split) close_item_plan close_paragraph_plan (insert_plan false (html_tag t)) (ended r)

link_row : (depth : ℕ) (t : Token) (r : Reached) → Same depth (Opens opening.Link) t r
link_row depth t r = four (close_link_plan false r.split) (reconstruct_plan false) (insert_plan false (html_tag t)) (append_to_list_plan (html_tag t)) (ended r)

formatting_row : (depth : ℕ) (t : Token) (r : Reached) → Same depth (Opens opening.Formatting) t r
formatting_row depth t r = three (reconstruct_plan false r.split) (insert_plan false (html_tag t)) (append_to_list_plan (html_tag t)) (ended r)

ordinary_row : (depth : ℕ) (t : Token) (r : Reached) → Same depth (Opens opening.Ordinary) t r
ordinary_row depth t r = follow_assoc (reconstruct_plan false r.split) (insert_plan false (html_tag t)) (ended r)

block_rest : (depth : ℕ) (t : Token) (r : Reached) (b : Bool) → followed_by (block_end_by (name_of t) r.split b) (ended r) ≡ acts_plan (rules_plan depth t) nothing_more false t 1 (if b then 1 else 3) (act.Implied ∷ act.Through Its ∷ []) r
block_rest depth t r true = follow_assoc (implied_plan r.split) (through_plan (kinds.Html (name_of t)) kinds.Nothing) (ended r)
block_rest depth t r false = refl

block_end_row : (depth : ℕ) (t : Token) (r : Reached) → Same depth (Closes closing.Block) t r
block_end_row depth t r =
    follow_assoc (in_scope_plan scope.Default (kinds.Html (name_of t)) r.split) (block_end_by (name_of t) r.split) (ended r)
    ∙ ap (λ (next : Bool → Plan Came). followed_by (in_scope_plan scope.Default (kinds.Html (name_of t)) r.split) next) (λ i. λ b. block_rest depth t r b i)

description_row : (depth : ℕ) (t : Token) (r : Reached) → Same depth (Opens opening.Description) t r
description_row depth t r = four (frameset_plan r.split) close_description_plan close_paragraph_plan (insert_plan false (html_tag t)) (ended r)

description_rest : (depth : ℕ) (t : Token) (r : Reached) (b : Bool) → followed_by (description_end_by (name_of t) r.split b) (ended r) ≡ acts_plan (rules_plan depth t) nothing_more false t 1 (if b then 1 else 3) (act.ImpliedExcept Its ∷ act.Through Its ∷ []) r
description_rest depth t r true = follow_assoc (implied_but_plan (known_of (name_of t)) r.split) (through_plan (kinds.Html (name_of t)) kinds.Nothing) (ended r)
description_rest depth t r false = refl

description_end_row : (depth : ℕ) (t : Token) (r : Reached) → Same depth (Closes closing.Description) t r
description_end_row depth t r =
    follow_assoc (in_scope_plan scope.Default (kinds.Html (name_of t)) r.split) (description_end_by (name_of t) r.split) (ended r)
    ∙ ap (λ (next : Bool → Plan Came). followed_by (in_scope_plan scope.Default (kinds.Html (name_of t)) r.split) next) (λ i. λ b. description_rest depth t r b i)

item_rest : (depth : ℕ) (t : Token) (r : Reached) (b : Bool) → followed_by (item_end_by r.split b) (ended r) ≡ acts_plan (rules_plan depth t) nothing_more false t 1 (if b then 1 else 3) (act.ImpliedExcept (Named known.Li) ∷ act.Through (Named known.Li) ∷ []) r
unfolding names.known_of
item_rest depth t r true = follow_assoc (implied_except_plan known.Li r.split) (through_plan (kinds.Html (text_of known.Li)) kinds.Nothing) (ended r)
item_rest depth t r false = refl

item_end_row : (depth : ℕ) (t : Token) (r : Reached) → Same depth (Closes closing.Item) t r
item_end_row depth t r =
    follow_assoc (in_scope_plan scope.ListItem (kinds.Html (text_of known.Li)) r.split) (item_end_by r.split) (ended r)
    ∙ ap (λ (next : Bool → Plan Came). followed_by (in_scope_plan scope.ListItem (kinds.Html (text_of known.Li)) r.split) next) (λ i. λ b. item_rest depth t r b i)

paragraph_rest : (depth : ℕ) (t : Token) (r : Reached) (b : Bool) → followed_by (paragraph_end_by r.split b) (ended r) ≡ acts_plan (rules_plan depth t) nothing_more false t 1 (if b then 2 else 1) (act.InsertBare known.P ∷ act.CloseParagraph ∷ []) r
paragraph_rest depth t r true = refl
paragraph_rest depth t r false = follow_assoc (insert_plan false (bare (text_of known.P)) r.split) close_paragraph_plan (ended r)

paragraph_end_row : (depth : ℕ) (t : Token) (r : Reached) → Same depth (Closes closing.Paragraph) t r
paragraph_end_row depth t r =
    follow_assoc (in_scope_plan scope.Button (kinds.Html (text_of known.P)) r.split) (paragraph_end_by r.split) (ended r)
    ∙ ap (λ (next : Bool → Plan Came). followed_by (in_scope_plan scope.Button (kinds.Html (text_of known.P)) r.split) next) (λ i. λ b. paragraph_rest depth t r b i)

table_row : (depth : ℕ) (t : Token) (r : Reached) → Same depth (Begins part.Row) t r
table_row depth t r = three (pop_to_plan (kinds.Set set.TableBodyContext) r.split) (insert_plan false (html_tag t)) (switch_plan mode.InRow) (ended r)

table_cell : (depth : ℕ) (t : Token) (r : Reached) → Same depth (Begins part.Cell) t r
table_cell depth t r = four (pop_to_plan (kinds.Set set.TableRowContext) r.split) (insert_plan false (html_tag t)) (switch_plan mode.InCell) marker_plan (ended r)

row_rest : (depth : ℕ) (t : Token) (r : Reached) (b : Bool) → followed_by (row_end_by r.split b) (ended r) ≡ acts_plan (rules_plan depth t) nothing_more false t 1 (if b then 1 else 4) (act.PopTo set.TableRowContext ∷ act.Pop ∷ act.Switch mode.InTableBody ∷ []) r
row_rest depth t r true = three (pop_to_plan (kinds.Set set.TableRowContext) r.split) pop_plan (switch_plan mode.InTableBody) (ended r)
row_rest depth t r false = refl

table_row_end : (depth : ℕ) (t : Token) (r : Reached) → Same depth (Ends part.Row) t r
table_row_end depth t r =
    follow_assoc (in_scope_plan scope.Table (kinds.Html (text_of known.Tr)) r.split) (row_end_by r.split) (ended r)
    ∙ ap (λ (next : Bool → Plan Came). followed_by (in_scope_plan scope.Table (kinds.Html (text_of known.Tr)) r.split) next) (λ i. λ b. row_rest depth t r b i)

cell_rest : (depth : ℕ) (t : Token) (r : Reached) (b : Bool) → followed_by (cell_end_by (name_of t) r.split b) (ended r) ≡ acts_plan (rules_plan depth t) nothing_more false t 1 (if b then 1 else 5) (act.Implied ∷ act.Through Its ∷ act.ClearToMarker ∷ act.Switch mode.InRow ∷ []) r
cell_rest depth t r true = four (implied_plan r.split) (through_plan (kinds.Html (name_of t)) kinds.Nothing) clear_plan (switch_plan mode.InRow) (ended r)
cell_rest depth t r false = refl

table_cell_end : (depth : ℕ) (t : Token) (r : Reached) → Same depth (Ends part.Cell) t r
table_cell_end depth t r =
    follow_assoc (in_scope_plan scope.Table (kinds.Html (name_of t)) r.split) (cell_end_by (name_of t) r.split) (ended r)
    ∙ ap (λ (next : Bool → Plan Came). followed_by (in_scope_plan scope.Table (kinds.Html (name_of t)) r.split) next) (λ i. λ b. cell_rest depth t r b i)

row_runs : (depth : ℕ) (row : UsualRow) (t : Token) (r : Reached) → Same depth row t r
row_runs depth (Opens opening.Block) t r = block_row depth t r
row_runs depth (Opens opening.Item) t r = item_row depth t r
row_runs depth (Opens opening.Description) t r = description_row depth t r
row_runs depth (Opens opening.Link) t r = link_row depth t r
row_runs depth (Opens opening.Formatting) t r = formatting_row depth t r
row_runs depth (Opens opening.Ordinary) t r = ordinary_row depth t r
row_runs depth (Closes closing.Block) t r = block_end_row depth t r
row_runs depth (Closes closing.Item) t r = item_end_row depth t r
row_runs depth (Closes closing.Description) t r = description_end_row depth t r
row_runs depth (Closes closing.Paragraph) t r = paragraph_end_row depth t r
row_runs depth (Closes closing.Formatting) t r = refl
row_runs depth (Closes closing.Ordinary) t r = refl
row_runs depth (Begins part.Row) t r = table_row depth t r
row_runs depth (Begins part.Cell) t r = table_cell depth t r
row_runs depth (Ends part.Row) t r = table_row_end depth t r
row_runs depth (Ends part.Cell) t r = table_cell_end depth t r

-- the row in the body, whose rules are used so deep
body_row : (depth : ℕ) (t : Token) (r : Reached) → rules_plan (suc depth) t false mode.InBody r ≡ acts_plan (rules_plan depth t) nothing_more false t 0 0 (acts_for in_body (kind_of t)) r
unfolding rules_plan every_mode_rows
body_row depth t r = refl

cell_row : (t : Token) (r : Reached) → mode_plan t mode.InCell r ≡ acts_plan (rules_plan 3 t) nothing_more false t 0 0 (acts_for in_cell (kind_of t)) r
unfolding rules_plan every_mode_rows
cell_row t r = refl

pub row_row : (t : Token) (r : Reached) → mode_plan t mode.InRow r ≡ acts_plan (rules_plan 3 t) nothing_more false t 0 0 (acts_for in_row (kind_of t)) r
unfolding rules_plan every_mode_rows
row_row t r = refl

pub section_row : (t : Token) (r : Reached) → mode_plan t mode.InTableBody r ≡ acts_plan (rules_plan 3 t) nothing_more false t 0 0 (acts_for in_table_body (kind_of t)) r
unfolding rules_plan every_mode_rows
section_row t r = refl

acts_run : (depth : ℕ) (row : UsualRow) (t : Token) (r : Reached) (acts : List Act) → acts ≡ usual_acts row → acts_plan (rules_plan depth t) nothing_more false t 0 0 acts r ≡ followed_by (usual_plan row t r.split) (ended r)
acts_run depth row t r acts h = ap (λ xs. acts_plan (rules_plan depth t) nothing_more false t 0 0 xs r) h ∙ sym (row_runs depth row t r)

by_body : (depth : ℕ) (row : UsualRow) (t : Token) (r : Reached) → HasIn in_body t row → rules_plan (suc depth) t false mode.InBody r ≡ followed_by (usual_plan row t r.split) (ended r)
by_body depth row t r h = body_row depth t r ∙ acts_run depth row t r (acts_for in_body (kind_of t)) h

abbrev used_on : Came → Plan Came
used_on = where_left (λ s. gives (left s))

-- where its row uses the rules of the body it goes on behind them, and ends
by_cell : (row : UsualRow) (t : Token) (r : Reached) → HasRow mode.InCell t row → mode_plan t mode.InCell r ≡ followed_by (usual_plan row t r.split) (ended r)
by_cell row t r (inl own) = cell_row t r ∙ acts_run 3 row t r (acts_for in_cell (kind_of t)) own
by_cell row t r (inr used) =
    cell_row t r
    ∙ (ap (λ acts. acts_plan (rules_plan 3 t) nothing_more false t 0 0 acts r) used.0
    ∙ (ap (λ p. followed_by p used_on) (by_body 2 row t r used.1)
    ∙ follow_assoc (usual_plan row t r.split) (ended r) used_on))

by_mode : (m : Mode) (row : UsualRow) (t : Token) (r : Reached) → HasRow m t row → mode_plan t m r ≡ followed_by (usual_plan row t r.split) (ended r)
by_mode mode.InBody row t r h = by_body 3 row t r h
by_mode mode.InTableBody row t r h = section_row t r ∙ acts_run 3 row t r (acts_for in_table_body (kind_of t)) h
by_mode mode.InRow row t r h = row_row t r ∙ acts_run 3 row t r (acts_for in_row (kind_of t)) h
by_mode mode.InCell row t r h = by_cell row t r h
by_mode _ row t r h = absurd h

not_early : (page : Option Page) (m : Mode) (row : UsualRow) (t : Token) → HasRow m t row → is_early page m ≡ false
not_early (Some page) m row t h = refl
not_early None mode.InBody row t h = refl
not_early None mode.InTableBody row t h = refl
not_early None mode.InRow row t h = refl
not_early None mode.InCell row t h = refl
not_early None _ row t h = absurd h

or_true : (a : Bool) → (a || true) ≡ true
or_true true = refl
or_true false = refl

-- nothing is foreign content where the current node is an own HTML element
pub not_foreign : (k : Kind) (v : Split) (stack : List OpenElement) → has_html_top stack ≡ true → goes_on k v stack ≡ gives false
not_foreign k v [] h = absurd (cc)
not_foreign k v (e ∷ es) h =
    ap gives (ap (λ b. not (b || enters e.point k || (is_annotation e && is_svg_start k))) (ap (λ b. is_end_of_input k || b) h ∙ or_true (is_end_of_input k)))

usual_turn : (row : UsualRow) (t : Token) (r : Reached) → IsUsual r.split t row → turn_plan t r ≡ followed_by (usual_plan row t r.split) (ended r)
usual_turn row t r u =
    turn_on t r (not_early r.split.page r.split.change.mode row t u.place)
    ∙ (ap (λ p. followed_by p (dispatched t r.split.change.mode r)) (not_foreign (kind_of t) r.split r.split.change.stack u.top)
    ∙ by_mode r.split.change.mode row t r u.place)

-- the same where it was asked that the token is no foreign content
pub turn_straight : (a b c : Heard) (row : UsualRow) (t out : Token) (v w x : Split) (r : Reached) → is_early v.page v.change.mode ≡ false → Finds (record { heard = a; split = v }) (record { heard = b; split = w }) (goes_plan (kind_of t)) false → HasRow v.change.mode t row
    → Runs b c (usual_plan row t w) (Ok x) → Comes (Ok false) a c (turn_plan t (record r { split = v })) out (record r { split = x })
turn_straight a b c row t out v w x r early f h run =
    let P : Plan Came → Type 0 = λ plan. Runs b c plan (Ok (left (record r { split = x }))) in
    let Q : Split → Type 0 = λ u. Runs b c (usual_plan row t u) (Ok x) in
    turn_by (Ok false) a b c t out (record r { split = v }) (record r { split = x }) false early f.runs
    (subst P (sym (by_mode v.change.mode row t (record r { split = v }) h)) (runs_then (ended (record r { split = v })) (subst Q f.same run) (runs_gives c (left (record r { split = x })))))

pub straight_refused : (result : Result Bool Refusal) (refused : Refusal) (a b : Heard) (new : Sight) (row : UsualRow) (t out : Token) (v w : Split) (r s : Reached) → IsErrAnd result (λ e. e ≡ refused) → is_early v.page v.change.mode ≡ false → Finds (record { heard = a; split = v }) (record { heard = b; split = w }) (goes_plan (kind_of t)) false → HasRow v.change.mode t row
    → Carries (Err refused) (record { heard = b; split = w }) new (usual_plan row t) → Comes result a new.heard (turn_plan t (record r { split = v })) out s
straight_refused (Ok again) refused a b new row t out v w r s is early f h run = absurd is
straight_refused (Err e) refused a b new row t out v w r s is early f h run =
    let R : Refusal → Type 0 = λ x. Comes (Err x) a new.heard (turn_plan t (record r { split = v })) out s in
    subst R (sym is) (by_refusal refused run)
  where
    by_refusal : (x : Refusal) → Carries (Err x) (record { heard = b; split = w }) new (usual_plan row t) → Comes (Err x) a new.heard (turn_plan t (record r { split = v })) out s
    by_refusal NoMemory k = tt
    by_refusal (Crossed crossing) k =
        let P : Plan Came → Type 0 = λ plan. Runs b new.heard plan (Err crossing) in
        let Q : Split → Type 0 = λ u. Runs b new.heard (usual_plan row t u) (Err crossing) in
        turn_by (Err (Crossed crossing)) a b new.heard t out (record r { split = v }) s false early f.runs
        (subst P (sym (by_mode v.change.mode row t (record r { split = v }) h)) (runs_crosses (ended (record r { split = v })) (subst Q f.same k)))

abbrev done_with : Split → Plan Reached
done_with v = gives (record { split = v; handled = nothing_asked })

some_turns : (n : ℕ) (row : UsualRow) (t : Token) (r : Reached) → IsUsual r.split t row → 0 < n → turns_plan n t r ≡ followed_by (usual_plan row t r.split) (λ v. gives (changed r v))
some_turns n row t r u few =
    let all : n ≡ n - 0 = omega arith in
    ap (λ k. turns_plan k t r) all
    ∙ (turns_next n 0 t r few
    ∙ (ap (λ p. followed_by p (where_again (turns_plan (n - 1)))) (usual_turn row t r u)
    ∙ follow_assoc (usual_plan row t r.split) (ended r) (where_again (turns_plan (n - 1)))))

-- the same of the plan where the token is handled
pub handles_as : (result : Result Handled Refusal) (old new : Sight) (p q : Split → Plan Reached) → q old.split ≡ p old.split → Handles result old new p → Handles result old new q
handles_as (Ok handled) old new p q e k = let P : Plan Reached → Type 0 = λ plan. Runs old.heard new.heard plan (Ok (record { split = new.split; handled = handled })) in subst P (sym e) k
handles_as (Err (Crossed crossing)) old new p q e k = let P : Plan Reached → Type 0 = λ plan. Runs old.heard new.heard plan (Err crossing) in subst P (sym e) k
handles_as (Err NoMemory) old new p q e k = tt

pub in_all_turns : (result : Result Handled Refusal) (old new : Sight) (t : Token) (most : ℕ) → most ≡ most_turns old.split → Handles result old new (turns_from most t) → Handles result old new (all_turns_plan t)
in_all_turns result old new t most e k = handles_as result old new (turns_from most t) (all_turns_plan t) (ap (λ n. turns_from n t old.split) (sym e)) k

-- no line feed is to be dropped
pub none_dropped : (result : Result Handled Refusal) (old new : Sight) (t : Token) → old.split.change.skip_lf ≡ false → Handles result old new (all_turns_plan t) → Handles result old new (handle_plan t)
none_dropped result old new t h k = handles_as result old new (all_turns_plan t) (handle_plan t) (ap (λ b. if b then handle_rest (without_line_feed t) (unskipped old.split) else all_turns_plan t old.split) h) k

-- a plan was carried out, and nothing is asked
pub plan_done : (old new : Sight) (p : Split → Plan Split) (q : Split → Plan Reached) → q old.split ≡ followed_by (p old.split) done_with → Carries (Ok tt) old new p → Handles (Ok nothing_asked) old new q
plan_done old new p q e run =
    let P : Plan Reached → Type 0 = λ plan. Runs old.heard new.heard plan (Ok (record { split = new.split; handled = nothing_asked })) in
    subst P (sym e) (runs_then done_with run (runs_gives new.heard (record { split = new.split; handled = nothing_asked })))

-- it crosses there, or memory is wanting
pub plan_refused : (refused : Refusal) (old new : Sight) (p : Split → Plan Split) (q : Split → Plan Reached) → q old.split ≡ followed_by (p old.split) done_with → Carries (Err refused) old new p → Handles (Err refused) old new q
plan_refused (Crossed crossing) old new p q e run = let P : Plan Reached → Type 0 = λ plan. Runs old.heard new.heard plan (Err crossing) in subst P (sym e) (runs_crosses done_with run)
plan_refused NoMemory old new p q e run = tt

-- one call, and then another
pub carries_next : (result : Result (Unit {0}) Refusal) (old mid new : Sight) (p q : Split → Plan Split) → Runs old.heard mid.heard (p old.split) (Ok mid.split) → Carries result mid new q → Carries result old new (λ v. followed_by (p v) q)
carries_next (Ok u) old mid new p q run k = runs_then q run k
carries_next (Err (Crossed crossing)) old mid new p q run k = runs_then q run k
carries_next (Err NoMemory) old mid new p q run k = tt

-- the first was refused
pub carries_failed : (result : Result (Unit {0}) Refusal) (refusal : Refusal) (old new : Sight) (p q : Split → Plan Split) → IsErrAnd result (λ e. e ≡ refusal) → Carries (Err refusal) old new p → Carries result old new (λ v. followed_by (p v) q)
carries_failed (Ok u) refusal old new p q is k = absurd is
carries_failed (Err e) refusal old new p q is k = let P : Refusal → Type 0 = λ x. Carries (Err x) old new (λ v. followed_by (p v) q) in subst P (sym is) (first_refused refusal old new p q k)

-- the same plan, told otherwise
pub carries_as : (result : Result (Unit {0}) Refusal) (old new : Sight) (p q : Split → Plan Split) → p ≡ q → Carries result old new p → Carries result old new q
carries_as result old new p q e k = let P : (Split → Plan Split) → Type 0 = λ plan. Carries result old new plan in subst P e k

-- the plan of a row for a token, of both of which it was found out what they are
pub carries_row : (result : Result (Unit {0}) Refusal) (old new : Sight) (row found : UsualRow) (t read : Token) → row ≡ found → t ≡ read → Carries result old new (usual_plan found read) → Carries result old new (usual_plan row t)
carries_row result old new row found t read is same k = carries_as result old new (usual_plan found read) (usual_plan row t) (ap (usual_plan found) (sym same) ∙ ap (λ r. usual_plan r t) (sym is)) k

-- what was found out, and then a call
pub carries_then : {X : Type 0} (result : Result (Unit {0}) Refusal) (old mid new : Sight) (plan : Split → Plan X) (next : Split → X → Plan Split) (x : X)
    → Finds old mid plan x → Carries result mid new (λ v. next v x) → Carries result old new (λ v. followed_by (plan v) (next v))
carries_then (Ok u) old mid new plan next x f k =
    let P : Split → Type 0 = λ v. Runs mid.heard new.heard (next v x) (Ok new.split) in
    runs_then (next old.split) f.runs (subst P f.same k)
carries_then (Err (Crossed crossing)) old mid new plan next x f k =
    let P : Split → Type 0 = λ v. Runs mid.heard new.heard (next v x) (Err crossing) in
    runs_then (next old.split) f.runs (subst P f.same k)
carries_then (Err NoMemory) old mid new plan next x f k = tt

pub usual_acts_of : (acts other : List Act) (o : Option UsualRow) → acts ≡ other → IfSome o (λ row. acts ≡ usual_acts row) → IfSome o (λ row. other ≡ usual_acts row)
usual_acts_of acts other o e h = subst (λ xs. IfSome o (λ row. xs ≡ usual_acts row)) e h

pub usual_there : (v : Split) (m : Mode) (t : Token) (o : Option UsualRow) → has_html_top v.change.stack ≡ true → v.change.mode ≡ m → IfSome o (λ row. HasRow m t row) → IfSome o (λ row. IsUsual v t row)
usual_there v m t None top is h = tt
usual_there v m t (Some row) top is h = record { place = subst (λ n. HasRow n t row) (sym is) h; top = top }

-- a row of a cell: its own, or that of the body
pub own_cell : (t : Token) (o : Option UsualRow) → IfSome o (λ row. HasIn in_cell t row) → IfSome o (λ row. HasRow mode.InCell t row)
own_cell t None h = tt
own_cell t (Some row) h = inl h

pub body_cell : (t : Token) (o : Option UsualRow) → acts_for in_cell (kind_of t) ≡ act.As mode.InBody ∷ [] → IfSome o (λ row. HasIn in_body t row) → IfSome o (λ row. HasRow mode.InCell t row)
body_cell t None used h = tt
body_cell t (Some row) used h = inr (used, h)

-- it was carried out in any number of turns, and nothing is asked
pub usual_done : (old new : Sight) (row : UsualRow) (t : Token) (n : ℕ) → IsUsual old.split t row → 0 < n → Carries (Ok tt) old new (usual_plan row t) → Handles (Ok nothing_asked) old new (turns_from n t)
usual_done old new row t n u few run = plan_done old new (usual_plan row t) (turns_from n t) (some_turns n row t (record { split = old.split; handled = nothing_asked }) u few) run

pub usual_refused : (refused : Refusal) (old new : Sight) (row : UsualRow) (t : Token) (n : ℕ) → IsUsual old.split t row → 0 < n → Carries (Err refused) old new (usual_plan row t) → Handles (Err refused) old new (turns_from n t)
usual_refused refused old new row t n u few run = plan_refused refused old new (usual_plan row t) (turns_from n t) (some_turns n row t (record { split = old.split; handled = nothing_asked }) u few) run
