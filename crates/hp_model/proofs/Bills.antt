-- How much a row makes, as a test over the table: each way through it makes so many elements, each counted with one for every entry
-- of the formatting list, and at most one entry; and where a token is handed on, no entry, and the fewer the fewer are left.
use Rattle.std.proofs.Common.{◌≡◌, ℕ, zero, suc, ◌+◌, ◌≤◌, Bool, true, false, not, ◌&&◌, ◌||◌, length, Option, None, Some, refl, sym, ap, ◌∙◌, arith}
use Rattle.std.specs.Prelude.{if◌then◌else◌, nat_le}
use Rattle.std.proofs.lemmas.Bool.{true≢false}
use Rattle.hp_elements.specs.Rules.{Plan, ends, ◌⨾◌, when, unless, plan_for}
use Rattle.hp_elements.specs.Names.{known_of}
use Rattle.hp_elements.specs.declared.act.Act.{Act}
use Rattle.hp_elements.specs.declared.act.Act.TheVariants as act
use Rattle.hp_elements.specs.declared.kinds.Kinds.TheVariants as kinds
use Rattle.hp_elements.specs.declared.known.Known.{Known}
use Rattle.hp_elements.specs.declared.sets.SetName.TheVariants as sets
use Rattle.hp_elements.specs.declared.token.Kind.{Kind}
use Rattle.hp_elements.specs.declared.token.Kind.TheVariants.{Characters, EndOfInput, Start}
use Rattle.hp_elements.specs.declared.token.Mode.{Mode}
use Rattle.hp_elements.specs.declared.token.Mode.TheVariants as mode
use Rattle.hp_elements.specs.declared.token.Token.{Token}
use Rattle.hp_elements.proofs.PlaceLemmas.{at_every_kind}
use Rattle.hp_control.specs.Foreign.{insert_as_current, insert_foreign}
use Rattle.hp_control.specs.Outcome.{nothing_done}
use Rattle.hp_elements.specs.Quirks.{gives_quirks}
use Rattle.hp_control.specs.Acts.{set_quirks}
use Rattle.hp_control.specs.Composed.{implied_but}
use Rattle.hp_control.specs.States.{ControlState, is_settled}
use Rattle.hp_rules_rest.specs.Foreign.{foreign}
use Rattle.hp_rules_rest.specs.Whole.{every_mode_rows}
use Rattle.hp_model.specs.Growth.{times}
use Rattle.hp_model.specs.Steps.{implied_but_for, step}
use Rattle.hp_model.specs.Tokens.{is_self_closing, name_for, name_of, parts_of, tag_of}
use Rattle.hp_model.proofs.Costs.{Costs, costs_none, costs_within, costs_adopt, costs_close_link, costs_flush, costs_reconstruct, free_clear, free_close_description, free_close_item, free_close_paragraph, free_end_form, free_pop_by, free_pop_run, free_pop_to, free_push_head, free_take_head_off, free_through, free_through_named, within_append_to_list}
use Rattle.hp_model.proofs.Course.{Course, Where, at, anywhere, left, after, assume, fits, alien}
use Rattle.hp_model.proofs.Passes.{Rank, fixed, beside, base_of, goes_foreign, rank, start}

pub times-add : (n m k : ℕ) → times (n + m) k ≡ times n k + times m k
times-add zero m k = let e : 0 + m ≡ m = omega arith in let f : times (0 + m) k ≡ times m k = ap (λ i. times i k) e in omega arith
times-add (suc n) m k =
    let e : suc n + m ≡ suc (n + m) = omega arith in
    let f : times (n + m) k ≡ times n k + times m k = times-add n m k in
    ap (λ i. times i k) e ∙ omega arith

pub times-more : (n m k : ℕ) → n ≤ m → times n k ≤ times m k
times-more zero m k h = omega arith
times-more (suc n) zero k h = absurd (omega arith)
times-more (suc n) (suc m) k h = let f : times n k ≤ times m k = times-more n m k (omega arith) in omega arith

-- how many shares of elements were made, and how many entries came
pub record Bill : Type 0 where
  pub shares : ℕ
  pub more : ℕ

abbrev pub no_bill : Bill
no_bill = record { shares = 0; more = 0 }

abbrev pub shares_of : Act → ℕ
shares_of act.Insert = 1
shares_of (act.InsertBare name) = 1
shares_of act.InsertForeign = 1
shares_of act.InsertAsCurrent = 1
shares_of act.InsertHtml = 1
shares_of act.InsertBareHtml = 1
shares_of act.Reconstruct = 1
shares_of act.CloseLink = 1
shares_of (act.Adopt which) = 1
shares_of act.Flush = 1
shares_of _ = 0

abbrev pub more_of : Act → ℕ
more_of act.AppendToList = 1
more_of act.Marker = 1
more_of _ = 0

abbrev pub billed : Act → Bill → Bill
billed a b = record { shares = b.shares + shares_of a; more = b.more + more_of a }

-- what each act makes, where the list has at most so many entries
pub act_costs : (most : ℕ) (fostering : Bool) (t : Token) (a : Act) (c : ControlState) → length c.formatting ≤ most → Costs (times (shares_of a) (most + 64)) (more_of a) c (step fostering t a c).control
act_costs most fostering t act.QuirksOfDoctype c h = go (gives_quirks (parts_of t))
  where
    go : (b : Bool) → Costs 0 0 c ((if b then set_quirks else nothing_done) c).control
    go true = record { next = omega arith; list = omega arith }
    go false = costs_none 0 0 c
act_costs most fostering t act.Quirks c h = record { next = omega arith; list = omega arith }
act_costs most fostering t act.Insert c h = record { next = omega arith; list = omega arith }
act_costs most fostering t (act.InsertBare name) c h = record { next = omega arith; list = omega arith }
act_costs most fostering t act.InsertForeign c h = go (is_self_closing t)
  where
    go : (b : Bool) → Costs (times 1 (most + 64)) 0 c (insert_foreign fostering b (tag_of t) c).control
    go true = record { next = omega arith; list = omega arith }
    go false = record { next = omega arith; list = omega arith }
act_costs most fostering t act.InsertAsCurrent c h = go (is_self_closing t)
  where
    go : (b : Bool) → Costs (times 1 (most + 64)) 0 c (insert_as_current fostering b (tag_of t) c).control
    go true = record { next = omega arith; list = omega arith }
    go false = record { next = omega arith; list = omega arith }
act_costs most fostering t act.InsertHtml c h = record { next = omega arith; list = omega arith }
act_costs most fostering t act.InsertBareHtml c h = record { next = omega arith; list = omega arith }
act_costs most fostering t act.PushHead c h = free_push_head c.head c
act_costs most fostering t act.Reconstruct c h = costs_within most 0 (times 1 (most + 64)) 0 c (step fostering t act.Reconstruct c).control (omega arith) (omega arith) (costs_reconstruct most fostering c h)
act_costs most fostering t act.Pop c h = free_pop_by 1 c
act_costs most fostering t (act.PopTo names) c h = free_pop_to (kinds.Set names) c
act_costs most fostering t act.PopToFirst c h = record { next = omega arith; list = omega arith }
act_costs most fostering t act.PopToPoint c h = free_pop_to kinds.HtmlOrPoint c
act_costs most fostering t (act.Through which) c h = free_through_named (name_for t which) c
act_costs most fostering t (act.ThroughFirstOf names) c h = free_through (kinds.Set names) kinds.Nothing c
act_costs most fostering t act.ThroughForeign c h = free_through (kinds.Foreign (name_of t)) kinds.AnyHtml c
act_costs most fostering t act.Implied c h = free_pop_run (kinds.Set sets.Implied) c
act_costs most fostering t (act.ImpliedExcept which) c h = go (known_of (name_for t which))
  where
    go : (o : Option Known) → Costs 0 0 c (implied_but_for o c).control
    go None = free_pop_run (kinds.Set sets.Implied) c
    go (Some name) = free_pop_run (kinds.Set (implied_but name)) c
act_costs most fostering t act.ImpliedThoroughly c h = free_pop_run (kinds.Set sets.ThoroughlyImplied) c
act_costs most fostering t act.CloseParagraph c h = free_close_paragraph c
act_costs most fostering t act.CloseItem c h = free_close_item c
act_costs most fostering t act.CloseDescription c h = free_close_description c
act_costs most fostering t act.Walk c h = free_through (kinds.Html (name_of t)) (kinds.Set sets.Special) c
act_costs most fostering t act.TakeHeadOff c h = free_take_head_off c.head c
act_costs most fostering t act.EndForm c h = free_end_form c
act_costs most fostering t act.CloseLink c h = costs_within 36 0 (times 1 (most + 64)) 0 c (step fostering t act.CloseLink c).control (omega arith) (omega arith) (costs_close_link fostering c)
act_costs most fostering t act.AppendToList c h = within_append_to_list (tag_of t) c
act_costs most fostering t (act.Adopt which) c h = costs_within 36 0 (times 1 (most + 64)) 0 c (step fostering t (act.Adopt which) c).control (omega arith) (omega arith) (costs_adopt fostering (name_for t which) c)
act_costs most fostering t act.Marker c h = record { next = omega arith; list = omega arith }
act_costs most fostering t act.ClearToMarker c h = free_clear c
act_costs most fostering t act.FramesetNotOk c h = record { next = omega arith; list = omega arith }
act_costs most fostering t act.SkipLineFeed c h = record { next = omega arith; list = omega arith }
act_costs most fostering t act.HeadPointer c h = record { next = omega arith; list = omega arith }
act_costs most fostering t act.FormPointer c h = record { next = omega arith; list = omega arith }
act_costs most fostering t act.Reset c h = record { next = omega arith; list = omega arith }
act_costs most fostering t act.KeepOriginal c h = record { next = omega arith; list = omega arith }
act_costs most fostering t act.ToOriginal c h = record { next = omega arith; list = omega arith }
act_costs most fostering t (act.Switch m) c h = record { next = omega arith; list = omega arith }
act_costs most fostering t (act.PushTemplateMode m) c h = record { next = omega arith; list = omega arith }
act_costs most fostering t (act.ReplaceTemplateMode m) c h = record { next = omega arith; list = omega arith }
act_costs most fostering t act.PopTemplateMode c h = record { next = omega arith; list = omega arith }
act_costs most fostering t act.EmptyPending c h = record { next = omega arith; list = omega arith }
act_costs most fostering t act.AppendPending c h = record { next = omega arith; list = omega arith }
act_costs most fostering t act.Flush c h = costs_within most 0 (times 1 (most + 64)) 0 c (step fostering t act.Flush c).control (omega arith) (omega arith) (costs_flush most c h)
act_costs most fostering t _ c h = costs_none 0 0 c

-- how many shares a token may still make before its last turn
abbrev pub left_in : Mode → ℕ
left_in mode.Initial = 3
left_in mode.BeforeHtml = 3
left_in mode.BeforeHead = 2
left_in mode.InHead = 1
left_in mode.InHeadNoscript = 1
left_in mode.AfterHead = 1
left_in mode.InTable = 2
left_in mode.InCaption = 2
left_in mode.InColumnGroup = 2
left_in mode.InTableBody = 2
left_in mode.InRow = 2
left_in mode.InCell = 2
left_in mode.InTemplate = 2
left_in mode.InSelect = 2
left_in mode.InSelectInTable = 2
left_in mode.Text = 2
left_in mode.InTableText = 3
left_in _ = 0

abbrev pub left_by_rank : Rank → Mode → ℕ
left_by_rank (fixed n) m = n
left_by_rank (beside n) m = left_in m

abbrev pub shares_left : Kind → Mode → ℕ
shares_left kind m = left_by_rank (rank kind m) m

abbrev pub shares_at : Kind → Where → ℕ
shares_at kind (at m) = shares_left kind m
shares_at kind anywhere = 2
shares_at kind left = 2

-- the end of input comes once
abbrev pub is_end : Kind → Bool
is_end EndOfInput = true
is_end _ = false

-- characters bring no entry, and each other token at most one
abbrev pub entries_for : Kind → ℕ
entries_for (Characters class) = 0
entries_for _ = 1

module _ (from : Kind) (first : Mode) where
  abbrev pub last_bill : Course → Bill → Bool
  last_bill v b = nat_le b.shares 8 && nat_le b.more (entries_for from)

  abbrev pub again_bill : Kind → Course → Bill → Bool
  again_bill kind v b = nat_le (shares_at kind v.place + b.shares) (shares_left from first) && (nat_le b.more 0 && (nat_le (entries_for kind) (entries_for from) && not (is_end kind)))

  module _ (kind : Kind) where
    abbrev pub act_bill : (Mode → Course → Bill → (Course → Bill → Bool) → Bool) → (Course → Bill → (Course → Bill → Bool) → Bool) → Act → Course → Bill → (Course → Bill → Bool) → (Course → Bill → Bool) → Bool
    act_bill follow present act.Done v b next last = last v b
    act_bill follow present act.Again v b next last = again_bill kind v b
    act_bill follow present (act.AgainAs k) v b next last = again_bill (Start (Some k)) v b
    act_bill follow present (act.As m) v b next last = follow m v b next
    act_bill follow present (act.AsFostered m) v b next last = follow m v b next
    act_bill follow present act.AsPresent v b next last = present v b next
    act_bill follow present other v b next last = nat_le b.more 1 && (fits kind other v && next (after kind other v) (billed other b))

    abbrev pub plan_bill : (Mode → Course → Bill → (Course → Bill → Bool) → Bool) → (Course → Bill → (Course → Bill → Bool) → Bool) → Plan → Course → Bill → (Course → Bill → Bool) → (Course → Bill → Bool) → Bool
    plan_bill follow present ends v b next last = next v b
    plan_bill follow present (act ⨾ plan) v b next last = act_bill follow present act v b (λ w d. plan_bill follow present plan w d next last) last
    plan_bill follow present (when test plan rest) v b next last =
        plan_bill follow present plan (assume test v) b (λ w d. plan_bill follow present rest w d next last) last && plan_bill follow present rest v b next last
    plan_bill follow present (unless test plan rest) v b next last =
        plan_bill follow present rest (assume test v) b next last && plan_bill follow present plan v b (λ w d. plan_bill follow present rest w d next last) last

    unfoldable pub rules_bill : ℕ → Mode → Course → Bill → (Course → Bill → Bool) → Bool
    rules_bill zero m v b next = next v b
    rules_bill (suc depth) m v b next = plan_bill (rules_bill depth) (λ w d k. k w d) (plan_for (every_mode_rows m) kind) v b next next

unfoldable pub mode_bill : Mode → Kind → Bool
mode_bill m kind = is_end kind || rules_bill kind m kind 4 m (start m) no_bill (last_bill kind m)

unfoldable pub foreign_bill : Mode → Kind → Bool
foreign_bill m kind = is_end kind || not (goes_foreign (base_of m)) || plan_bill kind m kind (rules_bill kind m kind 4) (rules_bill kind m kind 4 m) (plan_for foreign kind) (record (start m) { base = alien }) no_bill (last_bill kind m) (last_bill kind m)

pub each_mode_bill : (m : Mode) (kind : Kind) → mode_bill m kind ≡ true
unfolding mode_bill rules_bill every_mode_rows
each_mode_bill mode.Initial kind = at_every_kind (mode_bill mode.Initial) refl kind
each_mode_bill mode.BeforeHtml kind = at_every_kind (mode_bill mode.BeforeHtml) refl kind
each_mode_bill mode.BeforeHead kind = at_every_kind (mode_bill mode.BeforeHead) refl kind
each_mode_bill mode.InHead kind = at_every_kind (mode_bill mode.InHead) refl kind
each_mode_bill mode.InHeadNoscript kind = at_every_kind (mode_bill mode.InHeadNoscript) refl kind
each_mode_bill mode.AfterHead kind = at_every_kind (mode_bill mode.AfterHead) refl kind
each_mode_bill mode.InBody kind = at_every_kind (mode_bill mode.InBody) refl kind
each_mode_bill mode.Text kind = at_every_kind (mode_bill mode.Text) refl kind
each_mode_bill mode.InTable kind = at_every_kind (mode_bill mode.InTable) refl kind
each_mode_bill mode.InTableText kind = at_every_kind (mode_bill mode.InTableText) refl kind
each_mode_bill mode.InCaption kind = at_every_kind (mode_bill mode.InCaption) refl kind
each_mode_bill mode.InColumnGroup kind = at_every_kind (mode_bill mode.InColumnGroup) refl kind
each_mode_bill mode.InTableBody kind = at_every_kind (mode_bill mode.InTableBody) refl kind
each_mode_bill mode.InRow kind = at_every_kind (mode_bill mode.InRow) refl kind
each_mode_bill mode.InCell kind = at_every_kind (mode_bill mode.InCell) refl kind
each_mode_bill mode.InSelect kind = at_every_kind (mode_bill mode.InSelect) refl kind
each_mode_bill mode.InSelectInTable kind = at_every_kind (mode_bill mode.InSelectInTable) refl kind
each_mode_bill mode.InTemplate kind = at_every_kind (mode_bill mode.InTemplate) refl kind
each_mode_bill mode.AfterBody kind = at_every_kind (mode_bill mode.AfterBody) refl kind
each_mode_bill mode.InFrameset kind = at_every_kind (mode_bill mode.InFrameset) refl kind
each_mode_bill mode.AfterFrameset kind = at_every_kind (mode_bill mode.AfterFrameset) refl kind
each_mode_bill mode.AfterAfterBody kind = at_every_kind (mode_bill mode.AfterAfterBody) refl kind
each_mode_bill mode.AfterAfterFrameset kind = at_every_kind (mode_bill mode.AfterAfterFrameset) refl kind

pub each_foreign_bill : (m : Mode) (kind : Kind) → foreign_bill m kind ≡ true
unfolding foreign_bill rules_bill every_mode_rows
each_foreign_bill mode.Initial kind = at_every_kind (foreign_bill mode.Initial) refl kind
each_foreign_bill mode.BeforeHtml kind = at_every_kind (foreign_bill mode.BeforeHtml) refl kind
each_foreign_bill mode.BeforeHead kind = at_every_kind (foreign_bill mode.BeforeHead) refl kind
each_foreign_bill mode.InHead kind = at_every_kind (foreign_bill mode.InHead) refl kind
each_foreign_bill mode.InHeadNoscript kind = at_every_kind (foreign_bill mode.InHeadNoscript) refl kind
each_foreign_bill mode.AfterHead kind = at_every_kind (foreign_bill mode.AfterHead) refl kind
each_foreign_bill mode.InBody kind = at_every_kind (foreign_bill mode.InBody) refl kind
each_foreign_bill mode.Text kind = at_every_kind (foreign_bill mode.Text) refl kind
each_foreign_bill mode.InTable kind = at_every_kind (foreign_bill mode.InTable) refl kind
each_foreign_bill mode.InTableText kind = at_every_kind (foreign_bill mode.InTableText) refl kind
each_foreign_bill mode.InCaption kind = at_every_kind (foreign_bill mode.InCaption) refl kind
each_foreign_bill mode.InColumnGroup kind = at_every_kind (foreign_bill mode.InColumnGroup) refl kind
each_foreign_bill mode.InTableBody kind = at_every_kind (foreign_bill mode.InTableBody) refl kind
each_foreign_bill mode.InRow kind = at_every_kind (foreign_bill mode.InRow) refl kind
each_foreign_bill mode.InCell kind = at_every_kind (foreign_bill mode.InCell) refl kind
each_foreign_bill mode.InSelect kind = at_every_kind (foreign_bill mode.InSelect) refl kind
each_foreign_bill mode.InSelectInTable kind = at_every_kind (foreign_bill mode.InSelectInTable) refl kind
each_foreign_bill mode.InTemplate kind = at_every_kind (foreign_bill mode.InTemplate) refl kind
each_foreign_bill mode.AfterBody kind = at_every_kind (foreign_bill mode.AfterBody) refl kind
each_foreign_bill mode.InFrameset kind = at_every_kind (foreign_bill mode.InFrameset) refl kind
each_foreign_bill mode.AfterFrameset kind = at_every_kind (foreign_bill mode.AfterFrameset) refl kind
each_foreign_bill mode.AfterAfterBody kind = at_every_kind (foreign_bill mode.AfterAfterBody) refl kind
each_foreign_bill mode.AfterAfterFrameset kind = at_every_kind (foreign_bill mode.AfterAfterFrameset) refl kind

-- few shares are left in each mode, and fewer in a settled one
abbrev few_left : ℕ → Mode → Kind → Bool
few_left n m kind = nat_le (shares_left kind m) n

pub each_left : (m : Mode) (kind : Kind) → few_left 3 m kind ≡ true
each_left mode.Initial kind = at_every_kind (few_left 3 mode.Initial) refl kind
each_left mode.BeforeHtml kind = at_every_kind (few_left 3 mode.BeforeHtml) refl kind
each_left mode.BeforeHead kind = at_every_kind (few_left 3 mode.BeforeHead) refl kind
each_left mode.InHead kind = at_every_kind (few_left 3 mode.InHead) refl kind
each_left mode.InHeadNoscript kind = at_every_kind (few_left 3 mode.InHeadNoscript) refl kind
each_left mode.AfterHead kind = at_every_kind (few_left 3 mode.AfterHead) refl kind
each_left mode.InBody kind = at_every_kind (few_left 3 mode.InBody) refl kind
each_left mode.Text kind = at_every_kind (few_left 3 mode.Text) refl kind
each_left mode.InTable kind = at_every_kind (few_left 3 mode.InTable) refl kind
each_left mode.InTableText kind = at_every_kind (few_left 3 mode.InTableText) refl kind
each_left mode.InCaption kind = at_every_kind (few_left 3 mode.InCaption) refl kind
each_left mode.InColumnGroup kind = at_every_kind (few_left 3 mode.InColumnGroup) refl kind
each_left mode.InTableBody kind = at_every_kind (few_left 3 mode.InTableBody) refl kind
each_left mode.InRow kind = at_every_kind (few_left 3 mode.InRow) refl kind
each_left mode.InCell kind = at_every_kind (few_left 3 mode.InCell) refl kind
each_left mode.InSelect kind = at_every_kind (few_left 3 mode.InSelect) refl kind
each_left mode.InSelectInTable kind = at_every_kind (few_left 3 mode.InSelectInTable) refl kind
each_left mode.InTemplate kind = at_every_kind (few_left 3 mode.InTemplate) refl kind
each_left mode.AfterBody kind = at_every_kind (few_left 3 mode.AfterBody) refl kind
each_left mode.InFrameset kind = at_every_kind (few_left 3 mode.InFrameset) refl kind
each_left mode.AfterFrameset kind = at_every_kind (few_left 3 mode.AfterFrameset) refl kind
each_left mode.AfterAfterBody kind = at_every_kind (few_left 3 mode.AfterAfterBody) refl kind
each_left mode.AfterAfterFrameset kind = at_every_kind (few_left 3 mode.AfterAfterFrameset) refl kind

pub settled_left : (m : Mode) (kind : Kind) → is_settled m ≡ true → few_left 2 m kind ≡ true
settled_left mode.Initial kind h = absurd (true≢false (sym h))
settled_left mode.BeforeHtml kind h = absurd (true≢false (sym h))
settled_left mode.BeforeHead kind h = at_every_kind (few_left 2 mode.BeforeHead) refl kind
settled_left mode.InHead kind h = at_every_kind (few_left 2 mode.InHead) refl kind
settled_left mode.InHeadNoscript kind h = at_every_kind (few_left 2 mode.InHeadNoscript) refl kind
settled_left mode.AfterHead kind h = at_every_kind (few_left 2 mode.AfterHead) refl kind
settled_left mode.InBody kind h = at_every_kind (few_left 2 mode.InBody) refl kind
settled_left mode.Text kind h = absurd (true≢false (sym h))
settled_left mode.InTable kind h = at_every_kind (few_left 2 mode.InTable) refl kind
settled_left mode.InTableText kind h = absurd (true≢false (sym h))
settled_left mode.InCaption kind h = at_every_kind (few_left 2 mode.InCaption) refl kind
settled_left mode.InColumnGroup kind h = at_every_kind (few_left 2 mode.InColumnGroup) refl kind
settled_left mode.InTableBody kind h = at_every_kind (few_left 2 mode.InTableBody) refl kind
settled_left mode.InRow kind h = at_every_kind (few_left 2 mode.InRow) refl kind
settled_left mode.InCell kind h = at_every_kind (few_left 2 mode.InCell) refl kind
settled_left mode.InSelect kind h = at_every_kind (few_left 2 mode.InSelect) refl kind
settled_left mode.InSelectInTable kind h = at_every_kind (few_left 2 mode.InSelectInTable) refl kind
settled_left mode.InTemplate kind h = at_every_kind (few_left 2 mode.InTemplate) refl kind
settled_left mode.AfterBody kind h = at_every_kind (few_left 2 mode.AfterBody) refl kind
settled_left mode.InFrameset kind h = at_every_kind (few_left 2 mode.InFrameset) refl kind
settled_left mode.AfterFrameset kind h = at_every_kind (few_left 2 mode.AfterFrameset) refl kind
settled_left mode.AfterAfterBody kind h = at_every_kind (few_left 2 mode.AfterAfterBody) refl kind
settled_left mode.AfterAfterFrameset kind h = at_every_kind (few_left 2 mode.AfterAfterFrameset) refl kind
