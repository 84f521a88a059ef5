-- Which act needs what of a track, and where it leads; and the test over the table: each row, along each way that its tests leave.
use Rattle.std.specs.Prelude.{ℕ, zero, suc, Bool, true, false, not, ◌&&◌, ◌||◌, if◌then◌else◌, List, Option, None, Some}
use Rattle.std.specs.Str.{bytes_eq}
use Rattle.hp_elements.specs.Names.{is_among, text_of, words}
use Rattle.hp_elements.specs.Rules.{Plan, ends, ◌⨾◌, when, unless, plan_for}
use Rattle.hp_elements.specs.Sets.{in_set}
use Rattle.hp_elements.specs.declared.act.Act.{Act}
use Rattle.hp_elements.specs.declared.act.Act.TheVariants as act
use Rattle.hp_elements.specs.declared.act.Scope.{Scope}
use Rattle.hp_elements.specs.declared.act.Scope.TheVariants as scope
use Rattle.hp_elements.specs.declared.act.Test.{Test}
use Rattle.hp_elements.specs.declared.act.Test.TheVariants as test
use Rattle.hp_elements.specs.declared.known.Known.TheVariants as names
use Rattle.hp_elements.specs.declared.element_name.ElementName.TheVariants as element
use Rattle.hp_elements.specs.declared.sets.Namespace.TheVariants.{Html}
use Rattle.hp_elements.specs.declared.sets.SetName.{SetName}
use Rattle.hp_elements.specs.declared.sets.SetName.TheVariants as sets
use Rattle.hp_elements.specs.declared.token.Kind.{Kind}
use Rattle.hp_elements.specs.declared.token.Kind.TheVariants.{End, EndOfInput}
use Rattle.hp_elements.specs.declared.token.Mode.{Mode}
use Rattle.hp_rules_rest.specs.Foreign.{foreign}
use Rattle.hp_rules_rest.specs.Whole.{every_mode_rows}
use Rattle.hp_model.specs.Rows.{is_head_mode}
use Rattle.hp_model.proofs.Course.{Course, after, alien, assume, fits}
use Rattle.hp_model.proofs.Passes.{base_of, goes_foreign, start}
use Rattle.hp_older.proofs.Track.{even, There, nowhere, named, among, Top, high, plain, made, unknown, Track, Where, at, fitted, Sort, common, begin, can_pass, can_push, ends_well, is_even, is_high, is_made, is_over, is_plain_one, is_there_named, is_under, knows, name_told, passed_named, pushed, sort_of, sort_told, strongly, thinly, under, weakly}

abbrev pub is_common : Sort → Bool
is_common common = true
is_common _ = false

abbrev pub is_template_name : List ℕ → Bool
is_template_name name = is_among (words "template") name

abbrev pub is_select_name : List ℕ → Bool
is_select_name name = is_among (words "select") name

-- through an element of a name
abbrev pub can_through : Option (List ℕ) → Track → Bool
can_through None w = false
can_through (Some name) w =
    if is_template_name name then is_even w.balance
    else if is_select_name name then w.select || is_there_named w.there name
    else can_pass (words "template") name && is_there_named w.there name

abbrev pub through : Option (List ℕ) → Track → Track
through None w = w
through (Some name) w =
    if is_template_name name then record (thinly w) { balance = under }
    else if is_select_name name then thinly w
    else passed_named name w

abbrev pub is_headings : There → Bool
is_headings (among scope.Default sets.Headings) = true
is_headings _ = false

abbrev pub is_cells : There → Bool
is_cells (among scope.Table sets.Cells) = true
is_cells _ = false

abbrev pub can_through_first : SetName → Track → Bool
can_through_first sets.Headings w = is_headings w.there
can_through_first sets.Cells w = w.cell || is_cells w.there
can_through_first _ w = false

abbrev pub through_first : SetName → Track → Track
through_first sets.Headings w = weakly w
through_first _ w = thinly w

abbrev pub is_context : SetName → Bool
is_context sets.TableContext = true
is_context sets.TableBodyContext = true
is_context sets.TableRowContext = true
is_context _ = false

-- what stands there is no template
abbrev pub narrows : SetName → There → Bool
narrows sets.TableBodyContext (named scope.Table name) = is_among (words "tbody tfoot thead") name
narrows sets.TableBodyContext (among scope.Table sets.TableSections) = true
narrows sets.TableRowContext (named scope.Table name) = is_among (words "tr") name
narrows _ _ = false

abbrev pub can_walk : Kind → Bool
can_walk (End (Some k)) = can_pass (words "template") (text_of k)
can_walk (End None) = true
can_walk _ = false

abbrev pub walked : Kind → Track → Track
walked (End (Some k)) w = if is_among (words "td th") (text_of k) then thinly w else weakly w
walked _ w = weakly w

abbrev pub can_adopt : Option (List ℕ) → Bool
can_adopt None = false
can_adopt (Some name) = can_pass (words "template td th") name

-- what stands there where implied end tags were popped
abbrev pub still_there : There → There
still_there (named where_ name) = if in_set sets.Implied Html name then nowhere else named where_ name
still_there (among where_ sets.Headings) = among where_ sets.Headings
still_there (among where_ sets.Cells) = among where_ sets.Cells
still_there _ = nowhere

abbrev pub still_but : Option (List ℕ) → There → There
still_but None there = nowhere
still_but (Some but) (named where_ name) = if bytes_eq but name && is_among (words "dd dt li") but then named where_ name else nowhere
still_but (Some but) there = nowhere

abbrev pub is_at : Where → Bool
is_at (at m) = true
is_at _ = false

abbrev pub kept_back : Where → Track → Track
kept_back (at m) w = record w { back = knows m w }
kept_back _ w = w

-- acts that always touch something older: behind them nothing is asked
abbrev pub touches : Act → Bool
touches act.AddMissingToFirst = true
touches act.AddMissingToBody = true
touches act.DetachBody = true
touches _ = false

abbrev pub track_fits : Kind → Act → Track → Bool
track_fits kind act.Insert w = can_push (sort_told kind) w
track_fits kind (act.InsertBare k) w = is_common (sort_of (text_of k))
track_fits kind act.Pop w = is_plain_one w.top || (is_high w.top && w.bare)
track_fits kind (act.PopTo names) w = is_context names
track_fits kind (act.Through which) w = can_through (name_told kind which) w
track_fits kind (act.ThroughFirstOf names) w = can_through_first names w
track_fits kind act.Walk w = can_walk kind
track_fits kind (act.Adopt which) w = can_adopt (name_told kind which)
track_fits kind act.AppendToList w = is_made w.top
track_fits kind act.FormPointer w = is_made w.top
track_fits kind act.Reset w = is_even w.balance && w.still
track_fits kind act.KeepOriginal w = is_at w.place
track_fits kind act.ToOriginal w = w.back
track_fits kind (act.PushTemplateMode m) w = is_over w.balance
track_fits kind act.PopTemplateMode w = is_under w.balance
track_fits kind act.InsertHtml w = false
track_fits kind act.InsertBareHtml w = false
track_fits kind act.PushHead w = false
track_fits kind act.PopToFirst w = false
track_fits kind act.TakeHeadOff w = false
track_fits kind act.HeadPointer w = false
track_fits kind act.QuirksOfDoctype w = false
track_fits kind (act.If x otherwise) w = false
track_fits kind (act.Unless x otherwise) w = false
track_fits kind _ w = true

abbrev pub track_after : Kind → Act → Track → Track
track_after kind act.Insert w = pushed (sort_told kind) w
track_after kind (act.InsertBare k) w = pushed common w
track_after kind act.InsertForeign w = strongly w
track_after kind act.InsertAsCurrent w = strongly w
track_after kind act.Reconstruct w = strongly w
track_after kind act.Flush w = strongly w
track_after kind act.PopToPoint w = strongly w
track_after kind act.ThroughForeign w = strongly w
track_after kind act.Implied w = record (strongly w) { there = still_there w.there }
track_after kind (act.ImpliedExcept which) w = record (strongly w) { there = still_but (name_told kind which) w.there }
track_after kind act.ImpliedThoroughly w = thinly w
track_after kind act.Pop w = if is_plain_one w.top then strongly w else thinly w
track_after kind (act.PopTo names) w = record (thinly w) { top = if narrows names w.there then plain else unknown }
track_after kind (act.Through which) w = through (name_told kind which) w
track_after kind (act.ThroughFirstOf names) w = through_first names w
track_after kind act.CloseParagraph w = weakly w
track_after kind act.CloseItem w = weakly w
track_after kind act.CloseDescription w = weakly w
track_after kind act.EndForm w = weakly w
track_after kind act.CloseLink w = weakly w
track_after kind (act.Adopt which) w = weakly w
track_after kind act.Walk w = walked kind w
track_after kind act.AppendToList w = strongly w
track_after kind act.Reset w = record w { place = fitted }
track_after kind act.KeepOriginal w = kept_back w.place w
track_after kind act.ToOriginal w = record w { place = fitted; back = false }
track_after kind (act.Switch m) w = record w { place = at m }
track_after kind (act.PushTemplateMode m) w = record w { balance = even }
track_after kind act.PopTemplateMode w = record w { balance = even }
track_after kind _ w = w

abbrev pub there_of : Scope → Option (List ℕ) → There → There
there_of where_ None there = there
there_of where_ (Some name) there = named where_ name

abbrev pub plainly : Top → Top
plainly made = made
plainly _ = plain

-- what a test says where it holds, and where it doesn't
abbrev pub track_assume : Kind → Test → Track → Track
track_assume kind (test.InScope where_ which) w = record w { there = there_of where_ (name_told kind which) w.there }
track_assume kind (test.OneInScope where_ names) w = record w { there = among where_ names }
track_assume kind (test.CurrentIs k) w = if is_common (sort_of (text_of k)) then record w { top = plainly w.top } else w
track_assume kind (test.CurrentIsIn sets.Headings) w = record w { top = plainly w.top }
track_assume kind _ w = w

abbrev pub highly : Top → Top
highly unknown = high
highly top = top

abbrev pub track_deny : Test → Track → Track
track_deny (test.CurrentIs (names.Element element.Html)) w = record w { top = highly w.top }
track_deny _ w = w

-- whether a new template mode is there is asked at the end of input alone
abbrev pub can_test : Test → Bool
can_test test.HasTemplateModes = false
can_test _ = true

abbrev pub Asks : Type 0
Asks = Course → Track → Bool

module _ (kind : Kind) where
  abbrev pub act_goes : (Mode → Course → Track → Asks → Bool) → (Course → Track → Asks → Bool) → Act → Course → Track → Asks → Asks → Bool
  act_goes follow present act.Done v w next last = last v w
  act_goes follow present act.Again v w next last = ends_well w
  act_goes follow present (act.AgainAs k) v w next last = ends_well w
  act_goes follow present (act.As m) v w next last = follow m v w next
  act_goes follow present (act.AsFostered m) v w next last = follow m v w next
  act_goes follow present act.AsPresent v w next last = present v w next
  act_goes follow present act.Stop v w next last = next v w
  act_goes follow present (act.Lexer rest) v w next last = next v w
  act_goes follow present other v w next last = touches other || (fits kind other v && (track_fits kind other w && next (after kind other v) (track_after kind other w)))

  abbrev pub plan_goes : (Mode → Course → Track → Asks → Bool) → (Course → Track → Asks → Bool) → Plan → Course → Track → Asks → Asks → Bool
  plan_goes follow present ends v w next last = next v w
  plan_goes follow present (a ⨾ plan) v w next last = act_goes follow present a v w (λ x y. plan_goes follow present plan x y next last) last
  plan_goes follow present (when test plan rest) v w next last =
      can_test test && (plan_goes follow present plan (assume test v) (track_assume kind test w) (λ x y. plan_goes follow present rest x y next last) last && plan_goes follow present rest v (track_deny test w) next last)
  plan_goes follow present (unless test plan rest) v w next last =
      can_test test && (plan_goes follow present rest (assume test v) (track_assume kind test w) next last && plan_goes follow present plan v (track_deny test w) (λ x y. plan_goes follow present rest x y next last) last)

  unfoldable pub rules_go : ℕ → Mode → Course → Track → Asks → Bool
  rules_go zero m v w next = next v w
  rules_go (suc depth) m v w next = plan_goes (rules_go depth) (λ x y k. k x y) (plan_for (every_mode_rows m) kind) v w next next

-- a row ends well
abbrev pub well : Asks
well v w = ends_well w

abbrev pub is_ending : Kind → Bool
is_ending EndOfInput = true
is_ending _ = false

-- the rules of a mode past the head, for what isn't the end of input; and those of foreign content in it
unfoldable pub mode_goes : Mode → Kind → Bool
mode_goes m kind = is_head_mode m || (is_ending kind || rules_go kind 4 m (start m) (begin m) well)

unfoldable pub foreign_goes : Mode → Kind → Bool
foreign_goes m kind = is_head_mode m || (is_ending kind || (not (goes_foreign (base_of m)) || plan_goes kind (rules_go kind 4) (rules_go kind 4 m) (plan_for foreign kind) (record (start m) { base = alien }) (begin m) well well))
