-- The test over the table: each row, along each way that its tests leave, keeps states valid, and hands a token on only with less weight.
use Rattle.std.specs.Prelude.{ℕ, zero, suc, ◌+◌, nat_lt, Bool, true, false, not, ◌&&◌, ◌||◌, None, Some}
use Rattle.hp_elements.specs.Rules.{Plan, ends, ◌⨾◌, when, unless, plan_for}
use Rattle.hp_elements.specs.declared.act.Act.{Act}
use Rattle.hp_elements.specs.declared.act.Act.TheVariants as act
use Rattle.hp_elements.specs.declared.known.Known.TheVariants as names
use Rattle.hp_elements.specs.declared.element_name.ElementName.TheVariants as element
use Rattle.hp_elements.specs.declared.token.Kind.{Kind}
use Rattle.hp_elements.specs.declared.token.Kind.TheVariants.{Characters, Start, End}
use Rattle.hp_elements.specs.declared.token.Mode.{Mode}
use Rattle.hp_elements.specs.declared.token.Mode.TheVariants as mode
use Rattle.hp_rules_rest.specs.Foreign.{foreign}
use Rattle.hp_rules_rest.specs.Whole.{every_mode_rows}
use Rattle.hp_model.proofs.Course.{Course, Base, bare, rooted, tall, alien, Count, fell, kept, unknown, Where, at, anywhere, left, enough, has_room, after, fits, assume, is_standing}

-- what a mode weighs for a token: so much, or so much beside 16 for each counted element
pub data Rank : Type 0 where
  fixed : ℕ → Rank
  beside : ℕ → Rank

-- how far a mode is from the modes that it goes on to
abbrev pub distance : Mode → ℕ
distance mode.InTable = 0
distance mode.InBody = 0
distance mode.AfterBody = 1
distance mode.AfterAfterBody = 2
distance mode.InCaption = 1
distance mode.InColumnGroup = 1
distance mode.InTableBody = 1
distance mode.InRow = 2
distance mode.InCell = 3
distance mode.InTemplate = 4
distance mode.AfterHead = 5
distance mode.InHead = 6
distance mode.InHeadNoscript = 7
distance mode.BeforeHead = 8
distance mode.BeforeHtml = 9
distance mode.Initial = 10
distance mode.InSelect = 13
distance mode.InSelectInTable = 13
distance mode.Text = 15
distance mode.InTableText = 15
distance _ = 0

-- the modes that create what is missing for the token, and those that end its way
abbrev pub rank_cell : Mode → Rank
rank_cell mode.InTable = fixed 2
rank_cell mode.InTableBody = fixed 1
rank_cell mode.InRow = fixed 0
rank_cell mode = beside (distance mode)

abbrev pub rank_row : Mode → Rank
rank_row mode.InTable = fixed 1
rank_row mode.InTableBody = fixed 0
rank_row mode = beside (distance mode)

abbrev pub rank_column : Mode → Rank
rank_column mode.InTable = fixed 1
rank_column mode.InColumnGroup = fixed 0
rank_column mode = beside (distance mode)

abbrev pub rank_image : Mode → Rank
rank_image mode.InBody = fixed 0
rank_image mode.InTable = fixed 0
rank_image mode.InCaption = fixed 0
rank_image mode.InTableBody = fixed 0
rank_image mode.InRow = fixed 0
rank_image mode.InCell = fixed 0
rank_image mode = beside (distance mode)

abbrev pub rank_characters : Mode → Rank
rank_characters mode.InTableText = fixed 0
rank_characters mode = beside (distance mode)

abbrev pub rank_end_of_html : Mode → Rank
rank_end_of_html mode.AfterBody = fixed 0
rank_end_of_html mode = beside (distance mode)

abbrev pub rank : Kind → Mode → Rank
rank (Start (Some (names.Element element.Td))) = rank_cell
rank (Start (Some (names.Element element.Th))) = rank_cell
rank (Start (Some (names.Element element.Tr))) = rank_row
rank (Start (Some (names.Element element.Col))) = rank_column
rank (Start (Some (names.Element element.Img))) = rank_image
rank (Characters class) = rank_characters
rank (End (Some (names.Element element.Html))) = rank_end_of_html
rank _ = λ mode. beside (distance mode)

abbrev pub is_kept : Count → Bool
is_kept unknown = false
is_kept _ = true

-- whether the first rank is the smaller weight, where the count did that since the second
abbrev pub falls_by : Count → ℕ → ℕ → Bool
falls_by fell a b = nat_lt a (b + 16)
falls_by unknown a b = false
falls_by _ a b = nat_lt a b

abbrev pub falls_to : Count → Rank → Rank → Bool
falls_to count (fixed a) (fixed b) = nat_lt a b
falls_to count (fixed a) (beside b) = nat_lt a 16
falls_to count (beside a) (fixed b) = false
falls_to count (beside a) (beside b) = falls_by count a b

-- where the mode isn't known: reset gives none beyond 13, and select alone has 13
abbrev pub falls_anywhere : Count → Rank → Bool
falls_anywhere count (fixed b) = false
falls_anywhere fell (beside b) = true
falls_anywhere unknown (beside b) = false
falls_anywhere _ (beside b) = nat_lt 13 b

abbrev pub falls_left : Rank → Bool
falls_left (fixed b) = false
falls_left (beside b) = nat_lt 12 b

abbrev pub falls : Kind → Rank → Count → Where → Bool
falls kind start count (at m) = falls_to count (rank kind m) start
falls kind start count anywhere = falls_anywhere count start
falls kind start count left = is_kept count && falls_left start

abbrev pub base_fits : Mode → Base → Bool
base_fits mode.Initial bare = true
base_fits mode.Initial _ = false
base_fits mode.BeforeHtml bare = true
base_fits mode.BeforeHtml _ = false
base_fits mode.Text tall = true
base_fits mode.Text _ = false
base_fits _ base = is_standing base

abbrev pub returns : Mode → Bool
returns mode.Text = true
returns mode.InTableText = true
returns _ = false

abbrev pub collects : Mode → Bool
collects mode.InTableText = true
collects _ = false

abbrev pub same : Bool → Bool → Bool
same true b = b
same false b = not b

-- a state on such a course is valid
abbrev pub good_at : Where → Course → Bool
good_at (at m) v = base_fits m v.base && (same v.has_original (returns m) && ((not v.has_pending || collects m) && has_room v.room))
good_at _ v = is_standing v.base && (not v.has_original && (not v.has_pending && has_room v.room))

abbrev pub good : Course → Bool
good v = good_at v.place v

-- each valid state of a mode is on this course
abbrev pub base_of : Mode → Base
base_of mode.Initial = bare
base_of mode.BeforeHtml = bare
base_of mode.Text = tall
base_of _ = rooted

abbrev pub start : Mode → Course
start m = record { base = base_of m; count = kept; place = at m; has_original = returns m; has_pending = collects m; room = enough; there = None; made = false }

-- kind: the token; from: the rank at the turn's start
module _ (from : Rank) where
  abbrev pub again_passes : Kind → Course → Bool
  again_passes kind v = good v && falls kind from v.count v.place

  module _ (kind : Kind) where
    abbrev pub act_passes : (Mode → Course → (Course → Bool) → Bool) → (Course → (Course → Bool) → Bool) → Act → Course → (Course → Bool) → (Course → Bool) → Bool
    act_passes follow present act.Done v next last = last v
    act_passes follow present act.Again v next last = again_passes kind v
    act_passes follow present (act.AgainAs k) v next last = again_passes (Start (Some k)) v
    act_passes follow present (act.As m) v next last = follow m v next
    act_passes follow present (act.AsFostered m) v next last = follow m v next
    act_passes follow present act.AsPresent v next last = present v next
    act_passes follow present other v next last = fits kind other v && next (after kind other v)

    -- next: what has to pass where the plan goes on; last: where it is done
    abbrev pub plan_passes : (Mode → Course → (Course → Bool) → Bool) → (Course → (Course → Bool) → Bool) → Plan → Course → (Course → Bool) → (Course → Bool) → Bool
    plan_passes follow present ends v next last = next v
    plan_passes follow present (act ⨾ plan) v next last = act_passes follow present act v (λ w. plan_passes follow present plan w next last) last
    plan_passes follow present (when test plan rest) v next last =
        plan_passes follow present plan (assume test v) (λ w. plan_passes follow present rest w next last) last && plan_passes follow present rest v next last
    plan_passes follow present (unless test plan rest) v next last =
        plan_passes follow present rest (assume test v) next last && plan_passes follow present plan v (λ w. plan_passes follow present rest w next last) last

    unfoldable pub rules_pass : ℕ → Mode → Course → (Course → Bool) → Bool
    rules_pass zero m v next = next v
    rules_pass (suc depth) m v next = plan_passes (rules_pass depth) (λ w k. k w) (plan_for (every_mode_rows m) kind) v next next

-- the rules of a mode, and those of foreign content in it
unfoldable pub mode_passes : Mode → Kind → Bool
mode_passes m kind = rules_pass (rank kind m) kind 4 m (start m) good

-- no token goes to foreign content where the stack is empty or the current node HTML
abbrev pub goes_foreign : Base → Bool
goes_foreign rooted = true
goes_foreign _ = false

unfoldable pub foreign_passes : Mode → Kind → Bool
foreign_passes m kind = not (goes_foreign (base_of m)) || plan_passes (rank kind m) kind (rules_pass (rank kind m) kind 4) (rules_pass (rank kind m) kind 4 m) (plan_for foreign kind) (record (start m) { base = alien }) good good
