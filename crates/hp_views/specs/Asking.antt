-- The questions, and how each answer is read: one of another kind is read as if nothing were there.
use Rattle.std.specs.Prelude.{ℕ, ◌+◌, ◌-◌, ◌<◌, ◌^◌, Bool, true, false, not, ◌&&◌, if◌then◌else◌, nat_lt, nat_le, List, [], Option, Some, None}
use Rattle.hp_elements.specs.Kinds.{is_html}
use Rattle.hp_elements.specs.Names.{text_of}
use Rattle.hp_elements.specs.KnownNames as known
use Rattle.hp_elements.specs.declared.kinds.Kinds.{Kinds}
use Rattle.hp_elements.specs.declared.kinds.Kinds.TheVariants as kinds
use Rattle.hp_elements.specs.declared.sets.SetName.TheVariants as sets
use Rattle.hp_elements.specs.declared.tag.Tag.{Tag}
use Rattle.hp_elements.specs.declared.token.Mode.{Mode}
use Rattle.hp_elements.specs.declared.token.Mode.TheVariants as mode
use Rattle.hp_control.specs.declared.question.Question.TheVariants as ask
use Rattle.hp_control.specs.declared.question.Answer.{Answer}
use Rattle.hp_control.specs.declared.question.Answer.TheVariants as answer
use Rattle.hp_control.specs.declared.question.EntryKind.TheVariants.{Absent}
use Rattle.hp_control.specs.declared.question.FactKind.TheVariants.{Quirks, LastTag}
use Rattle.hp_control.specs.Plan.{Plan, gives, asks}
use Rattle.hp_views.specs.declared.asking.Standing.{Standing}
use Rattle.hp_views.specs.declared.asking.Pointed.{Pointed}
use Rattle.hp_views.specs.declared.asking.Pointed.TheVariants.{Nowhere, Away, Here}

abbrev pub is_yes : Answer → Bool
is_yes answer.Yes = true
is_yes _ = false

abbrev pub depth_from : ℕ → Answer → Option ℕ
depth_from depth (answer.Depth found) = if nat_le depth found && nat_lt found (2 ^ 60) then Some (found - depth) else None
depth_from depth _ = None

abbrev pub count_in : Answer → ℕ
count_in (answer.Count n) = if nat_lt n (2 ^ 60) then n else 0
count_in _ = 0

abbrev pub mode_in : Answer → Mode
mode_in (answer.NewMode m) = m
mode_in _ = mode.InBody

abbrev pub name_in : Answer → List ℕ
name_in (answer.LastTag name) = name
name_in _ = []

abbrev pub standing_in : Answer → Standing
standing_in (answer.Entry kind top) = record { kind = kind; top = top }
standing_in _ = record { kind = Absent; top = false }

abbrev pub pointed_at : ℕ → Option ℕ → Pointed
pointed_at depth None = Away
pointed_at depth (Some k) = Here k

abbrev pub pointed_in : ℕ → Answer → Pointed
pointed_in depth answer.Null = Nowhere
pointed_in depth (answer.Depth found) = pointed_at depth (depth_from depth (answer.Depth found))
pointed_in depth _ = Away

abbrev pub is_body_in : Answer → Bool
is_body_in (answer.Whole body ok) = body
is_body_in _ = false

abbrev pub is_ok_in : Answer → Bool
is_ok_in (answer.Whole body ok) = ok
is_ok_in _ = false

-- an element, and one that isn't an HTML element
abbrev pub is_there : Answer → Bool
is_there (answer.Element space name point) = true
is_there _ = false

abbrev pub is_foreign : Answer → Bool
is_foreign (answer.Element space name point) = not (is_html space)
is_foreign _ = false

-- what is found is at a depth that an older stack may have
abbrev pub IsShort : ℕ → Pointed → Type 0
IsShort depth Nowhere = Unit {0}
IsShort depth Away = Unit {0}
IsShort depth (Here k) = depth + k < 2 ^ 60

abbrev pub ask_seen : ℕ → Kinds → Kinds → Plan Bool
ask_seen depth goals stops = asks (ask.Seen depth goals stops) (λ a. gives (is_yes a))

-- whether the element there is an HTML one
abbrev pub ask_html : ℕ → Plan Bool
ask_html depth = ask_seen depth kinds.AnyHtml kinds.All

-- whether a p element is in button scope from there downward
abbrev pub ask_paragraph : ℕ → Plan Bool
ask_paragraph depth = ask_seen depth (kinds.Html (text_of known.P)) (kinds.Set sets.ButtonScopeEnds)

abbrev pub ask_reach : ℕ → Kinds → Kinds → Plan (Option ℕ)
ask_reach depth goals stops = asks (ask.Reach depth goals stops) (λ a. gives (depth_from depth a))

abbrev pub ask_run : ℕ → Kinds → Plan ℕ
ask_run depth names = asks (ask.RunOf depth names) (λ a. gives (count_in a))

abbrev pub ask_template : ℕ → Plan Bool
ask_template depth = asks (ask.HasTemplate depth) (λ a. gives (is_yes a))

abbrev pub ask_reset : ℕ → Plan Mode
ask_reset depth = asks (ask.ResetFrom depth) (λ a. gives (mode_in a))

abbrev pub ask_quiet : ℕ → ℕ → Plan Bool
ask_quiet depth cuts = asks (ask.Quiet depth cuts) (λ a. gives (is_yes a))

abbrev pub ask_listed : ℕ → ℕ → List ℕ → Plan Standing
ask_listed depth cuts name = asks (ask.Listed depth cuts name) (λ a. gives (standing_in a))

abbrev pub ask_same : ℕ → Tag → Plan ℕ
ask_same cuts tag = asks (ask.Same cuts tag) (λ a. gives (count_in a))

abbrev pub ask_pointer : ℕ → Plan Pointed
ask_pointer depth = asks (ask.Pointer depth) (λ a. gives (pointed_in depth a))

abbrev pub ask_quirks : Plan Bool
ask_quirks = asks (ask.Fact Quirks) (λ a. gives (is_yes a))

abbrev pub ask_last_tag : Plan (List ℕ)
ask_last_tag = asks (ask.Fact LastTag) (λ a. gives (name_in a))

abbrev pub ask_body : ℕ → Plan Bool
ask_body depth = asks (ask.Whole depth) (λ a. gives (is_body_in a))

abbrev pub ask_frameset : ℕ → Plan Bool
ask_frameset depth = asks (ask.Whole depth) (λ a. gives (is_ok_in a))

abbrev pub ask_there : ℕ → Plan Bool
ask_there depth = asks (ask.Elem depth) (λ a. gives (is_there a))

abbrev pub ask_foreign : ℕ → Plan Bool
ask_foreign depth = asks (ask.Elem depth) (λ a. gives (is_foreign a))
