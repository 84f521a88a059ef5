-- Whether a p element is in button scope, by what the stack knows.
use Rattle.std.proofs.Common.{◌≡◌, ℕ, Bool, true, false, List, [], ◌∷◌, if◌then◌else◌, refl, ◌∙◌}
use Rattle.hp_elements.specs.Names.{text_of}
use Rattle.hp_elements.specs.declared.kinds.Kinds.{Kinds}
use Rattle.hp_elements.specs.declared.kinds.Kinds.TheVariants as kinds
use Rattle.hp_elements.specs.KnownNames as known
use Rattle.hp_elements.specs.declared.sets.SetName.TheVariants as sets
use Rattle.hp_control.specs.declared.element.OpenElement.{OpenElement}
use Rattle.hp_control.specs.declared.open_elements.WalkEnd.{WalkEnd}
use Rattle.hp_control.specs.declared.open_elements.WalkEnd.TheVariants.{Goal, Stop, BelowAll}
use Rattle.hp_control.specs.Ends.{end_of, paragraph_end}
use Rattle.hp_control.specs.KindTests.{within}
use Rattle.hp_control.specs.Plan.{Plan, gives}
use Rattle.hp_views.specs.declared.walks.Walk.{Walk}
use Rattle.hp_views.specs.declared.walks.Walk.TheVariants.{Found, Stopped, PastAll}
use Rattle.hp_views.specs.Asking.{ask_seen}
use Rattle.hp_views.specs.StackPlans.{seen_on}
use Rattle.hp_views.specs.Walks.{deeper, walk_of}

-- what is asked where a walk ends so
abbrev pub seen_to : ℕ → Kinds → Kinds → WalkEnd → Plan Bool
seen_to popped goals stops Goal = gives true
seen_to popped goals stops Stop = gives false
seen_to popped goals stops BelowAll = ask_seen popped goals stops

seen_deeper : (popped : ℕ) (goals stops : Kinds) (w : Walk) → seen_on popped goals stops w ≡ seen_on popped goals stops (deeper 1 w)
seen_deeper popped goals stops (Found k) = refl
seen_deeper popped goals stops Stopped = refl
seen_deeper popped goals stops PastAll = refl

seen_at_end : (popped : ℕ) (goals stops : Kinds) (es : List OpenElement) → seen_to popped goals stops (end_of goals stops es) ≡ seen_on popped goals stops (walk_of goals stops es)
seen_at_end popped goals stops [] = refl
seen_at_end popped goals stops (e ∷ es) =
    elim (within goals e) as (λ b. seen_to popped goals stops (if b then Goal else (if within stops e then Stop else end_of goals stops es)) ≡ seen_on popped goals stops (if b then Found 0 else (if within stops e then Stopped else deeper 1 (walk_of goals stops es)))) [
      | true ↦ refl
      | false ↦ elim (within stops e) as (λ b. seen_to popped goals stops (if b then Stop else end_of goals stops es) ≡ seen_on popped goals stops (if b then Stopped else deeper 1 (walk_of goals stops es))) [
        | true ↦ refl
        | false ↦ seen_at_end popped goals stops es ∙ seen_deeper popped goals stops (walk_of goals stops es)
      ]
    ]

abbrev pub a_paragraph : Kinds
a_paragraph = kinds.Html (text_of known.P)

abbrev pub button_ends : Kinds
button_ends = kinds.Set sets.ButtonScopeEnds

pub paragraph_seen : (popped : ℕ) (es : List OpenElement) (end : WalkEnd) → end ≡ paragraph_end es → seen_to popped a_paragraph button_ends end ≡ seen_on popped a_paragraph button_ends (walk_of a_paragraph button_ends es)
unfolding paragraph_end
paragraph_seen popped es end e = rw e (seen_at_end popped a_paragraph button_ends es)
