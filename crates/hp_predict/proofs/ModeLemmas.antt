-- The mode to which the insertion mode is reset is one that text goes back to.
use Rattle.std.proofs.Common.{◌≡◌, Bool, true, false, ◌&&◌, List, [], ◌∷◌, refl}
use Rattle.std.specs.Prelude.{Option, None, Some, IfSome, not, if◌then◌else◌}
use Rattle.std.specs.Option.{unwrap_or}
use Rattle.std.specs.List.{All}
use Rattle.std.proofs.lemmas.List.Elements.{All-nil, All-cons}
use Rattle.hp_elements.specs.KnownNames as known
use Rattle.hp_elements.specs.declared.kinds.Kinds.TheVariants as kinds
use Rattle.hp_elements.specs.declared.sets.SetName.TheVariants as sets
use Rattle.hp_elements.specs.declared.token.Mode.{Mode}
use Rattle.hp_elements.specs.declared.token.Mode.TheVariants as mode
use Rattle.hp_control.specs.KindTests.{within}
use Rattle.hp_control.specs.States.{ControlState, StackFits, OriginalFits, PendingFits, is_settled, is_template_mode, is_named, is_rooted, is_tall}
use Rattle.hp_control.specs.Walks.{mode_of, mode_at, reset_mode, last_template_mode, select_mode, table_comes, is_cell, is_last}
use Rattle.hp_control.specs.declared.element.OpenElement.{OpenElement}
use Rattle.hp_predict.specs.OpenNames.{Names, is_name}
use Rattle.hp_predict.specs.Guess.{template_modes}

abbrev Settled : Mode → Type 0
Settled m = is_settled m ≡ true

abbrev MaySettle : Option Mode → Type 0
MaySettle o = IfSome o Settled

true_false : false ≡ true → ⊥
true_false e = cc

where_true : (b : Bool) (o p : Option Mode) → MaySettle o → MaySettle p → MaySettle (if b then o else p)
where_true true o p x y = x
where_true false o p x y = y

select_settled : (b : Bool) → Settled (select_mode b)
select_settled true = refl
select_settled false = refl

pub each_template_mode : (names : Names) → All (λ m. is_template_mode m ≡ true) (template_modes names)
unfolding template_modes
each_template_mode [] = All-nil (λ (m : Mode). is_template_mode m ≡ true)
each_template_mode (name ∷ names) = go (is_name known.Template name) (each_template_mode names)
  where
    go : (b : Bool) → All (λ m. is_template_mode m ≡ true) (template_modes names) → All (λ m. is_template_mode m ≡ true) (if b then mode.InTemplate ∷ template_modes names else template_modes names)
    go true h = All-cons (λ (m : Mode). is_template_mode m ≡ true) mode.InTemplate (template_modes names) refl h
    go false h = h

last_settled : (names : Names) → Settled (last_template_mode (template_modes names))
unfolding template_modes
last_settled [] = refl
last_settled (name ∷ names) = go (is_name known.Template name) (last_settled names)
  where
    go : (b : Bool) → Settled (last_template_mode (template_modes names)) → Settled (last_template_mode (if b then mode.InTemplate ∷ template_modes names else template_modes names))
    go true h = refl
    go false h = h

of_settled : (e : OpenElement) → MaySettle (mode_of e)
of_settled e =
    where_true (is_named known.Tr e) _ _ refl
    (where_true (within (kinds.Set sets.TableSections) e) _ _ refl
    (where_true (is_named known.Caption e) _ _ refl
    (where_true (is_named known.Colgroup e) _ _ refl
    (where_true (is_named known.Table e) _ _ refl
    (where_true (is_named known.Body e) _ _ refl
    (where_true (is_named known.Frameset e) _ _ refl tt))))))

at_settled : (names : Names) (e : OpenElement) (below : List OpenElement) → MaySettle (mode_at true (template_modes names) e below)
at_settled names e below =
    where_true (is_named known.Select e) _ _ (select_settled (table_comes below))
    (where_true (is_cell e && not (is_last below)) _ _ refl
    (where_true (is_named known.Template e) _ _ (last_settled names)
    (where_true (is_named known.Head e && not (is_last below)) _ _ refl
    (where_true (is_named known.Html e) _ _ refl (of_settled e)))))

or_settled : (o : Option Mode) (m : Mode) → MaySettle o → Settled m → Settled (unwrap_or o m)
or_settled None m x y = y
or_settled (Some n) m x y = x

pub reset_settled : (names : Names) (es : List OpenElement) → is_settled (reset_mode true (template_modes names) es) ≡ true
reset_settled names [] = refl
reset_settled names (e ∷ es) = or_settled (mode_at true (template_modes names) e es) (reset_mode true (template_modes names) es) (at_settled names e es) (reset_settled names es)

-- such a mode wants a stack from html on, no original mode and no pending characters
settled_stack : (m : Mode) (s : ControlState) → Settled m → is_rooted s.stack ≡ true → StackFits m s
settled_stack mode.Initial s h r = absurd (true_false h)
settled_stack mode.BeforeHtml s h r = absurd (true_false h)
settled_stack mode.Text s h r = absurd (true_false h)
settled_stack mode.InTableText s h r = absurd (true_false h)
settled_stack _ s h r = r

settled_original : (m : Mode) → Settled m → OriginalFits m None
settled_original mode.Text h = absurd (true_false h)
settled_original mode.InTableText h = absurd (true_false h)
settled_original _ h = refl

settled_pending : (m : Mode) → PendingFits m []
settled_pending mode.InTableText = tt
settled_pending _ = refl

pub stack_fits : (text : Bool) (m : Mode) (s : ControlState) → is_settled m ≡ true → is_rooted s.stack ≡ true → is_tall s.stack ≡ true → StackFits (if text then mode.Text else m) s
stack_fits true m s h r t = (r, t)
stack_fits false m s h r t = settled_stack m s h r

pub original_fits : (text : Bool) (m original : Mode) → is_settled m ≡ true → is_settled original ≡ true → OriginalFits (if text then mode.Text else m) (if text then Some original else None)
original_fits true m original h o = o
original_fits false m original h o = settled_original m h

pub pending_fits : (text : Bool) (m : Mode) → PendingFits (if text then mode.Text else m) []
pending_fits true m = refl
pending_fits false m = settled_pending m
