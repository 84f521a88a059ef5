-- The handling of a token names what is there.
use Rattle.std.proofs.Common.{◌≡◌, ℕ, zero, suc, ◌<◌, List, [], ◌∷◌, map, Bool, true, false, ◌&&◌, arith, Option, None, Some}
use Rattle.std.specs.Prelude.{IfSome, if◌then◌else◌}
use Rattle.std.specs.Option.{unwrap_or}
use Rattle.std.proofs.lemmas.List.Elements.{All-nil, All-cons, All-head}
use Rattle.hp_elements.specs.declared.token.Mode.{Mode}
use Rattle.hp_elements.specs.declared.token.Mode.TheVariants as mode
use Rattle.hp_elements.specs.declared.token.Token.{Token}
use Rattle.hp_control.specs.declared.element.OpenElement.{OpenElement}
use Rattle.hp_control.specs.States.{ControlState, AreIds, IsId, IsValid, StackFits, is_rooted}
use Rattle.hp_model.specs.AtOnce.{after_first, handle_at_once, handle_rest}
use Rattle.hp_model.specs.Handling.{all_turns, bound, handle, handle_all, handle_piece, settled}
use Rattle.hp_model.specs.Rows.{turn}
use Rattle.hp_model.specs.Tokens.{is_line_feed, pieces}
use Rattle.hp_model.specs.Turns.{Handled, Turn, goes_on, done, again, after_turn, before_all, left_by, turns, unchanged}
use Rattle.hp_growing.specs.Laws.{AtOnceNamesThere, HandledNamesThere}
use Rattle.hp_growing.proofs.There.{AreThere, IsThere}
use Rattle.hp_growing.proofs.Making.{Has, Makes, makes_none}
use Rattle.hp_growing.proofs.Rows.{MakesTurn, makes_joined, makes_turn}

-- a valid state has its ids
stack-there : (next : ℕ) (es : List OpenElement) → AreIds 0 next (map (λ (e : OpenElement). e.id) es) → AreThere next es
stack-there next [] h = All-nil (IsThere next)
stack-there next (e ∷ es) h = All-cons (IsThere next) e es h.1 (stack-there next es h.3)

rooted-there : (next : ℕ) (es : List OpenElement) → is_rooted es ≡ true → AreThere next es → 0 < next
rooted-there next [] r h = absurd (cc)
rooted-there next (e ∷ es) r h = let k : e.id < next = All-head (IsThere next) e es h in omega arith

document-there : (m : Mode) (s : ControlState) → StackFits m s → AreThere s.next s.stack → 0 < s.next
document-there mode.Initial s h k = let e : s.next ≡ 1 = h.1 in omega arith
document-there mode.BeforeHtml s h k = let e : s.next ≡ 1 = h.1 in omega arith
document-there mode.Text s h k = rooted-there s.next s.stack h.0 k
document-there _ s h k = rooted-there s.next s.stack h k

head-there : (next : ℕ) (o : Option ℕ) → IfSome o (IsId next) → IfSome o (λ id. id < next)
head-there next None h = tt
head-there next (Some id) h = h.1

pub valid-has : (c : ControlState) → IsValid c → Has c
valid-has c v =
    let there : AreThere c.next c.stack = stack-there c.next c.stack v.stack_ids in
    record { document = document-there c.mode c v.stack there; stack = there; head = head-there c.next c.head v.head }

-- all turns
makes_turns : (n : ℕ) (t : Token) (c : ControlState) → Has c → IfSome (turns turn n t c) (λ h. Makes c h.outcome)
makes_turns zero t c h = tt
makes_turns (suc n) t c h = go (turn t c) (makes_turn t c h) (makes_turns n)
  where
    later : (k : Handled) (o : Option Handled) → Makes c k.outcome → IfSome o (λ q. Makes (left_by k) q.outcome) → IfSome (before_all k o) (λ q. Makes c q.outcome)
    later k None m rest = tt
    later k (Some q) m rest = makes_joined c k q m rest

    go : (u : Turn) → MakesTurn c u → ((other : Token) (d : ControlState) → Has d → IfSome (turns turn n other d) (λ q. Makes d q.outcome)) → IfSome (after_turn u (turns turn n)) (λ q. Makes c q.outcome)
    go (goes_on k) m rest = m
    go (done k) m rest = m
    go (again token k) m rest = later k (turns turn n token (left_by k)) m (rest token (left_by k) m.1)

makes_all_turns : (c : ControlState) (t : Token) → Has c → Makes c (all_turns c t).outcome
makes_all_turns c t h = go (turns turn (bound c) t c) (makes_turns (bound c) t c h)
  where
    go : (o : Option Handled) → IfSome o (λ q. Makes c q.outcome) → Makes c (unwrap_or o (unchanged c)).outcome
    go None m = makes_none c h
    go (Some q) m = m

makes_piece : (c : ControlState) (t : Token) → Has c → Makes c (handle_piece c t).outcome
makes_piece c t h = go (c.skip_lf && is_line_feed t)
  where
    go : (b : Bool) → Makes c (if b then unchanged (settled c) else all_turns (settled c) t).outcome
    go true = makes_none c h
    go false = makes_all_turns (settled c) t h

makes_all : (c : ControlState) (ts : List Token) → Has c → Makes c (handle_all c ts).outcome
makes_all c [] h = makes_none c h
makes_all c (t ∷ ts) h =
    let first = makes_piece c t h in
    makes_joined c (handle_piece c t) (handle_all (left_by (handle_piece c t)) ts) first (makes_all (left_by (handle_piece c t)) ts first.1)

pub makes_handled : (c : ControlState) (t : Token) → Has c → Makes c (handle c t).outcome
makes_handled c t h = makes_all c (pieces t) h

pub makes_at_once : (c : ControlState) (t : Token) → Has c → Makes c (handle_at_once c t).outcome
makes_at_once c t h = go (c.skip_lf && is_line_feed t)
  where
    rest : (o : Option Token) → Makes c (handle_rest (settled c) o).outcome
    rest None = makes_none c h
    rest (Some other) = makes_all_turns (settled c) other h

    go : (b : Bool) → Makes c (if b then handle_rest (settled c) (after_first t) else all_turns (settled c) t).outcome
    go true = rest (after_first t)
    go false = makes_all_turns (settled c) t h

pub handled-names_there : HandledNamesThere
handled-names_there c t v = (makes_handled c t (valid-has c v)).0

pub at_once-names_there : AtOnceNamesThere
at_once-names_there c t v = (makes_at_once c t (valid-has c v)).0
