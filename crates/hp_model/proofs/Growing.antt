-- A token that isn't characters, nor the end of input, makes so many elements and brings at most one entry.
use Rattle.std.proofs.Common.{◌≡◌, ℕ, zero, suc, ◌+◌, ◌≤◌, Bool, true, false, not, ◌&&◌, ◌||◌, List, length, Option, None, Some, refl, sym, ap, subst, arith}
use Rattle.std.specs.Prelude.{if◌then◌else◌, nat_le}
use Rattle.std.specs.Option.{unwrap_or}
use Rattle.std.proofs.lemmas.Bool.{and_parts, true≢false, leb-true}
use Rattle.hp_elements.specs.Rules.{plan_for}
use Rattle.hp_elements.specs.Tokens.{kind_of}
use Rattle.hp_elements.specs.declared.token.Kind.{Kind}
use Rattle.hp_elements.specs.declared.token.Mode.{Mode}
use Rattle.hp_elements.specs.declared.token.Token.{Token}
use Rattle.hp_control.specs.declared.element.OpenElement.{OpenElement}
use Rattle.hp_control.specs.Foreign.{is_foreign}
use Rattle.hp_control.specs.States.{ControlState, IsValid}
use Rattle.hp_rules_rest.specs.Foreign.{foreign}
use Rattle.hp_model.specs.Growth.{times}
use Rattle.hp_model.specs.Handling.{all_turns, bound, handle_piece, settled}
use Rattle.hp_model.specs.Rows.{entering, foreign_turn, mode_turn, rules, turn}
use Rattle.hp_model.specs.Tokens.{is_line_feed}
use Rattle.hp_model.specs.Turns.{Handled, Turn, goes_on, done, again, after_turn, before_all, joined, left_by, turns, unchanged}
use Rattle.hp_model.specs.Whole.{IsRead}
use Rattle.hp_model.proofs.Billing.{BMeets, bmeets_before, plan_bmeets, rules_bmeet}
use Rattle.hp_model.proofs.Bills.{Bill, each_foreign_bill, each_left, each_mode_bill, entries_for, foreign_bill, is_end, last_bill, mode_bill, no_bill, rules_bill, settled_left, shares_at, shares_left, times-add, times-more}
use Rattle.hp_model.proofs.Costs.{Costs, costs_none, costs_then, costs_within}
use Rattle.hp_model.proofs.Course.{Where, at, anywhere, left, PlaceIs, alien}
use Rattle.hp_model.proofs.Handled.{Leaves, along-foreign, along-start, foreign-base, foreign-standing, foreign-top, settled-valid, turn-leaves, turns_of_token}
use Rattle.hp_model.proofs.Passes.{base_of, goes_foreign, start}
use Rattle.hp_model.proofs.Stacks.{is_counted}
use Rattle.hp_model.proofs.Tally.{tally}
use Rattle.hp_model.proofs.Weights.{weight}

-- what a turn made, of a token of that kind, begun in that mode
abbrev BLeaves : ℕ → Kind → Mode → ControlState → Turn → Type 0
BLeaves most from first c (goes_on h) = Costs (times 8 (most + 64)) (entries_for from) c (left_by h)
BLeaves most from first c (done h) = Costs (times 8 (most + 64)) (entries_for from) c (left_by h)
BLeaves most from first c (again t h) =
    (made : ℕ) × Costs (times made (most + 64)) 0 c (left_by h) × (shares_left (kind_of t) (left_by h).mode + made ≤ shares_left from first)
    × (entries_for (kind_of t) ≤ entries_for from) × (is_end (kind_of t) ≡ false)

-- no more shares are left than where the mode was placed
placed_left : (kind : Kind) (w : Where) (n : ℕ) (st : List OpenElement) (m : Mode) → PlaceIs w n st m → shares_left kind m ≤ shares_at kind w
placed_left kind (at m) n st present h = let e : shares_left kind present ≡ shares_left kind m = ap (shares_left kind) h in omega arith
placed_left kind anywhere n st present h = leb-true (shares_left kind present) 2 (settled_left present kind h)
placed_left kind left n st present h = leb-true (shares_left kind present) 2 (settled_left present kind h.0)

ended : (most : ℕ) (from : Kind) (c r : ControlState) (b : Bill) → Costs (times b.shares (most + 64)) b.more c r → (nat_le b.shares 8 && nat_le b.more (entries_for from)) ≡ true → Costs (times 8 (most + 64)) (entries_for from) c r
ended most from c r b i e =
    let parts = and_parts (nat_le b.shares 8) (nat_le b.more (entries_for from)) e in
    costs_within (times b.shares (most + 64)) b.more (times 8 (most + 64)) (entries_for from) c r (times-more b.shares 8 (most + 64) (leb-true b.shares 8 parts.0)) (leb-true b.more (entries_for from) parts.1) i

not_false : (b : Bool) → not b ≡ true → b ≡ false
not_false true h = absurd (true≢false (sym h))
not_false false h = refl

bmeets-leaves : (from : Kind) (first : Mode) (n most : ℕ) (c : ControlState) (room : length c.formatting + 1 ≤ most) (t : Turn) → BMeets from first n most c room (last_bill from first) (last_bill from first) t → BLeaves most from first c t
bmeets-leaves from first n most c room (goes_on h) (w, b, g, i, e) = ended most from c (left_by h) b i e
bmeets-leaves from first n most c room (done h) (w, b, g, i, e) = ended most from c (left_by h) b i e
bmeets-leaves from first n most c room (again t h) (w, b, g, i, e, read) =
    let parts = and_parts (nat_le (shares_at (kind_of t) w.place + b.shares) (shares_left from first)) _ e in
    let more = and_parts (nat_le b.more 0) _ parts.1 in
    let kinds = and_parts (nat_le (entries_for (kind_of t)) (entries_for from)) (not (is_end (kind_of t))) more.1 in
    let a : shares_at (kind_of t) w.place + b.shares ≤ shares_left from first = leb-true (shares_at (kind_of t) w.place + b.shares) (shares_left from first) parts.0 in
    let d : shares_left (kind_of t) (left_by h).mode ≤ shares_at (kind_of t) w.place = placed_left (kind_of t) w.place n (left_by h).stack (left_by h).mode g.place in (
      b.shares,
      costs_within (times b.shares (most + 64)) b.more (times b.shares (most + 64)) 0 c (left_by h) (omega arith) (leb-true b.more 0 more.0) i,
      omega arith,
      leb-true (entries_for (kind_of t)) (entries_for from) kinds.0,
      not_false (is_end (kind_of t)) kinds.1,
    )

or_right : (a b : Bool) → a ≡ false → (a || b) ≡ true → b ≡ true
or_right true b h k = absurd (true≢false h)
or_right false b h k = k

or_third : (a b x : Bool) → a ≡ false → b ≡ true → (a || not b || x) ≡ true → x ≡ true
or_third true b x h g k = absurd (true≢false h)
or_third false true x h g k = k
or_third false false x h g k = absurd (true≢false (sym g))

turn_billed : (most : ℕ) (t : Token) (s : ControlState) → IsRead t → IsValid s → is_end (kind_of t) ≡ false → length s.formatting + 1 ≤ most → BLeaves most (kind_of t) s.mode s (turn t s)
unfolding turn mode_bill foreign_bill
turn_billed most t s read v runs_on room =
    bmeets-leaves (kind_of t) s.mode (tally is_counted s.stack) most s room (turn t s)
    (bmeets_before (kind_of t) s.mode (tally is_counted s.stack) most s room (entering s) (if is_foreign (kind_of t) s.stack then foreign_turn t s else mode_turn t s.mode s) (last_bill (kind_of t) s.mode) (last_bill (kind_of t) s.mode) (go (is_foreign (kind_of t) s.stack) refl))
  where
    none : Costs (times 0 (most + 64)) 0 s s
    none = costs_none 0 0 s

    go : (b : Bool) → is_foreign (kind_of t) s.stack ≡ b → BMeets (kind_of t) s.mode (tally is_counted s.stack) most s room (last_bill (kind_of t) s.mode) (last_bill (kind_of t) s.mode) (if b then foreign_turn t s else mode_turn t s.mode s)
    go true e =
        let far = foreign-standing (kind_of t) s.mode s v.stack e in
        plan_bmeets (kind_of t) s.mode (tally is_counted s.stack) most s room t read (rules 4 t) (mode_turn t s.mode) (rules_bill (kind_of t) s.mode (kind_of t) 4) (rules_bill (kind_of t) s.mode (kind_of t) 4 s.mode)
        (rules_bmeet (kind_of t) s.mode (tally is_counted s.stack) most s room t read 4) (rules_bmeet (kind_of t) s.mode (tally is_counted s.stack) most s room t read 4 false s.mode) false
        (plan_for foreign (kind_of t)) (record (start s.mode) { base = alien }) no_bill s (last_bill (kind_of t) s.mode) (last_bill (kind_of t) s.mode) (along-foreign s v (foreign-base s.mode s v.stack far) (foreign-top (kind_of t) s.stack e)) none
        (or_third (is_end (kind_of t)) (goes_foreign (base_of s.mode)) _ runs_on far (each_foreign_bill s.mode (kind_of t)))
    go false e = rules_bmeet (kind_of t) s.mode (tally is_counted s.stack) most s room t read 4 false s.mode (start s.mode) no_bill s (last_bill (kind_of t) s.mode) (along-start s v) none
        (or_right (is_end (kind_of t)) _ runs_on (each_mode_bill s.mode (kind_of t)))

pub none_some : {X : Type 0} (x : X) → None ≡ Some x → ⊥
none_some x h = cc

pub some_same : {X : Type 0} (a b : X) → Some a ≡ Some b → a ≡ b
some_same a b h = cc

turns_billed : (n most : ℕ) (t : Token) (s : ControlState) (h : Handled) → IsRead t → IsValid s → is_end (kind_of t) ≡ false → length s.formatting + 1 ≤ most → turns turn n t s ≡ Some h
    → Costs (times (shares_left (kind_of t) s.mode + 8) (most + 64)) (entries_for (kind_of t)) s (left_by h)
turns_billed zero most t s h read v runs_on room e = absurd (none_some h e)
turns_billed (suc n) most t s h read v runs_on room e = go (turn t s) (turn_billed most t s read v runs_on room) (turn-leaves t s read v) e (turns_billed n most)
  where
    total : ℕ
    total = shares_left (kind_of t) s.mode + 8

    last_turn : (k : Handled) → Costs (times 8 (most + 64)) (entries_for (kind_of t)) s (left_by k) → Some k ≡ Some h → Costs (times total (most + 64)) (entries_for (kind_of t)) s (left_by h)
    last_turn k i f =
        subst (λ x. Costs (times total (most + 64)) (entries_for (kind_of t)) s (left_by x)) (some_same k h f)
        (costs_within (times 8 (most + 64)) (entries_for (kind_of t)) (times total (most + 64)) (entries_for (kind_of t)) s (left_by k) (times-more 8 total (most + 64) (omega arith)) (omega arith) i)

    later_turn : (other : Token) (k : Handled) → BLeaves most (kind_of t) s.mode s (again other k) → IsRead other → IsValid (left_by k) → (o : Option Handled) → before_all k o ≡ Some h
        → ((q : Handled) → o ≡ Some q → length (left_by k).formatting + 1 ≤ most → Costs (times (shares_left (kind_of other) (left_by k).mode + 8) (most + 64)) (entries_for (kind_of other)) (left_by k) (left_by q))
        → Costs (times total (most + 64)) (entries_for (kind_of t)) s (left_by h)
    later_turn other k (made, i, few, kinds, ends_not) read_other valid_other None f rest = absurd (none_some h f)
    later_turn other k (made, i, few, kinds, ends_not) read_other valid_other (Some q) f rest =
        let short : length (left_by k).formatting ≤ length s.formatting + 0 = i.list in
        let own = rest q refl (omega arith) in
        let both = costs_then (times made (most + 64)) 0 (times (shares_left (kind_of other) (left_by k).mode + 8) (most + 64)) (entries_for (kind_of other)) s (left_by k) (left_by q) i own in
        let sum : times (made + (shares_left (kind_of other) (left_by k).mode + 8)) (most + 64) ≡ times made (most + 64) + times (shares_left (kind_of other) (left_by k).mode + 8) (most + 64) = times-add made (shares_left (kind_of other) (left_by k).mode + 8) (most + 64) in
        let most_of : times (made + (shares_left (kind_of other) (left_by k).mode + 8)) (most + 64) ≤ times total (most + 64) = times-more (made + (shares_left (kind_of other) (left_by k).mode + 8)) total (most + 64) (omega arith) in
        subst (λ x. Costs (times total (most + 64)) (entries_for (kind_of t)) s (left_by x)) (some_same (joined k q) h f)
        (costs_within (times made (most + 64) + times (shares_left (kind_of other) (left_by k).mode + 8) (most + 64)) (0 + entries_for (kind_of other)) (times total (most + 64)) (entries_for (kind_of t)) s (left_by q) (omega arith) (omega arith) both)

    go : (u : Turn) → BLeaves most (kind_of t) s.mode s u → Leaves (weight (kind_of t) s.mode s.stack) u → after_turn u (turns turn n) ≡ Some h
        → ((other : Token) (r : ControlState) (q : Handled) → IsRead other → IsValid r → is_end (kind_of other) ≡ false → length r.formatting + 1 ≤ most → turns turn n other r ≡ Some q
        → Costs (times (shares_left (kind_of other) r.mode + 8) (most + 64)) (entries_for (kind_of other)) r (left_by q))
        → Costs (times total (most + 64)) (entries_for (kind_of t)) s (left_by h)
    go (goes_on k) i l f rest = last_turn k i f
    go (done k) i l f rest = last_turn k i f
    go (again other k) i l f rest =
        later_turn other k i l.2 l.0 (turns turn n other (left_by k)) f (λ q g r. rest other (left_by k) q l.2 l.0 i.4 r g)

all_billed : (most : ℕ) (t : Token) (s : ControlState) → IsRead t → IsValid s → is_end (kind_of t) ≡ false → length s.formatting + 1 ≤ most → Costs (times 11 (most + 64)) (entries_for (kind_of t)) s (left_by (all_turns s t))
all_billed most t s read v runs_on room =
    let (r, e) = turns_of_token t s read v in
    let few : shares_left (kind_of t) s.mode ≤ 3 = leb-true (shares_left (kind_of t) s.mode) 3 (each_left s.mode (kind_of t)) in
    subst (λ o. Costs (times 11 (most + 64)) (entries_for (kind_of t)) s (left_by (unwrap_or o (unchanged s)))) (sym e.0)
    (costs_within (times (shares_left (kind_of t) s.mode + 8) (most + 64)) (entries_for (kind_of t)) (times 11 (most + 64)) (entries_for (kind_of t)) s (left_by r)
    (times-more (shares_left (kind_of t) s.mode + 8) 11 (most + 64) (omega arith)) (omega arith) (turns_billed (bound s) most t s r read v runs_on room e.0))

pub piece_billed : (most : ℕ) (t : Token) (s : ControlState) → IsRead t → IsValid s → is_end (kind_of t) ≡ false → length s.formatting + 1 ≤ most → Costs (times 11 (most + 64)) (entries_for (kind_of t)) s (left_by (handle_piece s t))
piece_billed most t s read v runs_on room = go (s.skip_lf && is_line_feed t)
  where
    go : (b : Bool) → Costs (times 11 (most + 64)) (entries_for (kind_of t)) s (left_by (if b then unchanged (settled s) else all_turns (settled s) t))
    go true = record { next = omega arith; list = omega arith }
    go false = let i = all_billed most t (settled s) read (settled-valid s v) runs_on room in record { next = i.next; list = i.list }
