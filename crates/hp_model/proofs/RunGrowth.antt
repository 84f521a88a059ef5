-- Characters bring no entry and use no ids but those that wait for them; and what is handled token by token grows within bounds.
use Rattle.std.proofs.Common.{◌≡◌, ℕ, zero, suc, ◌+◌, ◌≤◌, ◌==◌, ◌&&◌, List, [], ◌∷◌, length, Bool, true, false, Option, None, Some, refl, sym, ap, ◌∙◌, subst, arith}
use Rattle.std.specs.Prelude.{if◌then◌else◌, All}
use Rattle.std.specs.Option.{unwrap_or}
use Rattle.hp_elements.specs.Tokens.{kind_of}
use Rattle.hp_elements.specs.declared.token.CharClass.{CharClass}
use Rattle.hp_elements.specs.declared.token.Mode.{Mode}
use Rattle.hp_elements.specs.declared.token.Mode.TheVariants as mode
use Rattle.hp_elements.specs.declared.token.Token.{Token}
use Rattle.hp_elements.specs.declared.token.Token.TheVariants as token
use Rattle.hp_tokens.specs.Moves.{Emitted}
use Rattle.hp_control.specs.Adoption.{reconstruct, stale}
use Rattle.hp_control.specs.States.{ControlState, IsFormatting, IsValid}
use Rattle.hp_model.specs.Growth.{AreInside, Grows, IsInside, share, steps_left, tag_count, tags, times, worth}
use Rattle.hp_model.specs.Handling.{all_turns, bound, handle, handle_piece, settled}
use Rattle.hp_model.specs.Rows.{entering, turn}
use Rattle.hp_model.specs.Runs.{AreRead, Parser, built, told}
use Rattle.hp_model.specs.Turns.{Handled, goes_on, after_turn, before_all, joined, left_by, plainly, turns, unchanged}
use Rattle.hp_model.specs.Whole.{IsRead}
use Rattle.hp_model.proofs.Bills.{entries_for, is_end, times-add, times-more}
use Rattle.hp_model.proofs.Costs.{Costs, costs_renew_down, stale-within}
use Rattle.hp_model.proofs.Growing.{none_some, piece_billed, some_same}
use Rattle.hp_model.proofs.Handled.{handle-valid, piece-valid, settled-valid, turns_of_token}
use Rattle.hp_model.proofs.Manners.{DealsAfter, HandsOn, Manner, drops, pends, hands_on, puts, carried, manner, put_by, turn_deals}
use Rattle.hp_model.proofs.Reconstructed.{Rebuilds, rebuilds, reconstructed-fresh}

-- nothing more is used than what was waiting
record Holds (most : ℕ) (c d : ControlState) : Type 0 where
  pub worth : worth most d ≤ worth most c
  pub entries : length d.formatting ≤ length c.formatting

holds_then : (most : ℕ) (c d e : ControlState) → Holds most c d → Holds most d e → Holds most c e
holds_then most c d e f g = record {
  worth = let a : worth most d ≤ worth most c = f.worth in let b : worth most e ≤ worth most d = g.worth in omega arith;
  entries = let a : length d.formatting ≤ length c.formatting = f.entries in let b : length e.formatting ≤ length d.formatting = g.entries in omega arith;
}

holds_none : (most : ℕ) (c : ControlState) → Holds most c c
holds_none most c = record { worth = omega arith; entries = omega arith }

-- what was reconstructed waits no more
holds_rebuilt : (most : ℕ) (fostering : Bool) (c : ControlState) → All IsFormatting c.formatting → Holds most c (reconstruct fostering c).control
holds_rebuilt most fostering c f =
    let d : ControlState = (reconstruct fostering c).control in
    let own : Costs (stale c.stack c.formatting) 0 c d = costs_renew_down fostering (stale c.stack c.formatting) c in
    let used : d.next ≤ c.next + stale c.stack c.formatting = own.next in
    let fresh : stale d.stack d.formatting ≡ 0 = reconstructed-fresh fostering c in
    let r : Rebuilds c d = rebuilds fostering c f in
    let same : times (steps_left d.mode) (most + 1) ≡ times (steps_left c.mode) (most + 1) = ap (λ m. times (steps_left m) (most + 1)) r.mode in
    record { worth = omega arith; entries = let list : length d.formatting ≤ length c.formatting + 0 = own.list in omega arith }

holds_put : (most : ℕ) (fostering replaces marks : Bool) (text : List ℕ) (c : ControlState) → Holds most c (put_by fostering replaces marks text c).control
holds_put most fostering replaces true text c = record { worth = omega arith; entries = omega arith }
holds_put most fostering replaces false text c = record { worth = omega arith; entries = omega arith }

holds_carried : (most : ℕ) (man : Manner) (text : List ℕ) (c : ControlState) → All IsFormatting c.formatting → Holds most c (carried man text c).control
holds_carried most drops text c f = holds_none most c
holds_carried most hands_on text c f = holds_none most c
holds_carried most pends text c f = record { worth = omega arith; entries = omega arith }
holds_carried most (puts fostering false replaces marks) text c f = holds_put most fostering replaces marks text c
holds_carried most (puts fostering true replaces marks) text c f =
    let d : ControlState = (reconstruct fostering c).control in
    holds_then most c d (put_by fostering replaces marks text d).control (holds_rebuilt most fostering c f) (holds_put most fostering replaces marks text d)

-- a step that hands on is paid by the steps that are left
holds_handed : (most : ℕ) (class : CharClass) (c : ControlState) (h : HandsOn (steps_left c.mode) class c (λ text. turn (token.Characters class text) c)) → length c.formatting ≤ most → Holds most c (left_by h.first)
holds_handed most class c h room =
    let d : ControlState = left_by h.first in
    let used : d.next ≤ c.next + 1 = h.next in
    let list : length d.formatting ≡ length c.formatting = ap length h.formatting in
    let waiting : stale d.stack d.formatting ≤ length d.formatting = stale-within d.stack d.formatting in
    let lower : suc (steps_left d.mode) ≤ steps_left c.mode = h.lower in
    let paid : times (suc (steps_left d.mode)) (most + 1) ≤ times (steps_left c.mode) (most + 1) = times-more (suc (steps_left d.mode)) (steps_left c.mode) (most + 1) lower in
    record { worth = omega arith; entries = omega arith }

turns_hold : (n most : ℕ) (class : CharClass) (text : List ℕ) (c : ControlState) (h : Handled) → All IsFormatting c.formatting → length c.formatting ≤ most → turns turn n (token.Characters class text) c ≡ Some h → Holds most c (left_by h)
turns_hold zero most class text c h f room e = absurd (none_some h e)
turns_hold (suc n) most class text c h f room e = go (manner class c.mode c.stack) (turn_deals class c) (turns_hold n most class text)
  where
    ended : (man : Manner) → turn (token.Characters class text) c ≡ goes_on (joined (entering c) (plainly (carried man text c))) → Holds most c (left_by h)
    ended man g =
        let same : joined (entering c) (plainly (carried man text c)) ≡ h = some_same (joined (entering c) (plainly (carried man text c))) h (sym (ap (λ u. after_turn u (turns turn n)) g) ∙ e) in
        subst (λ k. Holds most c (left_by k)) same (holds_carried most man text c f)

    later : (k : Handled) (o : Option Handled) → before_all k o ≡ Some h → ((q : Handled) → o ≡ Some q → Holds most c (left_by q)) → Holds most c (left_by h)
    later k None g rest = absurd (none_some h g)
    later k (Some q) g rest = subst (λ x. Holds most c (left_by x)) (some_same (joined k q) h g) (rest q refl)

    go : (man : Manner) → DealsAfter (steps_left c.mode) (entering c) class c man (λ text. turn (token.Characters class text) c)
        → ((d : ControlState) (q : Handled) → All IsFormatting d.formatting → length d.formatting ≤ most → turns turn n (token.Characters class text) d ≡ Some q → Holds most d (left_by q))
        → Holds most c (left_by h)
    go drops d rest = ended drops (d text)
    go pends d rest = ended pends (d text)
    go (puts g r x k) d rest = ended (puts g r x k) (d text)
    go hands_on d rest =
        let first = holds_handed most class c d room in
        let s : ControlState = left_by d.first in
        later d.first (turns turn n (token.Characters class text) s) (sym (ap (λ u. after_turn u (turns turn n)) (d.then_again text)) ∙ e)
        (λ q g. holds_then most c s (left_by q) first (rest s q (subst (λ list. All IsFormatting list) (sym d.formatting) f) (let short : length s.formatting ≤ length c.formatting = first.entries in omega arith) g))

holds_piece : (most : ℕ) (class : CharClass) (x : ℕ) (c : ControlState) → IsValid c → length c.formatting ≤ most → Holds most c (left_by (handle_piece c (token.Characters class (x ∷ []))))
holds_piece most class x c v room = go (c.skip_lf && (x == 0xA))
  where
    t : Token
    t = token.Characters class (x ∷ [])

    all : Holds most c (left_by (all_turns (settled c) t))
    all =
        let (r, e) = turns_of_token t (settled c) tt (settled-valid c v) in
        let h = turns_hold (bound (settled c)) most class (x ∷ []) (settled c) r v.formatting room e.0 in
        subst (λ o. Holds most c (left_by (unwrap_or o (unchanged (settled c))))) (sym e.0) (record { worth = h.worth; entries = h.entries })

    go : (b : Bool) → Holds most c (left_by (if b then unchanged (settled c) else all_turns (settled c) t))
    go true = record { worth = omega arith; entries = omega arith }
    go false = all

holds_text : (most : ℕ) (class : CharClass) (text : List ℕ) (c : ControlState) → IsValid c → length c.formatting ≤ most → Holds most c (left_by (handle c (token.Characters class text)))
holds_text most class [] c v room = holds_none most c
holds_text most class (x ∷ xs) c v room =
    let t : Token = token.Characters class (x ∷ []) in
    let d : ControlState = left_by (handle_piece c t) in
    let first = holds_piece most class x c v room in
    holds_then most c d (left_by (handle d (token.Characters class xs))) first (holds_text most class xs d (piece-valid t c tt v) (let short : length d.formatting ≤ length c.formatting = first.entries in omega arith))

steps-few : (m : Mode) → steps_left m ≤ 10
steps-few mode.Initial = omega arith
steps-few mode.BeforeHtml = omega arith
steps-few mode.BeforeHead = omega arith
steps-few mode.InHeadNoscript = omega arith
steps-few mode.InHead = omega arith
steps-few mode.AfterHead = omega arith
steps-few mode.InColumnGroup = omega arith
steps-few mode.InTable = omega arith
steps-few mode.InTableBody = omega arith
steps-few mode.InRow = omega arith
steps-few mode.AfterBody = omega arith
steps-few mode.AfterAfterBody = omega arith
steps-few _ = omega arith

grows_none : (most : ℕ) (c : ControlState) → Grows most 0 c c
grows_none most c = record { worth = omega arith; entries = omega arith }

grows_held : (most : ℕ) (c d : ControlState) → Holds most c d → Grows most 0 c d
grows_held most c d h = record { worth = let a : worth most d ≤ worth most c = h.worth in omega arith; entries = let a : length d.formatting ≤ length c.formatting = h.entries in omega arith }

pub grows_then : (most n m : ℕ) (c d e : ControlState) → Grows most n c d → Grows most m d e → Grows most (n + m) c e
grows_then most n m c d e f g = record {
  worth =
      let a : worth most d ≤ worth most c + times n (share most) = f.worth in
      let b : worth most e ≤ worth most d + times m (share most) = g.worth in
      let s : times (n + m) (share most) ≡ times n (share most) + times m (share most) = times-add n m (share most) in
      omega (a, b, s, arith);
  entries = let a : length d.formatting ≤ length c.formatting + n = f.entries in let b : length e.formatting ≤ length d.formatting + m = g.entries in omega arith;
}

-- a token that is one piece
grows_one : (most : ℕ) (t : Token) (c : ControlState) → IsRead t → IsValid c → is_end (kind_of t) ≡ false → entries_for (kind_of t) ≡ 1 → length c.formatting + 1 ≤ most → Grows most 1 c (left_by (handle_piece c t))
grows_one most t c read v inside one room =
    let d : ControlState = left_by (handle_piece c t) in
    let own = piece_billed most t c read v inside room in
    let used : d.next ≤ c.next + times 11 (most + 64) = own.next in
    let list : length d.formatting ≤ length c.formatting + entries_for (kind_of t) = own.list in
    let waiting : stale d.stack d.formatting ≤ length d.formatting = stale-within d.stack d.formatting in
    let few : times (steps_left d.mode) (most + 1) ≤ times 10 (most + 1) = times-more (steps_left d.mode) 10 (most + 1) (steps-few d.mode) in
    record { worth = omega arith; entries = omega arith }

grows_alone : (most : ℕ) (t : Token) (c : ControlState) → IsRead t → IsValid c → is_end (kind_of t) ≡ false → entries_for (kind_of t) ≡ 1 → length c.formatting + 1 ≤ most → Grows most 1 c (left_by (joined (handle_piece c t) (unchanged (left_by (handle_piece c t)))))
grows_alone most t c read v inside one room = grows_one most t c read v inside one room

grows_token : (most : ℕ) (t : Token) (c : ControlState) → IsRead t → IsInside t → IsValid c → length c.formatting + tag_count t ≤ most → Grows most (tag_count t) c (left_by (handle c t))
grows_token most (token.Characters class text) c read inside v room = grows_held most c (left_by (handle c (token.Characters class text))) (holds_text most class text c v (omega arith))
grows_token most (token.Start self_closing tag) c read inside v room = grows_alone most (token.Start self_closing tag) c read v refl refl room
grows_token most (token.EndTag name) c read inside v room = grows_alone most (token.EndTag name) c read v refl refl room
grows_token most (token.Comment text) c read inside v room = grows_alone most (token.Comment text) c read v refl refl room
grows_token most (token.Doctype parts) c read inside v room = grows_alone most (token.Doctype parts) c read v refl refl room
grows_token most token.EndOfInput c read inside v room = absurd inside

pub built_grows : (most : ℕ) (es : List Emitted) (p : Parser) → AreRead es → AreInside es → IsValid p.control → length p.control.formatting + tags es ≤ most → Grows most (tags es) p.control (built p es).parser.control
built_grows most [] p read inside v room = grows_none most p.control
built_grows most (e ∷ es) p read inside v room =
    let c : ControlState = p.control in
    let d : ControlState = left_by (handle c e.token) in
    let first = grows_token most e.token c read.0 inside.0 v (omega arith) in
    let short : length d.formatting ≤ length c.formatting + tag_count e.token = first.entries in
    let rest = built_grows most es (told p (handle c e.token)) read.1 inside.1 (handle-valid e.token c read.0 v) (omega arith) in
    grows_then most (tag_count e.token) (tags es) c d (built (told p (handle c e.token)) es).parser.control first rest
