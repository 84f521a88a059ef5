-- What a run over a page makes: at most an entry for each code point, and ids within bounds.
use Rattle.std.proofs.Common.{◌≡◌, ℕ, zero, suc, ◌+◌, ◌*◌, ◌^◌, ◌≤◌, ◌<◌, List, [], ◌∷◌, Bool, true, false, length, refl, ap, sym, subst, ◌∙◌, arith, Option, None, Some}
use Rattle.std.specs.Prelude.{if◌then◌else◌}
use Rattle.std.proofs.Math.Nat.{mul-le-mul, suc-mul}
use Rattle.hp_elements.specs.declared.token.Rest.{Rest}
use Rattle.hp_names.specs.References.{Reference}
use Rattle.hp_tokens.specs.Moves.{Lexing, Emitted, Move, needs_more, asks_cdata, asks_last_tag, makes, ends, move}
use Rattle.hp_control.specs.declared.edit.Edit.{Edit}
use Rattle.hp_control.specs.Composed.{is_foreign_now}
use Rattle.hp_control.specs.States.{ControlState, Fits, IsValid, start}
use Rattle.hp_control.proofs.StartLemmas.{start_valid}
use Rattle.hp_lexer.specs.Table.{table}
use Rattle.hp_model.specs.Growth.{Grows, share, tags, times, worth}
use Rattle.hp_model.specs.Handling.{handle}
use Rattle.hp_model.specs.Runs.{Parser, Built, goes, Goes, here, onward, at_lexing, at_start, built, step, step_by, switched, told}
use Rattle.hp_model.proofs.RunGrowth.{built_grows, grows_then}
use Rattle.hp_model.proofs.Running.{goes-same, goes_valid}
use Rattle.hp_runs.specs.Pages.{Runs}
use Rattle.hp_runs.proofs.SparseTable.{MoveSparse, move_sparse}
use Rattle.hp_runs.proofs.TableRows.{table_read}

-- from p to q so many tokens came that aren't characters, and at least as many code points were read
record Grown (most : ℕ) (p q : Parser) : Type 0 where
  pub count : ℕ
  pub grows : Grows most count p.control q.control
  pub read : count + length q.lexing.unread ≤ length p.lexing.unread

switched-unread : (to : Option Rest) (l : Lexing) → (switched to l).unread ≡ l.unread
switched-unread None l = refl
switched-unread (Some rest) l = refl

built-unread : (es : List Emitted) (p : Parser) → (built p es).parser.lexing.unread ≡ p.lexing.unread
built-unread [] p = refl
built-unread (e ∷ es) p = built-unread es (told p (handle p.control e.token)) ∙ switched-unread (handle p.control e.token).switch p.lexing

step_grown : (names : List Reference) (most : ℕ) (p q : Parser) (es : List Edit) (m : Move) → m ≡ move (table names) p.lexing → MoveSparse (length p.lexing.unread) m → IsValid p.control
    → length p.control.formatting + length p.lexing.unread ≤ most → step_by p m ≡ goes q es → Grown most p q
step_grown names most p q es needs_more e s v room f = absurd (cc)
step_grown names most p q es (asks_cdata foreign html) e s v room f =
    subst (λ x. Grown most p x) (goes-same (at_lexing p (if is_foreign_now p.control then foreign else html)) q [] es f).0 (go (is_foreign_now p.control))
  where
    go : (b : Bool) → Grown most p (at_lexing p (if b then foreign else html))
    go true = record { count = 0; grows = record { worth = omega arith; entries = omega arith }; read = let k : length foreign.unread ≤ length p.lexing.unread = s.0 in omega arith }
    go false = record { count = 0; grows = record { worth = omega arith; entries = omega arith }; read = let k : length html.unread ≤ length p.lexing.unread = s.1 in omega arith }
step_grown names most p q es asks_last_tag e s v room f = absurd (cc)
step_grown names most p q es (makes l ts) e s v room f =
    let b : Built = built (at_lexing p l) ts in
    let few : tags ts + length l.unread ≤ length p.lexing.unread = s.0 in
    let unread : length b.parser.lexing.unread ≡ length l.unread = ap length (built-unread ts (at_lexing p l)) in
    subst (λ x. Grown most p x) (goes-same b.parser q b.edits es f).0
    (record {
      count = tags ts;
      grows = built_grows most ts (at_lexing p l) ((table_read names).emits p.lexing l ts (sym e)) s.1 v (omega arith);
      read = omega arith;
    })
step_grown names most p q es (ends ts) e s v room f = absurd (cc)

way_grown : (names : List Reference) (most : ℕ) {p q : Parser} {es : List Edit} → Goes (step (table names)) p es q → IsValid p.control → length p.control.formatting + length p.lexing.unread ≤ most → Grown most p q
way_grown names most here v room = record { count = 0; grows = record { worth = omega arith; entries = omega arith }; read = omega arith }
way_grown names most {p} {q = r} (onward {q = q} {es = es} e g) v room =
    let first = step_grown names most p q es (move (table names) p.lexing) refl (move_sparse names p.lexing) v room e in
    let short : length q.control.formatting ≤ length p.control.formatting + first.count = first.grows.entries in
    let few : first.count + length q.lexing.unread ≤ length p.lexing.unread = first.read in
    let valid : IsValid q.control = goes_valid p q es (move (table names) p.lexing) (λ l ts m. (table_read names).emits p.lexing l ts m) e v in
    let rest = way_grown names most g valid (omega arith) in
    let later : rest.count + length r.lexing.unread ≤ length q.lexing.unread = rest.read in
    record { count = first.count + rest.count; grows = grows_then most first.count rest.count p.control q.control r.control first.grows rest.grows; read = omega arith }

-- so many times is a product
times-product : (n k : ℕ) → times n k ≡ n * k
times-product zero k = let e : 0 * k ≡ 0 = omega arith in omega arith
times-product (suc n) k = let e : times n k ≡ n * k = times-product n k in let f : suc n * k ≡ n * k + k = suc-mul n k in omega arith

few-times : (n k m l : ℕ) → n ≤ m → k ≤ l → times n k ≤ m * l
few-times n k m l h g = let e : times n k ≡ n * k = times-product n k in let f : n * k ≤ m * l = mul-le-mul h g in omega arith

-- what the start is worth, and what is made of it
start_fits : (n count : ℕ) (d : ControlState) → count ≤ n → n ≤ 2 ^ 24 → worth n d ≤ worth n start + times count (share n) → d.next < 2 ^ 60
start_fits n count d h few w =
    let most : share n ≤ 22 * 2 ^ 24 + 714 = omega arith in
    let made : times count (share n) ≤ 2 ^ 24 * (22 * 2 ^ 24 + 714) = few-times count (share n) (2 ^ 24) (22 * 2 ^ 24 + 714) (omega arith) most in
    omega arith

pub pages_fit : (names : List Reference) (new : Parser) (text : List ℕ) (es : List Edit) → Runs names at_start text es new → (length new.control.formatting ≤ length text) × (length text ≤ 2 ^ 24 → Fits new.control)
pages_fit names new text es run =
    let g = way_grown names (length text) run.goes start_valid (omega arith) in
    let few : g.count + length new.lexing.unread ≤ length text = g.read in
    let list : length new.control.formatting ≤ 0 + g.count = g.grows.entries in
    (omega arith, λ short. record { ids = start_fits (length text) g.count new.control (omega arith) short g.grows.worth; entries = omega arith })
