-- A page's board and its tallies, main's last.
use Rattle.std.proofs.Common.{◌≡◌, ◌+◌, ◌<◌, ◌≤◌, ◌++◌, ℕ, List, [], ◌∷◌, Bool, true, false, Option, None, Some, length, refl, sym, ap, subst, ◌∙◌, arith}
use Rattle.std.proofs.lemmas.List.{length-append}
use Rattle.std.specs.Prelude.{Result, Ok, Err, OnOk, if◌then◌else◌, option_to_list}
use Rattle.std.specs.Result.{is_err, is_ok}
use Rattle.hp_cut.specs.Places.{Cutting}
use Rattle.hp_board.specs.Calls.{IsBoardOf, fresh_tallies, opened}
use Rattle.hp_board.specs.Desk.{Desk}
use Rattle.hp_board.specs.declared.tally.Tally.{Tally}
use Rattle.hp_workers.specs.Parsed.{EndsWithMain, IsReady}
use Rattle.hp_workers.proofs.Opening.{opening_ready}

-- the last of a list is one
last_same : (xs ys : List Tally) (x y : Tally) → xs ++ x ∷ [] ≡ ys ++ y ∷ [] → x ≡ y
last_same [] [] x y e = cc
last_same [] (b ∷ []) x y e = absurd cc
last_same [] (b ∷ c ∷ bs) x y e = absurd cc
last_same (a ∷ []) [] x y e = absurd cc
last_same (a ∷ b ∷ more) [] x y e = absurd cc
last_same (a ∷ more) (b ∷ bs) x y e = last_same more bs x y cc

pub ends_some : (tallies : List Tally) → EndsWithMain tallies → 0 < length tallies
ends_some tallies e = omega (arith, ap length e.parts, length-append e.workers (e.main ∷ []))

pub none_is : (x : Tally) → None ≡ Some x → ⊥
none_is x e = cc

pub popped_is : (old new : List Tally) (o : Option Tally) (m : Tally) → old ≡ new ++ option_to_list o → o ≡ Some m → old ≡ new ++ m ∷ []
popped_is old new o m e is = e ∙ ap (λ x. new ++ option_to_list x) is

pub main_number : (old new : List Tally) (m : Tally) → EndsWithMain old → old ≡ new ++ m ∷ [] → m.worker ≡ 64
main_number old new m e is = ap (λ (t : Tally). t.worker) (last_same new e.workers m e.main (sym is ∙ e.parts)) ∙ e.number

module _ {A E : Type 0} where
  pub on_ok : (r : Result A E) (P : Type 0) → is_err r ≡ false → OnOk r P → P
  on_ok (Ok x) P e h = h
  on_ok (Err x) P e h = absurd cc

  pub pushed_is : (r : Result A E) (a b new : List Tally) → is_err r ≡ false → new ≡ (if is_ok r then a else b) → new ≡ a
  pushed_is (Ok x) a b new e h = h
  pushed_is (Err x) a b new e h = absurd cc

  pub pushed_main : (r : Result A E) (old new : List Tally) (m : Tally) → is_err r ≡ false → new ≡ (if is_ok r then old ++ m ∷ [] else old) → m.worker ≡ 64 → EndsWithMain new
  pushed_main r old new m e h number = record { workers = old; main = m; parts = pushed_is r (old ++ m ∷ []) old new e h; number = number }

-- a board is of its own text and cuts
pub own_text : (desk : Desk) (text : List ℕ) (cuts : Cutting) (tallies : List Tally) → IsBoardOf desk text cuts tallies → IsBoardOf desk desk.text desk.cuts tallies
own_text desk text cuts tallies o = record { text = refl; cuts = refl; numbered = o.numbered; borne = o.borne; counted = o.counted }

pub opening_is : (text : List ℕ) (cuts : Cutting) (n : ℕ) (desk : Desk) (tallies : List Tally) → n ≤ 64 → desk ≡ opened text cuts n → tallies ≡ fresh_tallies n → IsReady desk tallies
opening_is text cuts n desk tallies most e f =
    subst (λ (d : Desk). IsReady d tallies) (sym e) (subst (λ (ts : List Tally). IsReady (opened text cuts n) ts) (sym f) (opening_ready text cuts n most))

pub length_fresh : (n : ℕ) → n ≤ 64 → length (fresh_tallies n) ≡ n + 1
length_fresh n most = (opening_ready [] (record { places = []; text_length = 0 }) n most).of.numbered.count
