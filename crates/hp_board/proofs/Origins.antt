-- Judgements and origins in a journal with one entry more.
use Rattle.std.proofs.Common.{◌≡◌, ◌≢◌, ◌==◌, ◌++◌, ℕ, List, [], ◌∷◌, Bool, true, false, not, ◌&&◌, Option, None, Some, refl, sym, ap, subst, ◌∙◌, eq-eqb}
use Rattle.std.proofs.lemmas.Bool.{ne_eqb}
use Rattle.std.specs.List.{list_all}
use Rattle.hp_board.specs.declared.journal.BoardStep.{BoardStep}
use Rattle.hp_board.specs.declared.journal.BoardStep.TheVariants as step
use Rattle.hp_board.specs.declared.journal.Entry.{Entry}
use Rattle.hp_board.specs.declared.journal.Origin.{Origin}
use Rattle.hp_board.specs.Origins.{chunk_of_step, is_unjudged, judges, last_origin, last_origin_from, origin_after}

other_number : (chunk k : ℕ) → chunk ≢ k → (chunk == k) ≡ false
other_number chunk k other = ne_eqb chunk k other

pub same_number : (k : ℕ) → (k == k) ≡ true
same_number k = eq-eqb k k refl

-- a step about one chunk judges no other
pub judges-other : (k : ℕ) (s : BoardStep) → chunk_of_step s ≢ k → judges k s ≡ false
judges-other k (step.Claimed chunk again) other = refl
judges-other k (step.Posted chunk covered by) other = refl
judges-other k (step.Kept chunk) other = other_number chunk k other
judges-other k (step.Repaired chunk at) other = other_number chunk k other
judges-other k (step.RolledBack chunk kind) other = other_number chunk k other
judges-other k (step.Released chunk) other = refl

-- and says nothing of where the last fragment of another came from
pub origin-other : (k : ℕ) (last : Option Origin) (s : BoardStep) → chunk_of_step s ≢ k → origin_after k last s ≡ last
origin-other k last (step.Claimed chunk again) other = refl
origin-other k last (step.Posted chunk covered by) other = rw (other_number chunk k other) refl
origin-other k last (step.Kept chunk) other = refl
origin-other k last (step.Repaired chunk at) other = refl
origin-other k last (step.RolledBack chunk kind) other = refl
origin-other k last (step.Released chunk) other = refl

pub unjudged-push : (k : ℕ) (journal : List Entry) (e : Entry) → is_unjudged k journal ≡ true → judges k e.step ≡ false → is_unjudged k (journal ++ e ∷ []) ≡ true
unjudged-push k [] e before one = rw one refl
unjudged-push k (x ∷ xs) e before one =
    let first : not (judges k x.step) ≡ true = left (not (judges k x.step)) (is_unjudged k xs) before in
    let rest : is_unjudged k xs ≡ true = right (not (judges k x.step)) (is_unjudged k xs) before in
    rw first (unjudged-push k xs e rest one)
  where
    left : (a b : Bool) → (a && b) ≡ true → a ≡ true
    left true b h = refl
    left false b h = h

    right : (a b : Bool) → (a && b) ≡ true → b ≡ true
    right true b h = h
    right false b h = cc

origin-push_from : (k : ℕ) (start : Option Origin) (journal : List Entry) (e : Entry) → last_origin_from k start (journal ++ e ∷ []) ≡ origin_after k (last_origin_from k start journal) e.step
unfolding last_origin_from
origin-push_from k start [] e = refl
origin-push_from k start (x ∷ xs) e = origin-push_from k (origin_after k start x.step) xs e

pub origin-push : (k : ℕ) (journal : List Entry) (e : Entry) → last_origin k (journal ++ e ∷ []) ≡ origin_after k (last_origin k journal) e.step
origin-push k journal e = origin-push_from k None journal e
