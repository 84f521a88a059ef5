use Rattle.std.proofs.Common.{◌≡◌, ◌≢◌, ℕ, List, [], ◌∷◌, ◌++◌, ◌==◌, if◌then◌else◌, Bool, true, false, arith, sym, refl, ap, ◌∙◌, subst, ◌||◌, inl, inr}
use Rattle.std.specs.List.{list_any}
use Rattle.std.proofs.lemmas.Bool.{or_cases, true≢false, eq-eqb, cond_both, eqb-true, eqb-false, ne_eqb}
use Rattle.std.proofs.lemmas.Bool.Decides.{nat_tests}
use Rattle.hp_arena.specs.Ring.{Links, Follows, Path, unlinked, inserted}

-- a node that is put between two is between them
pub Follows-inserted_first : (l : Links) (from at node : ℕ) → Follows l from at → from ≢ node → node ≢ at → Follows (inserted l at node) from node
Follows-inserted_first l from at node f h1 h = record { ahead = grind (arith, nat_tests, f.back); back = grind (arith, nat_tests, f.back) }

pub Follows-inserted_second : (l : Links) (at node : ℕ) → Follows (inserted l at node) node at
Follows-inserted_second l at node = record { ahead = grind (arith, nat_tests); back = grind (arith, nat_tests) }

pub Follows-inserted_there : (l : Links) (a b at node : ℕ) → Follows l a b → l.next (l.prev at) ≡ at → b ≢ at → a ≢ node → b ≢ node → Follows (inserted l at node) a b
Follows-inserted_there l a b at node f e h h1 h2 =
    let h3 : a ≢ l.prev at = λ x. h (sym f.ahead ∙ ap l.next x ∙ e) in
    record { ahead = grind (arith, nat_tests, f.ahead, h3); back = grind (arith, nat_tests, f.back) }

Path-through : (l : Links) (from to at node : ℕ) → Follows l from to → to ≡ at → from ≢ node → node ≢ at → Path (inserted l at node) from (node ∷ []) to
Path-through l from to at node f same hf h = (
  subst (λ t. Follows l from t → Follows (inserted l at node) from node) (sym same) (λ g. Follows-inserted_first l from at node g hf h) f,
  subst (λ t. Follows (inserted l at node) node t) (sym same) (Follows-inserted_second l at node),
)

-- the nodes of a path to `to` once a node stands before each `at`
abbrev pub put_in : ℕ → ℕ → List ℕ → ℕ → List ℕ
put_in at node [] to = if to == at then node ∷ [] else []
put_in at node (x ∷ xs) to = if x == at then node ∷ x ∷ put_in at node xs to else x ∷ put_in at node xs to

-- the node is none of these
abbrev pub Avoids : ℕ → List ℕ → Type 0
Avoids node [] = Unit {0}
Avoids node (x ∷ xs) = (x ≢ node) × Avoids node xs

-- no link leads to a node that is alone
pub alone-not_on_path : (l : Links) (from : ℕ) (xs : List ℕ) (to node : ℕ) → Path l from xs to → l.next node ≡ node → to ≢ node → (from ≢ node) × Avoids node xs
alone-not_on_path l from [] to node p e h = ((λ x. h (sym p.ahead ∙ ap l.next x ∙ e)), tt)
alone-not_on_path l from (x ∷ xs) to node p e h =
    let rest : (x ≢ node) × Avoids node xs = alone-not_on_path l x xs to node p.1 e h in
    ((λ same. rest.0 (sym p.0.ahead ∙ ap l.next same ∙ e)), rest)

pub Path-inserted : (l : Links) (from : ℕ) (xs : List ℕ) (to at node : ℕ) → Path l from xs to → l.next (l.prev at) ≡ at → from ≢ node → to ≢ node → node ≢ at → Avoids node xs → Path (inserted l at node) from (put_in at node xs to) to
Path-inserted l from [] to at node p e hf ht ha hx =
    cond_both (to == at) (node ∷ []) [] (λ ys. Path (inserted l at node) from ys to)
    (λ b. Path-through l from to at node p (eqb-true to at b) hf ha)
    (λ b. Follows-inserted_there l from to at node p e (eqb-false to at b) hf ht)
Path-inserted l from (x ∷ xs) to at node p e hf ht ha hx =
    let rest : Path (inserted l at node) x (put_in at node xs to) to = Path-inserted l x xs to at node p.1 e hx.0 ht ha hx.1 in
    cond_both (x == at) (node ∷ x ∷ put_in at node xs to) (x ∷ put_in at node xs to) (λ ys. Path (inserted l at node) from ys to)
    (λ b. let two : Path (inserted l at node) from (node ∷ []) x = Path-through l from x at node p.0 (eqb-true x at b) hf ha in (two.0, (two.1, rest)))
    (λ b. (Follows-inserted_there l from x at node p.0 e (eqb-false x at b) hf hx.0, rest))

-- the nodes of a path once one of them is taken out
abbrev pub without_node : ℕ → List ℕ → List ℕ
without_node node [] = []
without_node node (x ∷ xs) = if x == node then without_node node xs else x ∷ without_node node xs

pub Follows-unlinked_there : (l : Links) (a b node : ℕ) → Follows l a b → l.next (l.prev node) ≡ node → l.prev (l.next node) ≡ node → a ≢ node → b ≢ node → Follows (unlinked l node) a b
Follows-unlinked_there l a b node f e1 e2 ha hb =
    let ap' : a ≢ l.prev node = λ x. hb (sym f.ahead ∙ ap l.next x ∙ e1) in
    let bn : b ≢ l.next node = λ x. ha (sym f.back ∙ ap l.prev x ∙ e2) in
    record { ahead = grind (arith, nat_tests, f.ahead, ap'); back = grind (arith, nat_tests, f.back, bn) }

pub Follows-unlinked_over : (l : Links) (a b node : ℕ) → Follows l a node → Follows l node b → a ≢ node → b ≢ node → Follows (unlinked l node) a b
Follows-unlinked_over l a b node f g ha hb =
    record { ahead = grind (arith, nat_tests, f.back, g.ahead); back = grind (arith, nat_tests, f.back, g.ahead) }

mutual
  pub Path-unlinked : (l : Links) (from : ℕ) (xs : List ℕ) (to node : ℕ) → Path l from xs to → l.next (l.prev node) ≡ node → l.prev (l.next node) ≡ node → from ≢ node → to ≢ node → Path (unlinked l node) from (without_node node xs) to
  Path-unlinked l from [] to node p e1 e2 hf ht = Follows-unlinked_there l from to node p e1 e2 hf ht
  Path-unlinked l from (x ∷ xs) to node p e1 e2 hf ht =
      cond_both (x == node) (without_node node xs) (x ∷ without_node node xs) (λ ys. Path (unlinked l node) from ys to)
      (λ b. let same : x ≡ node = eqb-true x node b in
      Path-unlinked_over l from xs to node (subst (λ y. Follows l from y) same p.0) (subst (λ y. Path l y xs to) same p.1) e1 e2 hf ht)
      (λ b. let other : x ≢ node = eqb-false x node b in (Follows-unlinked_there l from x node p.0 e1 e2 hf other, Path-unlinked l x xs to node p.1 e1 e2 other ht))

  Path-unlinked_over : (l : Links) (from : ℕ) (xs : List ℕ) (to node : ℕ) → Follows l from node → Path l node xs to → l.next (l.prev node) ≡ node → l.prev (l.next node) ≡ node → from ≢ node → to ≢ node → Path (unlinked l node) from (without_node node xs) to
  Path-unlinked_over l from [] to node f p e1 e2 hf ht = Follows-unlinked_over l from to node f p hf ht
  Path-unlinked_over l from (x ∷ xs) to node f p e1 e2 hf ht =
      let other : x ≢ node = λ same. hf (sym f.back ∙ ap l.prev (sym same) ∙ p.0.back) in
      let tail : Path (unlinked l node) x (without_node node xs) to = Path-unlinked l x xs to node p.1 e1 e2 other ht in
      rw (ne_eqb x node other) (Follows-unlinked_over l from x node f p.0 hf other, tail)

abbrev pub is_in : ℕ → List ℕ → Bool
is_in s xs = list_any (λ y. s == y) xs

pub or-left : (a b : Bool) → a ≡ true → (a || b) ≡ true
or-left true b h = refl
or-left false b h = absurd (true≢false (sym h))

pub or-right : (a b : Bool) → b ≡ true → (a || b) ≡ true
or-right true b h = refl
or-right false b h = h

-- what was in a list is still there, once another is taken out
pub in-without_node : (s node : ℕ) (xs : List ℕ) → s ≢ node → is_in s xs ≡ true → is_in s (without_node node xs) ≡ true
in-without_node s node [] other h = h
in-without_node s node (x ∷ xs) other h =
    elim (or_cases (s == x) (is_in s xs) h) [
      | inl first ↦
          let apart : x ≢ node = λ same. other (eqb-true s x first ∙ same) in
          rw (ne_eqb x node apart) (or-left (s == x) (is_in s (without_node node xs)) first)
      | inr later ↦
          let rest : is_in s (without_node node xs) ≡ true = in-without_node s node xs other later in
          cond_both (x == node) (without_node node xs) (x ∷ without_node node xs) (λ ys. is_in s ys ≡ true) (λ e. rest) (λ e. or-right (s == x) (is_in s (without_node node xs)) rest)
    ]

-- or another is put in
pub in-put_in : (s at node : ℕ) (xs : List ℕ) (to : ℕ) → is_in s xs ≡ true → is_in s (put_in at node xs to) ≡ true
in-put_in s at node [] to h = absurd (true≢false (sym h))
in-put_in s at node (x ∷ xs) to h =
    let all : is_in s (x ∷ put_in at node xs to) ≡ true =
    elim (or_cases (s == x) (is_in s xs) h) [
      | inl first ↦ or-left (s == x) (is_in s (put_in at node xs to)) first
      | inr later ↦ or-right (s == x) (is_in s (put_in at node xs to)) (in-put_in s at node xs to later)
    ] in
    cond_both (x == at) (node ∷ x ∷ put_in at node xs to) (x ∷ put_in at node xs to) (λ ys. is_in s ys ≡ true) (λ e. or-right (s == node) (is_in s (x ∷ put_in at node xs to)) all) (λ e. all)

-- what is put in before one that is there is there
pub new-put_in : (at node : ℕ) (xs : List ℕ) (to : ℕ) → is_in at xs ≡ true → is_in node (put_in at node xs to) ≡ true
new-put_in at node [] to h = absurd (true≢false (sym h))
new-put_in at node (x ∷ xs) to h =
    elim (or_cases (at == x) (is_in at xs) h) [
      | inl first ↦ rw (eq-eqb x at (sym (eqb-true at x first))) (or-left (node == node) (is_in node (x ∷ put_in at node xs to)) (eq-eqb node node refl))
      | inr later ↦
          let rest : is_in node (put_in at node xs to) ≡ true = new-put_in at node xs to later in
          cond_both (x == at) (node ∷ x ∷ put_in at node xs to) (x ∷ put_in at node xs to) (λ ys. is_in node ys ≡ true) (λ e. or-left (node == node) (is_in node (x ∷ put_in at node xs to)) (eq-eqb node node refl)) (λ e. or-right (node == x) (is_in node (put_in at node xs to)) rest)
    ]

pub end-put_in : (node : ℕ) (xs : List ℕ) (to : ℕ) → is_in node (put_in to node xs to) ≡ true
end-put_in node [] to = rw (eq-eqb to to refl) (or-left (node == node) false (eq-eqb node node refl))
end-put_in node (x ∷ xs) to =
    let rest : is_in node (put_in to node xs to) ≡ true = end-put_in node xs to in
    cond_both (x == to) (node ∷ x ∷ put_in to node xs to) (x ∷ put_in to node xs to) (λ ys. is_in node ys ≡ true) (λ e. or-left (node == node) (is_in node (x ∷ put_in to node xs to)) (eq-eqb node node refl)) (λ e. or-right (node == x) (is_in node (put_in to node xs to)) rest)

pub in-append_left : (s : ℕ) (xs ys : List ℕ) → is_in s xs ≡ true → is_in s (xs ++ ys) ≡ true
in-append_left s [] ys h = absurd (true≢false (sym h))
in-append_left s (x ∷ xs) ys h =
    elim (or_cases (s == x) (is_in s xs) h) [
      | inl first ↦ or-left (s == x) (is_in s (xs ++ ys)) first
      | inr later ↦ or-right (s == x) (is_in s (xs ++ ys)) (in-append_left s xs ys later)
    ]

pub in-append_right : (s : ℕ) (xs ys : List ℕ) → is_in s ys ≡ true → is_in s (xs ++ ys) ≡ true
in-append_right s [] ys h = h
in-append_right s (x ∷ xs) ys h = or-right (s == x) (is_in s (xs ++ ys)) (in-append_right s xs ys h)
