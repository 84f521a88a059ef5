-- All that stands in one ring is put before the end of another.
use Rattle.std.proofs.Common.{◌≡◌, ◌≢◌, ℕ, List, [], ◌∷◌, ◌++◌, Bool, true, false, arith, sym, ap, ◌∙◌}
use Rattle.std.proofs.lemmas.Bool.{true≢false}
use Rattle.std.proofs.lemmas.Bool.Decides.{nat_tests}
use Rattle.hp_arena.specs.Ring.{Links, Follows, Path, spliced}
use Rattle.hp_arena.proofs.Rings.{Turns}
use Rattle.hp_arena.proofs.Walks.{Inner}

module _ (l : Links) (stop : ℕ → Bool) (source target : ℕ) (apart : source ≢ target) (some : l.next source ≢ source) (s : Turns l source) (t : Turns l target) (es : stop source ≡ true) (et : stop target ≡ true) where
  last-apart : l.prev source ≢ source
  last-apart same = some (ap l.next (sym same) ∙ s.before)

  pub Turns-spliced : (x : ℕ) → Turns l x → Turns (spliced l source target) x
  Turns-spliced x u = record {
    after = grind (arith, nat_tests, s.after, s.before, t.after, t.before, u.after, u.before);
    before = grind (arith, nat_tests, s.after, s.before, t.after, t.before, u.after, u.before);
  }

  Follows-there : (a b : ℕ) → Follows l a b → a ≢ source → b ≢ source → b ≢ target → Follows (spliced l source target) a b
  Follows-there a b f ha hb hc =
      let h1 : a ≢ l.prev source = λ same. hb (sym f.ahead ∙ ap l.next same ∙ s.before) in
      let h2 : a ≢ l.prev target = λ same. hc (sym f.ahead ∙ ap l.next same ∙ t.before) in
      let h3 : b ≢ l.next source = λ same. ha (sym f.back ∙ ap l.prev same ∙ s.after) in
      record { ahead = grind (arith, nat_tests, f.ahead, h1, h2); back = grind (arith, nat_tests, f.back, h3) }

  inner-source : (x : ℕ) → stop x ≡ false → x ≢ source
  inner-source x i same = true≢false (sym es ∙ ap stop (sym same) ∙ i)

  inner-target : (x : ℕ) → stop x ≡ false → x ≢ target
  inner-target x i same = true≢false (sym et ∙ ap stop (sym same) ∙ i)

  -- the other rings stay
  pub Path-spliced_there : (a : ℕ) (xs : List ℕ) (b : ℕ) → Path l a xs b → Inner stop xs → a ≢ source → b ≢ source → b ≢ target → Path (spliced l source target) a xs b
  Path-spliced_there a [] b p i ha hb hc = Follows-there a b p ha hb hc
  Path-spliced_there a (x ∷ xs) b p i ha hb hc = (Follows-there a x p.0 ha (inner-source x i.0) (inner-target x i.0), Path-spliced_there x xs b p.1 i.1 (inner-source x i.0) hb hc)

  -- what led to the source leads to the target
  Path-moved : (a : ℕ) (xs : List ℕ) → Path l a xs source → Inner stop xs → a ≢ source → Path (spliced l source target) a xs target
  Path-moved a [] p i ha = record { ahead = grind (arith, nat_tests, p.back, p.ahead); back = grind (arith, nat_tests, p.back) }
  Path-moved a (x ∷ xs) p i ha = (Follows-there a x p.0 ha (inner-source x i.0) (inner-target x i.0), Path-moved x xs p.1 i.1 (inner-source x i.0))

  -- and the ring of the target goes on with it
  pub Path-spliced_target : (a : ℕ) (ys : List ℕ) (f : ℕ) (xs : List ℕ) → Path l a ys target → Path l source (f ∷ xs) source → Inner stop ys → Inner stop (f ∷ xs) → a ≢ source → Path (spliced l source target) a (ys ++ f ∷ xs) target
  Path-spliced_target a [] f xs p q i j ha =
      let g1 : f ≢ source = inner-source f j.0 in
      let g2 : f ≢ target = inner-target f j.0 in
      let g3 : a ≢ l.prev source = λ same. apart (sym s.before ∙ ap l.next (sym same) ∙ p.ahead) in
      (record { ahead = grind (arith, nat_tests, p.back, q.0.ahead, g3); back = grind (arith, nat_tests, p.back, q.0.ahead, g1, g2) }, Path-moved f xs q.1 j.1 g1)
  Path-spliced_target a (y ∷ ys) f xs p q i j ha =
      (Follows-there a y p.0 ha (inner-source y i.0) (inner-target y i.0), Path-spliced_target y ys f xs p.1 q i.1 j (inner-source y i.0))

  pub Path-spliced_source : Path (spliced l source target) source [] source
  Path-spliced_source = record { ahead = grind (arith, nat_tests); back = grind (arith, nat_tests) }
