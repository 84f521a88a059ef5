-- Plans carried out one after the other, and what remains of one: the invariant of each loop over acts.
use Rattle.std.specs.Prelude.{◌≡◌, List, [], ◌∷◌, ◌++◌, Option, Some, None, Result, Ok, Err, refl}
use Rattle.hp_control.specs.declared.question.Crossing.{Crossing}
use Rattle.std.proofs.Common.{sym, subst, ap, ◌∙◌}
use Rattle.std.proofs.lemmas.List.{append-nil, map-append}
use Rattle.hp_control.specs.declared.question.Question.{Question}
use Rattle.hp_control.specs.declared.question.Answer.{Answer}
use Rattle.hp_control.specs.declared.question.Kept.{Kept}
use Rattle.hp_control.specs.Plan.{Plan, gives, crosses, asks, followed_by, end_by, asked_by, Heard, added, added_each, kept_pairs, kept_with, noting, Runs}

abbrev pub on_end : {X Y : Type 0} → Result X Crossing → (X → Result Y Crossing) → Result Y Crossing
on_end (Err crossing) next = Err crossing
on_end (Ok x) next = next x

abbrev pub on_asked : {X : Type 0} → Result X Crossing → (X → List Question) → List Question
on_asked (Err crossing) next = []
on_asked (Ok x) next = next x

pub end_then : {X Y : Type 0} (says : Question → Answer) (p : Plan X) (next : X → Plan Y) → end_by says (followed_by p next) ≡ on_end (end_by says p) (λ x. end_by says (next x))
end_then says (gives x) next = refl
end_then says (crosses crossing) next = refl
end_then says (asks q go) next = end_then says (go (says q)) next

pub asked_then : {X Y : Type 0} (says : Question → Answer) (p : Plan X) (next : X → Plan Y) → asked_by says (followed_by p next) ≡ asked_by says p ++ on_asked (end_by says p) (λ x. asked_by says (next x))
asked_then says (gives x) next = refl
asked_then says (crosses crossing) next = refl
asked_then says (asks q go) next = ap (λ l. q ∷ l) (asked_then says (go (says q)) next)

pub added_twice : (kept xs ys : List Kept) → added_each (added_each kept xs) ys ≡ added_each kept (xs ++ ys)
added_twice kept [] ys = refl
added_twice kept (x ∷ xs) ys = added_twice (added kept x) xs ys

kept_twice : (kept : Option (List Kept)) (xs ys : List Kept) → kept_with (kept_with kept xs) ys ≡ kept_with kept (xs ++ ys)
kept_twice None xs ys = refl
kept_twice (Some kept) xs ys = ap Some (added_twice kept xs ys)

kept_none : (kept : Option (List Kept)) → kept ≡ kept_with kept []
kept_none None = refl
kept_none (Some kept) = refl

pub noting_more : (h : Heard) (qs rs : List Question) → noting (noting h qs) rs ≡ noting h (qs ++ rs)
noting_more h qs rs = ap (λ k. record { says = h.says; kept = k }) (kept_twice h.kept (kept_pairs h.says qs) (kept_pairs h.says rs) ∙ ap (kept_with h.kept) (sym (map-append (λ q. record { question = q; answer = h.says q }) qs rs)))

pub runs_gives : {X : Type 0} (h : Heard) (x : X) → Runs h h (gives x) (Ok x)
runs_gives h x = record { ends = refl; noted = ap (λ k. record { says = h.says; kept = k }) (kept_none h.kept) }

pub runs_then : {X Y : Type 0} {a b c : Heard} {p : Plan X} {x : X} {end : Result Y Crossing} (next : X → Plan Y) → Runs a b p (Ok x) → Runs b c (next x) end → Runs a c (followed_by p next) end
runs_then {X} {Y} {a} {b} {c} {p} {x} {end} next r t =
    let P : Heard → Type 0 = λ h. (end_by h.says (next x) ≡ end) × (c ≡ noting h (asked_by h.says (next x))) in
    let u : P (noting a (asked_by a.says p)) = subst P r.noted (t.ends, t.noted) in
    record {
      ends = end_then a.says p next ∙ (ap (λ e. on_end e (λ y. end_by a.says (next y))) r.ends ∙ u.0);
      noted = u.1 ∙ (noting_more a (asked_by a.says p) (asked_by a.says (next x)) ∙ ap (noting a) (sym (asked_then a.says p next ∙ ap (λ e. asked_by a.says p ++ on_asked e (λ y. asked_by a.says (next y))) r.ends)));
    }

pub runs_crosses : {X Y : Type 0} {a b : Heard} {p : Plan X} {crossing : Crossing} (next : X → Plan Y) → Runs a b p (Err crossing) → Runs a b (followed_by p next) (Err crossing)
runs_crosses {X} {Y} {a} {b} {p} {crossing} next r = record {
  ends = end_then a.says p next ∙ ap (λ e. on_end e (λ y. end_by a.says (next y))) r.ends;
  noted = r.noted ∙ ap (noting a) (sym (asked_then a.says p next ∙ (ap (λ e. asked_by a.says p ++ on_asked e (λ y. asked_by a.says (next y))) r.ends ∙ append-nil (asked_by a.says p))));
}

-- whatever carries out the rest from here has carried out the whole
abbrev pub Partway : {X : Type 0} → Heard → Heard → Plan X → Plan X → Type 0
Partway {X} start now whole rest = (new : Heard) (end : Result X Crossing) → Runs now new rest end → Runs start new whole end
