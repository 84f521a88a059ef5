-- What a stack of open elements keeps, as the stack changes.
use Rattle.std.proofs.Common.{◌≡◌, ℕ, zero, suc, ◌+◌, ◌<◌, ◌≤◌, List, [], ◌∷◌, ◌++◌, length, take, drop, get_or, set, refl, ap, sym, subst, ◌∙◌, arith}
use Rattle.std.proofs.lemmas.List.{length-take-le}
use Rattle.std.proofs.Common.{length-append}
use Rattle.std.specs.Prelude.{Result, Ok, Err, OnOk, OnErr}
use Rattle.hp_control.specs.declared.element.OpenElement.{OpenElement}
use Rattle.hp_control.specs.declared.open_elements.Standing.{Standing}
use Rattle.hp_control.specs.declared.open_elements.WalkEnd.TheVariants.{BelowAll}
use Rattle.hp_control.specs.Standings.{elements_of, summaries_of, summary_of, summary_from, AreSummaries, first_summary}
use Rattle.hp_control.proofs.SummaryLemmas.{summaries_put, summaries_renewed, summaries_under}

pub elements_count : (ss : List Standing) → length (elements_of ss) ≡ length ss
elements_count [] = refl
elements_count (s ∷ ss) = ap suc (elements_count ss)

pub elements_dropped : (n : ℕ) (ss : List Standing) → elements_of (drop n ss) ≡ drop n (elements_of ss)
elements_dropped zero ss = refl
elements_dropped (suc n) [] = refl
elements_dropped (suc n) (s ∷ ss) = elements_dropped n ss

pub summaries_below : (n : ℕ) (ss : List Standing) → summaries_of (drop n ss) ≡ drop n (summaries_of ss)
summaries_below zero ss = refl
summaries_below (suc n) [] = refl
summaries_below (suc n) (s ∷ ss) = summaries_below n ss

pub elements_taken : (n : ℕ) (ss : List Standing) → elements_of (take n ss) ≡ take n (elements_of ss)
elements_taken zero ss = refl
elements_taken (suc n) [] = refl
elements_taken (suc n) (s ∷ ss) = ap (λ es. s.element ∷ es) (elements_taken n ss)

pub summaries_above : (n : ℕ) (ss : List Standing) → summaries_of (take n ss) ≡ take n (summaries_of ss)
summaries_above zero ss = refl
summaries_above (suc n) [] = refl
summaries_above (suc n) (s ∷ ss) = ap (λ ws. s.summary ∷ ws) (summaries_above n ss)

pub elements_joined : (ss ts : List Standing) → elements_of (ss ++ ts) ≡ elements_of ss ++ elements_of ts
elements_joined [] ts = refl
elements_joined (s ∷ ss) ts = ap (λ es. s.element ∷ es) (elements_joined ss ts)

pub summaries_joined : (ss ts : List Standing) → summaries_of (ss ++ ts) ≡ summaries_of ss ++ summaries_of ts
summaries_joined [] ts = refl
summaries_joined (s ∷ ss) ts = ap (λ ws. s.summary ∷ ws) (summaries_joined ss ts)

pub summaries_number : (ss : List Standing) → length (summaries_of ss) ≡ length (elements_of ss)
summaries_number [] = refl
summaries_number (s ∷ ss) = ap suc (summaries_number ss)

pub element_at : (ss : List Standing) (d : ℕ) (s : Standing) → d < length ss → s ≡ get_or ss d s → s.element ≡ get_or (elements_of ss) d s.element
element_at [] d s h e = absurd (omega arith)
element_at (x ∷ xs) zero s h e = ap (λ (t : Standing). t.element) e
element_at (x ∷ xs) (suc d) s h e = element_at xs d s (omega arith) e

-- two writes at one place, of which the second has the element that stood there
pub elements_kept : (ss : List Standing) (d : ℕ) (s t u : Standing) → d < length ss → s ≡ get_or ss d s → u.element ≡ s.element → elements_of (set (set ss d t) d u) ≡ elements_of ss
elements_kept [] d s t u h e f = refl
elements_kept (x ∷ xs) zero s t u h e f = ap (λ y. y ∷ elements_of xs) (f ∙ ap (λ (v : Standing). v.element) e)
elements_kept (x ∷ xs) (suc d) s t u h e f = ap (λ es. x.element ∷ es) (elements_kept xs d s t u (omega arith) e f)

pub summaries_written : (ss : List Standing) (d : ℕ) (t u : Standing) → summaries_of (set (set ss d t) d u) ≡ set (summaries_of ss) d u.summary
summaries_written [] d t u = refl
summaries_written (x ∷ xs) zero t u = refl
summaries_written (x ∷ xs) (suc d) t u = ap (λ ws. x.summary ∷ ws) (summaries_written xs d t u)

-- what a stack shows once its top is taken off
pub shown_below : (ss ts : List Standing) (es : List OpenElement) (n : ℕ) → elements_of ss ≡ es → ts ≡ drop n ss → elements_of ts ≡ drop n es
shown_below ss ts es n v e = ap elements_of e ∙ (elements_dropped n ss ∙ ap (drop n) v)

-- and that its summaries stay true
pub told_below : (ss ts : List Standing) (n : ℕ) → AreSummaries (drop n (elements_of ss)) (drop n (summaries_of ss)) → ts ≡ drop n ss → AreSummaries (elements_of ts) (summaries_of ts)
told_below ss ts n a e =
    let f : elements_of ts ≡ drop n (elements_of ss) = ap elements_of e ∙ elements_dropped n ss in
    let g : summaries_of ts ≡ drop n (summaries_of ss) = ap summaries_of e ∙ summaries_below n ss in
    subst (λ ws. AreSummaries (elements_of ts) ws) (sym g) (subst (λ es. AreSummaries es (drop n (summaries_of ss))) (sym f) a)

-- the summary at a depth, and that below the last
pub summary_first : (ss : List Standing) (d : ℕ) (s : Standing) → d < length ss → s ≡ get_or ss d s → s.summary ≡ first_summary (drop d (summaries_of ss))
summary_first [] d s h e = absurd (omega arith)
summary_first (x ∷ xs) zero s h e = ap (λ (t : Standing). t.summary) e
summary_first (x ∷ xs) (suc d) s h e = summary_first xs d s (omega arith) e

pub summary_none : (ss : List Standing) (d : ℕ) → length ss ≤ d → record { end = BelowAll; highest = 0 } ≡ first_summary (drop d (summaries_of ss))
summary_none [] zero h = refl
summary_none [] (suc d) h = refl
summary_none (x ∷ xs) zero h = absurd (omega arith)
summary_none (x ∷ xs) (suc d) h = summary_none xs d (omega arith)

-- one more element with its summary, or none
pub told_pushed : {E : Type 0} (r : Result (Unit {0}) E) (ss ts : List Standing) (s : Standing) → OnOk r (ts ≡ s ∷ ss) → OnErr r (ts ≡ ss) → AreSummaries (elements_of ss) (summaries_of ss) → s.summary ≡ summary_from s.element (summary_of (elements_of ss)) → AreSummaries (elements_of ts) (summaries_of ts)
told_pushed (Ok u) ss ts s ok err a e = subst (λ us. AreSummaries (elements_of us) (summaries_of us)) (sym ok) (summaries_put s.element s.summary a e)
told_pushed (Err x) ss ts s ok err a e = subst (λ us. AreSummaries (elements_of us) (summaries_of us)) (sym err) a

-- a summary written anew: another element stands at the place meanwhile
pub renewed_elements : (ss us vs : List Standing) (d : ℕ) (t o u : Standing) → d < length ss → o ≡ get_or ss d o → us ≡ set ss d t → vs ≡ set us d u → u.element ≡ o.element → elements_of vs ≡ elements_of ss
renewed_elements ss us vs d t o u h was first second same = ap elements_of (second ∙ ap (λ l. set l d u) first) ∙ elements_kept ss d o t u h was same

pub renewed_summaries : (ss us vs : List Standing) (d n : ℕ) (s t o u : Standing) → n ≡ d + 1 → d < length ss → s ≡ get_or ss d s → o ≡ get_or ss d o → us ≡ set ss d t → vs ≡ set us d u → u.element ≡ o.element → u.summary ≡ summary_from s.element (first_summary (drop n (summaries_of ss))) → AreSummaries (drop n (elements_of ss)) (drop n (summaries_of ss)) → AreSummaries (drop d (elements_of vs)) (drop d (summaries_of vs))
renewed_summaries ss us vs d n s t o u dn h at was first second same e a =
    let f : elements_of vs ≡ elements_of ss = renewed_elements ss us vs d t o u h was first second same in
    let g : summaries_of vs ≡ set (summaries_of ss) d u.summary = ap summaries_of (second ∙ ap (λ l. set l d u) first) ∙ summaries_written ss d t u in
    let k : d < length (elements_of ss) = omega (arith, h, elements_count ss) in
    let b : AreSummaries (drop (d + 1) (elements_of ss)) (drop (d + 1) (summaries_of ss)) = subst (λ (m : ℕ). AreSummaries (drop m (elements_of ss)) (drop m (summaries_of ss))) dn a in
    let i : u.summary ≡ summary_from s.element (first_summary (drop (d + 1) (summaries_of ss))) = subst (λ (m : ℕ). u.summary ≡ summary_from s.element (first_summary (drop m (summaries_of ss)))) dn e in
    let r = summaries_renewed (elements_of ss) (summaries_of ss) d s.element u.summary k (summaries_number ss) (element_at ss d s h at) i b in
    subst (λ es. AreSummaries (drop d es) (drop d (summaries_of vs))) (sym f) (subst (λ ws. AreSummaries (drop d (elements_of ss)) (drop d ws)) (sym g) r)

-- what stands from a depth on, up to another, taken out
pub room_above : (ss ts : List Standing) (d n : ℕ) → d ≤ length ss → ts ≡ take d ss ++ drop n ss → d ≤ length ts
room_above ss ts d n h e =
    let t : length (take d ss) ≡ d = length-take-le d ss (omega (arith, h)) in
    let l : length ts ≡ length (take d ss) + length (drop n ss) = ap length e ∙ length-append (take d ss) (drop n ss) in
    omega (arith, t, l)

pub elements_without : (ss ts : List Standing) (d n : ℕ) → ts ≡ take d ss ++ drop n ss → elements_of ts ≡ take d (elements_of ss) ++ drop n (elements_of ss)
elements_without ss ts d n e =
    ap elements_of e ∙ (elements_joined (take d ss) (drop n ss)
    ∙ (ap (λ es. es ++ elements_of (drop n ss)) (elements_taken d ss)
    ∙ ap (λ es. take d (elements_of ss) ++ es) (elements_dropped n ss)))

summaries_without : (ss ts : List Standing) (d n : ℕ) → ts ≡ take d ss ++ drop n ss → summaries_of ts ≡ take d (summaries_of ss) ++ drop n (summaries_of ss)
summaries_without ss ts d n e =
    ap summaries_of e ∙ (summaries_joined (take d ss) (drop n ss)
    ∙ (ap (λ ws. ws ++ summaries_of (drop n ss)) (summaries_above d ss)
    ∙ ap (λ ws. take d (summaries_of ss) ++ ws) (summaries_below n ss)))

pub told_under : (ss ts : List Standing) (d n : ℕ) → d ≤ length ss → ts ≡ take d ss ++ drop n ss → AreSummaries (elements_of ss) (summaries_of ss) → AreSummaries (drop d (elements_of ts)) (drop d (summaries_of ts))
told_under ss ts d n h e a =
    let k : d ≤ length (elements_of ss) = omega (arith, h, elements_count ss) in
    let r = summaries_under (elements_of ss) (summaries_of ss) d n k a in
    let xs = elements_of ss in
    let ws = summaries_of ss in
    subst (λ es. AreSummaries (drop d es) (drop d (summaries_of ts))) (sym (elements_without ss ts d n e)) (subst (λ vs. AreSummaries (drop d (take d (elements_of ss) ++ drop n (elements_of ss))) (drop d vs)) (sym (summaries_without ss ts d n e)) r)

pub shown_without : (ss ts : List Standing) (es : List OpenElement) (d n : ℕ) → elements_of ss ≡ es → ts ≡ take d ss ++ drop n ss → elements_of ts ≡ take d es ++ drop n es
shown_without ss ts es d n v e = elements_without ss ts d n e ∙ ap (λ xs. take d xs ++ drop n xs) v
