-- Compounds and steps, one after the other.
use Rattle.std.proofs.Common.{◌≡◌, ℕ, zero, suc, ◌+◌, ◌<◌, ◌≤◌, List, [], ◌∷◌, ◌++◌, length, arith, refl, sym, ap, subst, ◌∙◌, append_assoc}
use Rattle.std.specs.Prelude.{◌==◌, true, false, Option, None, Some, option_map}
use Rattle.std.proofs.lemmas.Bool.{eqb-true}
use Rattle.hp_select.specs.declared.selector.Combinator.{Combinator}
use Rattle.hp_select.specs.declared.selector.Simple.{Simple}
use Rattle.hp_select.specs.declared.selector.Step.{Step}
use Rattle.hp_select.specs.Grammar.{Part, all_simples_at, combinator_at, compound_at, compound_before, onto, simple_at, simples_at, step_before, steps_at, type_at}
use Rattle.hp_select.specs.Reading.{front_of}
use Rattle.hp_select.proofs.Lengths.{Within, combinator-within, simple-short, type-short}

onto-same : (o : Part Simple) (other : List Simple × List ℕ) (f g : List ℕ → List Simple × List ℕ) (k : ℕ) → Within k o → ((rest : List ℕ) → length rest ≤ k → f rest ≡ g rest) → onto o other f ≡ onto o other g
onto-same None other f g k h same = refl
onto-same (Some (simple, rest)) other f g k h same = ap (λ (read : List Simple × List ℕ). (simple ∷ read.0, read.1)) (same rest h)

-- more turns than there are code points read nothing more
same-simples : (n m : ℕ) (text : List ℕ) → length text ≤ n → length text ≤ m → simples_at n text ≡ simples_at m text
unfolding simples_at
same-simples zero zero text h g = refl
same-simples zero (suc m) [] h g = refl
same-simples zero (suc m) (c ∷ text) h g = absurd (omega arith)
same-simples (suc n) zero [] h g = refl
same-simples (suc n) zero (c ∷ text) h g = absurd (omega arith)
same-simples (suc n) (suc m) [] h g = refl
same-simples (suc n) (suc m) (c ∷ text) h g =
    onto-same (simple_at (c ∷ text)) ([], c ∷ text) (simples_at n) (simples_at m) (length text) (simple-short c text) (λ rest k. same-simples n m rest (omega arith) (omega arith))

-- the simple selectors that are read first, and those behind
all-unfold : (text : List ℕ) → all_simples_at text ≡ onto (simple_at text) ([], text) all_simples_at
unfolding simples_at
all-unfold [] = refl
all-unfold (c ∷ text) =
    onto-same (simple_at (c ∷ text)) ([], c ∷ text) (simples_at (length text)) all_simples_at (length text) (simple-short c text) (λ rest k. same-simples (length text) (length rest) rest k (omega arith))

pub all-none : (text : List ℕ) → simple_at text ≡ None → all_simples_at text ≡ ([], text)
all-none text none = all-unfold text ∙ ap (λ o. onto o ([], text) all_simples_at) none

all-some : (text : List ℕ) (simple : Simple) (rest : List ℕ) → simple_at text ≡ Some (simple, rest) → all_simples_at text ≡ (simple ∷ (all_simples_at rest).0, (all_simples_at rest).1)
all-some text simple rest some = all-unfold text ∙ ap (λ o. onto o ([], text) all_simples_at) some

within-some : {A : Type 0} → (n : ℕ) (o : Part A) (part : A × List ℕ) → Within n o → o ≡ Some part → length part.1 ≤ n
within-some n o part h e = rw e at h

pub simple-shorter : (text : List ℕ) (simple : Simple) (rest : List ℕ) → simple_at text ≡ Some (simple, rest) → length rest < length text
simple-shorter [] simple rest e = cc e
simple-shorter (c ∷ text) simple rest e = omega (arith, within-some (length text) (simple_at (c ∷ text)) (simple, rest) (simple-short c text) e)

pair-eta : (read : List Simple × List ℕ) → (read.0, read.1) ≡ read
pair-eta (simples, rest) = refl

-- what was read of a compound, with what is read behind it
abbrev pub joined : List Simple → List ℕ → List Simple × List ℕ
joined read left = (read ++ (all_simples_at left).0, (all_simples_at left).1)

pub front-joined : (text : List ℕ) (o : Part Simple) → joined (front_of text o).0 (front_of text o).1 ≡ onto o (all_simples_at text) all_simples_at
front-joined text None = pair-eta (all_simples_at text)
front-joined text (Some (simple, rest)) = refl

pub next-joined : (read new : List Simple) (left rest : List ℕ) (simple : Simple) → simple_at left ≡ Some (simple, rest) → new ≡ read ++ simple ∷ [] → joined new rest ≡ joined read left
next-joined read new left rest simple e more =
    ap (λ simples. joined simples rest) more ∙ ap (λ simples. (simples, (all_simples_at rest).1)) (append_assoc read (simple ∷ []) (all_simples_at rest).0)
    ∙ ap (λ (some : List Simple × List ℕ). (read ++ some.0, some.1)) (sym (all-some left simple rest e))

pub last-joined : (read : List Simple) (left : List ℕ) → simple_at left ≡ None → joined read left ≡ (read ++ [], left)
last-joined read left e = ap (λ (some : List Simple × List ℕ). (read ++ some.0, some.1)) (all-none left e)

-- whether something was taken, as a number
taken : List Simple → ℕ
taken [] = 0
taken (simple ∷ simples) = 1

onto-short : (o : Part Simple) (other : List Simple × List ℕ) (more : List ℕ → List Simple × List ℕ) (len k : ℕ) → Within k o → k < len → length other.1 + taken other.0 ≤ len
    → ((rest : List ℕ) → length (more rest).1 ≤ length rest) → length (onto o other more).1 + taken (onto o other more).0 ≤ len
unfolding taken
onto-short None other more len k h lt less shorter = less
onto-short (Some (simple, rest)) other more len k h lt less shorter = omega (arith, shorter rest)

simples-short : (n : ℕ) (text : List ℕ) → length (simples_at n text).1 + taken (simples_at n text).0 ≤ length text
unfolding simples_at taken
simples-short zero text = omega arith
simples-short (suc n) [] = omega arith
simples-short (suc n) (c ∷ text) =
    onto-short (simple_at (c ∷ text)) ([], c ∷ text) (simples_at n) (suc (length text)) (length text) (simple-short c text) (omega arith) (omega arith) (λ rest. omega (arith, simples-short n rest))

compound-short : (text : List ℕ) → length (compound_at text).1 + taken (compound_at text).0 ≤ length text
compound-short [] = simples-short 0 []
compound-short (c ∷ text) =
    onto-short (type_at (c ∷ text)) (all_simples_at (c ∷ text)) all_simples_at (suc (length text)) (length text) (type-short c text) (omega arith) (simples-short (suc (length text)) (c ∷ text))
    (λ rest. omega (arith, simples-short (length rest) rest))

step-same : (step : Step) (o : Part Combinator) (f g : Combinator → List ℕ → Option (List Step)) (k : ℕ) → Within k o
    → ((next : Combinator) (rest : List ℕ) → length rest ≤ k → f next rest ≡ g next rest) → step_before step o f ≡ step_before step o g
step-same step None f g k h same = refl
step-same step (Some (next, rest)) f g k h same = ap (option_map (λ steps. step ∷ steps)) (same next rest h)

compound-same : (before : Combinator) (read : List Simple × List ℕ) (f g : Combinator → List ℕ → Option (List Step)) (k : ℕ) → length read.1 + taken read.0 ≤ suc k
    → ((next : Combinator) (rest : List ℕ) → length rest ≤ k → f next rest ≡ g next rest) → compound_before before read f ≡ compound_before before read g
unfolding taken
compound-same before ([], rest) f g k h same = refl
compound-same before (simple ∷ simples, []) f g k h same = refl
compound-same before (simple ∷ simples, c ∷ rest) f g k h same = step-same _ (combinator_at (c ∷ rest)) f g k (combinator-within (c ∷ rest) k (omega arith)) same

-- more turns than there are code points read nothing more
same-steps : (n m : ℕ) (before : Combinator) (text : List ℕ) → length text ≤ n → length text ≤ m → steps_at n before text ≡ steps_at m before text
unfolding steps_at simples_at
same-steps zero zero before text h g = refl
same-steps zero (suc m) before [] h g = refl
same-steps zero (suc m) before (c ∷ text) h g = absurd (omega arith)
same-steps (suc n) zero before [] h g = refl
same-steps (suc n) zero before (c ∷ text) h g = absurd (omega arith)
same-steps (suc n) (suc m) before [] h g = refl
same-steps (suc n) (suc m) before (c ∷ text) h g =
    compound-same before (compound_at (c ∷ text)) (steps_at n) (steps_at m) (length text) (compound-short (c ∷ text)) (λ next rest k. same-steps n m next rest (omega arith) (omega arith))

-- all steps of a text
abbrev pub all_steps : Combinator → List ℕ → Option (List Step)
all_steps before text = steps_at (length text) before text

steps-unfold : (before : Combinator) (text : List ℕ) → all_steps before text ≡ compound_before before (compound_at text) all_steps
unfolding steps_at simples_at
steps-unfold before [] = refl
steps-unfold before (c ∷ text) =
    compound-same before (compound_at (c ∷ text)) (steps_at (length text)) all_steps (length text) (compound-short (c ∷ text)) (λ next rest k. same-steps (length text) (length rest) next rest k (omega arith))

steps-of : (before : Combinator) (text : List ℕ) (compound : List Simple) (rest : List ℕ) → (compound, rest) ≡ compound_at text → all_steps before text ≡ compound_before before (compound, rest) all_steps
steps-of before text compound rest e = steps-unfold before text ∙ ap (λ read. compound_before before read all_steps) (sym e)

abbrev step_of : Combinator → List Simple → Step
step_of before compound = record { combinator = before; compound = compound }

-- what was read of a text, with what is read behind it
abbrev pub with_steps : List Step → Option (List Step) → Option (List Step)
with_steps steps more = option_map (λ others. steps ++ others) more

pub first_steps : (o : Option (List Step)) → with_steps [] o ≡ o
first_steps None = refl
first_steps (Some steps) = refl

-- where no compound is
pub no_compound : (steps : List Step) (before : Combinator) (text : List ℕ) (compound : List Simple) (rest : List ℕ) → (compound, rest) ≡ compound_at text → (length compound == 0) ≡ true
    → with_steps steps (all_steps before text) ≡ None
no_compound steps before text [] rest e none = ap (with_steps steps) (steps-of before text [] rest e)
no_compound steps before text (simple ∷ simples) rest e none = absurd (omega (arith, eqb-true (length (simple ∷ simples)) 0 none))

-- where the text ends with one
pub last_compound : (steps new : List Step) (before : Combinator) (text : List ℕ) (compound : List Simple) (rest : List ℕ) → (compound, rest) ≡ compound_at text → (length compound == 0) ≡ false
    → new ≡ steps ++ step_of before compound ∷ [] → (length rest == 0) ≡ true → with_steps steps (all_steps before text) ≡ Some new
last_compound steps new before text [] rest e some more none = cc some
last_compound steps new before text (simple ∷ simples) [] e some more none = ap (with_steps steps) (steps-of before text (simple ∷ simples) [] e) ∙ ap Some (sym more)
last_compound steps new before text (simple ∷ simples) (c ∷ rest) e some more none = absurd (omega (arith, eqb-true (length (c ∷ rest)) 0 none))

-- where no combinator is behind it
pub no_combinator : (steps : List Step) (before : Combinator) (text : List ℕ) (compound : List Simple) (rest : List ℕ) → (compound, rest) ≡ compound_at text → (length compound == 0) ≡ false
    → (length rest == 0) ≡ false → combinator_at rest ≡ None → with_steps steps (all_steps before text) ≡ None
no_combinator steps before text [] rest e some more none = cc some
no_combinator steps before text (simple ∷ simples) [] e some more none = cc more
no_combinator steps before text (simple ∷ simples) (c ∷ rest) e some more none =
    ap (with_steps steps) (steps-of before text (simple ∷ simples) (c ∷ rest) e ∙ ap (λ o. step_before (step_of before (simple ∷ simples)) o all_steps) none)

with-more : (steps new : List Step) (step : Step) (o : Option (List Step)) → new ≡ steps ++ step ∷ [] → with_steps steps (option_map (λ others. step ∷ others) o) ≡ with_steps new o
with-more steps new step None e = refl
with-more steps new step (Some others) e = ap Some (sym (append_assoc steps (step ∷ []) others) ∙ ap (λ all. all ++ others) (sym e))

short-read : (text : List ℕ) (compound : List Simple) (rest : List ℕ) → (compound, rest) ≡ compound_at text → length rest + taken compound ≤ length text
short-read text compound rest e =
    let P : List Simple × List ℕ → Type 0 = λ read. length read.1 + taken read.0 ≤ length text in
    subst P (sym e) (compound-short text)

-- where the next one follows
pub next_compound : (steps new : List Step) (before next : Combinator) (text : List ℕ) (compound : List Simple) (rest left : List ℕ) → (compound, rest) ≡ compound_at text → (length compound == 0) ≡ false
    → new ≡ steps ++ step_of before compound ∷ [] → (length rest == 0) ≡ false → combinator_at rest ≡ Some (next, left)
    → (with_steps steps (all_steps before text) ≡ with_steps new (all_steps next left)) × (length left < length text)
unfolding taken
next_compound steps new before next text [] rest left e some added more follows = cc some
next_compound steps new before next text (simple ∷ simples) [] left e some added more follows = cc more
next_compound steps new before next text (simple ∷ simples) (c ∷ rest) left e some added more follows =
    let step = step_of before (simple ∷ simples) in
    let short : length (c ∷ rest) + 1 ≤ length text = short-read text (simple ∷ simples) (c ∷ rest) e in (
      ap (with_steps steps) (steps-of before text (simple ∷ simples) (c ∷ rest) e ∙ ap (λ o. step_before step o all_steps) follows) ∙ with-more steps new step (all_steps next left) added,
      omega (arith, within-some (length (c ∷ rest)) (combinator_at (c ∷ rest)) (next, left) (combinator-within (c ∷ rest) (length (c ∷ rest)) (omega arith)) follows),
    )
