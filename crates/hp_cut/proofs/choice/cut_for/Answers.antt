use Rattle.std.proofs.Common.{◌≡◌, ℕ, ◌<◌, ◌≤◌, List, Bool, true, false, Option, Some, None, length, sym, ap, ◌∙◌}
use Rattle.std.specs.Prelude.{nat_lt, if◌then◌else◌}
use Rattle.std.proofs.lemmas.Bool.{le-leb, lt-leb, lt-ltb, le-ltb}
use Rattle.hp_cut.specs.Targets.{next_cut, place_for}
use Rattle.hp_cut.specs.declared.choice.Cutter.{Cutter}
use Rattle.hp_cut.proofs.choice.cut_for.Goals.{in-BySize, in-AtTags}
use Rattle.hp_cut.proofs.choice.cut_for.Goals as goal

abbrev chosen : Bool → Bool → ℕ → Option ℕ
chosen over below place = if over then None else (if below then Some place else None)

skipped : (cutter : Cutter) (text : List ℕ) (last target : ℕ) → target ≤ last → None ≡ next_cut cutter text last target
skipped cutter text last target over =
    sym (ap (λ (b : Bool). chosen b (nat_lt (place_for cutter text target) (length text)) (place_for cutter text target)) (le-leb target last over))

taken : (cutter : Cutter) (text : List ℕ) (last target place : ℕ) (below : Bool) → last < target → place ≡ place_for cutter text target → nat_lt place (length text) ≡ below
    → chosen false below place ≡ next_cut cutter text last target
taken cutter text last target place below above is e =
    ap (λ (b : Bool). chosen false b place) (sym e)
    ∙ (ap (λ (n : ℕ). chosen false (nat_lt n (length text)) n) is
    ∙ sym (ap (λ (b : Bool). chosen b (nat_lt (place_for cutter text target) (length text)) (place_for cutter text target)) (lt-leb target last above)))

pub returns-then-target-last : goal.returns-then-target-last
returns-then-target-last c = skipped c.args.cutter c.args.text.now c.args.last c.args.target c.if-target-last.true

pub returns-then-place-text : goal.returns-then-place-text
returns-then-place-text c =
    let is : c.match-cutter.place ≡ place_for c.args.cutter c.args.text.now c.args.target =
    elim c.match-cutter.branch [
      | in-BySize w ↦ w.place-is ∙ (w.first_start_from-place.ensures ∙ ap (λ (k : Cutter). place_for k c.args.text.now c.args.target) (sym w.in-BySize.is))
      | in-AtTags w ↦ w.place-is ∙ (w.first_tag_from-place.ensures ∙ ap (λ (k : Cutter). place_for k c.args.text.now c.args.target) (sym w.in-AtTags.is))
    ] in
    taken c.args.cutter c.args.text.now c.args.last c.args.target c.match-cutter.place true c.if-target-last.false is (lt-ltb _ _ c.if-place-text.true)

pub returns-else-place-text : goal.returns-else-place-text
returns-else-place-text c =
    let is : c.match-cutter.place ≡ place_for c.args.cutter c.args.text.now c.args.target =
    elim c.match-cutter.branch [
      | in-BySize w ↦ w.place-is ∙ (w.first_start_from-place.ensures ∙ ap (λ (k : Cutter). place_for k c.args.text.now c.args.target) (sym w.in-BySize.is))
      | in-AtTags w ↦ w.place-is ∙ (w.first_tag_from-place.ensures ∙ ap (λ (k : Cutter). place_for k c.args.text.now c.args.target) (sym w.in-AtTags.is))
    ] in
    taken c.args.cutter c.args.text.now c.args.last c.args.target c.match-cutter.place false c.if-target-last.false is (le-ltb _ _ c.if-place-text.false)
