use Rattle.std.proofs.Common.{◌≡◌, ◌+◌, ℕ, List, [], ◌∷◌, false, length, ap, sym, subst, ◌∙◌, arith, length-drop}
use Rattle.std.specs.Prelude.{MatchOption}
use Rattle.hp_predict.specs.Tags.{SeenTag, tags}
use Rattle.hp_predict.specs.Found.{found_tag}
use Rattle.hp_predict.proofs.TagLemmas.{tag_opens, not_opened, no_tag_opens}
use Rattle.hp_predict.proofs.NamedTags.{found_first}
use Rattle.hp_predict.proofs.tags.next_tag.Goals as goal

pub returns-clause-tags : goal.returns-clause-tags
returns-clause-tags c = sym c.loop-at.invariant.same ∙ no_tag_opens c.loop-at.rest.now c.in_default.ensures

pub loop-at-preserved : goal.loop-at-preserved
loop-at-preserved c =
    let e : tags false c.loop-at.rest.now ≡ tags false (60 ∷ c.behind-rest.result.now) =
    tag_opens c.loop-at.rest.now c.in-Some.at c.in-Some.ensures ∙ ap (λ (xs : List ℕ). tags false (60 ∷ xs)) (sym c.behind-rest.ensures) in
    record {
      same = sym (not_opened c.behind-rest.result.now (sym c.in_default-tag_after.ensures.tag)) ∙ (sym e ∙ c.loop-at.invariant.same);
      short = omega (arith, ap length c.behind-rest.ensures, length-drop (c.in-Some.at + 1) c.loop-at.rest.now);
    }

pub returns-in-Some-tag_after-clause-tags : goal.returns-in-Some-tag_after-clause-tags
returns-in-Some-tag_after-clause-tags c =
    let e : tags false c.loop-at.rest.now ≡ tags false (60 ∷ c.behind-rest.result.now) =
    tag_opens c.loop-at.rest.now c.in-Some.at c.in-Some.ensures ∙ ap (λ (xs : List ℕ). tags false (60 ∷ xs)) (sym c.behind-rest.ensures) in
    subst (λ (ts : List SeenTag). MatchOption c.closed.result (ts ≡ []) (λ found. ts ≡ found_tag found ∷ tags false found.rest.now)) (sym e ∙ c.loop-at.invariant.same)
    (found_first c.behind-rest.result.now c.in-Some-tag_after.opening c.closed.result (sym c.in-Some-tag_after.ensures.tag) c.in-Some-tag_after.ensures.end c.in-Some-tag_after.ensures.behind c.closed.ensures.end c.closed.ensures.tag c.closed.ensures.rest)
