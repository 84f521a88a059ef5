-- What is left open by a tag that is passed, alone or with the one that closes it at once.
use Rattle.std.proofs.Common.{◌≡◌, ℕ, false, List, [], ◌∷◌, ◌++◌, sym, ap, ◌∙◌}
use Rattle.std.specs.Prelude.{if◌then◌else◌}
use Rattle.hp_predict.specs.Tags.{SeenTag, tags, counts, counting, counted_tags}
use Rattle.hp_predict.specs.OpenNames.{Names, IsPair, is_unmatched, after_tag, after, unmatched}
use Rattle.hp_predict.proofs.NamesLemmas.{names_step, unmatched_step, pair_names, pair_unmatched}

-- a tag alone, whose name is read
module _ (tag : SeenTag) (rest behind : List ℕ) (same : tags false rest ≡ tags false behind) (name : List ℕ) (read : name ≡ tag.name) where
  abbrev named : List ℕ → SeenTag
  named n = record { is_end = tag.is_end; name = n }

  pub one_names : (names names' : Names) → names' ≡ (if counts name then after_tag (named name) names else names) → after (counted_tags rest) names' ≡ after (counting (tag ∷ tags false behind)) names
  one_names names names' is =
      ap (λ (ts : List SeenTag). after (counting ts) names') same
      ∙ (names_step (tags false behind) (named name) names names' is
      ∙ ap (λ (n : List ℕ). after (counting (named n ∷ tags false behind)) names) read)

  pub one_unmatched : (names names' found found' : Names) → names' ≡ (if counts name then after_tag (named name) names else names) → found' ≡ (if counts name then (if is_unmatched (named name) names then found ++ name ∷ [] else found) else found)
      → found' ++ unmatched (counted_tags rest) names' ≡ found ++ unmatched (counting (tag ∷ tags false behind)) names
  one_unmatched names names' found found' is more =
      ap (λ (ts : List SeenTag). found' ++ unmatched (counting ts) names') same
      ∙ (unmatched_step (tags false behind) (named name) names names' found found' is more
      ∙ ap (λ (n : List ℕ). found ++ unmatched (counting (named n ∷ tags false behind)) names) read)

-- a tag and the one that closes it
module _ (tag end : SeenTag) (text behind last : List ℕ) (same : tags false text ≡ tags false behind) (first : tags false text ≡ end ∷ tags false last) (pair : IsPair tag end) (names : Names) where
  both : tags false behind ≡ end ∷ tags false last
  both = sym same ∙ first

  pub two_names : after (counted_tags last) names ≡ after (counting (tag ∷ tags false behind)) names
  two_names = sym (ap (λ (ts : List SeenTag). after (counting (tag ∷ ts)) names) both ∙ pair_names tag end pair names (tags false last))

  pub two_unmatched : (found : Names) → found ++ unmatched (counted_tags last) names ≡ found ++ unmatched (counting (tag ∷ tags false behind)) names
  two_unmatched found =
      ap (λ (ms : Names). found ++ ms)
      (sym (ap (λ (ts : List SeenTag). unmatched (counting (tag ∷ ts)) names) both ∙ pair_unmatched tag end pair names (tags false last)))
