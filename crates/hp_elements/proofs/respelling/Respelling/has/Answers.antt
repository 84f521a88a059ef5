use Rattle.std.proofs.Common.{ℕ, ap, ◌∙◌, ◌==◌, not, bit_and, slice_index}
use Rattle.hp_elements.specs.Names.{index_of}
use Rattle.hp_elements.specs.Respelling.{respellings}
use Rattle.hp_elements.proofs.EveryName.{index_below}
use Rattle.hp_elements.proofs.RespellingLemmas.{tables_agree}
use Rattle.hp_elements.proofs.respelling.Respelling.has.Goals as goal

pub returns : goal.returns
unfolding respellings
returns c =
    ap (λ (i : ℕ). not (bit_and (slice_index respellings i) c.mask.result == 0)) c.index.ensures
    ∙ (ap (λ (bit : ℕ). not (bit_and (slice_index respellings (index_of c.args.known)) bit == 0)) c.mask.ensures ∙ tables_agree c.args.self c.args.known)

pub bounds-index : goal.bounds-index
bounds-index c = rw c.index.ensures (index_below c.args.known)
