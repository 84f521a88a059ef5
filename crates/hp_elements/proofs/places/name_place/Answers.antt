use Rattle.std.proofs.Common.{ℕ, ◌+◌, Option, ap, sym, ◌∙◌, arith}
use Rattle.hp_elements.specs.Placing.{place_of}
use Rattle.hp_elements.specs.declared.known.Known.{Known}
use Rattle.hp_elements.specs.declared.token.Kind.TheVariants.{Start, End}
use Rattle.hp_elements.proofs.EveryName.{index_below}
use Rattle.hp_elements.proofs.places.name_place.Goals as goal

pub returns-in-Some : goal.returns-in-Some
returns-in-Some c = record {
  start = c.index.ensures ∙ ap (λ (name : Option Known). place_of (Start name)) (sym c.in-Some.is);
  end = ap (λ (n : ℕ). 241 + n) c.index.ensures ∙ ap (λ (name : Option Known). place_of (End name)) (sym c.in-Some.is);
  below = omega (arith, c.index.ensures, index_below c.in-Some.known);
}

pub returns-in-None : goal.returns-in-None
returns-in-None c = record {
  start = ap (λ (name : Option Known). place_of (Start name)) (sym c.in-None.is);
  end = ap (λ (name : Option Known). place_of (End name)) (sym c.in-None.is);
  below = omega arith;
}
