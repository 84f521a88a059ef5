use Rattle.std.proofs.Common.{◌≡◌, ◌+◌, ◌<◌, List, [], ap, length-append, ◌∷◌, ◌++◌, true, false, length, take, drop, arith, refl, sym, ◌∙◌}
use Rattle.hp_elements.specs.declared.tag.Attribute.{Attribute}
use Rattle.hp_control.specs.Tree.{has_name, with_missing}
use Rattle.hp_store.proofs.attributes.add_first.Goals as goal

-- one that is known is left out
left_out : (attributes more next rest : List Attribute) → 0 < length more → next ≡ take 1 more → rest ≡ drop 1 more → ((one : Attribute) (others : List Attribute) → next ≡ one ∷ others → true ≡ has_name attributes one) → with_missing attributes rest ≡ with_missing attributes more
left_out attributes [] next rest some n r known = absurd (omega (arith, some))
left_out attributes (one ∷ more) next rest some n r known = rw (r, sym (known one [] n)) refl

-- another one is added
added : (attributes more next rest new : List Attribute) → 0 < length more → next ≡ take 1 more → rest ≡ drop 1 more → ((one : Attribute) (others : List Attribute) → next ≡ one ∷ others → false ≡ has_name attributes one) → new ≡ attributes ++ next → with_missing new rest ≡ with_missing attributes more
added attributes [] next rest new some n r known e = absurd (omega (arith, some))
added attributes (one ∷ more) next rest new some n r known e = rw (e, r, n, sym (known one [] n)) refl

-- how many there are then
counted : (more next rest : List Attribute) → 0 < length more → next ≡ take 1 more → rest ≡ drop 1 more → (length next ≡ 1) × (length more ≡ length rest + 1)
counted [] next rest some n r = absurd (omega (arith, some))
counted (one ∷ more) next rest some n r = (ap length n, omega (arith, ap length r))

pub returns-then-is_known-clause-same : goal.returns-then-is_known-clause-same
returns-then-is_known-clause-same c =
    left_out c.args.attributes.now c.args.more.now c.take_first-next.result c.take_first-next.new.self c.requires.some c.take_first-next.ensures.first c.take_first-next.ensures.rest
    (λ one others e. sym c.if-is_known.true ∙ c.is_known.ensures one others e)

pub returns-clause-same : goal.returns-clause-same
returns-clause-same c =
    added c.args.attributes.now c.args.more.now c.take_first-next.result c.take_first-next.new.self c.append.new.self c.requires.some c.take_first-next.ensures.first c.take_first-next.ensures.rest
    (λ one others e. sym c.if-is_known.false ∙ c.is_known.ensures one others e) c.append.ensures

pub is_known-requires : goal.is_known-requires
is_known-requires c =
    let n = counted c.args.more.now c.take_first-next.result c.take_first-next.new.self c.requires.some c.take_first-next.ensures.first c.take_first-next.ensures.rest in
    omega (arith, n.0)

pub append-requires : goal.append-requires
append-requires c =
    let n = counted c.args.more.now c.take_first-next.result c.take_first-next.new.self c.requires.some c.take_first-next.ensures.first c.take_first-next.ensures.rest in
    omega (arith, n.0, n.1, c.requires.fits)

pub returns-then-is_known-clause-count : goal.returns-then-is_known-clause-count
returns-then-is_known-clause-count c =
    let n = counted c.args.more.now c.take_first-next.result c.take_first-next.new.self c.requires.some c.take_first-next.ensures.first c.take_first-next.ensures.rest in
    omega (arith, n.1)

pub returns-then-is_known-clause-less : goal.returns-then-is_known-clause-less
returns-then-is_known-clause-less c =
    let n = counted c.args.more.now c.take_first-next.result c.take_first-next.new.self c.requires.some c.take_first-next.ensures.first c.take_first-next.ensures.rest in
    omega (arith, n.1)

pub returns-clause-count : goal.returns-clause-count
returns-clause-count c =
    let n = counted c.args.more.now c.take_first-next.result c.take_first-next.new.self c.requires.some c.take_first-next.ensures.first c.take_first-next.ensures.rest in
    omega (arith, n.0, n.1, ap length c.append.ensures, length-append c.args.attributes.now c.take_first-next.result)

pub returns-clause-less : goal.returns-clause-less
returns-clause-less c =
    let n = counted c.args.more.now c.take_first-next.result c.take_first-next.new.self c.requires.some c.take_first-next.ensures.first c.take_first-next.ensures.rest in
    omega (arith, n.1)
