use Rattle.std.proofs.Common.{◌≡◌, ℕ, List, Some, None, ap, append-nil, sym, ◌∙◌}
use Rattle.hp_select.specs.declared.selector.Simple.{Simple}
use Rattle.hp_select.specs.Grammar.{simple_at, type_at}
use Rattle.hp_select.specs.Reading.{part_seen}
use Rattle.hp_select.proofs.Compounds.{front-joined, joined, last-joined, next-joined, simple-shorter}
use Rattle.hp_select.proofs.reading.read_compound.Goals as goal

pub loop-compound-init : goal.loop-compound-init
loop-compound-init c = ap (λ (read : List Simple × List ℕ). joined read.0 read.1) c.in_ok-compound.ensures ∙ front-joined c.args.text.now (type_at c.args.text.now)

pub loop-compound-preserved : goal.loop-compound-preserved
loop-compound-preserved c =
    let e : simple_at c.loop-compound.left.now ≡ Some (c.in-Some.simple, c.in-Some.rest.now) = sym c.in_ok-simple.ensures ∙ ap part_seen c.in-Some.is in
    next-joined c.loop-compound.compound c.push.new.self c.loop-compound.left.now c.in-Some.rest.now c.in-Some.simple e c.in_ok-push.ensures.ok ∙ c.loop-compound.invariant

pub loop-compound-smaller : goal.loop-compound-smaller
loop-compound-smaller c =
    let e : simple_at c.loop-compound.left.now ≡ Some (c.in-Some.simple, c.in-Some.rest.now) = sym c.in_ok-simple.ensures ∙ ap part_seen c.in-Some.is in
    simple-shorter c.loop-compound.left.now c.in-Some.simple c.in-Some.rest.now e

pub returns : goal.returns
returns c =
    let none : simple_at c.loop-compound.left.now ≡ None = sym c.in_ok-simple.ensures ∙ ap part_seen c.in_default.is in
    let read = c.loop-compound.compound in
    let left = c.loop-compound.left.now in
    ap (λ (simples : List Simple). (simples, left)) (sym (append-nil read)) ∙ sym (last-joined read left none) ∙ c.loop-compound.invariant
