use Rattle.std.proofs.Common.{◌≡◌, ◌++◌, ◌∙◌, refl, rules}
use Rattle.std.specs.Str.{chars}
use Rattle.std.proofs.lemmas.Str.{scalars-chars}
use Rattle.std.specs.Ordering.{nat_cmp}
use borrow.Author.Tests.{tests}
use Rattle.std.proofs.lemmas.Iterator.{YieldsList-from_chars, YieldsList-from_map}
use Rattle.std.proofs.lemmas.Iterator.Consumers.{YieldsList-from_chain, YieldsList-at}
use Rattle.std.proofs.lemmas.Iterator.Search.{cmp_from_yields_List}
use Rattle.hp_print.specs.Order.{weight}
use Rattle.hp_print.proofs.Units.{scalars-append, weights_order_like_units}
use Rattle.hp_print.proofs.attributes.compare.Goals as goal

pub returns : goal.returns
returns c =
    let word = YieldsList-from_chars {s = c.chars.result} c.args.word.now c.utf8.word c.chars.ensures.rest in
    let name = YieldsList-from_chars {s = c.chars-2.result} c.args.name.now c.utf8.name c.chars-2.ensures.rest in
    let other_word = YieldsList-from_chars {s = c.chars-3.result} c.args.other_word.now c.utf8.other_word c.chars-3.ensures.rest in
    let other_name = YieldsList-from_chars {s = c.chars-4.result} c.args.other_name.now c.utf8.other_name c.chars-4.ensures.rest in
    let ours = YieldsList-from_chain {s = c.chain.result} (YieldsList-at c.chain.ensures.first word) (YieldsList-at c.chain.ensures.second name) c.chain.ensures.first_done c.chain.ensures.second_done in
    let theirs = YieldsList-from_chain {s = c.chain-2.result} (YieldsList-at c.chain-2.ensures.first other_word) (YieldsList-at c.chain-2.ensures.second other_name) c.chain-2.ensures.first_done c.chain-2.ensures.second_done in
    let weights =
    cmp_from_yields_List (λ x y. y ≡ x) c.map-theirs.result nat_cmp c.cmp.result c.cmp.ensures.ran
    (YieldsList-from_map {s = c.map-ours.result} _ weight (YieldsList-at c.map-ours.ensures.source ours) c.map-ours.ensures.closure (λ x r q k. search (rules, tests)))
    (λ it e. YieldsList-at e (YieldsList-from_map {s = c.map-theirs.result} _ weight (YieldsList-at c.map-theirs.ensures.source theirs) c.map-theirs.ensures.closure (λ x r q k. search (rules, tests))))
    (λ x y. refl) in
    let ours_fit = scalars-append (chars c.args.word.now) (chars c.args.name.now) (scalars-chars c.args.word.now c.utf8.word) (scalars-chars c.args.name.now c.utf8.name) in
    let theirs_fit = scalars-append (chars c.args.other_word.now) (chars c.args.other_name.now) (scalars-chars c.args.other_word.now c.utf8.other_word) (scalars-chars c.args.other_name.now c.utf8.other_name) in
    weights ∙ weights_order_like_units (chars c.args.word.now ++ chars c.args.name.now) (chars c.args.other_word.now ++ chars c.args.other_name.now) ours_fit theirs_fit
