use Rattle.std.proofs.Common.{◌≡◌, ◌<◌, List, ◌++◌, length, get_or, ap, ◌∙◌, arith}
use Rattle.hp_control.specs.declared.element.OpenElement.{OpenElement}
use Rattle.hp_predict.specs.Guess.{with_ends, top}
use Rattle.hp_predict.proofs.PartLemmas.{page, page_length, elements_length, top_name}
use Rattle.hp_predict.proofs.StateLemmas.{built, built_valid}
use Rattle.hp_predict.proofs.prescan.state_for.Goals as goal

pub at-requires : goal.at-requires
at-requires c =
    let inner = with_ends c.args.names.now c.args.ends.now in
    let of = c.in_ok-put_all.ensures.of c.new-pile.ensures.of in
    omega (arith, ap length of.stack, elements_length (inner ++ page), page_length inner)

pub invariant_of-result : goal.invariant_of-result
invariant_of-result c =
    let inner = with_ends c.args.names.now c.args.ends.now in
    let all = inner ++ page in
    let of = c.in_ok-put_all.ensures.of c.new-pile.ensures.of in
    let some : 0 < length all = omega (arith, page_length inner) in
    let name_is : c.at.result.now.name ≡ top all = top_name all c.at.result.now some (c.at.ensures ∙ ap (λ (es : List OpenElement). get_or es 0 c.at.result.now) of.stack) in
    built_valid c.args.after_cr inner _ (built c.args.after_cr all c.at.result.now.name c.in_ok-lex.lex c.modes_for-mode.result.0 c.modes_for-mode.result.1 c.put_all.new.pile c.new.result c.len-count.result of name_is c.in_ok-lex.ensures c.modes_for-mode.ensures.mode c.modes_for-mode.ensures.original c.new.ensures c.len-count.ensures)

pub returns : goal.returns
returns c =
    let inner = with_ends c.args.names.now c.args.ends.now in
    let all = inner ++ page in
    let of = c.in_ok-put_all.ensures.of c.new-pile.ensures.of in
    let some : 0 < length all = omega (arith, page_length inner) in
    let name_is : c.at.result.now.name ≡ top all = top_name all c.at.result.now some (c.at.ensures ∙ ap (λ (es : List OpenElement). get_or es 0 c.at.result.now) of.stack) in
    built c.args.after_cr all c.at.result.now.name c.in_ok-lex.lex c.modes_for-mode.result.0 c.modes_for-mode.result.1 c.put_all.new.pile c.new.result c.len-count.result of name_is c.in_ok-lex.ensures c.modes_for-mode.ensures.mode c.modes_for-mode.ensures.original c.new.ensures c.len-count.ensures
