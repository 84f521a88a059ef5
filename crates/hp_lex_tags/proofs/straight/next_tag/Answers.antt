use Rattle.std.proofs.Common.{◌≡◌, ◌≤◌, ℕ, List, refl, ap, arith, Option}
use Rattle.std.specs.Prelude.{sum_by}
use Rattle.std.specs.Char.{len_utf8}
use Rattle.std.proofs.lemmas.Result.{IfOk-weaker}
use Rattle.hp_elements.specs.declared.token.Token.{Token}
use Rattle.hp_tokens.specs.Advancing.{lexing}
use Rattle.hp_lex_tags.specs.Tags.{TagTurned}
use Rattle.hp_lex_tags.proofs.StraightTags.{tag_turned, tag_unread}
use Rattle.hp_lex_tags.proofs.straight.next_tag.Goals as goal

pub returns-then-not-stands_in_data-clause-tag : goal.returns-then-not-stands_in_data-clause-tag
returns-then-not-stands_in_data-clause-tag c = tag_unread c.args.names.now c.args.state.now c.args.input.now c.args.rested.now

pub returns-then-opens_start_tag-clause-tag : goal.returns-then-opens_start_tag-clause-tag
returns-then-opens_start_tag-clause-tag c =
    let n = c.read_start_tag.new.machine in
    let P : Option Token → Type 0 = λ tag. TagTurned c.args.names.now (lexing c.args.state.now c.args.input.now c.args.rested.now) tag (lexing (record c.args.state.now { machine = n }) c.read_start_tag.new.input c.place-place.result) c.place-place.result in
    IfOk-weaker c.read_start_tag.result _ P (λ tag h. tag_turned c.args.names.now c.args.state.now (record c.args.state.now { machine = n }) n c.args.input.now c.read_start_tag.new.input c.args.rested.now c.place-place.result
    (c.if-not-stands_in_data.ensures.data refl) (c.if-not-stands_in_data.ensures.ahead refl) refl c.place-place.ensures.place tag h) c.read_start_tag.ensures

pub returns-then-opens_end_tag-clause-tag : goal.returns-then-opens_end_tag-clause-tag
returns-then-opens_end_tag-clause-tag c =
    let n = c.read_end_tag.new.machine in
    let P : Option Token → Type 0 = λ tag. TagTurned c.args.names.now (lexing c.args.state.now c.args.input.now c.args.rested.now) tag (lexing (record c.args.state.now { machine = n }) c.read_end_tag.new.input c.place-place.result) c.place-place.result in
    IfOk-weaker c.read_end_tag.result _ P (λ tag h. tag_turned c.args.names.now c.args.state.now (record c.args.state.now { machine = n }) n c.args.input.now c.read_end_tag.new.input c.args.rested.now c.place-place.result
    (c.if-not-stands_in_data.ensures.data refl) (c.if-not-stands_in_data.ensures.ahead refl) refl c.place-place.ensures.place tag h) c.read_end_tag.ensures

pub returns-clause-tag : goal.returns-clause-tag
returns-clause-tag c = tag_unread c.args.names.now c.args.state.now c.args.input.now c.args.rested.now

pub returns-then-opens_start_tag-clause-held : goal.returns-then-opens_start_tag-clause-held
returns-then-opens_start_tag-clause-held c =
    let none : sum_by len_utf8 c.args.state.now.ahead ≡ 0 = ap (λ (xs : List ℕ). sum_by len_utf8 xs) (c.if-not-stands_in_data.ensures.ahead refl) in
    IfOk-weaker c.read_start_tag.result _ (λ (tag : Option Token). sum_by len_utf8 c.args.state.now.ahead ≤ c.read_start_tag.new.input.place) (λ tag h. omega (arith, none)) c.read_start_tag.ensures

pub returns-then-opens_end_tag-clause-held : goal.returns-then-opens_end_tag-clause-held
returns-then-opens_end_tag-clause-held c =
    let none : sum_by len_utf8 c.args.state.now.ahead ≡ 0 = ap (λ (xs : List ℕ). sum_by len_utf8 xs) (c.if-not-stands_in_data.ensures.ahead refl) in
    IfOk-weaker c.read_end_tag.result _ (λ (tag : Option Token). sum_by len_utf8 c.args.state.now.ahead ≤ c.read_end_tag.new.input.place) (λ tag h. omega (arith, none)) c.read_end_tag.ensures

pub returns-then-opens_start_tag-clause-ahead : goal.returns-then-opens_start_tag-clause-ahead
returns-then-opens_start_tag-clause-ahead c =
    IfOk-weaker c.read_start_tag.result _ (λ (tag : Option Token). c.args.state.now.ahead ≡ c.args.state.now.ahead) (λ tag h. refl) c.read_start_tag.ensures

pub returns-then-opens_end_tag-clause-ahead : goal.returns-then-opens_end_tag-clause-ahead
returns-then-opens_end_tag-clause-ahead c =
    IfOk-weaker c.read_end_tag.result _ (λ (tag : Option Token). c.args.state.now.ahead ≡ c.args.state.now.ahead) (λ tag h. refl) c.read_end_tag.ensures
