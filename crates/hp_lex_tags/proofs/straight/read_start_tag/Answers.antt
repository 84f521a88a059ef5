use Rattle.std.proofs.Common.{◌≡◌, ℕ, List, [], Bool, ap, ◌∙◌, sym, subst, Option, Some, refl}
use Rattle.std.specs.Prelude.{IfSome, IfNone}
use Rattle.hp_elements.specs.declared.sets.Namespace.TheVariants.{Html}
use Rattle.hp_elements.specs.declared.tag.Attribute.{Attribute}
use Rattle.hp_elements.specs.declared.token.Token.TheVariants.{Start}
use Rattle.hp_tokens.specs.declared.state.State.TheVariants.{TagName, Data}
use Rattle.hp_tokens.specs.declared.building.Building.TheVariants.{Nothing}
use Rattle.hp_lex_tags.specs.Straight.{TagGrows, bare, tagging}
use Rattle.hp_lex_tags.specs.declared.straight.Way.TheVariants as way
use Rattle.hp_lex_tags.proofs.StraightTags.{ascii_front, skipped, start_first, start_whole}
use Rattle.hp_lex_tags.proofs.straight.read_start_tag.Goals as goal

pub returns-in-Some : goal.returns-in-Some
returns-in-Some c =
    let front = bare c.in_ok-name.name [] in
    let Q : Option Bool → Type 0 =
    λ o. IfSome o (λ closing. TagGrows c.args.names.now TagName c.new-attributes.result c.read_name.new.input c.read_behind_name.new.attributes c.read_behind_name.new.input (way.Whole closing)) in
    let B : Option Bool → Type 0 = λ o. IfSome o (λ closing. c.read_behind_name.new.machine ≡ tagging (Some c.in_ok-name.name) Data Nothing) in
    let grows : TagGrows c.args.names.now TagName c.new-attributes.result c.read_name.new.input c.read_behind_name.new.attributes c.read_behind_name.new.input (way.Whole c.in-Some.self_closing) =
    subst Q c.in-Some.is c.in_ok-end.ensures.read in
    let behind : c.read_behind_name.new.machine ≡ tagging (Some c.in_ok-name.name) Data Nothing = subst B c.in-Some.is c.in_ok-end.ensures.behind in
    let then = grows front c.new-attributes.ensures in
    start_whole c.args.names.now c.args.machine.now c.requires.data c.requires.clear c.args.input.now c.skip_ascii.new.self
    (skipped 60 c.args.input.now c.skip_ascii.new.self (start_first c.args.input.now.text c.requires.opens) refl c.skip_ascii.ensures)
    c.requires.opens c.read_name.new.input front c.in_ok-name.ensures refl
    c.read_behind_name.new.machine c.read_behind_name.new.input then.to c.in-Some.self_closing _ then.arrives
    (ap (λ (n : List ℕ). Start c.in-Some.self_closing (record { namespace = Html; name = n; attributes = c.read_behind_name.new.attributes })) (sym then.named)
    ∙ ap (λ (xs : List Attribute). Start c.in-Some.self_closing (record { namespace = Html; name = then.to.name; attributes = xs })) then.gathers)
    (behind ∙ ap (λ (n : List ℕ). tagging (Some n) Data Nothing) (sym then.named))

pub returns : goal.returns
returns c =
    let P : Option Bool → Type 0 = λ o. IfNone o (c.read_behind_name.new.machine ≡ c.args.machine.now) in
    (subst P c.in-None.is c.in_ok-end.ensures.left, c.copy-start.ensures)

pub skip_ascii-requires : goal.skip_ascii-requires
skip_ascii-requires c = record { front = ascii_front 60 c.args.input.now.text (start_first c.args.input.now.text c.requires.opens) refl }
