use Rattle.std.proofs.Common.{ℕ, List, sym, subst}
use Rattle.std.proofs.lemmas.Option.{IfSome_then}
use Rattle.std.specs.Str.{chars}
use Rattle.hp_lex_tags.specs.Decided.{IsReference}
use Rattle.hp_lex_tags.proofs.ValueReferences.{named_reference}
use Rattle.hp_lex_tags.proofs.Decimals.{behind_sign}
use Rattle.hp_lex_tags.proofs.usual_reference.usual.Goals as goal

pub usual_number-requires : goal.usual_number-requires
usual_number-requires c = record { utf8 = (behind_sign c.args.text.now c.in_ok-first.field-0.now c.requires.utf8 (sym c.in_ok-first.ensures.value) c.if-first-eq35.true).1 }

pub returns-then-first-eq35 : goal.returns-then-first-eq35
returns-then-first-eq35 c =
    IfSome_then c.usual_number.result c.usual_number.ensures (λ usual is.
    let P : List ℕ → Type 0 = λ xs. IsReference c.args.names.now xs usual.stands_for usual.length in
    subst P (sym (behind_sign c.args.text.now c.in_ok-first.field-0.now c.requires.utf8 (sym c.in_ok-first.ensures.value) c.if-first-eq35.true).0) is)

pub returns : goal.returns
returns c = named_reference c.args.names.now (chars c.args.text.now) c.in_ok-found.found c.in_ok-found.ensures
