use Rattle.std.proofs.Common.{◌≡◌, ◌∙◌, Bool, true, false, ap, sym}
use Rattle.std.specs.Prelude.{◌&&◌, codes}
use Rattle.std.specs.Str.{bytes_eq}
use Rattle.hp_elements.specs.KnownNames as known
use Rattle.hp_elements.specs.Names.{lowered, text_of}
use Rattle.hp_acts.proofs.Deciding.{told_alike, told_hidden}
use Rattle.hp_acts.proofs.questions.is_hidden.Goals as goal

pub returns-then-is : goal.returns-then-is
returns-then-is c =
    let typed : bytes_eq c.args.attribute.now.name (text_of known.Type_) ≡ true = sym (told_alike c.is.result c.args.attribute.now.name (text_of known.Type_) c.is.ensures) ∙ c.if-is.true in
    told_hidden c.eq_ignore_ascii_case.result c.as_str.result.now c.args.attribute.now.value c.as_str.utf8 c.as_str.ensures c.eq_ignore_ascii_case.ensures.test
    ∙ ap (λ (b : Bool). b && bytes_eq (lowered c.args.attribute.now.value) (codes "hidden")) (sym typed)

pub returns-else-is : goal.returns-else-is
returns-else-is c =
    let typed : bytes_eq c.args.attribute.now.name (text_of known.Type_) ≡ false = sym (told_alike c.is.result c.args.attribute.now.name (text_of known.Type_) c.is.ensures) ∙ c.if-is.false in
    c.if-is.false ∙ ap (λ (b : Bool). b && bytes_eq (lowered c.args.attribute.now.value) (codes "hidden")) (sym typed)
