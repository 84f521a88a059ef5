use Rattle.std.proofs.Common.{◌≡◌, subst, List, ℕ}
use Rattle.std.specs.Prelude.{OnOk}
use Rattle.hp_tokens.specs.Rows.{putting_text}
use Rattle.hp_lex_markup.proofs.Spelled.{chars_of_ascii}
use Rattle.hp_lex_markup.proofs.rows.put_ascii.Goals as goal

pub returns : goal.returns
returns c =
    let P : List ℕ → Type 0 = λ xs. OnOk c.put_text.result (c.put_text.new.self ≡ putting_text c.args.part xs c.args.machine.now) in
    subst P (chars_of_ascii c.args.text.now c.requires.ascii) c.put_text.ensures
