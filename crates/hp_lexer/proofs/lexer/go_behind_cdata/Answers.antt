use Rattle.std.proofs.Common.{◌≡◌, ℕ, List, Bool, refl, ap, ◌∙◌, sym}
use Rattle.std.specs.Prelude.{codes}
use Rattle.std.specs.Str.{chars}
use Rattle.hp_tokens.specs.declared.state.State.TheVariants.{BogusComment}
use Rattle.hp_tokens.specs.declared.building.Part.TheVariants.{Comment}
use Rattle.hp_tokens.specs.declared.machine.Machine.{Machine}
use Rattle.hp_tokens.specs.States.{enter}
use Rattle.hp_tokens.specs.Rows.{putting_text, new_comment}
use Rattle.hp_lex_markup.specs.Markup.{behind_word}
use Rattle.hp_lexer.specs.Standing.{behind_cdata}
use Rattle.hp_lexer.proofs.lexer.go_behind_cdata.Goals as goal

cdata_chars : chars (codes "[CDATA[") ≡ codes "[CDATA["
unfolding chars
cdata_chars = refl

pub returns : goal.returns
returns c =
    c.enter-2.ensures ∙ (ap (λ (m : Machine). enter BogusComment m) (c.in_ok-put_text.ensures
    ∙ (ap (λ (m : Machine). putting_text Comment (chars (codes "[CDATA[")) m) c.begin_comment.ensures
    ∙ ap (λ (t : List ℕ). putting_text Comment t (new_comment (behind_word c.args.machine.now))) cdata_chars))
    ∙ ap (λ (b : Bool). behind_cdata b c.args.machine.now) (sym c.if-foreign.false))
