use Rattle.std.proofs.Common.{◌≡◌, ℕ, refl, sym, subst, ap, append-nil, ◌∙◌, Option, Some}
use Rattle.hp_tokens.specs.declared.state.State.{State}
use Rattle.hp_tokens.specs.declared.state.State.TheVariants.{CommentEndDash}
use Rattle.hp_tokens.specs.declared.machine.Machine.{Machine}
use Rattle.hp_tokens.specs.States.{enter}
use Rattle.hp_tokens.specs.Rows.{Row, Follows, go}
use Rattle.hp_lex_markup.specs.Rows.{comment}
use Rattle.hp_lex_markup.proofs.comments.comment.Goals as goal

on_hyphen : (m : Machine) (symbol : Option ℕ) (x : ℕ) → symbol ≡ Some x → x ≡ 45 → comment m symbol ≡ go CommentEndDash m
on_hyphen m symbol x is same = rw (is, same) refl

entered : (m n : Machine) (given to : State) → n ≡ enter given m → given ≡ to → n ≡ enter to m
entered m n given to e same = e ∙ ap (λ (s : State). enter s m) same

pub returns-in-Some-eq45 : goal.returns-in-Some-eq45
returns-in-Some-eq45 c =
    let row = on_hyphen c.args.machine.now c.args.symbol c.in-Some-eq45.field-0 c.in-Some-eq45.is (sym c.in-Some-eq45.field-0-is ∙ c.in-Some-eq45.field-0-test) in
    let P : Row → Type 0 = λ r. Follows r c.args.tokens.now c.go-in-Some-eq45.new.machine c.args.tokens.now c.go-in-Some-eq45.result in
    subst P (sym row) (record {
      to = entered c.args.machine.now c.go-in-Some-eq45.new.machine _ CommentEndDash c.go-in-Some-eq45.ensures.to refl;
      reads = c.go-in-Some-eq45.ensures.reads;
      emits = sym (append-nil c.args.tokens.now);
    })
