use Rattle.std.proofs.Common.{◌≡◌, ℕ, ◌∙◌, ap, subst, not, nat_eq, length, Some, Option, refl, rules}
use Rattle.std.specs.Prelude.{◌==◌, IfSome}
use Rattle.hp_tokens.specs.declared.machine.Machine.{Machine}
use Rattle.hp_tokens.specs.declared.rows.Reads.{Reads}
use Rattle.hp_tokens.specs.declared.rows.Reads.TheVariants.{Consume, Again}
use Rattle.hp_tokens.specs.Rows.{Follows}
use Rattle.hp_tokens.specs.Moves.{read_as}
use Rattle.hp_tokens.specs.Advancing.{Takes, unread}
use Rattle.hp_tokens.proofs.Stepping.{text_of_some}
use Rattle.hp_lex_markup.specs.Rows.{row}
use Rattle.hp_lex_markup.proofs.WordSteps.{consumed, reread, word_here}
use Rattle.hp_lex_markup.proofs.words.read_row.Goals as goal
use Rattle.hp_lex_markup.proofs.words.read_row.Goals.{in-Consume, in-Again, After-len, then-c-eq13, else-c-eq13}

flag : (c : After-len) → not (nat_eq c.len.result c.len-before.result) ≡ not (nat_eq (length c.row.new.tokens) (length c.args.tokens.now))
flag c = ap (λ (x : ℕ). not (nat_eq x c.len-before.result)) c.len.ensures
    ∙ ap (λ (x : ℕ). not (nat_eq (length c.row.new.tokens) x)) c.len-before.ensures

read_symbol : (c : After-len) → c.if-c-eq13.symbol ≡ read_as c.args.c
read_symbol c = elim c.if-c-eq13.branch [ then-c-eq13 w ↦ search rules | else-c-eq13 w ↦ search rules ]

follows : (c : After-len) (reads : Reads) → c.in_ok-row.field-0 ≡ reads
    → Follows (row c.args.state.now.machine (Some (read_as c.args.c))) c.args.tokens.now c.row.new.machine c.row.new.tokens reads
follows c reads is =
    let P : ℕ → Type 0 = λ x. Follows (row c.args.state.now.machine (Some x)) c.args.tokens.now c.row.new.machine c.row.new.tokens c.in_ok-row.field-0 in
    let Q : Reads → Type 0 = λ x. Follows (row c.args.state.now.machine (Some (read_as c.args.c))) c.args.tokens.now c.row.new.machine c.row.new.tokens x in
    subst Q is (subst P (read_symbol c) c.in_ok-row.ensures)

pub returns-clause-step : goal.returns-clause-step
returns-clause-step c = λ next rowed rested settled. elim c.match-branch-2.branch [
  | in-Consume w ↦
      let P : Option ℕ → Type 0 = λ o. IfSome o (Takes (record { machine = c.row.new.machine; ahead = c.args.state.now.ahead }) c.args.input.now w.take.new.self w.take.new.input) in
      let takes = subst P (w.take.ensures.value ∙ c.requires.next) w.take.ensures.takes in
      rw (w.state-is, w.input-is)
      (consumed next c.args.state.now c.args.input.now c.row.new.machine
      (record w.take.new.self { machine = record w.take.new.self.machine { after_cr = c.args.c == 13 } }) w.take.new.input c.args.c rested _ _ _
      (word_here _ c.requires.here) settled (flag c) (rowed rested _ takes.text)
      (follows c Consume w.in-Consume.is) (ap (λ (x : Machine). record x { after_cr = c.args.c == 13 }) takes.machine) takes.text takes.place)
  | in-Again w ↦
      let text = text_of_some (unread c.args.state.now c.args.input.now) c.requires.next in
      rw (w.state-is, w.input-is)
      (reread next c.args.state.now c.args.input.now c.row.new.machine
      (record { machine = c.row.new.machine; ahead = c.args.state.now.ahead }) c.args.input.now c.args.c rested _ _ _
      (word_here _ c.requires.here) settled (flag c)
      text.0 (rowed rested text.0 text.1) (follows c Again w.in-Again.is) refl text.1 refl refl)
]
