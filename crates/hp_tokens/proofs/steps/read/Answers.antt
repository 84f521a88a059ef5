use Rattle.std.proofs.Common.{◌≡◌, ℕ, ◌∙◌, ap, subst, not, nat_eq, length, Some, Option, refl, ◌&&◌, false, eq-eqb, rules}
use Rattle.std.proofs.lemmas.Bool.{and_from}
use Rattle.std.specs.Prelude.{◌==◌, IfSome}
use Rattle.hp_tokens.specs.declared.machine.Machine.{Machine}
use Rattle.hp_tokens.specs.declared.rows.Reads.{Reads}
use Rattle.hp_tokens.specs.declared.rows.Reads.TheVariants.{Consume, Again}
use Rattle.hp_tokens.specs.Rows.{Follows}
use Rattle.hp_tokens.specs.Moves.{read_as}
use Rattle.hp_tokens.specs.Advancing.{Takes, unread, pair_next}
use Rattle.hp_tokens.proofs.Stepping.{consumed, reread, text_of_some}
use Rattle.hp_tokens.proofs.steps.read.Given.{Over}
use Rattle.hp_tokens.proofs.steps.read.Goals as goal
use Rattle.hp_tokens.proofs.steps.read.Goals.{in-Consume, in-Again, After-len, then-c-eq13, else-c-eq13, else-state-via-then-state+else-c-eq10, else-state-via-else-state}

flag : (g : Over) (c : After-len g) → not (nat_eq c.len.result c.len-before.result) ≡ not (nat_eq (length c.row.new.tokens) (length c.args.tokens.now))
flag g c = ap (λ (x : ℕ). not (nat_eq x c.len-before.result)) c.len.ensures
    ∙ ap (λ (x : ℕ). not (nat_eq (length c.row.new.tokens) x)) c.len-before.ensures

read_symbol : (g : Over) (c : After-len g) → c.if-c-eq13.symbol ≡ read_as c.args.c
read_symbol g c = elim c.if-c-eq13.branch [ then-c-eq13 w ↦ search rules | else-c-eq13 w ↦ search rules ]

no_line_feed : (g : Over) (c : After-len g) → (c.args.state.now.machine.after_cr && c.args.c == 10) ≡ false
no_line_feed g c = elim c.else-state.branch [ else-state-via-then-state+else-c-eq10 w ↦ search rules | else-state-via-else-state w ↦ search rules ]

follows : (g : Over) (c : After-len g) (reads : Reads) → c.in_ok-row.field-0 ≡ reads
    → Follows (g.T.Table.row_of c.args.state.now.machine (Some (read_as c.args.c))) c.args.tokens.now c.row.new.machine c.row.new.tokens reads
follows g c reads is =
    let P : ℕ → Type 0 = λ x. Follows (g.T.Table.row_of c.args.state.now.machine (Some x)) c.args.tokens.now c.row.new.machine c.row.new.tokens c.in_ok-row.field-0 in
    let Q : Reads → Type 0 = λ x. Follows (g.T.Table.row_of c.args.state.now.machine (Some (read_as c.args.c))) c.args.tokens.now c.row.new.machine c.row.new.tokens x in
    subst Q is (subst P (read_symbol g c) c.in_ok-row.ensures)

pub drop_line_feed-requires-clause-pair : goal.drop_line_feed-requires-clause-pair
drop_line_feed-requires-clause-pair g c =
    ap (λ (o : Option ℕ). pair_next c.args.state.now.machine.after_cr o) c.requires.next
    ∙ and_from _ _ c.if-state.true (eq-eqb c.args.c 10 c.if-c-eq10.true)

pub returns-then-c-eq10-clause-step : goal.returns-then-c-eq10-clause-step
returns-then-c-eq10-clause-step g c = λ next rows. c.drop_line_feed.ensures.dropped next g.T.Table.has_row g.T.Table.row_of c.args.tokens.now rows

pub returns-clause-step : goal.returns-clause-step
returns-clause-step g c = λ next rows rested settled. elim c.match-branch-2.branch [
  | in-Consume w ↦
      let P : Option ℕ → Type 0 = λ o. IfSome o (Takes (record { machine = c.row.new.machine; ahead = c.args.state.now.ahead }) c.args.input.now w.take.new.self w.take.new.input) in
      let takes = subst P (w.take.ensures.value ∙ c.requires.next) w.take.ensures.takes in
      rw (w.state-is, w.input-is)
      (consumed g.T.Table.has_row g.T.Table.row_of next rows c.args.state.now c.args.input.now c.row.new.machine
      (record w.take.new.self { machine = record w.take.new.self.machine { after_cr = c.args.c == 13 } }) w.take.new.input c.args.c rested _ _ _
      c.requires.row (g.met.T.Table.fine c.args.state.now.machine (Some (read_as c.args.c)) c.requires.row) (no_line_feed g c) settled (flag g c)
      (follows g c Consume w.in-Consume.is) (ap (λ (x : Machine). record x { after_cr = c.args.c == 13 }) takes.machine) takes.text takes.place)
  | in-Again w ↦
      let text = text_of_some (unread c.args.state.now c.args.input.now) c.requires.next in
      rw (w.state-is, w.input-is)
      (reread g.T.Table.has_row g.T.Table.row_of next rows c.args.state.now c.args.input.now c.row.new.machine
      (record { machine = c.row.new.machine; ahead = c.args.state.now.ahead }) c.args.input.now c.args.c rested _ _ _
      c.requires.row (g.met.T.Table.fine c.args.state.now.machine (Some (read_as c.args.c)) c.requires.row) (no_line_feed g c) settled (flag g c)
      text.0 (follows g c Again w.in-Again.is) refl text.1 refl refl)
]
