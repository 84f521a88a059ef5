use Rattle.std.proofs.Common.{◌≡◌, ℕ, List, ◌∷◌, ◌∙◌, ◌&&◌, ap, sym, subst, not, nat_eq, length, Some, Option, refl, eq-eqb, false, rules}
use Rattle.std.specs.Prelude.{◌==◌, IfSome}
use Rattle.std.proofs.lemmas.Bool.{and_from}
use Rattle.hp_tokens.specs.declared.machine.Machine.{Machine}
use Rattle.hp_tokens.specs.declared.lexing.LexState.{LexState}
use Rattle.hp_tokens.specs.declared.rows.Reads.{Reads}
use Rattle.hp_tokens.specs.declared.rows.Reads.TheVariants.{Consume, Again}
use Rattle.hp_tokens.specs.Rows.{Follows}
use Rattle.hp_tokens.specs.Moves.{read_as, move}
use Rattle.hp_tokens.specs.Reading.{Unread}
use Rattle.hp_tokens.specs.Advancing.{Takes, unread, place_of, pair_next}
use Rattle.hp_tokens.proofs.Stepping.{text_of_some}
use Rattle.hp_lex_raw.specs.Rows.{row}
use Rattle.hp_lex_raw.specs.Raw.{asks, raw_rules}
use Rattle.hp_lex_raw.proofs.Reading.{pairs, consumed, reread, never_ends}
use Rattle.hp_lex_raw.proofs.raw.read_one.Goals as goal
use Rattle.hp_lex_raw.proofs.raw.read_one.Goals.{in-Consume, in-Again, After-len, else-state-via-then-state+else-c-eq10, else-state-via-else-state}

pub drop_line_feed-requires-clause-pair : goal.drop_line_feed-requires-clause-pair
drop_line_feed-requires-clause-pair c =
    ap (λ (o : Option ℕ). pair_next c.args.state.now.machine.after_cr o) (sym c.in-Some.ensures)
    ∙ and_from _ _ c.if-state.true (eq-eqb c.in-Some.c 10 c.if-c-eq10.true)

pub returns-then-c-eq10-clause-step : goal.returns-then-c-eq10-clause-step
returns-then-c-eq10-clause-step c = c.drop_line_feed.ensures.dropped (move raw_rules) _ _ c.args.tokens.now pairs

pub unreachable-requires : goal.unreachable-requires
unreachable-requires c =
    let P : Reads → Type 0 = λ x. Follows (row c.args.state.now.machine (Some c.read_as.result)) c.args.tokens.now c.row.new.machine c.row.new.tokens x in
    never_ends c.args.state.now.machine c.read_as.result c.args.tokens.now c.row.new.machine c.row.new.tokens c.requires.here (subst P c.in-End.is c.in_ok-row.ensures)

not_asked : (c : After-len) → asks c.args.state.now.machine c.in-Some.c ≡ false
not_asked c = sym c.asks.ensures ∙ c.if-asks.false

no_line_feed : (c : After-len) → (c.args.state.now.machine.after_cr && c.in-Some.c == 10) ≡ false
no_line_feed c = elim c.else-state.branch [ else-state-via-then-state+else-c-eq10 w ↦ search rules | else-state-via-else-state w ↦ search rules ]

flag : (c : After-len) → not (nat_eq c.len.result c.len-before.result) ≡ not (nat_eq (length c.row.new.tokens) (length c.args.tokens.now))
flag c = ap (λ (x : ℕ). not (nat_eq x c.len-before.result)) c.len.ensures
    ∙ ap (λ (x : ℕ). not (nat_eq (length c.row.new.tokens) x)) c.len-before.ensures

follows : (c : After-len) (reads : Reads) → c.in_ok-row.field-0 ≡ reads
    → Follows (row c.args.state.now.machine (Some (read_as c.in-Some.c))) c.args.tokens.now c.row.new.machine c.row.new.tokens reads
follows c reads is =
    let P : ℕ → Type 0 = λ x. Follows (row c.args.state.now.machine (Some x)) c.args.tokens.now c.row.new.machine c.row.new.tokens c.in_ok-row.field-0 in
    let Q : Reads → Type 0 = λ x. Follows (row c.args.state.now.machine (Some (read_as c.in-Some.c))) c.args.tokens.now c.row.new.machine c.row.new.tokens x in
    subst Q is (subst P c.read_as.ensures c.in_ok-row.ensures)

joined : (s t : LexState) (i j : Unread) → s.ahead ≡ t.ahead → i ≡ j → (unread s i ≡ unread t j) × (place_of s i ≡ place_of t j)
joined s t i j ahead same = (rw (ahead, same) refl, rw (ahead, same) refl)

flagged : (x c : ℕ) (m mid new : Machine) (given : ℕ) → new ≡ record m { after_cr = c == given } → given ≡ x → m ≡ mid → new ≡ record mid { after_cr = c == x }
flagged x c m mid new given e same is =
    e ∙ (ap (λ (k : ℕ). record m { after_cr = c == k }) same ∙ ap (λ (n : Machine). record n { after_cr = c == x }) is)

pub returns-clause-step : goal.returns-clause-step
returns-clause-step c = λ rested settled. elim c.match-branch-2.branch [
  | in-Consume w ↦
      let P : Option ℕ → Type 0 = λ o. IfSome o (Takes (record { machine = c.row.new.machine; ahead = c.args.state.now.ahead }) c.args.input.now w.take.new.self w.take.new.input) in
      let takes = subst P (w.take.ensures.value ∙ sym c.in-Some.ensures) w.take.ensures.takes in
      let at = joined c.match-branch-2.state w.take.new.self c.match-branch-2.input w.take.new.input (ap (λ (s : LexState). s.ahead) w.state-is) w.input-is in
      consumed c.args.state.now c.args.input.now c.row.new.machine c.match-branch-2.state c.match-branch-2.input c.in-Some.c rested _ _ _
      c.requires.here (not_asked c) (no_line_feed c) settled (flag c)
      (follows c Consume w.in-Consume.is)
      (flagged 13 c.in-Some.c w.take.new.self.machine c.row.new.machine c.match-branch-2.state.machine _ (ap (λ (s : LexState). s.machine) w.state-is) refl takes.machine)
      (takes.text ∙ ap (λ (xs : List ℕ). c.in-Some.c ∷ xs) (sym at.0)) (at.1 ∙ takes.place)
  | in-Again w ↦
      let text = text_of_some (unread c.args.state.now c.args.input.now) (sym c.in-Some.ensures) in
      rw (w.state-is, w.input-is)
      (reread c.args.state.now c.args.input.now c.row.new.machine
      (record { machine = c.row.new.machine; ahead = c.args.state.now.ahead }) c.args.input.now c.in-Some.c rested _ _ _
      c.requires.here (not_asked c) (no_line_feed c) settled (flag c)
      text.0 (follows c Again w.in-Again.is) refl text.1 refl refl)
]
