-- The tokens of the end of input, handled one behind the other, are the end of the run.
use Rattle.std.proofs.Common.{◌≡◌, List, [], ◌++◌, true, ap, ◌∙◌, sym, subst, append_assoc}
use Rattle.hp_elements.specs.declared.token.Token.{Token}
use Rattle.hp_names.specs.References.{Reference}
use Rattle.hp_tokens.specs.Advancing.{AreRuns, Ends as EndsText, singles, tokens_of}
use Rattle.hp_tokens.specs.Moves.{Lexing, Emitted, makes, ends, end_move}
use Rattle.hp_tokens.specs.Runs.{Leads, here, onward}
use Rattle.hp_control.specs.States.{ControlState, may_be_ahead}
use Rattle.hp_lexer.specs.Table.{table}
use Rattle.hp_model.specs.Handling.{handle}
use Rattle.hp_model.specs.Runs.{AreRead, EndsWith, last, before_it}
use Rattle.hp_runs.specs.Tokens.{AllRead}
use Rattle.hp_runs.specs.Handling.{AreQuiet, left_after, made_after}
use Rattle.hp_runs.proofs.Batches.{at, built-made, made-append, quiet-step}
use Rattle.hp_runs.proofs.Began.{tokens-append}
use Rattle.hp_runs.proofs.Quiet.{characters-quiet}
use Rattle.hp_runs.proofs.Together.{runs-read, read-join}
use Rattle.hp_pieces.proofs.Ahead.{ahead-none, has_none}
use Rattle.hp_pieces.proofs.LastMoves.{Last, end_move-last}

module _ (names : List Reference) where
  leads-read : {l k : Lexing} {es : List Emitted} → Leads (end_move (table names)) l es k → AreRead es
  leads-read here = tt
  leads-read {l} (onward {m = m} {es = es} {fs = fs} made rest) =
      let now : Last l.unread (makes m es) = subst (Last l.unread) made (end_move-last names l) in
      read-join es fs now.0 (leads-read rest)

  -- the tokens are as the lexer reads them
  pub end-read : (l : Lexing) (tokens : List Token) → EndsText (table names) l [] tokens → AllRead tokens
  end-read l tokens end =
      subst AllRead (sym end.appends.appended)
      (runs-read (end.first ++ end.rest) end.appends.more end.appends.spelled (read-join end.first end.rest (leads-read end.leads) (subst (Last end.mid.unread) end.ended (end_move-last names end.mid))))

  pub end-runs : (l : Lexing) (tokens : List Token) → EndsText (table names) l [] tokens → AreRuns tokens
  end-runs l tokens end = subst AreRuns (sym end.appends.appended) end.appends.runs

  -- Before the last move characters alone are emitted, which call for nothing; behind it nothing is read.
  end-goes : {l k : Lexing} {es : List Emitted} (c : ControlState) (rest : List Emitted) → has_none l.unread ≡ true → Leads (end_move (table names)) l es k → end_move (table names) k ≡ ends rest
      → EndsWith (table names) (at l c) (made_after handle c (tokens_of es ++ tokens_of rest))
  end-goes {l} c rest none here ended = subst (EndsWith (table names) (at l c)) (built-made rest (at l c)) (last ended)
  end-goes {l} c rest none (onward {m = m} {es = es} {fs = fs} made more) ended =
      let now : Last l.unread (makes m es) = subst (Last l.unread) made (end_move-last names l) in
      let quiet : AreQuiet handle c (tokens_of es) = characters-quiet (tokens_of es) c (now.1 none).1 in
      let same : tokens_of (es ++ fs) ++ tokens_of rest ≡ tokens_of es ++ (tokens_of fs ++ tokens_of rest) =
      ap (λ (ts : List Token). ts ++ tokens_of rest) (tokens-append es fs) ∙ append_assoc (tokens_of es) (tokens_of fs) (tokens_of rest) in
      let mid : ControlState = left_after handle c (tokens_of es) in
      let way : EndsWith (table names) (at l c) (made_after handle c (tokens_of es) ++ made_after handle mid (tokens_of fs ++ tokens_of rest)) =
      before_it (quiet-step l m es c (end_move (table names) l) made quiet) (end-goes mid rest (now.1 none).0 more ended) in
      let P : List Token → Type 0 = λ ts. EndsWith (table names) (at l c) (made_after handle c ts) in
      subst P (sym same) (subst (EndsWith (table names) (at l c)) (sym (made-append handle c (tokens_of es) (tokens_of fs ++ tokens_of rest))) way)

  pub end-handled : (l : Lexing) (c : ControlState) (tokens : List Token) → may_be_ahead l.machine.state l.unread ≡ true → EndsText (table names) l [] tokens
      → EndsWith (table names) (record { lexing = l; control = c }) (made_after handle c (singles tokens))
  end-handled l c tokens ahead end = subst (λ (ts : List Token). EndsWith (table names) (at l c) (made_after handle c ts)) all (end-goes c end.rest (ahead-none l.machine.state l.unread ahead) end.leads end.ended)
    where
      all : tokens_of end.first ++ tokens_of end.rest ≡ singles tokens
      all = sym (tokens-append end.first end.rest) ∙ (sym end.appends.spelled ∙ ap singles (sym end.appends.appended))
