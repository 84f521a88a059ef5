-- The end of a page: what the lexer still has, and the whole tree.
use Rattle.std.proofs.Common.{◌≡◌, ℕ, List, [], ◌++◌, ap, ◌∙◌, sym, subst, append-nil, append_assoc}
use Rattle.hp_elements.specs.declared.token.Token.{Token}
use Rattle.hp_names.specs.References.{Reference}
use Rattle.hp_tokens.specs.Advancing.{Ends, singles, tokens_of}
use Rattle.hp_tokens.specs.Moves.{Lexing, Emitted, Move, needs_more, ends, Rules, move, end_move}
use Rattle.hp_tokens.specs.Runs.{Leads, here, onward, followed_by as more_unread}
use Rattle.hp_control.specs.declared.edit.Edit.{Edit}
use Rattle.hp_control.specs.States.{ControlState}
use Rattle.hp_control.specs.Tree.{Tree, applied_all, document}
use Rattle.hp_lexer.specs.Table.{table}
use Rattle.hp_model.specs.Handling.{handle}
use Rattle.hp_model.specs.Runs.{Parser, rests, goes, EndsWith, last, before_it, step_by}
use Rattle.hp_runs.specs.Pages.{IsTreeOf}
use Rattle.hp_runs.specs.Alike.{Alike, SameMove}
use Rattle.hp_runs.specs.Handling.{left_after, made_after, AreQuiet}
use Rattle.hp_runs.specs.Standing.{HasRead}
use Rattle.hp_runs.proofs.Batches.{at, built-made, made-append, quiet-step, quiet-split}
use Rattle.hp_runs.proofs.Began.{tokens-append}
use Rattle.hp_runs.proofs.Shifting.{end_move-same, move-same}
use Rattle.hp_runs.proofs.Standing.{LeadsSame, leads-same}

-- the moves of the end, of whose tokens none switches the lexer
pub end-goes : (rules : Rules) {l k : Lexing} {es : List Emitted} (c : ControlState) (rest : List Emitted) → Leads (end_move rules) l es k → end_move rules k ≡ ends rest
    → AreQuiet handle c (tokens_of es ++ tokens_of rest) → EndsWith rules (at l c) (made_after handle c (tokens_of es ++ tokens_of rest))
end-goes rules {l} c rest here ended q = subst (EndsWith rules (at l c)) (built-made rest (at l c)) (last ended)
end-goes rules {l} c rest (onward {m = m} {es = es} {fs = fs} made more) ended q =
    let same : tokens_of (es ++ fs) ++ tokens_of rest ≡ tokens_of es ++ (tokens_of fs ++ tokens_of rest) =
    ap (λ (ts : List Token). ts ++ tokens_of rest) (tokens-append es fs) ∙ append_assoc (tokens_of es) (tokens_of fs) (tokens_of rest) in
    let mid : ControlState = left_after handle c (tokens_of es) in
    let parts : AreQuiet handle c (tokens_of es) × AreQuiet handle mid (tokens_of fs ++ tokens_of rest) =
    quiet-split handle c (tokens_of es) (tokens_of fs ++ tokens_of rest) (subst (AreQuiet handle c) same q) in
    let way : EndsWith rules (at l c) (made_after handle c (tokens_of es) ++ made_after handle mid (tokens_of fs ++ tokens_of rest)) =
    before_it (quiet-step l m es c (end_move rules l) made parts.0) (end-goes rules mid rest more ended parts.1) in
    let P : List Token → Type 0 = λ ts. EndsWith rules (at l c) (made_after handle c ts) in
    subst P (sym same) (subst (EndsWith rules (at l c)) (sym (made-append handle c (tokens_of es) (tokens_of fs ++ tokens_of rest))) way)

module _ (names : List Reference) (page : List ℕ) where
  pub ended-on : (l l2 : Lexing) (c : ControlState) (es : List Edit) (tokens : List Token) → HasRead names page l [] c es → move (table names) l ≡ needs_more
      → Ends (table names) l2 [] tokens → Alike l l2 → AreQuiet handle c (singles tokens)
      → (tree : Tree) → tree ≡ applied_all document (es ++ made_after handle c (singles tokens)) → IsTreeOf names page tree
  ended-on l l2 c es tokens h needs end a q tree is = record {
    read = at h.at c;
    edits = es;
    at_end = made_after handle c (singles tokens);
    runs = record { goes = h.goes; rests = record { no_step = λ p fs e. none p fs (sym (ap (step_by (at h.at c)) no_move) ∙ e) } };
    ends = subst (λ (ts : List Token). EndsWith (table names) (at h.at c) (made_after handle c ts)) all (end-goes (table names) c last_tokens.0 there.leads last_tokens.1 (subst (AreQuiet handle c) (sym all) q));
    builds = is;
  }
    where
      none : (p : Parser) (fs : List Edit) → rests ≡ goes p fs → ⊥
      none p fs e = cc

      no_move : move (table names) h.at ≡ needs_more
      no_move =
          let is_same : more_unread l [] ≡ l = ap (λ (u : List ℕ). record l { unread = u }) (append-nil l.unread) in
          let now : move (table names) (more_unread l []) ≡ needs_more = ap (move (table names)) is_same ∙ needs in
          subst (λ (x : Move). SameMove x (move (table names) h.at)) now (move-same names (more_unread l []) h.at h.alike)

      there : LeadsSame (end_move (table names)) end.mid h.at end.first
      there = leads-same (end_move (table names)) (end_move-same names) h.at end.leads
          (record { machine = sym a.machine ∙ h.alike.machine; unread = sym a.unread ∙ (sym (append-nil l.unread) ∙ h.alike.unread) })

      last_tokens : SameMove (ends end.rest) (end_move (table names) there.to)
      last_tokens = subst (λ (x : Move). SameMove x (end_move (table names) there.to)) end.ended (end_move-same names end.mid there.to there.alike)

      all : tokens_of there.emits ++ tokens_of last_tokens.0 ≡ singles tokens
      all =
          ap (λ (ts : List Token). ts ++ tokens_of last_tokens.0) there.tokens
          ∙ (ap (λ (ts : List Token). tokens_of end.first ++ ts) last_tokens.2
          ∙ (sym (tokens-append end.first end.rest) ∙ (sym end.appends.spelled ∙ ap singles (sym end.appends.appended))))
