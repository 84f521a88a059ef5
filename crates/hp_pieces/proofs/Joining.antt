-- Runs over parts of a page, one after the other, are the run over the page.
use Rattle.std.proofs.Common.{◌≡◌, ℕ, List, ◌++◌, refl, ap, ◌∙◌, sym, subst}
use Rattle.hp_names.specs.BuiltIn.{built_in}
use Rattle.hp_names.specs.References.{Reference}
use Rattle.hp_tokens.specs.declared.lexing.LexState.{LexState}
use Rattle.hp_tokens.specs.declared.machine.Machine.{Machine}
use Rattle.hp_control.specs.States.{ControlState, IsValid, lex_start, start}
use Rattle.hp_control.specs.Tree.{applied_all, document}
use Rattle.hp_control.specs.declared.edit.Edit.{Edit}
use Rattle.hp_groves.specs.Joining.{JoinTexts, Same, Back, Through}
use Rattle.hp_groves.proofs.Joined.{joined-make_same, one_by_one-join}
use Rattle.hp_lexer.proofs.Steady.{table_steady}
use Rattle.hp_lexer.specs.Table.{table}
use Rattle.hp_model.proofs.HandlingApart.{goes-leave}
use Rattle.hp_model.proofs.Running.{one_run, runs-join}
use Rattle.hp_model.specs.Runs.{Parser, followed_by}
use Rattle.hp_runs.proofs.Existing.{run_exists}
use Rattle.hp_runs.specs.Pages.{IsTreeOf}
use Rattle.hp_pieces.specs.Running.{Ends, Leads, parser_in, state_at}
use Rattle.hp_pieces.proofs.FitRuns.{exit_valid}
use Rattle.hp_pieces.proofs.SameRuns.{AlikeParsers, end-same, run-same}

-- a parser, and the one that begins in the state where it stands
stands-same : (there : Parser) → there.control.lex ≡ lex_start → AlikeParsers (parser_in (state_at there)) there
stands-same there e = record { lexing = record { machine = refl; unread = refl }; control = ap (λ (l : LexState). record there.control { lex = l }) (sym e) }

pub begins-same : (names : List Reference) {text : List ℕ} {s t : ControlState} {es : List Edit} (run : Leads names text s es t) → AlikeParsers (parser_in t) run.there
begins-same names run =
    let P : ControlState → Type 0 = λ x. AlikeParsers (parser_in x) run.there in
    subst P (sym run.reaches) (stands-same run.there (goes-leave (table names) run.run.goes))

followed-same : (p q : Parser) (text : List ℕ) → AlikeParsers p q → AlikeParsers (followed_by p text) (followed_by q text)
followed-same p q text a = record { lexing = record { machine = a.lexing.machine; unread = ap (λ (u : List ℕ). u ++ text) a.lexing.unread }; control = a.control }

state-same : (p q : Parser) → AlikeParsers p q → state_at p ≡ state_at q
state-same p q a =
    ap (λ (c : ControlState). record c { lex = record { machine = p.lexing.machine; ahead = p.lexing.unread } }) a.control
    ∙ (ap (λ (m : Machine). record q.control { lex = record { machine = m; ahead = p.lexing.unread } }) a.lexing.machine
    ∙ ap (λ (u : List ℕ). record q.control { lex = record { machine = q.lexing.machine; ahead = u } }) a.lexing.unread)

pub leads_join : (names : List Reference) (a b : List ℕ) (s m t : ControlState) (es fs : List Edit) → Leads names a s es m → Leads names b m fs t → Leads names (a ++ b) s (es ++ fs) t
leads_join names a b s m t es fs first second =
    let there = run-same names (followed_by (parser_in m) b) (followed_by first.there b) second.there second.made (followed-same (parser_in m) first.there b (begins-same names first)) second.run in record {
      made = first.made ++ second.made;
      there = there.0;
      run = runs-join (table names) (table_steady names) (parser_in s) first.there there.0 a b first.made second.made first.run there.1;
      reaches = second.reaches ∙ state-same second.there there.0 there.2;
      same = one_by_one-join es first.made fs second.made first.same second.same;
    }

pub leads_once : (names : List Reference) (text : List ℕ) (s t u : ControlState) (es fs : List Edit) → Leads names text s es t → Leads names text s fs u → (t ≡ u) × JoinTexts es fs
leads_once names text s t u es fs first second =
    let one = one_run (table names) (parser_in s) first.there second.there text first.made second.made first.run second.run in
    (first.reaches ∙ (ap state_at one.1 ∙ sym second.reaches), Through es first.made fs first.same (Back fs first.made (subst (JoinTexts fs) (sym one.0) second.same)))

pub leads_valid : (text : List ℕ) (s t : ControlState) (es : List Edit) → Leads built_in text s es t → IsValid s → IsValid t
leads_valid text s t es run v = subst IsValid (sym run.reaches) (exit_valid s text run.made run.there run.run v)

pub leads_exist : (names : List Reference) (text : List ℕ) (s : ControlState) → (es : List Edit) × (t : ControlState) × Leads names text s es t
leads_exist names text s =
    let there = run_exists names (parser_in s) text in
    (there.0, state_at there.1, record { made = there.0; there = there.1; run = there.2; reaches = refl; same = Same there.0 })

pub page_built : (names : List Reference) (page : List ℕ) (t : ControlState) (es fs : List Edit) → Leads names page start es t → Ends names t fs → IsTreeOf names page (applied_all document (es ++ fs))
page_built names page t es fs run end = record {
  read = run.there;
  edits = run.made;
  at_end = end.made;
  runs = run.run;
  ends = end-same names run.there end.ends (begins-same names run);
  builds = joined-make_same (es ++ fs) (run.made ++ end.made) (one_by_one-join es run.made fs end.made run.same end.same) document;
}
