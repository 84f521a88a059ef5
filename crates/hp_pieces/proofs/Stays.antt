-- States that wait, and that a sound guess is a run, of whose edits the inner ones may be made first.
use Rattle.std.proofs.Common.{◌≡◌, ℕ, zero, suc, ◌<◌, Bool, true, false, List, [], cond, map, take, refl, ap, ◌∙◌, sym, subst, arith, length, append-nil}
use Rattle.std.specs.Prelude.{◌==◌}
use Rattle.std.specs.Str.{chars}
use Rattle.std.proofs.lemmas.Bool.{both_ways, eq-eqb, eqb-true}
use Rattle.std.proofs.lemmas.Str.{chars-nil}
use Rattle.hp_names.specs.BuiltIn.{built_in}
use Rattle.hp_names.specs.References.{Reference}
use Rattle.hp_tokens.specs.Moves.{Move, move, needs_more}
use Rattle.hp_control.specs.declared.edit.Edit.{Edit}
use Rattle.hp_control.specs.Apply.{applied, named_edit}
use Rattle.hp_control.specs.States.{ControlState, IsValid}
use Rattle.hp_control.specs.Tree.{Tree, applied_all}
use Rattle.hp_groves.specs.Grafts.{graft}
use Rattle.hp_groves.specs.Joining.{Same}
use Rattle.hp_groves.specs.Laws.{HasOnlyWhatIsThere}
use Rattle.hp_groves.specs.Naming.{own_outer}
use Rattle.hp_groves.specs.Split.{name_what_is_there}
use Rattle.hp_groves.proofs.Fragments.{own-makes_same}
use Rattle.hp_lexer.specs.Table.{table}
use Rattle.hp_model.specs.Runs.{Goes, Parser, Rests, at_lexing, followed_by, goes, here, rests, step, step_by}
use Rattle.hp_runs.specs.Alike.{SameMove}
use Rattle.hp_runs.proofs.Shifting.{move-same}
use Rattle.hp_pieces.specs.Growth.{Grows}
use Rattle.hp_pieces.specs.Guesses.{Guessed, covered_text}
use Rattle.hp_pieces.specs.Laws.{GuessGrows}
use Rattle.hp_pieces.specs.Running.{Leads, parser_in}
use Rattle.hp_pieces.specs.Waiting.{Waits}
use Rattle.hp_pieces.proofs.FitRuns.{rests_for_more}
use Rattle.hp_pieces.proofs.Joining.{begins-same}
use Rattle.hp_pieces.proofs.SameRuns.{AlikeParsers, turned}

pub runs_wait : (text : List ℕ) (s t : ControlState) (es : List Edit) → Leads built_in text s es t → IsValid s → Waits built_in t
runs_wait text s t es run v =
    let a : AlikeParsers run.there (parser_in t) = turned (parser_in t) run.there (begins-same built_in run) in
    subst (λ (m : Move). SameMove m (move (table built_in) (parser_in t).lexing)) (rests_for_more text s run.there run.made v run.run)
    (move-same built_in run.there.lexing (parser_in t).lexing a.lexing)

followed-nil : (p : Parser) → followed_by p [] ≡ p
followed-nil p = ap (λ (u : List ℕ). at_lexing p (record p.lexing { unread = u })) (append-nil p.lexing.unread)

no-step : (names : List Reference) (p : Parser) → move (table names) p.lexing ≡ needs_more → Rests (step (table names)) p
no-step names p w = record { no_step = λ q es e. none q es (sym (ap (step_by p) w) ∙ e) }
  where
    none : (q : Parser) (es : List Edit) → rests ≡ goes q es → ⊥
    none q es h = cc

pub waiting_stays : (names : List Reference) (s : ControlState) → Waits names s → Leads names [] s [] s
waiting_stays names s w = record {
  made = [];
  there = parser_in s;
  run = record {
    goes = subst (λ (p : Parser). Goes (step (table names)) p [] (parser_in s)) (sym (followed-nil (parser_in s))) here;
    rests = no-step names (parser_in s) w;
  };
  reaches = refl;
  same = Same [];
}

-- a guess over a state, where it is told whether it covers nothing
record GrowsWhere (f : Guessed) (s : ControlState) (nothing : Bool) : Type 0 where
  edits : List Edit
  leads : Leads f.names (covered_text f) s edits (cond nothing s (applied f.change s))
  makes : (t : Tree) → HasOnlyWhatIsThere t → length t ≡ s.next → name_what_is_there s.next edits ≡ true
      → applied_all t edits ≡ cond nothing t (applied_all (graft t f.grove) (map (named_edit s) f.outer))

positive : (n : ℕ) → (n == 0) ≡ false → 0 < n
positive zero e = absurd (both_ways (0 == 0) e (eq-eqb 0 0 refl))
positive (suc n) e = omega arith

covers-nothing : (f : Guessed) (s : ControlState) → f.covered ≡ 0 → Waits f.names s → GrowsWhere f s true
covers-nothing f s e waits =
    let none : chars (take f.covered f.text) ≡ [] = ap (λ (n : ℕ). chars (take n f.text)) e ∙ chars-nil in
    record {
      edits = [];
      leads = subst (λ (text : List ℕ). Leads f.names text s [] s) (sym none) (waiting_stays f.names s waits);
      makes = λ t there long names. refl;
    }

covers-some : (f : Guessed) (s : ControlState) → Grows f.names (covered_text f) s f.grove f.outer (applied f.change s) → GrowsWhere f s false
covers-some f s g = record {
  edits = map (named_edit s) g.edits;
  leads = g.leads;
  makes = λ t there long names.
      own-makes_same t s g.edits there long names g.below
      ∙ ap (λ (grove : Tree). applied_all (graft t grove) (map (named_edit s) (own_outer g.edits))) (sym g.inner)
      ∙ ap (λ (outer : List Edit). applied_all (graft t f.grove) (map (named_edit s) outer)) (sym g.others);
}

pub guess_grows : GuessGrows
guess_grows f s sound stand holds = let g : GrowsWhere f s (f.covered == 0) = by (f.covered == 0) refl in record { edits = g.edits; leads = g.leads; makes = g.makes }
  where
    by : (b : Bool) → (f.covered == 0) ≡ b → GrowsWhere f s b
    by true e = covers-nothing f s (eqb-true f.covered 0 e) stand.waits
    by false e = covers-some f s (sound.sound s stand.valid stand.fits holds (positive f.covered e))
