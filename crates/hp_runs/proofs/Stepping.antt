-- What a step of the lexer in code tells of its tokens and of its moves.
use Rattle.std.proofs.Common.{◌≡◌, ℕ, List, [], ◌∷◌, true, false, refl, ap, ◌∙◌, sym, subst}
use Rattle.hp_elements.specs.declared.token.Token.{Token}
use Rattle.hp_names.specs.References.{Reference}
use Rattle.hp_tokens.specs.Advancing.{Advances, AreRuns, Says, singles}
use Rattle.hp_tokens.specs.Moves.{Lexing, Emitted, move}
use Rattle.hp_tokens.specs.Reading.{Unread}
use Rattle.hp_tokens.specs.Runs.{Leads}
use Rattle.hp_lexer.specs.declared.lexer.Lexer.{Lexer}
use Rattle.hp_lexer.specs.declared.lexer.Step.{Step}
use Rattle.hp_lexer.specs.declared.lexer.Step.TheVariants as steps
use Rattle.hp_lexer.specs.Standing.{Stepped}
use Rattle.hp_lexer.specs.Table.{table}
use Rattle.hp_runs.proofs.TableRows.{table_read}
use Rattle.hp_runs.specs.Tokens.{AllRead}
use Rattle.hp_runs.proofs.Together.{leads-read, runs-read}

-- what a step is
pub told-step : (old : Lexer) (old_input : Unread) (new : Lexer) (new_input : Unread) (step other : Step) → step ≡ other → Stepped old old_input new new_input step → Stepped old old_input new new_input other
told-step old old_input new new_input step other is h = subst (Stepped old old_input new new_input) is h

-- the tokens of a step are read ones, and runs
pub stepped-read : (old : Lexer) (old_input : Unread) (new : Lexer) (new_input : Unread) (began : ℕ) (tokens : List Token) → Stepped old old_input new new_input (steps.Tokens began tokens) → AllRead tokens × AreRuns tokens
stepped-read old old_input new new_input began tokens s =
    let a = s.0 in (
      runs-read a.es tokens (ap singles a.appends.appended ∙ a.appends.spelled) (leads-read (table_read old.names) a.leads),
      subst AreRuns (sym a.appends.appended) a.appends.runs,
    )

-- moves that emit nothing
none-emitted : (es : List Emitted) → Says es false → es ≡ []
none-emitted [] h = refl
none-emitted (e ∷ es) h = let no : true ≡ false = sym h in cc

pub silent-moves : (names other : List Reference) {l k : Lexing} {rested : ℕ} → Advances (table other) l [] k [] rested false → other ≡ names → Leads (move (table names)) l [] k
silent-moves names other {l} {k} a e =
    subst (λ (n : List Reference). Leads (move (table n)) l [] k) e (subst (λ (es : List Emitted). Leads (move (table other)) l es k) (none-emitted a.es a.says) a.leads)
