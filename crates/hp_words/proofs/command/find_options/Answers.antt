use Rattle.std.proofs.Common.{◌≡◌, ◌≢◌, ◌∙◌, ap, sym, subst, refl, List, [], ◌∷◌, None, Some, true, inl, inr}
use Rattle.clap.specs.Words.{App, HasMatchesOf, Row, Text, fault_of, found_of, is_simple, is_simple_and_free, matches_of, rows_of, kind_of}
use Rattle.clap.specs.Kinds.{IsAmong, Kinds, HasKind}
use Rattle.clap.specs.declared.error.Error.{Error}
use Rattle.clap.specs.declared.error.kind.ErrorKind.{ErrorKind}
use Rattle.clap.specs.declared.error.kind.ErrorKind.TheVariants.{OutOfMemory}
use Rattle.clap.specs.declared.parser.matches.ArgMatches.{ArgMatches}
use Rattle.hp_words.specs.Command.{app}
use Rattle.hp_words.specs.Options.{found, options_in, where_faultless}
use Rattle.hp_words.proofs.command.find_options.Goals as goal

app_is_simple : is_simple_and_free app ≡ true
unfolding app
app_is_simple = refl

app_is_plain : is_simple app ≡ true
unfolding app
app_is_plain = refl

-- where clap took the words
found_where_ok : (a : App) (words : List Text) (m : ArgMatches) → a ≡ app → HasMatchesOf a words m → (is_simple_and_free a ≡ true → fault_of a words ≡ []) → Some (options_in (rows_of (found_of m))) ≡ found words
unfolding found
found_where_ok a words m is matches kinds =
    let whole : HasMatchesOf app words m = subst (λ (b : App). HasMatchesOf b words m) is matches in
    let faultless : is_simple_and_free app ≡ true → fault_of app words ≡ [] = subst (λ (b : App). is_simple_and_free b ≡ true → fault_of b words ≡ []) is kinds in
    let rows : rows_of (found_of m) ≡ matches_of app words = (whole app_is_plain).0 in
    ap (λ found. Some (options_in found)) rows ∙ ap (λ (faults : Kinds). where_faultless faults (matches_of app words)) (sym (faultless app_is_simple))

none_where_among : (faults : Kinds) (rows : List Row) (k : ErrorKind) → IsAmong k faults → None ≡ where_faultless faults rows
none_where_among [] rows k among = absurd among
none_where_among (_ ∷ _) rows k among = refl

among_where_other : (faults : Kinds) (e : Error) → HasKind faults e → kind_of e ≢ OutOfMemory → IsAmong (kind_of e) faults
among_where_other faults e (inl memory) other = absurd (other memory)
among_where_other faults e (inr among) other = among

-- where clap refused them
found_where_err : (a : App) (words : List Text) (e : Error) → a ≡ app → (is_simple_and_free a ≡ true → HasKind (fault_of a words) e) → kind_of e ≢ OutOfMemory → None ≡ found words
unfolding found
found_where_err a words e is kinds other =
    let told : is_simple_and_free app ≡ true → HasKind (fault_of app words) e = subst (λ (b : App). is_simple_and_free b ≡ true → HasKind (fault_of b words) e) is kinds in
    none_where_among (fault_of app words) (matches_of app words) (kind_of e) (among_where_other _ e (told app_is_simple) other)

pub returns-in-Ok : goal.returns-in-Ok
returns-in-Ok c =
    let is = c.in_ok-command.ensures in
    ap Some c.options_found.ensures ∙ found_where_ok _ _ _ is c.in-Ok.ensures.matches c.in-Ok.ensures.kinds

pub returns : goal.returns
returns c = found_where_err _ _ c.in-Err.error c.in_ok-command.ensures c.in-Err.ensures.kinds (λ is. c.in_default.not-OutOfMemory (c.kind.ensures ∙ is))
