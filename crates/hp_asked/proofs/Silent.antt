-- Moves that emit nothing, before others.
use Rattle.std.proofs.Common.{◌≡◌, List, [], ◌∷◌, ◌++◌, refl, sym, subst}
use Rattle.hp_names.specs.References.{Reference}
use Rattle.hp_tokens.specs.Advancing.{tokens_of}
use Rattle.hp_tokens.specs.Moves.{Emitted, Lexing, Move, move}
use Rattle.hp_control.specs.declared.question.Question.{Question}
use Rattle.hp_control.specs.States.{ControlState}
use Rattle.hp_lexer.specs.Table.{table}
use Rattle.hp_runs.specs.Closing.{AreCharacters, LeadsOn, last, onward as leads_on, stays}
use Rattle.hp_asked.specs.Laws.{RightSilence}
use Rattle.hp_asked.specs.Seeking.{Asks, Seeker, at, name, nothing, onward, section, tokens}

none-in : (xs ys : List Emitted) → xs ++ ys ≡ [] → (xs ≡ []) × (ys ≡ [])
none-in [] ys e = (refl, e)
none-in (x ∷ xs) ys e = absurd (cc)

pub silent-on : {next : Lexing → Move} {l m k : Lexing} {es fs : List Emitted} → LeadsOn next l es m → es ≡ [] → LeadsOn next m fs k → LeadsOn next l fs k
silent-on {next} {l} {m} {k} {es} {fs} stays none more = more
silent-on {next} {l} {m} {k} {es} {fs} (last made) none more =
    let characters : AreCharacters (tokens_of es) = subst (λ (xs : List Emitted). AreCharacters (tokens_of xs)) (sym none) tt in
    subst (λ (xs : List Emitted). LeadsOn next l (xs ++ fs) k) none (leads_on made characters more)
silent-on {next} {l} {m} {k} {es} {fs} (leads_on {es = xs} {fs = ys} made characters rest) none more =
    let both = none-in xs ys none in
    subst (λ (zs : List Emitted). LeadsOn next l (zs ++ fs) k) both.0 (leads_on made characters (silent-on rest both.1 more))

silent-asks : (names : List Reference) (s : ControlState) {k : Seeker} {l : Lexing} {qs : List Question} → LeadsOn (move (table names)) k.lexing [] l → Asks names s (at l k) qs → Asks names s k qs
silent-asks names s still nothing = nothing
silent-asks names s still (tokens {ts = ts} leads spells) = tokens {ts = ts} (silent-on still refl leads) spells
silent-asks names s still (onward {ts = ts} leads spells ends more) = onward {ts = ts} (silent-on still refl leads) spells ends more
silent-asks names s still (section {is_foreign = is_foreign} leads asks ends more) = section {is_foreign = is_foreign} (silent-on still refl leads) asks ends more
silent-asks names s still (name leads asks more) = name (silent-on still refl leads) asks more

pub right-silence : RightSilence
right-silence names says s k l still right = λ qs asks. right qs (silent-asks names s {k = k} {l = l} still asks)
