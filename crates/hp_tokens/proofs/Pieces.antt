-- A run over a text doesn't depend on its pieces.
use Rattle.std.proofs.Common.{◌≡◌, ℕ, List, [], ◌∷◌, ◌++◌, Bool, true, false, cond, refl, ap, ◌∙◌, sym, subst, append-nil, append_assoc, Option, Some}
use Rattle.std.specs.Prelude.{◌==◌, ◌&&◌}
use Rattle.std.specs.List.{concat}
use Rattle.hp_tokens.specs.declared.machine.Machine.{Machine}
use Rattle.hp_tokens.specs.declared.rows.Reads.{Reads}
use Rattle.hp_tokens.specs.declared.rows.Reads.TheVariants.{Consume, Again, End}
use Rattle.hp_tokens.specs.Rows.{Row}
use Rattle.hp_tokens.specs.Moves.{Lexing, Emitted, Move, makes, Rules, after_row, row_move, move_on, move, read_as}
use Rattle.hp_tokens.specs.Runs.{Leads, here, onward, Waits, RunsTo, followed_by, RunsOver, Stays, IsSteady, AnyPiecesAnyRules, IsWithin}

-- a row reads one code point: what follows doesn't matter
pub after_row-stays : (r : Row) (l : Lexing) (c : ℕ) (cs text : List ℕ) (reads : Reads)
    → Stays (after_row r l c cs reads) (after_row r (followed_by l text) c (cs ++ text) reads) text
after_row-stays r l c cs text Consume = refl
after_row-stays r l c cs text Again = refl
after_row-stays r l c cs text End = tt

pub row-stays : (row : Machine → Option ℕ → Row) (l : Lexing) (c : ℕ) (cs text : List ℕ)
    → Stays (row_move row l c cs) (row_move row (followed_by l text) c (cs ++ text)) text
row-stays row l c cs text = let r : Row = row l.machine (Some (read_as c)) in after_row-stays r l c cs text r.reads

either_stays : (b : Bool) (a a' x x' : Move) (text : List ℕ) → Stays a a' text → Stays x x' text → Stays (cond b a x) (cond b a' x') text
either_stays true a a' x x' text h k = h
either_stays false a a' x x' text h k = k

module _ (rules : Rules) where
  module _ (steady : IsSteady rules) where
    on-stays : (l : Lexing) (u text : List ℕ) → Stays (move_on rules l u) (move_on rules (followed_by l text) (u ++ text)) text
    on-stays l [] text = tt
    on-stays l (c ∷ cs) text = either_stays (l.machine.after_cr && c == 10) _ _ _ _ text refl (steady.stays l c cs text)

    pub move-stays : (l : Lexing) (text : List ℕ) → Stays (move rules l) (move rules (followed_by l text)) text
    move-stays l text = on-stays l l.unread text

    -- moves lead to the same place when more text follows
    pub Leads-followed : {l k : Lexing} {es : List Emitted} (text : List ℕ)
        → Leads (move rules) l es k → Leads (move rules) (followed_by l text) es (followed_by k text)
    Leads-followed text here = here
    Leads-followed {l} text (onward e r) =
        let P : Move → Type 0 = λ x. Stays x (move rules (followed_by l text)) text in
        onward (subst P e (move-stays l text)) (Leads-followed text r)

pub Leads-join : {next : Lexing → Move} {l m k : Lexing} {es fs : List Emitted} → Leads next l es m → Leads next m fs k → Leads next l (es ++ fs) k
Leads-join here q = q
Leads-join {next} {l} {k = k} {fs = fs} (onward {es = first} {fs = later} e r) q =
    let P : List Emitted → Type 0 = λ xs. Leads next l xs k in
    subst P (sym (append_assoc first later fs)) (onward e (Leads-join r q))

makes-same : (m n : Lexing) (es fs : List Emitted) → makes m es ≡ makes n fs → (m ≡ n) × (es ≡ fs)
makes-same m n es fs e = (cc, cc)

-- there is one run
pub one_run : {next : Lexing → Move} {l k j : Lexing} {es fs : List Emitted} → Leads next l es k → Waits next k → Leads next l fs j → Waits next j
    → (es ≡ fs) × (k ≡ j)
one_run here w here v = (refl, refl)
one_run here w (onward f q) v = absurd (w.no_move _ _ f)
one_run (onward e r) w here v = absurd (v.no_move _ _ e)
one_run {next} (onward {m = m} {k = k} {es = es} {fs = later} e r) w (onward {m = n} {k = j} {es = fs} {fs = others} f q) v =
    let s : (m ≡ n) × (es ≡ fs) = makes-same m n es fs (sym e ∙ f) in
    let P : Lexing → Type 0 = λ x. Leads next x others j in
    let rest : (later ≡ others) × (k ≡ j) = one_run r w (subst P (sym s.0) q) v in
    (cc (s.1, rest.0), rest.1)

-- moves by some rules are moves by rules that have them
pub Leads-within : {rules others : Rules} {l k : Lexing} {es : List Emitted} → IsWithin rules others → Leads (move rules) l es k → Leads (move others) l es k
Leads-within w here = here
Leads-within {l = l} w (onward {m = m} {es = es} e r) = onward (w.moves l m es e) (Leads-within w r)

followed-nil : (l : Lexing) → followed_by l [] ≡ l
followed-nil l = ap (λ (u : List ℕ). record l { unread = u }) (append-nil l.unread)

followed-again : (l : Lexing) (text more : List ℕ) → followed_by (followed_by l text) more ≡ followed_by l (text ++ more)
followed-again l text more = ap (λ (u : List ℕ). record l { unread = u }) (append_assoc l.unread text more)

-- a run over pieces is a run over their text
pub Runs-pieces : (rules : Rules) → IsSteady rules → (old new : Lexing) (pieces : List (List ℕ)) (emitted : List Emitted) → Waits (move rules) old
    → RunsOver rules old pieces emitted new → RunsTo rules (followed_by old (concat pieces)) emitted new
Runs-pieces rules steady old new [] emitted w (e, f) =
    let P : Lexing → Type 0 = λ x. RunsTo rules x emitted new in
    let Q : List Emitted → Type 0 = λ xs. RunsTo rules old xs new in
    let R : Lexing → Type 0 = λ x. RunsTo rules old [] x in
    subst P (sym (followed-nil old)) (subst Q (sym e) (subst R (sym f) record { leads = here; waits = w }))
Runs-pieces rules steady old new (piece ∷ pieces) emitted w (mid, first, rest, run, later, e) =
    let after : RunsTo rules (followed_by mid (concat pieces)) rest new = Runs-pieces rules steady mid new pieces rest run.waits later in
    let P : Lexing → Type 0 = λ x. Leads (move rules) x (first ++ rest) new in
    let Q : List Emitted → Type 0 = λ xs. Leads (move rules) (followed_by old (piece ++ concat pieces)) xs new in
    record {
      leads = subst Q (sym e) (subst P (followed-again old piece (concat pieces)) (Leads-join (Leads-followed rules steady (concat pieces) run.leads) after.leads));
      waits = after.waits;
    }

pub any_pieces_lem : AnyPiecesAnyRules
any_pieces_lem rules steady old new other pieces others emitted emitted_other w runs run_others same =
    let a : RunsTo rules (followed_by old (concat pieces)) emitted new = Runs-pieces rules steady old new pieces emitted w runs in
    let b : RunsTo rules (followed_by old (concat others)) emitted_other other = Runs-pieces rules steady old other others emitted_other w run_others in
    let P : List ℕ → Type 0 = λ u. Leads (move rules) (followed_by old u) emitted_other other in
    one_run a.leads a.waits (subst P (sym same) b.leads) b.waits
