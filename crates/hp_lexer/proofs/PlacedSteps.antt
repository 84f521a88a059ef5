-- The steps of the lexer on a piece are steps in the whole text.
use Rattle.std.proofs.Common.{◌≡◌, ℕ, ◌+◌, ◌-◌, ◌≤◌, ◌^◌, List, [], ◌∷◌, ◌++◌, Bool, true, false, cond, refl, ap, ◌∙◌, sym, subst, arith, Some, append-nil, append_assoc}
use Rattle.std.specs.List.{concat}
use Rattle.hp_elements.specs.declared.token.Rest.{Rest}
use Rattle.hp_elements.specs.declared.token.Rest.TheVariants as rest
use Rattle.hp_elements.specs.declared.token.Token.{Token}
use Rattle.hp_names.specs.References.{Reference}
use Rattle.hp_tokens.specs.declared.machine.Machine.{Machine}
use Rattle.hp_tokens.specs.Reading.{Unread}
use Rattle.hp_tokens.specs.States.{enter, is_resting, state_of_rest}
use Rattle.hp_tokens.specs.Moves.{Lexing, Emitted, Move, needs_more, asks_cdata, makes, standing, move}
use Rattle.hp_tokens.specs.Runs.{Leads, Waits, RunsTo, followed_by}
use Rattle.hp_tokens.specs.Advancing.{held, unread, singles, Began, Says, Advances}
use Rattle.hp_tokens.proofs.Pieces.{Leads-followed, Leads-join}
use Rattle.hp_lexer.specs.declared.lexer.Asked.{Asked}
use Rattle.hp_lexer.specs.declared.lexer.Asked.TheVariants as asked
use Rattle.hp_lexer.specs.declared.lexer.Lexer.{Lexer}
use Rattle.hp_lexer.specs.declared.lexer.Step.TheVariants as steps
use Rattle.hp_lexer.specs.Table.{table}
use Rattle.hp_lexer.specs.Standing.{opened, stands, stands_answered, switched, ReachesCdata, ReachesCut, Stepped}
use Rattle.hp_lexer.specs.Places.{IsInPiece, BeganIn, IsTold, Reached, AsksThere, CutsThere, PlacedIn, StepsPlaced, StartsPlaced, SwitchesPlaced, TellsPlaced, told, text_at, Answer, at_end, goes_on, at_cut, AreTold, CallsRun}
use Rattle.hp_lexer.proofs.Steady.{table_steady}
use Rattle.hp_lexer.proofs.Placing.{BeganAlike, PlacedMove, Led, move-placed, leads-placed, alike-tokens, alike-none, here_alike, same_place, stand}

silent : (es : List Emitted) → Says es false → es ≡ []
silent [] h = refl
silent (e ∷ es) h = cc

-- moves that emit nothing
quiet : (names : List Reference) (base : ℕ) (whole l k : Lexing) (rested : ℕ) → IsInPiece base l whole → Advances (table names) l [] k [] rested false
    → Reached names base whole [] k
quiet names base whole l k rested a advances =
    let led : Led names base whole advances.es k = leads-placed names base whole a advances.leads in
    let none : led.fs ≡ [] = alike-none base led.fs (subst (λ (es : List Emitted). BeganAlike base es led.fs) (silent advances.es advances.says) led.alike) in
    record { there = led.there; leads = subst (λ (fs : List Emitted). Leads (move (table names)) whole fs led.there) none led.leads; same = led.same }

first_began : (base rested began : ℕ) (es fs : List Emitted) → Says es true → Began es rested → began ≡ rested - 2 ^ 32 → BeganAlike base es fs → BeganIn base fs began
first_began base rested began [] fs says b e h = cc
first_began base rested began (x ∷ es) [] says b e h = absurd h
first_began base rested began (x ∷ es) (f ∷ fs) says b e h = e ∙ (ap (λ (n : ℕ). n - 2 ^ 32) (sym b) ∙ h.1)

in_tokens : (base : ℕ) (whole : Lexing) (old new : Lexer) (old_input new_input : Unread) (began : ℕ) (tokens : List Token) → IsInPiece base (stands old old_input) whole
    → Stepped old old_input new new_input (steps.Tokens began tokens) → PlacedIn base whole old new new_input (steps.Tokens began tokens)
in_tokens base whole old new old_input new_input began tokens a s =
    let advances = s.0 in
    let led : Led old.names base whole advances.es (stands new new_input) = leads-placed old.names base whole a advances.leads in (
      led.fs,
      record { there = led.there; leads = led.leads; same = led.same },
      record {
        spelled = ap singles advances.appends.appended ∙ (advances.appends.spelled ∙ sym (alike-tokens base advances.es led.fs led.alike));
        began = first_began base new.rested began advances.es led.fs advances.says advances.began s.1 led.alike;
      },
    )

in_cdata : (base : ℕ) (whole : Lexing) (old new : Lexer) (old_input new_input : Unread) → IsInPiece base (stands old old_input) whole
    → ReachesCdata old old_input new new_input → AsksThere old.names base whole new new_input
in_cdata base whole old new old_input new_input a s = asked_so asking
  where
    reached : Reached old.names base whole [] s.there
    reached = quiet old.names base whole (stands old old_input) s.there s.rested a s.advances

    asking : PlacedMove base (asks_cdata (stands_answered true new new_input) (stands_answered false new new_input)) (move (table old.names) reached.there)
    asking = subst (λ (x : Move). PlacedMove base x (move (table old.names) reached.there)) s.asks (move-placed old.names base s.there reached.there reached.same)

    asked_so : PlacedMove base (asks_cdata (stands_answered true new new_input) (stands_answered false new new_input)) (move (table old.names) reached.there)
        → AsksThere old.names base whole new new_input
    asked_so (f, h, e, section, comment) =
        record { there = reached.there; leads = reached.leads; foreign = f; html = h; asks = e; section = section; comment = comment }

in_last_tag : (base : ℕ) (whole : Lexing) (old new : Lexer) (old_input new_input : Unread) → IsInPiece base (stands old old_input) whole
    → Stepped old old_input new new_input steps.AskLastTag → PlacedIn base whole old new new_input steps.AskLastTag
in_last_tag base whole old new old_input new_input a s =
    let reached : Reached old.names base whole [] (stands new new_input) = quiet old.names base whole (stands old old_input) (stands new new_input) new.rested a s.0 in
    let P : Move → Type 0 = λ x. PlacedMove base x (move (table old.names) reached.there) in
    (reached, subst P s.1 (move-placed old.names base (stands new new_input) reached.there reached.same))

cut_place : (o h base i start p : ℕ) → h ≤ o → h ≤ i → (i - h) + base ≡ p + o → start + o ≡ base + i → (o - h) + start ≡ p + o
cut_place o h base i start p few below e s = omega arith

none_yet : (x : Bool) (o h rested : ℕ) → rested ≡ o → cond x (o - h) rested - o ≡ 0
none_yet true o h rested e = omega arith
none_yet false o h rested e = omega arith

none_before : (o h start p q : ℕ) → (o - h) + start ≡ p + o → q ≤ p → q - start ≡ 0
none_before o h start p q e b = omega arith

-- the next piece begins where the text was used up
module _ (base : ℕ) (new : Lexer) (input : Unread) (there : Lexing) (rested : ℕ) (same : IsInPiece base (stands (record new { rested = rested }) input) there)
    (begins : new.rested ≡ 2 ^ 32) (few : held new.lex ≤ 2 ^ 32) (below : held new.lex ≤ input.place) (used : input.text ≡ []) where
  all_ahead : there.unread ≡ new.lex.ahead
  all_ahead = same.unread ∙ (ap (λ (t : List ℕ). new.lex.ahead ++ t) used ∙ append-nil new.lex.ahead)

  next_piece : (start : ℕ) (piece : List ℕ) → start + 2 ^ 32 ≡ base + input.place → IsInPiece start (stands new (text_at (2 ^ 32) piece)) (followed_by there piece)
  next_piece start piece e =
      let place : (2 ^ 32 - held new.lex) + start ≡ there.place + 2 ^ 32 = cut_place (2 ^ 32) (held new.lex) base input.place start there.place few below same.place e in
      record {
        machine = same.machine;
        unread = ap (λ (u : List ℕ). u ++ piece) all_ahead;
        place = place;
        rested = none_yet (is_resting (opened new.asked new.lex.machine).state) (2 ^ 32) (held new.lex) new.rested begins
            ∙ sym (none_before (2 ^ 32) (held new.lex) start there.place there.rested place same.behind);
        behind = same.behind;
      }

in_cut : (base : ℕ) (whole : Lexing) (old new : Lexer) (old_input new_input : Unread) → held new.lex ≤ new_input.place → IsInPiece base (stands old old_input) whole
    → ReachesCut old old_input new new_input → CutsThere old.names base whole new new_input
in_cut base whole old new old_input new_input below a s =
    let last : Lexing = stands (record new { rested = s.rested }) new_input in
    let reached : Reached old.names base whole [] last = quiet old.names base whole (stands old old_input) last s.rested a s.advances in
    let P : Move → Type 0 = λ x. PlacedMove base x (move (table old.names) reached.there) in
    record {
      there = reached.there;
      leads = reached.leads;
      needs = subst P s.needs (move-placed old.names base last reached.there reached.same);
      next = next_piece base new new_input reached.there s.rested reached.same s.start s.held below s.used;
    }

pub steps_placed : StepsPlaced
steps_placed base whole old new old_input new_input (steps.Tokens began tokens) below a s = in_tokens base whole old new old_input new_input began tokens a s
steps_placed base whole old new old_input new_input steps.AskCdata below a s = in_cdata base whole old new old_input new_input a s
steps_placed base whole old new old_input new_input steps.AskLastTag below a s = in_last_tag base whole old new old_input new_input a s
steps_placed base whole old new old_input new_input steps.AtCut below a s = in_cut base whole old new old_input new_input below a s

start_place : (o h base : ℕ) → h ≤ o → h ≤ base → (o - h) + base ≡ (base - h) + o
start_place o h base few below = omega arith

start_rest : (o h base rested now : ℕ) → now ≡ o → rested ≤ base - h → now - o ≡ rested - base
start_rest o h base rested now e b = omega arith

pub starts_placed : StartsPlaced
starts_placed l base rested piece begins few below b =
    stand base (opened l.asked l.lex.machine) (unread l.lex (text_at (2 ^ 32) piece)) (2 ^ 32 - held l.lex) (base - held l.lex) l.rested rested
    (start_place (2 ^ 32) (held l.lex) base few below) (start_rest (2 ^ 32) (held l.lex) base rested l.rested begins b) b

-- behind an answered question or none
as_opened : (l : Lexer) (input : Unread) (a : Asked) (base : ℕ) (whole : Lexing) → l.asked ≡ a → IsInPiece base (stands l input) whole
    → IsInPiece base (stands (record l { asked = a }) input) whole
as_opened l input a base whole e h = subst (λ (x : Asked). IsInPiece base (stands (record l { asked = x }) input) whole) e h

rests : (to : Rest) → is_resting (state_of_rest to) ≡ true
rests rest.Data = refl
rests _ = refl

-- where the lexer rests, the place is the last place of rest
at_rest : (base : ℕ) (m n : Machine) (place rested : ℕ) (unread : List ℕ) (whole : Lexing) (p q : ℕ) → is_resting m.state ≡ true → n ≡ m → whole.unread ≡ unread
    → place + base ≡ p + 2 ^ 32 → IsInPiece base (standing m place rested unread) (standing n p q whole.unread)
at_rest base m n place rested unread whole p q e same text h =
    let P : Machine → Type 0 = λ x. IsInPiece base (standing m place rested unread) (standing x p q whole.unread) in
    let Q : Bool → Type 0 = λ x. cond x place rested - 2 ^ 32 ≡ cond x p q - base in
    let R : Bool → Type 0 = λ x. cond x p q ≤ p in
    subst P (sym same) record {
      machine = refl;
      unread = text;
      place = h;
      rested = subst Q (sym e) (here_alike (2 ^ 32) base place p h);
      behind = subst R (sym e) (same_place p);
    }

pub switches_placed : SwitchesPlaced
switches_placed to l input base whole e a =
    let now : IsInPiece base (stands (record l { asked = asked.Nothing }) input) whole = as_opened l input asked.Nothing base whole e a in
    let P : Asked → Type 0 = λ x. IsInPiece base (stands (record (switched to l) { asked = x }) input) (standing (enter (state_of_rest to) whole.machine) whole.place whole.rested whole.unread) in
    subst P (sym e)
    (at_rest base (enter (state_of_rest to) l.lex.machine) (enter (state_of_rest to) whole.machine) (input.place - held l.lex) l.rested (unread l.lex input) whole
    whole.place whole.rested (rests to) (ap (λ (m : Machine). enter (state_of_rest to) m) now.machine) now.unread now.place)

pub tells_placed : TellsPlaced
tells_placed name l input base whole e a =
    let now : IsInPiece base (stands (record l { asked = asked.LastTag }) input) whole = as_opened l input asked.LastTag base whole e a in
    record {
      machine = ap (λ (m : Machine). record m { last_tag = Some name }) now.machine;
      unread = now.unread;
      place = now.place;
      rested = now.rested;
      behind = now.behind;
    }

-- the runs over the pieces are the run over the whole text
waits_there : (names : List Reference) (l : Lexing) → move (table names) l ≡ needs_more → Waits (move (table names)) l
waits_there names l e = record { no_move = λ m es h. differ m es (sym e ∙ h) }
  where
    differ : (m : Lexing) (es : List Emitted) → needs_more ≡ makes m es → ⊥
    differ m es h = cc

followed-none : (l : Lexing) → followed_by l [] ≡ l
followed-none l = ap (λ (u : List ℕ). record l { unread = u }) (append-nil l.unread)

followed-twice : (l : Lexing) (text more : List ℕ) → followed_by (followed_by l text) more ≡ followed_by l (text ++ more)
followed-twice l text more = ap (λ (u : List ℕ). record l { unread = u }) (append_assoc l.unread text more)

abbrev Runs : List Reference → Lexing → List (List ℕ) → List Answer → Type 0
Runs names whole pieces answers =
    (es : List Emitted) × (new : Lexing) × RunsTo (table names) (followed_by whole (concat pieces)) es new × AreTold answers es

-- moves, and then a run over all that follows
behind_moves : (names : List Reference) (whole there : Lexing) (first : List Emitted) (text : List ℕ) (es : List Emitted) (new : Lexing)
    → Leads (move (table names)) whole first there → RunsTo (table names) (followed_by there text) es new → RunsTo (table names) (followed_by whole text) (first ++ es) new
behind_moves names whole there first text es new leads run =
    record { leads = Leads-join (Leads-followed (table names) (table_steady names) text leads) run.leads; waits = run.waits }

ends_there : (base : ℕ) (whole : Lexing) (old new : Lexer) (new_input : Unread) → CutsThere old.names base whole new new_input → Runs old.names whole [] []
ends_there base whole old new new_input c =
    let P : Lexing → Type 0 = λ x. RunsTo (table old.names) x [] c.there in
    ([], c.there, subst P (sym (followed-none whole)) (record { leads = c.leads; waits = waits_there old.names c.there c.needs }), refl)

goes_there : (names : List Reference) (base began : ℕ) (whole there : Lexing) (first : List Emitted) (tokens : List Token) (pieces : List (List ℕ)) (answers : List Answer)
    → Leads (move (table names)) whole first there → IsTold base began tokens first → Runs names there pieces answers
    → Runs names whole pieces (record { base = base; began = began; tokens = tokens } ∷ answers)
goes_there names base began whole there first tokens pieces answers leads is_told (es, new, run, told) =
    (first ++ es, new, behind_moves names whole there first (concat pieces) es new leads run, (first, es, refl, is_told, told))

cuts_there : (names : List Reference) (whole there : Lexing) (piece : List ℕ) (pieces : List (List ℕ)) (answers : List Answer)
    → Leads (move (table names)) whole [] there → Runs names (followed_by there piece) pieces answers → Runs names whole (piece ∷ pieces) answers
cuts_there names whole there piece pieces answers leads (es, new, run, told) =
    let P : Lexing → Type 0 = λ x. RunsTo (table names) x es new in
    (es, new, behind_moves names whole there [] (piece ++ concat pieces) es new leads (subst P (followed-twice there piece (concat pieces)) run), told)

pub calls_run : CallsRun
calls_run old input base whole pieces answers a (at_end {new = new} {new_input = new_input} below s) =
    ends_there base whole old new new_input (in_cut base whole old new input new_input below a s)
calls_run old input base whole pieces answers a (goes_on {new = new} {new_input = new_input} {began = began} {tokens = tokens} {answers = others} below names s calls) =
    let placed = in_tokens base whole old new input new_input began tokens a s in
    goes_there old.names base began whole placed.1.there placed.0 tokens pieces others placed.1.leads placed.2
    (subst (λ (n : List Reference). Runs n placed.1.there pieces others) names (calls_run new new_input base placed.1.there pieces others placed.1.same calls))
calls_run old input base whole pieces answers a (at_cut {new = new} {new_input = new_input} {start = start} {piece = piece} {pieces = later} below names s is calls) =
    let placed : CutsThere old.names base whole new new_input = in_cut base whole old new input new_input below a s in
    cuts_there old.names whole placed.there piece later answers placed.leads
    (subst (λ (n : List Reference). Runs n (followed_by placed.there piece) later answers) names
    (calls_run new (text_at (2 ^ 32) piece) start (followed_by placed.there piece) later answers (placed.next start piece is) calls))
