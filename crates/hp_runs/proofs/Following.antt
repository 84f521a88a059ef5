-- Steps of the run over a whole text from the moves of a lexer in a part of it, which may not be told the last start tag's name.
use Rattle.std.proofs.Common.{◌≡◌, ℕ, ◌-◌, ◌^◌, List, [], ◌∷◌, ◌++◌, Bool, true, false, ◌⊎◌, inl, inr, ap, ◌∙◌, sym, subst, append-nil, arith, Option, None, Some}
use Rattle.std.proofs.lemmas.Bool.{and_parts}
use Rattle.hp_elements.specs.declared.token.Rest.{Rest}
use Rattle.hp_elements.specs.declared.token.Token.{Token}
use Rattle.hp_names.specs.References.{Reference}
use Rattle.hp_tokens.specs.declared.machine.Machine.{Machine}
use Rattle.hp_tokens.specs.Advancing.{tokens_of}
use Rattle.hp_tokens.specs.Moves.{Emitted, Lexing, Move, makes, move, standing}
use Rattle.hp_tokens.specs.States.{enter, state_of_rest}
use Rattle.hp_control.specs.declared.edit.Edit.{Edit}
use Rattle.hp_control.specs.Outcome.{touches_any}
use Rattle.hp_control.specs.States.{ControlState}
use Rattle.hp_lexer.specs.Places.{IsInPiece}
use Rattle.hp_lexer.specs.Table.{table}
use Rattle.hp_lexer.proofs.Placing.{BeganAlike, PlacedMove, alike-tokens, move-placed, stand}
use Rattle.hp_model.specs.Handling.{handle}
use Rattle.hp_model.specs.Runs.{switched}
use Rattle.hp_model.specs.Turns.{left_by}
use Rattle.hp_runs.specs.Closing.{AreCharacters, LeadsOn, last, onward, stays}
use Rattle.hp_runs.specs.Filled.{FilledMove, at_filled}
use Rattle.hp_runs.specs.Handling.{Handler, left_after, made_after, turned_by}
use Rattle.hp_runs.specs.Touching.{GoesOwn, here, onward as steps_on, TouchesAt, TouchesFrom, is_untouched, touching_here, untouched}
use Rattle.hp_runs.proofs.Batches.{at, left-append, made-append}
use Rattle.hp_runs.proofs.Began.{tokens-append}
use Rattle.hp_runs.proofs.Filling.{turned-filled}
use Rattle.hp_runs.proofs.FillingTable.{moves-filled}
use Rattle.hp_runs.proofs.Own.{from-touching, own-join, touches-split, touching-from, untouched-append}
use Rattle.hp_runs.proofs.Quiet.{characters-quiet}
use Rattle.hp_runs.proofs.Turning.{loud-step, turned-append, turned-quiet}

-- a switch is one in the whole text
switched-placed : (base : ℕ) (to : Option Rest) (l k : Lexing) → IsInPiece base l k → IsInPiece base (switched to l) (switched to k)
switched-placed base None l k a = a
switched-placed base (Some rest) l k a =
    subst (λ (m : Machine). IsInPiece base (switched (Some rest) l) (standing (enter (state_of_rest rest) m) k.place k.rested k.unread)) (sym a.machine)
    (subst (λ (u : List ℕ). IsInPiece base (switched (Some rest) l) (standing (enter (state_of_rest rest) l.machine) k.place k.rested u)) (sym a.unread)
    (stand base (enter (state_of_rest rest) l.machine) l.unread l.place k.place l.rested k.rested a.place a.rested a.behind))

turned-placed : (does : Handler) (base : ℕ) (c : ControlState) (ts : List Token) (l k : Lexing) → IsInPiece base l k → IsInPiece base (turned_by does c ts l) (turned_by does c ts k)
turned-placed does base c [] l k a = a
turned-placed does base c (t ∷ ts) l k a =
    turned-placed does base (left_by (does c t)) ts (switched (does c t).switch l) (switched (does c t).switch k) (switched-placed base (does c t).switch l k a)

-- where it is told the name, too
pub turned-follows : (does : Handler) (name : List ℕ) (base : ℕ) (c : ControlState) (ts : List Token) (l k : Lexing) → IsInPiece base (at_filled name l) k
    → IsInPiece base (at_filled name (turned_by does c ts l)) (turned_by does c ts k)
turned-follows does name base c ts l k a =
    subst (λ (m : Lexing). IsInPiece base m (turned_by does c ts k)) (turned-filled does name c ts l) (turned-placed does base c ts (at_filled name l) k a)

-- tokens that began there touch what they touch here
began_cases : (b : Bool) (p e f : ℕ) (X Y : Type 0) → e - 2 ^ 32 ≡ f - 0 → (X → Y) → touching_here b (p ≡ e) X → touching_here b (p - 2 ^ 32 ≡ f) Y
began_cases true p e f X Y h k t = omega (arith, h, t)
began_cases false p e f X Y h k t = k t

alike-touches : (s c : ControlState) (es fs : List Emitted) (p : ℕ) → BeganAlike 0 es fs → TouchesAt s c es p → TouchesAt s c fs (p - 2 ^ 32)
alike-touches s c [] [] p h t = absurd t
alike-touches s c [] (f ∷ fs) p h t = absurd t
alike-touches s c (e ∷ es) [] p h t = absurd h
alike-touches s c (e ∷ es) (f ∷ fs) p h t =
    let P : Token → Type 0 = λ x. touching_here (touches_any s (handle c x).outcome) (p - 2 ^ 32 ≡ f.began) (TouchesAt s (left_by (handle c x)) fs (p - 2 ^ 32)) in
    let d : ControlState = left_by (handle c e.token) in
    subst P (sym h.0)
    (began_cases (touches_any s (handle c e.token).outcome) p e.began f.began (TouchesAt s d es p) (TouchesAt s d fs (p - 2 ^ 32)) h.1 (alike-touches s d es fs p h.2) t)

module _ (names : List Reference) (name : List ℕ) (base : ℕ) (s : ControlState) where
  -- a move in the whole text
  pub record Made (whole k : Lexing) (es : List Emitted) : Type 0 where
    pub there : Lexing
    pub fs : List Emitted
    pub made : move (table names) whole ≡ makes there fs
    pub follows : IsInPiece base (at_filled name k) there
    pub alike : BeganAlike base es fs
    pub tokens : tokens_of fs ≡ tokens_of es

  pub move-made : (whole l k : Lexing) (es : List Emitted) → IsInPiece base (at_filled name l) whole → move (table names) l ≡ makes k es → Made whole k es
  move-made whole l k es a made = by placed
    where
      told_move : move (table names) (at_filled name l) ≡ makes (at_filled name k) es
      told_move = subst (λ (x : Move). FilledMove name x (move (table names) (at_filled name l))) made (moves-filled names name l)

      placed : PlacedMove base (makes (at_filled name k) es) (move (table names) whole)
      placed = subst (λ (x : Move). PlacedMove base x (move (table names) whole)) told_move (move-placed names base (at_filled name l) whole a)

      by : PlacedMove base (makes (at_filled name k) es) (move (table names) whole) → Made whole k es
      by (there, fs, same, follows, alike) = record { there = there; fs = fs; made = same; follows = follows; alike = alike; tokens = alike-tokens base es fs alike }

  -- the run has come from there, with these edits, to where the lexer stands
  pub record Follows (whole : Lexing) (c : ControlState) (edits : List Edit) (k : Lexing) (d : ControlState) : Type 0 where
    pub there : Lexing
    pub goes : GoesOwn (table names) s (at whole c) edits (at there d)
    pub follows : IsInPiece base (at_filled name k) there

  -- all that one move emits
  last-follows : (whole l k : Lexing) (c : ControlState) (es : List Emitted) → IsInPiece base (at_filled name l) whole → move (table names) l ≡ makes k es → untouched s c (tokens_of es) ≡ true
      → Follows whole c (made_after handle c (tokens_of es)) (turned_by handle c (tokens_of es) k) (left_after handle c (tokens_of es))
  last-follows whole l k c es a made u =
      let m : Made whole k es = move-made whole l k es a made in
      let G : List Token → Type 0 = λ ts. GoesOwn (table names) s (at whole c) (made_after handle c ts) (at (turned_by handle c ts m.there) (left_after handle c ts)) in
      let own : is_untouched s c (move (table names) whole) ≡ true = ap (is_untouched s c) m.made ∙ (ap (untouched s c) m.tokens ∙ u) in
      record {
        there = turned_by handle c (tokens_of es) m.there;
        goes =
            subst G m.tokens
            (subst (λ (fs : List Edit). GoesOwn (table names) s (at whole c) fs (at (turned_by handle c (tokens_of m.fs) m.there) (left_after handle c (tokens_of m.fs)))) (append-nil (made_after handle c (tokens_of m.fs)))
            (steps_on (loud-step whole m.there m.fs c (move (table names) whole) m.made) own here));
        follows = turned-follows handle name base c (tokens_of es) k m.there m.follows;
      }

  -- characters in one move
  quiet-follows : (whole l k : Lexing) (c : ControlState) (es : List Emitted) → IsInPiece base (at_filled name l) whole → move (table names) l ≡ makes k es → AreCharacters (tokens_of es) → untouched s c (tokens_of es) ≡ true
      → Follows whole c (made_after handle c (tokens_of es)) k (left_after handle c (tokens_of es))
  quiet-follows whole l k c es a made chars u =
      subst (λ (n : Lexing). Follows whole c (made_after handle c (tokens_of es)) n (left_after handle c (tokens_of es))) (turned-quiet handle c (tokens_of es) k (characters-quiet (tokens_of es) c chars))
      (last-follows whole l k c es a made u)

  follows-join : (whole mid k : Lexing) (c d e : ControlState) (es fs : List Edit) (f : Follows whole c es mid d) → Follows f.there d fs k e → Follows whole c (es ++ fs) k e
  follows-join whole mid k c d e es fs f g = record { there = g.there; goes = own-join (table names) s f.goes g.goes; follows = g.follows }

  -- tokens behind characters
  follows-append : (whole k : Lexing) (c : ControlState) (xs ys : List Token) → AreCharacters xs
      → Follows whole c (made_after handle c xs ++ made_after handle (left_after handle c xs) ys) (turned_by handle (left_after handle c xs) ys k) (left_after handle (left_after handle c xs) ys)
      → Follows whole c (made_after handle c (xs ++ ys)) (turned_by handle c (xs ++ ys) k) (left_after handle c (xs ++ ys))
  follows-append whole k c xs ys chars f =
      subst (λ (es : List Edit). Follows whole c es (turned_by handle c (xs ++ ys) k) (left_after handle c (xs ++ ys))) (sym (made-append handle c xs ys))
      (subst (λ (l : Lexing). Follows whole c (made_after handle c xs ++ made_after handle (left_after handle c xs) ys) l (left_after handle c (xs ++ ys)))
      (sym (turned-append handle c xs ys k ∙ ap (turned_by handle (left_after handle c xs) ys) (turned-quiet handle c xs k (characters-quiet xs c chars))))
      (subst (λ (d : ControlState). Follows whole c (made_after handle c xs ++ made_after handle (left_after handle c xs) ys) (turned_by handle (left_after handle c xs) ys k) d) (sym (left-append handle c xs ys)) f))

  -- all tokens of such moves, each with its switch
  pub led-follows : {l k : Lexing} {es : List Emitted} (whole : Lexing) (c : ControlState) → LeadsOn (move (table names)) l es k → IsInPiece base (at_filled name l) whole → untouched s c (tokens_of es) ≡ true
      → Follows whole c (made_after handle c (tokens_of es)) (turned_by handle c (tokens_of es) k) (left_after handle c (tokens_of es))
  led-follows whole c stays a u = record { there = whole; goes = here; follows = a }
  led-follows {l} {k} {es} whole c (last made) a u = last-follows whole l k c es a made u
  led-follows {l} {k} whole c (onward {m = m} {es = xs} {fs = ys} made chars rest) a u =
      subst (λ (ts : List Token). Follows whole c (made_after handle c ts) (turned_by handle c ts k) (left_after handle c ts)) (sym (tokens-append xs ys))
      (follows-append whole k c (tokens_of xs) (tokens_of ys) chars
      (follows-join whole m (turned_by handle d (tokens_of ys) k) c d (left_after handle d (tokens_of ys)) (made_after handle c (tokens_of xs)) (made_after handle d (tokens_of ys)) first
      (led-follows first.there d rest first.follows parts.1)))
    where
      d : ControlState
      d = left_after handle c (tokens_of xs)

      parts : (untouched s c (tokens_of xs) ≡ true) × (untouched s d (tokens_of ys) ≡ true)
      parts =
          and_parts (untouched s c (tokens_of xs)) (untouched s d (tokens_of ys))
          (sym (untouched-append s c (tokens_of xs) (tokens_of ys)) ∙ (ap (untouched s c) (sym (tokens-append xs ys)) ∙ u))

      first : Follows whole c (made_after handle c (tokens_of xs)) m d
      first = quiet-follows whole l m c xs a made chars parts.0

-- over a text from its start
module _ (names : List Reference) (name : List ℕ) (s : ControlState) where
  made-touches : (whole l k : Lexing) (c : ControlState) (es : List Emitted) (p : ℕ) → IsInPiece 0 (at_filled name l) whole → move (table names) l ≡ makes k es → TouchesAt s c es p → TouchesFrom (table names) s (at whole c) (p - 2 ^ 32)
  made-touches whole l k c es p a made t =
      let m : Made names name 0 s whole k es = move-made names name 0 s whole l k es a made in
      record { there = at whole c; edits = []; goes = here; next = m.there; emitted = m.fs; makes_them = m.made; touches = alike-touches s c es m.fs p m.alike t }

  -- the run comes to what such moves emit that touches something older
  pub led-touches : {l k : Lexing} {es : List Emitted} (whole : Lexing) (c : ControlState) (p : ℕ) → LeadsOn (move (table names)) l es k → IsInPiece 0 (at_filled name l) whole → TouchesAt s c es p
      → TouchesFrom (table names) s (at whole c) (p - 2 ^ 32)
  led-touches whole c p stays a t = absurd t
  led-touches {l} {k} {es} whole c p (last made) a t = made-touches whole l k c es p a made t
  led-touches {l} whole c p (onward {m = m} {es = xs} {fs = ys} made chars rest) a t =
      by (λ there follows later. led-touches there d p rest follows later) (touches-split s c xs ys p t)
    where
      d : ControlState
      d = left_after handle c (tokens_of xs)

      by : ((there : Lexing) → IsInPiece 0 (at_filled name m) there → TouchesAt s d ys p → TouchesFrom (table names) s (at there d) (p - 2 ^ 32))
          → TouchesAt s c xs p ⊎ ((untouched s c (tokens_of xs) ≡ true) × TouchesAt s d ys p) → TouchesFrom (table names) s (at whole c) (p - 2 ^ 32)
      by on (inl now) = made-touches whole l m c xs p a made now
      by on (inr (u, later)) =
          let first : Follows names name 0 s whole c (made_after handle c (tokens_of xs)) m d = quiet-follows names name 0 s whole l m c xs a made chars u in
          let more : TouchesFrom (table names) s (at first.there d) (p - 2 ^ 32) = on first.there first.follows later in
          from-touching (table names) s (own-join (table names) s first.goes more.goes) (touching-from (table names) s more)
