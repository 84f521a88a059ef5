-- How much a guess covers over a state for which the answers are right.
use Rattle.std.proofs.Common.{◌≡◌, ℕ, ◌-◌, ◌^◌, ◌<◌, List, [], ◌∷◌, ◌++◌, length, take, drop, Bool, true, refl, ap, ◌∙◌, sym, subst, arith, Option, None, Some}
use Rattle.std.specs.Option.{is_some}
use Rattle.std.specs.Str.{IsCharBoundary, IsUtf8, chars}
use Rattle.std.proofs.lemmas.List.Elements.{All-nil}
use Rattle.std.proofs.lemmas.List.{take-append-drop}
use Rattle.std.proofs.lemmas.Str.{chars-append, IsUtf8-take}
use Rattle.hp_elements.specs.declared.token.Mode.{Mode}
use Rattle.hp_elements.specs.declared.token.Rest.{Rest}
use Rattle.hp_names.specs.BuiltIn.{built_in}
use Rattle.hp_names.specs.References.{Reference}
use Rattle.hp_tokens.proofs.Characters.{bytes-length}
use Rattle.hp_tokens.specs.Advancing.{rest_state}
use Rattle.hp_tokens.specs.Reading.{Unread}
use Rattle.hp_control.specs.Faithful.{Split}
use Rattle.hp_control.specs.Guessing.{Guessing}
use Rattle.hp_control.specs.Holds.{Holds}
use Rattle.hp_control.specs.Laws.{KeptOnceWhereTrue}
use Rattle.hp_control.specs.Plan.{Heard, added_each, kept_pairs}
use Rattle.hp_control.specs.States.{ControlState}
use Rattle.hp_control.specs.Truth.{answer_of, entry_answer, rest_of}
use Rattle.hp_control.specs.declared.change.Refusal.{Refusal}
use Rattle.hp_control.specs.declared.change.Refusal.TheVariants as refusal
use Rattle.hp_control.specs.declared.edit.Edit.{Edit}
use Rattle.hp_control.specs.declared.question.Answer.{Answer}
use Rattle.hp_control.specs.declared.question.Answer.TheVariants as answer
use Rattle.hp_control.specs.declared.question.Crossing.{Crossing}
use Rattle.hp_control.specs.declared.question.Kept.{Kept}
use Rattle.hp_control.specs.declared.question.Question.{Question}
use Rattle.hp_control.specs.declared.question.Question.TheVariants as ask
use Rattle.hp_lexer.specs.declared.lexer.Asked.TheVariants as asked
use Rattle.hp_lexer.specs.declared.lexer.Lexer.{Lexer}
use Rattle.hp_lexer.specs.Places.{text_at}
use Rattle.hp_lexer.specs.Standing.{stands}
use Rattle.hp_lexer.specs.Table.{table}
use Rattle.hp_model.specs.Runs.{Parser, followed_by, goes, rests, step_by}
use Rattle.hp_asked.specs.Laws.{ReadingsAlike, RightAtStart, RightBefore, RightSingly}
use Rattle.hp_asked.specs.Right.{IsRight, RightFrom, seeker_at}
use Rattle.hp_asked.specs.Singly.{IsRightSingly}
use Rattle.hp_older.specs.Laws.{ViewsBegin}
use Rattle.hp_pieces.specs.By.{IsBy, chunk_of, says_by}
use Rattle.hp_pieces.specs.declared.by.By.{By}
use Rattle.hp_pieces.specs.First.{IsFirst, restless, touched, whole}
use Rattle.hp_pieces.specs.FirstLaws.{FirstInBytes, FirstOnce, TouchesInside}
use Rattle.hp_pieces.specs.Guesses.{Guessed}
use Rattle.hp_pieces.specs.Running.{parser_in}
use Rattle.hp_pieces.specs.Waiting.{MayStand}
use Rattle.hp_runs.specs.Coming.{TextBegins}
use Rattle.hp_runs.specs.Touching.{RunsOwn, TouchesFrom}
use Rattle.hp_views.specs.BeginLaws.{IsResting}
use Rattle.hp_views.specs.Begins.{Begins, begins}
use Rattle.hp_fragment.proofs.Guesses.{begins-over, heard-first, ok-same, pairs, some-same, way_over}
use Rattle.hp_pieces.specs.Reaching.{IsSaid, ReachesFirst, ReachesIn}
use Rattle.hp_fragment.specs.Guessing.{CrossesAt, HasBegun, IsReached}
use Rattle.hp_fragment.specs.Reading.{AreRight, Crosses, GoesToEnd, HasRead, HasReadAll, IfCrossed, Stage, control_at}
use Rattle.hp_fragment.specs.Making.{Amounts, SplitBy}
use Rattle.hp_fragment.specs.declared.sink.Naming.TheVariants.{Numbers}

-- a state that tells to be at rest is so, and one that doesn't isn't
told-resting : (s : ControlState) (rest : Rest) (after_cr : Bool) (m : Mode) (original : Option Mode) (skip_lf : Bool) → answer_of s ask.Entry ≡ answer.Resting rest after_cr m original skip_lf → is_some (rest_of s.lex.machine.state) ≡ true
told-resting s rest after_cr m original skip_lf = by_cases (rest_of s.lex.machine.state)
  where
    by_cases : (o : Option Rest) → entry_answer s.lex.machine.after_cr s.mode s.original s.skip_lf o ≡ answer.Resting rest after_cr m original skip_lf → is_some o ≡ true
    by_cases None e = cc
    by_cases (Some r) e = refl

abbrev NotResting : Answer → Type 0
NotResting a = (rest : Rest) (after_cr : Bool) (m : Mode) (original : Option Mode) (skip_lf : Bool) → a ≡ answer.Resting rest after_cr m original skip_lf → ⊥

told-restless : (s : ControlState) (a : Answer) → answer_of s ask.Entry ≡ a → NotResting a → rest_of s.lex.machine.state ≡ None
told-restless s a = by_cases (rest_of s.lex.machine.state)
  where
    by_cases : (o : Option Rest) → entry_answer s.lex.machine.after_cr s.mode s.original s.skip_lf o ≡ a → NotResting a → o ≡ None
    by_cases None e not = refl
    by_cases (Some r) e not = absurd (not r s.lex.machine.after_cr s.mode s.original s.skip_lf (sym e))

-- where the lexer stands that begins so
seeker-begun : (l : Lexer) (input : Unread) (v : Split) (rest : Rest) (after_cr : Bool) (m : Mode) (original : Option Mode) (skip_lf : Bool) (text : List ℕ)
    → l ≡ record { lex = rest_state rest after_cr; names = built_in; asked = asked.Nothing; rested = 2 ^ 32 } → input ≡ text_at (2 ^ 32) text → v ≡ begins (answer.Resting rest after_cr m original skip_lf)
    → seeker_at (answer.Resting rest after_cr m original skip_lf) text ≡ record { lexing = stands l input; split = v }
seeker-begun l input v rest after_cr m original skip_lf text is at begun =
    subst (λ (k : Lexer). seeker_at (answer.Resting rest after_cr m original skip_lf) text ≡ record { lexing = stands k input; split = v }) (sym is)
    (subst (λ (u : Unread). seeker_at (answer.Resting rest after_cr m original skip_lf) text ≡ record { lexing = stands (record { lex = rest_state rest after_cr; names = built_in; asked = asked.Nothing; rested = 2 ^ 32 }) u; split = v }) (sym at)
    (ap (λ (w : Split). record { lexing = stands (record { lex = rest_state rest after_cr; names = built_in; asked = asked.Nothing; rested = 2 ^ 32 }) (text_at (2 ^ 32) text); split = w }) (sym begun)))

-- Nothing was read of a front of a text yet, before which a state stands for which the answers are right.
module _ (start : RightAtStart) (law : TextBegins) (views : ViewsBegin) (old : Stage) (b : HasBegun old.lexer old.heard old.split) (front : List ℕ) (input : old.input ≡ text_at (2 ^ 32) (chars front)) (s : ControlState) (empty : Amounts (SplitBy Numbers) old.sink s [] []) (may : MayStand built_in s) (right : IsRight old.heard.says built_in s (chars front)) where
  abbrev told : Answer
  told = answer.Resting b.rest b.after_cr b.mode b.original b.skip_lf

  entry : answer_of s ask.Entry ≡ old.heard.says ask.Entry
  entry = (start old.heard.says built_in s (chars front) right).0

  at_rest : is_some (rest_of s.lex.machine.state) ≡ true
  at_rest = told-resting s b.rest b.after_cr b.mode b.original b.skip_lf (entry ∙ b.told)

  onward : AreRight s old
  onward =
      subst (RightFrom built_in old.heard.says s) (seeker-begun old.lexer old.input old.split b.rest b.after_cr b.mode b.original b.skip_lf (chars front) b.lexer input b.split)
      (subst (λ (a : Answer). RightFrom built_in old.heard.says s (seeker_at a (chars front))) b.told ((start old.heard.says built_in s (chars front) right).1 (subst IsResting (sym b.told) tt)))

  read : HasRead (way_over s (chars front)) old
  read = begins-over law s (chars front) may.valid b.rest b.after_cr b.mode b.original b.skip_lf old (views s told may.valid may.fits (entry ∙ b.told) tt) b.lexer input b.split empty

  -- what was asked on the way to the end is answered truly
  kept-hold : KeptOnceWhereTrue → (new : Stage) (g : GoesToEnd old new) (kept : List Kept) → new.heard.kept ≡ Some kept → Holds kept s
  kept-hold once new g kept is =
      subst (λ (ks : List Kept). Holds ks s) (sym (pairs old new b g kept is))
      ((once s old.heard.says [] (ask.Entry ∷ g.asked) tt).0 (All-nil (λ (k : Kept). answer_of s k.question ≡ k.answer)) (entry, g.right s onward))

  -- and nothing older was touched
  all-own : (new : Stage) (g : GoesToEnd old new) → RunsOwn (table built_in) s (followed_by (parser_in s) (chars front))
  all-own new g = record { there = there; edits = all.edits; goes = all.ended.goes; rests = record { no_step = λ q fs e. none q fs (sym (ap (step_by there) all.ended.needs) ∙ e) } }
    where
      all : HasReadAll (way_over s (chars front)) new
      all = g.reads (way_over s (chars front)) (g.right s onward) read

      there : Parser
      there = record { lexing = all.ended.at; control = control_at s new }

      none : (q : Parser) (fs : List Edit) → rests ≡ goes q fs → ⊥
      none q fs e = cc

  first-whole : IsUtf8 front → (new : Stage) (g : GoesToEnd old new) → IsFirst built_in s (chars front) (length front)
  first-whole utf8 new g = subst (IsFirst built_in s (chars front)) (sym (bytes-length front utf8)) (whole at_rest (all-own new g))

  -- a token that was crossed touches something older, and began within the front
  first-crossed : TouchesInside → IsUtf8 front → (new : Stage) → Crosses old new → IsFirst built_in s (chars front) (new.lexer.rested - 2 ^ 32) × (new.lexer.rested - 2 ^ 32 < length front)
  first-crossed inside utf8 new c = (touched at_rest touches, subst (λ (n : ℕ). new.lexer.rested - 2 ^ 32 < n) (sym (bytes-length front utf8)) (inside built_in s (chars front) (new.lexer.rested - 2 ^ 32) may.valid at_rest touches).more)
    where
      touches : TouchesFrom (table built_in) s (followed_by (parser_in s) (chars front)) (new.lexer.rested - 2 ^ 32)
      touches = c.touches (way_over s (chars front)) refl (c.right s onward) read

-- over each state for which the answers are right, this is true of what was kept, and so much can be covered
abbrev pub Reaches : List Kept → ℕ → List ℕ → (Question → Answer) → Type 0
Reaches kept covered front says = (s : ControlState) → MayStand built_in s → IsRightSingly says built_in s (chars front) → Holds kept s × IsFirst built_in s (chars front) covered

-- so a front that was read to its end is covered whole,
pub whole-reaches : ReadingsAlike → RightAtStart → TextBegins → ViewsBegin → KeptOnceWhereTrue → (old new : Stage) (b : HasBegun old.lexer old.heard old.split) (g : GoesToEnd old new) (front : List ℕ) (kept : List Kept)
    → new.heard.kept ≡ Some kept → IsUtf8 front → old.input ≡ text_at (2 ^ 32) (chars front) → ((s : ControlState) → Amounts (SplitBy Numbers) old.sink s [] []) → Reaches kept (length front) front old.heard.says
whole-reaches alike start law views once old new b g front kept is utf8 input empty = λ s may singly.
    let right : IsRight old.heard.says built_in s (chars front) = alike old.heard.says built_in s (chars front) may.valid may.fits singly in
    (kept-hold start law views old b front input s (empty s) may right once new g kept is, first-whole start law views old b front input s (empty s) may right utf8 new g)

-- a refusal that isn't want of memory
pub refused-crossed : (refused : Refusal) (crossing : Crossing) (fact : Type 0) → refused ≡ refusal.Crossed crossing → IfCrossed refused fact → fact
refused-crossed refused crossing fact is h = subst (λ (r : Refusal). IfCrossed r fact) is h

-- and one that was crossed is so at that place.
pub crossed-at : ReadingsAlike → RightAtStart → TextBegins → ViewsBegin → TouchesInside → (old new : Stage) (b : HasBegun old.lexer old.heard old.split) → Crosses old new → (front : List ℕ) (at : ℕ)
    → at ≡ new.lexer.rested - 2 ^ 32 → IsUtf8 front → old.input ≡ text_at (2 ^ 32) (chars front) → ((s : ControlState) → Amounts (SplitBy Numbers) old.sink s [] []) → CrossesAt built_in old.heard.says front at
crossed-at alike start law views inside old new b c front at is utf8 input empty =
    subst (CrossesAt built_in old.heard.says front) (sym is)
    (λ s may singly. first-crossed start law views old b front input s (empty s) may (alike old.heard.says built_in s (chars front) may.valid may.fits singly) inside utf8 new c)

-- Where the chunk doesn't begin at rest, nothing can be covered.
pub nothing-reaches : {P : Type 0} (says : P → Question → Answer) (predictor : P) (guess below : Guessing P) (v : Split) (a : Answer) → guess ≡ record { predictor = predictor; kept = [] } → Begins says guess below v a → NotResting a
    → ReadingsAlike → RightAtStart → KeptOnceWhereTrue → (front : List ℕ) → Reaches below.kept 0 front (says predictor)
nothing-reaches {P} says predictor guess below v a new b not_resting alike start once front = λ s may singly.
    let right : IsRight (says predictor) built_in s (chars front) = alike (says predictor) built_in s (chars front) may.valid may.fits singly in
    let entry : answer_of s ask.Entry ≡ says predictor ask.Entry = (start (says predictor) built_in s (chars front) right).0 in
    let kept : below.kept ≡ added_each [] (kept_pairs (says predictor) (ask.Entry ∷ [])) = some-same below.kept (added_each [] (kept_pairs (says predictor) (ask.Entry ∷ []))) (ap (λ (h : Heard). h.kept) (heard-first says predictor guess below v a new b)) in
    let is : says predictor ask.Entry ≡ a = ap (λ (g : Guessing P). says g.predictor ask.Entry) (sym new) ∙ ok-same (says guess.predictor ask.Entry) a b.told.ends in (
      subst (λ (ks : List Kept). Holds ks s) (sym kept) ((once s (says predictor) [] (ask.Entry ∷ []) tt).0 (All-nil (λ (k : Kept). answer_of s k.question ≡ k.answer)) (entry, tt)),
      restless (told-restless s a (entry ∙ is) not_resting),
    )

-- A text was crossed, and the front before that place is read.
module _ (once : FirstOnce) (in_bytes : FirstInBytes) (alike : ReadingsAlike) (singly : RightSingly) (before : RightBefore) (says : Question → Answer) (text front : List ℕ) (at : ℕ) (utf8 : IsUtf8 text) (crosses : CrossesAt built_in says text at) (is_front : front ≡ take (length front) text) (long : IsCharBoundary text at → length front ≡ at) (s : ControlState) (may : MayStand built_in s) (right : IsRightSingly says built_in s (chars text)) where
  boundary : IsCharBoundary text at
  boundary = (in_bytes built_in s text at utf8 may.valid (crosses s may right).0).0

  is_taken : take at text ≡ front
  is_taken = ap (λ (n : ℕ). take n text) (sym (long boundary)) ∙ sym is_front

  -- of the front all can be covered
  first-front : IsFirst built_in s (chars front) at
  first-front = subst (λ (bytes : List ℕ). IsFirst built_in s (chars bytes) at) is_taken (in_bytes built_in s text at utf8 may.valid (crosses s may right).0).1

  parts : chars text ≡ chars front ++ chars (drop at text)
  parts = ap chars (sym (take-append-drop at text)) ∙ (chars-append (take at text) (drop at text) (IsUtf8-take text at utf8 boundary) ∙ ap (λ (bytes : List ℕ). chars bytes ++ chars (drop at text)) is_taken)

  right-front : IsRightSingly says built_in s (chars front)
  right-front = singly says built_in s (chars front) (before says built_in s (chars front) (chars (drop at text)) (subst (IsRight says built_in s) parts (alike says built_in s (chars text) may.valid may.fits right)))

  -- where it is covered, that is all that can be covered of the text
  front-reached : (f : Guessed) → f.names ≡ built_in → ReachesIn front says f → Holds f.assumptions s × IsFirst built_in s (chars text) f.covered
  front-reached f names reaches = (r.0, subst (IsFirst built_in s (chars text)) (once built_in s (chars front) at f.covered first-front r.1) (crosses s may right).0)
    where
      r : Holds f.assumptions s × IsFirst built_in s (chars front) f.covered
      r = subst (λ (ns : List Reference). MayStand ns s → IsRightSingly says ns s (chars front) → Holds f.assumptions s × IsFirst ns s (chars front) f.covered) names (reaches s) may right-front

  -- it isn't crossed again
  front-uncrossed : (again : ℕ) → CrossesAt built_in says front again → ⊥
  front-uncrossed again crosses_front =
      let second : IsFirst built_in s (chars front) again × (again < length front) = crosses_front s may right-front in
      omega (arith, once built_in s (chars front) at again first-front second.0, second.1, long boundary)

pub reached-before : FirstOnce → FirstInBytes → ReadingsAlike → RightSingly → RightBefore → (says : Question → Answer) (text front : List ℕ) (at : ℕ) → IsUtf8 text → CrossesAt built_in says text at → front ≡ take (length front) text → (IsCharBoundary text at → length front ≡ at)
    → (f : Guessed) → IsReached says text front f → IsReached says text text f
reached-before once in_bytes alike singly before says text front at utf8 crosses is_front long f is = (
  is.0,
  subst (λ (ns : List Reference). (s : ControlState) → MayStand ns s → IsRightSingly says ns s (chars text) → Holds f.assumptions s × IsFirst ns s (chars text) f.covered) (sym is.0.names)
      (λ s may right. front-reached once in_bytes alike singly before says text front at utf8 crosses is_front long s may right f is.0.names is.1),
)

pub nothing-before : FirstOnce → FirstInBytes → ReadingsAlike → RightSingly → RightBefore → (says : Question → Answer) (text front : List ℕ) (at again : ℕ) → IsUtf8 text → CrossesAt built_in says text at → front ≡ take (length front) text → (IsCharBoundary text at → length front ≡ at)
    → CrossesAt built_in says front again → (kept : List Kept) → Reaches kept 0 text says
nothing-before once in_bytes alike singly before says text front at again utf8 crosses is_front long crosses_front kept = λ s may right.
    absurd (front-uncrossed once in_bytes alike singly before says text front at utf8 crosses is_front long s may right again crosses_front)

-- What is made of a whole text is a guess by these answers,
pub reached-first : (says : Question → Answer) (text : List ℕ) (f : Guessed) → IsReached says text text f → IsSaid says f × ReachesFirst says f
reached-first says text f is = (is.0.said, subst (λ (front : List ℕ). ReachesIn front says f) (sym is.0.whole) is.1)

-- so it is one by whoever says them of a chunk with that text,
pub reached-by : (by : By) (f : Guessed) → IsReached (says_by by) (chunk_of by) (chunk_of by) f → IsBy f by
reached-by by f is = record { text = is.0.whole; said = is.0.said; reaches = (reached-first (says_by by) (chunk_of by) f is).1 }

-- and stays so once that is told.
pub told-first : (says : Question → Answer) (f later : Guessed) (by : By) → later ≡ record f { by = Some by } → IsSaid says f × ReachesFirst says f → IsSaid says later × ReachesFirst says later
told-first says f later by is h =
    subst (λ (x : Guessed). IsSaid says x × ReachesFirst says x) (sym is)
    (record { more = h.0.more; first = h.0.first; said = h.0.said }, h.1)
