-- A journal stays fair with one entry more.
use Rattle.std.proofs.Common.{◌≡◌, ◌≢◌, ◌<◌, ◌≤◌, ◌+◌, ◌-◌, ◌^◌, ◌++◌, ◌⊎◌, ◌==◌, ◌&&◌, ℕ, List, [], ◌∷◌, Bool, true, false, Option, None, Some, length, take, drop, refl, sym, ap, subst, ◌∙◌, inl, inr, ⊎_elim, arith, eq-eqb}
use Rattle.std.specs.Prelude.{IfSome, slice_get}
use Rattle.std.specs.Str.{chars, bytes_eq}
use Rattle.std.proofs.lemmas.Bool.{cases_Bool, eqb-true, ne_eqb}
use Rattle.std.proofs.lemmas.List.{length-take, length-drop}
use Rattle.std.proofs.lemmas.Option.{get_or_from_slice_get, slice_get_within}
use Rattle.hp_elements.proofs.NameLemmas.{bytes_eq-true}
use Rattle.hp_names.specs.BuiltIn.{built_in}
use Rattle.hp_names.specs.References.{Reference}
use Rattle.hp_control.specs.Agree.{AllTrue}
use Rattle.hp_control.specs.Holds.{Holds}
use Rattle.hp_control.specs.States.{ControlState, start}
use Rattle.hp_control.specs.Tree.{Tree, document}
use Rattle.hp_control.specs.Truth.{answer_of}
use Rattle.hp_control.specs.declared.question.Answer.{Answer}
use Rattle.hp_control.specs.declared.question.Kept.{Kept}
use Rattle.hp_control.specs.declared.question.Question.{Question}
use Rattle.hp_cut.specs.Places.{Cutting}
use Rattle.hp_predict.specs.Guess.{guessed, last_bytes}
use Rattle.hp_predict.specs.Kinds.{LastBytesTell, says_of}
use Rattle.hp_predict.specs.Laws.{IsGuess}
use Rattle.hp_predict.specs.declared.quiet.GuessKind.{GuessKind}
use Rattle.hp_predict.specs.declared.quiet.GuessKind.TheVariants.{Prescan}
use Rattle.hp_predict.proofs.ValidLemmas.{is_guess}
use Rattle.hp_asked.specs.Laws.{RightByTruth, RightSingly}
use Rattle.hp_asked.specs.Singly.{AsksSinglyOver, IsRightSingly}
use Rattle.hp_pieces.specs.At.{AtFits, AtOnce, AtStart, AtValid, IsAt}
use Rattle.hp_pieces.specs.By.{IsBy, before_of, chunk_of, says_by}
use Rattle.hp_pieces.specs.First.{IsFirst}
use Rattle.hp_pieces.specs.FirstLaws.{FirstOnce}
use Rattle.hp_pieces.specs.Guesses.{Guessed as GuessedOf}
use Rattle.hp_pieces.specs.Laws.{RestingWaits, RunsWait}
use Rattle.hp_pieces.specs.Texts.{covered_of, text_of}
use Rattle.hp_pieces.specs.Waiting.{MayStand}
use Rattle.hp_pieces.specs.declared.by.By.{By}
use Rattle.hp_pieces.specs.declared.fragment.Fragment.{Fragment}
use Rattle.hp_pieces.specs.declared.fragment.Fragment.TheVariants as fragment
use Rattle.hp_merge.specs.Checked.{IsFirstFalse, MayJoin}
use Rattle.hp_board.specs.declared.journal.BoardStep.{BoardStep}
use Rattle.hp_board.specs.declared.journal.BoardStep.TheVariants as step
use Rattle.hp_board.specs.declared.journal.Entry.{Entry}
use Rattle.hp_board.specs.declared.journal.Origin.{Origin}
use Rattle.hp_board.specs.declared.journal.Origin.TheVariants as origin
use Rattle.hp_board.specs.declared.kinds.QuestionKind.{QuestionKind}
use Rattle.hp_board.specs.declared.slot.Slot.TheVariants as slot
use Rattle.hp_board.specs.Calls.{IsFalseOf}
use Rattle.hp_board.specs.Desk.{Desk, IsFresh, IsInOrder, IsKept, IsPlaced, before_chunk, chunk_text, entry, origin_in, slot_at}
use Rattle.hp_board.specs.Fair.{IsFair, IsFairEntry, IsRightJudgement, IsScanned, judged_at}
use Rattle.hp_board.specs.Machine.{before_in, chunk_in, end_of, start_of}
use Rattle.hp_board.specs.Origins.{IsToldOf, is_unjudged, judges, last_origin, looks_alike, origin_by, origin_of}

-- a list and one more, cut before the last, or earlier
abbrev AtLast : List Entry → Entry → List Entry → Entry → Type 0
AtLast journal last before e = (before ≡ journal) × (e ≡ last)

abbrev Earlier : List Entry → List Entry → Entry → Type 0
Earlier journal before e = (rest : List Entry) × (journal ≡ before ++ e ∷ rest)

cut_of : (journal : List Entry) (last : Entry) (before behind : List Entry) (e : Entry) → journal ++ last ∷ [] ≡ before ++ e ∷ behind → AtLast journal last before e ⊎ Earlier journal before e
cut_of [] last [] behind e is = inl (refl, cc)
cut_of [] last (b ∷ []) behind e is = absurd cc
cut_of [] last (b ∷ c ∷ before) behind e is = absurd cc
cut_of (j ∷ js) last [] behind e is = inr (js, cc)
cut_of (j ∷ js) last (b ∷ before) behind e is =
    let rest : js ++ last ∷ [] ≡ before ++ e ∷ behind = cc in
    let same : j ≡ b = cc in
    ⊎_elim (λ (x : AtLast js last before e). inl (cc, x.1)) (λ (x : Earlier js before e). inr (x.0, cc)) (cut_of js last before behind e rest)

pub fair-push : (text : List ℕ) (cuts : Cutting) (journal : List Entry) (last : Entry) → IsFair text cuts journal → IsFairEntry text cuts journal last → IsFair text cuts (journal ++ last ∷ [])
fair-push text cuts journal last fair one before behind e is =
    ⊎_elim
    (λ (x : AtLast journal last before e). subst (λ (j : List Entry). IsFairEntry text cuts j e) (sym x.0) (subst (λ (l : Entry). IsFairEntry text cuts journal l) (sym x.1) one))
    (λ (x : Earlier journal before e). fair before x.0 e x.1)
    (cut_of journal last before behind e is)

pub fair-empty : (text : List ℕ) (cuts : Cutting) → IsFair text cuts []
fair-empty text cuts [] behind e is = absurd cc
fair-empty text cuts (b ∷ before) behind e is = absurd cc

-- claims and releases are neither judgements nor posts
pub fair-claimed : (text : List ℕ) (cuts : Cutting) (journal : List Entry) (w k : ℕ) (again : Bool) → IsFairEntry text cuts journal (record { worker = w; step = step.Claimed k again })
fair-claimed text cuts journal w k again = record {
  judged = λ chunk kind judge. absurd cc;
  scanned = λ chunk n is. absurd cc;
}

pub fair-released : (text : List ℕ) (cuts : Cutting) (journal : List Entry) (w k : ℕ) → IsFairEntry text cuts journal (record { worker = w; step = step.Released k })
fair-released text cuts journal w k = record {
  judged = λ chunk kind judge. absurd cc;
  scanned = λ chunk n is. absurd cc;
}

-- the same of another giver of the same answers
true-same : (s : ControlState) (f g : Question → Answer) → ((q : Question) → f q ≡ g q) → (qs : List Question) → AllTrue s f qs → AllTrue s g qs
true-same s f g same [] h = tt
true-same s f g same (q ∷ qs) h = (h.0 ∙ same q, true-same s f g same qs h.1)

right-same : (s : ControlState) (f g : Question → Answer) (text : List ℕ) → ((q : Question) → f q ≡ g q) → IsRightSingly f built_in s text → IsRightSingly g built_in s text
right-same s f g text same right qs asks = true-same s f g same qs (right qs asks)

both : (a b : Bool) → (a && b) ≡ true → (a ≡ true) × (b ≡ true)
both true b h = (refl, h)
both false b h = absurd cc

-- before two chunks that look alike the predictor says the same
alike-says : LastBytesTell → (by : By) (before text : List ℕ) → looks_alike by before text ≡ true → (chunk_of by ≡ text) × ((q : Question) → says_of by.kind before text q ≡ says_by by q)
alike-says tell by before text looks =
    let parts = both (bytes_eq (last_bytes (before_of by)) (last_bytes before)) (bytes_eq (chunk_of by) text) looks in
    let last : last_bytes (before_of by) ≡ last_bytes before = bytes_eq-true (last_bytes (before_of by)) (last_bytes before) parts.0 in
    let own : chunk_of by ≡ text = bytes_eq-true (chunk_of by) text parts.1 in
    (own, λ q. ap (λ (t : List ℕ). says_of by.kind before t q) (sym own) ∙ sym (tell by.kind (before_of by) before (chunk_of by) q last))

-- who guessed what a journal says was guessed by a predictor of that kind
pub record IsGuessedFor (kind : GuessKind) (before text : List ℕ) (posted : Fragment) : Type 0 where
  pub guess : GuessedOf
  pub by : By
  pub is : posted ≡ fragment.Guessed guess
  pub told : guess.by ≡ Some by
  pub looks : looks_alike by before text ≡ true
  pub kind_is : by.kind ≡ kind

named : (guess : GuessedOf) (by : Option By) (kind : GuessKind) (before text : List ℕ) → guess.by ≡ by → origin_by by before text ≡ origin.GuessedBy kind → IsGuessedFor kind before text (fragment.Guessed guess)
named guess None kind before text e is = absurd cc
named guess (Some by) kind before text e is =
    elim (cases_Bool (looks_alike by before text)) [
      | inl looks ↦
          let same : Path Origin (origin.GuessedBy by.kind) (origin.GuessedBy kind) = sym (rw looks refl) ∙ is in
          record { guess = guess; by = by; is = refl; told = e; looks = looks; kind_is = cc }
      | inr other ↦ let no : Path Origin origin.Guessed (origin.GuessedBy kind) = sym (rw other refl) ∙ is in absurd cc
    ]

pub guessed-for : (posted : Fragment) (kind : GuessKind) (before text : List ℕ) → origin_of posted before text ≡ origin.GuessedBy kind → IsGuessedFor kind before text posted
guessed-for (fragment.Exact known) kind before text is = absurd cc
guessed-for (fragment.Guessed guess) kind before text is = named guess guess.by kind before text refl is

-- Such a fragment assumes what is true, and covers what can be covered, over each state before the chunk for which that predictor is right.
reached : LastBytesTell → (posted : Fragment) (kind : GuessKind) (before text : List ℕ) → IsToldOf posted → IsGuessedFor kind before text posted → (s : ControlState) → MayStand built_in s
    → IsRightSingly (says_of kind before text) built_in s (chars text) → MayJoin s posted × IsFirst built_in s (chars text) (covered_of posted)
reached tell posted kind before text told g s may right =
    subst (λ (f : Fragment). MayJoin s f × IsFirst built_in s (chars text) (covered_of f)) (sym g.is) (all s may (right-same s (says_of g.by.kind before text) (says_by g.by) (chars text) alike.1 named_right))
  where
    own : IsToldOf (fragment.Guessed g.guess)
    own = subst IsToldOf g.is told

    is_by : IsBy g.guess g.by
    is_by = subst (λ (by : Option By). IfSome by (IsBy g.guess)) g.told own.1

    alike : (chunk_of g.by ≡ text) × ((q : Question) → says_of g.by.kind before text q ≡ says_by g.by q)
    alike = alike-says tell g.by before text g.looks

    named_right : IsRightSingly (says_of g.by.kind before text) built_in s (chars text)
    named_right = subst (λ (k : GuessKind). IsRightSingly (says_of k before text) built_in s (chars text)) (sym g.kind_is) right

    ReachesSo : List Reference → List ℕ → Type 0
    ReachesSo names bytes = (u : ControlState) → MayStand names u → IsRightSingly (says_by g.by) names u (chars bytes) → Holds g.guess.assumptions u × IsFirst names u (chars bytes) g.guess.covered

    all : ReachesSo built_in text
    all = subst (λ (bytes : List ℕ). ReachesSo built_in bytes) (is_by.text ∙ alike.0) (subst (λ (names : List Reference). ReachesSo names g.guess.text) own.0 is_by.reaches)

-- a guess by a prescan covers what can be covered over the state that it guesses
pub fair-posted : LastBytesTell → RightByTruth → RightSingly → RestingWaits → (desk : Desk) (chunk w : ℕ) (posted : Fragment) → IsKept desk → IsToldOf posted
    → IsFairEntry desk.text desk.cuts desk.journal (entry w (step.Posted chunk (covered_of posted) (origin_in desk chunk posted)))
fair-posted tell truth singly resting desk chunk w posted kept told = record {
  judged = λ k kind judge. absurd cc;
  scanned = λ k n is.
      let same : chunk ≡ k = cc in
      let covered : covered_of posted ≡ n = cc in
      let by : origin_in desk chunk posted ≡ origin.GuessedBy Prescan = cc in
      subst (λ (c : ℕ). IsScanned desk.text desk.cuts c n) same (subst (λ (m : ℕ). IsScanned desk.text desk.cuts chunk m) covered (scanned by));
}
  where
    before : List ℕ
    before = before_chunk desk chunk

    text : List ℕ
    text = chunk_text desk chunk

    short : length text ≤ 2 ^ 24
    short = omega (arith, kept.limit, length-take (end_of desk.cuts chunk - start_of desk.cuts chunk) (drop (start_of desk.cuts chunk) desk.text), length-drop (start_of desk.cuts chunk) desk.text)

    guess : IsGuess 0 (length text) (guessed before text)
    guess = is_guess before text 0 (length text) (omega arith)

    may : MayStand built_in (guessed before text)
    may = record { valid = guess.valid; fits = guess.fits (omega (arith, short)); waits = resting built_in (guessed before text) guess.valid guess.rests }

    scanned : origin_in desk chunk posted ≡ origin.GuessedBy Prescan → IsScanned desk.text desk.cuts chunk (covered_of posted)
    scanned by = (reached tell posted Prescan before text told (guessed-for posted Prescan before text by) (guessed before text) may
        (singly (answer_of (guessed before text)) built_in (guessed before text) (chars text) (truth built_in (guessed before text) (chars text)))).1

stands : AtValid → AtFits → AtStart → RunsWait → (text : List ℕ) (n : ℕ) (s : ControlState) (t : Tree) → length text ≤ 2 ^ 24 → IsAt text n s t → MayStand built_in s
stands valid fits begun waits text n s t limit at = record {
  valid = valid text n s t at;
  fits = fits text n s t at limit;
  waits = waits (chars (take n text)) start s at.edits at.leads (valid text 0 start document (begun text));
}

-- a pair that is false of a state isn't assumed by what may be joined to it
joins-or-false : (s : ControlState) (posted : Fragment) (q : Question) (a : Answer) → MayJoin s posted → IsFalseOf s posted q a → ⊥
joins-or-false s (fragment.Exact known) q a may wrong = wrong
joins-or-false s (fragment.Guessed guess) q a may is =
    let pair : Kept = record { question = q; answer = a } in
    let small : is.place < length guess.assumptions = slice_get_within guess.assumptions is.place pair is.there in
    is.wrong (subst (λ (k : Kept). answer_of s k.question ≡ k.answer) (get_or_from_slice_get guess.assumptions is.place pair pair is.there) (may is.place pair small))

-- The front chunk's judgement, whose fragment was posted so.
module _ (tell : LastBytesTell) (once : FirstOnce) (one : AtOnce) (valid : AtValid) (fits : AtFits) (begun : AtStart) (waits : RunsWait)
    (desk : Desk) (posted : Fragment) (kept : IsKept desk) (within : desk.done < length desk.slots) (here : slot_at desk desk.done ≡ slot.Posted posted) (told : IsToldOf posted) where
  abbrev text : List ℕ
  text = chunk_text desk desk.done

  abbrev before : List ℕ
  before = before_chunk desk desk.done

  front : IsInOrder desk desk.done (slot.Posted posted)
  front = subst (λ s. IsInOrder desk desk.done s) here (kept.slots desk.done within)

  -- where the guess was right, it is that
  record IsTrue (n : ℕ) : Type 0 where
    joins : MayJoin desk.control posted
    covers : n ≡ covered_of posted
    whole : text_of posted ≡ text
    from : desk.place ≡ start_of desk.cuts desk.done

  right-guess : (kind : GuessKind) → last_origin desk.done desk.journal ≡ Some (origin.GuessedBy kind) → (s : ControlState) (t : Tree) (n : ℕ) → IsAt desk.text (start_of desk.cuts desk.done) s t
      → IsRightSingly (says_of kind before text) built_in s (chars text) → IsFirst built_in s (chars text) n → IsTrue n
  right-guess kind last s t n at right first = record { joins = subst (λ (u : ControlState). MayJoin u posted) same both_true.0; covers = once built_in s (chars text) n (covered_of posted) first both_true.1; whole = placed.1; from = from_is }
    where
      by : origin_in desk desk.done posted ≡ origin.GuessedBy kind
      by = let e : Path (Option Origin) (Some (origin_in desk desk.done posted)) (Some (origin.GuessedBy kind)) = sym front.1 ∙ last in cc

      g : IsGuessedFor kind before text posted
      g = guessed-for posted kind before text by

      placed : IsFresh desk desk.done × (text_of posted ≡ text)
      placed = subst (λ (f : Fragment). IsFresh desk desk.done × (text_of f ≡ text)) (sym g.is) (subst (λ (f : Fragment). IsPlaced desk desk.done f) g.is front.0)

      from_is : desk.place ≡ start_of desk.cuts desk.done
      from_is = omega (arith, kept.from, placed.0.behind)

      same : s ≡ desk.control
      same = (one desk.text desk.place s desk.control t desk.tree (subst (λ (n : ℕ). IsAt desk.text n s t) (sym from_is) at) kept.at).0

      both_true : MayJoin s posted × IsFirst built_in s (chars text) (covered_of posted)
      both_true = reached tell posted kind before text told g s (stands valid fits begun waits desk.text (start_of desk.cuts desk.done) s t kept.limit at) right

  -- a judgement of the front chunk
  about-front : (v : BoardStep) → ((kind : GuessKind) → last_origin desk.done desk.journal ≡ Some (origin.GuessedBy kind) → IsRightJudgement desk.text desk.cuts desk.done kind v) → (chunk : ℕ) (kind : GuessKind)
      → (desk.done == chunk) ≡ true → last_origin chunk desk.journal ≡ Some (origin.GuessedBy kind) → IsRightJudgement desk.text desk.cuts chunk kind v
  about-front v right chunk kind same =
      subst (λ (c : ℕ). last_origin c desk.journal ≡ Some (origin.GuessedBy kind) → IsRightJudgement desk.text desk.cuts c kind v) (eqb-true desk.done chunk same) (right kind)

  pub fair-kept : (w : ℕ) → covered_of posted ≡ length (text_of posted) → IsFairEntry desk.text desk.cuts desk.journal (entry w (step.Kept desk.done))
  fair-kept w all = record {
    judged = λ chunk kind judge unjudged.
        about-front (step.Kept desk.done)
        (λ kind last s t n at right first.
        let r = right-guess kind last s t n at right first in
        let whole : n ≡ length text = r.covers ∙ (all ∙ ap length r.whole) in
        rw (eq-eqb n (length text) whole) refl)
        chunk kind judge;
    scanned = λ chunk n is. absurd cc;
  }

  pub fair-repaired : (w place : ℕ) → covered_of posted < length (text_of posted) → start_of desk.cuts desk.done + place ≡ desk.place + covered_of posted → IsFairEntry desk.text desk.cuts desk.journal (entry w (step.Repaired desk.done place))
  fair-repaired w place less is = record {
    judged = λ chunk kind judge unjudged.
        about-front (step.Repaired desk.done place)
        (λ kind last s t n at right first.
        let r = right-guess kind last s t n at right first in
        let short : n ≢ length text = λ e. omega (arith, less, r.covers, ap length r.whole, e) in
        let there : place ≡ n = omega (arith, is, r.from, r.covers) in
        rw (ne_eqb n (length text) short) (ap (step.Repaired desk.done) there))
        chunk kind judge;
    scanned = λ chunk n is. absurd cc;
  }

  pub fair-rolled : (w : ℕ) (q : Question) (a : Answer) (asked : QuestionKind) → IsFalseOf desk.control posted q a → IsFairEntry desk.text desk.cuts desk.journal (entry w (step.RolledBack desk.done asked))
  fair-rolled w q a asked wrong = record {
    judged = λ chunk kind judge unjudged.
        about-front (step.RolledBack desk.done asked)
        (λ kind last s t n at right first. absurd (joins-or-false desk.control posted q a (right-guess kind last s t n at right first).joins wrong))
        chunk kind judge;
    scanned = λ chunk n is. absurd cc;
  }
