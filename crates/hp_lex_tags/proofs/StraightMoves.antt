-- The rows' moves over the parts of a usual tag.
use Rattle.std.proofs.Common.{◌≡◌, ℕ, ◌+◌, ◌<◌, ◌≤◌, List, [], ◌∷◌, ◌++◌, Bool, true, false, ◌&&◌, cond, length, map, refl, ap, ◌∙◌, sym, subst, arith, Option, Some, append-nil, append_assoc, length-append, IsTrue}
use Rattle.std.specs.Prelude.{◌==◌, nat_lt, sum_by}
use borrow.Author.Tests.{ltb-true, lt-ltb}
use Rattle.std.specs.Char.{len_utf8}
use Rattle.std.proofs.lemmas.Bool.{and_parts}
use Rattle.std.proofs.lemmas.List.Sums.{sum_by-cons}
use Rattle.hp_names.specs.References.{Reference}
use Rattle.hp_elements.specs.declared.token.Token.{Token}
use Rattle.hp_tokens.specs.declared.state.State.{State}
use Rattle.hp_tokens.specs.declared.state.State.TheVariants.{Data, TagName, BeforeAttributeName, AttributeName, AfterAttributeName, AttributeValueUnquoted, AfterAttributeValueQuoted, SelfClosingStartTag}
use Rattle.hp_tokens.specs.declared.building.Building.{Building}
use Rattle.hp_tokens.specs.declared.building.Building.TheVariants.{Nothing, StartTag}
use Rattle.hp_tokens.specs.declared.building.NewTag.{NewTag}
use Rattle.hp_tokens.specs.declared.machine.Machine.{Machine}
use Rattle.hp_tokens.specs.declared.rows.Reads.TheVariants.{Consume, Again}
use Rattle.hp_tokens.specs.Reading.{Unread, Reads, ReadsRun}
use Rattle.hp_tokens.specs.States.{is_resting}
use Rattle.hp_tokens.specs.Rows.{Row, is_blank, stay}
use Rattle.hp_tokens.specs.Moves.{Lexing, makes, standing, after_row, read_as, move}
use Rattle.hp_tokens.specs.Runs.{here, onward}
use Rattle.hp_tokens.specs.PlainLaws.{unlike}
use Rattle.hp_tokens.proofs.Pieces.{Leads-join}
use Rattle.hp_tokens.proofs.Stepping.{by_rows}
use Rattle.hp_tokens.proofs.Told.{never}
use Rattle.hp_lex_tags.specs.Rows.{has_row, row}
use Rattle.hp_lex_tags.specs.Tags.{tag_rules}
use Rattle.hp_tokens.specs.Reading.{SkipsRun}
use Rattle.hp_lex_tags.specs.declared.straight.Way.{Way}
use Rattle.hp_lex_tags.specs.declared.straight.Way.TheVariants as way
use Rattle.hp_lex_tags.specs.Straight.{Reading, tagging, tag_of, is_between, ends_part, behind_blanks, Onto, Closes, ClosesStart, Arrives, Continues}
use Rattle.hp_lex_tags.proofs.NamedSteps.{tags_rows}

-- a row that reads again, and one that emits a token and rests
abbrev pub reread : Machine → Row
reread m = record { to = m; reads = Again; emits = [] }

abbrev pub emitting : Token → Machine → Row
emitting t m = record { to = m; reads = Consume; emits = t ∷ [] }

read_same : (c : ℕ) → (c == 13) ≡ false → read_as c ≡ c
read_same c h = rw h refl

-- a move by the row of the state, on a code point that is no CR
by_row : (names : List Reference) (m : Machine) (p r c : ℕ) (u : List ℕ) (x : Row) → m.after_cr ≡ false → IsTrue (has_row m.state) → (c == 13) ≡ false
    → row m (Some c) ≡ x
    → move (tag_rules names) (record { machine = m; place = p; rested = r; unread = c ∷ u }) ≡ after_row x (record { machine = m; place = p; rested = r; unread = c ∷ u }) c u x.reads
by_row names m p r c u x clear is cr e =
    let l : Lexing = record { machine = m; place = p; rested = r; unread = c ∷ u } in
    (by_rows (tag_rules names) has_row row (tags_rows names)).by_row l c u refl (ap (λ (b : Bool). b && c == 10) clear) is
    ∙ (ap (λ (y : ℕ). after_row (row m (Some y)) l c u (row m (Some y)).reads) (read_same c cr)
    ∙ ap (λ (y : Row). after_row y l c u y.reads) e)

-- the code point is consumed, from any machine to one in a state of tags
pub consumed_move : (names : List Reference) (m to : Machine) (p q r c : ℕ) (u text : List ℕ) → m.after_cr ≡ false → to.after_cr ≡ false → IsTrue (has_row m.state)
    → is_resting to.state ≡ false → (c == 13) ≡ false → row m (Some c) ≡ stay to → text ≡ c ∷ u → q ≡ p + len_utf8 c
    → move (tag_rules names) (record { machine = m; place = p; rested = r; unread = text }) ≡ makes (record { machine = to; place = q; rested = r; unread = u }) []
consumed_move names m to p q r c u text clear cleared is rest cr e begins at =
    ap (λ (xs : List ℕ). move (tag_rules names) (record { machine = m; place = p; rested = r; unread = xs })) begins
    ∙ (by_row names m p r c u (stay to) clear is cr e
    ∙ (ap (λ (b : Bool). makes (standing (record to { after_cr = b }) (p + len_utf8 c) r u) []) (cr ∙ sym cleared)
    ∙ (ap (λ (b : Bool). makes (record { machine = to; place = p + len_utf8 c; rested = cond b (p + len_utf8 c) r; unread = u }) []) rest
    ∙ ap (λ (x : ℕ). makes (record { machine = to; place = x; rested = r; unread = u }) []) (sym at))))

-- the code point is read again
pub reread_move : (names : List Reference) (m to : Machine) (p r c : ℕ) (u text : List ℕ) → m.after_cr ≡ false → IsTrue (has_row m.state)
    → is_resting to.state ≡ false → (c == 13) ≡ false → row m (Some c) ≡ reread to → text ≡ c ∷ u
    → move (tag_rules names) (record { machine = m; place = p; rested = r; unread = text }) ≡ makes (record { machine = to; place = p; rested = r; unread = text }) []
reread_move names m to p r c u text clear is rest cr e begins =
    ap (λ (xs : List ℕ). move (tag_rules names) (record { machine = m; place = p; rested = r; unread = xs })) begins
    ∙ (by_row names m p r c u (reread to) clear is cr e
    ∙ (ap (λ (b : Bool). makes (record { machine = to; place = p; rested = cond b p r; unread = c ∷ u }) []) rest
    ∙ ap (λ (xs : List ℕ). makes (record { machine = to; place = p; rested = r; unread = xs }) []) (sym begins)))

shorter_by : (c : ℕ) (text u : List ℕ) → text ≡ c ∷ u → length u ≤ length text
shorter_by c text u e = omega (arith, ap length e)

pub consumes : {names : List Reference} (s n : State) (b d : Building) (c : ℕ) (old new : Unread) → ((last : Option (List ℕ)) → row (tagging last s b) (Some c) ≡ stay (tagging last n d))
    → IsTrue (has_row s) → is_resting n ≡ false → (c == 13) ≡ false → Reads old c new → Onto names s b old n d new
consumes {names} s n b d c old new e is rest cr taken = record {
  leads = λ last start. onward (consumed_move names (tagging last s b) (tagging last n d) old.place new.place start c new.text old.text refl refl is rest cr (e last) taken.text taken.place) here;
  shorter = shorter_by c old.text new.text taken.text;
}

pub rereads : {names : List Reference} (s n : State) (b d : Building) (c : ℕ) (u : List ℕ) (old : Unread) → ((last : Option (List ℕ)) → row (tagging last s b) (Some c) ≡ reread (tagging last n d))
    → IsTrue (has_row s) → is_resting n ≡ false → (c == 13) ≡ false → old.text ≡ c ∷ u → Onto names s b old n d old
rereads {names} s n b d c u old e is rest cr begins = record {
  leads = λ last start. onward (reread_move names (tagging last s b) (tagging last n d) old.place start c u old.text refl is rest cr (e last) begins) here;
  shorter = omega arith;
}

pub onto_same : {names : List Reference} (s : State) (b : Building) (old : Unread) → Onto names s b old s b old
onto_same {names} s b old = record { leads = λ last start. here; shorter = omega arith }

pub onto_join : {names : List Reference} {s n k : State} {b d f : Building} {old mid new : Unread} → Onto names s b old n d mid → Onto names n d mid k f new → Onto names s b old k f new
onto_join {names} a c = record {
  leads = λ last start. Leads-join (a.leads last start) (c.leads last start);
  shorter = omega (arith, a.shorter, c.shorter);
}

pub closes_join : {names : List Reference} {s n : State} {b d : Building} {old mid new : Unread} {tag : Token} {name : Option (List ℕ) → Option (List ℕ)}
    → Onto names s b old n d mid → Closes names n d mid tag name new → Closes names s b old tag name new
closes_join {names} a c = record { n = c.n; d = c.d; mid = c.mid; onto = onto_join a c.onto; last = c.last }

pub arrives_join : {names : List Reference} {s n : State} {b d : Building} {old mid : Unread} (new : Unread) (reading : Reading) (w : Way)
    → Onto names s b old n d mid → Arrives names n d mid reading new w → Arrives names s b old reading new w
arrives_join {names} new reading (way.At k) a h = (onto_join a h.0, h.1, omega (arith, a.shorter, h.2))
arrives_join {names} new reading (way.Whole closing) a h = closes_join a h
arrives_join {names} new reading way.Left a h = tt

-- behind a value in quotes
pub continues_join : {names : List Reference} {s : State} {b : Building} {old mid : Unread} (new : Unread) (reading : Reading) (w : Way)
    → Onto names s b old AfterAttributeValueQuoted (StartTag (tag_of reading)) mid → length mid.text < length old.text → Continues names mid reading new w → Arrives names s b old reading new w
continues_join {names} new reading (way.At k) a less h = (onto_join a h.0, h.1, omega (arith, less, h.0.shorter))
continues_join {names} new reading (way.Whole closing) a less h = closes_join a h
continues_join {names} new reading way.Left a less h = tt

pub continues : (names : List Reference) (old new : Unread) (reading : Reading) (w : Way)
    → Arrives names AfterAttributeValueQuoted (StartTag (tag_of reading)) old reading new w → Continues names old reading new w
continues names old new reading (way.At k) h = (h.0, h.1)
continues names old new reading (way.Whole closing) h = h
continues names old new reading way.Left h = tt

-- the tag is emitted on the code point that is consumed
pub emits_here : {names : List Reference} (s : State) (b : Building) (c : ℕ) (old new : Unread) (tag : Token) (name : Option (List ℕ) → Option (List ℕ))
    → ((last : Option (List ℕ)) → row (tagging last s b) (Some c) ≡ emitting tag (tagging (name last) Data Nothing))
    → IsTrue (has_row s) → (c == 13) ≡ false → Reads old c new → Closes names s b old tag name new
emits_here {names} s b c old new tag name e is cr taken = record {
  n = s;
  d = b;
  mid = old;
  onto = onto_same s b old;
  last = λ last start.
      ap (λ (xs : List ℕ). move (tag_rules names) (record { machine = tagging last s b; place = old.place; rested = start; unread = xs })) taken.text
      ∙ (by_row names (tagging last s b) old.place start c new.text (emitting tag (tagging (name last) Data Nothing)) refl is cr (e last)
      ∙ (ap (λ (x : Bool). makes (standing (record (tagging (name last) Data Nothing) { after_cr = x }) (old.place + len_utf8 c) start new.text) (record { began = start; token = tag } ∷ [])) cr
      ∙ ap (λ (x : ℕ). makes (record { machine = tagging (name last) Data Nothing; place = x; rested = x; unread = new.text }) (record { began = start; token = tag } ∷ [])) (sym taken.place)));
}

-- a run in a state, each code point of which does the same
module _ (s : State) (is : IsTrue (has_row s)) (rest : is_resting s ≡ false) (passes : ℕ → Bool) (no_cr : passes 13 ≡ false) (f : ℕ → ℕ) (g : List ℕ → Building)
    (stays : (last : Option (List ℕ)) (xs : List ℕ) (c : ℕ) → passes c ≡ true → row (tagging last s (g xs)) (Some c) ≡ stay (tagging last s (g (xs ++ f c ∷ [])))) where
  pub over_run : {names : List Reference} (run xs : List ℕ) (old new : Unread) → ReadsRun passes old run new → Onto names s (g xs) old s (g (xs ++ map f run)) new
  over_run {names} [] xs old new r =
      let same : old ≡ new = ap (λ (u : List ℕ). record { place = old.place; text = u }) r.text ∙ ap (λ (p : ℕ). record { place = p; text = new.text }) (let at : old.place ≡ new.place = omega (arith, r.place) in at) in
      let P : Unread → Type 0 = λ x. Onto names s (g xs) old s (g (xs ++ [])) x in
      let Q : List ℕ → Type 0 = λ ys. Onto names s (g xs) old s (g ys) old in
      subst P same (subst Q (sym (append-nil xs)) (onto_same s (g xs) old))
  over_run {names} (c ∷ cs) xs old new r =
      let mid : Unread = record { place = old.place + len_utf8 c; text = cs ++ new.text } in
      let passed = and_parts (passes c) _ r.passes in
      let first : Onto names s (g xs) old s (g (xs ++ f c ∷ [])) mid =
      consumes s s (g xs) (g (xs ++ f c ∷ [])) c old mid (λ last. stays last xs c passed.0) is rest (unlike passes 13 c no_cr passed.0) (record { text = r.text; place = refl }) in
      let rest_run : ReadsRun passes mid cs new =
      record { text = refl; place = (let at : new.place ≡ (old.place + len_utf8 c) + sum_by len_utf8 cs = omega (arith, r.place, sum_by-cons len_utf8 c cs) in at); passes = passed.1 } in
      let P : List ℕ → Type 0 = λ ys. Onto names s (g xs) old s (g ys) new in
      subst P (append_assoc xs (f c ∷ []) (map f cs)) (onto_join first (over_run cs (xs ++ f c ∷ []) mid new rest_run))

-- `>` and `/` end what was read before
pub closes_on : {names : List Reference} (s : State) (reading : Reading) (old new : Unread) → ends_part s ≡ true → Reads old 62 new
    → ClosesStart names s (StartTag (tag_of reading)) old false reading new
closes_on {names} TagName reading old new h taken = emits_here TagName (StartTag (tag_of reading)) 62 old new _ _ (λ last. refl) refl refl taken
closes_on {names} AfterAttributeName reading old new h taken = emits_here AfterAttributeName (StartTag (tag_of reading)) 62 old new _ _ (λ last. refl) refl refl taken
closes_on {names} AfterAttributeValueQuoted reading old new h taken = emits_here AfterAttributeValueQuoted (StartTag (tag_of reading)) 62 old new _ _ (λ last. refl) refl refl taken
closes_on {names} BeforeAttributeName reading old new h taken =
    closes_join (rereads BeforeAttributeName AfterAttributeName (StartTag (tag_of reading)) (StartTag (tag_of reading)) 62 new.text old (λ last. refl) refl refl refl taken.text)
    (emits_here AfterAttributeName (StartTag (tag_of reading)) 62 old new _ _ (λ last. refl) refl refl taken)
closes_on {names} AttributeName reading old new h taken =
    closes_join (rereads AttributeName AfterAttributeName (StartTag (tag_of reading)) (StartTag (tag_of reading)) 62 new.text old (λ last. refl) refl refl refl taken.text)
    (emits_here AfterAttributeName (StartTag (tag_of reading)) 62 old new _ _ (λ last. refl) refl refl taken)
closes_on {names} _ reading old new h taken = never h

pub slash_on : {names : List Reference} (s : State) (b : NewTag) (old new : Unread) → ends_part s ≡ true → Reads old 47 new → Onto names s (StartTag b) old SelfClosingStartTag (StartTag b) new
slash_on {names} TagName b old new h taken = consumes TagName SelfClosingStartTag (StartTag b) (StartTag b) 47 old new (λ last. refl) refl refl refl taken
slash_on {names} AfterAttributeName b old new h taken = consumes AfterAttributeName SelfClosingStartTag (StartTag b) (StartTag b) 47 old new (λ last. refl) refl refl refl taken
slash_on {names} AfterAttributeValueQuoted b old new h taken = consumes AfterAttributeValueQuoted SelfClosingStartTag (StartTag b) (StartTag b) 47 old new (λ last. refl) refl refl refl taken
slash_on {names} BeforeAttributeName b old new h taken =
    onto_join (rereads BeforeAttributeName AfterAttributeName (StartTag b) (StartTag b) 47 new.text old (λ last. refl) refl refl refl taken.text)
    (consumes AfterAttributeName SelfClosingStartTag (StartTag b) (StartTag b) 47 old new (λ last. refl) refl refl refl taken)
slash_on {names} AttributeName b old new h taken =
    onto_join (rereads AttributeName AfterAttributeName (StartTag b) (StartTag b) 47 new.text old (λ last. refl) refl refl refl taken.text)
    (consumes AfterAttributeName SelfClosingStartTag (StartTag b) (StartTag b) 47 old new (λ last. refl) refl refl refl taken)
slash_on {names} _ b old new h taken = never h

-- behind `/`, `>` closes the tag
pub closes_self : {names : List Reference} (reading : Reading) (old new : Unread) → Reads old 62 new
    → ClosesStart names SelfClosingStartTag (StartTag (tag_of reading)) old true reading new
closes_self {names} reading old new taken = emits_here SelfClosingStartTag (StartTag (tag_of reading)) 62 old new _ _ (λ last. refl) refl refl taken

-- `>` behind a value without quotes
pub closes_unquoted : {names : List Reference} (reading : Reading) (old new : Unread) → Reads old 62 new
    → ClosesStart names AttributeValueUnquoted (StartTag (tag_of reading)) old false reading new
closes_unquoted {names} reading old new taken = emits_here AttributeValueUnquoted (StartTag (tag_of reading)) 62 old new _ _ (λ last. refl) refl refl taken

-- a blank is no CR
blank_no_cr : (c : ℕ) → is_blank c ≡ true → (c == 13) ≡ false
blank_no_cr c h = unlike is_blank 13 c refl h

-- a blank ends what was read before; between two attributes nothing changes
blank_stays : (s : State) (b : Building) (c : ℕ) → is_between s ≡ true → is_blank c ≡ true → (last : Option (List ℕ)) → row (tagging last s b) (Some c) ≡ stay (tagging last s b)
blank_stays BeforeAttributeName b c h blank last = rw blank refl
blank_stays AfterAttributeName b c h blank last = rw blank refl
blank_stays _ b c h blank last = never h

pub between_row : (s : State) → is_between s ≡ true → IsTrue (has_row s)
between_row BeforeAttributeName h = refl
between_row AfterAttributeName h = refl
between_row _ h = never h

pub between_rest : (s : State) → is_between s ≡ true → is_resting s ≡ false
between_rest BeforeAttributeName h = refl
between_rest AfterAttributeName h = refl
between_rest _ h = never h

pub over_blanks : {names : List Reference} (s : State) (b : Building) (run : List ℕ) (old new : Unread) → is_between s ≡ true → ReadsRun is_blank old run new → Onto names s b old s b new
over_blanks {names} s b run old new h r =
    over_run s (between_row s h) (between_rest s h) is_blank refl (λ c. c) (λ xs. b) (λ last xs c blank. blank_stays s b c h blank last) run [] old new r

first_blank : {names : List Reference} (s : State) (t : NewTag) (c : ℕ) (old new : Unread) → ends_part s ≡ true → is_blank c ≡ true → Reads old c new
    → Onto names s (StartTag t) old (behind_blanks s) (StartTag t) new
first_blank {names} TagName t c old new h blank taken = consumes TagName BeforeAttributeName (StartTag t) (StartTag t) c old new (λ last. rw blank refl) refl refl (blank_no_cr c blank) taken
first_blank {names} AfterAttributeValueQuoted t c old new h blank taken =
    consumes AfterAttributeValueQuoted BeforeAttributeName (StartTag t) (StartTag t) c old new (λ last. rw blank refl) refl refl (blank_no_cr c blank) taken
first_blank {names} BeforeAttributeName t c old new h blank taken = consumes BeforeAttributeName BeforeAttributeName (StartTag t) (StartTag t) c old new (λ last. rw blank refl) refl refl (blank_no_cr c blank) taken
first_blank {names} AfterAttributeName t c old new h blank taken = consumes AfterAttributeName AfterAttributeName (StartTag t) (StartTag t) c old new (λ last. rw blank refl) refl refl (blank_no_cr c blank) taken
first_blank {names} AttributeName t c old new h blank taken =
    onto_join (rereads AttributeName AfterAttributeName (StartTag t) (StartTag t) c new.text old (λ last. rw blank refl) refl refl (blank_no_cr c blank) taken.text)
    (consumes AfterAttributeName AfterAttributeName (StartTag t) (StartTag t) c old new (λ last. rw blank refl) refl refl (blank_no_cr c blank) taken)
first_blank {names} _ t c old new h blank taken = never h

behind_between : (s : State) → is_between (behind_blanks s) ≡ true
behind_between AttributeName = refl
behind_between AfterAttributeName = refl
behind_between _ = refl

-- a run of blanks that is not empty
pub blanks_on : {names : List Reference} (s : State) (reading : Reading) (run : List ℕ) (old new : Unread) → ends_part s ≡ true → 0 < length run → ReadsRun is_blank old run new
    → Arrives names s (StartTag (tag_of reading)) old reading new (way.At (behind_blanks s))
blanks_on {names} s reading [] old new h some r = absurd (omega (arith, some))
blanks_on {names} s reading (c ∷ cs) old new h some r =
    let mid : Unread = record { place = old.place + len_utf8 c; text = cs ++ new.text } in
    let passed = and_parts (is_blank c) _ r.passes in
    let rest_run : ReadsRun is_blank mid cs new =
    record { text = refl; place = (let at : new.place ≡ (old.place + len_utf8 c) + sum_by len_utf8 cs = omega (arith, r.place, sum_by-cons len_utf8 c cs) in at); passes = passed.1 } in
    let a : Onto names s (StartTag (tag_of reading)) old (behind_blanks s) (StartTag (tag_of reading)) mid = first_blank s (tag_of reading) c old mid h passed.0 (record { text = r.text; place = refl }) in
    let rest : Onto names (behind_blanks s) (StartTag (tag_of reading)) mid (behind_blanks s) (StartTag (tag_of reading)) new =
    over_blanks (behind_blanks s) (StartTag (tag_of reading)) cs mid new (behind_between s) rest_run in
    (onto_join a rest, behind_between s, omega (arith, ap length r.text, length-append cs new.text))

pub blanks_unquoted : {names : List Reference} (reading : Reading) (run : List ℕ) (old new : Unread) → 0 < length run → ReadsRun is_blank old run new
    → Arrives names AttributeValueUnquoted (StartTag (tag_of reading)) old reading new (way.At BeforeAttributeName)
blanks_unquoted {names} reading [] old new some r = absurd (omega (arith, some))
blanks_unquoted {names} reading (c ∷ cs) old new some r =
    let mid : Unread = record { place = old.place + len_utf8 c; text = cs ++ new.text } in
    let passed = and_parts (is_blank c) _ r.passes in
    let rest_run : ReadsRun is_blank mid cs new =
    record { text = refl; place = (let at : new.place ≡ (old.place + len_utf8 c) + sum_by len_utf8 cs = omega (arith, r.place, sum_by-cons len_utf8 c cs) in at); passes = passed.1 } in
    let t : Building = StartTag (tag_of reading) in
    let a : Onto names AttributeValueUnquoted t old BeforeAttributeName t mid =
    consumes AttributeValueUnquoted BeforeAttributeName t t c old mid (λ last. rw passed.0 refl) refl refl (blank_no_cr c passed.0) (record { text = r.text; place = refl }) in
    (onto_join a (over_blanks BeforeAttributeName t cs mid new refl rest_run), refl, omega (arith, ap length r.text, length-append cs new.text))

-- what may end the tag, in the order in which it is looked for
module _ (s : State) (reading : Reading) (h : ends_part s ≡ true) where
  pub close_self : {names : List Reference} (old mid slash new : Unread) → mid ≡ old → Reads mid 47 slash → Reads slash 62 new → Arrives names s (StartTag (tag_of reading)) old reading new (way.Whole true)
  close_self {names} old mid slash new e f taken =
      let P : Unread → Type 0 = λ u. Reads u 47 slash in
      closes_join (slash_on s (tag_of reading) old slash h (subst P e f)) (closes_self reading slash new taken)

-- blanks were taken, or there are none
pub none_skipped : (old mid : Unread) → SkipsRun is_blank old mid false → mid ≡ old
none_skipped old mid k = go k.run k.says k.reads
  where
    go : (run : List ℕ) → false ≡ nat_lt 0 (length run) → ReadsRun is_blank old run mid → mid ≡ old
    go [] says r = ap (λ (u : List ℕ). record { place = mid.place; text = u }) (sym r.text) ∙ ap (λ (p : ℕ). record { place = p; text = old.text }) (let at : mid.place ≡ old.place = omega (arith, r.place) in at)
    go (c ∷ cs) says r = let h : false ≡ true = says ∙ lt-ltb 0 (length (c ∷ cs)) (omega arith) in cc

some_skipped : (run : List ℕ) → true ≡ nat_lt 0 (length run) → 0 < length run
some_skipped run says = ltb-true 0 (length run) (sym says)

pub behind_some : {names : List Reference} (s n : State) (reading : Reading) (old new : Unread) → ends_part s ≡ true → SkipsRun is_blank old new true → n ≡ behind_blanks s
    → Arrives names s (StartTag (tag_of reading)) old reading new (way.At n)
behind_some {names} s n reading old new h k e =
    let P : State → Type 0 = λ x. Arrives names s (StartTag (tag_of reading)) old reading new (way.At x) in
    subst P (sym e) (blanks_on s reading k.run old new h (some_skipped k.run k.says) k.reads)

pub behind_none : (names : List Reference) (s : State) (reading : Reading) (old mid new : Unread) (w : Way) → SkipsRun is_blank old mid false
    → Arrives names s (StartTag (tag_of reading)) mid reading new w → Arrives names s (StartTag (tag_of reading)) old reading new w
behind_none names s reading old mid new w k h = let P : Unread → Type 0 = λ u. Arrives names s (StartTag (tag_of reading)) u reading new w in subst P (none_skipped old mid k) h

pub unquoted_some : {names : List Reference} (reading : Reading) (old new : Unread) → SkipsRun is_blank old new true
    → Arrives names AttributeValueUnquoted (StartTag (tag_of reading)) old reading new (way.At BeforeAttributeName)
unquoted_some {names} reading old new k = blanks_unquoted reading k.run old new (some_skipped k.run k.says) k.reads

pub unquoted_closed : {names : List Reference} (reading : Reading) (old mid new : Unread) → SkipsRun is_blank old mid false → Reads mid 62 new
    → Arrives names AttributeValueUnquoted (StartTag (tag_of reading)) old reading new (way.Whole false)
unquoted_closed {names} reading old mid new k taken = let P : Unread → Type 0 = λ u. Reads u 62 new in closes_unquoted reading old new (subst P (none_skipped old mid k) taken)

pub between_ends : (s : State) → is_between s ≡ true → ends_part s ≡ true
between_ends BeforeAttributeName h = refl
between_ends AfterAttributeName h = refl
between_ends _ h = never h

-- what was told of a way that is known
pub arrives_as : (names : List Reference) (s : State) (b : Building) (old new : Unread) (reading : Reading) (w v : Way) → w ≡ v → Arrives names s b old reading new w → Arrives names s b old reading new v
arrives_as names s b old new reading w v e h = let P : Way → Type 0 = λ x. Arrives names s b old reading new x in subst P e h
