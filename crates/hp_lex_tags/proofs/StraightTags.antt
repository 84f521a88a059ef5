-- A usual tag as a whole.
use Rattle.std.proofs.Common.{◌≡◌, ℕ, ◌-◌, ◌≤◌, List, [], ◌∷◌, ◌++◌, Bool, true, false, ◌&&◌, cond, refl, ap, ◌∙◌, sym, subst, arith, Option, None, Some, eqb-true, append-nil}
use Rattle.std.specs.Prelude.{◌==◌, ◌+◌, drop, nat_lt, sum_by}
use Rattle.std.specs.Char.{len_utf8}
use Rattle.std.proofs.lemmas.Bool.{and_parts}
use Rattle.hp_names.specs.References.{Reference}
use Rattle.hp_elements.specs.Names.{lowered as lowered_text}
use Rattle.hp_elements.specs.declared.token.Token.{Token}
use Rattle.hp_elements.specs.declared.token.Token.TheVariants as token
use Rattle.hp_tokens.specs.declared.state.State.{State}
use Rattle.hp_tokens.specs.declared.state.State.TheVariants.{Data, TagName}
use Rattle.hp_tokens.specs.declared.building.Building.{Building}
use Rattle.hp_tokens.specs.declared.building.Building.TheVariants.{Nothing, StartTag, EndTag}
use Rattle.hp_tokens.specs.declared.machine.Machine.{Machine}
use Rattle.hp_tokens.specs.declared.lexing.LexState.{LexState}
use Rattle.hp_tokens.specs.Reading.{Unread, first, Reads, IsAsciiFront, ReadsAscii}
use Rattle.hp_tokens.specs.States.{enter, is_resting}
use Rattle.hp_tokens.specs.Parts.{finished_tag}
use Rattle.hp_tokens.specs.Moves.{Lexing, standing, move}
use Rattle.hp_tokens.specs.Runs.{Leads, here, onward}
use Rattle.hp_tokens.specs.Advancing.{held, place_of, lexing, single, IsRun, Advances, at_rest}
use Rattle.hp_tokens.proofs.Pieces.{Leads-join}
use Rattle.hp_tokens.proofs.Stepping.{stand_same}
use Rattle.hp_tokens.proofs.OneByOne.{Appends-none}
use Rattle.hp_lex_tags.specs.Tags.{tag_rules, TagTurned}
use Rattle.hp_tokens.specs.Reading.{opens_start_tag, opens_end_tag}
use Rattle.hp_lex_tags.specs.Straight.{Reading, tagging, within, standing_at, tag_of, Closes, ClosesStart, NameTaken, TagRead, is_tag}
use Rattle.hp_lex_tags.proofs.StraightMoves.{emits_here}
use Rattle.hp_lex_tags.proofs.StraightParts.{named_tag, over_tag_name, over_end_name, starts, ends}

-- what comes next, if it is ASCII, may be skipped
pub ascii_front : (x : ℕ) (text : List ℕ) → first text ≡ Some x → nat_lt x 128 ≡ true → IsAsciiFront 1 text
ascii_front x [] e low = cc
ascii_front x (c ∷ cs) e low = let same : c ≡ x = cc in record { within = omega arith; ascii = ap (λ (y : ℕ). nat_lt y 128 && true) same ∙ ap (λ (b : Bool). b && true) low }

begins_with : (x : ℕ) (text : List ℕ) → first text ≡ Some x → text ≡ x ∷ drop 1 text
begins_with x [] e = cc
begins_with x (c ∷ cs) e = let same : c ≡ x = cc in ap (λ (y : ℕ). y ∷ cs) same

-- and then it was taken
pub skipped : (x : ℕ) (old new : Unread) → first old.text ≡ Some x → len_utf8 x ≡ 1 → ReadsAscii 1 old new → Reads old x new
skipped x old new e one reads = record {
  text = begins_with x old.text e ∙ ap (λ (xs : List ℕ). x ∷ xs) (sym reads.text);
  place = reads.place ∙ ap (λ (k : ℕ). old.place + k) (sym one);
}

pub start_first : (text : List ℕ) → opens_start_tag text ≡ true → first text ≡ Some 60
start_first [] h = cc
start_first (a ∷ []) h = cc
start_first (a ∷ (b ∷ cs)) h = ap (λ (x : ℕ). Some x) (eqb-true a 60 (and_parts (a == 60) _ h).0)

pub end_first : (text : List ℕ) → opens_end_tag text ≡ true → first text ≡ Some 60
end_first [] h = cc
end_first (a ∷ []) h = cc
end_first (a ∷ (b ∷ [])) h = cc
end_first (a ∷ (b ∷ (c ∷ cs))) h = ap (λ (x : ℕ). Some x) (eqb-true a 60 (and_parts (a == 60) _ (and_parts (a == 60 && b == 47) _ h).0).0)

pub end_second : (text rest : List ℕ) → opens_end_tag text ≡ true → text ≡ 60 ∷ rest → first rest ≡ Some 47
end_second text rest h e = go rest (ap (λ (u : List ℕ). opens_end_tag u) (sym e) ∙ h)
  where
    go : (rest : List ℕ) → opens_end_tag (60 ∷ rest) ≡ true → first rest ≡ Some 47
    go [] h = cc
    go (b ∷ []) h = cc
    go (b ∷ (c ∷ cs)) h = ap (λ (x : ℕ). Some x) (eqb-true b 47 (and_parts (b == 47) _ h).0)

module _ (names : List Reference) (m : Machine) (is : m.state ≡ Data) (clear : m.after_cr ≡ false) (old mid : Unread) (taken : Reads old 60 mid) where
  module _ (opens : opens_start_tag old.text ≡ true) (behind : Unread) (front : Reading) (named : NameTaken mid front.name behind)
      (bare : front ≡ record { name = front.name; attributes = []; last = None }) where
    to_name : Leads (move (tag_rules names)) (standing_at m old old.place) [] (within m.last_tag old.place TagName (StartTag (tag_of front)) behind)
    to_name =
        let P : Building → Type 0 = λ b. Leads (move (tag_rules names)) (standing_at m old old.place) [] (within m.last_tag old.place TagName b behind) in
        let same : named_tag (lowered_text named.run) ≡ StartTag (tag_of front) =
        ap (λ (n : List ℕ). named_tag n) (sym named.is) ∙ ap (λ (r : Reading). StartTag (tag_of r)) (sym bare) in
        subst P same
        (Leads-join (starts m is clear old names mid opens taken) ((over_tag_name named.run mid behind named.reads).leads m.last_tag old.place))

    pub start_whole : (n : Machine) (new : Unread) (reading : Reading) (closing : Bool) (tag : Token) → ClosesStart names TagName (StartTag (tag_of front)) behind closing reading new
        → tag ≡ token.Start closing (finished_tag (tag_of reading)) → n ≡ tagging (Some reading.name) Data Nothing → TagRead names m old n new (Some tag)
    start_whole n new reading closing tag c is_tag_of at =
        let P : Token → Type 0 = λ t. TagRead names m old (tagging (Some reading.name) Data Nothing) new (Some t) in
        let Q : Machine → Type 0 = λ x. TagRead names m old x new (Some tag) in
        subst Q (sym at) (subst P (sym is_tag_of) (
          record {
            mid = within m.last_tag old.place c.n c.d c.mid;
            leads = Leads-join to_name (c.onto.leads m.last_tag old.place);
            last = c.last m.last_tag old.place;
          },
          refl,
          refl,
        ))

  module _ (opens : opens_end_tag old.text ≡ true) (slash behind : Unread) (slashed : Reads mid 47 slash) (name : List ℕ) (named : NameTaken slash name behind) where
    to_end_name : Leads (move (tag_rules names)) (standing_at m old old.place) [] (within m.last_tag old.place TagName (EndTag name) behind)
    to_end_name =
        let P : List ℕ → Type 0 = λ n. Leads (move (tag_rules names)) (standing_at m old old.place) [] (within m.last_tag old.place TagName (EndTag n) behind) in
        subst P (sym named.is)
        (Leads-join (ends m is clear old names mid slash opens taken slashed) ((over_end_name named.run slash behind named.reads).leads m.last_tag old.place))

    pub end_whole : (n : Machine) (new : Unread) → Reads behind 62 new → n ≡ tagging m.last_tag Data Nothing → TagRead names m old n new (Some (token.EndTag name))
    end_whole n new closed at =
        let c : Closes names TagName (EndTag name) behind (token.EndTag name) (λ last. last) new =
        emits_here TagName (EndTag name) 62 behind new (token.EndTag name) (λ last. last) (λ last. refl) refl refl closed in
        let Q : Machine → Type 0 = λ x. TagRead names m old x new (Some (token.EndTag name)) in
        subst Q (sym at) (
          record {
            mid = within m.last_tag old.place c.n c.d c.mid;
            leads = Leads-join to_end_name (c.onto.leads m.last_tag old.place);
            last = c.last m.last_tag old.place;
          },
          refl,
          refl,
        )

-- where nothing is held back
lexing_bare : (s : LexState) (input : Unread) (r : ℕ) → s.ahead ≡ [] → lexing s input r ≡ standing s.machine input.place r input.text
lexing_bare s input r ahead =
    let place : place_of s input ≡ input.place = ap (λ (xs : List ℕ). input.place - sum_by len_utf8 xs) ahead ∙ omega arith in
    stand_same refl place refl (ap (λ (xs : List ℕ). xs ++ input.text) ahead)

lexing_rest : (s : LexState) (input : Unread) (r : ℕ) → s.ahead ≡ [] → is_resting s.machine.state ≡ true → lexing s input r ≡ standing_at s.machine input input.place
lexing_rest s input r ahead h =
    lexing_bare s input r ahead ∙ ap (λ (b : Bool). record { machine = s.machine; place = input.place; rested = cond b input.place r; unread = input.text }) h

rests_at : (s : State) → s ≡ Data → is_resting s ≡ true
rests_at s e = ap (λ (x : State). is_resting x) e

single_tag : (t : Token) → is_tag t ≡ true → single t ≡ t ∷ []
single_tag (token.Start closing tag) h = refl
single_tag (token.EndTag name) h = refl
single_tag _ h = cc

run_tag : (t : Token) → is_tag t ≡ true → IsRun t
run_tag (token.Start closing tag) h = tt
run_tag (token.EndTag name) h = tt
run_tag _ h = cc

module _ (names : List Reference) (s t : LexState) (n : Machine) (old new : Unread) (r start : ℕ) (is : s.machine.state ≡ Data) (ahead : s.ahead ≡ [])
    (to : t ≡ record s { machine = n }) (at : start ≡ old.place) where
  turned_some : (tag : Token) → TagRead names s.machine old n new (Some tag) → TagTurned names (lexing s old r) (Some tag) (lexing (record s { machine = n }) new start) start
  turned_some tag h =
      let from : lexing s old r ≡ standing_at s.machine old old.place = lexing_rest s old r ahead (rests_at s.machine.state is) in
      let there : lexing (record s { machine = n }) new start ≡ standing_at n new new.place = lexing_rest (record s { machine = n }) new start ahead (rests_at n.state h.1) in
      let P : Lexing → Type 0 = λ l. TagTurned names l (Some tag) (lexing (record s { machine = n }) new start) start in
      let Q : Lexing → Type 0 = λ l. TagTurned names (standing_at s.machine old old.place) (Some tag) l start in
      let R : ℕ → Type 0 = λ p. TagTurned names (standing_at s.machine old old.place) (Some tag) (standing_at n new new.place) p in
      let e = h.0 in
      subst P (sym from) (subst Q (sym there) (subst R (sym at) (
        (
          record {
            es = record { began = old.place; token = tag } ∷ [];
            leads = Leads-join e.leads (onward e.last here);
            appends = record { more = tag ∷ []; appended = refl; spelled = append-nil (single tag) ∙ single_tag tag h.2; runs = (run_tag tag h.2, tt) };
            began = refl;
            says = refl;
          },
          at_rest (rests_at n.state h.1),
        ),
        e,
      )))

  turned_none : TagRead names s.machine old n new None → TagTurned names (lexing s old r) None (lexing (record s { machine = n }) new start) start
  turned_none h =
      let from : lexing s old r ≡ standing_at s.machine old old.place = lexing_rest s old r ahead (rests_at s.machine.state is) in
      let there : lexing (record s { machine = n }) new start ≡ standing_at n new new.place =
      lexing_rest (record s { machine = n }) new start ahead (rests_at n.state (ap (λ (m : Machine). m.state) h.0 ∙ is)) in
      let same : standing_at n new new.place ≡ standing_at s.machine old old.place =
      ap (λ (m : Machine). standing_at m new new.place) h.0 ∙ ap (λ (u : Unread). standing_at s.machine u u.place) h.1 in
      let P : Lexing → Type 0 = λ l. Advances (tag_rules names) l [] (lexing (record s { machine = n }) new start) [] start false in
      let Q : Lexing → Type 0 = λ l. Advances (tag_rules names) (standing_at s.machine old old.place) [] l [] start false in
      subst P (sym from) (subst Q (sym (there ∙ same)) (record { es = []; leads = here; appends = Appends-none []; began = tt; says = refl }))

  pub tag_turned : (tag : Option Token) → TagRead names s.machine old n new tag → TagTurned names (lexing s old r) tag (lexing t new start) start
  tag_turned tag h = let P : LexState → Type 0 = λ x. TagTurned names (lexing s old r) tag (lexing x new start) start in subst P (sym to) (by_cases tag h)
    where
      by_cases : (tag : Option Token) → TagRead names s.machine old n new tag → TagTurned names (lexing s old r) tag (lexing (record s { machine = n }) new start) start
      by_cases (Some tag) h = turned_some tag h
      by_cases None h = turned_none h

-- no move was made
pub tag_unread : (names : List Reference) (s : LexState) (input : Unread) (r : ℕ) → TagTurned names (lexing s input r) None (lexing s input r) r
tag_unread names s input r = record { es = []; leads = here; appends = Appends-none []; began = tt; says = refl }

-- the machine that rests behind a tag
pub rests_there : (m n : Machine) (last : Option (List ℕ)) → m.after_cr ≡ false → n ≡ enter Data (record m { last_tag = last }) → n ≡ tagging last Data Nothing
rests_there m n last clear e = e ∙ ap (λ (b : Bool). record (tagging last Data Nothing) { after_cr = b }) clear

pub tag_held : (s : LexState) (n : Machine) (input : Unread) → s.ahead ≡ [] → held (record s { machine = n }) ≤ input.place
tag_held s n input ahead = let P : List ℕ → Type 0 = λ xs. sum_by len_utf8 xs ≤ input.place in let none : sum_by len_utf8 [] ≤ input.place = omega arith in subst P (sym ahead) none
