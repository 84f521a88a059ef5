-- A run of characters at once is its code points, one by one: of a token, and of the tokens that the lexer emits.
use Rattle.std.proofs.Common.{◌≡◌, ℕ, zero, suc, ◌+◌, ◌*◌, ◌==◌, List, [], ◌∷◌, ◌++◌, map, length, Bool, true, false, ◌&&◌, ◌||◌, refl, sym, ap, ◌∙◌, subst, arith, Option, None, Some, IsSome, append_assoc}
use Rattle.std.specs.Prelude.{if◌then◌else◌, All}
use Rattle.std.specs.List.{list_any}
use Rattle.std.specs.Option.{unwrap_or}
use Rattle.std.proofs.lemmas.Bool.{true≢false}
use Rattle.std.proofs.lemmas.List.Folds.{list_any-append}
use Rattle.hp_elements.specs.declared.token.CharClass.{CharClass}
use Rattle.hp_elements.specs.declared.token.Token.{Token}
use Rattle.hp_elements.specs.declared.token.Token.TheVariants as token
use Rattle.hp_tokens.specs.Advancing.{IsRun, IsRunText, AreRuns, singles, tokens_of}
use Rattle.hp_tokens.specs.Moves.{Emitted}
use Rattle.hp_control.specs.declared.edit.Edit.{Edit}
use Rattle.hp_control.specs.Outcome.{Touch, is_older}
use Rattle.hp_control.specs.States.{ControlState, IsFormatting, IsValid}
use Rattle.hp_groves.specs.Joining.{JoinTexts, Same, Through}
use Rattle.hp_groves.proofs.Joined.{one_by_one-join}
use Rattle.hp_model.specs.AtOnce.{LeaveSame, RunsTouchFirst, after_first, built_at_once, handle_at_once, handle_rest}
use Rattle.hp_model.specs.Growth.{steps_left}
use Rattle.hp_model.specs.Handling.{all_turns, bound, handle, handle_piece, settled}
use Rattle.hp_model.specs.Rows.{entering, turn}
use Rattle.hp_model.specs.Runs.{AreRead, Built, Parser, built, switched, told}
use Rattle.hp_model.specs.Tokens.{is_line_feed}
use Rattle.hp_model.specs.Turns.{Handled, goes_on, after_turn, before_all, joined, later, left_by, plainly, turns, unchanged}
use Rattle.hp_model.specs.Whole.{IsRead}
use Rattle.hp_model.proofs.Handled.{all_turns-valid, handle-valid, piece-valid, settled-valid, turns-end}
use Rattle.hp_model.proofs.JoinedTexts.{join-behind, join-equal}
use Rattle.hp_model.proofs.Manners.{DealsAfter, HandsOn, Manner, drops, pends, hands_on, puts, carried, manner, turn_deals}
use Rattle.hp_model.proofs.RowLemmas.{joined_assoc, joined_first, joined_last}
use Rattle.hp_model.proofs.Together.{carried_together, stays, turned_together}

-- what leaves the same
pub same_by : (h k : Handled) → h ≡ k → LeaveSame h k
same_by h k e = record {
  control = ap (λ (x : Handled). left_by x) e;
  switch = ap (λ (x : Handled). x.switch) e;
  stopped = ap (λ (x : Handled). x.stopped) e;
  edits = join-equal h.outcome.edits k.outcome.edits (ap (λ (x : Handled). x.outcome.edits) e);
  touched = λ test. ap (λ (x : Handled). list_any test x.outcome.touched) e;
  spared = ap (λ (x : Handled). x.outcome.spared) e;
}

pub same_then : (h k l : Handled) → LeaveSame h k → LeaveSame k l → LeaveSame h l
same_then h k l f g = record {
  control = f.control ∙ g.control;
  switch = f.switch ∙ g.switch;
  stopped = f.stopped ∙ g.stopped;
  edits = Through h.outcome.edits k.outcome.edits l.outcome.edits f.edits g.edits;
  touched = λ test. f.touched test ∙ g.touched test;
  spared = f.spared ∙ g.spared;
}

pub same_joined : (h k l : Handled) → LeaveSame k l → LeaveSame (joined h k) (joined h l)
same_joined h k l f = record {
  control = f.control;
  switch = ap (λ s. later h.switch s) f.switch;
  stopped = ap (λ b. h.stopped || b) f.stopped;
  edits = join-behind h.outcome.edits k.outcome.edits l.outcome.edits f.edits;
  touched = λ test.
      list_any-append test h.outcome.touched k.outcome.touched
      ∙ (ap (λ b. list_any test h.outcome.touched || b) (f.touched test) ∙ sym (list_any-append test h.outcome.touched l.outcome.touched));
  spared = ap (λ b. h.outcome.spared || b) f.spared;
}

-- so many turns of a run, and of its two parts
record Parted (n : ℕ) (class : CharClass) (a b : List ℕ) (c : ControlState) : Type 0 where
  pub first : Handled
  pub second : Handled
  pub whole : Handled
  pub first_is : turns turn n (token.Characters class a) c ≡ Some first
  pub second_is : turn (token.Characters class b) (left_by first) ≡ goes_on second
  pub whole_is : turns turn n (token.Characters class (a ++ b)) c ≡ Some whole
  pub same : LeaveSame (joined first second) whole
  pub touched : (test : Touch → Bool) → list_any test whole.outcome.touched ≡ list_any test first.outcome.touched
  pub skip_lf : (left_by first).skip_lf ≡ c.skip_lf
  pub switch : first.switch ≡ None

abbrev Ended : CharClass → ControlState → Manner → Type 0
Ended class c man = (text : List ℕ) → turn (token.Characters class text) c ≡ goes_on (joined (entering c) (plainly (carried man text c)))

parted_here : (n : ℕ) (class : CharClass) (a b : List ℕ) (c : ControlState) (man : Manner) → All IsFormatting c.formatting → manner class c.mode c.stack ≡ man
    → Ended class c man → Ended class (carried man a c).control man → Parted (suc n) class a b c
parted_here n class a b c man f e here there =
    let s = stays class man a c f e in
    let d : ControlState = (carried man a c).control in
    record {
      first = joined (entering c) (plainly (carried man a c));
      second = joined (entering d) (plainly (carried man b d));
      whole = joined (entering c) (plainly (carried man (a ++ b) c));
      first_is = ap (λ u. after_turn u (turns turn n)) (here a);
      second_is = there b;
      whole_is = ap (λ u. after_turn u (turns turn n)) (here (a ++ b));
      same = turned_together c (carried man a c) (carried man b d) (carried man (a ++ b) c) s.mode (carried_together man a b c);
      touched = λ test. ap (λ ts. list_any test ((entering c).outcome.touched ++ ts)) (sym (carried_together man a b c).touched);
      skip_lf = s.skip_lf;
      switch = refl;
    }

parted_later : (n : ℕ) (class : CharClass) (a b : List ℕ) (c : ControlState) (h : HandsOn (steps_left c.mode) class c (λ text. turn (token.Characters class text) c)) → Parted n class a b (left_by h.first) → Parted (suc n) class a b c
parted_later n class a b c h p = record {
  first = joined h.first p.first;
  second = p.second;
  whole = joined h.first p.whole;
  first_is = ap (λ u. after_turn u (turns turn n)) (h.then_again a) ∙ ap (before_all h.first) p.first_is;
  second_is = p.second_is;
  whole_is = ap (λ u. after_turn u (turns turn n)) (h.then_again (a ++ b)) ∙ ap (before_all h.first) p.whole_is;
  same = same_then (joined (joined h.first p.first) p.second) (joined h.first (joined p.first p.second)) (joined h.first p.whole)
      (same_by (joined (joined h.first p.first) p.second) (joined h.first (joined p.first p.second)) (joined_assoc h.first p.first p.second))
      (same_joined h.first (joined p.first p.second) p.whole p.same);
  touched = λ test.
      list_any-append test h.first.outcome.touched p.whole.outcome.touched
      ∙ (ap (λ b. list_any test h.first.outcome.touched || b) (p.touched test) ∙ sym (list_any-append test h.first.outcome.touched p.first.outcome.touched));
  skip_lf = p.skip_lf ∙ h.skip_lf;
  switch = ap (λ s. later s p.first.switch) h.switch ∙ ap (λ s. later None s) p.switch;
}

some_behind : (h : Handled) (o : Option Handled) → IsSome (before_all h o) → IsSome o
some_behind h None s = absurd (true≢false (sym s))
some_behind h (Some k) s = refl

parted : (n : ℕ) (class : CharClass) (a b : List ℕ) (c : ControlState) → All IsFormatting c.formatting → IsSome (turns turn n (token.Characters class a) c) → Parted n class a b c
parted zero class a b c f s = absurd (true≢false (sym s))
parted (suc n) class a b c f s = go (manner class c.mode c.stack) refl (turn_deals class c) (parted n class a b)
  where
    there : (man : Manner) → manner class c.mode c.stack ≡ man → DealsAfter (steps_left (carried man a c).control.mode) (entering (carried man a c).control) class (carried man a c).control man (λ text. turn (token.Characters class text) (carried man a c).control)
    there man e =
        let d : ControlState = (carried man a c).control in
        subst (λ x. DealsAfter (steps_left d.mode) (entering d) class d x (λ text. turn (token.Characters class text) d)) (stays class man a c f e).manner (turn_deals class d)

    go : (man : Manner) → manner class c.mode c.stack ≡ man → DealsAfter (steps_left c.mode) (entering c) class c man (λ text. turn (token.Characters class text) c)
        → ((d : ControlState) → All IsFormatting d.formatting → IsSome (turns turn n (token.Characters class a) d) → Parted n class a b d)
        → Parted (suc n) class a b c
    go drops e d rest = parted_here n class a b c drops f e d (there drops e)
    go pends e d rest = parted_here n class a b c pends f e d (there pends e)
    go (puts g r x k) e d rest = parted_here n class a b c (puts g r x k) f e d (there (puts g r x k) e)
    go hands_on e d rest =
        let s2 : IsSome (before_all d.first (turns turn n (token.Characters class a) (left_by d.first))) = subst (λ u. IsSome (after_turn u (turns turn n))) (d.then_again a) s in
        parted_later n class a b c d (rest (left_by d.first) (subst (λ list. All IsFormatting list) (sym d.formatting) f) (some_behind d.first (turns turn n (token.Characters class a) (left_by d.first)) s2))

-- one turn is enough where it goes on
pub turned_once : (t : Token) (c : ControlState) (k : Handled) → turn t c ≡ goes_on k → all_turns c t ≡ k
turned_once t c k e =
    let more : bound c ≡ suc (31 + 16 * length c.stack) = omega arith in
    ap (λ n. unwrap_or (turns turn n t c) (unchanged c)) more
    ∙ ap (λ u. unwrap_or (after_turn u (turns turn (31 + 16 * length c.stack))) (unchanged c)) e

record AllParted (class : CharClass) (a b : List ℕ) (c : ControlState) : Type 0 where
  pub same : LeaveSame (joined (all_turns c (token.Characters class a)) (all_turns (left_by (all_turns c (token.Characters class a))) (token.Characters class b))) (all_turns c (token.Characters class (a ++ b)))
  pub touched : (test : Touch → Bool) → list_any test (all_turns c (token.Characters class (a ++ b))).outcome.touched ≡ list_any test (all_turns c (token.Characters class a)).outcome.touched
  pub skip_lf : (left_by (all_turns c (token.Characters class a))).skip_lf ≡ c.skip_lf
  pub switch : (all_turns c (token.Characters class a)).switch ≡ None

all_parted : (class : CharClass) (a b : List ℕ) (c : ControlState) → IsValid c → AllParted class a b c
all_parted class a b c v =
    let p = parted (bound c) class a b c v.formatting (turns-end (token.Characters class a) c tt v) in
    let first : all_turns c (token.Characters class a) ≡ p.first = ap (λ o. unwrap_or o (unchanged c)) p.first_is in
    let whole : all_turns c (token.Characters class (a ++ b)) ≡ p.whole = ap (λ o. unwrap_or o (unchanged c)) p.whole_is in
    let second : all_turns (left_by p.first) (token.Characters class b) ≡ p.second = turned_once (token.Characters class b) (left_by p.first) p.second p.second_is in
    record {
      same =
          subst (λ h. LeaveSame (joined h (all_turns (left_by h) (token.Characters class b))) (all_turns c (token.Characters class (a ++ b)))) (sym first)
          (subst (λ k. LeaveSame (joined p.first k) (all_turns c (token.Characters class (a ++ b)))) (sym second)
          (subst (λ w. LeaveSame (joined p.first p.second) w) (sym whole) p.same));
      touched = λ test. ap (λ (h : Handled). list_any test h.outcome.touched) whole ∙ (p.touched test ∙ ap (λ (h : Handled). list_any test h.outcome.touched) (sym first));
      skip_lf = ap (λ (h : Handled). (left_by h).skip_lf) first ∙ p.skip_lf;
      switch = ap (λ (h : Handled). h.switch) first ∙ p.switch;
    }

abbrev piece : CharClass → ℕ → Token
piece class x = token.Characters class (x ∷ [])

-- where no line feed is skipped
pub not_skipping : (c : ControlState) (t : Token) → c.skip_lf ≡ false → handle_at_once c t ≡ all_turns c t
not_skipping c t e =
    ap (λ b. if b && is_line_feed t then handle_rest (record c { skip_lf = false }) (after_first t) else all_turns (record c { skip_lf = false }) t) e
    ∙ ap (λ b. all_turns (record c { skip_lf = b }) t) (sym e)

-- a run at once is its code points, one by one, also where it begins with a line feed
pub characters_at_once : (class : CharClass) (x : ℕ) (xs : List ℕ) (c : ControlState) → IsValid c → LeaveSame (handle c (token.Characters class (x ∷ xs))) (handle_at_once c (token.Characters class (x ∷ xs)))
characters_at_once class x [] c v = same_by (joined (handle_piece c (piece class x)) (unchanged (left_by (handle_piece c (piece class x))))) (handle_piece c (piece class x)) (joined_last (handle_piece c (piece class x)))
characters_at_once class x (y ∷ ys) c v = go (c.skip_lf && (x == 0xA)) (characters_at_once class y ys)
  where
    rest : List ℕ
    rest = y ∷ ys

    whole : Token
    whole = token.Characters class (x ∷ y ∷ ys)

    go : (b : Bool) → ((d : ControlState) → IsValid d → LeaveSame (handle d (token.Characters class rest)) (handle_at_once d (token.Characters class rest)))
        → LeaveSame (let h = if b then unchanged (settled c) else all_turns (settled c) (piece class x) in joined h (handle (left_by h) (token.Characters class rest)))
        (if b then handle_rest (settled c) (after_first whole) else all_turns (settled c) whole)
    go true more =
        same_then (joined (unchanged (settled c)) (handle (settled c) (token.Characters class rest))) (handle (settled c) (token.Characters class rest)) (all_turns (settled c) (token.Characters class rest))
        (same_by (joined (unchanged (settled c)) (handle (settled c) (token.Characters class rest))) (handle (settled c) (token.Characters class rest)) (joined_first (settled c) (handle (settled c) (token.Characters class rest))))
        (more (settled c) (settled-valid c v))
    go false more =
        let h : Handled = all_turns (settled c) (piece class x) in
        let d : ControlState = left_by h in
        let p = all_parted class (x ∷ []) rest (settled c) (settled-valid c v) in
        let one : LeaveSame (handle d (token.Characters class rest)) (all_turns d (token.Characters class rest)) =
        subst (λ k. LeaveSame (handle d (token.Characters class rest)) k) (not_skipping d (token.Characters class rest) p.skip_lf) (more d (all_turns-valid (piece class x) (settled c) tt (settled-valid c v))) in
        same_then (joined h (handle d (token.Characters class rest))) (joined h (all_turns d (token.Characters class rest))) (all_turns (settled c) whole)
        (same_joined h (handle d (token.Characters class rest)) (all_turns d (token.Characters class rest)) one) p.same

-- another token is one piece
alone : (c : ControlState) (t : Token) → LeaveSame (joined (handle_piece c t) (unchanged (left_by (handle_piece c t)))) (handle_piece c t)
alone c t = same_by (joined (handle_piece c t) (unchanged (left_by (handle_piece c t)))) (handle_piece c t) (joined_last (handle_piece c t))

pub runs_at_once : (t : Token) (c : ControlState) → IsRead t → IsRun t → IsValid c → LeaveSame (handle c t) (handle_at_once c t)
runs_at_once (token.Characters class []) c read run v = absurd run
runs_at_once (token.Characters class (x ∷ xs)) c read run v = characters_at_once class x xs c v
runs_at_once (token.Start self_closing tag) c read run v = alone c (token.Start self_closing tag)
runs_at_once (token.EndTag name) c read run v = alone c (token.EndTag name)
runs_at_once (token.Comment text) c read run v = alone c (token.Comment text)
runs_at_once (token.Doctype parts) c read run v = alone c (token.Doctype parts)
runs_at_once token.EndOfInput c read run v = alone c token.EndOfInput

-- what the code points of a run come to, one by one
record Told (class : CharClass) (text : List ℕ) (rest : List Token) (es : List Emitted) (p : Parser) : Type 0 where
  pub more : List Emitted
  pub tokens : tokens_of more ≡ rest
  pub read : AreRead more
  pub parser : (built p es).parser ≡ (built (record p { control = left_by (handle p.control (token.Characters class text)) }) more).parser
  pub edits : (built p es).edits ≡ (handle p.control (token.Characters class text)).outcome.edits ++ (built (record p { control = left_by (handle p.control (token.Characters class text)) }) more).edits

-- a piece tells the lexer nothing
piece_switch : (class : CharClass) (x : ℕ) (c : ControlState) → IsValid c → (handle_piece c (piece class x)).switch ≡ None
piece_switch class x c v = go (c.skip_lf && (x == 0xA))
  where
    go : (b : Bool) → (if b then unchanged (settled c) else all_turns (settled c) (piece class x)).switch ≡ None
    go true = refl
    go false = (all_parted class (x ∷ []) (x ∷ []) (settled c) (settled-valid c v)).switch

told-none : (p : Parser) (h : Handled) → h.switch ≡ None → told p h ≡ record p { control = left_by h }
told-none p h e = ap (λ s. record { lexing = switched s p.lexing; control = left_by h }) e

first_of : (e : Emitted) (es : List Emitted) (t : Token) (ts : List Token) → tokens_of (e ∷ es) ≡ t ∷ ts → (e.token ≡ t) × (tokens_of es ≡ ts)
first_of e es t ts h = (cc, cc)

none_of : (t : Token) (ts : List Token) → tokens_of [] ≡ t ∷ ts → ⊥
none_of t ts h = cc

told_pieces : (class : CharClass) (text : List ℕ) (rest : List Token) (es : List Emitted) (p : Parser) → IsValid p.control → AreRead es → tokens_of es ≡ map (piece class) text ++ rest → Told class text rest es p
told_pieces class [] rest es p v read e = record { more = es; tokens = e; read = read; parser = refl; edits = refl }
told_pieces class (x ∷ xs) rest [] p v read e = absurd (none_of (piece class x) (map (piece class) xs ++ rest) e)
told_pieces class (x ∷ xs) rest (e ∷ es) p v read h =
    let parts = first_of e es (piece class x) (map (piece class) xs ++ rest) h in
    let c : ControlState = p.control in
    let k : Handled = handle_piece c (piece class x) in
    let q : Parser = record p { control = left_by k } in
    let one : handle c e.token ≡ k = ap (handle c) parts.0 ∙ joined_last k in
    let to : told p (handle c e.token) ≡ q = ap (told p) one ∙ told-none p k (piece_switch class x c v) in
    let more = told_pieces class xs rest es q (piece-valid (piece class x) c tt v) read.1 parts.1 in
    record {
      more = more.more;
      tokens = more.tokens;
      read = more.read;
      parser = ap (λ (r : Parser). (built r es).parser) to ∙ more.parser;
      edits =
          ap (λ (r : Parser). (handle c e.token).outcome.edits ++ (built r es).edits) to
          ∙ (ap (λ (o : Handled). o.outcome.edits ++ (built q es).edits) one
          ∙ (ap (λ (fs : List Edit). k.outcome.edits ++ fs) more.edits
          ∙ sym (append_assoc k.outcome.edits (handle (left_by k) (token.Characters class xs)).outcome.edits (built (record p { control = left_by (handle (left_by k) (token.Characters class xs)) }) more.more).edits)));
    }

-- both lead to the same parser, with the same edits but for how texts are joined
abbrev SameBuilt : Built → Built → Type 0
SameBuilt b c = (b.parser ≡ c.parser) × JoinTexts b.edits c.edits

at_once_after : (p q : Parser) (h k : Handled) (b : Built) (ts : List Token) → LeaveSame h k → q ≡ told p k → SameBuilt b (built_at_once q ts)
    → SameBuilt (record { parser = b.parser; edits = h.outcome.edits ++ b.edits }) (record { parser = (built_at_once (told p k) ts).parser; edits = k.outcome.edits ++ (built_at_once (told p k) ts).edits })
at_once_after p q h k b ts s e f =
    let g : SameBuilt b (built_at_once (told p k) ts) = subst (λ r. SameBuilt b (built_at_once r ts)) e f in
    (g.0, one_by_one-join h.outcome.edits k.outcome.edits b.edits (built_at_once (told p k) ts).edits s.edits g.1)

told-same : (p : Parser) (h k : Handled) → LeaveSame h k → told p h ≡ told p k
told-same p h k s =
    ap (λ x. record { lexing = switched x p.lexing; control = left_by h }) s.switch
    ∙ ap (λ c. record { lexing = switched k.switch p.lexing; control = c }) s.control

-- a run of characters, taken at once
run_switch : (class : CharClass) (x : ℕ) (xs : List ℕ) (c : ControlState) → IsValid c → (handle c (token.Characters class (x ∷ xs))).switch ≡ None
run_switch class x [] c v = ap (λ (h : Handled). h.switch) (joined_last (handle_piece c (piece class x))) ∙ piece_switch class x c v
run_switch class x (y ∷ ys) c v =
    let k : Handled = handle_piece c (piece class x) in
    ap (λ s. later s (handle (left_by k) (token.Characters class (y ∷ ys))).switch) (piece_switch class x c v)
    ∙ ap (λ s. later None s) (run_switch class y ys (left_by k) (piece-valid (piece class x) c tt v))

run_at_once : (class : CharClass) (x : ℕ) (xs : List ℕ) (ts : List Token) (es : List Emitted) (p : Parser) → AreRead es → IsRunText (x ∷ xs) → tokens_of es ≡ map (piece class) (x ∷ xs) ++ singles ts → IsValid p.control
    → ((fs : List Emitted) (q : Parser) → AreRead fs → singles ts ≡ tokens_of fs → IsValid q.control → SameBuilt (built q fs) (built_at_once q ts))
    → SameBuilt (built p es) (built_at_once p (token.Characters class (x ∷ xs) ∷ ts))
run_at_once class x xs ts es p read run e v later_ones =
    let t : Token = token.Characters class (x ∷ xs) in
    let h : Handled = handle p.control t in
    let told_so = told_pieces class (x ∷ xs) (singles ts) es p v read e in
    let q : Parser = record p { control = left_by h } in
    let s = runs_at_once t p.control tt run v in
    let to : q ≡ told p (handle_at_once p.control t) = sym (told-none p h (run_switch class x xs p.control v)) ∙ told-same p h (handle_at_once p.control t) s in
    let more = later_ones told_so.more q told_so.read (sym told_so.tokens) (handle-valid t p.control tt v) in
    let g = at_once_after p q h (handle_at_once p.control t) (built q told_so.more) ts s to more in
    (told_so.parser ∙ g.0, subst (λ (made : List Edit). JoinTexts made (built_at_once p (t ∷ ts)).edits) (sym told_so.edits) g.1)

-- a token that is no run
one_at_once : (t : Token) (ts : List Token) (es : List Emitted) (p : Parser) → AreRead es → IsRun t → tokens_of es ≡ t ∷ singles ts → IsValid p.control
    → ((fs : List Emitted) (q : Parser) → AreRead fs → singles ts ≡ tokens_of fs → IsValid q.control → SameBuilt (built q fs) (built_at_once q ts))
    → SameBuilt (built p es) (built_at_once p (t ∷ ts))
one_at_once t ts [] p read run e v later_ones = absurd (none_of t (singles ts) e)
one_at_once t ts (e ∷ es) p read run h v later_ones =
    let parts = first_of e es t (singles ts) h in
    let own : IsRead t = subst IsRead parts.0 read.0 in
    let s = runs_at_once t p.control own run v in
    let q : Parser = told p (handle p.control t) in
    let more = later_ones es q read.1 (sym parts.1) (handle-valid t p.control own v) in
    subst (λ x. SameBuilt (record { parser = (built (told p (handle p.control x)) es).parser; edits = (handle p.control x).outcome.edits ++ (built (told p (handle p.control x)) es).edits }) (built_at_once p (t ∷ ts)))
    (sym parts.0) (at_once_after p q (handle p.control t) (handle_at_once p.control t) (built q es) ts s (told-same p (handle p.control t) (handle_at_once p.control t) s) more)

pub built_so : (es : List Emitted) (ts : List Token) (p : Parser) → AreRead es → AreRuns ts → singles ts ≡ tokens_of es → IsValid p.control → ((built p es).parser ≡ (built_at_once p ts).parser) × JoinTexts (built p es).edits (built_at_once p ts).edits
built_so [] [] p read runs e v = (refl, Same [])
built_so (e ∷ es) [] p read runs h v = absurd (nothing e es h)
  where
    nothing : (e : Emitted) (es : List Emitted) → [] ≡ tokens_of (e ∷ es) → ⊥
    nothing e es h = cc
built_so es (token.Characters class [] ∷ ts) p read runs e v = absurd runs.0
built_so es (token.Characters class (x ∷ xs) ∷ ts) p read runs e v = run_at_once class x xs ts es p read runs.0 (sym e) v (λ fs q r f. built_so fs ts q r runs.1 f)
built_so es (token.Start self_closing tag ∷ ts) p read runs e v = one_at_once (token.Start self_closing tag) ts es p read tt (sym e) v (λ fs q r f. built_so fs ts q r runs.1 f)
built_so es (token.EndTag name ∷ ts) p read runs e v = one_at_once (token.EndTag name) ts es p read tt (sym e) v (λ fs q r f. built_so fs ts q r runs.1 f)
built_so es (token.Comment text ∷ ts) p read runs e v = one_at_once (token.Comment text) ts es p read tt (sym e) v (λ fs q r f. built_so fs ts q r runs.1 f)
built_so es (token.Doctype parts ∷ ts) p read runs e v = one_at_once (token.Doctype parts) ts es p read tt (sym e) v (λ fs q r f. built_so fs ts q r runs.1 f)
built_so es (token.EndOfInput ∷ ts) p read runs e v = one_at_once token.EndOfInput ts es p read tt (sym e) v (λ fs q r f. built_so fs ts q r runs.1 f)

-- of a run only the first code point that is handled touches something
pub first-touches : RunsTouchFirst
first-touches class x [] s c v e = refl
first-touches class x (y ∷ ys) s c v e =
    let run : Token = token.Characters class (x ∷ y ∷ ys) in
    let test : Touch → Bool = is_older s in
    let whole : list_any test (handle c run).outcome.touched ≡ list_any test (handle_at_once c run).outcome.touched = (characters_at_once class x (y ∷ ys) c v).touched test in
    let at_once : handle_at_once c run ≡ all_turns (settled c) run = ap (λ b. if b then handle_rest (settled c) (after_first run) else all_turns (settled c) run) e in
    let parts : list_any test (all_turns (settled c) run).outcome.touched ≡ list_any test (all_turns (settled c) (piece class x)).outcome.touched = (all_parted class (x ∷ []) (y ∷ ys) (settled c) (settled-valid c v)).touched test in
    let one : handle c (piece class x) ≡ all_turns (settled c) (piece class x) = joined_last (handle_piece c (piece class x)) ∙ ap (λ b. if b then unchanged (settled c) else all_turns (settled c) (piece class x)) e in
    whole ∙ (ap (λ (h : Handled). list_any test h.outcome.touched) at_once ∙ (parts ∙ ap (λ (h : Handled). list_any test h.outcome.touched) (sym one)))
