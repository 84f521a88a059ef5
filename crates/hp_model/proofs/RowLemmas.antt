-- A row does, act by act, what its plan says.
use Rattle.std.proofs.Common.{◌≡◌, ℕ, ◌+◌, List, [], ◌∷◌, ◌++◌, length, Bool, true, false, ◌||◌, ◌&&◌, refl, ap, sym, ◌∙◌, arith, append_assoc, append-nil, length-append, nat_lt, Option, None, Some}
use Rattle.std.specs.Prelude.{if◌then◌else◌, suc}
use Rattle.std.specs.List.{list_all}
use Rattle.std.proofs.lemmas.Bool.{lt-ltb, le-ltb, and_parts, true≢false}
use Rattle.hp_elements.specs.Rules.{Plan, Row, ends, ◌⨾◌, when, unless, acts_from, acts_for, is_for, plan_for}
use Rattle.hp_elements.specs.Tokens.{kind_of}
use Rattle.hp_elements.specs.declared.act.Act.{Act}
use Rattle.hp_elements.specs.declared.act.Act.TheVariants.{If, Unless}
use Rattle.hp_elements.specs.declared.token.Kind.{Kind}
use Rattle.hp_elements.specs.declared.token.Mode.{Mode}
use Rattle.hp_elements.specs.declared.token.Mode.TheVariants as mode
use Rattle.hp_elements.specs.declared.token.Rest.{Rest}
use Rattle.hp_elements.specs.declared.token.Token.{Token}
use Rattle.hp_control.specs.Outcome.{Outcome, after}
use Rattle.hp_control.specs.States.{ControlState}
use Rattle.hp_rules_rest.specs.Foreign.{foreign}
use Rattle.hp_rules_rest.specs.Whole.{every_mode_rows}
use Rattle.hp_model.specs.Rows.{carry, carry_plan, carry_acts, foreign_turn, mode_turn, next_place, nothing_more, rules}
use Rattle.hp_model.specs.Steps.{holds}
use Rattle.hp_model.specs.Turns.{Handled, Turn, goes_on, done, again, before, and_then, joined, later, left_by, unchanged}

or_assoc : (a b c : Bool) → ((a || b) || c) ≡ (a || (b || c))
or_assoc true b c = refl
or_assoc false b c = refl

later_assoc : (a b c : Option Rest) → later (later a b) c ≡ later a (later b c)
later_assoc a b (Some r) = refl
later_assoc a b None = refl

outcome_assoc : (o p q : Outcome) → after (after o p) q ≡ after o (after p q)
outcome_assoc o p q =
    ap (λ e. record { control = q.control; edits = e; touched = (o.touched ++ p.touched) ++ q.touched; spared = (o.spared || p.spared) || q.spared }) (append_assoc o.edits p.edits q.edits)
    ∙ (ap (λ t. record { control = q.control; edits = o.edits ++ (p.edits ++ q.edits); touched = t; spared = (o.spared || p.spared) || q.spared }) (append_assoc o.touched p.touched q.touched)
    ∙ ap (λ b. record { control = q.control; edits = o.edits ++ (p.edits ++ q.edits); touched = o.touched ++ (p.touched ++ q.touched); spared = b }) (or_assoc o.spared p.spared q.spared))

pub joined_assoc : (h k l : Handled) → joined (joined h k) l ≡ joined h (joined k l)
joined_assoc h k l =
    ap (λ o. record { outcome = o; switch = later (later h.switch k.switch) l.switch; stopped = (h.stopped || k.stopped) || l.stopped }) (outcome_assoc h.outcome k.outcome l.outcome)
    ∙ (ap (λ s. record { outcome = after h.outcome (after k.outcome l.outcome); switch = s; stopped = (h.stopped || k.stopped) || l.stopped }) (later_assoc h.switch k.switch l.switch)
    ∙ ap (λ b. record { outcome = after h.outcome (after k.outcome l.outcome); switch = later h.switch (later k.switch l.switch); stopped = b }) (or_assoc h.stopped k.stopped l.stopped))

-- nothing, and then this
pub joined_first : (c : ControlState) (h : Handled) → joined (unchanged c) h ≡ h
joined_first c h = go h.switch refl
  where
    go : (s : Option Rest) → h.switch ≡ s → joined (unchanged c) h ≡ h
    go None e = ap (λ s. record { outcome = h.outcome; switch = s; stopped = h.stopped }) (ap (λ s. later None s) e ∙ sym e)
    go (Some r) e = ap (λ s. record { outcome = h.outcome; switch = s; stopped = h.stopped }) (ap (λ s. later None s) e ∙ sym e)

before_before : (h k : Handled) (t : Turn) → before (joined h k) t ≡ before h (before k t)
before_before h k (goes_on l) = ap goes_on (joined_assoc h k l)
before_before h k (done l) = ap done (joined_assoc h k l)
before_before h k (again token l) = ap (again token) (joined_assoc h k l)

pub before_first : (c : ControlState) (t : Turn) → before (unchanged c) t ≡ t
before_first c (goes_on l) = ap goes_on (joined_first c l)
before_first c (done l) = ap done (joined_first c l)
before_first c (again token l) = ap (again token) (joined_first c l)

-- acts in three parts
before_then : (h : Handled) (t : Turn) (f : ControlState → Turn) → before h (and_then t f) ≡ and_then (before h t) f
before_then h (goes_on k) f = sym (before_before h k (f (left_by k)))
before_then h (done k) f = refl
before_then h (again token k) f = refl

along : (t : Turn) (f g h : ControlState → Turn) → ((c : ControlState) → f c ≡ and_then (g c) h) → and_then t f ≡ and_then (and_then t g) h
along (goes_on k) f g h e = ap (before k) (e (left_by k)) ∙ before_then k (g (left_by k)) h
along (done k) f g h e = refl
along (again token k) f g h e = refl

or_last : (b : Bool) → (b || false) ≡ b
or_last true = refl
or_last false = refl

pub joined_last : (h : Handled) → joined h (unchanged (left_by h)) ≡ h
joined_last h =
    ap (λ e. record { outcome = record { control = h.outcome.control; edits = e; touched = h.outcome.touched ++ []; spared = h.outcome.spared || false }; switch = h.switch; stopped = h.stopped || false }) (append-nil h.outcome.edits)
    ∙ (ap (λ t. record { outcome = record { control = h.outcome.control; edits = h.outcome.edits; touched = t; spared = h.outcome.spared || false }; switch = h.switch; stopped = h.stopped || false }) (append-nil h.outcome.touched)
    ∙ (ap (λ b. record { outcome = record { control = h.outcome.control; edits = h.outcome.edits; touched = h.outcome.touched; spared = b }; switch = h.switch; stopped = h.stopped || false }) (or_last h.outcome.spared)
    ∙ ap (λ b. record { outcome = h.outcome; switch = h.switch; stopped = b }) (or_last h.stopped)))

pub last_act : (t : Turn) → and_then t (λ c. goes_on (unchanged c)) ≡ t
last_act (goes_on k) = ap goes_on (joined_last k)
last_act (done k) = refl
last_act (again token k) = refl

-- whether an act is no test
abbrev pub is_plain : Act → Bool
is_plain (If test otherwise) = false
is_plain (Unless test otherwise) = false
is_plain _ = true

-- the acts of a plan are no tests: it has its tests beside them
abbrev pub has_plain_acts : Plan → Bool
has_plain_acts ends = true
has_plain_acts (a ⨾ plan) = is_plain a && has_plain_acts plan
has_plain_acts (when test plan rest) = has_plain_acts plan && has_plain_acts rest
has_plain_acts (unless test plan rest) = has_plain_acts plan && has_plain_acts rest

next_place-plain : (t : Token) (a : Act) (c : ControlState) (at : ℕ) → is_plain a ≡ true → next_place t a c at ≡ at + 1
next_place-plain t (If test n) c at h = absurd (true≢false (sym h))
next_place-plain t (Unless test n) c at h = absurd (true≢false (sym h))
next_place-plain t _ c at h = refl

module _ (follow : Bool → Mode → ControlState → Turn) (present : ControlState → Turn) (fostering : Bool) (t : Token) where
  abbrev acts : ℕ → ℕ → List Act → ControlState → Turn
  acts = carry_acts follow present fostering t

  abbrev one_act : Act → ControlState → Turn
  one_act = carry follow present fostering t

  abbrev planned : Plan → ControlState → Turn
  planned = carry_plan follow present fostering t

  -- the acts before the place are passed over
  acts-skip : (xs ys : List Act) (at next : ℕ) (c : ControlState) → at + length xs ≡ next → acts at next (xs ++ ys) c ≡ acts next next ys c
  acts-skip [] ys at next c e =
      let same : at ≡ next = omega arith in
      ap (λ n. acts n next ys c) same
  acts-skip (x ∷ xs) ys at next c e =
      let before_it : nat_lt at next ≡ true = lt-ltb at next (omega arith) in
      rw before_it (acts-skip xs ys (at + 1) next c (omega arith))

  acts-enter : (x : Act) (xs : List Act) (at : ℕ) (c : ControlState) → acts at at (x ∷ xs) c ≡ and_then (one_act x c) (acts (at + 1) (next_place t x c at) xs)
  acts-enter x xs at c =
      let here : nat_lt at at ≡ false = le-ltb at at (omega arith) in
      rw here refl

  -- a test at a place, with the plan that it guards, and what comes after
  branch_if : (b : Bool) (inner tail : List Act) (at next : ℕ) (c : ControlState) (plan rest after_it : ControlState → Turn) → at + 1 + length inner ≡ next
      → acts (at + 1) (at + 1) (inner ++ tail) c ≡ and_then (plan c) (acts next next tail)
      → ((r : ControlState) → acts next next tail r ≡ and_then (rest r) after_it)
      → acts (at + 1) (if b then at + 1 else next) (inner ++ tail) c ≡ and_then (and_then (if b then plan c else goes_on (unchanged c)) rest) after_it
  branch_if true inner tail at next c plan rest after_it e f g = f ∙ along (plan c) (acts next next tail) rest after_it g
  branch_if false inner tail at next c plan rest after_it e f g =
      acts-skip inner tail (at + 1) next c e ∙ (g c ∙ ap (λ u. and_then u after_it) (sym (before_first c (rest c))))

  branch_unless : (b : Bool) (inner tail : List Act) (at next : ℕ) (c : ControlState) (plan rest after_it : ControlState → Turn) → at + 1 + length inner ≡ next
      → acts (at + 1) (at + 1) (inner ++ tail) c ≡ and_then (plan c) (acts next next tail)
      → ((r : ControlState) → acts next next tail r ≡ and_then (rest r) after_it)
      → acts (at + 1) (if b then next else at + 1) (inner ++ tail) c ≡ and_then (and_then (if b then goes_on (unchanged c) else plan c) rest) after_it
  branch_unless true inner tail at next c plan rest after_it e f g =
      acts-skip inner tail (at + 1) next c e ∙ (g c ∙ ap (λ u. and_then u after_it) (sym (before_first c (rest c))))
  branch_unless false inner tail at next c plan rest after_it e f g = f ∙ along (plan c) (acts next next tail) rest after_it g

  acts-plan : (plan : Plan) (at k : ℕ) (more : List Act) (c : ControlState) → has_plain_acts plan ≡ true → at + length (acts_from at plan) ≡ k
      → acts at at (acts_from at plan ++ more) c ≡ and_then (planned plan c) (acts k k more)
  acts-plan ends at k more c p e =
      let same : at ≡ k = omega arith in
      ap (λ n. acts n n more c) same ∙ sym (before_first c (acts k k more c))
  acts-plan (a ⨾ plan) at k more c p e =
      let parts = and_parts (is_plain a) (has_plain_acts plan) p in
      acts-enter a (acts_from (at + 1) plan ++ more) at c
      ∙ (ap (λ n. and_then (one_act a c) (acts (at + 1) n (acts_from (at + 1) plan ++ more))) (next_place-plain t a c at parts.0)
      ∙ along (one_act a c) (acts (at + 1) (at + 1) (acts_from (at + 1) plan ++ more)) (planned plan) (acts k k more)
      (λ r. acts-plan plan (at + 1) k more r parts.1 (omega arith)))
  acts-plan (when test plan rest) at k more c p e =
      let parts = and_parts (has_plain_acts plan) (has_plain_acts rest) p in
      let inner = acts_from (at + 1) plan in
      let next = at + 1 + length inner in
      let tail = acts_from next rest in
      let ended : next + length tail ≡ k = omega (arith, length-append inner tail, e) in
      ap (λ xs. acts at at (If test next ∷ xs) c) (append_assoc inner tail more)
      ∙ (acts-enter (If test next) (inner ++ (tail ++ more)) at c
      ∙ (before_first c (acts (at + 1) (if holds t test c then at + 1 else next) (inner ++ (tail ++ more)) c)
      ∙ branch_if (holds t test c) inner (tail ++ more) at next c (planned plan) (planned rest) (acts k k more) refl
      (acts-plan plan (at + 1) next (tail ++ more) c parts.0 refl)
      (λ r. acts-plan rest next k more r parts.1 ended)))
  acts-plan (unless test plan rest) at k more c p e =
      let parts = and_parts (has_plain_acts plan) (has_plain_acts rest) p in
      let inner = acts_from (at + 1) plan in
      let next = at + 1 + length inner in
      let tail = acts_from next rest in
      let ended : next + length tail ≡ k = omega (arith, length-append inner tail, e) in
      ap (λ xs. acts at at (Unless test next ∷ xs) c) (append_assoc inner tail more)
      ∙ (acts-enter (Unless test next) (inner ++ (tail ++ more)) at c
      ∙ (before_first c (acts (at + 1) (if holds t test c then next else at + 1) (inner ++ (tail ++ more)) c)
      ∙ branch_unless (holds t test c) inner (tail ++ more) at next c (planned plan) (planned rest) (acts k k more) refl
      (acts-plan plan (at + 1) next (tail ++ more) c parts.0 refl)
      (λ r. acts-plan rest next k more r parts.1 ended)))

  -- a row does, from its first act on, what its plan says
  pub row-plan : (plan : Plan) (c : ControlState) → has_plain_acts plan ≡ true → carry_plan follow present fostering t plan c ≡ carry_acts follow present fostering t 0 0 (acts_from 0 plan) c
  row-plan plan c p =
      sym (ap (λ xs. acts 0 0 xs c) (sym (append-nil (acts_from 0 plan)))
      ∙ (acts-plan plan 0 (0 + length (acts_from 0 plan)) [] c p refl
      ∙ last_act (planned plan c)))

-- the plans of some rows have plain acts, and so has the one that is taken
plain-for : (rows : List Row) (kind : Kind) → list_all (λ row. has_plain_acts row.plan) rows ≡ true → has_plain_acts (plan_for rows kind) ≡ true
plain-for [] kind h = refl
plain-for (row ∷ rows) kind h = go (is_for row.tokens kind) (plain-for rows kind (and_parts (has_plain_acts row.plan) (list_all (λ r. has_plain_acts r.plan) rows) h).1)
  where
    go : (b : Bool) → has_plain_acts (plan_for rows kind) ≡ true → has_plain_acts (if b then row.plan else plan_for rows kind) ≡ true
    go true later = (and_parts (has_plain_acts row.plan) (list_all (λ r. has_plain_acts r.plan) rows) h).0
    go false later = later

plain_mode : (m : Mode) → list_all (λ row. has_plain_acts row.plan) (every_mode_rows m) ≡ true
unfolding every_mode_rows
plain_mode mode.Initial = refl
plain_mode _ = refl

pub mode_by_acts : (depth : ℕ) (t : Token) (fostering : Bool) (m : Mode) (c : ControlState) → rules (suc depth) t fostering m c ≡ carry_acts (rules depth t) nothing_more fostering t 0 0 (acts_for (every_mode_rows m) (kind_of t)) c
unfolding rules
mode_by_acts depth t fostering m c = row-plan (rules depth t) nothing_more fostering t (plan_for (every_mode_rows m) (kind_of t)) c (plain-for (every_mode_rows m) (kind_of t) (plain_mode m))

pub foreign_by_acts : (t : Token) (c : ControlState) → foreign_turn t c ≡ carry_acts (rules 4 t) (mode_turn t c.mode) false t 0 0 (acts_for foreign (kind_of t)) c
foreign_by_acts t c = row-plan (rules 4 t) (mode_turn t c.mode) false t (plan_for foreign (kind_of t)) c (plain-for foreign (kind_of t) refl)
