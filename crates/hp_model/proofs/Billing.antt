-- A row that passes the test makes no more than the test says; and so do the turns of a token.
use Rattle.std.proofs.Common.{◌≡◌, ℕ, zero, suc, ◌+◌, ◌≤◌, Bool, true, false, length, refl, sym, subst, arith}
use Rattle.std.specs.Prelude.{if◌then◌else◌, nat_le}
use Rattle.std.proofs.lemmas.Bool.{and_parts, leb-true}
use Rattle.hp_elements.specs.Rules.{Plan, ends, ◌⨾◌, when, unless, plan_for}
use Rattle.hp_elements.specs.Tokens.{kind_of}
use Rattle.hp_elements.specs.declared.act.Act.{Act}
use Rattle.hp_elements.specs.declared.act.Act.TheVariants as act
use Rattle.hp_elements.specs.declared.token.Kind.{Kind}
use Rattle.hp_elements.specs.declared.token.Kind.TheVariants.{Start}
use Rattle.hp_elements.specs.declared.token.Mode.{Mode}
use Rattle.hp_elements.specs.declared.token.Token.{Token}
use Rattle.hp_elements.proofs.NameLemmas.{known_of_text}
use Rattle.hp_control.specs.States.{ControlState}
use Rattle.hp_rules_rest.specs.Whole.{every_mode_rows}
use Rattle.hp_model.specs.Growth.{times}
use Rattle.hp_model.specs.Rows.{carry, carry_plan, nothing_more, rules}
use Rattle.hp_model.specs.Steps.{holds, step}
use Rattle.hp_model.specs.Turns.{Handled, Turn, goes_on, done, again, before, and_then as turn_then, as_part, left_by, unchanged}
use Rattle.hp_model.specs.Whole.{IsRead}
use Rattle.hp_model.proofs.Bills.{Bill, act_bill, act_costs, again_bill, billed, more_of, plan_bill, rules_bill, shares_of, times-add, times-more}
use Rattle.hp_model.proofs.Costs.{Costs, costs_then, costs_within}
use Rattle.hp_model.proofs.Course.{Course, Along, after, assume, fits}
use Rattle.hp_model.proofs.Following.{act_along}
use Rattle.hp_model.proofs.Passes.{rank}
use Rattle.hp_model.proofs.Walking.{assumed, read_tag}

-- from: the token's kind and the mode in which the turn began; n: the count then; c: the state then; most: a bound of the list
module _ (from : Kind) (first : Mode) (n most : ℕ) (c : ControlState) (room : length c.formatting + 1 ≤ most) where
  abbrev Billed : Bill → ControlState → Type 0
  Billed b r = Costs (times b.shares (most + 64)) b.more c r

  abbrev pub BMeets : (Course → Bill → Bool) → (Course → Bill → Bool) → Turn → Type 0
  BMeets next last (goes_on h) = (w : Course) × (b : Bill) × Along w n (left_by h) × Billed b (left_by h) × (next w b ≡ true)
  BMeets next last (done h) = (w : Course) × (b : Bill) × Along w n (left_by h) × Billed b (left_by h) × (last w b ≡ true)
  BMeets next last (again t h) = (w : Course) × (b : Bill) × Along w n (left_by h) × Billed b (left_by h) × (again_bill from first (kind_of t) w b ≡ true) × IsRead t

  pub bmeets_before : (h : Handled) (t : Turn) (next last : Course → Bill → Bool) → BMeets next last t → BMeets next last (before h t)
  bmeets_before h (goes_on k) next last m = m
  bmeets_before h (done k) next last m = m
  bmeets_before h (again token k) next last m = m

  bmeets_then : (t : Turn) (f : ControlState → Turn) (middle next last : Course → Bill → Bool) → BMeets middle last t
      → ((w : Course) (b : Bill) (r : ControlState) → Along w n r → Billed b r → middle w b ≡ true → BMeets next last (f r)) → BMeets next last (turn_then t f)
  bmeets_then (goes_on h) f middle next last (w, b, g, i, e) rest = bmeets_before h (f (left_by h)) next last (rest w b (left_by h) g i e)
  bmeets_then (done h) f middle next last m rest = m
  bmeets_then (again token h) f middle next last m rest = m

  bmeets_part : (t : Turn) (next last : Course → Bill → Bool) → BMeets next next t → BMeets next last (as_part t)
  bmeets_part (goes_on h) next last m = m
  bmeets_part (done h) next last m = m
  bmeets_part (again token h) next last m = m

  module _ (t : Token) (read : IsRead t) where
    -- one more act
    billed_more : (fostering : Bool) (a : Act) (b : Bill) (s : ControlState) → Billed b s → nat_le b.more 1 ≡ true → Billed (billed a b) (step fostering t a s).control
    billed_more fostering a b s i e =
        let few : b.more ≤ 1 = leb-true b.more 1 e in
        let short : length s.formatting ≤ length c.formatting + b.more = i.list in
        let own = act_costs most fostering t a s (omega arith) in
        let both = costs_then (times b.shares (most + 64)) b.more (times (shares_of a) (most + 64)) (more_of a) c s (step fostering t a s).control i own in
        subst (λ k. Costs k (b.more + more_of a) c (step fostering t a s).control) (sym (times-add b.shares (shares_of a) (most + 64))) both

    module _ (follow : Bool → Mode → ControlState → Turn) (present : ControlState → Turn)
        (follow_bill : Mode → Course → Bill → (Course → Bill → Bool) → Bool) (present_bill : Course → Bill → (Course → Bill → Bool) → Bool)
        (follow_meets : (f : Bool) (m : Mode) (v : Course) (b : Bill) (s : ControlState) (next : Course → Bill → Bool) → Along v n s → Billed b s → follow_bill m v b next ≡ true → BMeets next next (follow f m s))
        (present_meets : (v : Course) (b : Bill) (s : ControlState) (next : Course → Bill → Bool) → Along v n s → Billed b s → present_bill v b next ≡ true → BMeets next next (present s))
        (fostering : Bool) where
      pub act_bmeets : (a : Act) (v : Course) (b : Bill) (s : ControlState) (next last : Course → Bill → Bool) → Along v n s → Billed b s → act_bill from first (kind_of t) follow_bill present_bill a v b next last ≡ true → BMeets next last (carry follow present fostering t a s)
      act_bmeets act.Done v b s next last g i h = (v, b, g, i, h)
      act_bmeets act.Again v b s next last g i h = (v, b, g, i, h, read)
      act_bmeets (act.AgainAs k) v b s next last g i h = (v, b, g, i, subst (λ o. again_bill from first (Start o) v b ≡ true) (sym (known_of_text k)) h, read_tag t read)
      act_bmeets (act.As m) v b s next last g i h = bmeets_part (follow fostering m s) next last (follow_meets fostering m v b s next g i h)
      act_bmeets (act.AsFostered m) v b s next last g i h = bmeets_part (follow true m s) next last (follow_meets true m v b s next g i h)
      act_bmeets act.AsPresent v b s next last g i h = bmeets_part (present s) next last (present_meets v b s next g i h)
      act_bmeets act.Stop v b s next last g i h = (v, billed act.Stop b, g, still b s i, (and_parts (nat_le b.more 1) (next v (billed act.Stop b)) h).1)
        where
          still : (b : Bill) (s : ControlState) → Billed b s → Billed (billed act.Stop b) s
          still b s i = costs_within (times b.shares (most + 64)) b.more (times (b.shares + 0) (most + 64)) (b.more + 0) c s (times-more b.shares (b.shares + 0) (most + 64) (omega arith)) (omega arith) i
      act_bmeets (act.Lexer rest) v b s next last g i h = (v, billed (act.Lexer rest) b, g, still b s i, (and_parts (nat_le b.more 1) (next v (billed (act.Lexer rest) b)) h).1)
        where
          still : (b : Bill) (s : ControlState) → Billed b s → Billed (billed (act.Lexer rest) b) s
          still b s i = costs_within (times b.shares (most + 64)) b.more (times (b.shares + 0) (most + 64)) (b.more + 0) c s (times-more b.shares (b.shares + 0) (most + 64) (omega arith)) (omega arith) i
      act_bmeets other v b s next last g i h =
          let few = and_parts (nat_le b.more 1) _ h in
          let parts = and_parts (fits (kind_of t) other v) (next (after (kind_of t) other v) (billed other b)) few.1 in
          (after (kind_of t) other v, billed other b, act_along fostering t read other v n s g parts.0, billed_more fostering other b s i few.0, parts.1)

      pub plan_bmeets : (plan : Plan) (v : Course) (b : Bill) (s : ControlState) (next last : Course → Bill → Bool) → Along v n s → Billed b s → plan_bill from first (kind_of t) follow_bill present_bill plan v b next last ≡ true
          → BMeets next last (carry_plan follow present fostering t plan s)
      plan_bmeets ends v b s next last g i h = (v, b, g, i, h)
      plan_bmeets (a ⨾ plan) v b s next last g i h =
          bmeets_then (carry follow present fostering t a s) (carry_plan follow present fostering t plan) (λ w d. plan_bill from first (kind_of t) follow_bill present_bill plan w d next last) next last
          (act_bmeets a v b s (λ w d. plan_bill from first (kind_of t) follow_bill present_bill plan w d next last) last g i h)
          (λ w d r. plan_bmeets plan w d r next last)
      plan_bmeets (when test plan rest) v b s next last g i h =
          let parts = and_parts (plan_bill from first (kind_of t) follow_bill present_bill plan (assume test v) b (λ w d. plan_bill from first (kind_of t) follow_bill present_bill rest w d next last) last) _ h in
          go (holds t test s) refl parts.0 (λ w d r. plan_bmeets rest w d r next last) (λ g2 h2. plan_bmeets plan (assume test v) b s (λ w d. plan_bill from first (kind_of t) follow_bill present_bill rest w d next last) last g2 i h2) parts.1
        where
          go : (x : Bool) → holds t test s ≡ x → plan_bill from first (kind_of t) follow_bill present_bill plan (assume test v) b (λ w d. plan_bill from first (kind_of t) follow_bill present_bill rest w d next last) last ≡ true
              → ((w : Course) (d : Bill) (r : ControlState) → Along w n r → Billed d r → plan_bill from first (kind_of t) follow_bill present_bill rest w d next last ≡ true → BMeets next last (carry_plan follow present fostering t rest r))
              → (Along (assume test v) n s → plan_bill from first (kind_of t) follow_bill present_bill plan (assume test v) b (λ w d. plan_bill from first (kind_of t) follow_bill present_bill rest w d next last) last ≡ true → BMeets (λ w d. plan_bill from first (kind_of t) follow_bill present_bill rest w d next last) last (carry_plan follow present fostering t plan s))
              → plan_bill from first (kind_of t) follow_bill present_bill rest v b next last ≡ true
              → BMeets next last (turn_then (if x then carry_plan follow present fostering t plan s else goes_on (unchanged s)) (carry_plan follow present fostering t rest))
          go true e p on inner q = bmeets_then (carry_plan follow present fostering t plan s) (carry_plan follow present fostering t rest) (λ w d. plan_bill from first (kind_of t) follow_bill present_bill rest w d next last) next last (inner (assumed (rank from first) n t read test v s g e) p) on
          go false e p on inner q = bmeets_before (unchanged s) (carry_plan follow present fostering t rest s) next last (on v b s g i q)
      plan_bmeets (unless test plan rest) v b s next last g i h =
          let parts = and_parts (plan_bill from first (kind_of t) follow_bill present_bill rest (assume test v) b next last) _ h in
          go (holds t test s) refl parts.0 (λ w d r. plan_bmeets rest w d r next last) (λ h2. plan_bmeets plan v b s (λ w d. plan_bill from first (kind_of t) follow_bill present_bill rest w d next last) last g i h2) parts.1
        where
          go : (x : Bool) → holds t test s ≡ x → plan_bill from first (kind_of t) follow_bill present_bill rest (assume test v) b next last ≡ true
              → ((w : Course) (d : Bill) (r : ControlState) → Along w n r → Billed d r → plan_bill from first (kind_of t) follow_bill present_bill rest w d next last ≡ true → BMeets next last (carry_plan follow present fostering t rest r))
              → (plan_bill from first (kind_of t) follow_bill present_bill plan v b (λ w d. plan_bill from first (kind_of t) follow_bill present_bill rest w d next last) last ≡ true → BMeets (λ w d. plan_bill from first (kind_of t) follow_bill present_bill rest w d next last) last (carry_plan follow present fostering t plan s))
              → plan_bill from first (kind_of t) follow_bill present_bill plan v b (λ w d. plan_bill from first (kind_of t) follow_bill present_bill rest w d next last) last ≡ true
              → BMeets next last (turn_then (if x then goes_on (unchanged s) else carry_plan follow present fostering t plan s) (carry_plan follow present fostering t rest))
          go true e p on inner q = bmeets_before (unchanged s) (carry_plan follow present fostering t rest s) next last (on (assume test v) b s (assumed (rank from first) n t read test v s g e) i p)
          go false e p on inner q = bmeets_then (carry_plan follow present fostering t plan s) (carry_plan follow present fostering t rest) (λ w d. plan_bill from first (kind_of t) follow_bill present_bill rest w d next last) next last (inner q) on

    pub rules_bmeet : (depth : ℕ) (fostering : Bool) (m : Mode) (v : Course) (b : Bill) (s : ControlState) (next : Course → Bill → Bool) → Along v n s → Billed b s → rules_bill from first (kind_of t) depth m v b next ≡ true → BMeets next next (rules depth t fostering m s)
    unfolding rules rules_bill
    rules_bmeet zero fostering m v b s next g i h = (v, b, g, i, h)
    rules_bmeet (suc depth) fostering m v b s next g i h =
        plan_bmeets (rules depth t) nothing_more (rules_bill from first (kind_of t) depth) (λ w d k. k w d) (rules_bmeet depth) (λ w d r k g2 i2 h2. (w, d, g2, i2, h2)) fostering (plan_for (every_mode_rows m) (kind_of t)) v b s next next g i h
