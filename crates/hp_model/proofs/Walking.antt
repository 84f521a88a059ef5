-- A row that passes the test does what the test says: by each way through the row, and through the rows that it uses.
use Rattle.std.proofs.Common.{◌≡◌, ℕ, zero, suc, Bool, true, false, refl, sym, ◌∙◌, subst, List, [], ◌∷◌, Option, None, Some}
use Rattle.std.specs.Prelude.{if◌then◌else◌}
use Rattle.std.specs.Option.{is_some, option_map}
use Rattle.std.proofs.lemmas.Bool.{and_parts, true≢false}
use Rattle.hp_elements.specs.Names.{text_of}
use Rattle.hp_elements.specs.Rules.{Plan, ends, ◌⨾◌, when, unless, plan_for}
use Rattle.hp_elements.specs.Tokens.{kind_of}
use Rattle.hp_elements.specs.declared.act.Act.{Act}
use Rattle.hp_elements.specs.declared.act.Act.TheVariants as act
use Rattle.hp_elements.specs.declared.act.Test.{Test}
use Rattle.hp_elements.specs.declared.act.Test.TheVariants as test
use Rattle.hp_elements.specs.declared.act.Which.TheVariants.{Named}
use Rattle.hp_elements.specs.declared.kinds.Kinds.{Kinds}
use Rattle.hp_elements.specs.declared.kinds.Kinds.TheVariants as kinds
use Rattle.hp_elements.specs.KnownNames as known
use Rattle.hp_elements.specs.declared.sets.Namespace.TheVariants.{Html}
use Rattle.hp_elements.specs.declared.token.Kind.TheVariants.{Start}
use Rattle.hp_elements.specs.declared.token.Mode.{Mode}
use Rattle.hp_elements.specs.declared.token.Token.{Token}
use Rattle.hp_elements.specs.declared.token.Token.TheVariants as token
use Rattle.hp_elements.proofs.NameLemmas.{known_of_text}
use Rattle.hp_control.specs.declared.element.OpenElement.{OpenElement}
use Rattle.hp_control.specs.Composed.{ends_of}
use Rattle.hp_control.specs.KindTests.{within as is_within}
use Rattle.hp_control.specs.States.{ControlState}
use Rattle.hp_control.specs.Walks.{reach, seen}
use Rattle.hp_rules_rest.specs.Whole.{every_mode_rows}
use Rattle.hp_model.specs.Rows.{carry, carry_plan, nothing_more, rules}
use Rattle.hp_model.specs.Steps.{holds}
use Rattle.hp_model.specs.Tokens.{tag_of}
use Rattle.hp_model.specs.Turns.{Handled, Turn, goes_on, done, again, before, and_then, as_part, left_by, unchanged}
use Rattle.hp_model.specs.Whole.{IsRead}
use Rattle.hp_model.proofs.Course.{Course, Along, after, fits, assume}
use Rattle.hp_model.proofs.Courses.{seen-any}
use Rattle.hp_model.proofs.Following.{act_along}
use Rattle.hp_model.proofs.Passes.{Rank, again_passes, act_passes, plan_passes, rules_pass}

pub read_tag : (t : Token) → IsRead t → (tag_of t).namespace ≡ Html
read_tag (token.Start self_closing tag) h = h
read_tag (token.EndTag name) h = refl
read_tag _ h = refl

-- what no stop hides
seen-more : (goals stops : Kinds) (es : List OpenElement) → seen goals stops es ≡ true → seen goals kinds.Nothing es ≡ true
seen-more goals stops [] h = h
seen-more goals stops (e ∷ es) h = go (is_within goals e) (is_within stops e) h (seen-more goals stops es)
  where
    mapped : (o : Option ℕ) → is_some (option_map suc o) ≡ is_some o
    mapped None = refl
    mapped (Some k) = refl

    go : (a b : Bool) → is_some (if a then Some 0 else (if b then None else option_map suc (reach goals stops es))) ≡ true → (seen goals stops es ≡ true → seen goals kinds.Nothing es ≡ true) → is_some (if a then Some 0 else option_map suc (reach goals kinds.Nothing es)) ≡ true
    go true b k later = refl
    go false true k later = absurd (true≢false (sym k))
    go false false k later = mapped (reach goals kinds.Nothing es) ∙ later (sym (mapped (reach goals stops es)) ∙ k)

-- from: the rank at the turn's start; n: the count then
module _ (from : Rank) (n : ℕ) where
  -- what a turn left is on a course that passes
  abbrev pub Meets : (Course → Bool) → (Course → Bool) → Turn → Type 0
  Meets next last (goes_on h) = (w : Course) × (Along w n (left_by h) × (next w ≡ true))
  Meets next last (done h) = (w : Course) × (Along w n (left_by h) × (last w ≡ true))
  Meets next last (again t h) = (w : Course) × (Along w n (left_by h) × (again_passes from (kind_of t) w ≡ true) × IsRead t)

  pub meets_before : (h : Handled) (t : Turn) (next last : Course → Bool) → Meets next last t → Meets next last (before h t)
  meets_before h (goes_on k) next last m = m
  meets_before h (done k) next last m = m
  meets_before h (again token k) next last m = m

  meets_then : (t : Turn) (f : ControlState → Turn) (middle next last : Course → Bool) → Meets middle last t
      → ((w : Course) (r : ControlState) → Along w n r → middle w ≡ true → Meets next last (f r)) → Meets next last (and_then t f)
  meets_then (goes_on h) f middle next last (w, g) rest = meets_before h (f (left_by h)) next last (rest w (left_by h) g.0 g.1)
  meets_then (done h) f middle next last m rest = m
  meets_then (again token h) f middle next last m rest = m

  meets_part : (t : Turn) (next last : Course → Bool) → Meets next next t → Meets next last (as_part t)
  meets_part (goes_on h) next last m = m
  meets_part (done h) next last m = m
  meets_part (again token h) next last m = m

  module _ (t : Token) (read : IsRead t) where
    pub assumed : (test : Test) (v : Course) (s : ControlState) → Along v n s → holds t test s ≡ true → Along (assume test v) n s
    assumed (test.InScope scope (Named k)) v s g h =
        record { base = g.base; count = g.count; place = g.place; original = g.original; pending = g.pending; room = g.room; there = seen-more (kinds.Html (text_of k)) (kinds.Set (ends_of scope)) s.stack h; made = g.made; template_modes = g.template_modes; formatting = g.formatting; stack_ids = g.stack_ids; list_ids = g.list_ids; head = g.head; form = g.form; lex = g.lex }
    assumed test.TemplateInStack v s g h =
        record { base = g.base; count = g.count; place = g.place; original = g.original; pending = g.pending; room = g.room; there = seen-any (text_of known.Template) s.stack ∙ h; made = g.made; template_modes = g.template_modes; formatting = g.formatting; stack_ids = g.stack_ids; list_ids = g.list_ids; head = g.head; form = g.form; lex = g.lex }
    assumed _ v s g h = g

    module _ (follow : Bool → Mode → ControlState → Turn) (present : ControlState → Turn)
        (follow_passes : Mode → Course → (Course → Bool) → Bool) (present_passes : Course → (Course → Bool) → Bool)
        (follow_meets : (f : Bool) (m : Mode) (v : Course) (s : ControlState) (next : Course → Bool) → Along v n s → follow_passes m v next ≡ true → Meets next next (follow f m s))
        (present_meets : (v : Course) (s : ControlState) (next : Course → Bool) → Along v n s → present_passes v next ≡ true → Meets next next (present s))
        (fostering : Bool) where
      pub act_meets : (a : Act) (v : Course) (s : ControlState) (next last : Course → Bool) → Along v n s → act_passes from (kind_of t) follow_passes present_passes a v next last ≡ true → Meets next last (carry follow present fostering t a s)
      act_meets act.Done v s next last g h = (v, (g, h))
      act_meets act.Again v s next last g h = (v, (g, h, read))
      act_meets (act.AgainAs k) v s next last g h = (v, (g, subst (λ o. again_passes from (Start o) v ≡ true) (sym (known_of_text k)) h, read_tag t read))
      act_meets (act.As m) v s next last g h = meets_part (follow fostering m s) next last (follow_meets fostering m v s next g h)
      act_meets (act.AsFostered m) v s next last g h = meets_part (follow true m s) next last (follow_meets true m v s next g h)
      act_meets act.AsPresent v s next last g h = meets_part (present s) next last (present_meets v s next g h)
      act_meets act.Stop v s next last g h = (v, (g, h))
      act_meets (act.Lexer rest) v s next last g h = (v, (g, h))
      act_meets other v s next last g h =
          let parts = and_parts (fits (kind_of t) other v) (next (after (kind_of t) other v)) h in
          (after (kind_of t) other v, (act_along fostering t read other v n s g parts.0, parts.1))

      pub plan_meets : (plan : Plan) (v : Course) (s : ControlState) (next last : Course → Bool) → Along v n s → plan_passes from (kind_of t) follow_passes present_passes plan v next last ≡ true
          → Meets next last (carry_plan follow present fostering t plan s)
      plan_meets ends v s next last g h = (v, (g, h))
      plan_meets (a ⨾ plan) v s next last g h =
          meets_then (carry follow present fostering t a s) (carry_plan follow present fostering t plan) (λ w. plan_passes from (kind_of t) follow_passes present_passes plan w next last) next last
          (act_meets a v s (λ w. plan_passes from (kind_of t) follow_passes present_passes plan w next last) last g h)
          (λ w r. plan_meets plan w r next last)
      plan_meets (when test plan rest) v s next last g h =
          let parts = and_parts (plan_passes from (kind_of t) follow_passes present_passes plan (assume test v) (λ w. plan_passes from (kind_of t) follow_passes present_passes rest w next last) last) _ h in
          go (holds t test s) refl parts.0 (λ w r. plan_meets rest w r next last) (λ g2 h2. plan_meets plan (assume test v) s (λ w. plan_passes from (kind_of t) follow_passes present_passes rest w next last) last g2 h2) parts.1
        where
          go : (b : Bool) → holds t test s ≡ b → plan_passes from (kind_of t) follow_passes present_passes plan (assume test v) (λ w. plan_passes from (kind_of t) follow_passes present_passes rest w next last) last ≡ true
              → ((w : Course) (r : ControlState) → Along w n r → plan_passes from (kind_of t) follow_passes present_passes rest w next last ≡ true → Meets next last (carry_plan follow present fostering t rest r))
              → (Along (assume test v) n s → plan_passes from (kind_of t) follow_passes present_passes plan (assume test v) (λ w. plan_passes from (kind_of t) follow_passes present_passes rest w next last) last ≡ true → Meets (λ w. plan_passes from (kind_of t) follow_passes present_passes rest w next last) last (carry_plan follow present fostering t plan s))
              → plan_passes from (kind_of t) follow_passes present_passes rest v next last ≡ true
              → Meets next last (and_then (if b then carry_plan follow present fostering t plan s else goes_on (unchanged s)) (carry_plan follow present fostering t rest))
          go true e p on inner q = meets_then (carry_plan follow present fostering t plan s) (carry_plan follow present fostering t rest) (λ w. plan_passes from (kind_of t) follow_passes present_passes rest w next last) next last (inner (assumed test v s g e) p) on
          go false e p on inner q = meets_before (unchanged s) (carry_plan follow present fostering t rest s) next last (on v s g q)
      plan_meets (unless test plan rest) v s next last g h =
          let parts = and_parts (plan_passes from (kind_of t) follow_passes present_passes rest (assume test v) next last) _ h in
          go (holds t test s) refl parts.0 (λ w r. plan_meets rest w r next last) (λ h2. plan_meets plan v s (λ w. plan_passes from (kind_of t) follow_passes present_passes rest w next last) last g h2) parts.1
        where
          go : (b : Bool) → holds t test s ≡ b → plan_passes from (kind_of t) follow_passes present_passes rest (assume test v) next last ≡ true
              → ((w : Course) (r : ControlState) → Along w n r → plan_passes from (kind_of t) follow_passes present_passes rest w next last ≡ true → Meets next last (carry_plan follow present fostering t rest r))
              → (plan_passes from (kind_of t) follow_passes present_passes plan v (λ w. plan_passes from (kind_of t) follow_passes present_passes rest w next last) last ≡ true → Meets (λ w. plan_passes from (kind_of t) follow_passes present_passes rest w next last) last (carry_plan follow present fostering t plan s))
              → plan_passes from (kind_of t) follow_passes present_passes plan v (λ w. plan_passes from (kind_of t) follow_passes present_passes rest w next last) last ≡ true
              → Meets next last (and_then (if b then goes_on (unchanged s) else carry_plan follow present fostering t plan s) (carry_plan follow present fostering t rest))
          go true e p on inner q = meets_before (unchanged s) (carry_plan follow present fostering t rest s) next last (on (assume test v) s (assumed test v s g e) p)
          go false e p on inner q = meets_then (carry_plan follow present fostering t plan s) (carry_plan follow present fostering t rest) (λ w. plan_passes from (kind_of t) follow_passes present_passes rest w next last) next last (inner q) on

    pub rules_meet : (depth : ℕ) (fostering : Bool) (m : Mode) (v : Course) (s : ControlState) (next : Course → Bool) → Along v n s → rules_pass from (kind_of t) depth m v next ≡ true → Meets next next (rules depth t fostering m s)
    unfolding rules rules_pass
    rules_meet zero fostering m v s next g h = (v, (g, h))
    rules_meet (suc depth) fostering m v s next g h =
        plan_meets (rules depth t) nothing_more (rules_pass from (kind_of t) depth) (λ w k. k w) (rules_meet depth) (λ w r k g2 h2. (w, (g2, h2))) fostering (plan_for (every_mode_rows m) (kind_of t)) v s next next g h
