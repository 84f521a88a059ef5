-- The turns of a text, by the answers to what they ask: they ask what those of its first code point ask, and lead to where those of its
-- code points lead.
use Rattle.std.proofs.Common.{◌≡◌, ℕ, zero, suc, ◌+◌, ◌*◌, ◌^◌, Bool, true, false, List, [], ◌∷◌, ◌++◌, Option, None, Result, Ok, Err, length, refl, ap, ◌∙◌, sym, subst, arith}
use Rattle.std.specs.Prelude.{All, if◌then◌else◌}
use Rattle.hp_elements.specs.declared.kinds.Kinds.{Kinds}
use Rattle.hp_elements.specs.declared.token.CharClass.{CharClass}
use Rattle.hp_elements.specs.declared.token.Kind.TheVariants as kind
use Rattle.hp_elements.specs.declared.token.Mode.{Mode}
use Rattle.hp_elements.specs.declared.token.Token.TheVariants.{Characters}
use Rattle.hp_control.specs.declared.element.OpenElement.{OpenElement}
use Rattle.hp_control.specs.declared.question.Answer.{Answer}
use Rattle.hp_control.specs.declared.question.Crossing.{Crossing}
use Rattle.hp_control.specs.declared.question.Crossing.TheVariants.{X3, X4}
use Rattle.hp_control.specs.declared.question.Question.{Question}
use Rattle.hp_control.specs.declared.question.Question.TheVariants as ask
use Rattle.hp_elements.specs.declared.kinds.Kinds.TheVariants as kinds
use Rattle.hp_control.specs.Faithful.{Page, Split}
use Rattle.hp_control.specs.Foreign.{is_foreign_at}
use Rattle.hp_control.specs.Plan.{crosses, asked_by, end_by, followed_by}
use Rattle.hp_control.specs.Running.{asked_then, on_asked}
use Rattle.hp_control.specs.States.{IsFormatting}
use Rattle.hp_foreign.specs.Plans.{element_in, foreign_one, goes_on, goes_plan, unless_html}
use Rattle.hp_views.specs.Asking.{is_yes}
use Rattle.hp_model.specs.Rows.{is_head_mode}
use Rattle.hp_acts.specs.HandlePlans.{all_turns_plan, most_turns, turns_plan, where_again}
use Rattle.hp_acts.specs.RowPlans.{Came, again, dispatched, is_early, left, turn_plan}
use Rattle.hp_acts.proofs.TurnRuns.{turn_on}
use Rattle.hp_asked.proofs.Bare.{bare}
use Rattle.hp_asked.proofs.TextRows.{Deal, Keeps, Row, Stays, at_first, crossed, crosses-then, dealt, ends-then, foreign-row, handed, mode-row, tested_in}

module _ (says : Question → Answer) (class : CharClass) where
  -- what the turn of a text comes to: it crosses, hands the text on, or deals with it, and the next text behind it as with both at once
  pub data Meets (v : Split) : Type 0 where
    stopped : (crossing : Crossing) → ((text : List ℕ) → end_by says (turn_plan (Characters class text) (at_first v)) ≡ Err crossing) → Meets v
    passed : (w : Split) → ((text : List ℕ) → end_by says (turn_plan (Characters class text) (at_first v)) ≡ Ok (again (Characters class text) (at_first w))) → Keeps v w → Meets v
    done : (f : List ℕ → Split) → ((text : List ℕ) → end_by says (turn_plan (Characters class text) (at_first v)) ≡ Ok (left (at_first (f text)))) → ((a : List ℕ) → (f a).change.skip_lf ≡ v.change.skip_lf)
        → ((a b : List ℕ) → (w : Split) × (end_by says (turn_plan (Characters class b) (at_first (f a))) ≡ Ok (left (at_first w))) × (bare w ≡ bare (f (a ++ b)))) → Meets v

  pub record Met (v : Split) : Type 0 where
    pub asks : (a b : List ℕ) → asked_by says (turn_plan (Characters class a) (at_first v)) ≡ asked_by says (turn_plan (Characters class b) (at_first v))
    pub meets : Meets v

  -- whether dispatch takes a text to the foreign rules is told in any case
  goes-told : (v : Split) → (b : Bool) × (end_by says (goes_plan (kind.Characters class) v) ≡ Ok b)
  goes-told v = go v.change.stack
    where
      below : (b : Bool) → (c : Bool) × (end_by says (unless_html (kind.Characters class) v.change.popped b) ≡ Ok c)
      below true = (false, refl)
      below false = (foreign_one (kind.Characters class) (element_in (says (ask.Elem v.change.popped))), refl)

      go : (es : List OpenElement) → (b : Bool) × (end_by says (goes_on (kind.Characters class) v es) ≡ Ok b)
      go [] = below (is_yes (says (ask.Seen v.change.popped kinds.AnyHtml kinds.All)))
      go (e ∷ es) = (is_foreign_at (kind.Characters class) e, refl)

  early-not : (m : Mode) (u : Split) → u.page ≡ None → u.change.mode ≡ m → is_head_mode m ≡ false → is_early u.page u.change.mode ≡ false
  early-not m u page same head = ap (λ (p : Option Page). is_early p u.change.mode) page ∙ (ap is_head_mode same ∙ head)

  pub at-mode : (m : Mode) (b : Bool) (u : Split) (text : List ℕ) → u.page ≡ None → u.change.mode ≡ m → is_head_mode m ≡ false → end_by says (goes_plan (kind.Characters class) u) ≡ Ok b
      → end_by says (turn_plan (Characters class text) (at_first u)) ≡ end_by says (dispatched (Characters class text) m (at_first u) b)
  at-mode m b u text page same head goes =
      ap (end_by says) (turn_on (Characters class text) (at_first u) (early-not m u page same head))
      ∙ (ends-then says (goes_plan (kind.Characters class) u) (dispatched (Characters class text) u.change.mode (at_first u)) b goes
      ∙ ap (λ n. end_by says (dispatched (Characters class text) n (at_first u) b)) same)

  pub asked-at : (b : Bool) (v : Split) (text : List ℕ) → v.page ≡ None → is_head_mode v.change.mode ≡ false → end_by says (goes_plan (kind.Characters class) v) ≡ Ok b
      → asked_by says (turn_plan (Characters class text) (at_first v)) ≡ asked_by says (goes_plan (kind.Characters class) v) ++ asked_by says (dispatched (Characters class text) v.change.mode (at_first v) b)
  asked-at b v text page head goes =
      ap (asked_by says) (turn_on (Characters class text) (at_first v) (early-not v.change.mode v page refl head))
      ∙ (asked_then says (goes_plan (kind.Characters class) v) (dispatched (Characters class text) v.change.mode (at_first v))
      ∙ ap (λ e. asked_by says (goes_plan (kind.Characters class) v) ++ on_asked e (λ c. asked_by says (dispatched (Characters class text) v.change.mode (at_first v) c))) goes)

  met-by : (tested : Kinds) (b : Bool) (v : Split) → v.page ≡ None → is_head_mode v.change.mode ≡ false → end_by says (goes_plan (kind.Characters class) v) ≡ Ok b
      → Row says class tested b v (λ text u. dispatched (Characters class text) v.change.mode (at_first u) b) → Met v
  met-by tested b v page head goes row = record {
    asks = λ a c. asked-at b v a page head goes ∙ (ap (λ (qs : List Question). asked_by says (goes_plan (kind.Characters class) v) ++ qs) (row.asks a c) ∙ sym (asked-at b v c page head goes));
    meets = go row.deal;
  }
    where
      here : (text : List ℕ) → end_by says (turn_plan (Characters class text) (at_first v)) ≡ end_by says (dispatched (Characters class text) v.change.mode (at_first v) b)
      here text = at-mode v.change.mode b v text page refl head goes

      there : (u : Split) (text : List ℕ) → Stays says class tested b v u → end_by says (turn_plan (Characters class text) (at_first u)) ≡ end_by says (dispatched (Characters class text) v.change.mode (at_first u) b)
      there u text stays = at-mode v.change.mode b u text (stays.page ∙ page) stays.mode head (stays.goes goes)

      go : Deal says class tested b v (λ text u. dispatched (Characters class text) v.change.mode (at_first u) b) → Meets v
      go (crossed crossing k) = stopped crossing (λ text. here text ∙ k text)
      go (handed w k keeps) = passed w (λ text. here text ∙ k text) keeps
      go (dealt f k stays second) = done f (λ text. here text ∙ k text) (λ a. (stays a).skip_lf) (λ a c. let s = second a c in (s.0, there (f a) c (stays a) ∙ s.1, s.2))

  early-stops : (text : List ℕ) (v : Split) → v.page ≡ None → is_head_mode v.change.mode ≡ true → turn_plan (Characters class text) (at_first v) ≡ crosses X4
  unfolding turn_plan
  early-stops text v page head =
      ap (λ b. if b then crosses X4 else followed_by (goes_plan (kind.Characters class) v) (dispatched (Characters class text) v.change.mode (at_first v))) (ap (λ (p : Option Page). is_early p v.change.mode) page ∙ head)

  met : (v : Split) → v.page ≡ None → All IsFormatting v.change.formatting → Met v
  met v page all = by-head (is_head_mode v.change.mode) refl
    where
      by-goes : (b : Bool) → is_head_mode v.change.mode ≡ false → end_by says (goes_plan (kind.Characters class) v) ≡ Ok b → Met v
      by-goes true head goes = met-by _ true v page head goes (foreign-row says v.change.mode class v)
      by-goes false head goes = met-by (tested_in v.change.mode) false v page head goes (mode-row says v.change.mode class v head all)

      by-head : (b : Bool) → is_head_mode v.change.mode ≡ b → Met v
      by-head true head = record {
        asks = λ a b. ap (asked_by says) (early-stops a v page head) ∙ sym (ap (asked_by says) (early-stops b v page head));
        meets = stopped X4 (λ text. ap (end_by says) (early-stops text v page head));
      }
      by-head false head = let told = goes-told v in by-goes told.0 head told.1

  -- so many turns
  pub data Ends (n : ℕ) (v : Split) : Type 0 where
    never : (crossing : Crossing) → ((text : List ℕ) → end_by says (turns_plan n (Characters class text) (at_first v)) ≡ Err crossing) → Ends n v
    behind : (f : List ℕ → Split) → ((text : List ℕ) → end_by says (turns_plan n (Characters class text) (at_first v)) ≡ Ok (at_first (f text))) → ((a : List ℕ) → (f a).change.skip_lf ≡ v.change.skip_lf)
        → ((a b : List ℕ) → (w : Split) × (end_by says (turn_plan (Characters class b) (at_first (f a))) ≡ Ok (left (at_first w))) × (bare w ≡ bare (f (a ++ b)))) → Ends n v

  pub record Turned (n : ℕ) (v : Split) : Type 0 where
    pub asks : (a b : List ℕ) → asked_by says (turns_plan n (Characters class a) (at_first v)) ≡ asked_by says (turns_plan n (Characters class b) (at_first v))
    pub ends : Ends n v

  -- a turn and the next ones
  ends-on : (n : ℕ) (v : Split) (text : List ℕ) (c : Came) → end_by says (turn_plan (Characters class text) (at_first v)) ≡ Ok c → end_by says (turns_plan (suc n) (Characters class text) (at_first v)) ≡ end_by says (where_again (turns_plan n) c)
  unfolding turns_plan
  ends-on n v text c e = ends-then says (turn_plan (Characters class text) (at_first v)) (where_again (turns_plan n)) c e

  pub asks-on : (n : ℕ) (v : Split) (text : List ℕ) (r : Result Came Crossing) → end_by says (turn_plan (Characters class text) (at_first v)) ≡ r
      → asked_by says (turns_plan (suc n) (Characters class text) (at_first v)) ≡ asked_by says (turn_plan (Characters class text) (at_first v)) ++ on_asked r (λ c. asked_by says (where_again (turns_plan n) c))
  unfolding turns_plan
  asks-on n v text r e =
      asked_then says (turn_plan (Characters class text) (at_first v)) (where_again (turns_plan n))
      ∙ ap (λ s. asked_by says (turn_plan (Characters class text) (at_first v)) ++ on_asked s (λ c. asked_by says (where_again (turns_plan n) c))) e

  pub none-on : (n : ℕ) (v : Split) (text : List ℕ) (crossing : Crossing) → end_by says (turn_plan (Characters class text) (at_first v)) ≡ Err crossing → end_by says (turns_plan (suc n) (Characters class text) (at_first v)) ≡ Err crossing
  unfolding turns_plan
  none-on n v text crossing e = crosses-then says (turn_plan (Characters class text) (at_first v)) (where_again (turns_plan n)) crossing e

  -- the first turn asks alike, and so does what comes behind it
  asks-alike : (n : ℕ) (v : Split) (r : List ℕ → Result Came Crossing) → Met v → ((text : List ℕ) → end_by says (turn_plan (Characters class text) (at_first v)) ≡ r text)
      → ((a b : List ℕ) → on_asked (r a) (λ c. asked_by says (where_again (turns_plan n) c)) ≡ on_asked (r b) (λ c. asked_by says (where_again (turns_plan n) c)))
      → (a b : List ℕ) → asked_by says (turns_plan (suc n) (Characters class a) (at_first v)) ≡ asked_by says (turns_plan (suc n) (Characters class b) (at_first v))
  asks-alike n v r m k alike a b =
      asks-on n v a (r a) (k a)
      ∙ (ap (λ (qs : List Question). qs ++ on_asked (r a) (λ c. asked_by says (where_again (turns_plan n) c))) (m.asks a b)
      ∙ (ap (λ (qs : List Question). asked_by says (turn_plan (Characters class b) (at_first v)) ++ qs) (alike a b) ∙ sym (asks-on n v b (r b) (k b))))

  none-left : (v : Split) → Turned zero v
  unfolding turns_plan
  none-left v = record { asks = λ a b. refl; ends = never X3 (λ text. refl) }

  more-turned : (n : ℕ) (v : Split) → Met v → ((w : Split) → Keeps v w → Turned n w) → Turned (suc n) v
  more-turned n v m next = go m.meets
    where
      by-next : (w : Split) → ((text : List ℕ) → end_by says (turn_plan (Characters class text) (at_first v)) ≡ Ok (again (Characters class text) (at_first w))) → Keeps v w → Ends n w → Ends (suc n) v
      by-next w k keeps (never x e) = never x (λ text. ends-on n v text (again (Characters class text) (at_first w)) (k text) ∙ e text)
      by-next w k keeps (behind f e skip second) = behind f (λ text. ends-on n v text (again (Characters class text) (at_first w)) (k text) ∙ e text) (λ a. skip a ∙ keeps.skip_lf) second

      go : Meets v → Turned (suc n) v
      go (stopped x k) = record { asks = asks-alike n v (λ text. Err x) m k (λ a b. refl); ends = never x (λ text. none-on n v text x (k text)) }
      go (done f k skip second) = record {
        asks = asks-alike n v (λ text. Ok (left (at_first (f text)))) m k (λ a b. refl);
        ends = behind f (λ text. ends-on n v text (left (at_first (f text))) (k text)) skip second;
      }
      go (passed w k keeps) = record {
        asks = asks-alike n v (λ text. Ok (again (Characters class text) (at_first w))) m k (next w keeps).asks;
        ends = by-next w k keeps (next w keeps).ends;
      }

  turned : (n : ℕ) (v : Split) → v.page ≡ None → All IsFormatting v.change.formatting → Turned n v
  turned zero v page all = none-left v
  turned (suc n) v page all = more-turned n v (met v page all) (λ w keeps. turned n w (keeps.page ∙ page) (subst (All IsFormatting) (sym keeps.formatting) all))

  -- one turn is enough where it is done
  pub turned-once : (u w : Split) (text : List ℕ) → end_by says (turn_plan (Characters class text) (at_first u)) ≡ Ok (left (at_first w)) → end_by says (all_turns_plan (Characters class text) u) ≡ Ok (at_first w)
  turned-once u w text e =
      let more : most_turns u ≡ suc (31 + 16 * (2 ^ 60 + length u.change.stack)) = omega arith in
      ap (λ n. end_by says (turns_plan n (Characters class text) (at_first u))) more ∙ ends-on (31 + 16 * (2 ^ 60 + length u.change.stack)) u text (left (at_first w)) e

  -- all the turns of a text: they cross, whatever it is; or they end, and those of the next text end behind it where those of both at once do
  pub data Comes (v : Split) : Type 0 where
    refused : (x : Crossing) → ((text : List ℕ) → end_by says (all_turns_plan (Characters class text) v) ≡ Err x) → Comes v
    ending : (f : List ℕ → Split) → ((text : List ℕ) → end_by says (all_turns_plan (Characters class text) v) ≡ Ok (at_first (f text))) → ((a : List ℕ) → (f a).change.skip_lf ≡ v.change.skip_lf)
        → ((a b : List ℕ) → (w : Split) × (end_by says (all_turns_plan (Characters class b) (f a)) ≡ Ok (at_first w)) × (bare w ≡ bare (f (a ++ b)))) → Comes v

  pub record AllTurned (v : Split) : Type 0 where
    pub asks : (a b : List ℕ) → asked_by says (all_turns_plan (Characters class a) v) ≡ asked_by says (all_turns_plan (Characters class b) v)
    pub comes : Comes v

  pub all-turned : (v : Split) → v.page ≡ None → All IsFormatting v.change.formatting → AllTurned v
  all-turned v page all = record { asks = all-so.asks; comes = go all-so.ends }
    where
      all-so : Turned (most_turns v) v
      all-so = turned (most_turns v) v page all

      go : Ends (most_turns v) v → Comes v
      go (never x e) = refused x e
      go (behind f e skip second) = ending f e skip (λ a b. let s = second a b in (s.0, turned-once (f a) s.0 b s.1, s.2))
