-- On its course each act finds what it reads.
use Rattle.std.proofs.Common.{◌≡◌, ℕ, zero, suc, ◌≤◌, ◌<◌, List, [], ◌∷◌, length, Bool, true, false, ◌||◌, ◌&&◌, not, refl, sym, ap, arith, Option, None, Some}
use Rattle.std.specs.Prelude.{if◌then◌else◌}
use Rattle.std.specs.List.{list_any}
use Rattle.std.specs.Option.{is_some}
use Rattle.std.specs.Str.{bytes_eq}
use Rattle.std.proofs.lemmas.Bool.{and_parts, and_from, true≢false}
use Rattle.hp_elements.specs.Names.{text_of}
use Rattle.hp_elements.specs.Rules.{Plan, ends, ◌⨾◌, when, unless, plan_for}
use Rattle.hp_elements.specs.Tokens.{kind_of}
use Rattle.hp_elements.specs.declared.act.Act.{Act}
use Rattle.hp_elements.specs.declared.act.Act.TheVariants as act
use Rattle.hp_elements.specs.declared.act.Which.TheVariants.{Its, Named}
use Rattle.hp_elements.specs.KnownNames as known
use Rattle.hp_elements.specs.declared.token.Kind.{Kind}
use Rattle.hp_elements.specs.declared.token.Mode.{Mode}
use Rattle.hp_elements.specs.declared.token.Token.{Token}
use Rattle.hp_control.specs.declared.element.OpenElement.{OpenElement}
use Rattle.hp_control.specs.Foreign.{is_foreign}
use Rattle.hp_control.specs.States.{ControlState, IsValid, is_rooted, is_tall, is_template}
use Rattle.hp_rules_rest.specs.Foreign.{foreign}
use Rattle.hp_rules_rest.specs.Whole.{every_mode_rows}
use Rattle.hp_model.specs.Finding.{act_finds, finds, is_empty, nothing_missing, plan_finds, rules_find, turn_finds, where_it_goes_on}
use Rattle.hp_model.specs.Rows.{carry, carry_plan, mode_turn, nothing_more, rules}
use Rattle.hp_model.specs.Steps.{holds}
use Rattle.hp_model.specs.Turns.{Turn, goes_on, done, again, left_by}
use Rattle.hp_model.specs.Whole.{IsRead}
use Rattle.hp_model.proofs.Tally.{tally, tally-any}
use Rattle.hp_model.proofs.Stacks.{is_counted}
use Rattle.hp_model.proofs.Course.{Course, Along, Base, bare, tall, alien, Room, lacking, enough, spare, BaseIs, OriginalIs, RoomIs, after, assume, fits, has_room, is_above, is_alien, is_a_template, is_bare, is_formatting_start, is_standing}
use Rattle.hp_model.proofs.Courses.{standing-rooted}
use Rattle.hp_model.proofs.Handled.{along-foreign, along-start, foreign-base, foreign-standing, foreign-top, or_second}
use Rattle.hp_model.proofs.Passes.{Rank, act_passes, base_of, foreign_passes, goes_foreign, good, mode_passes, plan_passes, rank, rules_pass, start}
use Rattle.hp_model.proofs.Tests.{each_foreign, each_mode}
use Rattle.hp_model.proofs.Walking.{Meets, act_meets, assumed, plan_meets, rules_meet}

rooted-current : (st : List OpenElement) → is_rooted st ≡ true → not (is_empty st) ≡ true
rooted-current [] h = absurd (true≢false (sym h))
rooted-current (e ∷ es) h = refl

current : (b : Base) (st : List OpenElement) (next : ℕ) → is_standing b ≡ true → BaseIs b st next → not (is_empty st) ≡ true
current b st next h k = rooted-current st (standing-rooted b st next h k)

above : (b : Base) (st : List OpenElement) (next : ℕ) → is_above b ≡ true → BaseIs b st next → is_tall st ≡ true
above tall st next h k = k.1
above _ st next h k = absurd (true≢false (sym h))

nothing_open : (b : Base) (st : List OpenElement) (next : ℕ) → is_bare b ≡ true → BaseIs b st next → is_empty st ≡ true
nothing_open bare st next h k = ap is_empty k.0
nothing_open _ st next h k = absurd (true≢false (sym h))

alien-current : (b : Base) (st : List OpenElement) (next : ℕ) → is_alien b ≡ true → BaseIs b st next → not (is_empty st) ≡ true
alien-current alien st next h k = rooted-current st k.0
alien-current _ st next h k = absurd (true≢false (sym h))

none_left : (r : Room) (templates : ℕ) → has_room r ≡ true → RoomIs r templates 0 → templates ≤ 0
none_left lacking templates h k = absurd (true≢false (sym h))
none_left enough templates h k = k
none_left spare templates h k = omega arith

room-modes : (r : Room) (st : List OpenElement) (modes : List Mode) → has_room r ≡ true → RoomIs r (tally is_template st) (length modes) → (not (list_any is_template st) || not (is_empty modes)) ≡ true
room-modes r st (m ∷ ms) h k = go (list_any is_template st)
  where
    go : (b : Bool) → (not b || true) ≡ true
    go true = refl
    go false = refl
room-modes r st [] h k = go (list_any is_template st) refl
  where
    go : (b : Bool) → list_any is_template st ≡ b → (not b || false) ≡ true
    go false e = refl
    go true e = let z : tally is_template st ≤ 0 = none_left r (tally is_template st) h k in let p : 0 < tally is_template st = tally-any is_template st e in absurd (omega arith)

original-some : (b : Bool) (o : Option Mode) → b ≡ true → OriginalIs b o → is_some o ≡ true
original-some true None h k = absurd k
original-some true (Some m) h k = refl
original-some false o h k = absurd (true≢false (sym h))

pub act_found : (kind : Kind) (a : Act) (v : Course) (n : ℕ) (s : ControlState) → Along v n s → fits kind a v ≡ true → finds a s ≡ true
act_found kind act.Characters v n s g h = current v.base s.stack s.next h g.base
act_found kind act.Replacement v n s g h = current v.base s.stack s.next h g.base
act_found kind act.Comment v n s g h = current v.base s.stack s.next h g.base
act_found kind act.CommentIntoFirst v n s g h = current v.base s.stack s.next h g.base
act_found kind act.AddMissingToFirst v n s g h = current v.base s.stack s.next h g.base
act_found kind act.AddMissingToBody v n s g h = current v.base s.stack s.next h g.base
act_found kind act.InsertForeign v n s g h = current v.base s.stack s.next h g.base
act_found kind act.PushHead v n s g h = current v.base s.stack s.next h g.base
act_found kind act.Reconstruct v n s g h = current v.base s.stack s.next h g.base
act_found kind act.Pop v n s g h = current v.base s.stack s.next h g.base
act_found kind (act.PopTo names) v n s g h = current v.base s.stack s.next h g.base
act_found kind act.PopToFirst v n s g h = current v.base s.stack s.next h g.base
act_found kind act.PopToPoint v n s g h = current v.base s.stack s.next h g.base
act_found kind (act.Through Its) v n s g h = current v.base s.stack s.next h g.base
act_found kind (act.ThroughFirstOf names) v n s g h = current v.base s.stack s.next h g.base
act_found kind act.ThroughForeign v n s g h = current v.base s.stack s.next h g.base
act_found kind act.Implied v n s g h = current v.base s.stack s.next h g.base
act_found kind (act.ImpliedExcept which) v n s g h = current v.base s.stack s.next h g.base
act_found kind act.ImpliedThoroughly v n s g h = current v.base s.stack s.next h g.base
act_found kind act.CloseParagraph v n s g h = current v.base s.stack s.next h g.base
act_found kind act.CloseItem v n s g h = current v.base s.stack s.next h g.base
act_found kind act.CloseDescription v n s g h = current v.base s.stack s.next h g.base
act_found kind act.Walk v n s g h = current v.base s.stack s.next h g.base
act_found kind act.DetachBody v n s g h = current v.base s.stack s.next h g.base
act_found kind act.TakeHeadOff v n s g h = current v.base s.stack s.next h g.base
act_found kind act.EndForm v n s g h = current v.base s.stack s.next h g.base
act_found kind act.CloseLink v n s g h = current v.base s.stack s.next h g.base
act_found kind (act.Adopt which) v n s g h = current v.base s.stack s.next h g.base
act_found kind act.Flush v n s g h = current v.base s.stack s.next h g.base
act_found kind act.Insert v n s g h = current v.base s.stack s.next (and_parts (is_standing v.base) _ h).0 g.base
act_found kind (act.InsertBare k) v n s g h = current v.base s.stack s.next (and_parts (is_standing v.base) (not (is_a_template (text_of k))) h).0 g.base
act_found kind (act.Through (Named k)) v n s g h = current v.base s.stack s.next (and_parts (is_standing v.base) (not (bytes_eq (text_of known.Html) (text_of k))) h).0 g.base
act_found kind act.InsertAsCurrent v n s g h = alien-current v.base s.stack s.next h g.base
act_found kind act.InsertHtml v n s g h = nothing_open v.base s.stack s.next (and_parts (is_bare v.base) _ h).0 g.base
act_found kind act.InsertBareHtml v n s g h = nothing_open v.base s.stack s.next h g.base
act_found kind act.HeadPointer v n s g h = above v.base s.stack s.next (and_parts (is_above v.base) v.made h).0 g.base
act_found kind act.FormPointer v n s g h = above v.base s.stack s.next (and_parts (is_above v.base) v.made h).0 g.base
act_found kind act.AppendToList v n s g h = above v.base s.stack s.next (and_parts (is_above v.base) v.made (and_parts (is_formatting_start kind) (is_above v.base && v.made) h).1).0 g.base
act_found kind act.Reset v n s g h =
    let parts = and_parts (is_standing v.base) (has_room v.room) h in
    and_from (not (is_empty s.stack)) (not (list_any is_template s.stack) || not (is_empty s.templates)) (current v.base s.stack s.next parts.0 g.base) (room-modes v.room s.stack s.templates parts.1 g.room)
act_found kind act.ToOriginal v n s g h = original-some v.has_original s.original h g.original
act_found kind _ v n s g h = refl

module _ (from : Rank) (n : ℕ) (t : Token) (read : IsRead t) where
  -- the rest finds what it reads, from each state that meets its course
  going : (u : Turn) (rest : ControlState → Bool) (middle last : Course → Bool) → Meets from n middle last u → ((w : Course) (r : ControlState) → Along w n r → middle w ≡ true → rest r ≡ true) → where_it_goes_on u rest ≡ true
  going (goes_on h) rest middle last (w, g) f = f w (left_by h) g.0 g.1
  going (done h) rest middle last m f = refl
  going (again token h) rest middle last m f = refl

  module _ (follow : Bool → Mode → ControlState → Turn) (present : ControlState → Turn)
      (follow_passes : Mode → Course → (Course → Bool) → Bool) (present_passes : Course → (Course → Bool) → Bool)
      (follow_meets : (f : Bool) (m : Mode) (v : Course) (s : ControlState) (next : Course → Bool) → Along v n s → follow_passes m v next ≡ true → Meets from n next next (follow f m s))
      (present_meets : (v : Course) (s : ControlState) (next : Course → Bool) → Along v n s → present_passes v next ≡ true → Meets from n next next (present s))
      (follow_finds : Bool → Mode → ControlState → Bool) (present_finds : ControlState → Bool)
      (follow_found : (f : Bool) (m : Mode) (v : Course) (s : ControlState) (next : Course → Bool) → Along v n s → follow_passes m v next ≡ true → follow_finds f m s ≡ true)
      (present_found : (v : Course) (s : ControlState) (next : Course → Bool) → Along v n s → present_passes v next ≡ true → present_finds s ≡ true)
      (fostering : Bool) where
    one_found : (a : Act) (v : Course) (s : ControlState) (next last : Course → Bool) → Along v n s → act_passes from (kind_of t) follow_passes present_passes a v next last ≡ true → act_finds follow_finds present_finds fostering a s ≡ true
    one_found act.Done v s next last g h = refl
    one_found act.Again v s next last g h = refl
    one_found (act.AgainAs k) v s next last g h = refl
    one_found (act.As m) v s next last g h = follow_found fostering m v s next g h
    one_found (act.AsFostered m) v s next last g h = follow_found true m v s next g h
    one_found act.AsPresent v s next last g h = present_found v s next g h
    one_found other v s next last g h = act_found (kind_of t) other v n s g (and_parts (fits (kind_of t) other v) (next (after (kind_of t) other v)) h).0

    pub plan_found : (plan : Plan) (v : Course) (s : ControlState) (next last : Course → Bool) → Along v n s → plan_passes from (kind_of t) follow_passes present_passes plan v next last ≡ true
        → plan_finds follow present follow_finds present_finds fostering t plan s ≡ true
    plan_found ends v s next last g h = refl
    plan_found (a ⨾ plan) v s next last g h =
        and_from (act_finds follow_finds present_finds fostering a s) (where_it_goes_on (carry follow present fostering t a s) (plan_finds follow present follow_finds present_finds fostering t plan))
        (one_found a v s (λ w. plan_passes from (kind_of t) follow_passes present_passes plan w next last) last g h)
        (going (carry follow present fostering t a s) (plan_finds follow present follow_finds present_finds fostering t plan) (λ w. plan_passes from (kind_of t) follow_passes present_passes plan w next last) last
        (act_meets from n t read follow present follow_passes present_passes follow_meets present_meets fostering a v s (λ w. plan_passes from (kind_of t) follow_passes present_passes plan w next last) last g h)
        (λ w r g2 h2. plan_found plan w r next last g2 h2))
    plan_found (when test plan rest) v s next last g h =
        let parts = and_parts (plan_passes from (kind_of t) follow_passes present_passes plan (assume test v) (λ w. plan_passes from (kind_of t) follow_passes present_passes rest w next last) last) _ h in
        go (holds t test s) refl parts.0 parts.1 (λ w r g2 h2. plan_found rest w r next last g2 h2) (λ g2 h2. plan_found plan (assume test v) s (λ w. plan_passes from (kind_of t) follow_passes present_passes rest w next last) last g2 h2)
      where
        go : (b : Bool) → holds t test s ≡ b → plan_passes from (kind_of t) follow_passes present_passes plan (assume test v) (λ w. plan_passes from (kind_of t) follow_passes present_passes rest w next last) last ≡ true
            → plan_passes from (kind_of t) follow_passes present_passes rest v next last ≡ true
            → ((w : Course) (r : ControlState) → Along w n r → plan_passes from (kind_of t) follow_passes present_passes rest w next last ≡ true → plan_finds follow present follow_finds present_finds fostering t rest r ≡ true)
            → (Along (assume test v) n s → plan_passes from (kind_of t) follow_passes present_passes plan (assume test v) (λ w. plan_passes from (kind_of t) follow_passes present_passes rest w next last) last ≡ true → plan_finds follow present follow_finds present_finds fostering t plan s ≡ true)
            → (if b then plan_finds follow present follow_finds present_finds fostering t plan s && where_it_goes_on (carry_plan follow present fostering t plan s) (plan_finds follow present follow_finds present_finds fostering t rest) else plan_finds follow present follow_finds present_finds fostering t rest s) ≡ true
        go true e p q on inner =
            let g2 = assumed from n t read test v s g e in
            and_from (plan_finds follow present follow_finds present_finds fostering t plan s) (where_it_goes_on (carry_plan follow present fostering t plan s) (plan_finds follow present follow_finds present_finds fostering t rest)) (inner g2 p)
            (going (carry_plan follow present fostering t plan s) (plan_finds follow present follow_finds present_finds fostering t rest) (λ w. plan_passes from (kind_of t) follow_passes present_passes rest w next last) last
            (plan_meets from n t read follow present follow_passes present_passes follow_meets present_meets fostering plan (assume test v) s (λ w. plan_passes from (kind_of t) follow_passes present_passes rest w next last) last g2 p) on)
        go false e p q on inner = on v s g q
    plan_found (unless test plan rest) v s next last g h =
        let parts = and_parts (plan_passes from (kind_of t) follow_passes present_passes rest (assume test v) next last) _ h in
        go (holds t test s) refl parts.0 parts.1 (λ w r g2 h2. plan_found rest w r next last g2 h2) (λ h2. plan_found plan v s (λ w. plan_passes from (kind_of t) follow_passes present_passes rest w next last) last g h2)
      where
        go : (b : Bool) → holds t test s ≡ b → plan_passes from (kind_of t) follow_passes present_passes rest (assume test v) next last ≡ true
            → plan_passes from (kind_of t) follow_passes present_passes plan v (λ w. plan_passes from (kind_of t) follow_passes present_passes rest w next last) last ≡ true
            → ((w : Course) (r : ControlState) → Along w n r → plan_passes from (kind_of t) follow_passes present_passes rest w next last ≡ true → plan_finds follow present follow_finds present_finds fostering t rest r ≡ true)
            → (plan_passes from (kind_of t) follow_passes present_passes plan v (λ w. plan_passes from (kind_of t) follow_passes present_passes rest w next last) last ≡ true → plan_finds follow present follow_finds present_finds fostering t plan s ≡ true)
            → (if b then plan_finds follow present follow_finds present_finds fostering t rest s else plan_finds follow present follow_finds present_finds fostering t plan s && where_it_goes_on (carry_plan follow present fostering t plan s) (plan_finds follow present follow_finds present_finds fostering t rest)) ≡ true
        go true e p q on inner = on (assume test v) s (assumed from n t read test v s g e) p
        go false e p q on inner =
            and_from (plan_finds follow present follow_finds present_finds fostering t plan s) (where_it_goes_on (carry_plan follow present fostering t plan s) (plan_finds follow present follow_finds present_finds fostering t rest)) (inner q)
            (going (carry_plan follow present fostering t plan s) (plan_finds follow present follow_finds present_finds fostering t rest) (λ w. plan_passes from (kind_of t) follow_passes present_passes rest w next last) last
            (plan_meets from n t read follow present follow_passes present_passes follow_meets present_meets fostering plan v s (λ w. plan_passes from (kind_of t) follow_passes present_passes rest w next last) last g q) on)

  pub rules_found : (depth : ℕ) (fostering : Bool) (m : Mode) (v : Course) (s : ControlState) (next : Course → Bool) → Along v n s → rules_pass from (kind_of t) depth m v next ≡ true → rules_find depth t fostering m s ≡ true
  unfolding rules_find rules_pass
  rules_found zero fostering m v s next g h = refl
  rules_found (suc depth) fostering m v s next g h =
      plan_found (rules depth t) nothing_more (rules_pass from (kind_of t) depth) (λ w k. k w) (rules_meet from n t read depth) (λ w r k g2 h2. (w, (g2, h2))) (rules_find depth t) nothing_missing (rules_found depth) (λ w r k g2 h2. refl) fostering
      (plan_for (every_mode_rows m) (kind_of t)) v s next next g h

-- from a valid state each act of a turn finds what it reads
pub acts_find : (t : Token) (s : ControlState) → IsRead t → IsValid s → turn_finds t s ≡ true
unfolding turn_finds mode_passes foreign_passes
acts_find t s read v = go (is_foreign (kind_of t) s.stack) refl
  where
    go : (b : Bool) → is_foreign (kind_of t) s.stack ≡ b
        → (if b then plan_finds (rules 4 t) (mode_turn t s.mode) (rules_find 4 t) (rules_find 4 t false s.mode) false t (plan_for foreign (kind_of t)) s else rules_find 4 t false s.mode s) ≡ true
    go true e =
        let far = foreign-standing (kind_of t) s.mode s v.stack e in
        plan_found (rank (kind_of t) s.mode) (tally is_counted s.stack) t read (rules 4 t) (mode_turn t s.mode) (rules_pass (rank (kind_of t) s.mode) (kind_of t) 4) (rules_pass (rank (kind_of t) s.mode) (kind_of t) 4 s.mode)
        (rules_meet (rank (kind_of t) s.mode) (tally is_counted s.stack) t read 4) (rules_meet (rank (kind_of t) s.mode) (tally is_counted s.stack) t read 4 false s.mode) (rules_find 4 t) (rules_find 4 t false s.mode)
        (rules_found (rank (kind_of t) s.mode) (tally is_counted s.stack) t read 4) (rules_found (rank (kind_of t) s.mode) (tally is_counted s.stack) t read 4 false s.mode) false
        (plan_for foreign (kind_of t)) (record (start s.mode) { base = alien }) s good good (along-foreign s v (foreign-base s.mode s v.stack far) (foreign-top (kind_of t) s.stack e))
        (or_second (goes_foreign (base_of s.mode)) _ far (each_foreign s.mode (kind_of t)))
    go false e = rules_found (rank (kind_of t) s.mode) (tally is_counted s.stack) t read 4 false s.mode (start s.mode) s good (along-start s v) (each_mode s.mode (kind_of t))
