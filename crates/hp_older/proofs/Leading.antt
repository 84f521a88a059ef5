-- Each act that a track fits leads to the track after it, or touches something older; and what it reads is told.
use Rattle.std.proofs.Common.{◌≡◌, ℕ, zero, suc, ◌+◌, ◌≤◌, ◌<◌, List, [], ◌∷◌, length, Bool, true, false, ◌||◌, ◌&&◌, not, refl, sym, ap, ◌∙◌, subst, arith, inr, Option, None, Some, nat_lt}
use Rattle.std.specs.Prelude.{if◌then◌else◌}
use Rattle.std.specs.List.{list_all}
use Rattle.std.proofs.lemmas.Bool.{and_parts, and_from, true≢false, lt-ltb, le-ltb, le-leb, false_from_ne_true, not-true, and_right}
use Rattle.hp_elements.specs.Kinds.{is_html as is_html_space}
use Rattle.hp_elements.specs.Names.{is_among, known_of, text_of, words}
use Rattle.hp_elements.specs.Tokens.{kind_of}
use Rattle.hp_elements.specs.declared.act.Act.{Act}
use Rattle.hp_elements.specs.declared.act.Act.TheVariants as act
use Rattle.hp_elements.specs.declared.act.Which.{Which}
use Rattle.hp_elements.specs.declared.act.Which.TheVariants.{Its, Named}
use Rattle.hp_elements.specs.declared.kinds.Kinds.TheVariants as kinds
use Rattle.hp_elements.specs.declared.known.Known.{Known}
use Rattle.hp_elements.specs.KnownNames as known
use Rattle.hp_elements.specs.declared.token.Kind.{Kind}
use Rattle.hp_elements.specs.declared.token.Kind.TheVariants.{Start, End}
use Rattle.hp_elements.specs.declared.token.Token.{Token}
use Rattle.hp_elements.specs.declared.token.Token.TheVariants as token
use Rattle.hp_elements.proofs.NameLemmas.{found_text}
use Rattle.hp_control.specs.declared.element.OpenElement.{OpenElement}
use Rattle.hp_control.specs.Acts.{element_for, insert, walk}
use Rattle.hp_control.specs.Adoption.{adopt, reconstruct}
use Rattle.hp_control.specs.Composed.{close_description, close_item, close_link, close_paragraph, end_form, flush, foster_characters, implied_thoroughly, is_white, put_characters}
use Rattle.hp_control.specs.Foreign.{current_namespace, insert_in, opened_namespace, pop_to_point, through_foreign}
use Rattle.hp_control.specs.Outcome.{Act as ControlAct, touches_any}
use Rattle.hp_control.specs.States.{ControlState, is_html, is_named, is_template}
use Rattle.hp_views.specs.ResetLaws.{is_same}
use Rattle.hp_model.specs.Steps.{step}
use Rattle.hp_model.specs.Tokens.{bare, is_self_closing, name_for, name_of, tag_of}
use Rattle.hp_model.specs.Whole.{IsRead}
use Rattle.hp_model.proofs.Adopting.{thinning_adopt, thinning_close_link, thinning_flushed}
use Rattle.hp_model.proofs.Course.{Course, Along, Base, tall, fits, has_room, is_above, is_formatting_start, is_standing, is_start, kind_is_template}
use Rattle.hp_model.proofs.Courses.{ready}
use Rattle.hp_model.proofs.Following.{alien-foreign, alien-standing, foreign_thins, opened-foreign}
use Rattle.hp_model.proofs.Thinning.{thinning_close_description, thinning_close_item, thinning_close_paragraph, thinning_end_form, thinning_implied_thoroughly, thinning_pop_to, thinning_reconstruct, thinning_through, thinning_walk}
use Rattle.hp_model.proofs.Thins.{Ready}
use Rattle.hp_acts.specs.Told.{any_new, are_together, has_new_mode, is_first_new, reads_told}
use Rattle.hp_acts.specs.Told as told
use Rattle.hp_older.specs.GoesOn.{is_a, is_new, kept, own}
use Rattle.hp_older.proofs.Acting.{common-sort, name-told, push_sorted, unknown-name}
use Rattle.hp_older.proofs.Effects.{description-weak, foreign-strong, item-weak, paragraph-weak, thoroughly-thin, to_point-strong, walk-thin, walk-weak}
use Rattle.hp_older.proofs.Found.{except_did, implied_did, through_did, through_first_did, to_did}
use Rattle.hp_older.proofs.Kept.{any-kept, kept-alike}
use Rattle.hp_older.proofs.Keys.{among-all, named_in}
use Rattle.hp_older.proofs.Tracking.{on_strong, even_modes}
use Rattle.hp_older.proofs.Levels.{core_names, key_names, template_names}
use Rattle.hp_older.proofs.Links.{adopt-weak, flushed-strong, foreign_made-strong, form-weak, link-weak, reconstruct-strong}
use Rattle.hp_older.proofs.Listing.{append_did, clear_did, form_did, keep_did, marker_did, original_did, pop_mode_did, push_did, replace_did, reset_did, switch_did}
use Rattle.hp_older.proofs.Moves.{Did, did_strong, did_thin, did_weak, pop_did, rooted_on}
use Rattle.hp_older.proofs.Pushing.{next-free, push_common}
use Rattle.hp_older.proofs.Resets.{is_sorted, named-a}
use Rattle.hp_older.proofs.Steps.{can_adopt, can_walk, is_common, touches, track_after, track_fits, walked}
use Rattle.hp_older.proofs.Track.{On, Top, made, TopIs, Track, can_pass, can_push, is_even, is_made, name_told, pushed, common, sort_of, sort_told, strongly, thinly, weakly}

-- a state over an older one: its new elements stand above the older ones
pub record Over (s c : ControlState) : Type 0 where
  pub first : 0 < s.next
  pub later : s.next ≤ c.next
  pub sorted : is_sorted s c.stack ≡ true

module _ (s : ControlState) (fostering : Bool) where
  insert_did : (t : Token) → IsRead t → (v : Course) (n : ℕ) (w : Track) (c : ControlState) → Over s c → Along v n c → On w s c → fits (kind_of t) act.Insert v ≡ true → can_push (sort_told (kind_of t)) w ≡ true → Did s (insert fostering (tag_of t)) (pushed (sort_told (kind_of t)) w) c
  insert_did (token.Start self_closing tag) read v n w c o g on h k = go (known_of tag.name) refl k
    where
      e : OpenElement
      e = element_for c.next tag

      r : is_standing v.base ≡ true
      r = (and_parts (is_standing v.base) _ h).0

      go : (p : Option Known) → known_of tag.name ≡ p → can_push (sort_told (Start p)) w ≡ true → Did s (insert fostering tag) (pushed (sort_told (Start p)) w) c
      go (Some x) q m =
          let same = found_text tag.name x q in (
            refl,
            inr (subst (λ name. On (pushed (sort_of name) w) s (insert fostering tag c).control) (sym same)
                (push_sorted w s c e on (rooted_on v n c g r) (le-leb s.next c.next o.later) (ap is_html_space read) (next-free c e refl g.list_ids g.form) (subst (λ name. can_push (sort_of name) w ≡ true) same m))),
          )
      go None q m = (refl, inr (push_common w s c e on (rooted_on v n c g r) (le-leb s.next c.next o.later) (and_right (is_html e) (is_among key_names tag.name) (unknown-name tag.name q))))
  insert_did t read v n w c o g on h k = absurd (true≢false (sym (and_parts (is_start (kind_of t)) (not (kind_is_template (kind_of t)) || has_room v.room) (and_parts (is_standing v.base) (is_start (kind_of t) && (not (kind_is_template (kind_of t)) || has_room v.room)) h).1).0))

  bare_did : (x : Known) (v : Course) (n : ℕ) (w : Track) (c : ControlState) → Over s c → Along v n c → On w s c → is_standing v.base ≡ true → is_common (sort_of (text_of x)) ≡ true → Did s (insert fostering (bare (text_of x))) (pushed common w) c
  bare_did x v n w c o g on r k = (refl, inr (push_common w s c (element_for c.next (bare (text_of x))) on (rooted_on v n c g r) (le-leb s.next c.next o.later) (common-sort (text_of x) k)))

few_off : (few : List (List ℕ)) (name : List ℕ) → list_all (is_among key_names) few ≡ true → is_among key_names name ≡ false → is_among few name ≡ false
few_off few name a b = false_from_ne_true (is_among few name) (λ z. true≢false (sym (among-all (is_among key_names) few name a z) ∙ b))

-- neither a template nor a cell
core_off : (name : List ℕ) → is_among (words "template") name ≡ false → is_among (words "td th") name ≡ false → is_among core_names name ≡ false
core_off name a b = false_from_ne_true (is_among core_names name) (λ z. true≢false (sym (among-all (λ x. is_among (words "template") x || is_among (words "td th") x) core_names name refl z) ∙ both_off (is_among (words "template") name) (is_among (words "td th") name) a b))
  where
    both_off : (x y : Bool) → x ≡ false → y ≡ false → (x || y) ≡ false
    both_off true y p q = p
    both_off false y p q = q

walk_known : (s : ControlState) (name : List ℕ) (x : Known) → text_of x ≡ name → (v : Course) (n : ℕ) (w : Track) (c : ControlState) → Along v n c → On w s c → is_standing v.base ≡ true → is_among (words "template") (text_of x) ≡ false → is_among (words "html") (text_of x) ≡ false
    → (b : Bool) → is_among (words "td th") (text_of x) ≡ b → Did s (walk name) (if b then thinly w else weakly w) c
walk_known s name x same v n w c g on r nt nh true f = did_thin s (walk name) w v n c g on (thinning_walk name c (ready v n c r g)) (walk-thin s name c (rooted_on v n c g r) (subst (λ z. is_among (words "html") z ≡ false) same nh) (subst (λ z. is_among template_names z ≡ false) same nt))
walk_known s name x same v n w c g on r nt nh false f = did_weak s (walk name) w v n c g on (thinning_walk name c (ready v n c r g)) (walk-weak s name c (rooted_on v n c g r) (subst (λ z. is_among (words "html") z ≡ false) same nh) (subst (λ z. is_among core_names z ≡ false) same (core_off (text_of x) nt f)))

walk_named : (s : ControlState) (name : List ℕ) (p : Option Known) → known_of name ≡ p → (v : Course) (n : ℕ) (w : Track) (c : ControlState) → Along v n c → On w s c → is_standing v.base ≡ true → can_walk (End p) ≡ true → Did s (walk name) (walked (End p) w) c
walk_named s name (Some x) q v n w c g on r m =
    let parts = and_parts (not (is_among (words "template") (text_of x))) (not (is_among (words "html") (text_of x))) m in
    walk_known s name x (found_text name x q) v n w c g on r (not-true (is_among (words "template") (text_of x)) parts.0) (not-true (is_among (words "html") (text_of x)) parts.1) (is_among (words "td th") (text_of x)) refl
walk_named s name None q v n w c g on r m =
    did_weak s (walk name) w v n c g on (thinning_walk name c (ready v n c r g)) (walk-weak s name c (rooted_on v n c g r) (few_off (words "html") name refl (unknown-name name q)) (few_off core_names name refl (unknown-name name q)))

-- what the walk at an end tag does
walk_did : (s : ControlState) (t : Token) (v : Course) (n : ℕ) (w : Track) (c : ControlState) → Along v n c → On w s c → is_standing v.base ≡ true → can_walk (kind_of t) ≡ true → Did s (walk (name_of t)) (walked (kind_of t) w) c
walk_did s (token.EndTag name) v n w c g on r k = walk_named s name (known_of name) refl v n w c g on r k
walk_did s (token.Start self_closing tag) v n w c g on r k = absurd (true≢false (sym k))
walk_did s (token.Characters class text) v n w c g on r k = absurd (true≢false (sym k))
walk_did s (token.Comment text) v n w c g on r k = absurd (true≢false (sym k))
walk_did s (token.Doctype parts) v n w c g on r k = absurd (true≢false (sym k))
walk_did s token.EndOfInput v n w c g on r k = absurd (true≢false (sym k))

adopt_did : (s : ControlState) (fostering : Bool) (name : List ℕ) (v : Course) (n : ℕ) (w : Track) (c : ControlState) → Along v n c → On w s c → is_standing v.base ≡ true → can_pass (words "template td th") name ≡ true → Did s (adopt fostering name) (weakly w) c
adopt_did s fostering name v n w c g on r k =
    let parts = and_parts (not (is_among (words "template td th") name)) (not (is_among (words "html") name)) k in
    did_weak s (adopt fostering name) w v n c g on (thinning_adopt fostering name c (ready v n c r g))
    (adopt-weak s fostering name c (not-true (is_among (words "html") name) parts.1) (not-true (is_among (words "template td th") name) parts.0) (record { ready = ready v n c r g; free = on.free }))

adopt_told : (s : ControlState) (fostering : Bool) (t : Token) (which : Which) (p : Option (List ℕ)) → name_told (kind_of t) which ≡ p → (v : Course) (n : ℕ) (w : Track) (c : ControlState) → Along v n c → On w s c → is_standing v.base ≡ true → can_adopt p ≡ true → Did s (adopt fostering (name_for t which)) (weakly w) c
adopt_told s fostering t which None q v n w c g on r k = absurd (true≢false (sym k))
adopt_told s fostering t which (Some name) q v n w c g on r k = subst (λ x. Did s (adopt fostering x) (weakly w) c) (sym (name-told t which name q)) (adopt_did s fostering name v n w c g on r k)

flush_did : (s : ControlState) (v : Course) (n : ℕ) (w : Track) (c : ControlState) → Along v n c → On w s c → is_standing v.base ≡ true → Did s flush (strongly w) c
flush_did s v n w c g on r =
    let d : ControlState = record c { pending = [] } in
    let rc = ready v n c r g in
    let rd : Ready d = record { rooted = rc.rooted; stack_ids = rc.stack_ids; list_ids = rc.list_ids; head = rc.head; form = rc.form; formatting = rc.formatting } in
    let f : ControlAct = (if list_all is_white c.pending then put_characters c.pending else foster_characters c.pending) in
    let l = flushed-strong s c.pending d rd in
    (l.1, inr (on_strong w s d (f d).control on g.stack_ids (thinning_flushed c.pending d rd) l.0))

through_standing : (kind : Kind) (which : Which) (v : Course) → fits kind (act.Through which) v ≡ true → is_standing v.base ≡ true
through_standing kind Its v h = h
through_standing kind (Named k) v h = (and_parts (is_standing v.base) _ h).0

pub act_did : (s : ControlState) (fostering : Bool) (t : Token) → IsRead t → (a : Act) (v : Course) (n : ℕ) (w : Track) (c : ControlState) → Over s c → Along v n c → On w s c → fits (kind_of t) a v ≡ true → track_fits (kind_of t) a w ≡ true → Did s (step fostering t a) (track_after (kind_of t) a w) c
act_did s fostering t read act.Insert v n w c o g on h k = insert_did s fostering t read v n w c o g on h k
act_did s fostering t read (act.InsertBare x) v n w c o g on h k = bare_did s fostering x v n w c o g on (and_parts (is_standing v.base) _ h).0 k
act_did s fostering t read act.InsertForeign v n w c o g on h k =
    did_strong s (step fostering t act.InsertForeign) w v n c g on (foreign_thins (opened_namespace (name_of t)) fostering (is_self_closing t) (tag_of t) (opened-foreign (name_of t)) c (ready v n c h g))
    (foreign_made-strong s (opened_namespace (name_of t)) fostering (is_self_closing t) (tag_of t) c (opened-foreign (name_of t)) (rooted_on v n c g h))
act_did s fostering t read act.InsertAsCurrent v n w c o g on h k =
    let r = alien-standing v.base h in
    let far = alien-foreign v.base c.stack c.next h g.base in
    did_strong s (insert_in (current_namespace c.stack) fostering (is_self_closing t) (tag_of t)) w v n c g on (foreign_thins (current_namespace c.stack) fostering (is_self_closing t) (tag_of t) far c (ready v n c r g))
    (foreign_made-strong s (current_namespace c.stack) fostering (is_self_closing t) (tag_of t) c far (rooted_on v n c g r))
act_did s fostering t read act.Reconstruct v n w c o g on h k = did_strong s (reconstruct fostering) w v n c g on (thinning_reconstruct fostering c (ready v n c h g)) (reconstruct-strong s fostering c (ready v n c h g))
act_did s fostering t read act.Flush v n w c o g on h k = flush_did s v n w c g on h
act_did s fostering t read act.Pop v n w c o g on h k = pop_did s w v n c g on h k
act_did s fostering t read (act.PopTo names) v n w c o g on h k = to_did s names w v n c g on h k
act_did s fostering t read act.PopToPoint v n w c o g on h k = did_strong s pop_to_point w v n c g on (thinning_pop_to kinds.HtmlOrPoint c (ready v n c h g)) (to_point-strong s c (rooted_on v n c g h))
act_did s fostering t read (act.Through which) v n w c o g on h k = through_did s t which w v n c o.sorted g on (through_standing (kind_of t) which v h) k
act_did s fostering t read (act.ThroughFirstOf names) v n w c o g on h k = through_first_did s names w v n c g on h k
act_did s fostering t read act.ThroughForeign v n w c o g on h k = did_strong s (through_foreign (name_of t)) w v n c g on (thinning_through (kinds.Foreign (name_of t)) kinds.AnyHtml c (ready v n c h g)) (foreign-strong s (name_of t) c (rooted_on v n c g h))
act_did s fostering t read act.Implied v n w c o g on h k = implied_did s w v n c g on h
act_did s fostering t read (act.ImpliedExcept which) v n w c o g on h k = except_did s t which w v n c g on h
act_did s fostering t read act.ImpliedThoroughly v n w c o g on h k = did_thin s implied_thoroughly w v n c g on (thinning_implied_thoroughly c (ready v n c h g)) (thoroughly-thin s c (rooted_on v n c g h))
act_did s fostering t read act.CloseParagraph v n w c o g on h k = did_weak s close_paragraph w v n c g on (thinning_close_paragraph c (ready v n c h g)) (paragraph-weak s c (rooted_on v n c g h))
act_did s fostering t read act.CloseItem v n w c o g on h k = did_weak s close_item w v n c g on (thinning_close_item c (ready v n c h g)) (item-weak s c (rooted_on v n c g h))
act_did s fostering t read act.CloseDescription v n w c o g on h k = did_weak s close_description w v n c g on (thinning_close_description c (ready v n c h g)) (description-weak s c (rooted_on v n c g h))
act_did s fostering t read act.Walk v n w c o g on h k = walk_did s t v n w c g on h k
act_did s fostering t read act.EndForm v n w c o g on h k = did_weak s end_form w v n c g on (thinning_end_form c (ready v n c h g)) (form-weak s c (record { ready = ready v n c h g; free = on.free }))
act_did s fostering t read act.CloseLink v n w c o g on h k = did_weak s (close_link fostering) w v n c g on (thinning_close_link fostering c (ready v n c h g)) (link-weak s fostering c (record { ready = ready v n c h g; free = on.free }))
act_did s fostering t read (act.Adopt which) v n w c o g on h k = adopt_told s fostering t which (name_told (kind_of t) which) refl v n w c g on h k
act_did s fostering t read act.AppendToList v n w c o g on h k = append_did s (tag_of t) w v n c g on (above_standing v (and_parts (is_formatting_start (kind_of t)) (is_above v.base && v.made) h).1) k
  where
    above_standing : (x : Course) → (is_above x.base && x.made) ≡ true → is_standing x.base ≡ true
    above_standing x q = go x.base (and_parts (is_above x.base) x.made q).0
      where
        go : (b : Base) → is_above b ≡ true → is_standing b ≡ true
        go tall z = refl
        go _ z = absurd (true≢false (sym z))
act_did s fostering t read act.Marker v n w c o g on h k = marker_did s w c on
act_did s fostering t read act.ClearToMarker v n w c o g on h k = clear_did s w c on
act_did s fostering t read act.FormPointer v n w c o g on h k = form_did s w v n c g on k
act_did s fostering t read act.Reset v n w c o g on h k = reset_did s w v n c o.sorted g on (and_parts (is_even w.balance) w.still k).1
act_did s fostering t read act.KeepOriginal v n w c o g on h k = keep_did s w c on k
act_did s fostering t read act.ToOriginal v n w c o g on h k = original_did s w v n c g on h k
act_did s fostering t read (act.Switch m) v n w c o g on h k = switch_did s m w c on
act_did s fostering t read (act.PushTemplateMode m) v n w c o g on h k = push_did s m w c on k
act_did s fostering t read (act.ReplaceTemplateMode m) v n w c o g on h k = replace_did s m w c on
act_did s fostering t read act.PopTemplateMode v n w c o g on h k = pop_mode_did s w c o.first on k
act_did s fostering t read act.InsertHtml v n w c o g on h k = absurd (true≢false (sym k))
act_did s fostering t read act.InsertBareHtml v n w c o g on h k = absurd (true≢false (sym k))
act_did s fostering t read act.PushHead v n w c o g on h k = absurd (true≢false (sym k))
act_did s fostering t read act.PopToFirst v n w c o g on h k = absurd (true≢false (sym k))
act_did s fostering t read act.TakeHeadOff v n w c o g on h k = absurd (true≢false (sym k))
act_did s fostering t read act.HeadPointer v n w c o g on h k = absurd (true≢false (sym k))
act_did s fostering t read act.QuirksOfDoctype v n w c o g on h k = absurd (true≢false (sym k))
act_did s fostering t read (act.If x otherwise) v n w c o g on h k = absurd (true≢false (sym k))
act_did s fostering t read (act.Unless x otherwise) v n w c o g on h k = absurd (true≢false (sym k))
act_did s fostering t read _ v n w c o g on h k = (refl, inr on)

-- acts that always touch something older
pub touching_did : (s : ControlState) (fostering : Bool) (t : Token) (a : Act) (c : ControlState) → 0 < s.next → touches a ≡ true → ((step fostering t a c).spared ≡ false) × (touches_any s (step fostering t a c) ≡ true)
touching_did s fostering t act.AddMissingToFirst c l h = (refl, ap (λ b. b || false) (lt-ltb 0 s.next l))
touching_did s fostering t act.AddMissingToBody c l h = (refl, ap (λ b. b || false) (lt-ltb 0 s.next l))
touching_did s fostering t act.DetachBody c l h = (refl, ap (λ b. b || false) (lt-ltb 0 s.next l))
touching_did s fostering t _ c l h = absurd (true≢false (sym h))

-- what an act reads is told
new_of : (s : ControlState) (name : List ℕ) (test : OpenElement → Bool) → ((e : OpenElement) → test e ≡ named_in (name ∷ []) e) → (es : List OpenElement) → any_new s test es ≡ nat_lt 0 (length (kept (λ e. is_new s e && named_in (name ∷ []) e) es))
new_of s name test h es = any-kept (λ e. told.is_new s e && test e) es ∙ ap (λ l. nat_lt 0 (length l)) (kept-alike (λ e. told.is_new s e && test e) (λ e. is_new s e && named_in (name ∷ []) e) (λ e. ap (λ b. is_new s e && b) (h e)) es)

more_than : (older few : ℕ) → nat_lt older (older + few) ≡ nat_lt 0 few
more_than older zero = le-ltb older (older + 0) (omega arith) ∙ sym (le-ltb 0 0 (omega arith))
more_than older (suc few) = lt-ltb older (older + suc few) (omega arith) ∙ sym (lt-ltb 0 (suc few) (omega arith))

same_self : (b : Bool) → is_same b b ≡ true
same_self true = refl
same_self false = refl

pub together-told : (s : ControlState) (w : Track) (c : ControlState) → On w s c → is_even w.balance ≡ true → are_together s c ≡ true
together-told s w c on h =
    let no_html : any_new s (is_named known.Html) c.stack ≡ false = new_of s (text_of known.Html) (is_named known.Html) (named-a (text_of known.Html)) c.stack ∙ ap (λ l. nat_lt 0 (length l)) on.html in
    let templates : any_new s is_template c.stack ≡ nat_lt 0 (length (own s (is_a "template") c.stack)) = new_of s (text_of known.Template) is_template (named-a (text_of known.Template)) c.stack in
    let modes : has_new_mode s c ≡ nat_lt 0 (length (own s (is_a "template") c.stack)) = ap (nat_lt (length s.templates)) (even_modes w.balance (length (own s (is_a "template") c.stack)) (length c.templates) (length s.templates) h on.balance) ∙ more_than (length s.templates) (length (own s (is_a "template") c.stack)) in
    and_from (not (any_new s (is_named known.Html) c.stack)) (is_same (any_new s is_template c.stack) (has_new_mode s c)) (ap not no_html)
    (ap (λ b. is_same b (has_new_mode s c)) templates ∙ (ap (is_same (nat_lt 0 (length (own s (is_a "template") c.stack)))) modes ∙ same_self (nat_lt 0 (length (own s (is_a "template") c.stack)))))

first_told : (s : ControlState) (tp : Top) (st : List OpenElement) → is_made tp ≡ true → TopIs tp s st → is_first_new s st ≡ true
first_told s made [] h k = absurd k
first_told s made (e ∷ st) h k = k.2
first_told s _ st h k = absurd (true≢false (sym h))

pub act_reads : (s : ControlState) (kind : Kind) (a : Act) (w : Track) (c : ControlState) → On w s c → track_fits kind a w ≡ true → reads_told s a c ≡ true
act_reads s kind act.Reset w c on k = together-told s w c on (and_parts (is_even w.balance) w.still k).0
act_reads s kind act.FormPointer w c on k = first_told s w.top c.stack k on.top
act_reads s kind act.AppendToList w c on k = first_told s w.top c.stack k on.top
act_reads s kind _ w c on k = refl
