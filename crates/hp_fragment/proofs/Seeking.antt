-- What the run asks for tokens that are handled one behind the other.
use Rattle.std.proofs.Common.{◌≡◌, List, [], ◌∷◌, ◌++◌, refl, ap, ◌∙◌, sym, subst, append-nil, append_assoc, Option}
use Rattle.std.specs.Prelude.{Result, Ok, Err}
use Rattle.hp_elements.specs.declared.token.Rest.{Rest}
use Rattle.hp_elements.specs.declared.token.Token.{Token}
use Rattle.hp_elements.specs.declared.token.Token.TheVariants.{EndOfInput}
use Rattle.hp_tokens.specs.Moves.{Lexing}
use Rattle.hp_tokens.specs.Reading.{Unread}
use Rattle.hp_control.specs.declared.edit.Edit.{Edit}
use Rattle.hp_control.specs.declared.question.Answer.{Answer}
use Rattle.hp_control.specs.declared.question.Crossing.{Crossing}
use Rattle.hp_control.specs.declared.question.Question.{Question}
use Rattle.hp_control.specs.Faithful.{Split}
use Rattle.hp_control.specs.Nothing.{nothing}
use Rattle.hp_control.specs.Plan.{Plan, asked_by, end_by, gives}
use Rattle.hp_control.specs.Running.{asked_then, end_then, on_asked, on_end}
use Rattle.hp_lexer.specs.declared.lexer.Asked.TheVariants as asked
use Rattle.hp_lexer.specs.declared.lexer.Lexer.{Lexer}
use Rattle.hp_lexer.specs.Standing.{stands}
use Rattle.hp_acts.specs.declared.turns.Handled.{Handled as Told}
use Rattle.hp_acts.specs.HandlePlans.{handle_plan}
use Rattle.hp_acts.specs.RowPlans.{Reached}
use Rattle.hp_asked.specs.Seeking.{Seeker, led_to, seek}
use Rattle.hp_model.specs.AtOnce.{handle_at_once}
use Rattle.hp_model.specs.Runs.{switched}
use Rattle.hp_runs.proofs.Lexers.{stands-after}
use Rattle.hp_runs.specs.Handling.{Handler, turned}
use Rattle.hp_asked.proofs.TextRuns.{IsSame}
use Rattle.hp_fragment.proofs.Unedited.{asked-same, end-same, ended-crossed, ended-in}
use Rattle.hp_fragment.specs.Reading.{Seeks, Stage, seeker_of, unedited}

-- plans of three parts, by their ends
ends-of-three : {X Y Z : Type 0} (e : Result X Crossing) (f : X → Result Z Crossing) (g : X → Result Y Crossing) (h : Y → Result Z Crossing) → ((x : X) → f x ≡ on_end (g x) h) → on_end e f ≡ on_end (on_end e g) h
ends-of-three (Ok x) f g h each = each x
ends-of-three (Err crossing) f g h each = refl

asked-of-three : {X Y : Type 0} (qs : List Question) (e : Result X Crossing) (f g : X → List Question) (n : X → Result Y Crossing) (h : Y → List Question) → ((x : X) → f x ≡ g x ++ on_asked (n x) h)
    → qs ++ on_asked e f ≡ (qs ++ on_asked e g) ++ on_asked (on_end e n) h
asked-of-three qs (Ok x) f g n h each = ap (λ (rs : List Question). qs ++ rs) (each x) ∙ sym (append_assoc qs (g x) (on_asked (n x) h))
asked-of-three qs (Err crossing) f g n h each = sym (append-nil (qs ++ []))

none-asked : {X : Type 0} (e : Result X Crossing) → on_asked e (λ (x : X). []) ≡ []
none-asked (Ok x) = refl
none-asked (Err crossing) = refl

module _ (says : Question → Answer) where
  -- tokens in two parts
  seek-end : (xs ys : List Token) (k : Seeker) → end_by says (seek (xs ++ ys) k) ≡ on_end (end_by says (seek xs k)) (λ m. end_by says (seek ys m))
  seek-end [] ys k = refl
  seek-end (x ∷ xs) ys k =
      let first : Plan Reached = handle_plan x k.split in
      let whole : Reached → Plan Seeker = λ r. seek (xs ++ ys) (led_to r k) in
      let front : Reached → Plan Seeker = λ r. seek xs (led_to r k) in
      let back : Seeker → Result Seeker Crossing = λ m. end_by says (seek ys m) in
      end_then says first whole
      ∙ (ends-of-three (end_by says first) (λ r. end_by says (whole r)) (λ r. end_by says (front r)) back (λ r. seek-end xs ys (led_to r k))
      ∙ ap (λ (e : Result Seeker Crossing). on_end e back) (sym (end_then says first front)))

  seek-asked : (xs ys : List Token) (k : Seeker) → asked_by says (seek (xs ++ ys) k) ≡ asked_by says (seek xs k) ++ on_asked (end_by says (seek xs k)) (λ m. asked_by says (seek ys m))
  seek-asked [] ys k = refl
  seek-asked (x ∷ xs) ys k =
      let first : Plan Reached = handle_plan x k.split in
      let whole : Reached → Plan Seeker = λ r. seek (xs ++ ys) (led_to r k) in
      let front : Reached → Plan Seeker = λ r. seek xs (led_to r k) in
      let back : Seeker → List Question = λ m. asked_by says (seek ys m) in
      asked_then says first whole
      ∙ (asked-of-three (asked_by says first) (end_by says first) (λ r. asked_by says (whole r)) (λ r. asked_by says (front r)) (λ r. end_by says (front r)) back (λ r. seek-asked xs ys (led_to r k))
      ∙ (ap (λ (qs : List Question). qs ++ on_asked (on_end (end_by says first) (λ r. end_by says (front r))) back) (sym (asked_then says first front))
      ∙ ap (λ (e : Result Seeker Crossing). asked_by says (seek (x ∷ xs) k) ++ on_asked e back) (sym (end_then says first front))))

  pub seeks-then : (k m : Seeker) (xs ys : List Token) (qs rs : List Question) (end : Result Seeker Crossing) → Seeks says k xs qs (Ok m) → Seeks says m ys rs end → Seeks says k (xs ++ ys) (qs ++ rs) end
  seeks-then k m xs ys qs rs end f g = record {
    asks =
        ap (λ (ps : List Question). ps ++ rs) f.asks
        ∙ (ap (λ (ps : List Question). asked_by says (seek xs k) ++ ps) (g.asks ∙ sym (asked-same says ys there.0 m there.2))
        ∙ sym (seek-asked xs ys k ∙ ap (λ (e : Result Seeker Crossing). asked_by says (seek xs k) ++ on_asked e (λ n. asked_by says (seek ys n))) there.1));
    ends =
        ap unedited (seek-end xs ys k ∙ ap (λ (e : Result Seeker Crossing). on_end e (λ n. end_by says (seek ys n))) there.1)
        ∙ (end-same says ys there.0 m there.2 ∙ g.ends);
  }
    where
      there : (n : Seeker) × (end_by says (seek xs k) ≡ Ok n) × IsSame n m
      there = ended-in (end_by says (seek xs k)) m f.ends

  -- a crossing ends it, whatever is behind
  pub seeks-before : (k : Seeker) (xs ys : List Token) (qs : List Question) (crossing : Crossing) → Seeks says k xs qs (Err crossing) → Seeks says k (xs ++ ys) qs (Err crossing)
  seeks-before k xs ys qs crossing f = record {
    asks =
        f.asks
        ∙ sym (seek-asked xs ys k ∙ (ap (λ (e : Result Seeker Crossing). asked_by says (seek xs k) ++ on_asked e (λ n. asked_by says (seek ys n))) there ∙ append-nil (asked_by says (seek xs k))));
    ends = ap unedited (seek-end xs ys k ∙ ap (λ (e : Result Seeker Crossing). on_end e (λ n. end_by says (seek ys n))) there);
  }
    where
      there : end_by says (seek xs k) ≡ Err crossing
      there = ended-crossed (end_by says (seek xs k)) crossing f.ends

  pub seeks-none : (k : Seeker) → Seeks says k [] [] (Ok k)
  seeks-none k = record { asks = refl; ends = refl }

  -- one token
  pub seeks-one : (k : Seeker) (t : Token) (end : Result Reached Crossing) → end_by says (handle_plan t k.split) ≡ end → Seeks says k (t ∷ []) (asked_by says (handle_plan t k.split)) (on_end end (λ r. Ok (led_to r k)))
  seeks-one k t end ends =
      let plan : Plan Reached = handle_plan t k.split in
      let next : Reached → Plan Seeker = λ r. gives (led_to r k) in
      record {
        asks = sym (asked_then says plan next ∙ (ap (λ (qs : List Question). asked_by says plan ++ qs) (none-asked (end_by says plan)) ∙ append-nil (asked_by says plan)));
        ends = ap unedited (end_then says plan next ∙ ap (λ (e : Result Reached Crossing). on_end e (λ r. Ok (led_to r k))) ends);
      }

-- the lexer in code stands where the run's is switched to
pub turned-stands : (to : Option Rest) (l : Lexer) (u : Unread) → l.asked ≡ asked.Nothing → stands (turned to l) u ≡ switched to (stands l u)
turned-stands to l u none = stands-after does nothing (EndOfInput ∷ []) l u none
  where
    does : Handler
    does c t = record (handle_at_once c t) { switch = to }

-- one token was handled, and of the view's edits some may have gone on
pub one-sought : (old new : Stage) (w : Split) (edits : List Edit) (t : Token) (handled : Told) → end_by old.heard.says (handle_plan t old.split) ≡ Ok (record { split = w; handled = handled }) → new.split ≡ record w { edits = edits }
    → stands new.lexer new.input ≡ switched handled.switch (stands old.lexer old.input) → Seeks old.heard.says (seeker_of old) (t ∷ []) (asked_by old.heard.says (handle_plan t old.split)) (Ok (seeker_of new))
one-sought old new w edits t handled ends split there =
    subst (λ (m : Seeker). Seeks old.heard.says (seeker_of old) (t ∷ []) (asked_by old.heard.says (handle_plan t old.split)) (Ok m))
    (ap (λ (l : Lexing). record { lexing = l; split = record w { edits = edits } }) (sym there) ∙ ap (λ (v : Split). record { lexing = stands new.lexer new.input; split = v }) (sym split))
    (record { asks = one.asks; ends = one.ends })
  where
    one : Seeks old.heard.says (seeker_of old) (t ∷ []) (asked_by old.heard.says (handle_plan t old.split)) (Ok (record { lexing = switched handled.switch (stands old.lexer old.input); split = w }))
    one = seeks-one old.heard.says (seeker_of old) t (Ok (record { split = w; handled = handled })) ends
