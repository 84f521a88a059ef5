-- A text put into the current node at once is its code points, one by one.
use Rattle.std.proofs.Common.{◌≡◌, ℕ, ◌==◌, List, [], ◌∷◌, ◌++◌, map, Bool, true, false, ◌&&◌, refl, sym, ap, ◌∙◌, subst, inl, inr}
use Rattle.std.specs.Prelude.{if◌then◌else◌, not, All}
use Rattle.std.specs.List.{list_all, list_any}
use Rattle.hp_elements.specs.declared.token.CharClass.{CharClass}
use Rattle.hp_elements.specs.declared.token.CharClass.TheVariants.{White, Nul, Other}
use Rattle.hp_elements.specs.declared.token.Kind.TheVariants.{Characters}
use Rattle.hp_elements.specs.declared.token.Mode.{Mode}
use Rattle.hp_elements.specs.declared.token.Mode.TheVariants as mode
use Rattle.hp_elements.specs.declared.token.Token.{Token}
use Rattle.hp_elements.specs.declared.token.Token.TheVariants as token
use Rattle.hp_tokens.specs.Plain.{none_of}
use Rattle.hp_tokens.specs.Rows.{character}
use Rattle.hp_control.specs.declared.edit.Child.TheVariants as child
use Rattle.hp_control.specs.declared.edit.Edit.TheVariants.{Put}
use Rattle.hp_control.specs.declared.element.OpenElement.{OpenElement}
use Rattle.hp_control.specs.Acts.{place}
use Rattle.hp_control.specs.Adoption.{reconstruct}
use Rattle.hp_control.specs.Foreign.{is_foreign}
use Rattle.hp_control.specs.Outcome.{Outcome, Touch, after, is_older, touches_any}
use Rattle.hp_control.specs.States.{ControlState, IsFormatting, IsValid, is_html}
use Rattle.hp_groves.specs.Joining.{JoinTexts, Join}
use Rattle.hp_model.specs.AtOnce.{LeaveSame, handle_at_once}
use Rattle.hp_model.specs.Rows.{entering, turn}
use Rattle.hp_model.specs.Growth.{steps_left}
use Rattle.hp_model.specs.Texts.{ComesTo, TakesText, TextsTouchFirst, as_run, each_at_once, has_html_top, is_text_mode, is_white, run_of, white_or_other}
use Rattle.hp_model.specs.Turns.{Handled, Turn, goes_on, joined, left_by, plainly, unchanged}
use Rattle.hp_model.proofs.AtOnce.{not_skipping, runs_at_once, same_by, same_joined, same_then, turned_once}
use Rattle.hp_model.proofs.Handled.{all_turns-valid}
use Rattle.hp_model.proofs.Manners.{DealsAfter, Manner, puts, carried, in_foreign, in_mode, is_colgroup, keeps_text, manner, plain, put_by, turn_deals}
use Rattle.hp_model.proofs.Reconstructed.{Rebuilds, Topped, rebuilds, reconstruct-fresh, reconstructed-fresh}
use Rattle.hp_model.proofs.RowLemmas.{joined_last}
use Rattle.hp_model.proofs.Together.{Together, behind, put-fresh, turned_together}

-- the manner in which such a text is put: it is reconstructed before, but where text alone is read
abbrev put_in : Mode → Bool → Manner
put_in mode.Text white = plain
put_in _ white = puts false true false (not white)

put_manner : (m : Mode) (stack : List OpenElement) (white : Bool) → is_text_mode m ≡ true → has_html_top stack ≡ true → manner (white_or_other white) m stack ≡ put_in m white
put_manner m [] white place top = absurd (cc)
put_manner m (e ∷ es) white place top = html_top (is_foreign (Characters (white_or_other white)) (e ∷ es)) (own_html white top) ∙ by_mode m white place
  where
    own_html : (w : Bool) → is_html e ≡ true → is_foreign (Characters (white_or_other w)) (e ∷ es) ≡ false
    own_html true h = rw h refl
    own_html false h = rw h refl

    html_top : (b : Bool) → b ≡ false
        → (if b then in_foreign (white_or_other white) else in_mode m (white_or_other white) (keeps_text (e ∷ es)) (is_colgroup (e ∷ es))) ≡ in_mode m (white_or_other white) (keeps_text (e ∷ es)) (is_colgroup (e ∷ es))
    html_top false h = refl
    html_top true h = absurd (cc)

    by_mode : (m : Mode) (w : Bool) → is_text_mode m ≡ true → in_mode m (white_or_other w) (keeps_text (e ∷ es)) (is_colgroup (e ∷ es)) ≡ put_in m w
    by_mode mode.Text w h = refl
    by_mode mode.InBody true h = refl
    by_mode mode.InBody false h = refl
    by_mode mode.InCell true h = refl
    by_mode mode.InCell false h = refl
    by_mode mode.InCaption true h = refl
    by_mode mode.InCaption false h = refl
    by_mode _ w h = absurd (cc)

-- a text of white space alone, or not, and then another
put_both : (w x : Bool) (a b : List ℕ) (c : ControlState)
    → Together (put_by false false (not w) a c) (put_by false false (not x) b (put_by false false (not w) a c).control) (put_by false false (not (w && x)) (a ++ b) c)
put_both w x a b c = go w x
  where
    made : JoinTexts (Put (child.Text a) (place false c.stack) ∷ Put (child.Text b) (place false c.stack) ∷ []) (Put (child.Text (a ++ b)) (place false c.stack) ∷ [])
    made = Join (place false c.stack) a b []

    go : (w x : Bool) → Together (put_by false false (not w) a c) (put_by false false (not x) b (put_by false false (not w) a c).control) (put_by false false (not (w && x)) (a ++ b) c)
    go true true = record { control = refl; edits = made; touched = refl; later_touched = refl; spared = refl; later_spared = refl }
    go true false = record { control = refl; edits = made; touched = refl; later_touched = refl; spared = refl; later_spared = refl }
    go false true = record { control = refl; edits = made; touched = refl; later_touched = refl; spared = refl; later_spared = refl }
    go false false = record { control = refl; edits = made; touched = refl; later_touched = refl; spared = refl; later_spared = refl }

rebuilt_both : (w x : Bool) (a b : List ℕ) (c : ControlState)
    → Together (carried (puts false true false (not w)) a c) (carried (puts false true false (not x)) b (carried (puts false true false (not w)) a c).control) (carried (puts false true false (not (w && x))) (a ++ b) c)
rebuilt_both w x a b c =
    subst (λ o. Together (after r (put_by false false (not w) a r.control)) (after o (put_by false false (not x) b o.control)) (after r (put_by false false (not (w && x)) (a ++ b) r.control)))
    (sym (reconstruct-fresh false d (put-fresh false false (not w) a r.control (reconstructed-fresh false c))))
    (behind r (put_by false false (not w) a r.control) (put_by false false (not x) b d) (put_by false false (not (w && x)) (a ++ b) r.control) (put_both w x a b r.control))
  where
    r : Outcome
    r = reconstruct false c

    d : ControlState
    d = (put_by false false (not w) a r.control).control

carried_both : (m : Mode) (w x : Bool) (a b : List ℕ) (c : ControlState) → Together (carried (put_in m w) a c) (carried (put_in m x) b (carried (put_in m w) a c).control) (carried (put_in m (w && x)) (a ++ b) c)
carried_both mode.Text w x a b c = put_both true true a b c
carried_both _ w x a b c = rebuilt_both w x a b c

-- behind the first the second is taken too
topped_html : (old new : List OpenElement) → Topped old new → has_html_top old ≡ true → has_html_top new ≡ true
topped_html old new (inl e) h = subst (λ es. has_html_top es ≡ true) (sym e) h
topped_html old new (inr (e, es, same, inline)) h = subst (λ st. has_html_top st ≡ true) (sym same) inline.html

record Kept (c d : ControlState) : Type 0 where
  pub mode : d.mode ≡ c.mode
  pub takes : TakesText d

kept_rebuilt : (marks : Bool) (a : List ℕ) (c : ControlState) → All IsFormatting c.formatting → TakesText c → Kept c (carried (puts false true false marks) a c).control
kept_rebuilt marks a c f t = go marks (rebuilds false c f)
  where
    go : (k : Bool) → Rebuilds c (reconstruct false c).control → Kept c (carried (puts false true false k) a c).control
    go true r = record { mode = r.mode; takes = record { skips = r.skip_lf ∙ t.skips; place = ap is_text_mode r.mode ∙ t.place; top = topped_html c.stack (reconstruct false c).control.stack r.stack t.top } }
    go false r = record { mode = r.mode; takes = record { skips = r.skip_lf ∙ t.skips; place = ap is_text_mode r.mode ∙ t.place; top = topped_html c.stack (reconstruct false c).control.stack r.stack t.top } }

kept : (m : Mode) (w : Bool) (a : List ℕ) (c : ControlState) → All IsFormatting c.formatting → TakesText c → Kept c (carried (put_in m w) a c).control
kept mode.Text w a c f t = record { mode = refl; takes = record { skips = t.skips; place = t.place; top = t.top } }
kept _ w a c f t = kept_rebuilt (not w) a c f t

-- the handling of a run where text is taken
abbrev put_handled : Mode → Bool → List ℕ → ControlState → Handled
put_handled m w text c = joined (entering c) (plainly (carried (put_in m w) text c))

dealt : (m : Mode) (w : Bool) (reach : ℕ) (class : CharClass) (c : ControlState) (by : List ℕ → Turn) → DealsAfter reach (entering c) class c (put_in m w) by → (text : List ℕ) → by text ≡ goes_on (put_handled m w text c)
dealt mode.Text w reach class c by d text = d text
dealt _ w reach class c by d text = d text

handled_run : (w : Bool) (text : List ℕ) (c : ControlState) → TakesText c → handle_at_once c (run_of w text) ≡ put_handled c.mode w text c
handled_run w text c t =
    not_skipping c (run_of w text) t.skips
    ∙ turned_once (run_of w text) c (put_handled c.mode w text c)
    (dealt c.mode w (steps_left c.mode) (white_or_other w) c (λ s. turn (run_of w s) c)
    (subst (λ man. DealsAfter (steps_left c.mode) (entering c) (white_or_other w) c man (λ s. turn (run_of w s) c)) (put_manner c.mode c.stack w t.place t.top) (turn_deals (white_or_other w) c))
    text)

-- one run and then another, and both as one
runs_joined : (w x : Bool) (a b : List ℕ) (c : ControlState) → IsValid c → TakesText c
    → LeaveSame (joined (handle_at_once c (run_of w a)) (handle_at_once (left_by (handle_at_once c (run_of w a))) (run_of x b))) (handle_at_once c (run_of (w && x) (a ++ b)))
runs_joined w x a b c v t =
    subst (λ h. LeaveSame (joined h (handle_at_once (left_by h) (run_of x b))) (handle_at_once c (run_of (w && x) (a ++ b)))) (sym (handled_run w a c t))
    (subst (λ k. LeaveSame (joined (put_handled c.mode w a c) k) (handle_at_once c (run_of (w && x) (a ++ b)))) (sym second)
    (subst (λ h. LeaveSame (joined (put_handled c.mode w a c) (put_handled c.mode x b d)) h) (sym (handled_run (w && x) (a ++ b) c t))
    (turned_together c (carried (put_in c.mode w) a c) (carried (put_in c.mode x) b d) (carried (put_in c.mode (w && x)) (a ++ b) c) stays.mode (carried_both c.mode w x a b c))))
  where
    d : ControlState
    d = (carried (put_in c.mode w) a c).control

    stays : Kept c d
    stays = kept c.mode w a c v.formatting t

    second : handle_at_once d (run_of x b) ≡ put_handled c.mode x b d
    second = handled_run x b d stays.takes ∙ ap (λ m. put_handled m x b d) stays.mode

left_takes : (w : Bool) (a : List ℕ) (c : ControlState) → IsValid c → TakesText c → TakesText (left_by (handle_at_once c (run_of w a)))
left_takes w a c v t = subst (λ h. TakesText (left_by h)) (sym (handled_run w a c t)) (kept c.mode w a c v.formatting t).takes

left_valid : (w : Bool) (a : List ℕ) (c : ControlState) → IsValid c → TakesText c → IsValid (left_by (handle_at_once c (run_of w a)))
left_valid w a c v t = subst (λ h. IsValid (left_by h)) (sym (not_skipping c (run_of w a) t.skips)) (all_turns-valid (run_of w a) c tt v)

-- a code point in a run of its own
alone : (x : ℕ) → not (x == 0) ≡ true → character x ≡ run_of (is_white x) (x ∷ [])
alone x h = ap (λ class. token.Characters class (x ∷ [])) (of_class (is_white x) (x == 0) h)
  where
    of_class : (w z : Bool) → not z ≡ true → (if w then White else if z then Nul else Other) ≡ white_or_other w
    of_class true z h = refl
    of_class false false h = refl
    of_class false true h = absurd (cc)

parts : (a b : Bool) → (a && b) ≡ true → (a ≡ true) × (b ≡ true)
parts true true h = (refl, refl)
parts true false h = absurd (cc)
parts false b h = absurd (cc)

no_null : (x : ℕ) → none_of (0 ∷ []) x ≡ true → not (x == 0) ≡ true
no_null x h = (parts (not (x == 0)) true h).0

and_true : (b : Bool) → (b && true) ≡ b
and_true true = refl
and_true false = refl

run_same : (x : ℕ) (xs : List ℕ) (c : ControlState) → IsValid c → TakesText c → list_all (none_of (0 ∷ [])) (x ∷ xs) ≡ true → LeaveSame (each_at_once c (map character (x ∷ xs))) (handle_at_once c (as_run (x ∷ xs)))
run_same x [] c v t n =
    let one : character x ≡ run_of (is_white x) (x ∷ []) = alone x (no_null x (parts (none_of (0 ∷ []) x) true n).0) in
    let same : run_of (is_white x) (x ∷ []) ≡ as_run (x ∷ []) = ap (λ w. run_of w (x ∷ [])) (sym (and_true (is_white x))) in
    same_by (joined (handle_at_once c (character x)) (unchanged (left_by (handle_at_once c (character x))))) (handle_at_once c (as_run (x ∷ [])))
    (joined_last (handle_at_once c (character x)) ∙ ap (handle_at_once c) (one ∙ same))
run_same x (y ∷ ys) c v t n =
    let here = parts (none_of (0 ∷ []) x) (list_all (none_of (0 ∷ [])) (y ∷ ys)) n in
    let first : Handled = handle_at_once c (run_of (is_white x) (x ∷ [])) in
    let whole : Handled = handle_at_once c (as_run (x ∷ y ∷ ys)) in
    let d : ControlState = left_by first in
    let more : LeaveSame (each_at_once d (map character (y ∷ ys))) (handle_at_once d (as_run (y ∷ ys))) =
    run_same y ys d (left_valid (is_white x) (x ∷ []) c v t) (left_takes (is_white x) (x ∷ []) c v t) here.1 in
    subst (λ one. LeaveSame (joined (handle_at_once c one) (each_at_once (left_by (handle_at_once c one)) (map character (y ∷ ys)))) whole) (sym (alone x (no_null x here.0)))
    (same_then (joined first (each_at_once d (map character (y ∷ ys)))) (joined first (handle_at_once d (as_run (y ∷ ys)))) whole
    (same_joined first (each_at_once d (map character (y ∷ ys))) (handle_at_once d (as_run (y ∷ ys))) more)
    (runs_joined (is_white x) (list_all is_white (y ∷ ys)) (x ∷ []) (y ∷ ys) c v t))

pub texts_at_once : (x : ℕ) (xs : List ℕ) (c : ControlState) → IsValid c → TakesText c → list_all (none_of (0 ∷ [])) (x ∷ xs) ≡ true → ComesTo c (map character (x ∷ xs)) (as_run (x ∷ xs))
texts_at_once x xs c v t n = record {
  same = run_same x xs c v t n;
  quiet = ap (λ (h : Handled). h.switch) (handled_run (list_all is_white (x ∷ xs)) (x ∷ xs) c t);
  valid = left_valid (list_all is_white (x ∷ xs)) (x ∷ xs) c v t;
}

-- what is touched is the same, whatever the text is
touched_same : (m : Mode) (w x : Bool) (a b : List ℕ) (c : ControlState) → (put_handled m w a c).outcome.touched ≡ (put_handled m x b c).outcome.touched
touched_same mode.Text w x a b c = refl
touched_same _ true true a b c = refl
touched_same _ true false a b c = refl
touched_same _ false true a b c = refl
touched_same _ false false a b c = refl

pub texts-touch-first : TextsTouchFirst
texts-touch-first x xs s c v t n =
    let here = parts (none_of (0 ∷ []) x) (list_all (none_of (0 ∷ [])) xs) n in
    let one : character x ≡ run_of (is_white x) (x ∷ []) = alone x (no_null x here.0) in
    let white : Bool = list_all is_white (x ∷ xs) in
    let touched : Handled → Bool = λ h. touches_any s h.outcome in
    ap touched (handled_run white (x ∷ xs) c t)
    ∙ (ap (λ (ts : List Touch). list_any (is_older s) ts) (touched_same c.mode white (is_white x) (x ∷ xs) (x ∷ []) c)
    ∙ (sym (ap touched (handled_run (is_white x) (x ∷ []) c t))
    ∙ (sym (ap (λ (k : Token). touched (handle_at_once c k)) one) ∙ sym ((runs_at_once (character x) c tt (λ e. refl) v).touched (is_older s)))))
