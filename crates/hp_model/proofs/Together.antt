-- What is done to two runs, one after the other, is what is done to both at once.
use Rattle.std.proofs.Common.{◌≡◌, List, [], ◌∷◌, ◌++◌, ℕ, Bool, true, false, ◌||◌, refl, sym, ap, ◌∙◌, subst, append_assoc, inl, inr}
use Rattle.std.specs.Prelude.{if◌then◌else◌, All}
use Rattle.std.specs.List.{list_any}
use Rattle.std.proofs.lemmas.List.{map-append}
use Rattle.std.proofs.lemmas.List.Folds.{list_any-append}
use Rattle.hp_elements.specs.declared.kinds.Kinds.TheVariants as kinds
use Rattle.hp_elements.specs.declared.sets.SetName.TheVariants.{TableTextParents}
use Rattle.hp_elements.specs.declared.token.CharClass.{CharClass}
use Rattle.hp_elements.specs.declared.token.CharClass.TheVariants.{White, Nul, Other}
use Rattle.hp_elements.specs.declared.token.Kind.TheVariants.{Characters}
use Rattle.hp_elements.specs.declared.token.Mode.{Mode}
use Rattle.hp_elements.specs.declared.token.Mode.TheVariants as mode
use Rattle.hp_control.specs.declared.edit.Child.TheVariants as child
use Rattle.hp_control.specs.declared.edit.Edit.{Edit}
use Rattle.hp_control.specs.declared.edit.Edit.TheVariants.{Put}
use Rattle.hp_control.specs.declared.element.OpenElement.{OpenElement}
use Rattle.hp_control.specs.Acts.{headed, place, touching}
use Rattle.hp_control.specs.Adoption.{reconstruct}
use Rattle.hp_control.specs.Foreign.{is_foreign}
use Rattle.hp_control.specs.KindTests.{within}
use Rattle.hp_control.specs.Outcome.{Outcome, Touch, after, becomes}
use Rattle.hp_control.specs.States.{ControlState, IsFormatting, is_html}
use Rattle.hp_groves.specs.Joining.{JoinTexts, Same, Join}
use Rattle.hp_model.specs.AtOnce.{LeaveSame}
use Rattle.hp_model.specs.Rows.{entering, is_head_mode}
use Rattle.hp_model.specs.Turns.{Handled, joined, plainly}
use Rattle.hp_model.proofs.JoinedTexts.{join-behind}
use Rattle.hp_model.proofs.Manners.{Manner, drops, pends, hands_on, puts, carried, in_foreign, in_mode, is_colgroup, keeps_text, manner, put_by, replaced_if}
use Rattle.hp_model.proofs.Reconstructed.{Fresh, Rebuilds, Topped, rebuilds, reconstruct-fresh, reconstructed-fresh}

-- the first of two outcomes, the second in the state that it left, and that of both at once
pub record Together (a b both : Outcome) : Type 0 where
  pub control : b.control ≡ both.control
  pub edits : JoinTexts (a.edits ++ b.edits) both.edits
  pub touched : a.touched ≡ both.touched
  pub later_touched : b.touched ≡ []
  pub spared : a.spared ≡ both.spared
  pub later_spared : b.spared ≡ false

replaced_if-append : (replaces : Bool) (a b : List ℕ) → replaced_if replaces (a ++ b) ≡ replaced_if replaces a ++ replaced_if replaces b
replaced_if-append true a b = map-append (λ c. 0xFFFD) a b
replaced_if-append false a b = refl

put_together : (fostering replaces marks : Bool) (a b : List ℕ) (c : ControlState) → Together (put_by fostering replaces marks a c) (put_by fostering replaces marks b (put_by fostering replaces marks a c).control) (put_by fostering replaces marks (a ++ b) c)
put_together fostering replaces marks a b c = go marks
  where
    made : JoinTexts (Put (child.Text (replaced_if replaces a)) (place fostering c.stack) ∷ Put (child.Text (replaced_if replaces b)) (place fostering c.stack) ∷ []) (Put (child.Text (replaced_if replaces (a ++ b))) (place fostering c.stack) ∷ [])
    made =
        subst (λ (text : List ℕ). JoinTexts (Put (child.Text (replaced_if replaces a)) (place fostering c.stack) ∷ Put (child.Text (replaced_if replaces b)) (place fostering c.stack) ∷ []) (Put (child.Text text) (place fostering c.stack) ∷ []))
        (sym (replaced_if-append replaces a b)) (Join (place fostering c.stack) (replaced_if replaces a) (replaced_if replaces b) [])

    go : (k : Bool) → Together (put_by fostering replaces k a c) (put_by fostering replaces k b (put_by fostering replaces k a c).control) (put_by fostering replaces k (a ++ b) c)
    go true = record { control = refl; edits = made; touched = refl; later_touched = refl; spared = refl; later_spared = refl }
    go false = record { control = refl; edits = made; touched = refl; later_touched = refl; spared = refl; later_spared = refl }

pub behind : (r a b both : Outcome) → Together a b both → Together (after r a) b (after r both)
behind r a b both f = record {
  control = f.control;
  edits = subst (λ (made : List Edit). JoinTexts made (r.edits ++ both.edits)) (sym (append_assoc r.edits a.edits b.edits)) (join-behind r.edits (a.edits ++ b.edits) both.edits f.edits);
  touched = ap (λ ts. r.touched ++ ts) f.touched;
  later_touched = f.later_touched;
  spared = ap (λ k. r.spared || k) f.spared;
  later_spared = f.later_spared;
}

-- a put keeps what is to be reconstructed
pub put-fresh : (fostering replaces marks : Bool) (a : List ℕ) (c : ControlState) → Fresh c → Fresh (put_by fostering replaces marks a c).control
put-fresh fostering replaces true a c h = h
put-fresh fostering replaces false a c h = h

rebuilt_together : (fostering replaces marks : Bool) (a b : List ℕ) (c : ControlState)
    → Together (carried (puts fostering true replaces marks) a c) (carried (puts fostering true replaces marks) b (carried (puts fostering true replaces marks) a c).control) (carried (puts fostering true replaces marks) (a ++ b) c)
rebuilt_together fostering replaces marks a b c =
    subst (λ o. Together (after r (put_by fostering replaces marks a r.control)) (after o (put_by fostering replaces marks b o.control)) (after r (put_by fostering replaces marks (a ++ b) r.control)))
    (sym (reconstruct-fresh fostering d (put-fresh fostering replaces marks a r.control (reconstructed-fresh fostering c))))
    (behind r (put_by fostering replaces marks a r.control) (put_by fostering replaces marks b d) (put_by fostering replaces marks (a ++ b) r.control) (put_together fostering replaces marks a b r.control))
  where
    r : Outcome
    r = reconstruct fostering c

    d : ControlState
    d = (put_by fostering replaces marks a r.control).control

pub carried_together : (man : Manner) (a b : List ℕ) (c : ControlState) → Together (carried man a c) (carried man b (carried man a c).control) (carried man (a ++ b) c)
carried_together drops a b c = record { control = refl; edits = Same []; touched = refl; later_touched = refl; spared = refl; later_spared = refl }
carried_together hands_on a b c = record { control = refl; edits = Same []; touched = refl; later_touched = refl; spared = refl; later_spared = refl }
carried_together pends a b c = record { control = ap (λ (text : List ℕ). record c { pending = text }) (append_assoc c.pending a b); edits = Same []; touched = refl; later_touched = refl; spared = refl; later_spared = refl }
carried_together (puts fostering false replaces marks) a b c = put_together fostering replaces marks a b c
carried_together (puts fostering true replaces marks) a b c = rebuilt_together fostering replaces marks a b c

-- where something is reconstructed in a mode, it is the same with an element of formatting as the current node
inline_mode : (m : Mode) (class : CharClass) (keeps group other fostering replaces marks : Bool) → in_mode m class keeps group ≡ puts fostering true replaces marks → in_mode m class false other ≡ puts fostering true replaces marks
inline_mode mode.InTable class true group other fostering replaces marks h = absurd (cc)
inline_mode mode.InTable class false group other fostering replaces marks h = h
inline_mode mode.InTableBody class true group other fostering replaces marks h = absurd (cc)
inline_mode mode.InTableBody class false group other fostering replaces marks h = h
inline_mode mode.InRow class true group other fostering replaces marks h = absurd (cc)
inline_mode mode.InRow class false group other fostering replaces marks h = h
inline_mode mode.InColumnGroup White keeps group other fostering replaces marks h = h
inline_mode mode.InColumnGroup Nul keeps true other fostering replaces marks h = absurd (cc)
inline_mode mode.InColumnGroup Nul keeps false other fostering replaces marks h = absurd (cc)
inline_mode mode.InColumnGroup Other keeps true other fostering replaces marks h = absurd (cc)
inline_mode mode.InColumnGroup Other keeps false other fostering replaces marks h = absurd (cc)
inline_mode _ class keeps group other fostering replaces marks h = h

inline_foreign : (class : CharClass) (fostering replaces marks : Bool) → in_foreign class ≡ puts fostering true replaces marks → ⊥
inline_foreign White fostering replaces marks h = cc
inline_foreign Nul fostering replaces marks h = cc
inline_foreign Other fostering replaces marks h = cc

inline_dispatch : (class : CharClass) (e : OpenElement) (es : List OpenElement) → is_html e ≡ true → is_foreign (Characters class) (e ∷ es) ≡ false
inline_dispatch class e es h = rw h refl

manner_topped : (class : CharClass) (m : Mode) (old new : List OpenElement) (fostering replaces marks : Bool) → Topped old new → manner class m old ≡ puts fostering true replaces marks → manner class m new ≡ puts fostering true replaces marks
manner_topped class m old new fostering replaces marks (inl e) h = subst (λ es. manner class m es ≡ puts fostering true replaces marks) (sym e) h
manner_topped class m old new fostering replaces marks (inr (e, es, same, inline)) h = subst (λ st. manner class m st ≡ puts fostering true replaces marks) (sym same) (there (is_foreign (Characters class) old) h)
  where
    there : (b : Bool) → (if b then in_foreign class else in_mode m class (keeps_text old) (is_colgroup old)) ≡ puts fostering true replaces marks → manner class m (e ∷ es) ≡ puts fostering true replaces marks
    there true k = absurd (inline_foreign class fostering replaces marks k)
    there false k =
        ap (λ b. if b then in_foreign class else in_mode m class (within (kinds.Set TableTextParents) e) (is_colgroup (e ∷ es))) (inline_dispatch class e es inline.html)
        ∙ (ap (λ b. in_mode m class b (is_colgroup (e ∷ es))) inline.no_parent
        ∙ inline_mode m class (keeps_text old) (is_colgroup old) (is_colgroup (e ∷ es)) fostering replaces marks k)

-- what the second run meets
pub record Stays (class : CharClass) (man : Manner) (c d : ControlState) : Type 0 where
  pub mode : d.mode ≡ c.mode
  pub skip_lf : d.skip_lf ≡ c.skip_lf
  pub manner : manner class d.mode d.stack ≡ man

stays_rebuilt : (class : CharClass) (fostering replaces marks : Bool) (c d : ControlState) → Rebuilds c d → manner class c.mode c.stack ≡ puts fostering true replaces marks → Stays class (puts fostering true replaces marks) c d
stays_rebuilt class fostering replaces marks c d r h = record {
  mode = r.mode;
  skip_lf = r.skip_lf;
  manner = ap (λ m. manner class m d.stack) r.mode ∙ manner_topped class c.mode c.stack d.stack fostering replaces marks r.stack h;
}

pub stays : (class : CharClass) (man : Manner) (a : List ℕ) (c : ControlState) → All IsFormatting c.formatting → manner class c.mode c.stack ≡ man → Stays class man c (carried man a c).control
stays class drops a c f h = record { mode = refl; skip_lf = refl; manner = h }
stays class pends a c f h = record { mode = refl; skip_lf = refl; manner = h }
stays class hands_on a c f h = record { mode = refl; skip_lf = refl; manner = h }
stays class (puts fostering false replaces true) a c f h = record { mode = refl; skip_lf = refl; manner = h }
stays class (puts fostering false replaces false) a c f h = record { mode = refl; skip_lf = refl; manner = h }
stays class (puts fostering true replaces true) a c f h =
    let s = stays_rebuilt class fostering replaces true c (reconstruct fostering c).control (rebuilds fostering c f) h in
    record { mode = s.mode; skip_lf = s.skip_lf; manner = s.manner }
stays class (puts fostering true replaces false) a c f h = stays_rebuilt class fostering replaces false c (reconstruct fostering c).control (rebuilds fostering c f) h

-- the same with what each turn begins with
abbrev entered : Bool → ControlState → Handled
entered early c = plainly (if early then touching headed (becomes c) else becomes c)

both_headed : (p a b : Bool) → b ≡ false → ((p || a) || (p || b)) ≡ (p || a)
both_headed true a b h = refl
both_headed false true b h = refl
both_headed false false b h = h

or-none : (a b c : Bool) → a ≡ c → b ≡ false → (a || b) ≡ c
or-none true b c e f = e
or-none false b c e f = f ∙ e

touched_none : (test : Touch → Bool) (b : Outcome) → b.touched ≡ [] → list_any test b.touched ≡ false
touched_none test b e = ap (list_any test) e

entered_together : (early : Bool) (c : ControlState) (a b both : Outcome) → Together a b both
    → LeaveSame (joined (joined (entered early c) (plainly a)) (joined (entered early a.control) (plainly b))) (joined (entered early c) (plainly both))
entered_together true c a b both f = record {
  control = f.control;
  switch = refl;
  stopped = refl;
  edits = f.edits;
  touched = λ test.
      list_any-append test (headed ∷ a.touched) (headed ∷ b.touched)
      ∙ (both_headed (test headed) (list_any test a.touched) (list_any test b.touched) (touched_none test b f.later_touched)
      ∙ ap (λ ts. test headed || list_any test ts) f.touched);
  spared = or-none a.spared b.spared both.spared f.spared f.later_spared;
}
entered_together false c a b both f = record {
  control = f.control;
  switch = refl;
  stopped = refl;
  edits = f.edits;
  touched = λ test. list_any-append test a.touched b.touched ∙ or-none (list_any test a.touched) (list_any test b.touched) (list_any test both.touched) (ap (list_any test) f.touched) (touched_none test b f.later_touched);
  spared = or-none a.spared b.spared both.spared f.spared f.later_spared;
}

pub turned_together : (c : ControlState) (a b both : Outcome) → a.control.mode ≡ c.mode → Together a b both
    → LeaveSame (joined (joined (entering c) (plainly a)) (joined (entering a.control) (plainly b))) (joined (entering c) (plainly both))
turned_together c a b both e f =
    subst (λ (early : Bool). LeaveSame (joined (joined (entered (is_head_mode c.mode) c) (plainly a)) (joined (entered early a.control) (plainly b))) (joined (entered (is_head_mode c.mode) c) (plainly both)))
    (sym (ap is_head_mode e)) (entered_together (is_head_mode c.mode) c a b both f)
