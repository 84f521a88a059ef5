-- A valid state goes on from itself: it has no new elements.
use Rattle.std.proofs.Common.{◌≡◌, List, [], ◌∷◌, length, Bool, true, refl, sym, ap, subst, arith}
use Rattle.std.specs.Prelude.{All}
use Rattle.std.proofs.lemmas.Bool.{lt-leb}
use Rattle.std.proofs.lemmas.List.Elements.{All-nil}
use Rattle.hp_elements.specs.declared.token.Mode.{Mode}
use Rattle.hp_elements.specs.declared.token.Mode.TheVariants as mode
use Rattle.hp_control.specs.declared.element.OpenElement.{OpenElement}
use Rattle.hp_control.specs.States.{ControlState, AreIds}
use Rattle.hp_model.specs.Finding.{is_empty}
use Rattle.hp_model.proofs.Thins.{ids_of}
use Rattle.hp_older.specs.GoesOn.{IsFree, back_mode, fits_mode, is_a, is_plain_top, own, top_fits}
use Rattle.hp_older.specs.Laws.{Begins}
use Rattle.hp_older.proofs.Kept.{own-older}

-- where there are no new ones each mode fits
pub fits-none : (s : ControlState) (m : Mode) (es : List OpenElement) → own s (is_a "template td th") es ≡ [] → own s (is_a "template select") es ≡ [] → own s (is_a "template") es ≡ [] → own s (is_a "frameset") es ≡ [] → fits_mode s m es ≡ true
fits-none s mode.InCell es c h t f = rw (c, f) refl
fits-none s mode.InSelect es c h t f = rw (h, f) refl
fits-none s mode.InSelectInTable es c h t f = rw (h, f) refl
fits-none s mode.InFrameset es c h t f = ap is_empty t
fits-none s mode.AfterFrameset es c h t f = ap is_empty t
fits-none s mode.AfterAfterFrameset es c h t f = ap is_empty t
fits-none s _ es c h t f = ap is_empty f

plain_older : (s : ControlState) (es : List OpenElement) → AreIds 0 s.next (ids_of es) → is_plain_top s es ≡ true
plain_older s [] h = refl
plain_older s (e ∷ es) h = rw (lt-leb s.next e.id h.1) refl

top_older : (s : ControlState) (m : Mode) (es : List OpenElement) → AreIds 0 s.next (ids_of es) → top_fits s m es ≡ true
top_older s mode.Text es h = plain_older s es h
top_older s _ es h = refl

pub begins : Begins
begins s v =
    let none : (p : OpenElement → Bool) → own s p s.stack ≡ [] = λ p. own-older s p s.stack v.stack_ids in
    record {
      html = none (is_a "html");
      together = let e : length (own s (is_a "template") s.stack) ≡ 0 = ap length (none (is_a "template")) in omega arith;
      free = subst (λ l. All (IsFree s.formatting s.form) l) (sym (none (is_a "template td th"))) (All-nil (IsFree s.formatting s.form));
      mode = fits-none s (back_mode s.mode s.original) s.stack (none (is_a "template td th")) (none (is_a "template select")) (none (is_a "template")) (none (is_a "frameset"));
      top = top_older s s.mode s.stack v.stack_ids;
    }
