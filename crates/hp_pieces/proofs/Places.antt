-- The state and the tree at a place of a page's text.
use Rattle.std.proofs.Common.{◌≡◌, ℕ, zero, suc, ◌+◌, ◌-◌, ◌*◌, ◌≤◌, ◌^◌, List, [], ◌∷◌, ◌++◌, length, take, drop, refl, ap, ◌∙◌, sym, subst, arith, take-add}
use Rattle.std.specs.Prelude.{slice_range}
use Rattle.std.specs.Str.{chars, chars_after, continuation_len, lead_bits, IsCharBoundary, IsUtf8}
use Rattle.std.proofs.lemmas.List.{length-take, take-take, take_all}
use Rattle.std.proofs.lemmas.Str.{chars-append, chars-nil, IsUtf8-take}
use Rattle.hp_names.specs.BuiltIn.{built_in}
use Rattle.hp_control.proofs.StartLemmas.{start_valid}
use Rattle.hp_control.specs.declared.edit.Edit.{Edit}
use Rattle.hp_control.specs.States.{ControlState, Fits, IsValid, start}
use Rattle.hp_control.specs.Tree.{Tree, applied_all, document}
use Rattle.hp_groves.proofs.Joined.{joined-make_same}
use Rattle.hp_runs.proofs.Bounded.{pages_fit}
use Rattle.hp_runs.specs.Pages.{IsTreeOf}
use Rattle.hp_runs.proofs.Together.{applied-append}
use Rattle.hp_pieces.specs.At.{IsAt}
use Rattle.hp_pieces.specs.Running.{Ends, Leads}
use Rattle.hp_pieces.proofs.Joining.{leads_join, leads_once, leads_valid, page_built}
use Rattle.hp_pieces.proofs.Stays.{waiting_stays}

pub at_once : (text : List ℕ) (n : ℕ) (s u : ControlState) (t v : Tree) → IsAt text n s t → IsAt text n u v → (s ≡ u) × (t ≡ v)
at_once text n s u t v a b =
    let once = leads_once built_in (chars (take n text)) start s u a.edits b.edits a.leads b.leads in
    (once.0, a.builds ∙ (joined-make_same a.edits b.edits once.1 document ∙ sym b.builds))

pub at_start : (text : List ℕ) → IsAt text 0 start document
at_start text = record { edits = []; leads = subst (λ (cs : List ℕ). Leads built_in cs start [] start) (sym chars-nil) (waiting_stays built_in start refl); builds = refl }

-- what follows, up to another place
on : (text : List ℕ) (n k : ℕ) (s u : ControlState) (t : Tree) (es : List Edit) → IsAt text n s t → IsUtf8 text → IsCharBoundary text n
    → Leads built_in (chars (take k (drop n text))) s es u → IsAt text (n + k) u (applied_all t es)
on text n k s u t es a utf8 boundary leads = record {
  edits = a.edits ++ es;
  leads =
      subst (λ (cs : List ℕ). Leads built_in cs start (a.edits ++ es) u)
      (sym (ap chars (take-add n k text) ∙ chars-append (take n text) (take k (drop n text)) (IsUtf8-take text n utf8 boundary)))
      (leads_join built_in (chars (take n text)) (chars (take k (drop n text))) start s u a.edits es a.leads leads);
  builds = ap (λ (x : Tree). applied_all x es) a.builds ∙ sym (applied-append document a.edits es);
}

same-part : (n k : ℕ) → (n + k) - n ≡ k
same-part n k = omega arith

within-part : (n m k : ℕ) → n + k ≤ m → k ≤ m - n
within-part n m k h = omega (arith, h)

pub at_goes_on : (text : List ℕ) (n k : ℕ) (s u : ControlState) (t : Tree) (es : List Edit) → IsAt text n s t → IsUtf8 text → IsCharBoundary text n
    → Leads built_in (chars (slice_range text n (n + k))) s es u → IsAt text (n + k) u (applied_all t es)
at_goes_on text n k s u t es a utf8 boundary leads =
    on text n k s u t es a utf8 boundary (subst (λ (i : ℕ). Leads built_in (chars (take i (drop n text))) s es u) (same-part n k) leads)

pub at_covers : (text : List ℕ) (n m k : ℕ) (s u : ControlState) (t : Tree) (es : List Edit) → IsAt text n s t → IsUtf8 text → IsCharBoundary text n → n + k ≤ m
    → Leads built_in (chars (take k (slice_range text n m))) s es u → IsAt text (n + k) u (applied_all t es)
at_covers text n m k s u t es a utf8 boundary h leads =
    on text n k s u t es a utf8 boundary (subst (λ (bs : List ℕ). Leads built_in (chars bs) s es u) (take-take k (m - n) (drop n text) (within-part n m k h)) leads)

pub at_end : (text : List ℕ) (s : ControlState) (t : Tree) (es : List Edit) → IsAt text (length text) s t → Ends built_in s es → IsTreeOf built_in (chars text) (applied_all t es)
at_end text s t es a ends =
    subst (λ (bs : List ℕ). IsTreeOf built_in (chars bs) (applied_all t es)) (take_all (length text) text (omega arith))
    (subst (IsTreeOf built_in (chars (take (length text) text))) (applied-append document a.edits es ∙ ap (λ (x : Tree). applied_all x es) (sym a.builds))
    (page_built built_in (chars (take (length text) text)) s a.edits es a.leads ends))

pub at_valid : (text : List ℕ) (n : ℕ) (s : ControlState) (t : Tree) → IsAt text n s t → IsValid s
at_valid text n s t a = leads_valid (chars (take n text)) start s a.edits a.leads start_valid

-- code points are at most as many as bytes
after-short : (n c : ℕ) (bs : List ℕ) → length (chars_after n c bs) ≤ 1 + length bs
after-short zero c [] = omega arith
after-short zero c (b ∷ bs) = let rest : length (chars_after (continuation_len b) (lead_bits b) bs) ≤ 1 + length bs = after-short (continuation_len b) (lead_bits b) bs in omega (arith, rest)
after-short (suc n) c [] = omega arith
after-short (suc n) c (b ∷ bs) = let rest : length (chars_after n (c * 64 + (b - 128)) bs) ≤ 1 + length bs = after-short n (c * 64 + (b - 128)) bs in omega (arith, rest)

chars-short : (bs : List ℕ) → length (chars bs) ≤ length bs
unfolding chars
chars-short [] = omega arith
chars-short (b ∷ bs) = let rest : length (chars_after (continuation_len b) (lead_bits b) bs) ≤ 1 + length bs = after-short (continuation_len b) (lead_bits b) bs in omega (arith, rest)

pub at_fits : (text : List ℕ) (n : ℕ) (s : ControlState) (t : Tree) → IsAt text n s t → length text ≤ 2 ^ 24 → Fits s
at_fits text n s t a h =
    let few : length (chars (take n text)) ≤ length (take n text) = chars-short (take n text) in
    let front : length (take n text) ≤ length text = omega (arith, length-take n text) in
    let there : Fits a.leads.there.control = (pages_fit built_in a.leads.there (chars (take n text)) a.leads.made a.leads.run).1 (omega (arith, few, front, h)) in
    subst Fits (sym a.leads.reaches) (record { ids = there.ids; entries = there.entries })
