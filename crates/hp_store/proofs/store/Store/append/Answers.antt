use Rattle.std.proofs.Common.{◌≡◌, ◌<◌, ◌++◌, [], ◌∷◌, false, is_err, map, length, get_or, vec_len, refl, arith, ap, sym, ◌∙◌, subst}
use Rattle.std.specs.Vec.{with_items}
use Rattle.std.proofs.lemmas.List.{with_items_is, length-map}
use Rattle.hp_store.specs.declared.node.Counts.{Counts}
use Rattle.hp_store.specs.declared.store.Store.TheInside.{Inside}
use Rattle.hp_store.specs.Numbers.{Fits, sum_of}
use Rattle.hp_store.specs.Store.{Stored}
use Rattle.hp_store.specs.Grafting.{IsAppended}
use Rattle.hp_store.specs.Parts.{end_of, moved_part}
use Rattle.hp_store.specs.Whole.{seen, IsFinished, IsRetired}
use Rattle.hp_store.proofs.Standing.{part-there}
use Rattle.hp_store.proofs.Hanging.{both-fit, last-fits, moved-end, moved-fits, at-ok, IsAppended-seen, IsSound-appended}
use Rattle.hp_store.proofs.store.Store.append.Goals as goal

pub move_all-requires : goal.move_all-requires
move_all-requires c = λ k e h.
    let a = c.self.inside in
    let b = c.other.inside in
    let fresh = c.finish.new.last in
    let qs = c.retire.new.parts in
    let other = c.retire.new.last in
    let no_error : is_err c.finish.result ≡ false = sym c.is_err.ensures.value ∙ c.if-is_err.false in
    let done : IsFinished a.parts.items a.last c.finish.new.parts.items fresh = at-ok c.finish.result no_error c.finish.ensures.finished in
    let retired_is : IsRetired b.parts.items b.last qs other = subst (λ ps. IsRetired ps b.last qs other) c.deref_mut.ensures.value c.retire.ensures in
    let both : Fits (sum_of (end_of a.last) (end_of b.last)) = both-fit a b c.self.invariant c.other.invariant
    (omega (arith, c.requires.nodes_fit, ap (λ (s : Stored). length s.nodes) c.self.view_is, ap (λ (s : Stored). length s.nodes) c.other.view_is))
    (omega (arith, c.requires.elements_fit, ap (λ (s : Stored). length s.elements) c.self.view_is, ap (λ (s : Stored). length s.elements) c.other.view_is))
    (omega (arith, c.requires.leaves_fit, ap (λ (s : Stored). length s.leaves) c.self.view_is, ap (λ (s : Stored). length s.leaves) c.other.view_is)) in
    let fits : Fits (sum_of fresh.before (end_of other)) = subst (λ x. Fits (sum_of x (end_of other))) (sym done.before) (subst (λ x. Fits (sum_of (end_of a.last) x)) (sym retired_is.end) both) in
    let count : length qs ≡ vec_len b.parts = retired_is.count ∙ sym b.parts.ok.0 in
    let now : c.deref_mut-2.result.now ≡ qs = c.deref_mut-2.ensures.value ∙ with_items_is b.parts qs count in
    subst (λ ps. Fits (sum_of fresh.before (get_or ps k e).before)) (sym now)
    (subst (λ p. Fits (sum_of fresh.before p.before)) (part-there qs other k e (subst (λ ps. k < length ps) now h)) (moved-fits fresh.before qs other retired_is.laid fits k))

pub move_behind-requires : goal.move_behind-requires
move_behind-requires c =
    let a = c.self.inside in
    let b = c.other.inside in
    let fresh = c.finish.new.last in
    let qs = c.retire.new.parts in
    let other = c.retire.new.last in
    let no_error : is_err c.finish.result ≡ false = sym c.is_err.ensures.value ∙ c.if-is_err.false in
    let done : IsFinished a.parts.items a.last c.finish.new.parts.items fresh = at-ok c.finish.result no_error c.finish.ensures.finished in
    let retired_is : IsRetired b.parts.items b.last qs other = subst (λ ps. IsRetired ps b.last qs other) c.deref_mut.ensures.value c.retire.ensures in
    let both : Fits (sum_of (end_of a.last) (end_of b.last)) = both-fit a b c.self.invariant c.other.invariant
    (omega (arith, c.requires.nodes_fit, ap (λ (s : Stored). length s.nodes) c.self.view_is, ap (λ (s : Stored). length s.nodes) c.other.view_is))
    (omega (arith, c.requires.elements_fit, ap (λ (s : Stored). length s.elements) c.self.view_is, ap (λ (s : Stored). length s.elements) c.other.view_is))
    (omega (arith, c.requires.leaves_fit, ap (λ (s : Stored). length s.leaves) c.self.view_is, ap (λ (s : Stored). length s.leaves) c.other.view_is)) in
    let fits : Fits (sum_of fresh.before (end_of other)) = subst (λ x. Fits (sum_of x (end_of other))) (sym done.before) (subst (λ x. Fits (sum_of (end_of a.last) x)) (sym retired_is.end) both) in
    last-fits fresh.before other fits

pub end-self-inside-requires : goal.end-self-inside-requires
end-self-inside-requires c =
    let a = c.self.inside in
    let b = c.other.inside in
    let fresh = c.finish.new.last in
    let qs = c.retire.new.parts in
    let other = c.retire.new.last in
    let no_error : is_err c.finish.result ≡ false = sym c.is_err.ensures.value ∙ c.if-is_err.false in
    let done : IsFinished a.parts.items a.last c.finish.new.parts.items fresh = at-ok c.finish.result no_error c.finish.ensures.finished in
    let retired_is : IsRetired b.parts.items b.last qs other = subst (λ ps. IsRetired ps b.last qs other) c.deref_mut.ensures.value c.retire.ensures in
    let both : Fits (sum_of (end_of a.last) (end_of b.last)) = both-fit a b c.self.invariant c.other.invariant
    (omega (arith, c.requires.nodes_fit, ap (λ (s : Stored). length s.nodes) c.self.view_is, ap (λ (s : Stored). length s.nodes) c.other.view_is))
    (omega (arith, c.requires.elements_fit, ap (λ (s : Stored). length s.elements) c.self.view_is, ap (λ (s : Stored). length s.elements) c.other.view_is))
    (omega (arith, c.requires.leaves_fit, ap (λ (s : Stored). length s.leaves) c.self.view_is, ap (λ (s : Stored). length s.leaves) c.other.view_is)) in
    let fits : Fits (sum_of fresh.before (end_of other)) = subst (λ x. Fits (sum_of x (end_of other))) (sym done.before) (subst (λ x. Fits (sum_of (end_of a.last) x)) (sym retired_is.end) both) in
    subst (λ p. Fits (end_of p)) (sym c.move_behind.ensures) (subst (λ x. Fits x) (moved-end fresh.before other) fits)

pub invariant_of-self-2 : goal.invariant_of-self-2
invariant_of-self-2 c =
    let a = c.self.inside in
    let b = c.other.inside in
    let fresh = c.finish.new.last in
    let qs = c.retire.new.parts in
    let other = c.retire.new.last in
    let no_error : is_err c.finish.result ≡ false = sym c.is_err.ensures.value ∙ c.if-is_err.false in
    let done : IsFinished a.parts.items a.last c.finish.new.parts.items fresh = at-ok c.finish.result no_error c.finish.ensures.finished in
    let retired_is : IsRetired b.parts.items b.last qs other = subst (λ ps. IsRetired ps b.last qs other) c.deref_mut.ensures.value c.retire.ensures in
    let both : Fits (sum_of (end_of a.last) (end_of b.last)) = both-fit a b c.self.invariant c.other.invariant
    (omega (arith, c.requires.nodes_fit, ap (λ (s : Stored). length s.nodes) c.self.view_is, ap (λ (s : Stored). length s.nodes) c.other.view_is))
    (omega (arith, c.requires.elements_fit, ap (λ (s : Stored). length s.elements) c.self.view_is, ap (λ (s : Stored). length s.elements) c.other.view_is))
    (omega (arith, c.requires.leaves_fit, ap (λ (s : Stored). length s.leaves) c.self.view_is, ap (λ (s : Stored). length s.leaves) c.other.view_is)) in
    let k = fresh.before in
    let count : length qs ≡ vec_len b.parts = retired_is.count ∙ sym b.parts.ok.0 in
    let now : c.deref_mut-2.result.now ≡ qs = c.deref_mut-2.ensures.value ∙ with_items_is b.parts qs count in
    let moved : c.move_all.new.parts ≡ map (moved_part k) qs = c.move_all.ensures ∙ ap (map (moved_part k)) now in
    let held : (with_items (with_items b.parts qs) c.move_all.new.parts).items ≡ map (moved_part k) qs =
    with_items_is (with_items b.parts qs) c.move_all.new.parts (ap length moved ∙ length-map qs (moved_part k) ∙ count) ∙ moved in
    let parts : c.hang.new.parts.items ≡ (c.finish.new.parts.items ++ map (moved_part k) qs) ++ moved_part k other ∷ [] =
    c.hang.ensures ∙ ap (λ xs. (c.finish.new.parts.items ++ xs) ++ c.move_behind.new.self ∷ []) held ∙ ap (λ p. (c.finish.new.parts.items ++ map (moved_part k) qs) ++ p ∷ []) c.move_behind.ensures in
    let before : c.end-self-inside.result ≡ end_of (moved_part k other) = c.end-self-inside.ensures ∙ ap end_of c.move_behind.ensures in
    let n : Inside = record { parts = c.hang.new.parts; last = record fresh { before = c.end-self-inside.result }; recent = a.recent } in
    let numbers = at-ok c.finish.result no_error c.finish.ensures.numbers in
    IsSound-appended a b n c.self.invariant c.other.invariant c.finish.new.parts.items fresh done qs other retired_is k refl parts (ap (λ (x : Counts). record fresh { before = x }) before) both
    (omega (arith, numbers, c.len.ensures, a.parts.ok.0, b.parts.ok.0))

pub returns-clause-lists : goal.returns-clause-lists
returns-clause-lists c =
    let a = c.self.inside in
    let b = c.other.inside in
    let fresh = c.finish.new.last in
    let qs = c.retire.new.parts in
    let other = c.retire.new.last in
    let no_error : is_err c.finish.result ≡ false = sym c.is_err.ensures.value ∙ c.if-is_err.false in
    let done : IsFinished a.parts.items a.last c.finish.new.parts.items fresh = at-ok c.finish.result no_error c.finish.ensures.finished in
    let retired_is : IsRetired b.parts.items b.last qs other = subst (λ ps. IsRetired ps b.last qs other) c.deref_mut.ensures.value c.retire.ensures in
    let both : Fits (sum_of (end_of a.last) (end_of b.last)) = both-fit a b c.self.invariant c.other.invariant
    (omega (arith, c.requires.nodes_fit, ap (λ (s : Stored). length s.nodes) c.self.view_is, ap (λ (s : Stored). length s.nodes) c.other.view_is))
    (omega (arith, c.requires.elements_fit, ap (λ (s : Stored). length s.elements) c.self.view_is, ap (λ (s : Stored). length s.elements) c.other.view_is))
    (omega (arith, c.requires.leaves_fit, ap (λ (s : Stored). length s.leaves) c.self.view_is, ap (λ (s : Stored). length s.leaves) c.other.view_is)) in
    let k = fresh.before in
    let count : length qs ≡ vec_len b.parts = retired_is.count ∙ sym b.parts.ok.0 in
    let now : c.deref_mut-2.result.now ≡ qs = c.deref_mut-2.ensures.value ∙ with_items_is b.parts qs count in
    let moved : c.move_all.new.parts ≡ map (moved_part k) qs = c.move_all.ensures ∙ ap (map (moved_part k)) now in
    let held : (with_items (with_items b.parts qs) c.move_all.new.parts).items ≡ map (moved_part k) qs =
    with_items_is (with_items b.parts qs) c.move_all.new.parts (ap length moved ∙ length-map qs (moved_part k) ∙ count) ∙ moved in
    let parts : c.hang.new.parts.items ≡ (c.finish.new.parts.items ++ map (moved_part k) qs) ++ moved_part k other ∷ [] =
    c.hang.ensures ∙ ap (λ xs. (c.finish.new.parts.items ++ xs) ++ c.move_behind.new.self ∷ []) held ∙ ap (λ p. (c.finish.new.parts.items ++ map (moved_part k) qs) ++ p ∷ []) c.move_behind.ensures in
    let before : c.end-self-inside.result ≡ end_of (moved_part k other) = c.end-self-inside.ensures ∙ ap end_of c.move_behind.ensures in
    let n : Inside = record { parts = c.hang.new.parts; last = record fresh { before = c.end-self-inside.result }; recent = a.recent } in
    subst (λ (s : Stored). IsAppended s c.args.other (seen n)) c.self.view_is
    (subst (λ (s : Stored). IsAppended (seen a) s (seen n)) c.other.view_is
    (IsAppended-seen a b n c.self.invariant c.other.invariant c.finish.new.parts.items fresh done qs other retired_is k refl parts (ap (λ (x : Counts). record fresh { before = x }) before)))
