use Rattle.std.proofs.Common.{◌≡◌, ◌≤◌, List, ℕ, length, map, take, ◌∙◌, ap, sym, subst, string_bytes}
use Rattle.std.specs.Char.{to_ascii_lowercase}
use Rattle.std.specs.Str.{chars, IsUtf8}
use Rattle.std.proofs.lemmas.List.{take-take}
use Rattle.hp_elements.specs.Names.{known_of, lowered}
use Rattle.hp_elements.proofs.NameLemmas.{other_chars, lowered_front}
use Rattle.hp_elements.proofs.Lowering.{lowered_utf8, lowered_chars}
use Rattle.hp_elements.proofs.TextLemmas.{short_is}
use Rattle.hp_elements.proofs.name.Name.of_lowered.Goals as goal

front_lowered : (text now array array' front : List ℕ) → now ≡ text → take (length now) array ≡ now → array' ≡ map to_ascii_lowercase array → front ≡ take 14 array' → length text ≤ 14 → take (length text) front ≡ map to_ascii_lowercase text
front_lowered text now array array' front v e m f fits =
    ap (λ (xs : List ℕ). take (length text) xs) f ∙ (take-take (length text) 14 array' fits ∙ lowered_front text array array' (short_is now text array v e) m)

pub invariant_of-result : goal.invariant_of-result
invariant_of-result c =
    let text = c.args.text.now in
    let e : take (length text) c.copy_from_slice.new.self ≡ lowered text =
    front_lowered text c.as_bytes.result.now c.short_bytes-bytes.result c.make_ascii_lowercase.new.self c.copy_from_slice.new.self c.as_bytes.ensures.value c.short_bytes-bytes.ensures c.make_ascii_lowercase.ensures.after c.copy_from_slice.ensures.after c.if-text-le-SHORT.true in (
      c.if-text-le-SHORT.true,
      subst (λ (xs : List ℕ). IsUtf8 xs) (sym e) (lowered_utf8 text c.utf8.text),
      ap (λ (xs : List ℕ). known_of (chars xs)) e ∙ other_chars (lowered text) (lowered_utf8 text c.utf8.text) c.requires,
    )

pub returns-then-text-le-SHORT : goal.returns-then-text-le-SHORT
returns-then-text-le-SHORT c =
    let text = c.args.text.now in
    let e : take (length text) c.copy_from_slice.new.self ≡ lowered text =
    front_lowered text c.as_bytes.result.now c.short_bytes-bytes.result c.make_ascii_lowercase.new.self c.copy_from_slice.new.self c.as_bytes.ensures.value c.short_bytes-bytes.ensures c.make_ascii_lowercase.ensures.after c.copy_from_slice.ensures.after c.if-text-le-SHORT.true in
    ap chars e ∙ lowered_chars text c.utf8.text

pub invariant_of-result-2 : goal.invariant_of-result-2
invariant_of-result-2 c =
    let text = c.args.text.now in
    let bytes : string_bytes c.make_ascii_lowercase-2.new.self ≡ lowered text = c.make_ascii_lowercase-2.ensures.bytes ∙ ap lowered c.in_ok-own.ensures.ok in
    ap (λ s. known_of (chars (string_bytes s))) c.in_ok-new.ensures.ok
    ∙ (ap (λ (xs : List ℕ). known_of (chars xs)) bytes ∙ other_chars (lowered text) (lowered_utf8 text c.utf8.text) c.requires)

pub returns : goal.returns
returns c =
    let text = c.args.text.now in
    let bytes : string_bytes c.make_ascii_lowercase-2.new.self ≡ lowered text = c.make_ascii_lowercase-2.ensures.bytes ∙ ap lowered c.in_ok-own.ensures.ok in
    ap (λ s. chars (string_bytes s)) c.in_ok-new.ensures.ok ∙ (ap chars bytes ∙ lowered_chars text c.utf8.text)
