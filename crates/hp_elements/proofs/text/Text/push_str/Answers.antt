use Rattle.std.proofs.Common.{◌≡◌, ℕ, List, ◌+◌, ◌++◌, ◌∙◌, ap, sym, subst, take, length, string_bytes, arith}
use Rattle.std.specs.Str.{chars, IsUtf8}
use Rattle.std.proofs.lemmas.Str.{chars-append, IsUtf8-append, IsUtf8-string_bytes}
use Rattle.hp_elements.specs.Texts.{placed, IsPlaced}
use Rattle.hp_elements.proofs.TextLemmas.{pushed_text}
use Rattle.hp_elements.proofs.text.Text.push_str.Goals as goal

pub returns-in-Owned-clause-ok : goal.returns-in-Owned-clause-ok
returns-in-Owned-clause-ok c =
    pushed_text c.push_str.result (string_bytes c.in-Owned.text) c.args.more.now (string_bytes c.push_str.new.self) c.args.self.now
    (IsUtf8-string_bytes c.in-Owned.text) c.push_str.ensures.bytes
    (sym (ap placed c.in-Owned.is) ∙ c.self.view_is)

behind : (len : ℕ) (bytes more now new : List ℕ) → now ≡ more → take (len + length now) new ≡ take len bytes ++ now → take (len + length more) new ≡ take len bytes ++ more
behind len bytes more now new e h = ap (λ (xs : List ℕ). take (len + length xs) new) (sym e) ∙ (h ∙ ap (λ (xs : List ℕ). take len bytes ++ xs) e)

pub invariant_of-self-2 : goal.invariant_of-self-2
invariant_of-self-2 c =
    let held = subst IsPlaced c.in-Here.is c.self.invariant in (
      omega (arith, held.0, c.if-more-len.true),
      subst (λ (xs : List ℕ). IsUtf8 xs) (sym (behind c.in-Here.len c.in-Here.bytes c.args.more.now c.as_bytes.result.now c.put_behind-longer.result c.as_bytes.ensures.value c.put_behind-longer.ensures)) (IsUtf8-append (take c.in-Here.len c.in-Here.bytes) c.args.more.now held.1 c.utf8.more),
    )

pub returns : goal.returns
returns c =
    let held = subst IsPlaced c.in-Here.is c.self.invariant in
    record {
      ok =
          ap chars (behind c.in-Here.len c.in-Here.bytes c.args.more.now c.as_bytes.result.now c.put_behind-longer.result c.as_bytes.ensures.value c.put_behind-longer.ensures)
          ∙ (chars-append (take c.in-Here.len c.in-Here.bytes) c.args.more.now held.1
          ∙ ap (λ (xs : List ℕ). xs ++ chars c.args.more.now) (sym (ap placed c.in-Here.is) ∙ c.self.view_is));
      err = tt;
    }

pub returns-2 : goal.returns-2
returns-2 c =
    let now : chars c.as_str.result.now ≡ c.args.self.now = cc (c.as_str.ensures, c.self.view_is) in
    record { ok = c.drop.view_is ∙ (c.in_ok-grown.ensures ∙ ap (λ (xs : List ℕ). xs ++ chars c.args.more.now) now); err = tt }
