use Rattle.std.proofs.Common.{◌≡◌, ◌++◌, map, List, ℕ, ap, ◌∙◌, sym, subst}
use Rattle.std.specs.Str.{chars, IsUtf8}
use Rattle.std.specs.Str.Iter.{chars_rest}
use Rattle.std.specs.declared.str.Chars.{Chars}
use Rattle.hp_tokens.specs.Rows.{character}
use Rattle.hp_tokens.proofs.Texts.{emitted_more, emitted_all}
use Rattle.hp_tokens.proofs.machine.push_text.Goals as goal

pub loop-c-init : goal.loop-c-init
loop-c-init c =
    let rest : chars_rest c.into_iter-c-iterator.result ≡ c.as_str.result.now =
    ap (λ (s : Chars). chars_rest s) c.into_iter-c-iterator.ensures.into_iter_gives ∙ c.chars-c-items.ensures.rest in
    let P : List ℕ → Type 0 = λ xs. IsUtf8 xs in (
      ap (λ (xs : List ℕ). c.args.tokens.now ++ map character (chars xs)) rest ∙ ap (λ (xs : List ℕ). c.args.tokens.now ++ map character xs) c.as_str.ensures,
      subst P (sym rest) c.as_str.utf8,
    )

pub loop-c-preserved : goal.loop-c-preserved
loop-c-preserved c =
    emitted_more character c.loop-c.tokens c.push_char.new.tokens _ (chars_rest c.loop-c.c-iterator) (chars_rest c.next.new.self) c.in-Some.c c.loop-c.invariant.1 c.in-Some.ensures.steps.0 c.loop-c.invariant.0 c.in_ok-push_char.ensures

pub returns : goal.returns
returns c = emitted_all character c.loop-c.tokens _ (chars_rest c.loop-c.c-iterator) c.in-None.ensures.steps.0.0 c.loop-c.invariant.0
