use Rattle.std.proofs.Common.{◌≡◌, ℕ, ◌<◌, List, ap, ◌∙◌, sym, subst, arith, length}
use Rattle.std.specs.Str.{chars, IsUtf8}
use Rattle.std.specs.Str.Iter.{chars_rest}
use Rattle.std.specs.declared.str.Chars.{Chars}
use Rattle.hp_lex_markup.specs.Words.{progress}
use Rattle.hp_lex_markup.proofs.Compared.{whole_there, front_there, same_there, other_there, utf8_there}
use Rattle.hp_lex_markup.proofs.words.compared.Goals as goal

pub loop-c-init : goal.loop-c-init
loop-c-init c =
    let rest : chars_rest c.into_iter-c-iterator.result ≡ c.as_str.result.now =
    ap (λ (s : Chars). chars_rest s) c.into_iter-c-iterator.ensures.into_iter_gives ∙ c.chars-c-items.ensures.rest in
    let P : List ℕ → Type 0 = λ xs. IsUtf8 xs in (
      ap (λ (xs : List ℕ). progress c.args.fold (chars xs) c.args.word.now) rest
          ∙ ap (λ (xs : List ℕ). progress c.args.fold xs c.args.word.now) c.as_str.ensures,
      subst P (sym rest) c.as_str.utf8,
      omega arith,
    )

pub returns-then-at-word : goal.returns-then-at-word
returns-then-at-word c =
    sym (whole_there c.args.fold (chars (chars_rest c.loop-c.c-iterator)) c.args.word.now c.loop-c.at c.if-at-word.true) ∙ c.loop-c.invariant.0

pub bounds-word-at : goal.bounds-word-at
bounds-word-at c = omega (arith, c.loop-c.invariant.2, c.if-at-word.false)

pub returns-then-folded-word : goal.returns-then-folded-word
returns-then-folded-word c =
    let less : c.loop-c.at < length c.args.word.now = omega (arith, c.loop-c.invariant.2, c.if-at-word.false) in
    sym (other_there c.args.fold (chars_rest c.loop-c.c-iterator) (chars_rest c.next.new.self) c.args.word.now c.loop-c.at c.in-Some.c
    c.loop-c.invariant.1 c.in-Some.ensures.steps.0 less (λ e. c.if-folded-word.true (c.folded.ensures ∙ e)))
    ∙ c.loop-c.invariant.0

pub loop-c-preserved : goal.loop-c-preserved
loop-c-preserved c =
    let less : c.loop-c.at < length c.args.word.now = omega (arith, c.loop-c.invariant.2, c.if-at-word.false) in (
      sym (same_there c.args.fold (chars_rest c.loop-c.c-iterator) (chars_rest c.next.new.self) c.args.word.now c.loop-c.at c.in-Some.c
          c.loop-c.invariant.1 c.in-Some.ensures.steps.0 less (sym c.folded.ensures ∙ c.if-folded-word.false))
          ∙ c.loop-c.invariant.0,
      utf8_there c.args.fold (chars_rest c.loop-c.c-iterator) (chars_rest c.next.new.self) c.args.word.now c.loop-c.at c.in-Some.c
          c.loop-c.invariant.1 c.in-Some.ensures.steps.0 less,
      omega (arith, less),
    )

pub returns-then-at-word-2 : goal.returns-then-at-word-2
returns-then-at-word-2 c =
    sym (whole_there c.args.fold (chars (chars_rest c.loop-c.c-iterator)) c.args.word.now c.loop-c.at c.if-at-word-2.true) ∙ c.loop-c.invariant.0

pub returns-else-at-word-2 : goal.returns-else-at-word-2
returns-else-at-word-2 c =
    sym (front_there c.args.fold (chars_rest c.loop-c.c-iterator) c.args.word.now c.loop-c.at c.in-None.ensures.steps.0.0
    (omega (arith, c.loop-c.invariant.2, c.if-at-word-2.false)))
    ∙ c.loop-c.invariant.0
