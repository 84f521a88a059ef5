use Rattle.std.proofs.Common.{◌≡◌, ℕ, List, true, false, Some, None, refl, sym, codes}
use Rattle.hp_tokens.specs.declared.state.State.{State}
use Rattle.hp_tokens.specs.declared.state.State.TheVariants.{MarkupDeclarationOpen}
use Rattle.hp_lex_markup.specs.declared.words.Word.TheVariants.{Hyphens, Doctype, Cdata}
use Rattle.hp_lex_markup.specs.Words.{begins, begins_without_case, word, keyword}
use Rattle.hp_lex_markup.proofs.words.first_word.Goals as goal

-- the first of the words that the text begins with
module _ (s : State) (text : List ℕ) (is : s ≡ MarkupDeclarationOpen) where
  hyphens : true ≡ begins text (codes "--") → Some Hyphens ≡ word s text
  hyphens a = rw (is, sym a) refl

  doctype : false ≡ begins text (codes "--") → true ≡ begins_without_case text (codes "doctype") → Some Doctype ≡ word s text
  doctype a b = rw (is, sym a, sym b) refl

  cdata : false ≡ begins text (codes "--") → false ≡ begins_without_case text (codes "doctype") → true ≡ begins text (codes "[CDATA[") → Some Cdata ≡ word s text
  cdata a b d = rw (is, sym a, sym b, sym d) refl

  neither : false ≡ begins text (codes "--") → false ≡ begins_without_case text (codes "doctype") → false ≡ begins text (codes "[CDATA[") → None ≡ word s text
  neither a b d = rw (is, sym a, sym b, sym d) refl

elsewhere : (s : State) (text : List ℕ) → (s ≡ MarkupDeclarationOpen → ⊥) → word s text ≡ keyword text
elsewhere MarkupDeclarationOpen text other = absurd (other refl)
elsewhere _ text other = refl

pub returns-then-begins : goal.returns-then-begins
returns-then-begins c = hyphens c.args.state c.args.text.now c.in-MarkupDeclarationOpen.is (c.if-begins.ensures {u = tt})

pub returns-then-begins-2 : goal.returns-then-begins-2
returns-then-begins-2 c = doctype c.args.state c.args.text.now c.in-MarkupDeclarationOpen.is (c.if-begins.ensures {u = tt}) (c.if-begins-2.ensures {u = tt})

pub returns-then-begins-3 : goal.returns-then-begins-3
returns-then-begins-3 c =
    cdata c.args.state c.args.text.now c.in-MarkupDeclarationOpen.is (c.if-begins.ensures {u = tt}) (c.if-begins-2.ensures {u = tt}) (c.if-begins-3.ensures {u = tt})

pub returns-else-begins-3 : goal.returns-else-begins-3
returns-else-begins-3 c =
    neither c.args.state c.args.text.now c.in-MarkupDeclarationOpen.is (c.if-begins.ensures {u = tt}) (c.if-begins-2.ensures {u = tt}) (c.if-begins-3.ensures {u = tt})

pub returns-then-begins-4 : goal.returns-then-begins-4
returns-then-begins-4 c = rw (elsewhere c.args.state c.args.text.now c.in_default.not-MarkupDeclarationOpen, sym (c.if-begins-4.ensures {u = tt})) refl

pub returns-then-begins-5 : goal.returns-then-begins-5
returns-then-begins-5 c =
    rw (elsewhere c.args.state c.args.text.now c.in_default.not-MarkupDeclarationOpen, sym (c.if-begins-4.ensures {u = tt}), sym (c.if-begins-5.ensures {u = tt})) refl

pub returns-else-begins-5 : goal.returns-else-begins-5
returns-else-begins-5 c =
    rw (elsewhere c.args.state c.args.text.now c.in_default.not-MarkupDeclarationOpen, sym (c.if-begins-4.ensures {u = tt}), sym (c.if-begins-5.ensures {u = tt})) refl
