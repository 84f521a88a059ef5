use Rattle.std.proofs.Common.{◌≡◌, ◌==◌, Bool, true, false, cond, Option, Some, None, refl, ap, sym, ◌∙◌}
use Rattle.std.proofs.lemmas.Bool.{eqb-true}
use Rattle.hp_elements.specs.declared.known.Known.{Known}
use Rattle.hp_elements.specs.declared.token.Rest.{Rest}
use Rattle.hp_elements.specs.declared.token.Rest.TheVariants as rest
use Rattle.hp_elements.specs.Names.{text_of, index_of, is_among, words}
use Rattle.hp_elements.specs.KnownNames as k
use Rattle.hp_elements.specs.RawText.{raw_text_of}
use Rattle.hp_elements.proofs.EveryName.{alike_at_every, same_index}
use Rattle.hp_elements.proofs.known.Known.raw_text.Goals as goal

-- the state by the answers of the tests, in their order
abbrev by_tests : (title textarea rawtext script plaintext : Bool) → Option Rest
by_tests title textarea rawtext script plaintext =
    cond title (Some rest.Rcdata) (cond textarea (Some rest.Rcdata) (cond rawtext (Some rest.Rawtext) (cond script (Some rest.Script) (cond plaintext (Some rest.Plaintext) None))))

abbrev is_rawtext : Known → Bool
is_rawtext name = is_among (words "style xmp iframe noembed noframes") (text_of name)

abbrev tested : Known → Option Rest
tested name = by_tests (index_of name == index_of k.Title) (index_of name == index_of k.Textarea) (is_rawtext name) (index_of name == index_of k.Script) (index_of name == index_of k.Plaintext)

each_tested : (name : Known) → tested name ≡ raw_text_of (text_of name)
each_tested name = alike_at_every tested (λ n. raw_text_of (text_of n)) refl name

state : (name : Known) (title textarea rawtext script plaintext : Bool) → title ≡ (index_of name == index_of k.Title) → textarea ≡ (index_of name == index_of k.Textarea) → rawtext ≡ is_rawtext name
    → script ≡ (index_of name == index_of k.Script) → plaintext ≡ (index_of name == index_of k.Plaintext) → by_tests title textarea rawtext script plaintext ≡ raw_text_of (text_of name)
state name title textarea rawtext script plaintext p q r s t =
    ap (λ (b : Bool). by_tests b textarea rawtext script plaintext) p
    ∙ (ap (λ (b : Bool). by_tests (index_of name == index_of k.Title) b rawtext script plaintext) q
    ∙ (ap (λ (b : Bool). by_tests (index_of name == index_of k.Title) (index_of name == index_of k.Textarea) b script plaintext) r
    ∙ (ap (λ (b : Bool). by_tests (index_of name == index_of k.Title) (index_of name == index_of k.Textarea) (is_rawtext name) b plaintext) s
    ∙ (ap (λ (b : Bool). by_tests (index_of name == index_of k.Title) (index_of name == index_of k.Textarea) (is_rawtext name) (index_of name == index_of k.Script) b) t ∙ each_tested name))))

pub returns-then-is_rawtext : goal.returns-then-is_rawtext
returns-then-is_rawtext c =
    state c.args.self false false true _ _ (sym c.if-eq.false ∙ c.eq.ensures) (sym c.if-eq-2.false ∙ c.eq-else-eq.ensures) (sym c.if-is_rawtext.true ∙ c.is_rawtext.ensures) refl refl

pub returns-then-eq-3 : goal.returns-then-eq-3
returns-then-eq-3 c = ap (λ (name : Known). raw_text_of (text_of name)) (sym (same_index c.args.self k.Script (eqb-true _ _ (sym c.eq-2.ensures ∙ c.if-eq-3.true))))

pub returns-then-eq-4 : goal.returns-then-eq-4
returns-then-eq-4 c = ap (λ (name : Known). raw_text_of (text_of name)) (sym (same_index c.args.self k.Plaintext (eqb-true _ _ (sym c.eq-3.ensures ∙ c.if-eq-4.true))))

pub returns : goal.returns
returns c =
    state c.args.self false false false false false (sym c.if-eq.false ∙ c.eq.ensures) (sym c.if-eq-2.false ∙ c.eq-else-eq.ensures) (sym c.if-is_rawtext.false ∙ c.is_rawtext.ensures)
    (sym c.if-eq-3.false ∙ c.eq-2.ensures) (sym c.if-eq-4.false ∙ c.eq-3.ensures)
