use Rattle.std.proofs.Common.{◌≡◌, List, [], ◌∷◌, ◌++◌, ap, sym, ◌∙◌, append_assoc}
use Rattle.std.proofs.lemmas.List.{map-append}
use Rattle.hp_elements.specs.declared.tag.Attribute.{Attribute}
use Rattle.hp_print.specs.Shown.{attribute_of, attributes_of}
use Rattle.hp_print.specs.declared.attributes.Shown.{Shown}
use Rattle.hp_print.proofs.attributes.texts_of.Goals as goal

-- the texts of one more
one_more : (shown more : List Shown) (next : Shown) (attribute : Attribute) (left rest all : List Attribute) → more ≡ shown ++ next ∷ [] → attribute_of next ≡ attribute → left ≡ attribute ∷ rest → attributes_of shown ++ left ≡ all → attributes_of more ++ rest ≡ all
one_more shown more next attribute left rest all grown is steps done =
    ap (λ l. attributes_of l ++ rest) grown
    ∙ (ap (λ l. l ++ rest) (map-append attribute_of shown (next ∷ []))
    ∙ (append_assoc (attributes_of shown) (attribute_of next ∷ []) rest
    ∙ (ap (λ a. attributes_of shown ++ a ∷ rest) is ∙ (ap (λ l. attributes_of shown ++ l) (sym steps) ∙ done))))

pub loop-attribute-preserved : goal.loop-attribute-preserved
loop-attribute-preserved c = one_more c.loop-attribute.shown.items c.push.new.self.items c.of.result c.in-Some.attribute.now c.loop-attribute.attribute-iterator c.next.new.self c.args.attributes.now c.in_ok-push.ensures.items c.of.ensures c.in-Some.ensures.steps c.loop-attribute.invariant
