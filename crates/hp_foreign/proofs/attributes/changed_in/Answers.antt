use Rattle.std.proofs.Common.{◌≡◌, List, [], ◌∷◌, ◌++◌, map, ap, append_assoc, ◌∙◌, sym}
use Rattle.hp_control.specs.Foreign.{attribute_in}
use Rattle.hp_foreign.proofs.attributes.changed_in.Goals as goal

moved : {X Y : Type 0} (f : X → Y) (all rest left : List X) (made more : List Y) (x : X) (y : Y) → map f all ≡ made ++ map f rest → rest ≡ x ∷ left → y ≡ f x → more ≡ made ++ y ∷ [] → map f all ≡ more ++ map f left
moved f all rest left made more x y e r h m =
    e ∙ (ap (λ l. made ++ map f l) r ∙ (ap (λ z. made ++ z ∷ map f left) (sym h) ∙ (sym (append_assoc made (y ∷ []) (map f left)) ∙ ap (λ l. l ++ map f left) (sym m))))

pub loop-attribute-preserved : goal.loop-attribute-preserved
loop-attribute-preserved c =
    moved (attribute_in c.args.namespace) c.args.attributes c.loop-attribute.attributes c.pop_front.new.self c.loop-attribute.made c.push.new.self c.in-Some.attribute c.attribute_in.result
    c.loop-attribute.invariant c.in-Some.ensures c.attribute_in.ensures c.in_ok-push.ensures.ok
