use Rattle.std.proofs.Common.{◌≡◌, List, ◌++◌, ap, sym, ◌∙◌, subst, append-nil, map, drop, Option, None, Some, String, Global, string_bytes, refl, []}
use Rattle.std.specs.Option.{option_to_list}
use Rattle.std.proofs.lemmas.List.{nil_from_length}
use Rattle.std.specs.Vec.Iter.{into_iter_items, into_iter_steps}
use Rattle.std.specs.declared.vec.IntoIter.{IntoIter}
use Rattle.hp_words.proofs.words.words_after_name.Goals as goal

-- what is left behind the first item
behind_first : {X Y : Type 0} (f : X → Y) (first : Option X) (all rest : List X) → all ≡ option_to_list first ++ rest → (first ≡ None → all ≡ []) → map f rest ≡ drop 1 (map f all)
behind_first f None all rest is none = ap (map f) (sym is ∙ none refl) ∙ sym (ap (λ xs. drop 1 (map f xs)) (none refl))
behind_first f (Some x) all rest is none = sym (ap (λ xs. drop 1 (map f xs)) is)

pub returns : goal.returns
returns c =
    let no_name : c.next-name.result ≡ None → into_iter_items c.args.args ≡ [] =
    λ none. nil_from_length _ (sym c.args.args.rest.ok.0 ∙ (subst (λ (first : Option (String Global)). into_iter_steps c.args.args first c.next-name.new.self) none c.next-name.ensures.cases).0) in
    sym (append-nil c.loop-word.words)
    ∙ (ap (λ (rest : List (String Global)). c.loop-word.words ++ map string_bytes rest) (sym (nil_from_length _ (sym c.loop-word.word-iterator.rest.ok.0 ∙ c.in-None.ensures.steps.0)))
    ∙ (c.loop-word.invariant.2
    ∙ (ap (λ (items : IntoIter (String Global) Global). map string_bytes (into_iter_items items)) c.into_iter-word-iterator.ensures.into_iter_gives
    ∙ behind_first string_bytes c.next-name.result (into_iter_items c.args.args) (into_iter_items c.next-name.new.self) c.next-name.ensures.items no_name)))
