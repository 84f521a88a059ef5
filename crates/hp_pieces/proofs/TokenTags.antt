-- The rows of text and tags keep a machine whose token is its state's.
use Rattle.std.proofs.Common.{◌≡◌, ℕ, List, ◌∷◌, Bool, true, false, ◌&&◌, ◌||◌, refl, ◌∙◌, sym, Some, arith}
use Rattle.std.specs.Prelude.{◌==◌}
use Rattle.std.proofs.lemmas.Bool.Decides.{nat_tests}
use Rattle.hp_tokens.specs.declared.building.Building.{Building}
use Rattle.hp_tokens.specs.declared.building.Building.TheVariants as building
use Rattle.hp_tokens.specs.declared.machine.Machine.{Machine}
use Rattle.hp_tokens.specs.declared.state.State.{State}
use Rattle.hp_tokens.specs.declared.state.State.TheVariants.{Data, BeforeAttributeName, AttributeName, AfterAttributeName, BeforeAttributeValue, SelfClosingStartTag}
use Rattle.hp_tokens.specs.Rows.{again, is_blank}
use Rattle.hp_tokens.specs.Valid.{is_tag, is_tag_with_attribute}
use Rattle.hp_lex_tags.specs.Letters.{equals, solidus}
use Rattle.hp_lex_tags.specs.Rows.{row, row_of}
use Rattle.hp_pieces.proofs.TokenRows.{Owns, again-owns, chosen-owns, either-owns, ends_tag, go-owns, has_own, owning, owns, stay-owns, still}

blank_goes_on : (c : ℕ) → is_blank c ≡ true → ends_tag c ≡ false
blank_goes_on c h = grind (arith, nat_tests)

equals_goes_on : (c : ℕ) → (c == equals) ≡ true → ends_tag c ≡ false
equals_goes_on c h = grind (arith, nat_tests)

closing : (a t e : Bool) → t ≡ true → e ≡ true → (a || (t && e)) ≡ true
closing true t e h q = refl
closing false true e h q = q
closing false false e h q = h

-- where the tag goes on its attribute is there, and in any case it is a tag
pub there : (a b e : Bool) → e ≡ false → (a || (b && e)) ≡ true → a ≡ true
there true b e q h = refl
there false true e q h = let no : false ≡ true = sym q ∙ h in cc
there false false e q h = cc

a_tag : (b : Building) (e : Bool) → (is_tag_with_attribute b || (is_tag b && e)) ≡ true → is_tag b ≡ true
a_tag (building.StartTag t) e h = refl
a_tag (building.EndTag name) e h = refl
a_tag _ e h = h

each_owns : (s : State) (m : Machine) (c : ℕ) (cs : List ℕ) → has_own s (c ∷ cs) m.return_to m.building ≡ true → Owns c cs (row_of s (record m { state = s }) (Some c))
each_owns BeforeAttributeName m c cs h =
    let at : Machine = record m { state = BeforeAttributeName } in
    either-owns (is_blank c) (stay-owns at h)
    (chosen-owns (ends_tag c) (λ q. again-owns AfterAttributeName at (closing (is_tag_with_attribute m.building) (is_tag m.building) (ends_tag c) h q))
    (λ q. search (owning, h) depth 9))
each_owns AttributeName m c cs h =
    let at : Machine = record m { state = AttributeName } in
    let again_behind : Owns c cs (again AfterAttributeName at) = again-owns AfterAttributeName at (still (c ∷ cs) m.return_to m.building h) in
    either-owns (is_blank c) again_behind (either-owns (ends_tag c) again_behind (search (owning, h) depth 9))
each_owns AfterAttributeName m c cs h =
    let at : Machine = record m { state = AfterAttributeName } in
    let tag : is_tag m.building ≡ true = a_tag m.building (ends_tag c) h in
    let goes_on : ends_tag c ≡ false → is_tag_with_attribute m.building ≡ true = λ q. there (is_tag_with_attribute m.building) (is_tag m.building) (ends_tag c) q h in
    chosen-owns (is_blank c) (λ q. stay-owns at (still cs m.return_to m.building (goes_on (blank_goes_on c q))))
    (λ q. either-owns (c == solidus) (go-owns SelfClosingStartTag at tag)
    (chosen-owns (c == equals) (λ p. go-owns BeforeAttributeValue at (goes_on (equals_goes_on c p)))
    (λ p. search (owning, tag) depth 9)))
each_owns Data m c cs h = search (owning, h) depth 9
each_owns _ m c cs h = search (owning, h) depth 9

pub row_owns : (m : Machine) (c : ℕ) (cs : List ℕ) → owns m (c ∷ cs) ≡ true → Owns c cs (row m (Some c))
row_owns m c cs h = each_owns m.state m c cs h
