-- Two questions that are told alike are one.
use Rattle.std.proofs.Common.{◌≡◌, ℕ, Bool, true, false, List, [], ◌∷◌, refl, sym, ap, ◌∙◌}
use Rattle.std.specs.Prelude.{◌&&◌, ◌==◌, if◌then◌else◌, get_or}
use Rattle.std.specs.Bool.{Decides}
use Rattle.std.specs.Str.{bytes_eq}
use Rattle.std.proofs.lemmas.Bool.Decides.{Decides-eqb}
use Rattle.std.proofs.lemmas.Slice.Eq.{slice_eq-Decides, bytes_eq-Decides}
use denote.Enum.Bare.{tag_one}
use Rattle.hp_elements.specs.contracts.sets.SetName as sets
use Rattle.hp_elements.specs.declared.sets.SetName.{SetName}
use Rattle.hp_elements.specs.declared.sets.SetName.TheVariants.{ForeignEnds}
use Rattle.hp_elements.specs.declared.sets.Namespace.{Namespace}
use Rattle.hp_elements.specs.declared.sets.Namespace.TheVariants.{Html, MathMl, Svg}
use Rattle.hp_elements.specs.declared.kinds.Kinds.{Kinds}
use Rattle.hp_elements.specs.declared.kinds.Kinds.TheVariants as kinds
use Rattle.hp_elements.specs.declared.tag.Attribute.{Attribute}
use Rattle.hp_elements.specs.declared.tag.AttributeSpace.{AttributeSpace}
use Rattle.hp_elements.specs.declared.tag.AttributeSpace.TheVariants.{Plain, Xlink, Xml, Xmlns}
use Rattle.hp_elements.specs.declared.tag.Tag.{Tag}
use Rattle.hp_elements.specs.Sets.{same_namespace}
use Rattle.hp_control.specs.declared.question.FactKind.{FactKind}
use Rattle.hp_control.specs.declared.question.FactKind.TheVariants.{Quirks, LastTag}
use Rattle.hp_control.specs.declared.question.Question.{Question}
use Rattle.hp_control.specs.declared.question.Question.TheVariants as ask
use Rattle.hp_control.specs.QuestionParts.{Parts, parts, set_place, fact_place, kinds_spelled, same_kinds, equal_tags, same_numbers, same_parts, same_question}
use Rattle.hp_control.specs.Walks.{same_attribute, same_space}

both : (a b : Bool) → (a && b) ≡ true → (a ≡ true) × (b ≡ true)
both true b h = (refl, h)
both false b h = absurd (cc)

joined : (a b : Bool) → a ≡ true → b ≡ true → (a && b) ≡ true
joined a b h k = ap (λ x. x && b) h ∙ k

pub set_one : (s t : SetName) → set_place s ≡ set_place t → s ≡ t
set_one s t e = tag_one sets.the_type tt s t e

pub fact_one : (s t : FactKind) → fact_place s ≡ fact_place t → s ≡ t
fact_one Quirks Quirks e = refl
fact_one LastTag LastTag e = refl
fact_one Quirks LastTag e = absurd (cc)
fact_one LastTag Quirks e = absurd (cc)

-- kinds of elements by their spelling, where the set is told
abbrev kinds_back : List ℕ → SetName → Kinds
kinds_back [] s = kinds.Nothing
kinds_back (n ∷ name) s = get_or (kinds.Nothing ∷ kinds.All ∷ kinds.AnyHtml ∷ kinds.HtmlOrPoint ∷ kinds.Html name ∷ kinds.Foreign name ∷ kinds.Set s ∷ []) n kinds.Nothing

abbrev set_in : Kinds → SetName
set_in (kinds.Set s) = s
set_in _ = ForeignEnds

abbrev place_in : List ℕ → ℕ
place_in [] = 0
place_in (n ∷ more) = if n == 6 then get_or more 0 0 else 0

kinds_again : (k : Kinds) → kinds_back (kinds_spelled k) (set_in k) ≡ k
kinds_again kinds.Nothing = refl
kinds_again kinds.All = refl
kinds_again kinds.AnyHtml = refl
kinds_again kinds.HtmlOrPoint = refl
kinds_again (kinds.Html name) = refl
kinds_again (kinds.Foreign name) = refl
kinds_again (kinds.Set s) = refl

place_again : (k : Kinds) → place_in (kinds_spelled k) ≡ set_place (set_in k)
place_again kinds.Nothing = refl
place_again kinds.All = refl
place_again kinds.AnyHtml = refl
place_again kinds.HtmlOrPoint = refl
place_again (kinds.Html name) = refl
place_again (kinds.Foreign name) = refl
place_again (kinds.Set s) = refl

kinds_one : (a b : Kinds) → kinds_spelled a ≡ kinds_spelled b → a ≡ b
kinds_one a b e =
    let sets : set_in a ≡ set_in b = set_one (set_in a) (set_in b) (sym (place_again a) ∙ (ap place_in e ∙ place_again b)) in
    sym (kinds_again a) ∙ (ap (λ p. kinds_back p (set_in a)) e ∙ (ap (kinds_back (kinds_spelled b)) sets ∙ kinds_again b))

kinds_told : (a b : Kinds) → same_kinds a b ≡ true → a ≡ b
kinds_told a b h = kinds_one a b ((bytes_eq-Decides (kinds_spelled a) (kinds_spelled b)).0 h)

text_again : (xs : List ℕ) → bytes_eq xs xs ≡ true
text_again xs = (bytes_eq-Decides xs xs).1 refl

namespace_told : (a b : Namespace) → same_namespace a b ≡ true → a ≡ b
namespace_told Html Html h = refl
namespace_told MathMl MathMl h = refl
namespace_told Svg Svg h = refl
namespace_told Html MathMl h = absurd (cc)
namespace_told Html Svg h = absurd (cc)
namespace_told MathMl Html h = absurd (cc)
namespace_told MathMl Svg h = absurd (cc)
namespace_told Svg Html h = absurd (cc)
namespace_told Svg MathMl h = absurd (cc)

namespace_again : (a : Namespace) → same_namespace a a ≡ true
namespace_again Html = refl
namespace_again MathMl = refl
namespace_again Svg = refl

space_told : (a b : AttributeSpace) → same_space a b ≡ true → a ≡ b
space_told Plain Plain h = refl
space_told Xlink Xlink h = refl
space_told Xml Xml h = refl
space_told Xmlns Xmlns h = refl
space_told Plain Xlink h = absurd (cc)
space_told Plain Xml h = absurd (cc)
space_told Plain Xmlns h = absurd (cc)
space_told Xlink Plain h = absurd (cc)
space_told Xlink Xml h = absurd (cc)
space_told Xlink Xmlns h = absurd (cc)
space_told Xml Plain h = absurd (cc)
space_told Xml Xlink h = absurd (cc)
space_told Xml Xmlns h = absurd (cc)
space_told Xmlns Plain h = absurd (cc)
space_told Xmlns Xlink h = absurd (cc)
space_told Xmlns Xml h = absurd (cc)

space_again : (a : AttributeSpace) → same_space a a ≡ true
space_again Plain = refl
space_again Xlink = refl
space_again Xml = refl
space_again Xmlns = refl

attribute_told : (a b : Attribute) → Decides (same_attribute a b) (a ≡ b)
attribute_told a b = (told, λ e. ap (same_attribute a) (sym e) ∙ again)
  where
    told : same_attribute a b ≡ true → a ≡ b
    told h =
        let x = both (same_space a.space b.space && bytes_eq a.name b.name) (bytes_eq a.value b.value) h in
        let y = both (same_space a.space b.space) (bytes_eq a.name b.name) x.0 in
        let space = space_told a.space b.space y.0 in
        let name = (bytes_eq-Decides a.name b.name).0 y.1 in
        let value = (bytes_eq-Decides a.value b.value).0 x.1 in
        λ i. record { space = space i; name = name i; value = value i }

    again : same_attribute a a ≡ true
    again = joined (same_space a.space a.space && bytes_eq a.name a.name) (bytes_eq a.value a.value) (joined (same_space a.space a.space) (bytes_eq a.name a.name) (space_again a.space) (text_again a.name)) (text_again a.value)

tag_told : (a b : Tag) → equal_tags a b ≡ true → a ≡ b
tag_told a b h =
    let x = both (same_namespace a.namespace b.namespace) _ h in
    let y = both (bytes_eq a.name b.name) _ x.1 in
    let namespace = namespace_told a.namespace b.namespace x.0 in
    let name = (bytes_eq-Decides a.name b.name).0 y.0 in
    let attributes = (slice_eq-Decides attribute_told a.attributes b.attributes _ refl).0 y.1 in
    λ i. record { namespace = namespace i; name = name i; attributes = attributes i }

tag_again : (a : Tag) → equal_tags a a ≡ true
tag_again a = joined _ _ (namespace_again a.namespace) (joined _ _ (text_again a.name) ((slice_eq-Decides attribute_told a.attributes a.attributes _ refl).1 refl))

parts_told : (a b : Parts) → same_parts a b ≡ true → a ≡ b
parts_told a b h =
    let x = both (same_numbers a b) _ h in
    let y = both (a.which == b.which) _ x.0 in
    let z = both (a.depth == b.depth) _ y.1 in
    let u = both (same_kinds a.goals b.goals) _ x.1 in
    let v = both (same_kinds a.stops b.stops) _ u.1 in
    let which = (Decides-eqb a.which b.which).0 y.0 in
    let depth = (Decides-eqb a.depth b.depth).0 z.0 in
    let cuts = (Decides-eqb a.cuts b.cuts).0 z.1 in
    let goals = kinds_told a.goals b.goals u.0 in
    let stops = kinds_told a.stops b.stops v.0 in
    let tag = tag_told a.tag b.tag v.1 in
    λ i. record { which = which i; depth = depth i; cuts = cuts i; goals = goals i; stops = stops i; tag = tag i }

number_again : (n : ℕ) → (n == n) ≡ true
number_again n = (Decides-eqb n n).1 refl

parts_again : (a : Parts) → same_parts a a ≡ true
parts_again a =
    joined _ _ (joined _ _ (number_again a.which) (joined _ _ (number_again a.depth) (number_again a.cuts)))
    (joined _ _ (text_again (kinds_spelled a.goals)) (joined _ _ (text_again (kinds_spelled a.stops)) (tag_again a.tag)))

abbrev fact_back : ℕ → FactKind
fact_back n = if n == 0 then Quirks else LastTag

-- the questions that may be of these parts, in the order of `which`
abbrev questions : Parts → List Question
questions p =
    ask.Entry ∷ ask.Elem p.depth ∷ ask.Seen p.depth p.goals p.stops ∷ ask.Reach p.depth p.goals p.stops ∷ ask.RunOf p.depth p.goals ∷ ask.HasTemplate p.depth ∷ ask.ResetFrom p.depth
    ∷ ask.Quiet p.depth p.cuts ∷ ask.Listed p.depth p.cuts p.tag.name ∷ ask.Same p.cuts p.tag ∷ ask.Pointer p.depth ∷ ask.Fact (fact_back p.depth) ∷ ask.Whole p.depth ∷ []

abbrev made_of : Parts → Question
made_of p = get_or (questions p) p.which ask.Entry

made_again : (q : Question) → made_of (parts q) ≡ q
made_again ask.Entry = refl
made_again (ask.Elem depth) = refl
made_again (ask.Seen depth goals stops) = refl
made_again (ask.Reach depth goals stops) = refl
made_again (ask.RunOf depth names) = refl
made_again (ask.HasTemplate depth) = refl
made_again (ask.ResetFrom depth) = refl
made_again (ask.Quiet depth cuts) = refl
made_again (ask.Listed depth cuts name) = refl
made_again (ask.Same cuts tag) = refl
made_again (ask.Pointer depth) = refl
made_again (ask.Fact Quirks) = refl
made_again (ask.Fact LastTag) = refl
made_again (ask.Whole depth) = refl

pub question_told : (q r : Question) → same_question q r ≡ true → q ≡ r
question_told q r h = sym (made_again q) ∙ (ap made_of (parts_told (parts q) (parts r) h) ∙ made_again r)

pub question_again : (q : Question) → same_question q q ≡ true
question_again q = parts_again (parts q)

-- told apart, in whatever order
pub question_apart : (q r : Question) → same_question q r ≡ false → same_question r q ≡ false
question_apart q r h = go (same_question r q) refl
  where
    go : (b : Bool) → same_question r q ≡ b → same_question r q ≡ false
    go false e = e
    go true e = let back : same_question q r ≡ true = ap (λ x. same_question x r) (sym (question_told r q e)) ∙ question_again r in absurd (cc (sym back, h))
