-- Names of tags that are no known names.
use Rattle.std.proofs.Common.{◌≡◌, ◌==◌, ℕ, Bool, true, false, ◌||◌, List, [], ◌∷◌, refl, sym, ap, ◌∙◌, map}
use Rattle.std.specs.Prelude.{None, not}
use Rattle.std.specs.Str.{bytes_eq}
use Rattle.hp_elements.specs.Names.{text_of, index_of, known_of, words, is_among}
use Rattle.hp_elements.specs.RawText.{raw_text_of}
use Rattle.hp_elements.specs.declared.known.Known.{Known}
use Rattle.hp_elements.specs.KnownNames as k
use Rattle.hp_elements.specs.declared.sets.Namespace.TheVariants.{Html}
use Rattle.hp_elements.specs.declared.sets.SetName.TheVariants.{Void}
use Rattle.hp_elements.proofs.NameLemmas.{known_of_text, some_none}
use Rattle.hp_elements.proofs.EveryName.{alike_at_every}
use Rattle.hp_elements.proofs.ListedNames.{differs}
use Rattle.hp_elements.proofs.SetLemmas.{other_in}
use Rattle.std.proofs.lemmas.Slice.Eq.{bytes_eq-Decides}
use Rattle.hp_control.proofs.TextTests.{text_test}
use Rattle.hp_predict.specs.Tags.{counts}

-- such a name is none of the known ones
pub not_known : (known : Known) (text : List ℕ) → known_of text ≡ None → bytes_eq text (text_of known) ≡ false
not_known known text n = differs text (text_of known) (λ e. some_none known (sym (known_of_text known) ∙ (ap known_of (sym e) ∙ n)))

pub known_not : (known : Known) (text : List ℕ) → known_of text ≡ None → bytes_eq (text_of known) text ≡ false
known_not known text n = differs (text_of known) text (λ e. some_none known (sym (known_of_text known) ∙ (ap known_of e ∙ n)))

pub none_of : (knowns : List Known) (text : List ℕ) → known_of text ≡ None → is_among (map text_of knowns) text ≡ false
none_of [] text n = refl
none_of (known ∷ knowns) text n = ap (λ (b : Bool). b || is_among (map text_of knowns) text) (not_known known text n) ∙ none_of knowns text n

-- whether a name is html, head or body, by the places of the names
abbrev pub is_outer : Known → Bool
is_outer name = (index_of name == index_of k.Html || index_of name == index_of k.Head) || index_of name == index_of k.Body

pub outer_is : (name : Known) → is_outer name ≡ is_among (words "html head body") (text_of name)
outer_is name = alike_at_every is_outer (λ n. is_among (words "html head body") (text_of n)) refl name

-- what `||` gives where its left side holds, and where it doesn't
pub or_left : (v r a b : Bool) → v ≡ r → r ≡ true → r ≡ a → v ≡ (a || b)
or_left v r a b is holds e = is ∙ (holds ∙ ap (λ (x : Bool). x || b) (sym holds ∙ e))

pub or_right : (v w r a b : Bool) → v ≡ w → w ≡ b → r ≡ false → r ≡ a → v ≡ (a || b)
or_right v w r a b is right fails e = is ∙ (right ∙ ap (λ (x : Bool). x || b) (sym fails ∙ e))

-- it says what stands open
pub other_counts : (text : List ℕ) → known_of text ≡ None → counts text ≡ true
other_counts text n =
    ap (λ (b : Bool). not (b || is_among (words "html head body") text)) (other_in Void Html text n)
    ∙ ap not (none_of (k.Html ∷ k.Head ∷ k.Body ∷ []) text n)

-- its text is read as data
pub other_raw_text : (text : List ℕ) → known_of text ≡ None → raw_text_of text ≡ None
other_raw_text text n =
    let a : is_among (words "title textarea") text ≡ false = none_of (k.Title ∷ k.Textarea ∷ []) text n in
    let b : is_among (words "style xmp iframe noembed noframes") text ≡ false = none_of (k.Style ∷ k.Xmp ∷ k.Iframe ∷ k.Noembed ∷ k.Noframes ∷ []) text n in
    let c : is_among (words "script") text ≡ false = none_of (k.Script ∷ []) text n in
    let d : is_among (words "plaintext") text ≡ false = none_of (k.Plaintext ∷ []) text n in
    simp (a, b, c, d)

-- a test of two texts is the test of the second and the first
pub turned_test : (xs ys : List ℕ) → bytes_eq xs ys ≡ bytes_eq ys xs
turned_test xs ys =
    let h = bytes_eq-Decides xs ys in
    text_test (bytes_eq xs ys) ys xs (λ e. sym (h.0 e), λ e. h.1 (sym e))
