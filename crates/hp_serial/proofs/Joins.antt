-- Texts in UTF-8 that are joined.
use Rattle.std.proofs.Common.{◌≡◌, ℕ, List, [], ◌∷◌, ◌++◌, refl, ap, sym, ◌∙◌, append_assoc, append-nil}
use Rattle.std.specs.Prelude.{Result, Ok, Err, OnOk, Bool, true, false, codes, bytes_eq, encode_utf8_all, if◌then◌else◌}
use lib.Utf8.{encode}
use Rattle.std.specs.List.{concat, flat_map}
use Rattle.std.proofs.lemmas.Bool.{cond-false}
use Rattle.std.proofs.lemmas.Grind.{flat_map-append}
use Rattle.std.proofs.lemmas.Str.{encodes-append}
use Rattle.hp_elements.specs.declared.tag.AttributeSpace.{AttributeSpace}
use Rattle.hp_elements.specs.declared.tag.AttributeSpace.TheVariants.{Plain, Xlink, Xml, Xmlns}
use Rattle.hp_elements.specs.declared.tag.Tag.{Tag}
use Rattle.hp_serial.specs.declared.escape.Place.TheVariants as place
use Rattle.hp_serial.specs.Escaping.{escape}
use Rattle.hp_serial.specs.Html.{is_void, prefix, qualified, end_tag, text_in}

-- what follows from a success
pub ok_then : {T E : Type 0} → (r : Result T E) (P Q : Type 0) → (P → Q) → OnOk r P → OnOk r Q
ok_then (Ok v) P Q f p = f p
ok_then (Err e) P Q f p = tt

-- a piece was written, and behind it more is to come
pub written_then : (out new first more : List ℕ) → new ≡ out ++ encode_utf8_all first → new ++ encode_utf8_all more ≡ out ++ encode_utf8_all (first ++ more)
written_then out new first more e =
    ap (λ xs. xs ++ encode_utf8_all more) e ∙ append_assoc out (encode_utf8_all first) (encode_utf8_all more)
    ∙ ap (λ xs. out ++ xs) (sym (encodes-append first more))

-- two pieces were written
pub written_both : (out mid new first second : List ℕ) → mid ≡ out ++ encode_utf8_all first → new ≡ mid ++ encode_utf8_all second → new ≡ out ++ encode_utf8_all (first ++ second)
written_both out mid new first second e f = f ∙ written_then out mid first second e

-- a piece was written of what was to come
pub written_of : (out new first more left text : List ℕ) → new ≡ out ++ encode_utf8_all first → left ≡ more → text ≡ first ++ more
    → new ++ encode_utf8_all left ≡ out ++ encode_utf8_all text
written_of out new first more left text e same is =
    ap (λ xs. new ++ encode_utf8_all xs) same ∙ written_then out new first more e ∙ ap (λ xs. out ++ encode_utf8_all xs) (sym is)

-- a text between two marks
pub between : (out a b new left text right : List ℕ) → a ≡ out ++ left → b ≡ a ++ text → new ≡ b ++ right → new ≡ out ++ left ++ text ++ right
between out a b new left text right e f g = g ∙ ap (λ xs. xs ++ right) (f ∙ ap (λ xs. xs ++ text) e)

pub comment_joined : (out new text : List ℕ) → new ≡ out ++ codes "<!--" ++ encode_utf8_all text ++ codes "-->" → new ≡ out ++ encode_utf8_all (codes "<!--" ++ text ++ codes "-->")
unfolding encode
comment_joined out new text e =
    written_both out (out ++ codes "<!--" ++ encode_utf8_all text) new (codes "<!--" ++ text) (codes "-->")
    (written_both out (out ++ codes "<!--") (out ++ codes "<!--" ++ encode_utf8_all text) (codes "<!--") text refl refl) e

pub doctype_joined : (out new name : List ℕ) → new ≡ out ++ codes "<!DOCTYPE " ++ encode_utf8_all name ++ codes ">" → new ≡ out ++ encode_utf8_all (codes "<!DOCTYPE " ++ name ++ codes ">")
unfolding encode
doctype_joined out new name e =
    written_both out (out ++ codes "<!DOCTYPE " ++ encode_utf8_all name) new (codes "<!DOCTYPE " ++ name) (codes ">")
    (written_both out (out ++ codes "<!DOCTYPE ") (out ++ codes "<!DOCTYPE " ++ encode_utf8_all name) (codes "<!DOCTYPE ") name refl refl) e

pub start_tag_joined : (out a b d new name attributes : List ℕ) → a ≡ out ++ codes "<" → b ≡ a ++ encode_utf8_all name → d ≡ b ++ encode_utf8_all attributes → new ≡ d ++ codes ">"
    → new ≡ out ++ encode_utf8_all (codes "<" ++ name ++ attributes ++ codes ">")
unfolding encode
start_tag_joined out a b d new name attributes e f g h =
    written_both out d new (codes "<" ++ name ++ attributes) (codes ">")
    (written_both out b d (codes "<" ++ name) attributes (written_both out a b (codes "<") name e f) g) h

pub end_tag_joined : (out a b new : List ℕ) (tag : Tag) → is_void tag ≡ false → a ≡ out ++ codes "</" → b ≡ a ++ encode_utf8_all tag.name → new ≡ b ++ codes ">"
    → new ≡ out ++ encode_utf8_all (end_tag tag)
unfolding encode
end_tag_joined out a b new tag closes e f g =
    written_both out b new (codes "</" ++ tag.name) (codes ">") (written_both out a b (codes "</") tag.name e f) g
    ∙ ap (λ xs. out ++ encode_utf8_all xs) (sym (cond-false (is_void tag) [] (codes "</" ++ tag.name ++ codes ">") closes))

pub attribute_joined : (out a b d f new name value : List ℕ) → a ≡ out ++ codes " " → b ≡ a ++ encode_utf8_all name → d ≡ b ++ codes "=\"" → f ≡ d ++ encode_utf8_all value → new ≡ f ++ codes "\""
    → new ≡ out ++ encode_utf8_all (codes " " ++ name ++ codes "=\"" ++ value ++ codes "\"")
unfolding encode
attribute_joined out a b d f new name value e1 e2 e3 e4 e5 =
    written_both out f new (codes " " ++ name ++ codes "=\"" ++ value) (codes "\"")
    (written_both out d f (codes " " ++ name ++ codes "=\"") value
    (written_both out b d (codes " " ++ name) (codes "=\"") (written_both out a b (codes " ") name e1 e2) e3) e4) e5

xmlns-encode : (b : Bool) → encode_utf8_all (if b then [] else codes "xmlns:") ≡ (if b then [] else codes "xmlns:")
unfolding encode
xmlns-encode true = refl
xmlns-encode false = refl

prefix-encode : (space : AttributeSpace) (name : List ℕ) → encode_utf8_all (prefix space name) ≡ prefix space name
unfolding encode
prefix-encode Plain name = refl
prefix-encode Xlink name = refl
prefix-encode Xml name = refl
prefix-encode Xmlns name = xmlns-encode (bytes_eq name (codes "xmlns"))

pub qualified_joined : (out a new : List ℕ) (space : AttributeSpace) (name : List ℕ) → a ≡ out ++ prefix space name → new ≡ a ++ encode_utf8_all name → new ≡ out ++ encode_utf8_all (qualified space name)
qualified_joined out a new space name e f =
    written_both out a new (prefix space name) name (e ∙ ap (λ xs. out ++ xs) (sym (prefix-encode space name))) f

-- one item of a list was written, and the others are to come
pub next_joined : {X : Type 0} → (text : X → List ℕ) → (start : List ℕ) (out new : List ℕ) (x : X) (items rest : List X) → new ≡ out ++ encode_utf8_all (text x) → items ≡ x ∷ rest
    → out ++ encode_utf8_all (flat_map text items) ≡ start → new ++ encode_utf8_all (flat_map text rest) ≡ start
next_joined text start out new x items rest e is so_far =
    written_then out new (text x) (flat_map text rest) e ∙ ap (λ xs. out ++ encode_utf8_all (flat_map text xs)) (sym is) ∙ so_far

text_in-append : (raw : Bool) (a b : List ℕ) → text_in raw (a ++ b) ≡ text_in raw a ++ text_in raw b
text_in-append true a b = refl
text_in-append false a b = flat_map-append (escape place.Text) a b

-- one run of a text was written, and the others are to come
pub run_joined : (raw : Bool) (start out new run : List ℕ) (runs rest : List (List ℕ)) → new ≡ out ++ encode_utf8_all (text_in raw run) → runs ≡ run ∷ rest
    → out ++ encode_utf8_all (text_in raw (concat runs)) ≡ start → new ++ encode_utf8_all (text_in raw (concat rest)) ≡ start
run_joined raw start out new run runs rest e is so_far =
    written_then out new (text_in raw run) (text_in raw (concat rest)) e
    ∙ ap (λ xs. out ++ encode_utf8_all xs) (sym (text_in-append raw run (concat rest)))
    ∙ ap (λ xs. out ++ encode_utf8_all (text_in raw (concat xs))) (sym is) ∙ so_far

text_in-none : (raw : Bool) → text_in raw [] ≡ []
text_in-none true = refl
text_in-none false = refl

pub runs_done : (raw : Bool) (start out : List ℕ) (runs : List (List ℕ)) → runs ≡ [] → out ++ encode_utf8_all (text_in raw (concat runs)) ≡ start → out ≡ start
runs_done raw start out runs none e =
    sym (append-nil out) ∙ ap (λ xs. out ++ encode_utf8_all xs) (sym (text_in-none raw)) ∙ ap (λ xs. out ++ encode_utf8_all (text_in raw (concat xs))) (sym none) ∙ e

pub items_done : {X : Type 0} → (text : X → List ℕ) → (start out : List ℕ) (items : List X) → items ≡ [] → out ++ encode_utf8_all (flat_map text items) ≡ start → out ≡ start
items_done text start out items none e = sym (append-nil out) ∙ ap (λ xs. out ++ encode_utf8_all (flat_map text xs)) (sym none) ∙ e
