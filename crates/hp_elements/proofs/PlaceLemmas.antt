-- What holds at each place of a table by kinds.
use Rattle.std.proofs.Common.{◌≡◌, Bool, true, false, sym, ℕ, ◌+◌, ◌<◌, List, length, map, get_or, take, drop, ◌++◌, None, Some, refl, lit<, arith, ◌∙◌, ap}
use Rattle.std.specs.List.{list_all}
use Rattle.std.proofs.lemmas.List.{get_or-map, get_or_append_left, get_or-append-add}
use Rattle.std.proofs.lemmas.List.Folds.{list_all_at}
use Rattle.hp_elements.specs.declared.known.Known.{Known}
use Rattle.hp_elements.specs.KnownNames as k
use Rattle.hp_elements.specs.declared.token.CharClass.TheVariants.{White, Nul, Other}
use Rattle.hp_elements.specs.declared.token.Kind.{Kind}
use Rattle.hp_elements.specs.declared.token.Kind.TheVariants.{Characters, Comment, Doctype, Start, End, EndOfInput}
use Rattle.hp_elements.specs.Names.{every, index_of}
use Rattle.hp_elements.specs.Placing.{every_kind, place_of}
use Rattle.hp_elements.proofs.EveryName.{index_below, known_at}

start_at : (name : Known) → get_or every_kind (index_of name) EndOfInput ≡ Start (Some name)
start_at name =
    let starts : Known → Kind = λ n. Start (Some n) in
    let behind : List Kind = drop 240 every_kind in
    get_or_append_left (map starts every) behind EndOfInput (index_of name) (index_below name)
    ∙ (get_or-map starts every (index_of name) k.A EndOfInput (index_below name) ∙ ap starts (known_at name))

end_at : (name : Known) → get_or every_kind (241 + index_of name) EndOfInput ≡ End (Some name)
end_at name =
    let ends : Known → Kind = λ n. End (Some n) in
    let behind : List Kind = drop 481 every_kind in
    get_or-append-add (take 241 every_kind) (map ends every ++ behind) (index_of name) EndOfInput
    ∙ (get_or_append_left (map ends every) behind EndOfInput (index_of name) (index_below name)
    ∙ (get_or-map ends every (index_of name) k.A EndOfInput (index_below name) ∙ ap ends (known_at name)))

pub kind_at : (token : Kind) → get_or every_kind (place_of token) EndOfInput ≡ token
kind_at (Start (Some name)) = start_at name
kind_at (End (Some name)) = end_at name
kind_at (Start None) = refl
kind_at (End None) = refl
kind_at (Characters White) = refl
kind_at (Characters Nul) = refl
kind_at (Characters Other) = refl
kind_at Comment = refl
kind_at Doctype = refl
kind_at EndOfInput = refl

pub place_below : (token : Kind) → place_of token < length every_kind
place_below (Start (Some name)) = let below : index_of name < 240 = index_below name in omega arith
place_below (End (Some name)) = let below : index_of name < 240 = index_below name in omega arith
place_below (Start None) = lit< tt
place_below (End None) = lit< tt
place_below (Characters White) = lit< tt
place_below (Characters Nul) = lit< tt
place_below (Characters Other) = lit< tt
place_below Comment = lit< tt
place_below Doctype = lit< tt
place_below EndOfInput = lit< tt

pub passes_at : {X : Type 0} (p : X → Bool) (xs : List X) (i : ℕ) (d : X) → i < length xs → list_all p xs ≡ true → p (get_or xs i d) ≡ true
passes_at p xs i d below h = go (p (get_or xs i d)) refl
  where
    go : (b : Bool) → p (get_or xs i d) ≡ b → b ≡ true
    go true e = refl
    go false e = let wrong : false ≡ true = sym (list_all_at p xs i d below e) ∙ h in absurd (cc)

-- a table of what a function says of all kinds has at a kind's place what the function says of it
pub value_at : {X : Type 0} (f : Kind → X) (token : Kind) (d : X) → get_or (map f every_kind) (place_of token) d ≡ f token
value_at f token d = get_or-map f every_kind (place_of token) EndOfInput d (place_below token) ∙ ap f (kind_at token)

-- what each kind of the list passes, each kind passes
pub at_every_kind : (p : Kind → Bool) → list_all p every_kind ≡ true → (token : Kind) → p token ≡ true
at_every_kind p h token = ap p (sym (kind_at token)) ∙ passes_at p every_kind (place_of token) EndOfInput (place_below token) h
