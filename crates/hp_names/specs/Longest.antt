-- The longest name of a table that a text begins with, and whether more text may change it (13.2.5.73).
use Rattle.std.specs.Prelude.{◌≡◌, ◌==◌, ℕ, ◌≤◌, ◌&&◌, ◌||◌, not, nat_lt, nat_le, Bool, true, false, List, [], ◌∷◌, ◌++◌, length, Option, None, Some, Contains, All, if◌then◌else◌}
use Rattle.std.specs.List.{list_any}
use Rattle.std.specs.Str.{encode_utf8_all}
use Rattle.hp_names.specs.Order.{begins}
use Rattle.hp_names.specs.References.{Reference, ends_with_semicolon}
use Rattle.hp_names.specs.declared.names.Found.{Found}

-- what is found where the text begins with this name
abbrev pub found_of : Reference → Found
found_of r = record { length = length r.name; first = r.first; second = r.second; ends_with_semicolon = ends_with_semicolon r.name }

-- the longer of two that were found, and the earlier of two that are as long
abbrev pub longer_of : Option Found → Found → Found
longer_of None other = other
longer_of (Some best) other = if nat_le other.length best.length then best else other

-- the longest of what was found and of the names of the table that the text begins with
abbrev pub longest_after : Option Found → List Reference → List ℕ → Option Found
longest_after best [] text = best
longest_after best (r ∷ rs) text =
    longest_after (if begins text r.name then Some (longer_of best (found_of r)) else best) rs text

abbrev pub longest : List Reference → List ℕ → Option Found
longest table text = longest_after None table text

-- this name goes on after the text
abbrev pub goes_on : List ℕ → Reference → Bool
goes_on text r = begins r.name text && nat_lt (length text) (length r.name)

-- the text is the front of a longer name of the table, so what follows it may make a longer name
abbrev pub may_grow : List Reference → List ℕ → Bool
may_grow table text = list_any (goes_on text) table

-- the law of the longest name: where nothing is found the text begins with no name of the table; what is found is what a name of
-- the table stands for with which the text begins, and no name with which the text begins is longer
abbrev pub IsLongest : List Reference → List ℕ → Option Found → Type 0
IsLongest table text None = All (λ r. begins text r.name ≡ false) table
IsLongest table text (Some f) = (r : Reference) × Contains table r × (begins text r.name ≡ true) × (f ≡ found_of r)
    × All (λ q. begins text q.name ≡ true → length q.name ≤ length r.name) table

-- this name goes on after the text, or is the text and has no semicolon, so that what follows decides what it stands for
abbrev pub may_be_more : List ℕ → Reference → Bool
may_be_more text r = begins r.name text && (nat_lt (length text) (length r.name) || not (ends_with_semicolon r.name))

-- more text is needed: the text is the front of a longer name of the table, or a name of it without a semicolon (13.2.5.73)
abbrev pub is_open : List Reference → List ℕ → Bool
is_open table text = list_any (may_be_more text) table

-- a name was found that is the whole text, and has no semicolon
abbrev pub is_whole_unclosed : Option Found → List ℕ → Bool
is_whole_unclosed None text = false
is_whole_unclosed (Some f) text = f.length == length text && not f.ends_with_semicolon

-- the law of a closed text: whatever follows, the longest name stays, and the text stays closed
abbrev pub StaysClosed : List Reference → List ℕ → Type 0
StaysClosed table text = (more : List ℕ) → (longest table (text ++ more) ≡ longest table text) × (is_open table (text ++ more) ≡ false)

-- the law of encoded text: a table finds in the UTF-8 of code points what it finds in the code points themselves
pub record OverChars (table : List Reference) (chars : List ℕ) : Type 0 where
  pub longest_same : longest table (encode_utf8_all chars) ≡ longest table chars
  pub grows_same : may_grow table (encode_utf8_all chars) ≡ may_grow table chars
  pub open_same : is_open table (encode_utf8_all chars) ≡ is_open table chars
