-- The page of a seed: pieces of markup that the seed's row of numbers picks, up to a given length in bytes.
use Rattle.std.specs.Prelude.{◌≡◌, ℕ, zero, suc, ◌+◌, ◌-◌, ◌*◌, ◌/◌, ◌%◌, ◌^◌, ◌<◌, nat_lt, nat_le, List, [], ◌∷◌, ◌++◌, length, codes, replicate, slice_index_or, if◌then◌else◌}

abbrev pub doctype : List ℕ
doctype = codes "<!DOCTYPE html>"

abbrev pub pieces : List (List ℕ)
pieces =
    codes "<p>one" ∷
    codes "text " ∷
    codes "<b>bold</b>" ∷
    codes "<p><b>a<i>b</b>c</i>" ∷
    codes "<ul><li>one<li>two</ul>" ∷
    codes "<table><tr><td>1<td>2</table>" ∷
    codes "<table>x<tr><td>y</table>" ∷
    codes "<a href=\"?a=1&amp;b=2\">link</a>" ∷
    codes "caf&eacute; &#8364;" ∷
    codes "<!-- note -->" ∷
    codes "<script>if(a<b){c()}</script>" ∷
    codes "<h2>head</h2>" ∷
    codes "<svg><circle r=\"1\"/></svg>" ∷
    codes "<select><option>1<option>2</select>" ∷
    codes "<form><input name=q></form>" ∷
    codes "<div class=\"c\">d</div>" ∷ []

-- the number after this one in a seed's row
abbrev pub next : ℕ → ℕ
next number = (number * 6364136223846793005 + 1442695040888963407) % 2 ^ 64

-- the piece that a number picks, by its highest four bits
abbrev pub piece : ℕ → List ℕ
piece number = slice_index_or pieces (number / 2 ^ 60) []

-- so many bytes that fill up where no piece fits
abbrev pub filling : ℕ → List ℕ
filling count = replicate count 120

-- bytes of pieces after this number, where the first that doesn't fit into what is left gives way to the filling, within so many turns
unfoldable pub body : ℕ → ℕ → ℕ → List ℕ
body zero number left = []
body (suc turns) number left =
    if nat_le (length (piece (next number))) left
    then piece (next number) ++ body turns (next number) (left - length (piece (next number)))
    else filling left

-- each turn but the last takes a byte or more, so these turns are enough
abbrev pub filled : ℕ → ℕ → List ℕ
filled number left = body (left + 1) number left

-- the page of a seed, of so many bytes
abbrev pub page_of : ℕ → ℕ → List ℕ
page_of seed size =
    if nat_lt size 15 then filling size else doctype ++ filled seed (size - 15)

-- the number so many places after this one, and the pieces of the first so many numbers after it
abbrev pub number_at : ℕ → ℕ → ℕ
number_at zero number = number
number_at (suc k) number = number_at k (next number)

abbrev pub first_pieces : ℕ → ℕ → List ℕ
first_pieces zero number = []
first_pieces (suc k) number = piece (next number) ++ first_pieces k (next number)

-- the law of a page: it has the size; it is the doctype, the first pieces of the seed's row, and a filling that is shorter than the next piece
abbrev pub IsPage : ℕ → ℕ → List ℕ → Type 0
IsPage seed size page = (k : ℕ) × (count : ℕ) × (page ≡ doctype ++ first_pieces k seed ++ filling count)
    × (count < length (piece (number_at (suc k) seed))) × (length page ≡ size)
