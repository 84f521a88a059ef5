-- The reference names that the product knows without a table of its own: those of HTML 4, `apos`, and `AMP COPY GT LT QUOT REG` (section 13.5 has these among others).
use Prim.Native.String.{String}
use Rattle.std.specs.Prelude.{ℕ, ◌+◌, ◌==◌, List, [], ◌∷◌, ◌++◌, None, codes, if◌then◌else◌}
use Rattle.std.specs.List.{slice_split}
use Rattle.hp_names.specs.Order.{is_upto}
use Rattle.hp_names.specs.References.{Reference, semicolon}

-- the words of a text, which stand one space apart
abbrev pub words : String → List (List ℕ)
words text = slice_split (λ c. c == 32) (codes text)

abbrev pub named : List ℕ → ℕ → Reference
named name code = record { name = name; first = code; second = None }

-- the words stand for this code point and those that follow it, one each
abbrev pub counted : ℕ → List (List ℕ) → List Reference
counted code [] = []
counted code (w ∷ ws) = named w code ∷ counted (code + 1) ws

abbrev pub closed : Reference → Reference
closed r = record r { name = r.name ++ semicolon ∷ [] }

-- each name with a semicolon at its end
abbrev pub closed_alone : List Reference → List Reference
closed_alone [] = []
closed_alone (r ∷ rs) = closed r ∷ closed_alone rs

-- each name as it is, and with a semicolon at its end
abbrev pub with_and_without : List Reference → List Reference
with_and_without [] = []
with_and_without (r ∷ rs) = r ∷ closed r ∷ with_and_without rs

abbrev pub one : String → ℕ → Reference
one name code = named (codes name) code

-- from U+00A0 on
abbrev pub latin_1 : List Reference
latin_1 = counted 0xA0 (
    words "nbsp iexcl cent pound curren yen brvbar sect uml copy ordf laquo not shy reg macr deg plusmn"
    ++ words "sup2 sup3 acute micro para middot cedil sup1 ordm raquo frac14 frac12 frac34 iquest Agrave"
    ++ words "Aacute Acirc Atilde Auml Aring AElig Ccedil Egrave Eacute Ecirc Euml Igrave Iacute Icirc Iuml"
    ++ words "ETH Ntilde Ograve Oacute Ocirc Otilde Ouml times Oslash Ugrave Uacute Ucirc Uuml Yacute THORN"
    ++ words "szlig agrave aacute acirc atilde auml aring aelig ccedil egrave eacute ecirc euml igrave iacute"
    ++ words "icirc iuml eth ntilde ograve oacute ocirc otilde ouml divide oslash ugrave uacute ucirc uuml"
    ++ words "yacute thorn yuml")

abbrev pub markup : List Reference
markup =
    one "quot" 0x22 ∷ one "QUOT" 0x22 ∷ one "amp" 0x26 ∷ one "AMP" 0x26 ∷ one "lt" 0x3C ∷ one "LT" 0x3C ∷ one "gt" 0x3E ∷ one "GT" 0x3E ∷ one "COPY" 0xA9 ∷ one "REG" 0xAE ∷ []

-- the Greek letters, from U+0391, U+03A3 and U+03B1 on
abbrev pub greek : List Reference
greek =
    counted 0x391 (words "Alpha Beta Gamma Delta Epsilon Zeta Eta Theta Iota Kappa Lambda Mu Nu Xi Omicron Pi Rho")
    ++ counted 0x3A3 (words "Sigma Tau Upsilon Phi Chi Psi Omega")
    ++ counted 0x3B1 (words "alpha beta gamma delta epsilon zeta eta theta iota kappa lambda mu nu xi omicron pi rho" ++ words "sigmaf sigma tau upsilon phi chi psi omega")

abbrev pub further : List Reference
further =
    one "apos" 0x27 ∷ one "OElig" 0x152 ∷ one "oelig" 0x153 ∷ one "Scaron" 0x160 ∷ one "scaron" 0x161 ∷
    one "Yuml" 0x178 ∷ one "fnof" 0x192 ∷ one "circ" 0x2C6 ∷ one "tilde" 0x2DC ∷ one "thetasym" 0x3D1 ∷
    one "upsih" 0x3D2 ∷ one "piv" 0x3D6 ∷ one "ensp" 0x2002 ∷ one "emsp" 0x2003 ∷ one "thinsp" 0x2009 ∷
    one "zwnj" 0x200C ∷ one "zwj" 0x200D ∷ one "lrm" 0x200E ∷ one "rlm" 0x200F ∷ one "ndash" 0x2013 ∷
    one "mdash" 0x2014 ∷ one "lsquo" 0x2018 ∷ one "rsquo" 0x2019 ∷ one "sbquo" 0x201A ∷
    one "ldquo" 0x201C ∷ one "rdquo" 0x201D ∷ one "bdquo" 0x201E ∷ one "dagger" 0x2020 ∷
    one "Dagger" 0x2021 ∷ one "bull" 0x2022 ∷ one "hellip" 0x2026 ∷ one "permil" 0x2030 ∷
    one "prime" 0x2032 ∷ one "Prime" 0x2033 ∷ one "lsaquo" 0x2039 ∷ one "rsaquo" 0x203A ∷
    one "oline" 0x203E ∷ one "frasl" 0x2044 ∷ one "euro" 0x20AC ∷ one "image" 0x2111 ∷
    one "weierp" 0x2118 ∷ one "real" 0x211C ∷ one "trade" 0x2122 ∷ one "alefsym" 0x2135 ∷
    one "larr" 0x2190 ∷ one "uarr" 0x2191 ∷ one "rarr" 0x2192 ∷ one "darr" 0x2193 ∷ one "harr" 0x2194 ∷
    one "crarr" 0x21B5 ∷ one "lArr" 0x21D0 ∷ one "uArr" 0x21D1 ∷ one "rArr" 0x21D2 ∷ one "dArr" 0x21D3 ∷
    one "hArr" 0x21D4 ∷ one "forall" 0x2200 ∷ one "part" 0x2202 ∷ one "exist" 0x2203 ∷
    one "empty" 0x2205 ∷ one "nabla" 0x2207 ∷ one "isin" 0x2208 ∷ one "notin" 0x2209 ∷ one "ni" 0x220B ∷
    one "prod" 0x220F ∷ one "sum" 0x2211 ∷ one "minus" 0x2212 ∷ one "lowast" 0x2217 ∷
    one "radic" 0x221A ∷ one "prop" 0x221D ∷ one "infin" 0x221E ∷ one "ang" 0x2220 ∷ one "and" 0x2227 ∷
    one "or" 0x2228 ∷ one "cap" 0x2229 ∷ one "cup" 0x222A ∷ one "int" 0x222B ∷ one "there4" 0x2234 ∷
    one "sim" 0x223C ∷ one "cong" 0x2245 ∷ one "asymp" 0x2248 ∷ one "ne" 0x2260 ∷ one "equiv" 0x2261 ∷
    one "le" 0x2264 ∷ one "ge" 0x2265 ∷ one "sub" 0x2282 ∷ one "sup" 0x2283 ∷ one "nsub" 0x2284 ∷
    one "sube" 0x2286 ∷ one "supe" 0x2287 ∷ one "oplus" 0x2295 ∷ one "otimes" 0x2297 ∷
    one "perp" 0x22A5 ∷ one "sdot" 0x22C5 ∷ one "lceil" 0x2308 ∷ one "rceil" 0x2309 ∷
    one "lfloor" 0x230A ∷ one "rfloor" 0x230B ∷ one "loz" 0x25CA ∷ one "spades" 0x2660 ∷
    one "clubs" 0x2663 ∷ one "hearts" 0x2665 ∷ one "diams" 0x2666 ∷ one "lang" 0x27E8 ∷
    one "rang" 0x27E9 ∷ []

-- a table in the order of its names
abbrev pub placed : Reference → List Reference → List Reference
placed r [] = r ∷ []
placed r (s ∷ rs) = if is_upto r.name s.name then r ∷ s ∷ rs else s ∷ placed r rs

abbrev pub in_order : List Reference → List Reference
in_order [] = []
in_order (r ∷ rs) = placed r (in_order rs)

-- the 365 names
unfoldable pub built_in : List Reference
built_in = in_order (with_and_without (latin_1 ++ markup) ++ closed_alone (greek ++ further))
