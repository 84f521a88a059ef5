-- The code points that the rows of text, tags and references name.
use Rattle.std.specs.Prelude.{ℕ, ◌==◌, ◌||◌, Bool}

abbrev pub quotation_mark : ℕ
quotation_mark = 0x22

abbrev pub number_sign : ℕ
number_sign = 0x23

abbrev pub ampersand : ℕ
ampersand = 0x26

abbrev pub apostrophe : ℕ
apostrophe = 0x27

abbrev pub solidus : ℕ
solidus = 0x2F

abbrev pub semicolon : ℕ
semicolon = 0x3B

abbrev pub less_than : ℕ
less_than = 0x3C

abbrev pub equals : ℕ
equals = 0x3D

abbrev pub greater_than : ℕ
greater_than = 0x3E

abbrev pub exclamation : ℕ
exclamation = 0x21

abbrev pub question : ℕ
question = 0x3F

abbrev pub is_x : ℕ → Bool
is_x c = c == 0x78 || c == 0x58
