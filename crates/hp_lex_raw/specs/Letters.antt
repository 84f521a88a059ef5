-- The code points that the rows of raw text and script data name.
use Rattle.std.specs.Prelude.{ℕ}

abbrev pub exclamation : ℕ
exclamation = 0x21

abbrev pub ampersand : ℕ
ampersand = 0x26

abbrev pub hyphen : ℕ
hyphen = 0x2D

abbrev pub solidus : ℕ
solidus = 0x2F

abbrev pub less_than : ℕ
less_than = 0x3C

abbrev pub greater_than : ℕ
greater_than = 0x3E
