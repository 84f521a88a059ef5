-- What a cursor has still to read.
use Rattle.std.specs.Prelude.{◌≡◌, ℕ, ◌+◌, ◌<◌, ◌≤◌, ◌^◌, ◌++◌, ◌==◌, ◌&&◌, MatchOption, IfSome, nat_lt, true, false, sum_by, length, drop, take, slice_index, List, [], ◌∷◌, Option, None, Some, Bool}
use Rattle.std.specs.List.{list_all}
use Rattle.std.specs.Char.{len_utf8, encode_utf8, is_ascii_alphabetic}
use Rattle.std.specs.Str.{IsUtf8, IsCharBoundary}

-- the unread code points, and the place of the first, in bytes
pub record Unread : Type 0 where
  pub place : ℕ
  pub text : List ℕ

abbrev pub first : List ℕ → Option ℕ
first [] = None
first (c ∷ cs) = Some c

-- old begins with c, and new is what follows it
pub record Reads (old : Unread) (c : ℕ) (new : Unread) : Type 0 where
  pub text : old.text ≡ c ∷ new.text
  pub place : new.place ≡ old.place + len_utf8 c

-- old begins with this run of code points that pass the test, and new is what follows it
pub record ReadsRun (test : ℕ → Bool) (old : Unread) (run : List ℕ) (new : Unread) : Type 0 where
  pub text : old.text ≡ run ++ new.text
  pub place : new.place ≡ old.place + sum_by len_utf8 run
  pub passes : list_all test run ≡ true

-- a cursor stands at the start of a code point of a text, or at its end
pub record IsAt (text : List ℕ) (at : ℕ) : Type 0 where
  pub utf8 : IsUtf8 text
  pub rest : IsUtf8 (drop at text)
  pub boundary : IsCharBoundary text at
  pub fits : length text < 2 ^ 63

-- count bytes from at on pass, and there the text ends, or a byte that does not
pub record PassesFrom (test : ℕ → Bool) (text : List ℕ) (at count : ℕ) : Type 0 where
  pub within : count ≤ length (drop at text)
  pub passes : list_all test (take count (drop at text)) ≡ true
  pub end : count < length (drop at text) → test (slice_index (drop at text) count) ≡ false

-- the next code point, if there is one, does not pass the test: a run before it is as long as it can be
abbrev pub StopsRun : (ℕ → Bool) → Unread → Type 0
StopsRun test u = IfSome (first u.text) (λ c. test c ≡ false)

-- a run of code points that pass the test was taken, which may be empty
pub record SkipsRun (test : ℕ → Bool) (old new : Unread) (some : Bool) : Type 0 where
  pub run : List ℕ
  pub reads : ReadsRun test old run new
  pub says : some ≡ nat_lt 0 (length run)

-- the first byte of a text: the first of its first code point's UTF-8, which is the code point where that is ASCII
pub record FrontIs (text : List ℕ) (byte : ℕ) : Type 0 where
  pub c : ℕ
  pub first : first text ≡ Some c
  pub ascii : byte < 128 → byte ≡ c
  pub other : 128 ≤ byte → 128 ≤ c
  pub leads : slice_index (encode_utf8 c) 0 ≡ byte

abbrev pub IsFront : List ℕ → Option ℕ → Type 0
IsFront text front = MatchOption front (text ≡ []) (FrontIs text)

-- `<` and a letter
abbrev pub opens_start_tag : List ℕ → Bool
opens_start_tag (a ∷ b ∷ cs) = a == 60 && is_ascii_alphabetic b
opens_start_tag _ = false

-- `<`, `/` and a letter
abbrev pub opens_end_tag : List ℕ → Bool
opens_end_tag (a ∷ b ∷ c ∷ cs) = a == 60 && b == 47 && is_ascii_alphabetic c
opens_end_tag _ = false

-- a CR LF pair
abbrev pub begins_with_pair : List ℕ → Bool
begins_with_pair (a ∷ b ∷ cs) = a == 13 && b == 10
begins_with_pair _ = false

-- the CR of a pair was taken, where the text begins with one
pub record SkipsPairCr (old new : Unread) : Type 0 where
  pub taken : begins_with_pair old.text ≡ true → Reads old 13 new
  pub left : begins_with_pair old.text ≡ false → new ≡ old

-- so many code points come first that are ASCII
pub record IsAsciiFront (count : ℕ) (text : List ℕ) : Type 0 where
  pub within : count ≤ length text
  pub ascii : list_all (λ c. nat_lt c 128) (take count text) ≡ true

-- so many code points were taken, which are ASCII
pub record ReadsAscii (count : ℕ) (old new : Unread) : Type 0 where
  pub text : new.text ≡ drop count old.text
  pub place : new.place ≡ old.place + count
