-- Each setting keeps its ranges.
use Rattle.std.proofs.Common.{◌≡◌, refl, ℕ, ◌<◌, Bool, true, false, cond, List, Option, None, Some, arith}
use Rattle.std.specs.List.{All, slice_split}
use Rattle.std.specs.Option.{IfSome}
use Rattle.hp_words.specs.Numbers.{from, number, number_or, places_in}
use Rattle.hp_words.specs.Options.{Values, found}
use Rattle.hp_words.specs.Settings.{asks_for_page_alone, bytes_of, chunk_of, cutting_of, drill_of, form_of, guess_of, has_separator, make_of, page_of, seed_of, setting_of, settings, workers_of}
use Rattle.hp_words.specs.Within.{IsBetween, IsCuttingWithin, IsWithin}
use Rattle.hp_words.proofs.NumberLemmas.{all_present-all, number_within}
use Rattle.std.specs.Prelude.{is_some, ◌||◌, ◌==◌}
use Rattle.std.specs.Option.{option_map}
use Rattle.hp_words.specs.Settings.{setting_by}
use Rattle.hp_words.specs.declared.setting.CutSetting.TheVariants.{AtTags, Listed}

-- what a value keeps goes on to what is made of it
from_within : {A B : Type 0} (P : A → Type 0) (Q : B → Type 0) (value : Option A) (next : A → Option B) → IfSome value P → ((x : A) → P x → IfSome (next x) Q) → IfSome (from value next) Q
from_within P Q None next known more = tt
from_within P Q (Some x) next known more = more x known

-- the same of any value
from_any : {A B : Type 0} (Q : B → Type 0) (value : Option A) (next : A → Option B) → ((x : A) → IfSome (next x) Q) → IfSome (from value next) Q
from_any Q None next more = tt
from_any Q (Some x) next more = more x

unless : {B : Type 0} (Q : B → Type 0) (refused : Bool) (value : Option B) → IfSome value Q → IfSome (cond refused None value) Q
unless Q true value known = tt
unless Q false value known = known

number_or_within : (default low high : ℕ) (value : Option (List ℕ)) → IsBetween low high default → IfSome (number_or default low high value) (IsBetween low high)
number_or_within default low high None known = known
number_or_within default low high (Some text) known = number_within low high text

workers_within : (value : Option (List ℕ)) → IfSome (workers_of value) (IsBetween 1 64)
workers_within value = number_or_within 4 1 64 value (record { least = omega arith; most = omega arith })

chunk_within : (value : Option (List ℕ)) → IfSome (chunk_of value) (IsBetween 64 16777216)
chunk_within value = number_or_within 65536 64 16777216 value (record { least = omega arith; most = omega arith })

below : (text : List ℕ) (place : Option ℕ) → IfSome place (IsBetween 0 4294967295) → IfSome place (λ place. place < 4294967296)
below text None known = tt
below text (Some place) known = omega (arith, known.most)

places_within : (text : List ℕ) → IfSome (places_in text) (All (λ place. place < 4294967296))
places_within text =
    all_present-all (number 0 4294967295) (λ place. place < 4294967296) (λ piece. below piece _ (number_within 0 4294967295 piece)) (slice_split (λ byte. byte == 44) text)

sized : (size : Option ℕ) → IfSome size (IsBetween 64 16777216) → IfSome (option_map AtTags size) IsCuttingWithin
sized None known = tt
sized (Some size) known = known

listed : (places : Option (List ℕ)) → IfSome places (All (λ place. place < 4294967296)) → IfSome (option_map Listed places) IsCuttingWithin
listed None known = tt
listed (Some places) known = known

cutting_within : (cuts chunk : Option (List ℕ)) → IfSome (cutting_of cuts chunk) IsCuttingWithin
cutting_within None chunk = sized (chunk_of chunk) (chunk_within chunk)
cutting_within (Some cuts) None = listed (places_in cuts) (places_within cuts)
cutting_within (Some cuts) (Some chunk) = tt

page_within : (values : Values) → IfSome (page_of values) IsWithin
page_within values =
    from_within (IsBetween 1 64) IsWithin (workers_of values.workers) _ (workers_within values.workers) (λ workers in_range.
    from_any IsWithin (guess_of values.guess) _ (λ guess.
    from_within IsCuttingWithin IsWithin (cutting_of values.cuts values.chunk) _ (cutting_within values.cuts values.chunk) (λ cutting kept.
    from_any IsWithin (form_of values.html values.select) _ (λ form.
    record { workers = in_range; cutting = kept }))))

make_within : (seed bytes : List ℕ) (values : Values) → IfSome (make_of seed bytes values) IsWithin
make_within seed bytes values =
    unless IsWithin (asks_for_page_alone values || is_some values.workers || is_some values.chunk) _
    (from_any IsWithin (seed_of seed) _ (λ seed. from_within (IsBetween 1 16777216) IsWithin (bytes_of bytes) _ (number_within 1 16777216 bytes) (λ bytes known. known)))

drill_within : (seed bytes : List ℕ) (values : Values) → IfSome (drill_of seed bytes values) IsWithin
drill_within seed bytes values =
    unless IsWithin (asks_for_page_alone values) _
    (from_any IsWithin (seed_of seed) _ (λ seed. from_within (IsBetween 1 16777216) IsWithin (bytes_of bytes) _ (number_within 1 16777216 bytes) (λ bytes made.
    from_within (IsBetween 1 64) IsWithin (workers_of values.workers) _ (workers_within values.workers) (λ workers asked.
    from_within (IsBetween 64 16777216) IsWithin (chunk_of values.chunk) _ (chunk_within values.chunk) (λ chunk size.
    record { bytes = made; workers = asked; chunk = size })))))

by_mode : (make drill bytes : Option (List ℕ)) (values : Values) → IfSome (setting_by make drill bytes values) IsWithin
by_mode None None None values = page_within values
by_mode (Some seed) None (Some bytes) values = make_within seed bytes values
by_mode None (Some seed) (Some bytes) values = drill_within seed bytes values
by_mode None None (Some bytes) values = tt
by_mode (Some seed) None None values = tt
by_mode None (Some seed) None values = tt
by_mode (Some make) (Some drill) bytes values = tt

-- each number of what the words ask for lies in its range
pub settings_within : (words : List (List ℕ)) → IfSome (settings words) IsWithin
unfolding settings
settings_within words =
    unless IsWithin (has_separator words) _ (from_any IsWithin (found words) setting_of (λ values. by_mode values.make values.drill values.bytes values))

pub settings_separator : (words : List (List ℕ)) → has_separator words ≡ true → None ≡ settings words
unfolding settings
settings_separator words there = rw there refl

pub settings_found : (words : List (List ℕ)) (values : Option Values) → has_separator words ≡ false → values ≡ found words → from values setting_of ≡ settings words
unfolding settings
settings_found words values absent is = rw (absent, is) refl
