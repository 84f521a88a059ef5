-- Pieces that are printed one after the other.
use Rattle.std.proofs.Common.{◌≡◌, ℕ, ◌<◌, ◌≤◌, List, [], ◌+◌, ◌++◌, length, take, refl, subst, sym, ap, ◌∙◌, append_assoc, append-nil, length-append, arith, Option, None, Some}
use Rattle.std.specs.Prelude.{Ok, Err}
use Rattle.std.proofs.lemmas.List.{take-append-le}
use Rattle.std.proofs.Math.Seq.{take-append-add}
use Rattle.std.specs.Io.KnownBytes.{append_known}
use Rattle.hp_text.specs.Device.{Rose}
use Rattle.hp_print.specs.declared.output.Out.{Out}
use Rattle.hp_print.specs.declared.output.Out.TheVariants.{Gathered, Failed}
use Rattle.hp_print.specs.Out.{Broke, Finished, Prints, Sight, Starts, TakesFirst, Waits, counted}

sym_assoc : (x y z : List ℕ) → x ++ (y ++ z) ≡ (x ++ y) ++ z
sym_assoc x y z = sym (append_assoc x y z)

-- two pieces are one
pub prints_then : (a b c : Out) (s t u : Sight) (x y : List ℕ) → Prints a b s t x → Prints b c t u y → Prints a c s u (x ++ y)
prints_then a b c s t u x y first second = record { after = λ start bytes has. rw (sym_assoc bytes x y) (second.after start (bytes ++ x) (first.after start bytes has)) }

-- nothing is printed
pub prints_none : (a : Out) (s : Sight) → Prints a a s s []
prints_none a s = record { after = λ start bytes has. rw append-nil has }

-- the piece by another form of it
pub prints_as : (a b : Out) (s t : Sight) (x y : List ℕ) → Prints a b s t x → x ≡ y → Prints a b s t y
prints_as a b s t x y prints e = subst (λ z. Prints a b s t z) e prints

-- what a sink took at two calls
append_known-append : (known : Option (List ℕ)) (xs ys : List ℕ) → append_known (append_known known xs) ys ≡ append_known known (xs ++ ys)
append_known-append None xs ys = refl
append_known-append (Some bs) xs ys = ap Some (append_assoc bs xs ys)

append_known-nil : (known : Option (List ℕ)) → append_known known [] ≡ known
append_known-nil None = refl
append_known-nil (Some bs) = ap Some (append-nil bs)

-- a count that stands still at its end counts on as if it didn't
counted_on : (written count a b : ℕ) → written ≡ counted a → count ≡ counted (written + b) → count ≡ counted (a + b)
counted_on written count a b e f = omega arith

-- at first nothing is gathered
pub starts : (new : List ℕ) (written : ℕ) → new ≡ [] → written ≡ 0 → Starts (Gathered new written)
starts new written empty none = λ start. record { gone = []; taken = sym (append_known-nil start.0); whole = empty; count = none; faults = refl }

-- more is gathered
pub gathers : (old new : List ℕ) (written : ℕ) (s : Sight) (piece : List ℕ) → new ≡ old ++ piece → Prints (Gathered old written) (Gathered new written) s s piece
gathers old new written s piece is = record {
  after = λ start bytes waits. record {
    gone = waits.gone;
    taken = waits.taken;
    whole = ap (λ xs. waits.gone ++ xs) is ∙ sym_assoc waits.gone old piece ∙ ap (λ xs. xs ++ piece) waits.whole;
    count = waits.count;
    faults = waits.faults;
  };
}

-- after a failure nothing more is taken
part_more : (taken : ℕ) (text piece : List ℕ) (old new : Option (List ℕ)) → TakesFirst taken text old new → TakesFirst taken (text ++ piece) old new
part_more taken text piece old new first =
    let n = first.part.0 in
    let less : n < length text = first.part.1 in
    let within : n ≤ length text = omega arith in
    record {
      part = (n, omega (arith, length-append text piece), first.part.2 ∙ ap (append_known old) (sym (take-append-le n text piece within)));
      count = first.count;
    }

pub failed : (taken : ℕ) (s : Sight) (piece : List ℕ) → Prints (Failed taken) (Failed taken) s s piece
failed taken s piece = record { after = λ start bytes broke. record { part = part_more taken bytes piece start.0 s.0 broke.part; rose = broke.rose } }

-- a write took these bytes behind what was taken before
took_all : (start s t : Sight) (gone more : List ℕ) → s.0 ≡ append_known start.0 gone → t.0 ≡ append_known s.0 more → t.0 ≡ append_known start.0 (gone ++ more)
took_all start s t gone more first next = next ∙ ap (λ k. append_known k more) first ∙ append_known-append start.0 gone more

-- a write failed behind what was taken before
broke_at : (start s t : Sight) (gone more whole : List ℕ) (written taken n : ℕ) → s.0 ≡ append_known start.0 gone → s.1 ≡ start.1 → gone ++ more ≡ whole
    → written ≡ counted (length gone) → n < length more → t.0 ≡ append_known s.0 (take n more) → taken ≡ counted (written + n) → Rose s.1 t.1 → Broke start t taken whole
broke_at start s t gone more whole written taken n first same is before less took count rose =
    let total : length whole ≡ length gone + length more = ap length (sym is) ∙ length-append gone more in
    record {
      part = record {
        part = (length gone + n, omega arith, took_all start s t gone (take n more) first took ∙ ap (append_known start.0) (sym (take-append-add gone more n) ∙ ap (take (length gone + n)) is));
        count = counted_on written taken (length gone) n before count;
      };
      rose = subst (λ count. Rose count t.1) same rose;
    }

-- what was gathered is written
pub flushed : (old new : List ℕ) (written more : ℕ) (s t : Sight) → t.0 ≡ append_known s.0 old → t.1 ≡ s.1 → new ≡ [] → more ≡ counted (written + length old)
    → Prints (Gathered old written) (Gathered new more) s t []
flushed old new written more s t took same empty count = record {
  after = λ start bytes waits. record {
    gone = waits.gone ++ old;
    taken = took_all start s t waits.gone old waits.taken took;
    whole = ap (λ xs. (waits.gone ++ old) ++ xs) empty ∙ append-nil (waits.gone ++ old) ∙ waits.whole ∙ sym (append-nil bytes);
    count = counted_on written more (length waits.gone) (length old) waits.count count ∙ ap counted (sym (length-append waits.gone old));
    faults = same ∙ waits.faults;
  };
}

-- or not all of it
pub broke : (old : List ℕ) (written taken : ℕ) (s t : Sight) (n : ℕ) → n < length old → t.0 ≡ append_known s.0 (take n old) → taken ≡ counted (written + n) → Rose s.1 t.1
    → Prints (Gathered old written) (Failed taken) s t []
broke old written taken s t n less took count rose = record {
  after = λ start bytes waits. broke_at start s t waits.gone old (bytes ++ []) written taken n waits.taken waits.faults (waits.whole ∙ sym (append-nil bytes)) waits.count less took count rose;
}

-- where nothing is gathered, all was taken
all_gone : (gone gathered bytes : List ℕ) → gathered ≡ [] → gone ++ gathered ≡ bytes → gone ≡ bytes
all_gone gone gathered bytes empty whole = sym (append-nil gone) ∙ ap (λ xs. gone ++ xs) (sym empty) ∙ whole

-- a piece is written where nothing is gathered
pub wrote_past : (old : List ℕ) (written more : ℕ) (s t : Sight) (piece : List ℕ) → old ≡ [] → t.0 ≡ append_known s.0 piece → t.1 ≡ s.1 → more ≡ counted (written + length piece)
    → Prints (Gathered old written) (Gathered old more) s t piece
wrote_past old written more s t piece empty took same count = record {
  after = λ start bytes waits. record {
    gone = waits.gone ++ piece;
    taken = took_all start s t waits.gone piece waits.taken took;
    whole = ap (λ xs. (waits.gone ++ piece) ++ xs) empty ∙ append-nil (waits.gone ++ piece) ∙ ap (λ xs. xs ++ piece) (all_gone waits.gone old bytes empty waits.whole);
    count = counted_on written more (length waits.gone) (length piece) waits.count count ∙ ap counted (sym (length-append waits.gone piece));
    faults = same ∙ waits.faults;
  };
}

-- or not all of it
pub broke_past : (old : List ℕ) (written taken : ℕ) (s t : Sight) (piece : List ℕ) (n : ℕ) → old ≡ [] → n < length piece → t.0 ≡ append_known s.0 (take n piece)
    → taken ≡ counted (written + n) → Rose s.1 t.1 → Prints (Gathered old written) (Failed taken) s t piece
broke_past old written taken s t piece n empty less took count rose = record {
  after = λ start bytes waits. broke_at start s t waits.gone piece (bytes ++ piece) written taken n waits.taken waits.faults (ap (λ xs. xs ++ piece) (all_gone waits.gone old bytes empty waits.whole)) waits.count less took count rose;
}

-- the end
pub finished_whole : (old : Out) (new : List ℕ) (written : ℕ) (s t : Sight) → Prints old (Gathered new written) s t [] → new ≡ [] → Finished old (Ok tt) s t
finished_whole old new written s t prints empty = record {
  outcome = λ start bytes has.
      let waits : Waits start t new written (bytes ++ []) = prints.after start bytes has in
      waits.taken ∙ ap (append_known start.0) (all_gone waits.gone new (bytes ++ []) empty waits.whole ∙ append-nil bytes);
}

pub finished_part : (old : Out) (taken : ℕ) (s t : Sight) → Prints old (Failed taken) s t [] → Finished old (Err (record { taken = taken })) s t
finished_part old taken s t prints = record { outcome = λ start bytes has. subst (λ xs. Broke start t taken xs) (append-nil bytes) (prints.after start bytes has) }
