use Rattle.std.proofs.Common.{◌≡◌, ℕ, ◌-◌, Bool, List, ◌++◌, Option, None, Some, length, take, ap, sym, ◌∙◌, rules, arith}
use Rattle.std.specs.Prelude.{is_some}
use Rattle.std.specs.Io.KnownBytes.{append_known, Appends, Keeps}
use Rattle.std.proofs.lemmas.List.{take_all}
use Rattle.hp_text.specs.Streams.{SinkStream, without_last}
use Rattle.hp_text.proofs.streams.StreamSink.pass_on.Goals as goal

none_left : (u : ℕ) (xs : List ℕ) → u ≡ 0 → take (length xs - u) xs ≡ xs
none_left u xs z = take_all (length xs - u) xs (omega arith)

-- a write and a flush, where all before them was flushed
took_all : (tells : Bool) (u : ℕ) (before written flushed now : Option (List ℕ)) (bs : List ℕ) → u ≡ 0 → without_last u before ≡ now → is_some before ≡ tells → is_some written ≡ tells
    → is_some flushed ≡ tells → Appends before written bs → Keeps written flushed → without_last u flushed ≡ append_known now bs
took_all tells u None None None now bs z v p q r a k = ap (λ (known : Option (List ℕ)). append_known known bs) v
took_all tells u None None (Some zs) now bs z v p q r a k = absurd (cc)
took_all tells u None (Some ys) None now bs z v p q r a k = absurd (cc)
took_all tells u None (Some ys) (Some zs) now bs z v p q r a k = absurd (cc)
took_all tells u (Some xs) None None now bs z v p q r a k = absurd a
took_all tells u (Some xs) None (Some zs) now bs z v p q r a k = absurd a
took_all tells u (Some xs) (Some ys) None now bs z v p q r a k = absurd k
took_all tells u (Some xs) (Some ys) (Some zs) now bs z v p q r a k =
    ap (λ (l : List ℕ). Some l) (none_left u zs z ∙ (k ∙ (a ∙ ap (λ (l : List ℕ). l ++ bs) (sym (none_left u xs z)))))
    ∙ ap (λ (known : Option (List ℕ)). append_known known bs) v

pub returns-clause-took : goal.returns-clause-took
returns-clause-took g c =
    let appended : Appends (g.W.Write.contents c.self.inside.writer) (g.W.Write.contents c.write.new.self) (take c.in_ok-taken.taken c.args.piece.now) = search rules in
    took_all g.W.TellingWrite.tells c.self.inside.unflushed _ _ _ c.args.self.now.bytes (take c.in_ok-taken.taken c.args.piece.now) (omega arith)
    (ap (λ (s : SinkStream). s.bytes) c.self.view_is) (g.met.W.TellingWrite.always c.self.inside.writer) (g.met.W.TellingWrite.always c.write.new.self)
    (g.met.W.TellingWrite.always c.flush_told.new.self) appended c.flush_told.ensures.kept
