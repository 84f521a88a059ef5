use Rattle.std.proofs.Common.{◌≡◌, ℕ, List, ap, sym, subst, ◌∙◌}
use Rattle.std.specs.Str.{chars}
use Rattle.std.proofs.lemmas.Str.{chars-IsAscii, IsUtf8-from_ascii}
use Rattle.hp_elements.specs.Names.{lowered}
use Rattle.hp_elements.proofs.TextLemmas.{if_ok}
use Rattle.hp_predict.specs.Spelling.{spelled, IsSpelled}
use Rattle.hp_predict.proofs.name.TagName.to_name.Goals as goal

pub from_utf8_unchecked-requires : goal.from_utf8_unchecked-requires
from_utf8_unchecked-requires c =
    let held = subst IsSpelled c.in-Other.is c.self.invariant in
    IsUtf8-from_ascii c.in-Other.text.now held.1

pub returns-in-Other : goal.returns-in-Other
returns-in-Other c =
    let held = subst IsSpelled c.in-Other.is c.self.invariant in
    let e : lowered (chars c.from_utf8_unchecked.result.now) ≡ c.args.self.now =
    ap (λ (xs : List ℕ). lowered (chars xs)) c.from_utf8_unchecked.ensures
    ∙ (ap lowered (chars-IsAscii c.in-Other.text.now held.1) ∙ (sym (ap spelled c.in-Other.is) ∙ c.self.view_is)) in
    if_ok (λ (name : List ℕ). name ≡ lowered (chars c.from_utf8_unchecked.result.now)) (λ (name : List ℕ). name ≡ c.args.self.now) c.from_lowered.result c.from_lowered.ensures (λ name h. h ∙ e)
