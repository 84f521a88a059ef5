use Rattle.std.proofs.Common.{◌≡◌, ◌+◌, ◌<◌, ◌^◌, ap, rules, subst, sym, ◌∙◌}
use Rattle.hp_control.specs.declared.change.Change.{Change}
use Rattle.hp_control.specs.States.{ControlState, IsValid}
use Rattle.hp_groves.specs.Grafts.{graft}
use Rattle.hp_pieces.specs.Guesses.{Guessed}
use Rattle.hp_merge.specs.Parts.{laid}
use Rattle.hp_merge.proofs.Counted.{counted_so, form_so, valid_behind}
use Rattle.hp_merge.proofs.Made.{made_so}
use Rattle.hp_merge.proofs.Settled.{joins_so, kept_so, next_is, older_so}
use Rattle.hp_merge.proofs.joining.joined_to.Goals as goal

pub lay-requires : goal.lay-requires
lay-requires g c =
    let guess = c.args.guess in
    let s = c.args.control in
    let valid = valid_behind c.runs_between.ensures.valid guess s c.is_sound_guess.ensures.sound c.is_sound_guess.ensures.names c.is_kept.ensures c.requires.fits c.requires.holds c.requires.covers in
    let from : c.control.inside.next ≡ c.args.control.next = ap (λ (t : ControlState). t.next) c.control.view_is in
    let top : c.args.control.next + c.args.guess.change.made < 2 ^ 64 = search rules in
    record { counted = counted_so c.change-2.result.now guess.change s c.of-parts.result.next c.change-2.ensures (ap (λ (t : ControlState). t.next) c.of-parts.ensures) valid top }

pub settle-requires-clause-form : goal.settle-requires-clause-form
settle-requires-clause-form g c =
    let guess = c.args.guess in
    let s = c.args.control in
    let valid = valid_behind c.runs_between.ensures.valid guess s c.is_sound_guess.ensures.sound c.is_sound_guess.ensures.names c.is_kept.ensures c.requires.fits c.requires.holds c.requires.covers in
    let from : c.control.inside.next ≡ c.args.control.next = ap (λ (t : ControlState). t.next) c.control.view_is in
    let top : c.args.control.next + c.args.guess.change.made < 2 ^ 64 = search rules in
    let laid_is : c.lay.new.parts ≡ laid c.args.guess.change c.of-parts.result = c.in-Ok.ensures.ok ∙ ap (λ (x : Change). laid x c.of-parts.result) c.change-2.ensures in
    form_so c.into_inner.result guess.change s c.lay.new.parts.next (c.into_inner.ensures ∙ c.in-Ok-graft_guess.ensures.change) (next_is guess.change s c.of-parts.result c.lay.new.parts c.of-parts.ensures laid_is) valid top

pub together-behind-requires : goal.together-behind-requires
together-behind-requires g c =
    let guess = c.args.guess in
    let s = c.args.control in
    let valid = valid_behind c.runs_between.ensures.valid guess s c.is_sound_guess.ensures.sound c.is_sound_guess.ensures.names c.is_kept.ensures c.requires.fits c.requires.holds c.requires.covers in
    let laid_is : c.lay.new.parts ≡ laid c.args.guess.change c.of-parts.result = c.in-Ok.ensures.ok ∙ ap (λ (x : Change). laid x c.of-parts.result) c.change-2.ensures in
    subst IsValid (sym (joins_so c.into_inner.result guess.change s c.of-parts.result c.lay.new.parts c.settle.result (c.into_inner.ensures ∙ c.in-Ok-graft_guess.ensures.change) c.of-parts.ensures laid_is c.settle.ensures)) valid

pub returns-in-Ok-graft_guess-clause-control : goal.returns-in-Ok-graft_guess-clause-control
returns-in-Ok-graft_guess-clause-control g c =
    let laid_is : c.lay.new.parts ≡ laid c.args.guess.change c.of-parts.result = c.in-Ok.ensures.ok ∙ ap (λ (x : Change). laid x c.of-parts.result) c.change-2.ensures in
    c.together-behind.ensures
    ∙ joins_so c.into_inner.result c.args.guess.change c.args.control c.of-parts.result c.lay.new.parts c.settle.result (c.into_inner.ensures ∙ c.in-Ok-graft_guess.ensures.change) c.of-parts.ensures laid_is c.settle.ensures

pub returns-in-Ok-graft_guess-clause-tree : goal.returns-in-Ok-graft_guess-clause-tree
returns-in-Ok-graft_guess-clause-tree g c =
    let guess = c.args.guess in
    let s = c.args.control in
    let laid_is : c.lay.new.parts ≡ laid c.args.guess.change c.of-parts.result = c.in-Ok.ensures.ok ∙ ap (λ (x : Change). laid x c.of-parts.result) c.change-2.ensures in
    let grafted : c.graft_guess.new.tree.branches ≡ graft c.args.tree.now.branches c.args.guess.grove = search rules in
    made_so s (graft c.args.tree.now.branches guess.grove) c.graft_guess.new.tree.branches c.make_over-outer.new.tree.branches guess.outer c.in-Ok-graft_guess.edits _ c.lay.new.parts.next
    grafted c.in-Ok-graft_guess.ensures.outer
    (older_so c.deref.result.now guess.change s c.of-parts.result c.lay.new.parts c.len-above.result (c.deref.ensures ∙ c.in-Ok-graft_guess.ensures.change) c.len-above.ensures c.of-parts.ensures laid_is)
    (next_is guess.change s c.of-parts.result c.lay.new.parts c.of-parts.ensures laid_is)
    c.make_over-outer.ensures.tree

pub together-requires-in-Err : goal.together-requires-in-Err
together-requires-in-Err g c =
    let laid_is : c.lay.new.parts ≡ laid c.args.guess.change c.of-parts.result = c.in-Ok.ensures.ok ∙ ap (λ (x : Change). laid x c.of-parts.result) c.change-2.ensures in
    let same : c.change-in-Err.result.now ≡ c.args.guess.change = c.change-in-Err.ensures ∙ ap (λ (f : Guessed). f.change) c.in-Err.ensures.back in
    subst IsValid (sym (kept_so c.change-in-Err.result.now c.args.guess.change c.args.control c.of-parts.result c.lay.new.parts c.take_off.new.parts same c.of-parts.ensures laid_is c.take_off.ensures)) c.is_kept.ensures
