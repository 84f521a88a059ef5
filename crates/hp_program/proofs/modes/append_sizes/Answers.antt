use Rattle.std.proofs.Common.{◌++◌, ◌∙◌, ℕ, ap, codes, length, refl}
use Rattle.hp_program.specs.Modes.{length_line}
use Rattle.hp_program.proofs.Drilled.{on_ok, two}
use Rattle.hp_program.proofs.modes.append_sizes.Goals as goal

pub returns : goal.returns
returns c =
    let printed = c.in_ok-printed.ensures in
    on_ok c.append_length-2.result _ _ (λ second. (
      _,
      record {
        tree = printed.0;
        is_tree = printed.1;
        all = refl;
      },
      two _ _ _ _ _ (c.in_ok-append_length.ensures ∙ ap (λ (n : ℕ). c.args.text.now.items ++ length_line (codes "page: ") n) (ap length c.text.ensures.value))
          (second ∙ ap (λ (n : ℕ). c.append_length.new.text.items ++ length_line (codes "tree: ") n) printed.2),
    )) c.append_length-2.ensures
