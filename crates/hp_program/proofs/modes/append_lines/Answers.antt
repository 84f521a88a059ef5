use Rattle.std.proofs.Common.{◌++◌, refl}
use Rattle.hp_program.proofs.Drilled.{on_ok, three}
use Rattle.hp_program.proofs.modes.append_lines.Goals as goal

pub returns : goal.returns
returns g c =
    let first = c.in_ok-append_line.ensures in
    let second = c.in_ok-append_line-2.ensures in
    on_ok c.append_line-3.result _ _ (λ third. (
      first.0 ++ (second.0 ++ third.0),
      record {
        quiet = first.0;
        prescan = second.0;
        contrary = third.0;
        by_quiet = first.1;
        by_prescan = second.1;
        by_contrary = third.1;
        all = refl;
      },
      three _ _ _ _ first.0 second.0 third.0 first.2 second.2 third.2,
    )) c.append_line-3.ensures
