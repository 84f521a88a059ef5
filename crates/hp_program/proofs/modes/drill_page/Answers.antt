use Rattle.std.proofs.Common.{◌++◌, ◌≡◌, ◌∙◌, List, [], ℕ, ap}
use Rattle.hp_cut.specs.declared.choice.Cutter.TheVariants.{AtTags, BySize}
use Rattle.hp_text.specs.Page.{text_of}
use Rattle.hp_program.proofs.Drilled.{lines_by, three}
use Rattle.hp_program.proofs.modes.drill_page.Goals as goal

pub returns : goal.returns
returns g c =
    let text = text_of c.args.page in
    let sizes = c.in_ok-append_sizes.ensures in
    let first = c.in_ok-append_lines.ensures in
    let second = c.in_ok-append_lines-2.ensures in
    let none : c.new-text.result.items ≡ [] = c.new-text.ensures.items in
    record {
      sizes = sizes.0;
      by_size = first.0;
      at_tags = second.0;
      are_sizes = sizes.1;
      are_by_size = lines_by _ BySize text c.args.asked.chunk _ _ _ _ _ c.in_ok-by_size.ensures.places c.in_ok-by_size.ensures.of_page first.1;
      are_at_tags = lines_by _ AtTags text c.args.asked.chunk _ _ _ _ _ c.in_ok-at_tags.ensures.places c.in_ok-at_tags.ensures.of_page second.1;
      all = three [] _ _ _ sizes.0 first.0 second.0 (sizes.2 ∙ ap (λ (old : List ℕ). old ++ sizes.0) none) first.2 second.2;
    }
