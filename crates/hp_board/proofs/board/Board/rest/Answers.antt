-- What is left of a chunk is one.
use Rattle.std.proofs.Common.{arith, ◌≡◌, ◌+◌, ◌<◌, ◌≤◌, ◌∙◌, ap, subst, sym, length}
use Rattle.std.specs.Str.{IsCharBoundary}
use Rattle.hp_text.specs.Page.{text_of}
use Rattle.hp_text.specs.declared.pages.Page.{Page}
use Rattle.hp_board.specs.Desk.{Desk, IsKept, rest_start}
use Rattle.hp_board.specs.Machine.{end_of}
use Rattle.hp_board.proofs.Rests.{rest-behind, rest-place}
use Rattle.hp_board.proofs.board.Board.rest.Goals as goal

pub chunk-chunk-requires-clause-cuts_of_page : goal.chunk-chunk-requires-clause-cuts_of_page
chunk-chunk-requires-clause-cuts_of_page c = c.self.invariant.0.of_text

pub chunk-chunk-requires-clause-number_below_chunks : goal.chunk-chunk-requires-clause-number_below_chunks
chunk-chunk-requires-clause-number_below_chunks c =
    let within = subst (λ (d : Desk). c.args.number < length d.slots) (sym c.self.view_is) c.requires.within in
    omega (arith, within, c.self.invariant.0.count)

pub invariant_of-result : goal.invariant_of-result
invariant_of-result c =
    let v = c.self.view_is in
    let kept = c.self.invariant.0 in
    let within = subst (λ (d : Desk). c.args.number < length d.slots) (sym v) c.requires.within in
    let undone = subst (λ (d : Desk). d.done ≤ c.args.number) (sym v) c.requires.undone in
    record {
      in_order = omega (arith, c.max-from.ensures, c.chunk-chunk.result.in_order, c.chunk-chunk.ensures.to, rest-behind _ c.args.number kept within undone);
      starts_at_code_point = subst (IsCharBoundary (text_of c.self.inside.page)) (omega (arith, c.max-from.ensures, c.chunk-chunk.ensures.from)) (rest-place _ c.args.number kept within);
      ends_at_code_point = subst (λ (p : Page). IsCharBoundary (text_of p) c.chunk-chunk.result.to) c.chunk-chunk.ensures.page c.chunk-chunk.result.ends_at_code_point;
    }
