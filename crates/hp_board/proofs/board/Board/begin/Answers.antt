-- The opening board.
use Rattle.std.proofs.Common.{arith, ◌≡◌, ◌+◌, ◌∙◌, subst, sym, length}
use Rattle.std.specs.Str.{IsUtf8}
use Rattle.hp_text.specs.Page.{text_of}
use Rattle.hp_board.proofs.Ending.{kept_opened, opening_owes}
use Rattle.hp_board.proofs.board.Board.begin.Goals as goal

pub invariant_of-board : goal.invariant_of-board
invariant_of-board c =
    let utf8 : IsUtf8 (text_of c.args.page) = subst IsUtf8 c.text-text.ensures.value c.text-text.ensures.utf8 in (
      rw (c.in_ok-slots.ensures, c.chunks.ensures, c.new.ensures.items, c.in_ok-front.ensures) (kept_opened (text_of c.args.page) c.args.cuts c.args.workers c.pages_at.ensures.start c.requires.limit utf8 c.places-places.ensures.lawful c.requires.cuts),
      rw (c.in_ok-slots.ensures, c.chunks.ensures) (sym (opening_owes (length c.args.cuts.places + 1))),
      omega (arith, c.new.ensures.len),
    )
