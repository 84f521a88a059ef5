-- The bytes between the two places.
use Rattle.std.proofs.Common.{◌≡◌, ◌∙◌, ap, ℕ, List}
use Rattle.std.specs.Prelude.{slice_range}
use Rattle.hp_board.specs.Desk.{rest_start}
use Rattle.hp_board.proofs.board.Board.rest_text.Goals as goal

pub returns : goal.returns
returns c =
    let desk = c.args.self.now in
    let chunk = c.rest.result in
    c.text.ensures.value
    ∙ (ap (λ (text : List ℕ). slice_range text chunk.from chunk.to) c.rest.ensures.page
    ∙ (ap (λ (from : ℕ). slice_range desk.text from chunk.to) c.rest.ensures.from
    ∙ ap (λ (to : ℕ). slice_range desk.text (rest_start desk c.args.number) to) c.rest.ensures.to))
