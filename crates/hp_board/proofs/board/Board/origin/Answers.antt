-- The chunk whose origin it is.
use Rattle.std.proofs.Common.{arith, ◌≡◌, ◌<◌, ◌∙◌, ap, subst, sym, length, ℕ}
use Rattle.std.specs.Prelude.{slice_range, take}
use Rattle.hp_text.specs.Page.{text_of}
use Rattle.hp_text.specs.declared.pages.Page.{Page}
use Rattle.hp_board.specs.Desk.{Desk, origin_in}
use Rattle.hp_board.specs.Machine.{end_of, start_of}
use Rattle.hp_board.specs.Origins.{origin_of}
use Rattle.hp_board.proofs.board.Board.origin.Goals as goal

pub chunk-chunk-requires-clause-cuts_of_page : goal.chunk-chunk-requires-clause-cuts_of_page
chunk-chunk-requires-clause-cuts_of_page c = c.self.invariant.0.of_text

pub chunk-chunk-requires-clause-number_below_chunks : goal.chunk-chunk-requires-clause-number_below_chunks
chunk-chunk-requires-clause-number_below_chunks c =
    let within = subst (λ (d : Desk). c.args.number < length d.slots) (sym c.self.view_is) c.requires in
    omega (arith, within, c.self.invariant.0.count)

pub returns : goal.returns
returns c =
    let f = c.args.fragment.now in
    let chunk = c.chunk-chunk.result in
    let cuts = c.self.inside.cuts in
    let text = text_of c.self.inside.page in
    subst (λ (d : Desk). c.origin_of.result ≡ origin_in d c.args.number f) c.self.view_is
    (c.origin_of.ensures
    ∙ (ap (λ (p : Page). origin_of f (take chunk.from (text_of p)) (slice_range (text_of p) chunk.from chunk.to)) c.chunk-chunk.ensures.page
    ∙ (ap (λ (from : ℕ). origin_of f (take from text) (slice_range text from chunk.to)) c.chunk-chunk.ensures.from
    ∙ ap (λ (to : ℕ). origin_of f (take (start_of cuts c.args.number) text) (slice_range text (start_of cuts c.args.number) to)) c.chunk-chunk.ensures.to)))
