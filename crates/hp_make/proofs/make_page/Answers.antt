use Rattle.std.proofs.Common.{List, ℕ, arith, sym, subst, vec_len}
use Rattle.std.specs.Prelude.{IsAscii}
use Rattle.hp_make.proofs.AsciiLemmas.{page-ascii}
use Rattle.hp_make.specs.Pages.{IsPage}
use Rattle.hp_make.proofs.PageLemmas.{turn, finish, page_of-IsPage}
use Rattle.hp_make.proofs.make_page.Goals as goal

pub returns-then-piece-size-clause-exact : goal.returns-then-piece-size-clause-exact
returns-then-piece-size-clause-exact c =
    finish c.loop-piece.page.items _ c.piece-piece.result.now c.args.bytes (vec_len c.loop-piece.page) c.loop-piece.number c.next-number.result _
    c.next-number.ensures c.piece-piece.ensures.exact (omega arith) (omega arith) c.loop-piece.invariant.so_far c.in_ok-resize-2.ensures.items

pub returns-then-piece-size-clause-law : goal.returns-then-piece-size-clause-law
returns-then-piece-size-clause-law c = λ h.
    let P : List ℕ → Type 0 = λ x. IsPage c.args.seed c.args.bytes x in
    subst P (sym (returns-then-piece-size-clause-exact c)) (page_of-IsPage c.args.seed c.args.bytes h)

pub loop-piece-preserved : goal.loop-piece-preserved
loop-piece-preserved c = record {
  fits = omega (arith, c.in_ok-extend_from_slice-2.ensures.len);
  so_far = turn c.loop-piece.page.items _ c.piece-piece.result.now c.args.bytes (vec_len c.loop-piece.page) _ c.loop-piece.number c.next-number.result _
      c.next-number.ensures c.piece-piece.ensures.exact (omega arith) c.loop-piece.invariant.fits c.in_ok-extend_from_slice-2.ensures.len
      c.loop-piece.invariant.so_far c.in_ok-extend_from_slice-2.ensures.items;
}

pub returns-then-piece-size-clause-ascii : goal.returns-then-piece-size-clause-ascii
returns-then-piece-size-clause-ascii c =
    subst IsAscii (sym (returns-then-piece-size-clause-exact c)) (page-ascii c.args.seed c.args.bytes)
