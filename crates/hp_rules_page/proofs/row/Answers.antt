use Rattle.std.proofs.Common.{ap, ◌∙◌}
use Rattle.hp_elements.specs.declared.token.Mode.TheVariants as mode
use Rattle.hp_elements.specs.Placing.{place_of}
use Rattle.hp_elements.specs.Tokens.{kind_of}
use Rattle.hp_elements.proofs.RowLemmas.{row_along}
use Rattle.hp_rules_page.specs.declared.numbers.TheConstants.{INITIAL, BEFORE_HTML, BEFORE_HEAD, IN_HEAD, IN_HEAD_NOSCRIPT, AFTER_HEAD, AFTER_BODY, IN_FRAMESET, AFTER_FRAMESET, AFTER_AFTER_BODY, AFTER_AFTER_FRAMESET}
use Rattle.hp_rules_page.specs.Table.{all_rows, rows_of}
use Rattle.hp_rules_page.proofs.Found.{at_initial, at_before_html, at_before_head, at_in_head, at_in_head_noscript, at_after_head, at_after_body, at_in_frameset, at_after_frameset, at_after_after_body, at_after_after_frameset}
use Rattle.hp_rules_page.proofs.row.Goals as goal
use Rattle.hp_rules_page.proofs.row.Goals.{in-Initial, in-BeforeHtml, in-BeforeHead, in-InHead, in-InHeadNoscript, in-AfterHead, in-AfterBody, in-InFrameset, in-AfterFrameset, in-AfterAfterBody, in-AfterAfterFrameset}

pub returns-clause-acts : goal.returns-clause-acts
returns-clause-acts c =
    elim c.match-mode.branch [
      | in-Initial w ↦ row_along rows_of all_rows INITIAL c.args.mode mode.Initial (kind_of c.args.token.now) c.from.result c.match-mode.number c.place-place.result w.in-Initial.is c.from.ensures w.number-is (c.place-place.ensures.value ∙ ap place_of c.kind.ensures) (at_initial (kind_of c.args.token.now))
      | in-BeforeHtml w ↦ row_along rows_of all_rows BEFORE_HTML c.args.mode mode.BeforeHtml (kind_of c.args.token.now) c.from.result c.match-mode.number c.place-place.result w.in-BeforeHtml.is c.from.ensures w.number-is (c.place-place.ensures.value ∙ ap place_of c.kind.ensures) (at_before_html (kind_of c.args.token.now))
      | in-BeforeHead w ↦ row_along rows_of all_rows BEFORE_HEAD c.args.mode mode.BeforeHead (kind_of c.args.token.now) c.from.result c.match-mode.number c.place-place.result w.in-BeforeHead.is c.from.ensures w.number-is (c.place-place.ensures.value ∙ ap place_of c.kind.ensures) (at_before_head (kind_of c.args.token.now))
      | in-InHead w ↦ row_along rows_of all_rows IN_HEAD c.args.mode mode.InHead (kind_of c.args.token.now) c.from.result c.match-mode.number c.place-place.result w.in-InHead.is c.from.ensures w.number-is (c.place-place.ensures.value ∙ ap place_of c.kind.ensures) (at_in_head (kind_of c.args.token.now))
      | in-InHeadNoscript w ↦ row_along rows_of all_rows IN_HEAD_NOSCRIPT c.args.mode mode.InHeadNoscript (kind_of c.args.token.now) c.from.result c.match-mode.number c.place-place.result w.in-InHeadNoscript.is c.from.ensures w.number-is (c.place-place.ensures.value ∙ ap place_of c.kind.ensures) (at_in_head_noscript (kind_of c.args.token.now))
      | in-AfterHead w ↦ row_along rows_of all_rows AFTER_HEAD c.args.mode mode.AfterHead (kind_of c.args.token.now) c.from.result c.match-mode.number c.place-place.result w.in-AfterHead.is c.from.ensures w.number-is (c.place-place.ensures.value ∙ ap place_of c.kind.ensures) (at_after_head (kind_of c.args.token.now))
      | in-AfterBody w ↦ row_along rows_of all_rows AFTER_BODY c.args.mode mode.AfterBody (kind_of c.args.token.now) c.from.result c.match-mode.number c.place-place.result w.in-AfterBody.is c.from.ensures w.number-is (c.place-place.ensures.value ∙ ap place_of c.kind.ensures) (at_after_body (kind_of c.args.token.now))
      | in-InFrameset w ↦ row_along rows_of all_rows IN_FRAMESET c.args.mode mode.InFrameset (kind_of c.args.token.now) c.from.result c.match-mode.number c.place-place.result w.in-InFrameset.is c.from.ensures w.number-is (c.place-place.ensures.value ∙ ap place_of c.kind.ensures) (at_in_frameset (kind_of c.args.token.now))
      | in-AfterFrameset w ↦ row_along rows_of all_rows AFTER_FRAMESET c.args.mode mode.AfterFrameset (kind_of c.args.token.now) c.from.result c.match-mode.number c.place-place.result w.in-AfterFrameset.is c.from.ensures w.number-is (c.place-place.ensures.value ∙ ap place_of c.kind.ensures) (at_after_frameset (kind_of c.args.token.now))
      | in-AfterAfterBody w ↦ row_along rows_of all_rows AFTER_AFTER_BODY c.args.mode mode.AfterAfterBody (kind_of c.args.token.now) c.from.result c.match-mode.number c.place-place.result w.in-AfterAfterBody.is c.from.ensures w.number-is (c.place-place.ensures.value ∙ ap place_of c.kind.ensures) (at_after_after_body (kind_of c.args.token.now))
      | in-AfterAfterFrameset w ↦ row_along rows_of all_rows AFTER_AFTER_FRAMESET c.args.mode mode.AfterAfterFrameset (kind_of c.args.token.now) c.from.result c.match-mode.number c.place-place.result w.in-AfterAfterFrameset.is c.from.ensures w.number-is (c.place-place.ensures.value ∙ ap place_of c.kind.ensures) (at_after_after_frameset (kind_of c.args.token.now))
    ]
