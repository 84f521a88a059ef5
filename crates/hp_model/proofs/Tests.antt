-- The test over the table passes at each mode and each kind of token.
use Rattle.std.proofs.Common.{◌≡◌, true, refl}
use Rattle.hp_elements.specs.declared.token.Kind.{Kind}
use Rattle.hp_elements.specs.declared.token.Mode.{Mode}
use Rattle.hp_elements.specs.declared.token.Mode.TheVariants as mode
use Rattle.hp_elements.proofs.PlaceLemmas.{at_every_kind}
use Rattle.hp_rules_rest.specs.Whole.{every_mode_rows}
use Rattle.hp_model.proofs.Passes.{mode_passes, foreign_passes, rules_pass}

pub each_mode : (m : Mode) (kind : Kind) → mode_passes m kind ≡ true
unfolding mode_passes rules_pass every_mode_rows
each_mode mode.Initial kind = at_every_kind (mode_passes mode.Initial) refl kind
each_mode mode.BeforeHtml kind = at_every_kind (mode_passes mode.BeforeHtml) refl kind
each_mode mode.BeforeHead kind = at_every_kind (mode_passes mode.BeforeHead) refl kind
each_mode mode.InHead kind = at_every_kind (mode_passes mode.InHead) refl kind
each_mode mode.InHeadNoscript kind = at_every_kind (mode_passes mode.InHeadNoscript) refl kind
each_mode mode.AfterHead kind = at_every_kind (mode_passes mode.AfterHead) refl kind
each_mode mode.InBody kind = at_every_kind (mode_passes mode.InBody) refl kind
each_mode mode.Text kind = at_every_kind (mode_passes mode.Text) refl kind
each_mode mode.InTable kind = at_every_kind (mode_passes mode.InTable) refl kind
each_mode mode.InTableText kind = at_every_kind (mode_passes mode.InTableText) refl kind
each_mode mode.InCaption kind = at_every_kind (mode_passes mode.InCaption) refl kind
each_mode mode.InColumnGroup kind = at_every_kind (mode_passes mode.InColumnGroup) refl kind
each_mode mode.InTableBody kind = at_every_kind (mode_passes mode.InTableBody) refl kind
each_mode mode.InRow kind = at_every_kind (mode_passes mode.InRow) refl kind
each_mode mode.InCell kind = at_every_kind (mode_passes mode.InCell) refl kind
each_mode mode.InSelect kind = at_every_kind (mode_passes mode.InSelect) refl kind
each_mode mode.InSelectInTable kind = at_every_kind (mode_passes mode.InSelectInTable) refl kind
each_mode mode.InTemplate kind = at_every_kind (mode_passes mode.InTemplate) refl kind
each_mode mode.AfterBody kind = at_every_kind (mode_passes mode.AfterBody) refl kind
each_mode mode.InFrameset kind = at_every_kind (mode_passes mode.InFrameset) refl kind
each_mode mode.AfterFrameset kind = at_every_kind (mode_passes mode.AfterFrameset) refl kind
each_mode mode.AfterAfterBody kind = at_every_kind (mode_passes mode.AfterAfterBody) refl kind
each_mode mode.AfterAfterFrameset kind = at_every_kind (mode_passes mode.AfterAfterFrameset) refl kind

pub each_foreign : (m : Mode) (kind : Kind) → foreign_passes m kind ≡ true
unfolding foreign_passes rules_pass every_mode_rows
each_foreign mode.Initial kind = at_every_kind (foreign_passes mode.Initial) refl kind
each_foreign mode.BeforeHtml kind = at_every_kind (foreign_passes mode.BeforeHtml) refl kind
each_foreign mode.BeforeHead kind = at_every_kind (foreign_passes mode.BeforeHead) refl kind
each_foreign mode.InHead kind = at_every_kind (foreign_passes mode.InHead) refl kind
each_foreign mode.InHeadNoscript kind = at_every_kind (foreign_passes mode.InHeadNoscript) refl kind
each_foreign mode.AfterHead kind = at_every_kind (foreign_passes mode.AfterHead) refl kind
each_foreign mode.InBody kind = at_every_kind (foreign_passes mode.InBody) refl kind
each_foreign mode.Text kind = at_every_kind (foreign_passes mode.Text) refl kind
each_foreign mode.InTable kind = at_every_kind (foreign_passes mode.InTable) refl kind
each_foreign mode.InTableText kind = at_every_kind (foreign_passes mode.InTableText) refl kind
each_foreign mode.InCaption kind = at_every_kind (foreign_passes mode.InCaption) refl kind
each_foreign mode.InColumnGroup kind = at_every_kind (foreign_passes mode.InColumnGroup) refl kind
each_foreign mode.InTableBody kind = at_every_kind (foreign_passes mode.InTableBody) refl kind
each_foreign mode.InRow kind = at_every_kind (foreign_passes mode.InRow) refl kind
each_foreign mode.InCell kind = at_every_kind (foreign_passes mode.InCell) refl kind
each_foreign mode.InSelect kind = at_every_kind (foreign_passes mode.InSelect) refl kind
each_foreign mode.InSelectInTable kind = at_every_kind (foreign_passes mode.InSelectInTable) refl kind
each_foreign mode.InTemplate kind = at_every_kind (foreign_passes mode.InTemplate) refl kind
each_foreign mode.AfterBody kind = at_every_kind (foreign_passes mode.AfterBody) refl kind
each_foreign mode.InFrameset kind = at_every_kind (foreign_passes mode.InFrameset) refl kind
each_foreign mode.AfterFrameset kind = at_every_kind (foreign_passes mode.AfterFrameset) refl kind
each_foreign mode.AfterAfterBody kind = at_every_kind (foreign_passes mode.AfterAfterBody) refl kind
each_foreign mode.AfterAfterFrameset kind = at_every_kind (foreign_passes mode.AfterAfterFrameset) refl kind
