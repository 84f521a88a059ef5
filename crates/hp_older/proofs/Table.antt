-- The test over the table passes at each mode and each kind of token.
use Rattle.std.proofs.Common.{◌≡◌, true, refl}
use Rattle.hp_elements.specs.declared.token.Kind.{Kind}
use Rattle.hp_elements.specs.declared.token.Mode.{Mode}
use Rattle.hp_elements.specs.declared.token.Mode.TheVariants as mode
use Rattle.hp_elements.proofs.PlaceLemmas.{at_every_kind}
use Rattle.hp_rules_rest.specs.Whole.{every_mode_rows}
use Rattle.hp_older.proofs.Steps.{foreign_goes, mode_goes, rules_go}

pub each_mode_goes : (m : Mode) (kind : Kind) → mode_goes m kind ≡ true
unfolding mode_goes rules_go every_mode_rows
each_mode_goes mode.Initial kind = at_every_kind (mode_goes mode.Initial) refl kind
each_mode_goes mode.BeforeHtml kind = at_every_kind (mode_goes mode.BeforeHtml) refl kind
each_mode_goes mode.BeforeHead kind = at_every_kind (mode_goes mode.BeforeHead) refl kind
each_mode_goes mode.InHead kind = at_every_kind (mode_goes mode.InHead) refl kind
each_mode_goes mode.InHeadNoscript kind = at_every_kind (mode_goes mode.InHeadNoscript) refl kind
each_mode_goes mode.AfterHead kind = at_every_kind (mode_goes mode.AfterHead) refl kind
each_mode_goes mode.InBody kind = at_every_kind (mode_goes mode.InBody) refl kind
each_mode_goes mode.Text kind = at_every_kind (mode_goes mode.Text) refl kind
each_mode_goes mode.InTable kind = at_every_kind (mode_goes mode.InTable) refl kind
each_mode_goes mode.InTableText kind = at_every_kind (mode_goes mode.InTableText) refl kind
each_mode_goes mode.InCaption kind = at_every_kind (mode_goes mode.InCaption) refl kind
each_mode_goes mode.InColumnGroup kind = at_every_kind (mode_goes mode.InColumnGroup) refl kind
each_mode_goes mode.InTableBody kind = at_every_kind (mode_goes mode.InTableBody) refl kind
each_mode_goes mode.InRow kind = at_every_kind (mode_goes mode.InRow) refl kind
each_mode_goes mode.InCell kind = at_every_kind (mode_goes mode.InCell) refl kind
each_mode_goes mode.InSelect kind = at_every_kind (mode_goes mode.InSelect) refl kind
each_mode_goes mode.InSelectInTable kind = at_every_kind (mode_goes mode.InSelectInTable) refl kind
each_mode_goes mode.InTemplate kind = at_every_kind (mode_goes mode.InTemplate) refl kind
each_mode_goes mode.AfterBody kind = at_every_kind (mode_goes mode.AfterBody) refl kind
each_mode_goes mode.InFrameset kind = at_every_kind (mode_goes mode.InFrameset) refl kind
each_mode_goes mode.AfterFrameset kind = at_every_kind (mode_goes mode.AfterFrameset) refl kind
each_mode_goes mode.AfterAfterBody kind = at_every_kind (mode_goes mode.AfterAfterBody) refl kind
each_mode_goes mode.AfterAfterFrameset kind = at_every_kind (mode_goes mode.AfterAfterFrameset) refl kind

pub each_foreign_goes : (m : Mode) (kind : Kind) → foreign_goes m kind ≡ true
unfolding foreign_goes rules_go every_mode_rows
each_foreign_goes mode.Initial kind = at_every_kind (foreign_goes mode.Initial) refl kind
each_foreign_goes mode.BeforeHtml kind = at_every_kind (foreign_goes mode.BeforeHtml) refl kind
each_foreign_goes mode.BeforeHead kind = at_every_kind (foreign_goes mode.BeforeHead) refl kind
each_foreign_goes mode.InHead kind = at_every_kind (foreign_goes mode.InHead) refl kind
each_foreign_goes mode.InHeadNoscript kind = at_every_kind (foreign_goes mode.InHeadNoscript) refl kind
each_foreign_goes mode.AfterHead kind = at_every_kind (foreign_goes mode.AfterHead) refl kind
each_foreign_goes mode.InBody kind = at_every_kind (foreign_goes mode.InBody) refl kind
each_foreign_goes mode.Text kind = at_every_kind (foreign_goes mode.Text) refl kind
each_foreign_goes mode.InTable kind = at_every_kind (foreign_goes mode.InTable) refl kind
each_foreign_goes mode.InTableText kind = at_every_kind (foreign_goes mode.InTableText) refl kind
each_foreign_goes mode.InCaption kind = at_every_kind (foreign_goes mode.InCaption) refl kind
each_foreign_goes mode.InColumnGroup kind = at_every_kind (foreign_goes mode.InColumnGroup) refl kind
each_foreign_goes mode.InTableBody kind = at_every_kind (foreign_goes mode.InTableBody) refl kind
each_foreign_goes mode.InRow kind = at_every_kind (foreign_goes mode.InRow) refl kind
each_foreign_goes mode.InCell kind = at_every_kind (foreign_goes mode.InCell) refl kind
each_foreign_goes mode.InSelect kind = at_every_kind (foreign_goes mode.InSelect) refl kind
each_foreign_goes mode.InSelectInTable kind = at_every_kind (foreign_goes mode.InSelectInTable) refl kind
each_foreign_goes mode.InTemplate kind = at_every_kind (foreign_goes mode.InTemplate) refl kind
each_foreign_goes mode.AfterBody kind = at_every_kind (foreign_goes mode.AfterBody) refl kind
each_foreign_goes mode.InFrameset kind = at_every_kind (foreign_goes mode.InFrameset) refl kind
each_foreign_goes mode.AfterFrameset kind = at_every_kind (foreign_goes mode.AfterFrameset) refl kind
each_foreign_goes mode.AfterAfterBody kind = at_every_kind (foreign_goes mode.AfterAfterBody) refl kind
each_foreign_goes mode.AfterAfterFrameset kind = at_every_kind (foreign_goes mode.AfterAfterFrameset) refl kind
