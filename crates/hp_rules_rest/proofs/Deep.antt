-- No mode's rows use those of others more than four deep.
use Rattle.std.proofs.Common.{◌≡◌, true, refl}
use Rattle.hp_elements.specs.declared.token.Kind.{Kind}
use Rattle.hp_elements.specs.declared.token.Mode.{Mode}
use Rattle.hp_elements.specs.declared.token.Mode.TheVariants as mode
use Rattle.hp_elements.specs.Rules.{nests_within}
use Rattle.hp_elements.proofs.PlaceLemmas.{at_every_kind}
use Rattle.hp_rules_rest.specs.Whole.{every_mode_rows}

pub nests_four : (present : Mode) (token : Kind) → nests_within every_mode_rows 4 present token ≡ true
unfolding every_mode_rows
nests_four mode.Initial token = at_every_kind (nests_within every_mode_rows 4 mode.Initial) refl token
nests_four mode.BeforeHtml token = at_every_kind (nests_within every_mode_rows 4 mode.BeforeHtml) refl token
nests_four mode.BeforeHead token = at_every_kind (nests_within every_mode_rows 4 mode.BeforeHead) refl token
nests_four mode.InHead token = at_every_kind (nests_within every_mode_rows 4 mode.InHead) refl token
nests_four mode.InHeadNoscript token = at_every_kind (nests_within every_mode_rows 4 mode.InHeadNoscript) refl token
nests_four mode.AfterHead token = at_every_kind (nests_within every_mode_rows 4 mode.AfterHead) refl token
nests_four mode.InBody token = at_every_kind (nests_within every_mode_rows 4 mode.InBody) refl token
nests_four mode.Text token = at_every_kind (nests_within every_mode_rows 4 mode.Text) refl token
nests_four mode.InTable token = at_every_kind (nests_within every_mode_rows 4 mode.InTable) refl token
nests_four mode.InTableText token = at_every_kind (nests_within every_mode_rows 4 mode.InTableText) refl token
nests_four mode.InCaption token = at_every_kind (nests_within every_mode_rows 4 mode.InCaption) refl token
nests_four mode.InColumnGroup token = at_every_kind (nests_within every_mode_rows 4 mode.InColumnGroup) refl token
nests_four mode.InTableBody token = at_every_kind (nests_within every_mode_rows 4 mode.InTableBody) refl token
nests_four mode.InRow token = at_every_kind (nests_within every_mode_rows 4 mode.InRow) refl token
nests_four mode.InCell token = at_every_kind (nests_within every_mode_rows 4 mode.InCell) refl token
nests_four mode.InSelect token = at_every_kind (nests_within every_mode_rows 4 mode.InSelect) refl token
nests_four mode.InSelectInTable token = at_every_kind (nests_within every_mode_rows 4 mode.InSelectInTable) refl token
nests_four mode.InTemplate token = at_every_kind (nests_within every_mode_rows 4 mode.InTemplate) refl token
nests_four mode.AfterBody token = at_every_kind (nests_within every_mode_rows 4 mode.AfterBody) refl token
nests_four mode.InFrameset token = at_every_kind (nests_within every_mode_rows 4 mode.InFrameset) refl token
nests_four mode.AfterFrameset token = at_every_kind (nests_within every_mode_rows 4 mode.AfterFrameset) refl token
nests_four mode.AfterAfterBody token = at_every_kind (nests_within every_mode_rows 4 mode.AfterAfterBody) refl token
nests_four mode.AfterAfterFrameset token = at_every_kind (nests_within every_mode_rows 4 mode.AfterAfterFrameset) refl token
