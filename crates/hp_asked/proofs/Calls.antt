-- What the lexer's calls answer is of the run.
use Rattle.std.proofs.Common.{◌≡◌, List, [], ◌∷◌, map, refl, ap, ◌∙◌, sym, subst, append-nil}
use Rattle.hp_elements.specs.declared.token.Token.{Token}
use Rattle.hp_elements.specs.declared.token.Token.TheVariants as token
use Rattle.hp_tokens.specs.Advancing.{AreRuns, single, singles, tokens_of}
use Rattle.hp_tokens.specs.Moves.{Emitted}
use Rattle.hp_tokens.specs.Rows.{character}
use Rattle.hp_lexer.specs.Standing.{stands}
use Rattle.hp_runs.specs.Closing.{AreCharacters, last}
use Rattle.hp_runs.proofs.AtOnce.{characters-single}
use Rattle.hp_runs.proofs.ClosingRows.{characters-alone}
use Rattle.hp_runs.proofs.Groups.{Led, batch-led, characters-led, led-behind, run-alone}
use Rattle.hp_runs.proofs.Stepping.{silent-moves, stepped-read}
use Rattle.hp_asked.specs.Laws.{SectionLeads, SilenceLeads, TagLeads, TextLeads, TokensLead}
use Rattle.hp_asked.specs.Seeking.{AreFilled}

-- a run isn't empty
runs-filled : (ts : List Token) → AreRuns ts → AreFilled ts
runs-filled [] h = tt
runs-filled (token.Characters class [] ∷ ts) h = h.0
runs-filled (token.Characters class (c ∷ cs) ∷ ts) h = runs-filled ts h.1
runs-filled (_ ∷ ts) h = runs-filled ts h.1

pub tokens-lead : TokensLead
tokens-lead old new old_input new_input began tokens stepped batch =
    let led : Led old.names (stands old old_input) (stands new new_input) tokens new.rested = batch-led old.names (stands old old_input) (stands new new_input) tokens new.rested batch in
    (led.es, led.leads, runs-filled tokens (stepped-read old old_input new new_input began tokens stepped).1, led.spelled)

pub text-leads : TextLeads
text-leads old new old_input new_input text plain = (plain.stepped.0.es, characters-led old.names plain.stepped.0.leads (subst AreCharacters same (characters-alone text)), sym same)
  where
    same : map character text ≡ tokens_of plain.stepped.0.es
    same = sym (characters-single text) ∙ (ap singles plain.stepped.0.appends.appended ∙ plain.stepped.0.appends.spelled)

pub tag-leads : TagLeads
tag-leads old new old_input new_input (token.Characters class text) (stepped, emits) =
    (stepped.0.es, characters-led old.names stepped.0.leads (subst AreCharacters (sym (append-nil (single (token.Characters class text))) ∙ spelled) (run-alone class text)), filled, spelled)
  where
    filled : AreFilled (token.Characters class text ∷ [])
    filled = runs-filled (token.Characters class text ∷ []) (stepped-read old old_input new new_input _ (token.Characters class text ∷ []) stepped).1

    spelled : singles (token.Characters class text ∷ []) ≡ tokens_of stepped.0.es
    spelled = ap singles stepped.0.appends.appended ∙ stepped.0.appends.spelled
tag-leads old new old_input new_input tag (stepped, emits) =
    let e : Emitted = record { began = new.rested; token = tag } in
    (e ∷ [], led-behind old.names emits.leads tt (last emits.last), tt, refl)

pub silence-leads : SilenceLeads
silence-leads old new old_input new_input reaches = characters-led old.names (silent-moves old.names old.names reaches refl) tt

pub section-leads : SectionLeads
section-leads old new old_input new_input reaches = (reaches.there, characters-led old.names (silent-moves old.names old.names reaches.advances refl) tt, reaches.asks)
