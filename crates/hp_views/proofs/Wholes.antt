-- A state put together again of a view's parts, and a view of a state's parts.
use Rattle.std.specs.Prelude.{◌≡◌, ℕ, Bool, false, not, Option, Some, None}
use Rattle.std.specs.Option.{unwrap_or}
use Rattle.std.proofs.Common.{sym, ap, ◌∙◌}
use Rattle.hp_tokens.specs.declared.lexing.LexState.{LexState}
use Rattle.hp_control.specs.declared.change.Change.{Change}
use Rattle.hp_control.specs.declared.change.FormChange.{FormChange}
use Rattle.hp_control.specs.States.{ControlState}
use Rattle.hp_control.specs.Nothing.{nothing}
use Rattle.hp_control.specs.Apply.{applied}
use Rattle.hp_control.specs.Faithful.{Split, state_over, with_page}
use Rattle.hp_control.specs.Viewing.{state_of}
use Rattle.hp_views.specs.Begins.{ended, form_of, form_left, head_of, quirks_of, whole_change, whole_of, with_lexer}
use Rattle.hp_views.specs.BeginLaws.{ended_whole, whole_again}
use Rattle.hp_views.specs.declared.view.PageFacts.{PageFacts}
use Rattle.hp_views.specs.View.{page_of}

-- the facts of a page; none where there is an older state
abbrev pub facts_or_none : Option PageFacts → PageFacts
facts_or_none page = unwrap_or page (record { head = None; quirks = false })

pub head_told : (page : Option PageFacts) (facts : PageFacts) → facts ≡ facts_or_none page → facts.head ≡ head_of (page_of page)
head_told None facts e = ap (λ (f : PageFacts). f.head) e
head_told (Some p) facts e = ap (λ (f : PageFacts). f.head) e

pub quirks_told : (page : Option PageFacts) (facts : PageFacts) → facts ≡ facts_or_none page → facts.quirks ≡ quirks_of (page_of page)
quirks_told None facts e = ap (λ (f : PageFacts). f.quirks) e
quirks_told (Some p) facts e = ap (λ (f : PageFacts). f.quirks) e

abbrev pub parts : LexState → Split → Option ℕ → Option ℕ → Bool → ControlState
parts lex v h f q = state_of lex v.change.mode v.change.original v.change.templates v.change.stack v.change.formatting h f (not v.change.frameset_off) q v.change.pending v.change.skip_lf v.change.made

pub put_together : (lex : LexState) (v : Split) (h f : Option ℕ) (q : Bool) → h ≡ head_of v.page → f ≡ form_left v.change.form → q ≡ quirks_of v.page → parts lex v h f q ≡ with_lexer lex (state_over v nothing)
put_together lex v h f q e d g =
    ap (λ x. parts lex v x f q) e
    ∙ (ap (λ x. parts lex v (head_of v.page) x q) d
    ∙ (ap (λ x. parts lex v (head_of v.page) (form_left v.change.form) x) g
    ∙ sym (ended_whole lex v)))

-- the same of a change that was ended with that state of the lexer
abbrev pub parts_of : Change → Option ℕ → Option ℕ → Bool → ControlState
parts_of d h f q = state_of d.lex d.mode d.original d.templates d.stack d.formatting h f (not d.frameset_off) q d.pending d.skip_lf d.made

pub ended_together : (lex : LexState) (is_set : Bool) (v : Split) (d : Change) (h f : Option ℕ) (q : Bool) → d ≡ ended lex is_set v.change → h ≡ head_of v.page → f ≡ form_left d.form → q ≡ quirks_of v.page → parts_of d h f q ≡ with_lexer lex (state_over v nothing)
ended_together lex is_set v d h f q ends e m g =
    ap (λ (x : Change). parts_of x h f q) ends ∙ put_together lex v h f q e (m ∙ ap (λ (x : Change). form_left x.form) ends) g

pub begins_whole : (k c : ControlState) (f : FormChange) → f ≡ form_of k.form → k ≡ c → with_page (whole_of k).page (applied (record (whole_change k) { form = f }) nothing) ≡ c
begins_whole k c f e h = ap (λ x. with_page (whole_of k).page (applied (record (whole_change k) { form = x }) nothing)) e ∙ (whole_again k ∙ h)
