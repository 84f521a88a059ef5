-- Where a token touches something older, the run comes to the first that does.
use Rattle.std.proofs.Common.{◌≡◌, ℕ, ◌-◌, ◌^◌, List, [], ◌∷◌, Bool, true, false, refl, ◌∙◌, sym, subst, inl, Option, None, Some}
use Rattle.std.specs.Prelude.{not, ◌&&◌, Ok}
use Rattle.std.specs.List.{list_all}
use Rattle.hp_elements.specs.declared.kinds.Kinds.TheVariants as kinds
use Rattle.hp_elements.specs.declared.token.CharClass.TheVariants.{White}
use Rattle.hp_elements.specs.declared.token.Token.{Token}
use Rattle.hp_elements.specs.declared.token.Token.TheVariants.{Characters}
use Rattle.hp_names.specs.BuiltIn.{built_in}
use Rattle.hp_tokens.specs.Reading.{Unread}
use Rattle.hp_tokens.specs.Rows.{is_blank}
use Rattle.hp_control.specs.Agree.{AllTrue}
use Rattle.hp_control.specs.Apply.{applied}
use Rattle.hp_control.specs.Faithful.{Page, Split, with_page}
use Rattle.hp_control.specs.Outcome.{touches_any}
use Rattle.hp_control.specs.Plan.{Heard, Runs}
use Rattle.hp_control.specs.States.{ControlState}
use Rattle.hp_lexer.specs.declared.lexer.Lexer.{Lexer}
use Rattle.hp_lexer.specs.declared.lexer.Step.TheVariants as steps
use Rattle.hp_lexer.specs.Standing.{IsBatch, PlainStepped, Stepped, TagStepped, stands}
use Rattle.hp_lexer.specs.Table.{table}
use Rattle.hp_acts.specs.Plain.{takes_text}
use Rattle.hp_asked.specs.Laws.{RightTokens, TagLeads, TextLeads, TokensLead}
use Rattle.hp_asked.specs.Seeking.{GoesWhole}
use Rattle.hp_model.specs.AtOnce.{handle_at_once}
use Rattle.hp_model.specs.Texts.{TakesText, as_run}
use Rattle.hp_older.specs.Laws.{AreValid, TextsTaken}
use Rattle.hp_runs.specs.Coming.{BlanksStop, HasCome, TagStops, TextStops, TokensRead, TokensStop, untouched_at_once}
use Rattle.hp_runs.specs.Touching.{TouchesFrom}
use Rattle.hp_views.specs.StackPlans.{current_is_plan}
use Rattle.hp_fragment.proofs.Leading.{IsLed, blanks-led, lexed, tag-led, text-led, tokens-led, touched-right}
use Rattle.hp_fragment.proofs.Stepping.{control-valid, may-all}
use Rattle.hp_fragment.specs.Reading.{AreRight, Crosses, HasRead, IsReady, Stage, TextTouched, Touched, TouchedBelow, Way, control_at}

-- a text before which nothing was read ahead
come-at-start : (w : Way) (p : Stage) → w.base ≡ 0 → (r : HasRead w p) → HasCome built_in w.name 0 w.older w.from (stands p.lexer p.input) (control_at w.older p) r.edits
come-at-start w p base r = subst (λ (b : ℕ). HasCome built_in w.name b w.older w.from (stands p.lexer p.input) (control_at w.older p) r.edits) base r.comes

-- the tokens that were read touch something older
led-crosses : RightTokens → (old new : Stage) (l : Lexer) (u : Unread) (tokens : List Token) → IsLed old l u tokens → (h : Touched (lexed old l u) new tokens)
    → ((w : Way) → w.base ≡ 0 → AllTrue w.older old.heard.says h.asked → HasRead w old → TouchesFrom (table built_in) w.older w.from (l.rested - 2 ^ 32)) → Crosses old new
led-crosses right old new l u tokens led h stops = record {
  asked = h.asked;
  noted = h.noted;
  touches = λ w base all r. subst (λ (p : ℕ). TouchesFrom (table built_in) w.older w.from (p - 2 ^ 32)) (sym h.rested) (stops w base all r);
  right = touched-right right old new l u tokens led h;
}

pub tokens-cross : AreValid → TokensStop → TokensRead → RightTokens → TokensLead → (old new : Stage) (l : Lexer) (u : Unread) (began : ℕ) (tokens : List Token) → IsReady old → Stepped old.lexer old.input l u (steps.Tokens began tokens)
    → IsBatch old.lexer.names (stands old.lexer old.input) (stands l u) tokens l.rested → Touched (lexed old l u) new tokens → Crosses old new
tokens-cross valid law reading right lead old new l u began tokens ready stepped batch h =
    led-crosses right old new l u tokens (tokens-led lead old l u began tokens ready stepped batch) h (λ w base all r.
    let read = reading old.lexer l old.input u began tokens stepped in
    law built_in w.name w.older w.from (control_at w.older old) r.edits old.lexer l old.input u began tokens (come-at-start w old base r) ready.names (control-valid valid w.older old r.over) stepped batch
    (h.over w.older all r.over (may-all w.older tokens read.0 read.2)))

pub tag-crosses : AreValid → TagStops → TokensRead → RightTokens → TagLeads → (old new : Stage) (l : Lexer) (u : Unread) (tag : Token) → IsReady old → TagStepped old.lexer old.input l u (Some tag) → Touched (lexed old l u) new (tag ∷ []) → Crosses old new
tag-crosses valid law reading right lead old new l u tag ready stepped h =
    led-crosses right old new l u (tag ∷ []) (tag-led lead old l u tag ready stepped) h (λ w base all r.
    let read = reading old.lexer l old.input u _ (tag ∷ []) stepped.0 in
    law built_in w.name w.older w.from (control_at w.older old) r.edits old.lexer l old.input u tag (come-at-start w old base r) ready.names (control-valid valid w.older old r.over) stepped
    (h.over w.older all r.over (may-all w.older (tag ∷ []) read.0 read.2)))

touched-one : (s c : ControlState) (t : Token) → untouched_at_once s c (t ∷ []) ≡ false → touches_any s (handle_at_once c t).outcome ≡ true
touched-one s c t h = by (touches_any s (handle_at_once c t).outcome) h
  where
    by : (b : Bool) → (not b && true) ≡ false → b ≡ true
    by true k = refl
    by false k = cc

pub text-crosses : AreValid → TextStops → RightTokens → TextLeads → (old new : Stage) (l : Lexer) (u : Unread) (text : List ℕ) → IsReady old → PlainStepped old.lexer old.input l u text → ((s : ControlState) → AreRight s old → GoesWhole s old.split)
    → TextTouched (lexed old l u) new text → Crosses old new
text-crosses valid law right lead old new l u text ready plain whole h =
    led-crosses right old new l u (as_run text ∷ []) (text-led lead old l u text ready plain whole) h.touched (λ w base all r.
    let c : ControlState = control_at w.older old in
    let t = h.takes w.older all r.over in
    let on : TakesText c = record { skips = t.skips; place = t.place; top = t.top } in
    law built_in w.name w.older w.from c r.edits old.lexer l old.input u text (come-at-start w old base r) ready.names (control-valid valid w.older old r.over) plain on
    (touched-one w.older c (as_run text) (h.touched.over w.older all r.over (record { read = tt; inside = inl tt }, tt))))

-- the view takes it so
pub view-touched : TextsTaken → (old new : Stage) (text : List ℕ) → takes_text old.split ≡ true → Touched old new (as_run text ∷ []) → TextTouched old new text
view-touched taken old new text takes touched = record { touched = touched; takes = λ s all is. taken s old.split takes }

-- it was asked first whether the older current node is HTML
pub touched-below : (old : Stage) (h : Heard) (v : Split) (l : Lexer) (u : Unread) (mid new : Stage) (text : List ℕ) → Runs old.heard h (current_is_plan kinds.AnyHtml old.split) (Ok true) → v ≡ old.split
    → mid ≡ record old { heard = h; split = v; lexer = l; input = u } → TouchedBelow mid new text → TextTouched (lexed old l u) new text
touched-below old h v l u mid new text found same is touched =
    let P : Stage → Type 0 = λ m. TouchedBelow m new text in
    let Q : Split → Type 0 = λ x. TouchedBelow (record old { heard = h; split = x; lexer = l; input = u }) new text in
    subst Q same (subst P is touched) old.heard found

paged-skips : (page : Option Page) (c : ControlState) → (with_page page c).skip_lf ≡ c.skip_lf
paged-skips None c = refl
paged-skips (Some p) c = refl

-- white space, where no line feed is to be skipped
pub blanks-cross : AreValid → BlanksStop → RightTokens → TextLeads → (old new : Stage) (l : Lexer) (u : Unread) (text : List ℕ) → IsReady old → PlainStepped old.lexer old.input l u text → list_all is_blank text ≡ true → old.split.change.skip_lf ≡ false
    → Touched (lexed old l u) new (Characters White text ∷ []) → Crosses old new
blanks-cross valid law right lead old new l u text ready plain blank none h =
    led-crosses right old new l u (Characters White text ∷ []) (blanks-led lead old l u text ready plain blank) h (λ w base all r.
    let c : ControlState = control_at w.older old in
    law built_in w.name w.older w.from c r.edits old.lexer l old.input u text (come-at-start w old base r) ready.names (control-valid valid w.older old r.over) plain blank (skips w.older)
    (touched-one w.older c (Characters White text) (h.over w.older all r.over (record { read = tt; inside = inl tt }, tt))))
  where
    skips : (s : ControlState) → (control_at s old).skip_lf ≡ false
    skips s = paged-skips old.split.page (applied old.split.change s) ∙ none
