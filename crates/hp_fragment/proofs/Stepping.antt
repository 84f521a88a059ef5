-- What each way of the parser does to how far the run has come.
use Rattle.std.proofs.Common.{◌≡◌, ℕ, List, [], ◌∷◌, ◌++◌, Bool, true, false, refl, ap, ◌∙◌, sym, subst, append-nil, inl, inr, Option, Some}
use Rattle.std.specs.Prelude.{not, Ok}
use Rattle.std.specs.List.{list_all}
use Rattle.std.proofs.lemmas.Bool.{and_parts, not-true}
use Rattle.hp_elements.specs.declared.kinds.Kinds.TheVariants as kinds
use Rattle.hp_elements.specs.declared.token.CharClass.{CharClass}
use Rattle.hp_elements.specs.declared.token.CharClass.TheVariants.{White}
use Rattle.hp_elements.specs.declared.token.Rest.{Rest}
use Rattle.hp_elements.specs.declared.token.Token.{Token}
use Rattle.hp_elements.specs.declared.token.Token.TheVariants.{Characters}
use Rattle.hp_names.specs.BuiltIn.{built_in}
use Rattle.hp_tokens.specs.Moves.{Lexing}
use Rattle.hp_tokens.specs.Reading.{Unread}
use Rattle.hp_tokens.specs.Rows.{is_blank}
use Rattle.hp_control.proofs.StartLemmas.{start_valid}
use Rattle.hp_control.specs.declared.edit.Edit.{Edit}
use Rattle.hp_control.specs.Faithful.{Split, state_over}
use Rattle.hp_control.specs.Outcome.{touches_any}
use Rattle.hp_control.specs.Plan.{Heard, Runs, asked_by}
use Rattle.hp_control.specs.States.{ControlState, IsValid, lex_start}
use Rattle.hp_lexer.specs.declared.lexer.Asked.TheVariants as asked
use Rattle.hp_lexer.specs.declared.lexer.Lexer.{Lexer}
use Rattle.hp_lexer.specs.declared.lexer.Step.TheVariants as steps
use Rattle.hp_lexer.specs.Places.{told}
use Rattle.hp_lexer.specs.Standing.{IsBatch, PlainStepped, Reaches, ReachesCdata, Stepped, TagStepped, stands}
use Rattle.hp_acts.specs.Plain.{may_take_text, takes_text}
use Rattle.hp_asked.specs.Laws.{RightBeforeText, RightName, RightSection, RightSilence, RightTokens, SectionLeads, SilenceLeads, TagLeads, TextLeads, TokensLead}
use Rattle.hp_asked.specs.Seeking.{GoesWhole}
use Rattle.hp_model.specs.AtOnce.{handle_at_once}
use Rattle.hp_model.specs.Texts.{TakesText, as_run, is_white, white_or_other}
use Rattle.hp_model.specs.Turns.{left_by}
use Rattle.hp_older.proofs.Truly.{ends_so}
use Rattle.hp_older.specs.Laws.{AreValid, ForeignTold, LastTagTold, TextsTaken}
use Rattle.hp_older.specs.Over.{IsOver}
use Rattle.hp_older.specs.Tokens.{MayAllCome}
use Rattle.hp_pieces.proofs.FitRuns.{relex_valid}
use Rattle.hp_runs.proofs.Quiet.{at_once-quiet}
use Rattle.hp_runs.specs.Coming.{BlanksCome, ComesFurther, CutEnds, HasCome, NameComes, SectionComes, SilenceComes, TagComes, TextComes, TokensCome, TokensRead, untouched_at_once}
use Rattle.hp_runs.specs.Handling.{left_after, lexer_after, made_after, turned}
use Rattle.hp_runs.specs.Tokens.{AllInside, AllRead}
use Rattle.hp_views.specs.Asking.{ask_last_tag}
use Rattle.hp_views.specs.SecondPlans.{foreign_now_plan}
use Rattle.hp_views.specs.StackPlans.{current_is_plan}
use Rattle.hp_fragment.proofs.Amounting.{amounts-same}
use Rattle.hp_fragment.proofs.Asking.{noted-none}
use Rattle.hp_fragment.proofs.Further.{none-further}
use Rattle.hp_fragment.proofs.Leading.{blanks-led, handled-rightly, html-right, html-rightly, lexed, name-rightly, section-rightly, silence-rightly, tag-led, text-led, tokens-led}
use Rattle.hp_fragment.proofs.Telling.{after-named, asked-named, leads-named, same-named, section-named, told-named}
use Rattle.hp_fragment.specs.Making.{Amounts, kind_of}
use Rattle.hp_fragment.specs.Reading.{AreRight, GoesFurther, GoesToEnd, Handled, HandledBelow, HasRead, IsAtText, IsHandled, IsNamed, IsReady, Stage, TextHandled, Way, control_at}

pub may-all : (s : ControlState) (ts : List Token) → AllRead ts → AllInside ts → MayAllCome s ts
may-all s [] read inside = tt
may-all s (t ∷ ts) read inside = (record { read = read.0; inside = inl inside.0 }, may-all s ts read.1 inside.1)

module _ (valid : AreValid) where
  pub control-valid : (s : ControlState) (p : Stage) → IsOver s p.split → IsValid (control_at s p)
  control-valid s p is = relex_valid (state_over p.split s) lex_start (valid s p.split is) start_valid.lex

-- the tokens were handled, and the run has come further by them
reads-on : (w : Way) (old new : Stage) (l : Lexer) (u : Unread) (tokens : List Token) → IsHandled w.older (lexed old l u) new tokens → new.input ≡ u → IsNamed w.told w.name w.older l → (r : HasRead w old)
    → ComesFurther built_in w.name w.base w.older w.from (stands (lexer_after handle_at_once (control_at w.older old) tokens l) u) (left_after handle_at_once (control_at w.older old) tokens) r.edits (made_after handle_at_once (control_at w.older old) tokens)
    → HasRead w new
reads-on w old new l u tokens h input named r f = record {
  named = after-named w.told w.name w.older handle_at_once c tokens l new.lexer h.lexer named;
  unpaged = λ guess. h.unpaged (r.unpaged guess);
  over = h.over;
  edits = r.edits ++ f.more;
  comes =
      subst (λ (d : ControlState). HasCome built_in w.name w.base w.older w.from (stands new.lexer new.input) d (r.edits ++ f.more)) (sym h.control)
      (subst (λ (k : Lexing). HasCome built_in w.name w.base w.older w.from k (left_after handle_at_once c tokens) (r.edits ++ f.more))
      (sym (ap (λ (x : Lexer). stands x new.input) h.lexer ∙ ap (λ (v : Unread). stands (lexer_after handle_at_once c tokens l) v) input)) f.comes);
  amounts = amounts-same w.kind new.sink w.older new.split.edits r.edits (made_after handle_at_once c tokens) f.more (h.amounts w.kind r.edits r.amounts) f.same;
}
  where
    c : ControlState
    c = control_at w.older old

-- the tokens of a step of the lexer
pub tokens-further : AreValid → TokensCome → TokensRead → RightTokens → TokensLead → (old new : Stage) (l : Lexer) (u : Unread) (began : ℕ) (tokens : List Token) → IsReady old → Stepped old.lexer old.input l u (steps.Tokens began tokens)
    → IsBatch old.lexer.names (stands old.lexer old.input) (stands l u) tokens l.rested → Handled (lexed old l u) new tokens → GoesFurther old new
tokens-further valid law reading right lead old new l u began tokens ready stepped batch handled = record {
  asked = handled.asked;
  noted = handled.noted;
  reads = λ w all r.
      let read = reading old.lexer l old.input u began tokens stepped in
      let done : IsHandled w.older (lexed old l u) new tokens = handled.over w.older all r.over (may-all w.older tokens read.0 read.2) in
      reads-on w old new l u tokens done handled.input (leads-named w.told w.name w.older old.lexer.names old.lexer l old.input u stepped.0.es stepped.0.leads r.named) r
      (law built_in w.name w.base w.older w.from (control_at w.older old) r.edits old.lexer l old.input u began tokens r.comes ready.names (control-valid valid w.older old r.over) stepped batch done.own);
  rightly = handled-rightly right old new l u tokens (tokens-led lead old l u began tokens ready stepped batch) handled;
  kind = handled.kind;
}

-- a tag that was read straight
pub tag-further : AreValid → TagComes → TokensRead → RightTokens → TagLeads → (old new : Stage) (l : Lexer) (u : Unread) (tag : Token) → IsReady old → TagStepped old.lexer old.input l u (Some tag) → Handled (lexed old l u) new (tag ∷ []) → GoesFurther old new
tag-further valid law reading right lead old new l u tag ready stepped handled = record {
  asked = handled.asked;
  noted = handled.noted;
  reads = λ w all r.
      let read = reading old.lexer l old.input u _ (tag ∷ []) stepped.0 in
      let done : IsHandled w.older (lexed old l u) new (tag ∷ []) = handled.over w.older all r.over (may-all w.older (tag ∷ []) read.0 read.2) in
      reads-on w old new l u (tag ∷ []) done handled.input (leads-named w.told w.name w.older old.lexer.names old.lexer l old.input u stepped.0.0.es stepped.0.0.leads r.named) r
      (law built_in w.name w.base w.older w.from (control_at w.older old) r.edits old.lexer l old.input u tag r.comes ready.names (control-valid valid w.older old r.over) stepped done.own);
  rightly = handled-rightly right old new l u (tag ∷ []) (tag-led lead old l u tag ready stepped) handled;
  kind = handled.kind;
}

-- a run of characters switches the lexer nowhere
run-further : (w : Way) (c : ControlState) (es : List Edit) (class : CharClass) (text : List ℕ) (l : Lexer) (u : Unread)
    → ComesFurther built_in w.name w.base w.older w.from (stands l u) (left_by (handle_at_once c (Characters class text))) es (handle_at_once c (Characters class text)).outcome.edits
    → ComesFurther built_in w.name w.base w.older w.from (stands (lexer_after handle_at_once c (Characters class text ∷ []) l) u) (left_after handle_at_once c (Characters class text ∷ [])) es (made_after handle_at_once c (Characters class text ∷ []))
run-further w c es class text l u f =
    let t : Token = Characters class text in
    subst (λ (x : Lexer). ComesFurther built_in w.name w.base w.older w.from (stands x u) (left_by (handle_at_once c t)) es (made_after handle_at_once c (t ∷ []))) (sym (ap (λ (to : Option Rest). turned to l) (at_once-quiet class text c)))
    (subst (λ (fs : List Edit). ComesFurther built_in w.name w.base w.older w.from (stands l u) (left_by (handle_at_once c t)) es fs) (sym (append-nil (handle_at_once c t).outcome.edits)) f)

untouched-one : (s c : ControlState) (t : Token) → untouched_at_once s c (t ∷ []) ≡ true → touches_any s (handle_at_once c t).outcome ≡ false
untouched-one s c t h = not-true (touches_any s (handle_at_once c t).outcome) (and_parts (not (touches_any s (handle_at_once c t).outcome)) true h).0

-- a text that the current node takes as it comes
pub text-further : AreValid → TextComes → RightTokens → TextLeads → (old new : Stage) (l : Lexer) (u : Unread) (text : List ℕ) → IsReady old → PlainStepped old.lexer old.input l u text → ((s : ControlState) → AreRight s old → GoesWhole s old.split) → TextHandled (lexed old l u) new text → GoesFurther old new
text-further valid law right lead old new l u text ready stepped whole h = record {
  asked = h.handled.asked;
  noted = h.handled.noted;
  reads = λ w all r.
      let c : ControlState = control_at w.older old in
      let t = h.takes w.older all r.over in
      let on : TakesText c = record { skips = t.skips; place = t.place; top = t.top } in
      let done : IsHandled w.older (lexed old l u) new (as_run text ∷ []) = h.handled.over w.older all r.over (record { read = tt; inside = inl tt }, tt) in
      reads-on w old new l u (as_run text ∷ []) done h.handled.input (leads-named w.told w.name w.older old.lexer.names old.lexer l old.input u stepped.stepped.0.es stepped.stepped.0.leads r.named) r
      (run-further w c r.edits (white_or_other (list_all is_white text)) text l u
      (law built_in w.name w.base w.older w.from c r.edits old.lexer l old.input u text r.comes ready.names (control-valid valid w.older old r.over) stepped on
      (untouched-one w.older c (as_run text) done.own)));
  rightly = handled-rightly right old new l u (as_run text ∷ []) (text-led lead old l u text ready stepped whole) h.handled;
  kind = h.handled.kind;
}

-- the view takes it so
pub view-takes : TextsTaken → (old new : Stage) (text : List ℕ) → takes_text old.split ≡ true → Handled old new (as_run text ∷ []) → TextHandled old new text
view-takes taken old new text takes handled = record { handled = handled; takes = λ s all is. taken s old.split takes }

-- it was asked first whether the older current node is HTML
pub found-below : (old : Stage) (h : Heard) (v : Split) (l : Lexer) (u : Unread) (mid new : Stage) (text : List ℕ) → Runs old.heard h (current_is_plan kinds.AnyHtml old.split) (Ok true) → v ≡ old.split
    → mid ≡ record old { heard = h; split = v; lexer = l; input = u } → HandledBelow mid new text → TextHandled (lexed old l u) new text
found-below old h v l u mid new text found same is handled =
    let P : Stage → Type 0 = λ m. HandledBelow m new text in
    let Q : Split → Type 0 = λ x. HandledBelow (record old { heard = h; split = x; lexer = l; input = u }) new text in
    subst Q same (subst P is handled) old.heard found

-- so a text goes whole: into an own current node, or into an older one that was right to be asked for
pub own-whole : (p : Stage) → takes_text p.split ≡ true → (s : ControlState) → AreRight s p → GoesWhole s p.split
own-whole p takes s right = inl takes

pub html-whole : RightBeforeText → (p : Stage) (h : Heard) → IsAtText (stands p.lexer p.input) → may_take_text p.split ≡ true → Runs p.heard h (current_is_plan kinds.AnyHtml p.split) (Ok true) → (s : ControlState) → AreRight s p → GoesWhole s p.split
html-whole law p h at_text may found s right = inr (may, ends_so s p.heard h (current_is_plan kinds.AnyHtml p.split) (Ok true) found (html-right law s p at_text may right))

-- white space
pub blanks-further : AreValid → BlanksCome → RightTokens → TextLeads → (old new : Stage) (l : Lexer) (u : Unread) (text : List ℕ) → IsReady old → PlainStepped old.lexer old.input l u text → list_all is_blank text ≡ true
    → Handled (lexed old l u) new (Characters White text ∷ []) → GoesFurther old new
blanks-further valid law right lead old new l u text ready stepped blank handled = record {
  asked = handled.asked;
  noted = handled.noted;
  reads = λ w all r.
      let c : ControlState = control_at w.older old in
      let done : IsHandled w.older (lexed old l u) new (Characters White text ∷ []) = handled.over w.older all r.over (record { read = tt; inside = inl tt }, tt) in
      reads-on w old new l u (Characters White text ∷ []) done handled.input (leads-named w.told w.name w.older old.lexer.names old.lexer l old.input u stepped.stepped.0.es stepped.stepped.0.leads r.named) r
      (run-further w c r.edits White text l u
      (law built_in w.name w.base w.older w.from c r.edits old.lexer l old.input u text r.comes ready.names (control-valid valid w.older old r.over) stepped blank
      (untouched-one w.older c (Characters White text) done.own)));
  rightly = handled-rightly right old new l u (Characters White text ∷ []) (blanks-led lead old l u text ready stepped blank) handled;
  kind = handled.kind;
}

-- moves that emit nothing
pub silent-further : SilenceComes → RightSilence → SilenceLeads → (old : Stage) (l : Lexer) (u : Unread) → IsReady old → Reaches old.lexer old.input l u [] false → GoesFurther old (lexed old l u)
silent-further law right lead old l u ready reached = record {
  asked = [];
  noted = noted-none old.heard;
  reads = λ w all r. record {
    named = leads-named w.told w.name w.older old.lexer.names old.lexer l old.input u reached.es reached.leads r.named;
    unpaged = r.unpaged;
    over = r.over;
    edits = r.edits;
    comes = law built_in w.name w.base w.older w.from (control_at w.older old) r.edits old.lexer l old.input u r.comes ready.names reached;
    amounts = r.amounts;
  };
  rightly = silence-rightly right lead old l u ready reached;
  kind = refl;
}

-- nothing was done
pub same-further : (old new : Stage) → new ≡ old → GoesFurther old new
same-further old new is = subst (GoesFurther old) (sym is) (none-further old)

-- something was found out, and the lexer was told
told-reads : (w : Way) (old new : Stage) (r : HasRead w old) → new.split ≡ old.split → new.sink ≡ old.sink → IsNamed w.told w.name w.older new.lexer
    → HasCome built_in w.name w.base w.older w.from (stands new.lexer new.input) (control_at w.older old) r.edits → HasRead w new
told-reads w old new r split sink named comes = record {
  named = named;
  unpaged = λ guess. ap (λ (v : Split). v.page) split ∙ r.unpaged guess;
  over = subst (IsOver w.older) (sym split) r.over;
  edits = r.edits;
  comes =
      subst (λ (v : Split). HasCome built_in w.name w.base w.older w.from (stands new.lexer new.input) (record (state_over v w.older) { lex = lex_start }) r.edits) (sym split) comes;
  amounts =
      subst (λ (v : Split). Amounts w.kind new.sink w.older v.edits r.edits) (sym split)
      (subst (λ x. Amounts w.kind x w.older old.split.edits r.edits) (sym sink) r.amounts);
}

-- before a character it was asked whether the older current node is HTML, and nothing else was done
pub html-further : RightBeforeText → (old : Stage) (h : Heard) (v : Split) (b : Bool) → IsAtText (stands old.lexer old.input) → may_take_text old.split ≡ true → Runs old.heard h (current_is_plan kinds.AnyHtml old.split) (Ok b) → v ≡ old.split
    → GoesFurther old (record old { heard = h; split = v })
html-further law old h v b at_text may runs split = record {
  asked = asked_by old.heard.says (current_is_plan kinds.AnyHtml old.split);
  noted = runs.noted;
  reads = λ w all r. told-reads w old (record old { heard = h; split = v }) r split refl r.named r.comes;
  rightly = html-rightly law old h v b at_text may runs split;
  kind = refl;
}

-- the question after `<![CDATA[`
pub section-further : SectionComes → ForeignTold → RightSection → SectionLeads → (old new : Stage) (l : Lexer) (u : Unread) (foreign : Bool) → IsReady old → ReachesCdata old.lexer old.input l u → Runs old.heard new.heard (foreign_now_plan old.split) (Ok foreign)
    → new.split ≡ old.split → new.sink ≡ old.sink → new.lexer ≡ record l { asked = asked.CdataAnswered foreign } → new.input ≡ u → GoesFurther old new
section-further law found right lead old new l u foreign ready reached runs split sink lexer input = record {
  asked = asked_by old.heard.says (foreign_now_plan old.split);
  noted = runs.noted;
  reads = λ w all r.
      told-reads w old new r split sink (section-named w.told w.name w.older old.lexer l new.lexer old.input u reached (ap (λ (x : Lexer). x.lex) lexer) r.named)
      (subst (λ (k : Lexing). HasCome built_in w.name w.base w.older w.from k (control_at w.older old) r.edits)
      (sym (ap (λ (x : Lexer). stands x new.input) lexer ∙ ap (λ (v : Unread). stands (record l { asked = asked.CdataAnswered foreign }) v) input))
      (law built_in w.name w.base w.older w.from (control_at w.older old) r.edits old.lexer l old.input u foreign r.comes ready.names reached
      (found w.older old.split old.heard new.heard foreign runs all r.over)));
  rightly = section-rightly right lead old new l u foreign ready reached runs split lexer input;
  kind = ap kind_of sink;
}

-- the last start tag's name, which is asked only where it isn't known
pub name-further : NameComes → LastTagTold → RightName → SilenceLeads → (old new : Stage) (l : Lexer) (u : Unread) (name : List ℕ) → IsReady old → Stepped old.lexer old.input l u steps.AskLastTag → Runs old.heard new.heard ask_last_tag (Ok name)
    → new.split ≡ old.split → new.sink ≡ old.sink → new.lexer ≡ told name l → new.input ≡ u → GoesFurther old new
name-further law found right lead old new l u name ready stepped runs split sink lexer input = record {
  asked = asked_by old.heard.says ask_last_tag;
  noted = runs.noted;
  reads = λ w all r.
      let own : name ≡ w.name =
      found w.older old.heard new.heard name runs all ∙ sym (asked-named w.told w.name w.older old.lexer.names old.lexer l old.input u stepped.0.es stepped.0.leads stepped.1 r.named) in
      told-reads w old new r split sink (told-named w.told w.name w.older old.lexer new.lexer name (ap (λ (x : Lexer). x.lex.machine.last_tag) lexer) r.named)
      (subst (λ (k : Lexing). HasCome built_in w.name w.base w.older w.from k (control_at w.older old) r.edits)
      (sym (ap (λ (x : Lexer). stands x new.input) lexer ∙ (ap (λ (n : List ℕ). stands (told n l) new.input) own ∙ ap (λ (v : Unread). stands (told w.name l) v) input)))
      (law built_in w.name w.base w.older w.from (control_at w.older old) r.edits old.lexer l old.input u r.comes ready.names stepped));
  rightly = name-rightly right lead found old new l u name ready stepped runs split lexer input;
  kind = ap kind_of sink;
}

-- the text is used up
pub cut-ends : CutEnds → (old : Stage) (l : Lexer) (u : Unread) → IsReady old → Stepped old.lexer old.input l u steps.AtCut → GoesToEnd old (lexed old l u)
cut-ends law old l u ready stepped = record {
  asked = [];
  noted = noted-none old.heard;
  reads = λ w all r. record {
    named = cut-named w r;
    unpaged = r.unpaged;
    over = r.over;
    edits = r.edits;
    ended = law built_in w.name w.base w.older w.from (control_at w.older old) r.edits old.lexer l old.input u r.comes ready.names stepped;
    amounts = r.amounts;
  };
  right = λ s right. tt;
  kind = refl;
}
  where
    cut-named : (w : Way) → HasRead w old → IsNamed w.told w.name w.older l
    cut-named w r =
        same-named w.told w.name w.older (record l { rested = stepped.rested }) l refl
        (leads-named w.told w.name w.older old.lexer.names old.lexer (record l { rested = stepped.rested }) old.input u stepped.advances.es stepped.advances.leads r.named)
