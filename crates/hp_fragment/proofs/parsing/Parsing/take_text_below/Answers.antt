use Rattle.std.proofs.Common.{Bool, map, subst, sym, true, ◌≡◌, ◌∙◌, ap}
use Rattle.std.specs.Prelude.{◌-◌, ◌^◌}
use Rattle.hp_elements.specs.declared.kinds.Kinds.TheVariants as kinds
use Rattle.hp_tokens.specs.Rows.{character}
use Rattle.hp_control.specs.Faithful.{Split}
use Rattle.hp_control.specs.Plan.{Heard}
use Rattle.hp_acts.specs.Plain.{may_take_text}
use Rattle.hp_views.specs.StackPlans.{current_is_plan}
use Rattle.hp_views.specs.View.{Finds, sight, split_of}
use Rattle.hp_fragment.proofs.Crossing.{text-crosses, touched-below}
use Rattle.hp_fragment.proofs.Leading.{lexed}
use Rattle.hp_fragment.proofs.Refusing.{never-crosses, refused-so}
use Rattle.hp_fragment.proofs.Stepping.{found-below, html-further, html-whole, text-further}
use Rattle.hp_fragment.proofs.Turning.{asked-nowhere, step-smaller}
use Rattle.hp_fragment.specs.Reading.{GoesFurther, Stage, TextHandled, WentStraight, stage}
use Rattle.hp_fragment.proofs.parsing.Parsing.take_text_below.Goals as goal

pub put_text_below-requires : goal.put_text_below-requires
put_text_below-requires g c =
    record { may = subst (λ (v : Split). may_take_text v ≡ true) (sym (ap (λ (p : Stage). p.split) c.in-Some.ensures.same ∙ c.in_ok-current_is.ensures.same)) c.requires.may }

pub returns-then-not-branch-clause-tried : goal.returns-then-not-branch-clause-tried
returns-then-not-branch-clause-tried g c = asked-nowhere (stage g.B.Below.heard c.args.self.now) (g.B.Below.heard c.current_is.new.self.below) (split_of c.current_is.new.self) c.requires.ready

pub returns-then-not-branch-clause-reads : goal.returns-then-not-branch-clause-reads
returns-then-not-branch-clause-reads g c =
    html-further c.right_goes_on.ensures.before_text (stage g.B.Below.heard c.args.self.now) (g.B.Below.heard c.current_is.new.self.below) (split_of c.current_is.new.self) _ c.requires.at_text c.requires.may c.in_ok-current_is.ensures.runs c.in_ok-current_is.ensures.same

pub returns-in_ok-put_text_below-in-Some-clause-tried : goal.returns-in_ok-put_text_below-in-Some-clause-tried
returns-in_ok-put_text_below-in-Some-clause-tried g c =
    let P : Bool → Type 0 = λ b. Finds (sight g.B.Below.heard c.args.self.now.view) (sight g.B.Below.heard c.current_is.new.self) (current_is_plan kinds.AnyHtml) b in
    let found : P true = subst P c.if-not-branch.false c.in_ok-current_is.ensures in
    let handled : TextHandled (lexed (stage g.B.Below.heard c.args.self.now) c.next_text.new.self.lexer c.next_text.new.self.input) (stage g.B.Below.heard c.put_text_below.new.self) c.in-Some.text =
    found-below (stage g.B.Below.heard c.args.self.now) (g.B.Below.heard c.current_is.new.self.below) (split_of c.current_is.new.self) c.next_text.new.self.lexer c.next_text.new.self.input (stage g.B.Below.heard c.next_text.new.self) (stage g.B.Below.heard c.put_text_below.new.self) c.in-Some.text
    found.runs found.same c.in-Some.ensures.same c.in_ok-put_text_below-in-Some.ensures.handled in
    step-smaller c.steps_fall.ensures.steps (stage g.B.Below.heard c.args.self.now) (stage g.B.Below.heard c.next_text.new.self) (stage g.B.Below.heard c.put_text_below.new.self) (map character c.in-Some.text)
    (c.next_text.new.self.lexer.rested - 2 ^ 32) c.requires.ready c.in-Some.ensures.stepped.stepped c.in-Some.ensures.held c.in-Some.ensures.names handled.handled.input handled.handled.turned

pub returns-in_ok-put_text_below-in-Some-clause-reads : goal.returns-in_ok-put_text_below-in-Some-clause-reads
returns-in_ok-put_text_below-in-Some-clause-reads g c =
    let P : Bool → Type 0 = λ b. Finds (sight g.B.Below.heard c.args.self.now.view) (sight g.B.Below.heard c.current_is.new.self) (current_is_plan kinds.AnyHtml) b in
    let found : P true = subst P c.if-not-branch.false c.in_ok-current_is.ensures in
    text-further c.views_over.ensures.valid c.comes_on.ensures.text c.right_goes_on.ensures.tokens c.answers_lead.ensures.text (stage g.B.Below.heard c.args.self.now) (stage g.B.Below.heard c.put_text_below.new.self) c.next_text.new.self.lexer c.next_text.new.self.input
    c.in-Some.text c.requires.ready c.in-Some.ensures.stepped (html-whole c.right_goes_on.ensures.before_text (stage g.B.Below.heard c.args.self.now) (g.B.Below.heard c.current_is.new.self.below) c.requires.at_text c.requires.may found.runs)
    (found-below (stage g.B.Below.heard c.args.self.now) (g.B.Below.heard c.current_is.new.self.below) (split_of c.current_is.new.self) c.next_text.new.self.lexer c.next_text.new.self.input (stage g.B.Below.heard c.next_text.new.self) (stage g.B.Below.heard c.put_text_below.new.self) c.in-Some.text
    found.runs found.same c.in-Some.ensures.same c.in_ok-put_text_below-in-Some.ensures.handled)

pub returns-in-None-clause-tried : goal.returns-in-None-clause-tried
returns-in-None-clause-tried g c =
    subst (WentStraight (stage g.B.Below.heard c.args.self.now)) (sym c.in-None.ensures) (asked-nowhere (stage g.B.Below.heard c.args.self.now) (g.B.Below.heard c.current_is.new.self.below) (split_of c.current_is.new.self) c.requires.ready)

pub returns-in-None-clause-reads : goal.returns-in-None-clause-reads
returns-in-None-clause-reads g c =
    subst (GoesFurther (stage g.B.Below.heard c.args.self.now)) (sym c.in-None.ensures)
    (html-further c.right_goes_on.ensures.before_text (stage g.B.Below.heard c.args.self.now) (g.B.Below.heard c.current_is.new.self.below) (split_of c.current_is.new.self) _ c.requires.at_text c.requires.may c.in_ok-current_is.ensures.runs c.in_ok-current_is.ensures.same)

pub returns-in_err-put_text_below-in-Some-clause-crossed : goal.returns-in_err-put_text_below-in-Some-clause-crossed
returns-in_err-put_text_below-in-Some-clause-crossed g c =
    let P : Bool → Type 0 = λ b. Finds (sight g.B.Below.heard c.args.self.now.view) (sight g.B.Below.heard c.current_is.new.self) (current_is_plan kinds.AnyHtml) b in
    let found : P true = subst P c.if-not-branch.false c.in_ok-current_is.ensures in
    let old : Stage = stage g.B.Below.heard c.args.self.now in
    let asked : Heard = g.B.Below.heard c.current_is.new.self.below in
    let mid : Stage = stage g.B.Below.heard c.next_text.new.self in
    let new : Stage = stage g.B.Below.heard c.put_text_below.new.self in
    refused-so c.from_residual-in_err-put_text_below-in-Some.result c.in_err-put_text_below-in-Some.field-0.0 c.from_residual-in_err-put_text_below-in-Some.ensures.1 c.in_err-put_text_below-in-Some.ensures.crossed (λ touched.
    text-crosses c.views_over.ensures.valid c.comes_to_touch.ensures.text c.right_goes_on.ensures.tokens c.answers_lead.ensures.text old new mid.lexer mid.input c.in-Some.text c.requires.ready c.in-Some.ensures.stepped
    (html-whole c.right_goes_on.ensures.before_text old asked c.requires.at_text c.requires.may found.runs)
    (touched-below old asked (split_of c.current_is.new.self) mid.lexer mid.input mid new c.in-Some.text found.runs found.same c.in-Some.ensures.same touched))

pub returns-in_err-current_is-clause-crossed : goal.returns-in_err-current_is-clause-crossed
returns-in_err-current_is-clause-crossed g c =
    never-crosses _ c.from_residual.result c.in_err-current_is.field-0.0 (sight g.B.Below.heard c.args.self.now.view) (sight g.B.Below.heard c.current_is.new.self) (current_is_plan kinds.AnyHtml) c.from_residual.ensures.1 c.in_err-current_is.ensures
