use Rattle.std.proofs.Common.{◌≡◌, ℕ, Bool, true, false, Option, Ok, ap, sym, subst, refl, ◌∙◌}
use Rattle.hp_elements.specs.declared.kinds.Kinds.TheVariants as kinds
use Rattle.hp_elements.specs.declared.token.Kind.{Kind}
use Rattle.hp_control.specs.declared.element.OpenElement.{OpenElement}
use Rattle.hp_control.specs.Plan.{Heard, Plan, Runs, gives, followed_by}
use Rattle.hp_control.specs.Running.{runs_gives, runs_then}
use Rattle.hp_views.specs.Asking.{ask_seen}
use Rattle.hp_foreign.specs.Plans.{ask_element, foreign_one, unless_html}
use Rattle.hp_foreign.proofs.dispatch.older_goes.Goals as goal

is_html : (a b : Heard) (token : Kind) (depth : ℕ) (p : Plan Bool) (seen : Bool) → Runs a b p (Ok seen) → seen ≡ true → Runs a b (followed_by p (unless_html token depth)) (Ok false)
is_html a b token depth p true run is = runs_then (unless_html token depth) run (runs_gives b false)
is_html a b token depth p false run is = absurd (cc)

not_html : (a m b : Heard) (token : Kind) (depth : ℕ) (p : Plan Bool) (seen : Bool) (o : Option OpenElement) (goes : Bool) → Runs a m p (Ok seen) → seen ≡ false → Runs m b (ask_element depth) (Ok o) → foreign_one token o ≡ goes
    → Runs a b (followed_by p (unless_html token depth)) (Ok goes)
not_html a m b token depth p true o goes run is next told = absurd (cc)
not_html a m b token depth p false o goes run is next told =
    let P : Bool → Type 0 = λ x. Runs m b (followed_by (ask_element depth) (λ q. gives (foreign_one token q))) (Ok x) in
    runs_then (unless_html token depth) run (subst P told (runs_then (λ q. gives (foreign_one token q)) next (runs_gives b (foreign_one token o))))

pub returns-then-branch : goal.returns-then-branch
returns-then-branch g c =
    let depth = c.args.view.now.change.popped in
    record {
      runs = is_html (g.B.Below.heard c.args.view.now.below) (g.B.Below.heard c.older_html.new.below) c.args.kind depth (ask_seen depth kinds.AnyHtml kinds.All) c.in_ok-older_html.field-0 c.in_ok-older_html.ensures c.if-branch.true;
      same = refl;
    }

pub returns-in-Some : goal.returns-in-Some
returns-in-Some g c =
    let depth = c.args.view.now.change.popped in
    record {
      runs = not_html (g.B.Below.heard c.args.view.now.below) (g.B.Below.heard c.older_html.new.below) (g.B.Below.heard c.older_element.new.below) c.args.kind depth (ask_seen depth kinds.AnyHtml kinds.All) c.in_ok-older_html.field-0 c.in_ok-element.field-0 c.is_foreign_at.result
          c.in_ok-older_html.ensures c.if-branch.false c.in_ok-element.ensures (ap (foreign_one c.args.kind) c.in-Some.is ∙ sym c.is_foreign_at.ensures);
      same = refl;
    }

pub returns-in-None : goal.returns-in-None
returns-in-None g c =
    let depth = c.args.view.now.change.popped in
    record {
      runs = not_html (g.B.Below.heard c.args.view.now.below) (g.B.Below.heard c.older_html.new.below) (g.B.Below.heard c.older_element.new.below) c.args.kind depth (ask_seen depth kinds.AnyHtml kinds.All) c.in_ok-older_html.field-0 c.in_ok-element.field-0 false
          c.in_ok-older_html.ensures c.if-branch.false c.in_ok-element.ensures (ap (foreign_one c.args.kind) c.in-None.is);
      same = refl;
    }
