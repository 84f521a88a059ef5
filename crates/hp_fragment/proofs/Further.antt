-- Parts of a run, one behind the other.
use Rattle.std.proofs.Common.{◌≡◌, ◌++◌, ◌∙◌, [], Bool, true, false, List, refl, subst}
use Rattle.hp_control.specs.Agree.{AllTrue}
use Rattle.hp_control.specs.Plan.{Heard, noting}
use Rattle.hp_control.specs.States.{ControlState}
use Rattle.hp_control.specs.declared.question.Answer.{Answer}
use Rattle.hp_control.specs.declared.question.Question.{Question}
use Rattle.hp_older.proofs.Truly.{true-front}
use Rattle.hp_fragment.proofs.Asking.{noted-none, noted-then, same-says, true-join, true-then}
use Rattle.hp_fragment.proofs.Leading.{nothing-asked}
use Rattle.hp_fragment.specs.Reading.{AreRight, AsksRightly, Crosses, GoesFurther, GoesToEnd, Stage, WentOn}

pub none-further : (p : Stage) → GoesFurther p p
none-further p = record { asked = []; noted = noted-none p.heard; reads = λ w all r. r; rightly = nothing-asked p; kind = refl }

-- what was asked in both was answered truly
both-true : (s : ControlState) (a b : Heard) (xs ys : List Question) → b ≡ noting a xs → AllTrue s a.says xs → AllTrue s b.says ys → AllTrue s a.says (xs ++ ys)
both-true s a b xs ys noted h k = true-join s a.says xs ys h (subst (λ (says : Question → Answer). AllTrue s says ys) (same-says a b xs noted) k)

pub further-then : (a b c : Stage) → GoesFurther a b → GoesFurther b c → GoesFurther a c
further-then a b c f g = record {
  asked = f.asked ++ g.asked;
  noted = noted-then a.heard b.heard c.heard f.asked g.asked f.noted g.noted;
  reads = λ w all r.
      g.reads w (true-then w.older a.heard b.heard f.asked g.asked f.noted all) (f.reads w (true-front w.older a.heard.says f.asked g.asked all) r);
  rightly = λ s right.
      let first = f.rightly s right in
      let second = g.rightly s first.1 in
      (both-true s a.heard b.heard f.asked g.asked f.noted first.0 second.0, second.1);
  kind = g.kind ∙ f.kind;
}

-- what was asked before is asked rightly too
right-behind : (a b : Stage) (xs ys : List Question) → b.heard ≡ noting a.heard xs → AsksRightly a b xs → ((s : ControlState) → AreRight s b → AllTrue s b.heard.says ys)
    → (s : ControlState) → AreRight s a → AllTrue s a.heard.says (xs ++ ys)
right-behind a b xs ys noted rightly next s right =
    let first = rightly s right in
    both-true s a.heard b.heard xs ys noted first.0 (next s first.1)

pub end-behind : (a b c : Stage) → GoesFurther a b → GoesToEnd b c → GoesToEnd a c
end-behind a b c f g = record {
  asked = f.asked ++ g.asked;
  noted = noted-then a.heard b.heard c.heard f.asked g.asked f.noted g.noted;
  reads = λ w all r.
      g.reads w (true-then w.older a.heard b.heard f.asked g.asked f.noted all) (f.reads w (true-front w.older a.heard.says f.asked g.asked all) r);
  right = right-behind a b f.asked g.asked f.noted f.rightly g.right;
  kind = g.kind ∙ f.kind;
}

pub cross-behind : (a b c : Stage) → GoesFurther a b → Crosses b c → Crosses a c
cross-behind a b c f g = record {
  asked = f.asked ++ g.asked;
  noted = noted-then a.heard b.heard c.heard f.asked g.asked f.noted g.noted;
  touches = λ w base all r.
      g.touches w base (true-then w.older a.heard b.heard f.asked g.asked f.noted all) (f.reads w (true-front w.older a.heard.says f.asked g.asked all) r);
  right = right-behind a b f.asked g.asked f.noted f.rightly g.right;
}

pub went-on : (old new : Stage) (more : Bool) → more ≡ true → WentOn old new more → GoesFurther old new
went-on old new more is h = subst (WentOn old new) is h

pub went-to-end : (old new : Stage) (more : Bool) → more ≡ false → WentOn old new more → GoesToEnd old new
went-to-end old new more is h = subst (WentOn old new) is h
