use Rattle.std.proofs.Common.{◌+◌, sym, ap, ◌∙◌, arith}
use Rattle.hp_arena.specs.Readers.{shown}
use Rattle.hp_print.specs.Print.{lines_of}
use Rattle.hp_print.specs.Stack.{pending}
use Rattle.hp_print.proofs.Steps.{pending-push, todo-push, marks-pop, marks-last, marks-high, shown_room}
use Rattle.hp_print.proofs.walk.Printing.print_next.Goals as goal

pub step-view-requires-clause-mark : goal.step-view-requires-clause-mark
step-view-requires-clause-mark g c =
    let marks = c.requires.ready.marks.in_tree in
    marks-last c.args.tree.now 0 c.pop.new.self.items c.in-Some.mark (rw c.in-Some.ensures.items at marks)

pub step-view-requires-clause-rising : goal.step-view-requires-clause-rising
step-view-requires-clause-rising g c =
    let marks = c.requires.ready.marks.in_tree in
    omega (arith, marks-high c.args.tree.now 0 c.pop.new.self.items c.in-Some.mark (rw c.in-Some.ensures.items at marks), c.pop.new.self.ok.0)

pub returns-clause-ready : goal.returns-clause-ready
returns-clause-ready g c =
    let i = c.requires.ready in
    let s = c.step-view.ensures.step in
    record {
      marks = record {
        in_tree = s.marks (marks-pop c.args.tree.now 0 c.pop.new.self.items c.in-Some.mark (rw c.in-Some.ensures.items at i.marks.in_tree));
        fit = c.step-view.ensures.room;
      };
      list = λ id below. omega (arith, i.list id below, c.print_item.ensures.room);
    }

pub returns-clause-printed : goal.returns-clause-printed
returns-clause-printed g c =
    let t = c.args.tree.now.branches in
    let s = c.step-view.ensures.step in
    let m = c.in-Some.mark in
    record {
      piece = lines_of t (m.level + m.templates) (shown c.step-view.result);
      printed = c.print_item.ensures.printed t s.tag;
      rest = sym s.text_is ∙ sym (pending-push t c.pop.new.self.items m) ∙ ap (pending t) (sym c.in-Some.ensures.items);
    }

pub returns-clause-fewer : goal.returns-clause-fewer
returns-clause-fewer g c one =
    let s = c.step-view.ensures.step in
    rw c.in-Some.ensures.items (omega (arith, s.steps_are, todo-push c.args.tree.now.branches c.pop.new.self.items c.in-Some.mark))

pub print_item-requires-clause-room : goal.print_item-requires-clause-room
print_item-requires-clause-room g c =
    let s = c.step-view.ensures.step in
    shown_room c.args.tree.now.branches c.step-view.result _ c.requires.ready.list s.tag s.there
