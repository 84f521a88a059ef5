use Rattle.hp_print.proofs.items.print_item.Goals as goal

pub returns-in-Doctype-clause-printed : goal.returns-in-Doctype-clause-printed
returns-in-Doctype-clause-printed g c = λ t tag. rw c.in-Doctype.is c.print_doctype.ensures

pub returns-in-Text-clause-printed : goal.returns-in-Text-clause-printed
returns-in-Text-clause-printed g c = λ t tag. rw c.in-Text.is c.print_text.ensures

pub returns-in-Comment-clause-printed : goal.returns-in-Comment-clause-printed
returns-in-Comment-clause-printed g c = λ t tag. rw c.in-Comment.is c.print_comment.ensures

pub returns-in-Element-clause-printed : goal.returns-in-Element-clause-printed
returns-in-Element-clause-printed g c = λ t tag.
    let here = rw c.in-Element.is at tag in
    rw (c.in-Element.is, here) c.print_element.ensures.printed
