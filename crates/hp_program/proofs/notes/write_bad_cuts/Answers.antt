use Rattle.std.proofs.Common.{ap, sym}
use Rattle.hp_program.specs.Notes.{bad_cuts_line}
use Rattle.hp_program.proofs.Noted.{noted_as}
use Rattle.hp_program.proofs.notes.write_bad_cuts.Goals as goal

pub returns-in-NotRising : goal.returns-in-NotRising
returns-in-NotRising g c = noted_as _ (bad_cuts_line c.args.refusal) _ (sym (ap bad_cuts_line c.in-NotRising.is)) c.write_number.ensures

pub returns-in-PastEnd : goal.returns-in-PastEnd
returns-in-PastEnd g c = noted_as _ (bad_cuts_line c.args.refusal) _ (sym (ap bad_cuts_line c.in-PastEnd.is)) c.write_number-in-PastEnd.ensures

pub returns-in-NotABoundary : goal.returns-in-NotABoundary
returns-in-NotABoundary g c = noted_as _ (bad_cuts_line c.args.refusal) _ (sym (ap bad_cuts_line c.in-NotABoundary.is)) c.write_number-in-NotABoundary.ensures

pub returns-in-TooMany : goal.returns-in-TooMany
returns-in-TooMany g c = noted_as _ (bad_cuts_line c.args.refusal) _ (sym (ap bad_cuts_line c.in-TooMany.is)) c.write_text.ensures

pub returns-in-NoMemory : goal.returns-in-NoMemory
returns-in-NoMemory g c = noted_as _ (bad_cuts_line c.args.refusal) _ (sym (ap bad_cuts_line c.in-NoMemory.is)) c.write_text-in-NoMemory.ensures
