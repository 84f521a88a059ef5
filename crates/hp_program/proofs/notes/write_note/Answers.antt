use Rattle.std.proofs.Common.{ap, sym}
use Rattle.hp_program.specs.Outcomes.{note_of}
use Rattle.hp_program.proofs.Noted.{noted_as}
use Rattle.hp_program.proofs.notes.write_note.Goals as goal

pub returns-in-Usage : goal.returns-in-Usage
returns-in-Usage g c = noted_as _ (note_of c.args.outcome.now) _ (sym (ap note_of c.in-Usage.is)) c.write_text-in-Usage.ensures

pub returns-in-NotUtf8 : goal.returns-in-NotUtf8
returns-in-NotUtf8 g c = noted_as _ (note_of c.args.outcome.now) _ (sym (ap note_of c.in-NotUtf8.is)) c.write_number.ensures

pub returns-in-TooLarge : goal.returns-in-TooLarge
returns-in-TooLarge g c = noted_as _ (note_of c.args.outcome.now) _ (sym (ap note_of c.in-TooLarge.is)) c.write_text-in-TooLarge.ensures

pub returns-in-ReadFault : goal.returns-in-ReadFault
returns-in-ReadFault g c = noted_as _ (note_of c.args.outcome.now) _ (sym (ap note_of c.in-ReadFault.is)) c.write_text-in-ReadFault.ensures

pub returns-in-WriteFault : goal.returns-in-WriteFault
returns-in-WriteFault g c = noted_as _ (note_of c.args.outcome.now) _ (sym (ap note_of c.in-WriteFault.is)) c.write_number-in-WriteFault.ensures

pub returns-in-NoMemory : goal.returns-in-NoMemory
returns-in-NoMemory g c = noted_as _ (note_of c.args.outcome.now) _ (sym (ap note_of c.in-NoMemory.is)) c.write_text-in-NoMemory.ensures

pub returns-in-BadSelector : goal.returns-in-BadSelector
returns-in-BadSelector g c = noted_as _ (note_of c.args.outcome.now) _ (sym (ap note_of c.in-BadSelector.is)) c.write_text-in-BadSelector.ensures
