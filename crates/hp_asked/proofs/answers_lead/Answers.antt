use Rattle.hp_asked.proofs.Calls.{section-leads, silence-leads, tag-leads, text-leads, tokens-lead}
use Rattle.hp_asked.proofs.answers_lead.Goals as goal

pub returns : goal.returns
returns c = record { tokens = tokens-lead; text = text-leads; tag = tag-leads; silence = silence-leads; section = section-leads }
