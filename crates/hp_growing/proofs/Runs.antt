-- Runs name what is there.
use Rattle.std.proofs.Common.{ℕ, List, [], ◌∷◌, ◌++◌, subst}
use Rattle.hp_tokens.specs.Moves.{Emitted, Move, Rules, asks_cdata, asks_last_tag, ends, end_move, makes, move, needs_more}
use Rattle.hp_control.specs.declared.edit.Edit.{Edit}
use Rattle.hp_control.specs.States.{ControlState}
use Rattle.hp_elements.specs.declared.token.Token.{Token}
use Rattle.hp_model.specs.AtOnce.{built_at_once, handle_at_once}
use Rattle.hp_model.specs.Handling.{handle}
use Rattle.hp_model.specs.Runs.{EndsWith, Goes, Parser, Step, at_lexing, before_it, built, goes, here, last, onward, rests, step, step_by, told}
use Rattle.hp_growing.specs.Laws.{EndsNameThere, RunsNameThere, TokensNameThere}
use Rattle.hp_growing.specs.Naming.{NamesThere}
use Rattle.hp_growing.proofs.There.{names_none, names_then}
use Rattle.hp_growing.proofs.Making.{Has}
use Rattle.hp_growing.proofs.Handled.{makes_at_once, makes_handled, valid-has}

-- what leads from one state to another: it names what is there, and what it leaves has its ids
abbrev pub Leads : ControlState → List Edit → ControlState → Type 0
Leads c es d = NamesThere c.next es d.next × Has d

leads_then : (b c d : ControlState) (es fs : List Edit) → Leads b es c → Leads c fs d → Leads b (es ++ fs) d
leads_then b c d es fs f g = (names_then b.next c.next d.next es fs f.0 g.0, g.1)

built_leads : (es : List Emitted) (p : Parser) → Has p.control → Leads p.control (built p es).edits (built p es).parser.control
built_leads [] p h = (names_none p.control.next, h)
built_leads (e ∷ es) p h =
    let k = handle p.control e.token in
    let first = makes_handled p.control e.token h in
    leads_then p.control k.outcome.control (built (told p k) es).parser.control k.outcome.edits (built (told p k) es).edits first (built_leads es (told p k) first.1)

abbrev StepLeads : ControlState → Step → Type 0
StepLeads c rests = Unit {0}
StepLeads c (goes q es) = Leads c es q.control

step_leads : (p : Parser) (m : Move) → Has p.control → StepLeads p.control (step_by p m)
step_leads p needs_more h = tt
step_leads p (asks_cdata foreign html) h = (names_none p.control.next, h)
step_leads p asks_last_tag h = tt
step_leads p (makes l es) h = built_leads es (at_lexing p l) h
step_leads p (ends es) h = tt

pub way_leads : (rules : Rules) → {p q : Parser} {es : List Edit} → Goes (step rules) p es q → Has p.control → Leads p.control es q.control
way_leads rules {p} here h = (names_none p.control.next, h)
way_leads rules {p} {q} (onward {q = m} {es = es} {fs = fs} e g) h =
    let first : Leads p.control es m.control = subst (StepLeads p.control) e (step_leads p (move rules p.lexing) h) in
    leads_then p.control m.control q.control es fs first (way_leads rules g first.1)

pub runs-name_there : RunsNameThere
runs-name_there rules old new es way v = (way_leads rules way (valid-has old.control v)).0

-- the end of input
pub end_leads : (rules : Rules) → {p : Parser} {es : List Edit} → EndsWith rules p es → Has p.control → (later : ℕ) × NamesThere p.control.next es later
end_leads rules {p} (last {es = es} e) h = ((built p es).parser.control.next, (built_leads es p h).0)
end_leads rules {p} (before_it {q = q} {es = es} {fs = fs} e g) h =
    let first : Leads p.control es q.control = subst (StepLeads p.control) e (step_leads p (end_move rules p.lexing) h) in
    let (later, rest) = end_leads rules g first.1 in
    (later, names_then p.control.next q.control.next later es fs first.0 rest)

pub ends-name_there : EndsNameThere
ends-name_there rules p es f v = let (later, names) = end_leads rules f (valid-has p.control v) in names.named

-- tokens at once
tokens_lead : (ts : List Token) (p : Parser) → Has p.control → Leads p.control (built_at_once p ts).edits (built_at_once p ts).parser.control
tokens_lead [] p h = (names_none p.control.next, h)
tokens_lead (t ∷ ts) p h =
    let k = handle_at_once p.control t in
    let first = makes_at_once p.control t h in
    leads_then p.control k.outcome.control (built_at_once (told p k) ts).parser.control k.outcome.edits (built_at_once (told p k) ts).edits first (tokens_lead ts (told p k) first.1)

pub tokens-name_there : TokensNameThere
tokens-name_there ts p v = (tokens_lead ts p (valid-has p.control v)).0
