-- Runs of the sequential parser: over two texts in a row, and that there is one.
use Rattle.std.proofs.Common.{◌≡◌, ℕ, List, [], ◌∷◌, ◌++◌, Bool, true, false, refl, ap, ◌∙◌, sym, subst, append_assoc, Option, None, Some}
use Rattle.std.specs.Prelude.{if◌then◌else◌}
use Rattle.hp_elements.specs.declared.token.Rest.{Rest}
use Rattle.hp_tokens.specs.Moves.{Lexing, Emitted, Move, needs_more, asks_cdata, asks_last_tag, makes, ends, Rules, move, end_move}
use Rattle.hp_tokens.specs.Runs.{followed_by as more_unread, IsSteady, Stays}
use Rattle.hp_tokens.proofs.Pieces.{move-stays}
use Rattle.hp_control.specs.declared.edit.Edit.{Edit}
use Rattle.hp_control.specs.Composed.{is_foreign_now}
use Rattle.hp_control.specs.Tree.{Tree, applied_all, document}
use Rattle.hp_model.specs.Handling.{handle}
use Rattle.hp_model.specs.Turns.{Handled, left_by}
use Rattle.hp_control.specs.States.{IsValid}
use Rattle.hp_model.proofs.Handled.{handle-valid}
use Rattle.hp_model.specs.Runs.{AreRead, ReadsHtml, Parser, Built, Step, rests, goes, going, Goes, here, onward, Rests, RunsOver, EndsWith, last, before_it, Parses, at_lexing, at_start, built, followed_by, step, step_by, switched, told}

switched-followed : (to : Option Rest) (l : Lexing) (text : List ℕ) → switched to (more_unread l text) ≡ more_unread (switched to l) text
switched-followed None l text = refl
switched-followed (Some rest) l text = refl

abbrev followed_built : List ℕ → Built → Built
followed_built text b = record { parser = followed_by b.parser text; edits = b.edits }

told-followed : (p : Parser) (h : Handled) (text : List ℕ) → told (followed_by p text) h ≡ followed_by (told p h) text
told-followed p h text = ap (λ (l : Lexing). record { lexing = l; control = left_by h }) (switched-followed h.switch p.lexing text)

built-followed : (es : List Emitted) (p : Parser) (text : List ℕ) → built (followed_by p text) es ≡ followed_built text (built p es)
built-followed [] p text = refl
built-followed (e ∷ es) p text =
    let h = handle p.control e.token in
    let rest = ap (λ (q : Parser). built q es) (told-followed p h text) ∙ built-followed es (told p h) text in
    ap (λ (b : Built). record { parser = b.parser; edits = h.outcome.edits ++ b.edits }) rest

abbrev followed_step : List ℕ → Step → Step
followed_step text rests = rests
followed_step text (goes q es) = goes (followed_by q text) es

either-followed : (b : Bool) (x y : Lexing) (text : List ℕ) → (if b then more_unread x text else more_unread y text) ≡ more_unread (if b then x else y) text
either-followed true x y text = refl
either-followed false x y text = refl

-- a step that is made stays made when more text follows
pub goes-followed : (p : Parser) (now later : Move) (text : List ℕ) (q : Parser) (es : List Edit) → Stays now later text → step_by p now ≡ goes q es → step_by (followed_by p text) later ≡ goes (followed_by q text) es
goes-followed p needs_more later text q es s e = absurd (cc)
goes-followed p (asks_cdata foreign html) later text q es s e =
    ap (step_by (followed_by p text)) s
    ∙ (ap (λ (l : Lexing). goes (at_lexing p l) []) (either-followed (is_foreign_now p.control) foreign html text)
    ∙ ap (followed_step text) e)
goes-followed p asks_last_tag later text q es s e = absurd (cc)
goes-followed p (makes l ts) later text q es s e =
    ap (step_by (followed_by p text)) s ∙ (ap going (built-followed ts (at_lexing p l) text) ∙ ap (followed_step text) e)
goes-followed p (ends ts) later text q es s e = absurd (cc)

Goes-followed : (rules : Rules) → IsSteady rules → {p q : Parser} {es : List Edit} (text : List ℕ) → Goes (step rules) p es q → Goes (step rules) (followed_by p text) es (followed_by q text)
Goes-followed rules steady text here = here
Goes-followed rules steady {p} text (onward {q = q} {es = es} e r) =
    onward (goes-followed p (move rules p.lexing) (move rules (more_unread p.lexing text)) text q es (move-stays rules steady p.lexing text) e) (Goes-followed rules steady text r)

Goes-join : {next : Parser → Step} {p q r : Parser} {es fs : List Edit} → Goes next p es q → Goes next q fs r → Goes next p (es ++ fs) r
Goes-join here g = g
Goes-join {next} {p} {r = r} {fs = fs} (onward {es = first} {fs = later} e g) h =
    let P : List Edit → Type 0 = λ xs. Goes next p xs r in
    subst P (sym (append_assoc first later fs)) (onward e (Goes-join g h))

pub followed-again : (p : Parser) (a b : List ℕ) → followed_by (followed_by p a) b ≡ followed_by p (a ++ b)
followed-again p a b = ap (λ (u : List ℕ). at_lexing p (record p.lexing { unread = u })) (append_assoc p.lexing.unread a b)

pub runs-join : (rules : Rules) → IsSteady rules → (old mid new : Parser) (a b : List ℕ) (es fs : List Edit) → RunsOver rules old a es mid → RunsOver rules mid b fs new → RunsOver rules old (a ++ b) (es ++ fs) new
runs-join rules steady old mid new a b es fs f g =
    let P : Parser → Type 0 = λ p. Goes (step rules) p (es ++ fs) new in
    record {
      goes = subst P (followed-again old a b) (Goes-join (Goes-followed rules steady b f.goes) g.goes);
      rests = g.rests;
    }

pub goes-same : (p q : Parser) (es fs : List Edit) → goes p es ≡ goes q fs → (p ≡ q) × (es ≡ fs)
goes-same p q es fs e = (cc, cc)

one_way : {next : Parser → Step} {p q r : Parser} {es fs : List Edit} → Goes next p es q → Rests next q → Goes next p fs r → Rests next r → (es ≡ fs) × (q ≡ r)
one_way here w here v = (refl, refl)
one_way here w (onward f g) v = absurd (w.no_step _ _ f)
one_way (onward e g) w here v = absurd (v.no_step _ _ e)
one_way {next} (onward {q = m} {r = q} {es = es} {fs = later} e g) w (onward {q = n} {r = r} {es = fs} {fs = others} f h) v =
    let s : (m ≡ n) × (es ≡ fs) = goes-same m n es fs (sym e ∙ f) in
    let P : Parser → Type 0 = λ x. Goes next x others r in
    let rest : (later ≡ others) × (q ≡ r) = one_way g w (subst P (sym s.0) h) v in
    (cc (s.1, rest.0), rest.1)

pub one_run : (rules : Rules) (old new other : Parser) (text : List ℕ) (es fs : List Edit) → RunsOver rules old text es new → RunsOver rules old text fs other → (es ≡ fs) × (new ≡ other)
one_run rules old new other text es fs f g = one_way f.goes f.rests g.goes g.rests

ends_goes : (p q : Parser) (es : List Emitted) (fs : List Edit) (m : Move) → m ≡ ends es → step_by p m ≡ goes q fs → ⊥
ends_goes p q es fs m e f = none (sym (ap (step_by p) e) ∙ f)
  where
    none : rests ≡ goes q fs → ⊥
    none h = cc

one_end : {rules : Rules} {p : Parser} {es fs : List Edit} → EndsWith rules p es → EndsWith rules p fs → es ≡ fs
one_end {rules} {p} (last {es = es} e) (last {es = fs} f) = ap (λ (x : List Emitted). (built p x).edits) (same es fs (sym e ∙ f))
  where
    same : (a b : List Emitted) → ends a ≡ ends b → a ≡ b
    same a b h = cc
one_end {rules} {p} (last {es = es} e) (before_it {q = q} {es = fs} f h) = absurd (ends_goes p q es fs (end_move rules p.lexing) e f)
one_end {rules} {p} (before_it {q = q} {es = es} e g) (last {es = fs} f) = absurd (ends_goes p q fs es (end_move rules p.lexing) f e)
one_end {rules} {p} (before_it {q = m} {es = es} {fs = later} e g) (before_it {q = n} {es = fs} {fs = others} f h) =
    let s : (m ≡ n) × (es ≡ fs) = goes-same m n es fs (sym e ∙ f) in
    let P : Parser → Type 0 = λ x. EndsWith rules x others in
    let rest : later ≡ others = one_end g (subst P (sym s.0) h) in
    cc (s.1, rest)

pub one_tree : (rules : Rules) (page : List ℕ) (tree other : Tree) → Parses rules page tree → Parses rules page other → tree ≡ other
one_tree rules page tree other f g =
    let r : (f.edits ≡ g.edits) × (f.read ≡ g.read) = one_run rules at_start f.read g.read page f.edits g.edits f.runs g.runs in
    let P : Parser → Type 0 = λ x. EndsWith rules x g.at_end in
    let e : f.at_end ≡ g.at_end = one_end f.ends (subst P (sym r.1) g.ends) in
    f.builds ∙ (ap (λ (es : List Edit). applied_all document (es ++ f.at_end)) r.0 ∙ (ap (λ (es : List Edit). applied_all document (g.edits ++ es)) e ∙ sym g.builds))

built-valid : (es : List Emitted) (p : Parser) → AreRead es → IsValid p.control → IsValid (built p es).parser.control
built-valid [] p read v = v
built-valid (e ∷ es) p read v = built-valid es (told p (handle p.control e.token)) read.1 (handle-valid e.token p.control read.0 v)

pub goes_valid : (p q : Parser) (es : List Edit) (m : Move) → ((l : Lexing) (ts : List Emitted) → m ≡ makes l ts → AreRead ts) → step_by p m ≡ goes q es → IsValid p.control → IsValid q.control
goes_valid p q es needs_more read e v = absurd (cc)
goes_valid p q es (asks_cdata foreign html) read e v =
    subst (λ (x : Parser). IsValid x.control) (goes-same (at_lexing p (if is_foreign_now p.control then foreign else html)) q [] es e).0 v
goes_valid p q es asks_last_tag read e v = absurd (cc)
goes_valid p q es (makes l ts) read e v =
    subst (λ (x : Parser). IsValid x.control) (goes-same (built (at_lexing p l) ts).parser q (built (at_lexing p l) ts).edits es e).0 (built-valid ts (at_lexing p l) (read l ts refl) v)
goes_valid p q es (ends ts) read e v = absurd (cc)

way-valid : (rules : Rules) → ReadsHtml rules → {p q : Parser} {es : List Edit} → Goes (step rules) p es q → IsValid p.control → IsValid q.control
way-valid rules html here v = v
way-valid rules html {p} (onward {q = q} {es = es} e g) v =
    way-valid rules html g (goes_valid p q es (move rules p.lexing) (λ l ts m. html.emits p.lexing l ts m) e v)

pub runs-valid : (rules : Rules) → ReadsHtml rules → (old new : Parser) (text : List ℕ) (es : List Edit) → RunsOver rules old text es new → IsValid old.control → IsValid new.control
runs-valid rules html old new text es f v = way-valid rules html f.goes v
