-- A lexer that knows the last start tag's name goes on to know one, and doesn't ask.
use Rattle.std.proofs.Common.{◌≡◌, ℕ, List, [], ◌∷◌, Bool, true, false, refl, ap, ◌∙◌, sym, subst, Option, None, Some}
use Rattle.std.specs.Option.{is_some, unwrap_or}
use Rattle.hp_elements.specs.declared.token.Rest.{Rest}
use Rattle.hp_elements.specs.declared.token.Token.{Token}
use Rattle.hp_names.specs.References.{Reference}
use Rattle.hp_tokens.specs.declared.lexing.LexState.{LexState}
use Rattle.hp_tokens.specs.declared.machine.Machine.{Machine}
use Rattle.hp_tokens.specs.Moves.{Emitted, Lexing, Move, asks_cdata, asks_last_tag, makes, move}
use Rattle.hp_tokens.specs.Reading.{Unread}
use Rattle.hp_tokens.specs.Runs.{Leads, here, onward}
use Rattle.hp_control.specs.States.{ControlState}
use Rattle.hp_lexer.specs.declared.lexer.Asked.{Asked}
use Rattle.hp_lexer.specs.declared.lexer.Asked.TheVariants as asked
use Rattle.hp_lexer.specs.declared.lexer.Lexer.{Lexer}
use Rattle.hp_lexer.specs.Standing.{ReachesCdata, opened, stands, stands_answered}
use Rattle.hp_lexer.specs.Table.{table}
use Rattle.hp_model.specs.Turns.{left_by}
use Rattle.hp_runs.specs.Filled.{FilledMove, at_filled, filled}
use Rattle.hp_runs.specs.Handling.{Handler, lexer_after, turned}
use Rattle.hp_runs.proofs.Filling.{told-stays, untold-asks}
use Rattle.hp_runs.proofs.FillingTable.{moves-filled}
use Rattle.hp_fragment.specs.Reading.{IsNamed}

-- the name is known
abbrev pub knows : Machine → Type 0
knows m = is_some m.last_tag ≡ true

known-same : (l : Lexing) → knows l.machine → at_filled [] l ≡ l
known-same l h = by_cases l.machine.last_tag refl h
  where
    by_cases : (o : Option (List ℕ)) → l.machine.last_tag ≡ o → is_some o ≡ true → at_filled [] l ≡ l
    by_cases (Some last) e k = told-stays [] last l e
    by_cases None e k = cc

abbrev led_to : Lexing → Move → Lexing
led_to l (makes m es) = m
led_to l _ = l

known-move : (names : List Reference) (l m : Lexing) (es : List Emitted) → knows l.machine → move (table names) l ≡ makes m es → knows m.machine
known-move names l m es h e =
    let there : FilledMove [] (move (table names) l) (move (table names) l) = subst (λ (k : Lexing). FilledMove [] (move (table names) l) (move (table names) k)) (known-same l h) (moves-filled names [] l) in
    let to : move (table names) l ≡ makes (at_filled [] m) es = subst (λ (x : Move). FilledMove [] x (move (table names) l)) e there in
    subst (λ (k : Lexing). knows k.machine) (ap (led_to l) (sym to ∙ e)) refl

known-leads : (names : List Reference) {l k : Lexing} {es : List Emitted} → Leads (move (table names)) l es k → knows l.machine → knows k.machine
known-leads names here h = h
known-leads names {l} {k} (onward {m = m} {es = es} made rest) h = known-leads names rest (known-move names l m es h made)

abbrev asked_to : Lexing → Move → Lexing
asked_to l (asks_cdata foreign html) = foreign
asked_to l _ = l

known-asks : (names : List Reference) (l foreign html : Lexing) → knows l.machine → move (table names) l ≡ asks_cdata foreign html → knows foreign.machine
known-asks names l foreign html h e =
    let there : FilledMove [] (move (table names) l) (move (table names) l) = subst (λ (k : Lexing). FilledMove [] (move (table names) l) (move (table names) k)) (known-same l h) (moves-filled names [] l) in
    let to : move (table names) l ≡ asks_cdata (at_filled [] foreign) (at_filled [] html) = subst (λ (x : Move). FilledMove [] x (move (table names) l)) e there in
    subst (λ (k : Lexing). knows k.machine) (ap (asked_to l) (sym to ∙ e)) refl

-- behind an answered question it is known too
opened-same : (a : Asked) (m : Machine) → (opened a m).last_tag ≡ m.last_tag
opened-same asked.Nothing m = refl
opened-same asked.Cdata m = refl
opened-same (asked.CdataAnswered true) m = refl
opened-same (asked.CdataAnswered false) m = refl
opened-same asked.LastTag m = refl

stands-knows : (l : Lexer) (input : Unread) → knows l.lex.machine → knows (stands l input).machine
stands-knows l input h = ap is_some (opened-same l.asked l.lex.machine) ∙ h

knows-stands : (l : Lexer) (input : Unread) → knows (stands l input).machine → knows l.lex.machine
knows-stands l input h = ap is_some (sym (opened-same l.asked l.lex.machine)) ∙ h

turned-knows : (to : Option Rest) (l : Lexer) → knows l.lex.machine → knows (turned to l).lex.machine
turned-knows None l h = h
turned-knows (Some rest) l h = h

after-knows : (does : Handler) (c : ControlState) (ts : List Token) (l : Lexer) → knows l.lex.machine → knows (lexer_after does c ts l).lex.machine
after-knows does c [] l h = h
after-knows does c (t ∷ ts) l h = after-knows does (left_by (does c t)) ts (turned (does c t).switch l) (turned-knows (does c t).switch l h)

-- what is known stays known
pub named-on : (told : Bool) (name : List ℕ) (s : ControlState) (l k : Lexer) → IsNamed told name s l → (knows l.lex.machine → knows k.lex.machine) → IsNamed told name s k
named-on true name s l k n f = f n
named-on false name s l k n f = n

module _ (told : Bool) (name : List ℕ) (s : ControlState) where
  -- along moves
  pub leads-named : (names : List Reference) (l k : Lexer) (u v : Unread) (es : List Emitted) → Leads (move (table names)) (stands l u) es (stands k v) → IsNamed told name s l → IsNamed told name s k
  leads-named names l k u v es leads n = named-on told name s l k n (λ h. knows-stands k v (known-leads names leads (stands-knows l u h)))

  -- whatever else of the lexer changes
  pub same-named : (l k : Lexer) → k.lex ≡ l.lex → IsNamed told name s l → IsNamed told name s k
  same-named l k e n = named-on told name s l k n (λ h. subst (λ (x : LexState). knows x.machine) (sym e) h)

  -- to the question after `<![CDATA[`
  pub section-named : (l k m : Lexer) (u v : Unread) → ReachesCdata l u k v → m.lex ≡ k.lex → IsNamed told name s l → IsNamed told name s m
  section-named l k m u v r same n = named-on told name s l m n (λ h.
      subst (λ (x : LexState). knows x.machine) (sym same)
      (ap is_some (sym (opened-same (asked.CdataAnswered true) k.lex.machine))
      ∙ known-asks l.names r.there (stands_answered true k v) (stands_answered false k v) (known-leads l.names r.advances.leads (stands-knows l u h)) r.asks))

  -- once a name is told
  pub told-named : (l m : Lexer) (own : List ℕ) → m.lex.machine.last_tag ≡ Some own → IsNamed told name s l → IsNamed told name s m
  told-named l m own e n = named-on told name s l m n (λ h. ap is_some e)

  -- behind tokens
  pub after-named : (does : Handler) (c : ControlState) (ts : List Token) (l k : Lexer) → k ≡ lexer_after does c ts l → IsNamed told name s l → IsNamed told name s k
  after-named does c ts l k e n = named-on told name s l k n (λ h. subst (λ (x : Lexer). knows x.lex.machine) (sym e) (after-knows does c ts l h))

not-some : (o : Option (List ℕ)) → o ≡ None → is_some o ≡ true → ⊥
not-some None e h = cc
not-some (Some x) e h = cc

-- the name is asked only where none is known, so it is that of the older state
pub asked-named : (told : Bool) (name : List ℕ) (s : ControlState) (names : List Reference) (l k : Lexer) (u v : Unread) (es : List Emitted) → Leads (move (table names)) (stands l u) es (stands k v)
    → move (table names) (stands k v) ≡ asks_last_tag → IsNamed told name s l → name ≡ unwrap_or s.lex.machine.last_tag []
asked-named false name s names l k u v es leads asks n = n
asked-named true name s names l k u v es leads asks h =
    let known : is_some (stands k v).machine.last_tag ≡ true = known-leads names leads (stands-knows l u h) in
    let untold : (stands k v).machine.last_tag ≡ None = untold-asks names (stands k v) asks in
    absurd (not-some (stands k v).machine.last_tag untold known)

-- a lexer that knows the name is filled
pub known-filled : (name : List ℕ) (m : Machine) → knows m → m ≡ filled name m
known-filled name m h = by_cases m.last_tag refl h
  where
    by_cases : (o : Option (List ℕ)) → m.last_tag ≡ o → is_some o ≡ true → m ≡ filled name m
    by_cases (Some last) e k = ap (λ (o : Option (List ℕ)). record m { last_tag = o }) e ∙ ap (λ (o : Option (List ℕ)). record m { last_tag = Some (unwrap_or o name) }) (sym e)
    by_cases None e k = cc
