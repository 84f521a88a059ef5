-- The load falls with each step.
use Rattle.std.proofs.Common.{◌≡◌, ℕ, ◌+◌, ◌*◌, ◌<◌, ◌≤◌, List, [], Bool, true, false, cond, length, drop, refl, sym, subst, arith, Option, None, Some, length-drop}
use Rattle.hp_elements.specs.declared.token.Rest.{Rest}
use Rattle.hp_elements.specs.declared.token.Rest.TheVariants as rest
use Rattle.hp_names.specs.References.{Reference}
use Rattle.hp_tokens.specs.declared.machine.Machine.{Machine}
use Rattle.hp_tokens.specs.Reading.{Unread}
use Rattle.hp_tokens.specs.States.{enter, state_of_rest}
use Rattle.hp_tokens.specs.Moves.{Lexing, Emitted, Move, makes, asks_cdata, asks_last_tag, taking, move}
use Rattle.hp_tokens.specs.Runs.{Leads, here, onward}
use Rattle.hp_tokens.specs.Ranks.{rank, symbol_of, weight}
use Rattle.hp_tokens.specs.Advancing.{Says, Advances, lexing, unread}
use Rattle.hp_tokens.proofs.Stepping.{rank-below}
use Rattle.hp_lex_raw.specs.Raw.{is_untold}
use Rattle.hp_lex_markup.specs.Markup as markup
use Rattle.hp_lex_markup.specs.declared.words.Word.TheVariants.{Cdata}
use Rattle.hp_lexer.specs.declared.lexer.Asked.{Asked}
use Rattle.hp_lexer.specs.declared.lexer.Asked.TheVariants as asked
use Rattle.hp_lexer.specs.declared.lexer.Lexer.{Lexer}
use Rattle.hp_lexer.specs.declared.lexer.Step.{Step}
use Rattle.hp_lexer.specs.declared.lexer.Step.TheVariants as steps
use Rattle.hp_lexer.specs.Table.{table}
use Rattle.hp_lexer.specs.Standing.{opened, stands, stands_answered, Reaches, Stepped, load, Falls, switched}
use Rattle.hp_lexer.proofs.Falling.{FallsTo, AsksCdata, move_falls, Leads-at_most}

-- one where it isn't told
abbrev pub owed : Option (List ℕ) → ℕ
owed o = cond (is_untold o) 1 0

module _ (names : List Reference) where
  made_smaller : (l m : Lexing) (es : List Emitted) → move (table names) l ≡ makes m es → weight m < weight l
  made_smaller l m es e = let P : Move → Type 0 = λ x. FallsTo l x in (subst P e (move_falls names l)).0

  at_most : {l k : Lexing} {es : List Emitted} → Leads (move (table names)) l es k → weight k ≤ weight l
  at_most r = (Leads-at_most (move (table names)) (move_falls names) r).0

  -- where something is emitted, a move was made
  emitting : {l k : Lexing} {es : List Emitted} → Leads (move (table names)) l es k → Says es true → weight k < weight l
  emitting here h = cc
  emitting {l} (onward {m = m} {es = es} e r) h = omega (arith, made_smaller l m es e, at_most r)

  -- where the name isn't told at the end of silent moves, it wasn't at first, or a move was made
  naming : {l k : Lexing} {es : List Emitted} → Leads (move (table names)) l es k → k.machine.last_tag ≡ None
      → 2 * weight k < 2 * weight l + owed l.machine.last_tag
  naming {l} here h = let P : Option (List ℕ) → Type 0 = λ o. 2 * weight l < 2 * weight l + owed o in subst P (sym h) (omega arith)
  naming {l} (onward {m = m} {es = es} e r) h = omega (arith, made_smaller l m es e, at_most r)

  pub emitted_falls : (old new : Lexing) (old_tokens tokens : _) (rested : ℕ) → Advances (table names) old old_tokens new tokens rested true
      → 2 * weight new + 1 < 2 * weight old + owed old.machine.last_tag
  emitted_falls old new old_tokens tokens rested a = omega (arith, emitting a.leads a.says)

  pub named_falls : (old new : Lexing) (old_tokens tokens : _) (rested : ℕ) → Advances (table names) old old_tokens new tokens rested false
      → move (table names) new ≡ asks_last_tag → 2 * weight new < 2 * weight old + owed old.machine.last_tag
  named_falls old new old_tokens tokens rested a e =
      let P : Move → Type 0 = λ x. FallsTo new x in naming a.leads (subst P e (move_falls names new))

  taken_falls : (m : Machine) (l : Lexing) → 7 ≤ length l.unread → weight (taking 7 m l) < weight l
  taken_falls m l long = omega (arith, long, length-drop 7 l.unread, rank-below m.state (symbol_of (drop 7 l.unread)))

  pub section_falls : (old there f h : Lexing) (old_tokens tokens : _) (rested : ℕ) → Advances (table names) old old_tokens there tokens rested false
      → move (table names) there ≡ asks_cdata f h
      → (2 * weight f + 1 < 2 * weight old + owed old.machine.last_tag) × (2 * weight h + 1 < 2 * weight old + owed old.machine.last_tag)
  section_falls old there f h old_tokens tokens rested a e =
      let P : Move → Type 0 = λ x. FallsTo there x in
      let asks : AsksCdata there f h = subst P e (move_falls names there) in
      let Q : Lexing → Type 0 = λ x. weight x < weight there in
      let to_f : weight f < weight there = subst Q (sym asks.foreign) (taken_falls (markup.in_section there.machine) there asks.long) in
      let to_h : weight h < weight there = subst Q (sym asks.html) (taken_falls (markup.after_word Cdata there.machine) there asks.long) in
      (omega (arith, to_f, at_most a.leads), omega (arith, to_h, at_most a.leads))

either : (P : Bool → Type 0) → P true → P false → (b : Bool) → P b
either P a b true = a
either P a b false = b

pub steps_fall : (old new : Lexer) (old_input new_input : Unread) (step : Step) → Stepped old old_input new new_input step → Falls old old_input new new_input step
steps_fall old new old_input new_input (steps.Tokens began tokens) s = emitted_falls old.names _ _ _ _ _ s.0
steps_fall old new old_input new_input steps.AskCdata s =
    let falls = section_falls old.names (stands old old_input) s.there (stands_answered true new new_input) (stands_answered false new new_input) [] [] s.rested s.advances s.asks in
    either (λ foreign. 2 * weight (stands_answered foreign new new_input) + 1 < load old old_input) falls.0 falls.1
steps_fall old new old_input new_input steps.AskLastTag s = named_falls old.names _ _ _ _ _ s.0 s.1
steps_fall old new old_input new_input steps.AtCut s = tt

-- moves that emit nothing
owed-one : (o : Option (List ℕ)) → owed o ≤ 1
owed-one None = omega arith
owed-one (Some name) = omega arith

silent-load : (names : List Reference) {l k : Lexing} {es : List Emitted} → Leads (move (table names)) l es k
    → 2 * weight k + owed k.machine.last_tag ≤ 2 * weight l + owed l.machine.last_tag
silent-load names here = omega arith
silent-load names {l} {k} (onward {m = m} {es = es} e r) =
    omega (arith, made_smaller names l m es e, at_most names r, owed-one k.machine.last_tag)

pub silent_fall : (old new : Lexer) (old_input new_input : Unread) → Reaches old old_input new new_input [] false → load new new_input ≤ load old old_input
silent_fall old new old_input new_input s = silent-load old.names s.leads

rank-rest : (to : Rest) (symbol : Option ℕ) → rank (state_of_rest to) symbol ≡ 0
rank-rest rest.Data symbol = refl
rank-rest _ symbol = refl

pub switches_fall : (to : Rest) (l : Lexer) (input : Unread) → l.asked ≡ asked.Nothing → weight (stands (switched to l) input) ≤ weight (stands l input)
switches_fall to l input e =
    let P : Asked → Type 0 = λ a. weight (lexing (record l.lex { machine = opened a (enter (state_of_rest to) l.lex.machine) }) input l.rested)
    ≤ weight (lexing (record l.lex { machine = opened a l.lex.machine }) input l.rested) in
    subst P (sym e) (omega (arith, rank-rest to (symbol_of (unread l.lex input))))
