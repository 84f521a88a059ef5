-- What is read without the table is a step.
use Rattle.std.specs.List.{list_all}
use Rattle.std.specs.Prelude.{IfSome, ◌<◌, length, map}
use Rattle.std.proofs.Common.{◌≡◌, ℕ, true, false, ◌-◌, ◌^◌, List, [], ◌∷◌, refl, sym, subst, Option, None, Some}
use Rattle.hp_elements.specs.declared.token.Token.{Token}
use Rattle.hp_tokens.specs.declared.state.State.{State}
use Rattle.hp_tokens.specs.declared.state.State.TheVariants.{Data}
use Rattle.hp_tokens.specs.declared.rows.Turn.TheVariants as turns
use Rattle.hp_tokens.specs.Reading.{Unread}
use Rattle.hp_tokens.specs.Moves.{Lexing}
use Rattle.hp_tokens.specs.Plain.{none_of}
use Rattle.hp_tokens.specs.Rows.{character}
use Rattle.hp_tokens.specs.Advancing.{lexing, Advances, Stops, Turned}
use Rattle.hp_tokens.proofs.OneByOne.{none_yet}
use Rattle.hp_lex_tags.specs.Tags.{EmitsLast, TagTurned, tag_rules, is_here}
use Rattle.hp_lexer.specs.declared.lexer.Asked.TheVariants as asked
use Rattle.hp_lexer.specs.declared.lexer.Lexer.{Lexer}
use Rattle.hp_lexer.specs.declared.lexer.Step.TheVariants as steps
use Rattle.hp_lexer.specs.Table.{table, part_of}
use Rattle.hp_lexer.specs.Standing.{stands, Reaches, Stepped, PlainStepped, TagStepped}
use Rattle.hp_lexer.proofs.Opening.{at_nothing}
use Rattle.hp_lexer.proofs.Parts.{tags-part, text_in_tags, advances, part_made, part_leads}

module _ (old new : Lexer) (old_input new_input : Unread) (none : old.asked ≡ asked.Nothing) (still : new.asked ≡ asked.Nothing) where
  -- where both stand
  both : (P : Lexing → Lexing → Type 0) → P (lexing old.lex old_input old.rested) (lexing new.lex new_input new.rested) → P (stands old old_input) (stands new new_input)
  both P h =
      let Q : Lexing → Type 0 = λ x. P x (stands new new_input) in
      let R : Lexing → Type 0 = λ x. P (lexing old.lex old_input old.rested) x in
      subst Q (sym (at_nothing old old_input none)) (subst R (sym (at_nothing new new_input still)) h)

  pub tokens_at_once : (s : State) (tokens : List Token)
      → Turned (table old.names) (part_of s) (lexing old.lex old_input old.rested) [] (lexing new.lex new_input new.rested) tokens new.rested turns.Emitted
      → Stepped old old_input new new_input (steps.Tokens (new.rested - 2 ^ 32) tokens)
  tokens_at_once s tokens t = (
    both (λ x y. Advances (table old.names) x [] y tokens new.rested true) t.0,
    refl,
    still,
    (s, both (λ x y. Stops (table old.names) (part_of s) y) t.1),
  )

  pub plain_at_once : (s : State) (text : Option (List ℕ))
      → IfSome text (λ xs. Turned (table old.names) (part_of s) (lexing old.lex old_input old.rested) [] (lexing new.lex new_input new.rested) (map character xs) new.rested turns.Emitted)
      → IfSome text (λ xs. list_all (none_of (0 ∷ [])) xs ≡ true) → IfSome text (λ xs. 0 < length xs)
      → IfSome text (λ xs. PlainStepped old old_input new new_input xs)
  plain_at_once s None turn no_nul long = tt
  plain_at_once s (Some text) turn no_nul long = record { stepped = tokens_at_once s (map character text) turn; no_nul = no_nul; long = long }

  in_table : (tag : Token) → EmitsLast (tag_rules old.names) (lexing old.lex old_input old.rested) tag (lexing new.lex new_input new.rested) new.rested
      → EmitsLast (table old.names) (lexing old.lex old_input old.rested) tag (lexing new.lex new_input new.rested) new.rested
  in_table tag e = record {
    mid = e.mid;
    leads = part_leads (tag_rules old.names) is_here old.names (tags-part old.names) e.leads;
    last = part_made (tag_rules old.names) is_here old.names (tags-part old.names) e.mid _ _ e.last;
  }

  pub tag_at_once : (token : Option Token) → TagTurned old.names (lexing old.lex old_input old.rested) token (lexing new.lex new_input new.rested) new.rested → TagStepped old old_input new new_input token
  tag_at_once (Some tag) t = (
    tokens_at_once Data (tag ∷ []) (text_in_tags old.names Data _ _ (tag ∷ []) new.rested refl t.0),
    both (λ x y. EmitsLast (table old.names) x tag y new.rested) (in_table tag t.1),
  )
  tag_at_once None t =
      both (λ x y. Advances (table old.names) x [] y [] new.rested false) (advances (tag_rules old.names) is_here old.names (tags-part old.names) _ [] _ [] new.rested false t)

pub nothing_done : (old : Lexer) (input : Unread) → Reaches old input old input [] false
nothing_done old input = none_yet (table old.names) (stands old input) [] old.rested
