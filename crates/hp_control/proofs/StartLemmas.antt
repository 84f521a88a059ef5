-- The state before the first token is valid.
use Rattle.std.proofs.Common.{◌≡◌, ℕ, List, [], None, Some, false, refl, subst, sym, ap, ◌∙◌, arith}
use Rattle.std.proofs.lemmas.List.Elements.{All-nil}
use Rattle.hp_elements.specs.declared.token.Mode.{Mode}
use Rattle.hp_elements.specs.declared.token.Rest.TheVariants.{Data}
use Rattle.hp_elements.specs.declared.token.Mode.TheVariants.{Initial}
use Rattle.hp_tokens.specs.declared.lexing.LexState.{LexState}
use Rattle.hp_tokens.specs.Advancing.{rest_state}
use Rattle.hp_control.specs.declared.element.OpenElement.{OpenElement}
use Rattle.hp_control.specs.declared.element.FormattingEntry.{FormattingEntry}
use Rattle.hp_control.specs.Viewing.{state_of}
use Rattle.std.specs.Prelude.{true}
use Rattle.hp_control.specs.States.{ControlState, IsValid, LexFits, start, lex_start, IsFormatting, is_template_mode}

start_lex : LexFits lex_start
start_lex = record { parts = refl; token = refl; ahead = refl; last_tag = refl }

pub start_valid : IsValid start
start_valid = record {
  stack_ids = tt;
  list_ids = tt;
  head = tt;
  form = tt;
  formatting = All-nil IsFormatting;
  stack = (refl, refl);
  original = refl;
  pending = refl;
  template_modes = All-nil (λ (m : Mode). is_template_mode m ≡ true);
  templates = omega arith;
  lex = start_lex;
}

-- a state that is this one is valid
pub valid_as_start : (s : ControlState) → s ≡ start → IsValid s
valid_as_start s e = subst IsValid (sym e) start_valid

-- the lexer at rest, whose last start tag's name is the empty text
pub lex_of : {lex : LexState} {name : List ℕ} → lex ≡ rest_state Data false → name ≡ [] → record { machine = record lex.machine { last_tag = Some name }; ahead = lex.ahead } ≡ lex_start
lex_of e n = rw (e, n) refl

-- it is put together of empty parts
pub start_of : {lex : LexState} {modes : List Mode} {elements : List OpenElement} {entries : List FormattingEntry} {pending : List ℕ} → lex ≡ lex_start → modes ≡ [] → elements ≡ [] → entries ≡ [] → pending ≡ [] → state_of lex Initial None modes elements entries None None true false pending false 1 ≡ start
start_of {lex} {modes} {elements} {entries} {pending} l m e f p =
    ap (λ x. state_of x Initial None modes elements entries None None true false pending false 1) l
    ∙ (ap (λ x. state_of lex_start Initial None x elements entries None None true false pending false 1) m
    ∙ (ap (λ x. state_of lex_start Initial None [] x entries None None true false pending false 1) e
    ∙ (ap (λ x. state_of lex_start Initial None [] [] x None None true false pending false 1) f
    ∙ ap (λ x. state_of lex_start Initial None [] [] [] None None true false x false 1) p)))
