-- A text or a tag at the front that was taken, or none.
use Rattle.std.proofs.Common.{◌≡◌, ℕ, ◌≤◌, List, Option, None, Some, IfSome, IfNone, refl, ap, subst, ◌∙◌}
use Rattle.hp_elements.specs.declared.token.Token.{Token}
use Rattle.hp_tokens.specs.Advancing.{held}
use Rattle.hp_tokens.specs.Reading.{Unread}
use Rattle.hp_lexer.specs.declared.lexer.Lexer.{Lexer}
use Rattle.hp_lexer.specs.declared.lexer.Step.{Step}
use Rattle.hp_lexer.specs.Standing.{Batched, PlainStepped, TagStepped}
use Rattle.hp_fragment.proofs.Leading.{lexed}
use Rattle.hp_fragment.specs.Reading.{Stage, TookText}

-- the same lexer over the same text
pub same-stage : (p : Stage) (l : Lexer) (u : Unread) → l ≡ p.lexer → u ≡ p.input → lexed p l u ≡ p
same-stage p l u e f = ap (λ (x : Lexer). lexed p x u) e ∙ ap (λ (x : Unread). record p { input = x }) f

-- a text was taken from there, or from where nothing had changed
pub text-taken : (old : Stage) (mid : Lexer) (mid_input : Unread) (new : Lexer) (new_input : Unread) (o : Option (List ℕ)) → mid ≡ old.lexer → mid_input ≡ old.input
    → IfSome o (λ text. PlainStepped mid mid_input new new_input text) → IfNone o ((new ≡ mid) × (new_input ≡ mid_input)) → held new.lex ≤ new_input.place → new.names ≡ mid.names → TookText old (lexed old new new_input) o
text-taken old mid mid_input new new_input (Some text) e f some none fits names = record {
  stepped = subst (λ (u : Unread). PlainStepped old.lexer u new new_input text) f (subst (λ (l : Lexer). PlainStepped l mid_input new new_input text) e some);
  held = fits;
  names = names ∙ ap (λ (l : Lexer). l.names) e;
  same = refl;
}
text-taken old mid mid_input new new_input None e f some none fits names = same-stage old new new_input (none.0 ∙ e) (none.1 ∙ f)

-- what was found at the front
pub found-tag : (old : Lexer) (old_input : Unread) (new : Lexer) (new_input : Unread) (found other : Option Token) → found ≡ other → TagStepped old old_input new new_input found → TagStepped old old_input new new_input other
found-tag old old_input new new_input found other is h = subst (TagStepped old old_input new new_input) is h

-- what the tokens of an answer are as a batch
pub told-batch : (old : Lexer) (old_input : Unread) (new : Lexer) (new_input : Unread) (step other : Step) → step ≡ other → Batched old old_input new new_input step → Batched old old_input new new_input other
told-batch old old_input new new_input step other is h = subst (Batched old old_input new new_input) is h
