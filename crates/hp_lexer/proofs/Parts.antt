-- The moves of a part of the table are moves of the table.
use Rattle.std.proofs.Common.{◌≡◌, ℕ, List, [], ◌∷◌, Bool, true, false, cond, ◌⊎◌, inl, inr, refl, ap, ◌∙◌, sym, subst}
use Rattle.std.specs.Prelude.{◌==◌, ◌&&◌, Option, Some, None, IfSome}
use Rattle.hp_elements.specs.declared.token.Token.{Token}
use Rattle.hp_names.specs.References.{Reference}
use Rattle.hp_tokens.specs.declared.state.State.{State}
use Rattle.hp_tokens.specs.declared.state.State.TheVariants.{Data}
use Rattle.hp_tokens.specs.declared.lexing.LexState.{LexState}
use Rattle.hp_tokens.specs.declared.rows.Turn.{Turn}
use Rattle.hp_tokens.specs.declared.rows.Turn.TheVariants as turns
use Rattle.hp_tokens.specs.Moves.{Lexing, Emitted, Move, needs_more, asks_cdata, asks_last_tag, makes, ends, Rules, after_pair, move_on, move, end_move_on, end_move}
use Rattle.hp_tokens.specs.Runs.{Leads, here, onward}
use Rattle.hp_tokens.specs.Advancing.{Advances, Stops, at_rest, without_move, elsewhere, Turned, EndTurned, IsGroup}
use Rattle.hp_tokens.proofs.Grouping.{Through-by}
use Rattle.hp_lex_tags.specs.Tags as tags
use Rattle.hp_lex_raw.specs.Raw as raw
use Rattle.hp_lex_markup.specs.Markup as markup
use Rattle.hp_lex_markup.specs.Rows as markup_rows
use Rattle.hp_lexer.specs.Table.{table, part_of, gone_on}

pub IfSome_all : {X : Type 0} (r : Option X) {P Q S R : X → Type 0} → IfSome r P → IfSome r Q → IfSome r S → ((x : X) → P x → Q x → S x → R x) → IfSome r R
IfSome_all None p q s f = tt
IfSome_all (Some x) p q s f = f x p q s

-- each state is in one part
pub raw-alone : (s : State) → raw.is_here s ≡ true → tags.is_here s ≡ false
raw-alone Data h = cc
raw-alone _ h = cc

pub markup-alone : (s : State) → markup_rows.is_here s ≡ true → tags.is_here s ≡ false
markup-alone Data h = cc
markup-alone _ h = cc

pub markup-not_raw : (s : State) → markup_rows.is_here s ≡ true → raw.is_here s ≡ false
markup-not_raw Data h = cc
markup-not_raw _ h = cc

pub markup-else : (s : State) → tags.is_here s ≡ false → raw.is_here s ≡ false → markup_rows.is_here s ≡ true
markup-else Data h k = cc
markup-else _ h k = cc

-- a part of the table: its moves where its states are, and no move elsewhere
pub record IsPart (rules : Rules) (here : State → Bool) (names : List Reference) : Type 0 where
  pub on : (l : Lexing) (c : ℕ) (cs : List ℕ) → here l.machine.state ≡ true → rules.on l c cs ≡ (table names).on l c cs
  pub last : (l : Lexing) (text : List ℕ) → here l.machine.state ≡ true → rules.last l text ≡ (table names).last l text
  pub on_else : (l : Lexing) (c : ℕ) (cs : List ℕ) → here l.machine.state ≡ false → rules.on l c cs ≡ needs_more
  pub last_else : (l : Lexing) (text : List ℕ) → here l.machine.state ≡ false → rules.last l text ≡ needs_more

tags-on_else : (s : State) (names : List Reference) (l : Lexing) (c : ℕ) (cs : List ℕ) → tags.is_here s ≡ false → tags.on_state s names l c cs ≡ needs_more
tags-on_else Data names l c cs h = cc
tags-on_else _ names l c cs h = cc

tags-last_else : (s : State) (names : List Reference) (l : Lexing) (text : List ℕ) → tags.is_here s ≡ false → tags.last_state s names l text ≡ needs_more
tags-last_else Data names l text h = cc
tags-last_else _ names l text h = cc

markup-on_else : (s : State) (l : Lexing) (c : ℕ) (cs : List ℕ) → markup_rows.is_here s ≡ false → markup.on_state s l c cs ≡ needs_more
markup-on_else Data l c cs h = cc
markup-on_else _ l c cs h = cc

markup-last_else : (s : State) (l : Lexing) (text : List ℕ) → markup_rows.is_here s ≡ false → markup.last_state s l text ≡ needs_more
markup-last_else Data l text h = cc
markup-last_else _ l text h = cc

pub tags-part : (names : List Reference) → IsPart (tags.tag_rules names) tags.is_here names
tags-part names = record {
  on = λ l c cs h. rw h refl;
  last = λ l text h. rw h refl;
  on_else = λ l c cs h. tags-on_else l.machine.state names l c cs h;
  last_else = λ l text h. tags-last_else l.machine.state names l text h;
}

pub raw-part : (names : List Reference) → IsPart raw.raw_rules raw.is_here names
raw-part names = record {
  on = λ l c cs h. rw (raw-alone l.machine.state h, h) refl;
  last = λ l text h. rw (raw-alone l.machine.state h, h) refl;
  on_else = λ l c cs h. rw h refl;
  last_else = λ l text h. rw h refl;
}

pub markup-part : (names : List Reference) → IsPart markup.markup_rules markup_rows.is_here names
markup-part names = record {
  on = λ l c cs h. rw (markup-alone l.machine.state h, markup-not_raw l.machine.state h) refl;
  last = λ l text h. rw (markup-alone l.machine.state h, markup-not_raw l.machine.state h) refl;
  on_else = λ l c cs h. markup-on_else l.machine.state l c cs h;
  last_else = λ l text h. markup-last_else l.machine.state l text h;
}

either : (b : Bool) → (b ≡ true) ⊎ (b ≡ false)
either true = inl refl
either false = inr refl

Leads-by : {next other : Lexing → Move} {l k : Lexing} {es : List Emitted}
    → ((l m : Lexing) (es : List Emitted) → next l ≡ makes m es → other l ≡ makes m es) → Leads next l es k → Leads other l es k
Leads-by w here = here
Leads-by {l = l} w (onward {m = m} {es = es} e r) = onward (w l m es e) (Leads-by w r)

pair_or : (b : Bool) (x y z : Move) → y ≡ z → cond b x y ≡ cond b x z
pair_or true x y z e = refl
pair_or false x y z e = e

module _ (rules : Rules) (here : State → Bool) (names : List Reference) (part : IsPart rules here names) where
  pub same_move : (l : Lexing) → here l.machine.state ≡ true → move rules l ≡ move (table names) l
  same_move l h = at l.unread
    where
      at : (u : List ℕ) → move_on rules l u ≡ move_on (table names) l u
      at [] = refl
      at (c ∷ cs) = pair_or (l.machine.after_cr && c == 10) _ _ _ (part.on l c cs h)

  pub same_end : (l : Lexing) → here l.machine.state ≡ true → end_move rules l ≡ end_move (table names) l
  same_end l h = at l.unread
    where
      at : (u : List ℕ) → end_move_on rules l u ≡ end_move_on (table names) l u
      at [] = part.last l [] h
      at (c ∷ cs) = pair_or (l.machine.after_cr && c == 10) _ _ _ (part.last l (c ∷ cs) h)

  -- what the part says, unless it is that more is needed, the table says
  pair : (l : Lexing) (x : Move) (c : ℕ) (cs : List ℕ) (b : Bool) → here l.machine.state ≡ false → (x ≡ needs_more → ⊥)
      → cond b (after_pair l cs) needs_more ≡ x → cond b (after_pair l cs) ((table names).on l c cs) ≡ x
  pair l x c cs true h other e = e
  pair l x c cs false h other e = absurd (other (sym e))

  pub said : (l : Lexing) (x : Move) → (x ≡ needs_more → ⊥) → move rules l ≡ x → move (table names) l ≡ x
  said l x other e = at (either (here l.machine.state))
    where
      away : (u : List ℕ) → here l.machine.state ≡ false → move_on rules l u ≡ x → move_on (table names) l u ≡ x
      away [] h e = e
      away (c ∷ cs) h e =
          pair l x c cs (l.machine.after_cr && c == 10) h other (pair_or (l.machine.after_cr && c == 10) (after_pair l cs) needs_more _ (sym (part.on_else l c cs h)) ∙ e)

      at : (here l.machine.state ≡ true) ⊎ (here l.machine.state ≡ false) → move (table names) l ≡ x
      at (inl h) = sym (same_move l h) ∙ e
      at (inr h) = away l.unread h e

  end_pair : (l : Lexing) (x : Move) (c : ℕ) (cs : List ℕ) (b : Bool) → (x ≡ needs_more → ⊥)
      → cond b (after_pair l cs) needs_more ≡ x → cond b (after_pair l cs) ((table names).last l (c ∷ cs)) ≡ x
  end_pair l x c cs true other e = e
  end_pair l x c cs false other e = absurd (other (sym e))

  pub said_at_end : (l : Lexing) (x : Move) → (x ≡ needs_more → ⊥) → end_move rules l ≡ x → end_move (table names) l ≡ x
  said_at_end l x other e = at (either (here l.machine.state))
    where
      away : (u : List ℕ) → here l.machine.state ≡ false → end_move_on rules l u ≡ x → end_move_on (table names) l u ≡ x
      away [] h e = absurd (other (sym e ∙ part.last_else l [] h))
      away (c ∷ cs) h e =
          end_pair l x c cs (l.machine.after_cr && c == 10) other (pair_or (l.machine.after_cr && c == 10) (after_pair l cs) needs_more _ (sym (part.last_else l (c ∷ cs) h)) ∙ e)

      at : (here l.machine.state ≡ true) ⊎ (here l.machine.state ≡ false) → end_move (table names) l ≡ x
      at (inl h) = sym (same_end l h) ∙ e
      at (inr h) = away l.unread h e

  pub part_made : (l : Lexing) (m : Lexing) (es : List Emitted) → move rules l ≡ makes m es → move (table names) l ≡ makes m es
  part_made l m es e = said l (makes m es) (λ h. cc) e

  end_made : (l : Lexing) (m : Lexing) (es : List Emitted) → end_move rules l ≡ makes m es → end_move (table names) l ≡ makes m es
  end_made l m es e = said_at_end l (makes m es) (λ h. cc) e

  pub part_leads : {l k : Lexing} {es : List Emitted} → Leads (move rules) l es k → Leads (move (table names)) l es k
  part_leads r = Leads-by part_made r

  pub advances : (old : Lexing) (old_tokens : List Token) (new : Lexing) (new_tokens : List Token) (rested : ℕ) (emitted : Bool)
      → Advances rules old old_tokens new new_tokens rested emitted → Advances (table names) old old_tokens new new_tokens rested emitted
  advances old old_tokens new new_tokens rested emitted a = record {
    es = a.es;
    leads = Leads-by part_made a.leads;
    appends = a.appends;
    began = a.began;
    says = a.says;
  }

  stops : (l : Lexing) → Stops rules here l → Stops (table names) here l
  stops l (at_rest h) = at_rest h
  stops l (without_move w) = at (either (here l.machine.state))
    where
      at : (here l.machine.state ≡ true) ⊎ (here l.machine.state ≡ false) → Stops (table names) here l
      at (inl h) = without_move record { no_move = λ m es e. w.no_move m es (same_move l h ∙ e) }
      at (inr h) = elsewhere h
  stops l (elsewhere h) = elsewhere h

  needs : (old : Lexing) (old_tokens : List Token) (new : Lexing) (new_tokens : List Token) (rested : ℕ) (b : Bool) → here new.machine.state ≡ b
      → Turned rules here old old_tokens new new_tokens rested turns.NeedsMore → Turned (table names) here old old_tokens new new_tokens rested (gone_on turns.NeedsMore b)
  needs old old_tokens new new_tokens rested true is h = (advances _ _ _ _ _ _ h.0, sym (same_move new is) ∙ h.1)
  needs old old_tokens new new_tokens rested false is h = (advances _ _ _ _ _ _ h.0, is)

  -- the promise of the part is the promise of the table
  pub turned : (old : Lexing) (old_tokens : List Token) (new : Lexing) (new_tokens : List Token) (rested : ℕ) (turn : Turn)
      → Turned rules here old old_tokens new new_tokens rested turn → Turned (table names) here old old_tokens new new_tokens rested (gone_on turn (here new.machine.state))
  turned old old_tokens new new_tokens rested turns.Emitted h = (advances _ _ _ _ _ _ h.0, stops new h.1)
  turned old old_tokens new new_tokens rested turns.Moved h = (advances _ _ _ _ _ _ h.0, h.1)
  turned old old_tokens new new_tokens rested turns.NeedsMore h = needs old old_tokens new new_tokens rested (here new.machine.state) refl h
  turned old old_tokens new new_tokens rested turns.AskCdata h =
      (advances _ _ _ _ _ _ h.0, (h.1.0, h.1.1, said new (asks_cdata h.1.0 h.1.1) (λ k. cc) h.1.2))
  turned old old_tokens new new_tokens rested turns.AskLastTag h = (advances _ _ _ _ _ _ h.0, said new asks_last_tag (λ k. cc) h.1)

  -- what is a group by the part's moves is one by the table's
  pub group_by : {old new : Lexing} {old_tokens new_tokens : List Token} {place : ℕ} → IsGroup (move rules) here old old_tokens new new_tokens place
      → IsGroup (move (table names)) here old old_tokens new new_tokens place
  group_by (inl g) = inl record {
    from = g.from;
    mid = g.mid;
    first = g.first;
    rest = g.rest;
    quiet = Leads-by part_made g.quiet;
    inside = g.inside;
    made = part_made g.from g.mid g.first g.made;
    onward = Through-by part_made g.onward;
    appends = g.appends;
    one_place = g.one_place;
  }
  group_by (inr r) = inr record {
    from = r.from;
    es = r.es;
    class = r.class;
    text = r.text;
    quiet = Leads-by part_made r.quiet;
    inside = r.inside;
    rests = r.rests;
    through = λ may h. Through-by part_made (r.through may h);
    appends = r.appends;
    one = r.one;
    rests_again = r.rests_again;
  }

  pub end_turned : (old : Lexing) (old_tokens : List Token) (new : LexState) (new_tokens : List Token) (turn : Turn)
      → EndTurned rules here old old_tokens new new_tokens turn → EndTurned (table names) here old old_tokens new new_tokens turn
  end_turned old old_tokens new new_tokens turns.Emitted h = record {
    mid = h.mid;
    first = h.first;
    rest = h.rest;
    leads = Leads-by end_made h.leads;
    ended = said_at_end h.mid (ends h.rest) (λ k. cc) h.ended;
    appends = h.appends;
  }
  end_turned old old_tokens new new_tokens turns.Moved h = (
    record {
      there = h.0.there;
      machine = h.0.machine;
      unread = h.0.unread;
      es = h.0.es;
      leads = Leads-by end_made h.0.leads;
      appends = h.0.appends;
    },
    h.1,
  )
  end_turned old old_tokens new new_tokens _ h = h

-- the promises of a part, where its states are
pub part-tags : (s : State) → tags.is_here s ≡ true → part_of s ≡ tags.is_here
part-tags s h = rw h refl

pub part-raw : (s : State) → raw.is_here s ≡ true → part_of s ≡ raw.is_here
part-raw s h = rw (raw-alone s h, h) refl

pub part-markup : (s : State) → tags.is_here s ≡ false → raw.is_here s ≡ false → part_of s ≡ markup_rows.is_here
part-markup s h k = rw (h, k) refl

-- the part of a state has it
pub in_its_part : (s : State) → part_of s s ≡ true
in_its_part s = at (either (tags.is_here s)) (either (raw.is_here s))
  where
    at : (tags.is_here s ≡ true) ⊎ (tags.is_here s ≡ false) → (raw.is_here s ≡ true) ⊎ (raw.is_here s ≡ false) → part_of s s ≡ true
    at (inl h) k = ap (λ (p : State → Bool). p s) (part-tags s h) ∙ h
    at (inr h) (inl k) = ap (λ (p : State → Bool). p s) (part-raw s k) ∙ k
    at (inr h) (inr k) = ap (λ (p : State → Bool). p s) (part-markup s h k) ∙ markup-else s h k

-- what a part emits at once, the table emits
pub text_in_tags : (names : List Reference) (s : State) (old new : Lexing) (tokens : List Token) (rested : ℕ) → tags.is_here s ≡ true
    → Turned (tags.tag_rules names) tags.is_here old [] new tokens rested turns.Emitted → Turned (table names) (part_of s) old [] new tokens rested turns.Emitted
text_in_tags names s old new tokens rested h t =
    let P : (State → Bool) → Type 0 = λ p. Turned (table names) p old [] new tokens rested turns.Emitted in
    subst P (sym (part-tags s h)) (turned (tags.tag_rules names) tags.is_here names (tags-part names) old [] new tokens rested turns.Emitted t)

pub text_in_raw : (names : List Reference) (s : State) (old new : Lexing) (tokens : List Token) (rested : ℕ) → raw.is_here s ≡ true
    → Turned raw.raw_rules raw.is_here old [] new tokens rested turns.Emitted → Turned (table names) (part_of s) old [] new tokens rested turns.Emitted
text_in_raw names s old new tokens rested h t =
    let P : (State → Bool) → Type 0 = λ p. Turned (table names) p old [] new tokens rested turns.Emitted in
    subst P (sym (part-raw s h)) (turned raw.raw_rules raw.is_here names (raw-part names) old [] new tokens rested turns.Emitted t)

-- the same of the group that they are
pub group_in_tags : (names : List Reference) (s : State) {old new : Lexing} {tokens : List Token} {rested : ℕ} → tags.is_here s ≡ true
    → IsGroup (move (tags.tag_rules names)) tags.is_here old [] new tokens rested → IsGroup (move (table names)) (part_of s) old [] new tokens rested
group_in_tags names s {old} {new} {tokens} {rested} h g =
    let P : (State → Bool) → Type 0 = λ p. IsGroup (move (table names)) p old [] new tokens rested in
    subst P (sym (part-tags s h)) (group_by (tags.tag_rules names) tags.is_here names (tags-part names) g)

pub group_in_raw : (names : List Reference) (s : State) {old new : Lexing} {tokens : List Token} {rested : ℕ} → raw.is_here s ≡ true
    → IsGroup (move raw.raw_rules) raw.is_here old [] new tokens rested → IsGroup (move (table names)) (part_of s) old [] new tokens rested
group_in_raw names s {old} {new} {tokens} {rested} h g =
    let P : (State → Bool) → Type 0 = λ p. IsGroup (move (table names)) p old [] new tokens rested in
    subst P (sym (part-raw s h)) (group_by raw.raw_rules raw.is_here names (raw-part names) g)

-- where more input is needed nothing was emitted, also where the state is another part's
pub still_emitted : (turn : Turn) (b : Bool) → gone_on turn b ≡ turns.Emitted → turn ≡ turns.Emitted
still_emitted turns.NeedsMore true e = cc
still_emitted turns.NeedsMore false e = cc
still_emitted turns.Emitted b e = refl
still_emitted turns.Moved b e = cc
still_emitted turns.AskCdata b e = cc
still_emitted turns.AskLastTag b e = cc
