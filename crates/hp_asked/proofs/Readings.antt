-- What is right for all that the run asks one code point at a time is right in whatever way the text is read.
use Rattle.std.proofs.Common.{◌≡◌, List, [], ◌∷◌, ◌++◌, refl, ap, ◌∙◌, sym, subst}
use Rattle.std.specs.Prelude.{if◌then◌else◌}
use Rattle.hp_elements.specs.declared.token.Token.{Token}
use Rattle.hp_names.specs.References.{Reference}
use Rattle.hp_tokens.specs.Advancing.{tokens_of}
use Rattle.hp_tokens.specs.Moves.{Emitted, Lexing, move}
use Rattle.hp_control.specs.declared.question.Answer.{Answer}
use Rattle.hp_control.specs.declared.question.FactKind.TheVariants.{LastTag}
use Rattle.hp_control.specs.declared.question.Question.{Question}
use Rattle.hp_control.specs.declared.question.Question.TheVariants as ask
use Rattle.hp_control.specs.Agree.{AllTrue}
use Rattle.hp_control.specs.Plan.{asked_by, end_by}
use Rattle.hp_control.specs.States.{ControlState}
use Rattle.hp_control.specs.Truth.{answer_of}
use Rattle.hp_lexer.specs.Table.{table}
use Rattle.hp_views.specs.SecondPlans.{foreign_now_plan}
use Rattle.hp_runs.specs.Closing.{LeadsOn}
use Rattle.hp_runs.proofs.Insides.{leads-inside, runs-inside}
use Rattle.hp_runs.proofs.TableRows.{table_read}
use Rattle.hp_runs.proofs.Together.{leads-read, runs-read}
use Rattle.hp_older.proofs.Began.{views-begin}
use Rattle.hp_asked.specs.Laws.{ReadingsAlike}
use Rattle.hp_asked.specs.Right.{entry, onward as begun_onward, seeker_at}
use Rattle.hp_asked.specs.Seeking.{Asks, Seeker, Spells, at, name, name_before, named_last, nothing, onward, section, seek, tokens}
use Rattle.hp_asked.specs.Singly.{entry as entry_singly, from_there, name as name_singly, nothing as nothing_singly, section as section_singly}
use Rattle.hp_asked.proofs.Agreed.{true-back, true-front}
use Rattle.hp_asked.proofs.Following.{Follow, IsChunkOf, chunk-same, spells-follow}
use Rattle.hp_asked.proofs.MoveByMove.{GoesRightly, RightSingly, led-plainly, led-rightly, standing_at}
use Rattle.hp_asked.proofs.TextRuns.{IsSame}

-- questions one behind the other
true-both : (s : ControlState) (says : Question → Answer) (xs ys : List Question) → AllTrue s says xs → AllTrue s says ys → AllTrue s says (xs ++ ys)
true-both s says [] ys h k = k
true-both s says (x ∷ xs) ys h k = (h.0, true-both s says xs ys h.1 k)

module _ (names : List Reference) (s : ControlState) (says : Question → Answer) where
  -- two seekers that differ by their edits alone, of which the second is asked for rightly, one by one
  record Beside (k j : Seeker) : Type 0 where
    same : IsSame k j
    chunk : IsChunkOf s k.split
    right : RightSingly names s says j

  there : (k j : Seeker) → Beside k j → RightSingly names s says (standing_at k.lexing j.split)
  there k j b = subst (λ (l : Lexing). RightSingly names s says (standing_at l j.split)) (sym (ap (λ (m : Seeker). m.lexing) b.same)) b.right

  chunk-there : (k j : Seeker) → Beside k j → IsChunkOf s j.split
  chunk-there k j b = chunk-same s k.split j.split (ap (λ (m : Seeker). m.split) b.same) b.chunk

  led-there : {k : Seeker} {l : Lexing} {es : List Emitted} (j : Seeker) → LeadsOn (move (table names)) k.lexing es l → Beside k j → GoesRightly names s says (tokens_of es) (standing_at l j.split)
  led-there {k} j leads b = led-rightly names s says leads j.split (chunk-there k j b) (there k j b)

  follow : {k : Seeker} {l : Lexing} {es : List Emitted} {ts : List Token} (j : Seeker) → LeadsOn (move (table names)) k.lexing es l → Spells s k.split ts es → Beside k j → Follow s ts (tokens_of es) (at l k) (standing_at l j.split)
  follow {k} {l} {es} {ts} j leads spells b =
      spells-follow s ts es (at l k) (standing_at l j.split) spells
      (λ same. (runs-read es ts same (leads-read (table_read names) (led-plainly leads)), runs-inside es ts same (leads-inside names (led-plainly leads))))
      (λ i. record { lexing = l; split = (b.same i).split }) b.chunk

  -- moves that emit nothing
  still : {k : Seeker} {l : Lexing} (j : Seeker) → LeadsOn (move (table names)) k.lexing [] l → Beside k j → Beside (at l k) (standing_at l j.split)
  still {k} {l} j leads b = record {
    same = λ i. record { lexing = l; split = (b.same i).split };
    chunk = b.chunk;
    right = (led-there j leads b).ends (standing_at l j.split) refl;
  }

  along : {k : Seeker} {qs : List Question} → Asks names s k qs → (j : Seeker) → Beside k j → AllTrue s says qs
  along nothing j b = tt
  along {k} (tokens {l = l} {es = es} {ts = ts} leads spells) j b = (follow {es = es} {ts = ts} j leads spells b).asks says (led-there j leads b).asks
  along {k} (onward {m = m} {l = l} {es = es} {ts = ts} {qs = qs} leads spells ends more) j b =
      let f : Follow s ts (tokens_of es) (at l k) (standing_at l j.split) = follow {es = es} {ts = ts} j leads spells b in
      let r : GoesRightly names s says (tokens_of es) (standing_at l j.split) = led-there j leads b in
      let n = f.ends m ends in
      true-both s says (asked_by (answer_of s) (seek ts (at l k))) qs (f.asks says r.asks) (along more n.0 (record { same = n.2; chunk = n.3; right = r.ends n.0 n.1 }))
  along {k} (section {l = l} {foreign = foreign} {html = html} {is_foreign = is_foreign} {qs = qs} leads asks_it ends more) j b =
      let c : Beside (at l k) (standing_at l j.split) = still j leads b in
      let alike : foreign_now_plan j.split ≡ foreign_now_plan k.split = sym (ap (λ (m : Seeker). foreign_now_plan m.split) b.same) in
      true-both s says (asked_by (answer_of s) (foreign_now_plan k.split)) qs
      (subst (λ p. AllTrue s says (asked_by (answer_of s) p)) alike
      (true-front s says (asked_by (answer_of s) (foreign_now_plan j.split)) [] (c.right _ (section_singly {is_foreign = is_foreign} asks_it (ap (end_by (answer_of s)) alike ∙ ends) nothing_singly))))
      (along more (at (if is_foreign then foreign else html) j) (record {
        same = λ i. record { lexing = if is_foreign then foreign else html; split = (b.same i).split };
        chunk = b.chunk;
        right = λ rs asks. true-back s says (asked_by (answer_of s) (foreign_now_plan j.split)) rs (c.right _ (section_singly {is_foreign = is_foreign} asks_it (ap (end_by (answer_of s)) alike ∙ ends) asks));
      }))
  along {k} (name {l = l} {qs = qs} leads asks_it more) j b =
      let c : Beside (at l k) (standing_at l j.split) = still j leads b in (
        (c.right (ask.Fact LastTag ∷ []) (name_singly asks_it nothing_singly)).0,
        along more (at (named_last (name_before s) l) j) (record {
          same = λ i. record { lexing = named_last (name_before s) l; split = (b.same i).split };
          chunk = b.chunk;
          right = λ rs asks. (c.right (ask.Fact LastTag ∷ rs) (name_singly asks_it asks)).1;
        }),
      )

pub readings-alike : ReadingsAlike
readings-alike says names s text valid fits right qs entry = right (ask.Entry ∷ []) entry_singly
readings-alike says names s text valid fits right qs (begun_onward {qs = rs} rests more) = (
  (right (ask.Entry ∷ []) entry_singly).0,
  along names s says more (seeker_at (answer_of s ask.Entry) text) (record {
    same = refl;
    chunk = record { over = (views-begin s (answer_of s ask.Entry) valid fits refl rests).over; page = refl };
    right = λ ps asks. (right (ask.Entry ∷ ps) (from_there rests asks)).1;
  }),
)
