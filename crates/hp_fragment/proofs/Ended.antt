-- The run over a text behind a known state: its begin and its end, and the end of input.
use Rattle.std.proofs.Common.{◌≡◌, ℕ, ◌^◌, ◌≤◌, List, [], ◌∷◌, ◌++◌, map, true, refl, ap, ◌∙◌, sym, subst, append-nil, inr, Option, None, Some}
use Rattle.std.specs.Prelude.{All, IsSome}
use Rattle.std.proofs.lemmas.Bool.{true≢false}
use Rattle.std.proofs.lemmas.List.Elements.{All-cons, All-nil}
use Rattle.std.specs.Option.{is_some, unwrap_or}
use Rattle.std.specs.Str.{chars}
use Rattle.hp_elements.specs.declared.token.Token.{Token}
use Rattle.hp_names.specs.BuiltIn.{built_in}
use Rattle.hp_tokens.specs.Advancing.{AreRuns, Ends as EndsText, end_of_text, held, lexing, singles}
use Rattle.hp_tokens.specs.Reading.{Unread}
use Rattle.hp_tokens.specs.declared.lexing.LexState.{LexState}
use Rattle.hp_tokens.specs.declared.machine.Machine.{Machine}
use Rattle.hp_arena.specs.Arena.{Seen}
use Rattle.hp_control.specs.Agree.{AllTrue}
use Rattle.hp_control.specs.Apply.{named, named_child, named_edit, named_place}
use Rattle.hp_control.specs.Edits.{IsFixed, IsFixedChild, IsFixedEdit, IsFixedPlace}
use Rattle.hp_control.specs.Faithful.{state_over}
use Rattle.hp_control.specs.Nothing.{nothing}
use Rattle.hp_control.specs.States.{ControlState, IsValid, lex_start, may_be_ahead, start}
use Rattle.hp_control.specs.Tree.{Tree, applied_all, document}
use Rattle.hp_control.specs.Truth.{answer_of}
use Rattle.hp_control.specs.declared.edit.Child.{Child}
use Rattle.hp_control.specs.declared.edit.Child.TheVariants as child
use Rattle.hp_control.specs.declared.edit.Edit.{Edit}
use Rattle.hp_control.specs.declared.edit.Edit.TheVariants.{NewElement, Put, Detach, MoveChildren, AddMissing}
use Rattle.hp_control.specs.declared.edit.Place.{Place}
use Rattle.hp_control.specs.declared.edit.Place.TheVariants.{Into, Foster}
use Rattle.hp_control.specs.declared.edit.Ref.{Ref}
use Rattle.hp_control.specs.declared.edit.Ref.TheVariants.{Fixed, Older, Own}
use Rattle.hp_control.specs.declared.question.Answer.{Answer}
use Rattle.hp_control.specs.declared.question.Question.{Question}
use Rattle.hp_growth.specs.Growing.{IsGrown}
use Rattle.hp_groves.specs.Joining.{JoinTexts, Same, Back, Through}
use Rattle.hp_lexer.specs.declared.lexer.Asked.TheVariants as asked
use Rattle.hp_lexer.specs.declared.lexer.Lexer.{Lexer}
use Rattle.hp_lexer.specs.Places.{text_at}
use Rattle.hp_lexer.specs.Standing.{stands}
use Rattle.hp_lexer.specs.Table.{table}
use Rattle.hp_model.proofs.JoinedTexts.{join-equal}
use Rattle.hp_model.specs.AtOnce.{RunsAtOnce, handle_at_once}
use Rattle.hp_model.specs.Handling.{handle}
use Rattle.hp_model.specs.Runs.{Parser, followed_by, goes, rests, step_by}
use Rattle.hp_older.specs.Laws.{OwnTrue}
use Rattle.hp_older.specs.Over.{IsOver}
use Rattle.hp_older.specs.Tokens.{MayAllCome}
use Rattle.hp_pieces.proofs.SameRuns.{end-same}
use Rattle.hp_pieces.specs.Fragments.{IsEnd}
use Rattle.hp_pieces.specs.Laws.{EndsHandled, LeadsValid, PageBuilt}
use Rattle.hp_pieces.specs.Running.{Ends, parser_in}
use Rattle.hp_runs.proofs.Own.{own-goes}
use Rattle.hp_runs.proofs.Turning.{Does, all-together}
use Rattle.hp_runs.specs.Coming.{HasCome, TextBegins}
use Rattle.hp_runs.specs.Handling.{made_after}
use Rattle.hp_runs.specs.Pages.{IsTreeOf}
use Rattle.hp_runs.specs.Tokens.{AllRead}
use Rattle.hp_fragment.proofs.Telling.{known-filled}
use Rattle.hp_fragment.specs.Known.{EndsInput, LeadsPartlySplit, RanFrom, state_of, way_from}
use Rattle.hp_fragment.specs.Making.{AllMade, Amounts, Applied, HasGrownBy, IsSplit, IsSplitIn, IsSplitting, Kept, MayBeSplit, SinkKind, SplitBy, as_split, kind_of}
use Rattle.hp_fragment.specs.Reading.{GoesToEnd, Handled, HasRead, HasReadAll, IsHandled, Stage, control_at}
use Rattle.hp_fragment.specs.declared.sink.Naming.{Naming}
use Rattle.hp_fragment.specs.declared.sink.Naming.TheVariants.{Ids, Numbers}
use Rattle.hp_fragment.specs.declared.sink.Sink.{Sink}
use Rattle.hp_fragment.specs.declared.sink.Sink.TheVariants.{Grows, Keeps, Splits}
use Rattle.hp_fragment.specs.declared.sink.Splitting.{Splitting}

pub some-is : {X : Type 0} (o : Option X) → IsSome o → is_some o ≡ true
some-is (Some x) h = refl
some-is None h = cc

-- nothing was read yet
pub begins : TextBegins → (entry : ControlState) (text : List ℕ) (p : Stage) → IsValid entry → p.lexer ≡ record { lex = entry.lex; names = built_in; asked = asked.Nothing; rested = 2 ^ 32 } → held p.lexer.lex ≤ 2 ^ 32
    → p.input ≡ text_at (2 ^ 32) text → IsOver nothing p.split → state_over p.split nothing ≡ record entry { lex = lex_start } → p.split.edits ≡ [] → Amounts (kind_of p.sink) p.sink nothing [] []
    → HasRead (way_from entry text (kind_of p.sink)) p
begins law entry text p valid lexer fits input over state none empty = record {
  named = ap (λ (l : Lexer). is_some l.lex.machine.last_tag) lexer ∙ knows;
  unpaged = λ no. absurd (true≢false no);
  over = over;
  edits = [];
  comes =
      subst (λ (c : ControlState). HasCome built_in name base nothing from (stands p.lexer p.input) c []) (sym (ap (λ (c : ControlState). record c { lex = lex_start }) state))
      (subst (λ (u : Unread). HasCome built_in name base nothing from (stands p.lexer u) (record entry { lex = lex_start }) []) (sym input)
      (subst (λ (l : Lexer). HasCome built_in name base nothing from (stands l (text_at (2 ^ 32) text)) (record entry { lex = lex_start }) []) (sym lexer)
      (law built_in name nothing (record entry { lex = lex_start }) new entry.lex.machine text refl refl (subst (λ (l : Lexer). held l.lex ≤ 2 ^ 32) lexer fits) (known-filled name entry.lex.machine knows))));
  amounts = subst (λ (es : List Edit). Amounts (kind_of p.sink) p.sink nothing es []) (sym none) empty;
}
  where
    new : Lexer
    new = record { lex = entry.lex; names = built_in; asked = asked.Nothing; rested = 2 ^ 32 }

    knows : is_some entry.lex.machine.last_tag ≡ true
    knows = some-is entry.lex.machine.last_tag valid.lex.last_tag

    name : List ℕ
    name = unwrap_or entry.lex.machine.last_tag []

    base : ℕ
    base = held entry.lex

    from : Parser
    from = followed_by (parser_in entry) text

-- over nothing all answers are true, so the run has come to its end
pub ran : OwnTrue → (entry : ControlState) (text : List ℕ) (kind : SinkKind) (old new : Stage) → old.heard.says ≡ answer_of nothing → HasRead (way_from entry text kind) old → GoesToEnd old new → RanFrom entry text kind new
ran own entry text kind old new says r g = record {
  over = all.over;
  edits = all.edits;
  leads = record {
    made = all.edits;
    there = there;
    run = record { goes = own-goes (table built_in) nothing all.ended.goes; rests = record { no_step = λ q fs e. none q fs (sym (ap (step_by there) all.ended.needs) ∙ e) } };
    reaches = ap (λ (l : LexState). record (control_at nothing new) { lex = l }) reaches;
    same = Same all.edits;
  };
  amounts = all.amounts;
}
  where
    all : HasReadAll (way_from entry text kind) new
    all = g.reads (way_from entry text kind) (subst (λ (x : Question → Answer). AllTrue nothing x g.asked) (sym says) (own nothing g.asked)) r

    there : Parser
    there = record { lexing = all.ended.at; control = control_at nothing new }

    none : (q : Parser) (fs : List Edit) → rests ≡ goes q fs → ⊥
    none q fs e = cc

    reaches : new.lexer.lex ≡ record { machine = all.ended.at.machine; ahead = all.ended.at.unread }
    reaches =
        ap (λ (m : Machine). record { machine = m; ahead = new.lexer.lex.ahead }) (known-filled (unwrap_or entry.lex.machine.last_tag []) new.lexer.lex.machine all.named ∙ sym all.ended.machine)
        ∙ ap (λ (u : List ℕ). record { machine = all.ended.at.machine; ahead = u }) (sym all.ended.unread)

pub ran-valid : LeadsValid → (entry : ControlState) (text : List ℕ) (kind : SinkKind) (p : Stage) → RanFrom entry text kind p → IsValid entry → IsValid (state_of p)
ran-valid law entry text kind p r valid = law text entry (state_of p) r.edits r.leads valid

-- edits in which each element is told by its id
named-fixed : (r : Ref) → IsFixed (named nothing r)
named-fixed (Fixed id) = tt
named-fixed (Older depth) = tt
named-fixed (Own number) = tt

place-fixed : (p : Place) → IsFixedPlace (named_place nothing p)
place-fixed (Into parent) = named-fixed parent
place-fixed (Foster t above) = (named-fixed t, named-fixed above)

child-fixed : (c : Child) → IsFixedChild (named_child nothing c)
child-fixed (child.Element node) = named-fixed node
child-fixed (child.Text text) = tt
child-fixed (child.Comment text) = tt
child-fixed (child.Doctype doctype) = tt

edit-fixed : (e : Edit) → IsFixedEdit (named_edit nothing e)
edit-fixed (NewElement tag) = tt
edit-fixed (Put what place) = (child-fixed what, place-fixed place)
edit-fixed (Detach node) = named-fixed node
edit-fixed (MoveChildren from to) = (named-fixed from, named-fixed to)
edit-fixed (AddMissing node attributes) = named-fixed node

pub told-fixed : (es : List Edit) → All IsFixedEdit (map (named_edit nothing) es)
told-fixed [] = All-nil IsFixedEdit
told-fixed (e ∷ es) = All-cons IsFixedEdit (named_edit nothing e) (map (named_edit nothing) es) (edit-fixed e) (told-fixed es)

-- the edits were kept
pub kept-same : (x : Sink) (s : ControlState) (made es : List Edit) → Amounts Kept x s made es → JoinTexts (map (named_edit s) made) es
kept-same Keeps s made es am = am.all_made
kept-same (Grows tree) s made es am = absurd (by am.is_kind)
  where
    by : Applied ≡ Kept → ⊥
    by e = cc
kept-same (Splits splitting) s made es am = absurd (by am.is_kind)
  where
    by : SplitBy splitting.naming ≡ Kept → ⊥
    by e = cc

-- the edits were split
pub is-splitting : (x : Sink) (naming : Naming) → kind_of x ≡ SplitBy naming → IsSplitting x
is-splitting (Splits splitting) naming is = tt
is-splitting Keeps naming is = by is
  where
    by : Kept ≡ SplitBy naming → ⊥
    by e = cc
is-splitting (Grows tree) naming is = by is
  where
    by : Applied ≡ SplitBy naming → ⊥
    by e = cc

pub split-so : (x : Sink) (naming : Naming) (s : ControlState) (made es : List Edit) (g : Splitting) → Amounts (SplitBy naming) x s made es → IsSplitIn x g → IsSplit g s made es × (g.naming ≡ naming)
split-so (Splits splitting) naming s made es g am is = subst (λ (h : Splitting). IsSplit h s made es × (h.naming ≡ naming)) (sym is) (am.all_made, by am.is_kind)
  where
    by : SplitBy splitting.naming ≡ SplitBy naming → splitting.naming ≡ naming
    by e = cc
split-so Keeps naming s made es g am is = absurd is
split-so (Grows tree) naming s made es g am is = absurd is

-- the run over a chunk
pub run-splits : (text : List ℕ) (entry : ControlState) (naming : Naming) (p : Stage) → RanFrom entry text (SplitBy naming) p → IsSplitting p.sink
run-splits text entry naming p r = is-splitting p.sink naming r.amounts.is_kind

pub replayed : (text : List ℕ) (entry exit : ControlState) (naming : Naming) (splitting : Splitting) (rest : List Edit) (p : Stage) → naming ≡ Ids entry.next → RanFrom entry text (SplitBy naming) p → exit ≡ state_of p → IsSplitIn p.sink splitting
    → rest ≡ p.split.edits → LeadsPartlySplit text entry splitting rest exit
replayed text entry exit naming splitting rest p same r is_exit is_splitting is_rest = record {
  naming = is.1 ∙ same;
  first = is.0.first;
  grown = is.0.grown;
  leads = record {
    made = r.leads.made;
    there = r.leads.there;
    run = r.leads.run;
    reaches = is_exit ∙ r.leads.reaches;
    same = subst (λ (es : List Edit). JoinTexts (map (named_edit nothing) (is.0.first ++ es)) r.leads.made) (sym is_rest) (Through _ _ _ is.0.same r.leads.same);
  };
}
  where
    is : IsSplit splitting nothing p.split.edits r.edits × (splitting.naming ≡ naming)
    is = split-so p.sink naming nothing p.split.edits r.edits splitting r.amounts is_splitting

-- the tokens of the end of input may come where nothing is older
may-end : (ts : List Token) → AllRead ts → MayAllCome nothing ts
may-end [] h = tt
may-end (t ∷ ts) h = (record { read = h.0; inside = inr refl }, may-end ts h.1)

-- the end of input
pub ended : RunsAtOnce → EndsHandled → OwnTrue → (old new : Stage) (tokens : List Token) → old.heard.says ≡ answer_of nothing → IsOver nothing old.split → IsValid (state_of old) → IsValid (control_at nothing old) → AllRead tokens → AreRuns tokens
    → ((rested : ℕ) → EndsText (table built_in) (lexing old.lexer.lex end_of_text rested) [] tokens) → Handled old new tokens → EndsInput old new
ended law ends own old new tokens says over valid inner read runs left handled = record {
  made = made_after handle_at_once c tokens;
  ends = record {
    made = made_after handle c (singles tokens);
    ends = end-same built_in (parser_in (state_of old)) (ends built_in (lexing old.lexer.lex end_of_text 0) c tokens ahead (left 0))
        (record { lexing = record { machine = refl; unread = append-nil old.lexer.lex.ahead }; control = refl });
    same = Back _ _ does.made;
  };
  amounts = done.amounts;
}
  where
    c : ControlState
    c = control_at nothing old

    ahead : may_be_ahead old.lexer.lex.machine.state (old.lexer.lex.ahead ++ []) ≡ true
    ahead = ap (may_be_ahead old.lexer.lex.machine.state) (append-nil old.lexer.lex.ahead) ∙ valid.lex.ahead

    does : Does c tokens (lexing old.lexer.lex end_of_text 0)
    does = all-together law tokens c (lexing old.lexer.lex end_of_text 0) read runs inner

    done : IsHandled nothing old new tokens
    done = handled.over nothing (subst (λ (x : Question → Answer). AllTrue nothing x handled.asked) (sym says) (own nothing handled.asked)) over (may-end tokens read)

-- the end of input behind a state
pub ending_is : (entry : ControlState) (edits : List Edit) (old new : Stage) → state_of old ≡ entry → old.split.edits ≡ [] → old.sink ≡ Keeps → EndsInput old new → edits ≡ map (named_edit nothing) new.split.edits
    → IsEnd (record { entry = entry; edits = edits })
ending_is entry edits old new state none keeps e told = record {
  ends = record {
    made = there.made;
    ends = there.ends;
    same = subst (λ (es : List Edit). JoinTexts es there.made) (sym told) (Through _ _ _ (kept-same new.sink nothing new.split.edits e.made (e.amounts Kept [] begun)) there.same);
  };
  fixed = subst (All IsFixedEdit) (sym told) (told-fixed new.split.edits);
}
  where
    there : Ends built_in entry e.made
    there = subst (λ (s : ControlState). Ends built_in s e.made) state e.ends

    begun : Amounts Kept old.sink nothing old.split.edits []
    begun = record {
      is_kind = ap kind_of keeps;
      all_made = subst (λ (x : Sink). AllMade x nothing old.split.edits []) (sym keeps) (join-equal (map (named_edit nothing) old.split.edits) [] (ap (map (named_edit nothing)) none));
    }

-- a page's tree grows
grown-so : (x : Sink) (made es : List Edit) (tree : Tree) → AllMade x nothing made es → HasGrownBy x made tree → tree ≡ applied_all document es
grown-so (Grows old) made es tree all is = is ∙ all refl
grown-so Keeps made es tree all is = absurd is
grown-so (Splits splitting) made es tree all is = absurd is

-- the tree of a page that was read, with its end
pub tree-built : PageBuilt → (page : List ℕ) (read done : Stage) (tree : Tree) → RanFrom start page Applied read → EndsInput read done → HasGrownBy done.sink done.split.edits tree → IsTreeOf built_in page tree
tree-built law page read done tree r e is =
    subst (IsTreeOf built_in page) (sym (grown-so done.sink done.split.edits (r.edits ++ e.made) tree (e.amounts Applied r.edits r.amounts).all_made is)) (law built_in page (state_of read) r.edits e.made r.leads e.ends)

pub done-growing : (page : List ℕ) (read done : Stage) → RanFrom start page Applied read → EndsInput read done → kind_of done.sink ≡ Applied
done-growing page read done r e = (e.amounts Applied r.edits r.amounts).is_kind

-- nothing is made yet
pub kept-empty : Amounts Kept Keeps nothing [] []
kept-empty = record { is_kind = refl; all_made = Same [] }

pub grown-empty : (tree : Seen) → tree.branches ≡ document → Amounts Applied (Grows tree) nothing [] []
grown-empty tree is = record { is_kind = refl; all_made = λ same. is }

none-split : (naming : Naming) → MayBeSplit naming [] × (as_split naming [] ≡ [])
none-split Numbers = (refl, refl)
none-split (Ids next) = (tt, refl)

pub split-empty : (splitting : Splitting) (naming : Naming) (s : ControlState) → IsGrown [] splitting.growing → splitting.naming ≡ naming → Amounts (SplitBy naming) (Splits splitting) s [] []
split-empty splitting naming s is same = record {
  is_kind = ap SplitBy same;
  all_made = record {
    first = [];
    grown = record { may = (none-split splitting.naming).0; grown = subst (λ (es : List Edit). IsGrown es splitting.growing) (sym (none-split splitting.naming).1) is };
    same = Same [];
  };
}

-- a page was read
pub page-read : (entry : ControlState) (bytes text : List ℕ) (p : Stage) → entry ≡ start → bytes ≡ text → RanFrom entry (chars bytes) Applied p → RanFrom start (chars text) Applied p
page-read entry bytes text p is same r = subst (λ (s : ControlState). RanFrom s (chars text) Applied p) is (subst (λ (t : List ℕ). RanFrom entry (chars t) Applied p) same r)
