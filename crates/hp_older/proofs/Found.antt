-- Acts that pop down to or through what a test found.
use Rattle.std.proofs.Common.{◌≡◌, ℕ, suc, ◌<◌, List, [], ◌∷◌, drop, map, length, Bool, true, false, ◌||◌, ◌&&◌, not, refl, sym, ap, ◌∙◌, subst, arith, inl, inr, Option, None, Some}
use Rattle.std.specs.Prelude.{if◌then◌else◌}
use Rattle.std.specs.List.{list_all}
use Rattle.std.specs.Option.{is_some, option_map}
use Rattle.std.specs.Str.{bytes_eq}
use Rattle.std.proofs.lemmas.Bool.{and_parts, and_from, true≢false, false_from_ne_true, not-true, and_right}
use Rattle.std.proofs.lemmas.Option.{none-some, same_Some}
use Rattle.hp_elements.specs.Names.{is_among, known_of, text_of, words}
use Rattle.hp_elements.specs.Sets.{in_set, is_member, members}
use Rattle.hp_elements.specs.Tokens.{kind_of}
use Rattle.hp_elements.specs.declared.act.Scope.{Scope}
use Rattle.hp_elements.specs.declared.act.Scope.TheVariants as scope
use Rattle.hp_elements.specs.declared.act.Which.{Which}
use Rattle.hp_elements.specs.declared.kinds.Kinds.{Kinds}
use Rattle.hp_elements.specs.declared.kinds.Kinds.TheVariants as kinds
use Rattle.hp_elements.specs.declared.known.Known.{Known}
use Rattle.hp_elements.specs.KnownNames as known
use Rattle.hp_elements.specs.Kinds.{is_html as is_html_space}
use Rattle.hp_elements.specs.declared.sets.Namespace.{Namespace}
use Rattle.hp_elements.specs.declared.sets.Namespace.TheVariants.{Html, MathMl, Svg}
use Rattle.hp_elements.specs.declared.sets.SetName.{SetName}
use Rattle.hp_elements.specs.declared.sets.SetName.TheVariants as sets
use Rattle.hp_elements.specs.declared.token.Token.{Token}
use Rattle.hp_elements.proofs.FindLemmas.{equal_bytes}
use Rattle.hp_elements.proofs.NameLemmas.{known_of_text}
use Rattle.hp_control.specs.declared.element.OpenElement.{OpenElement}
use Rattle.hp_control.specs.Acts.{above, pop_run, pop_to, popped_by, through, through_named}
use Rattle.hp_control.specs.Composed.{ends_of, implied, implied_but}
use Rattle.hp_control.specs.KindTests.{within}
use Rattle.hp_control.specs.Outcome.{Act}
use Rattle.hp_control.specs.States.{ControlState, is_html, is_rooted}
use Rattle.hp_control.specs.Walks.{reach, run_of, seen}
use Rattle.hp_model.specs.Steps.{implied_but_for}
use Rattle.hp_model.specs.Tokens.{name_for}
use Rattle.hp_model.proofs.Course.{Course, Along, is_standing}
use Rattle.hp_model.proofs.Courses.{ready}
use Rattle.hp_model.proofs.Following.{implied_but_thins}
use Rattle.hp_model.proofs.Stacks.{deeper, refused, rooted-drop}
use Rattle.hp_model.proofs.Thinning.{thinning_implied, thinning_pop_to, thinning_through, thinning_through_named}
use Rattle.hp_older.specs.GoesOn.{is_key, is_new}
use Rattle.hp_older.proofs.Acting.{name-told}
use Rattle.hp_older.proofs.Keys.{among-all, apart-name, apart-set, html_space, named-named, named-within, named_in, either_of}
use Rattle.hp_older.proofs.Popping.{all-popped, reach-root, run-short, shown-run}
use Rattle.hp_older.proofs.Effects.{apart-fewer, but-apart, but_for-strong, implied-strong, other_name, root-apart, root-html, shown-thin, shown-weak, to-thin}
use Rattle.hp_older.proofs.Levels.{core_names, key_names, template_names}
use Rattle.hp_older.proofs.Links.{top-short}
use Rattle.hp_older.proofs.Moves.{Did, did_strong, did_thin, did_weak, rooted_on, through_coming, through_shown, with_there, with_top}
use Rattle.hp_older.proofs.Resets.{is_sorted}
use Rattle.hp_older.proofs.Steps.{can_through, can_through_first, is_cells, is_context, is_headings, is_select_name, is_template_name, narrows, still_but, still_there, through_first}
use Rattle.hp_older.proofs.Steps as steps
use Rattle.hp_older.proofs.Track.{On, There, nowhere, named, among, ThereIs, unknown, plain, TopIs, Track, can_pass, is_even, is_there_named, name_told, passed_named, strongly, thinly, under, weakly}
use Rattle.hp_older.proofs.Turning.{through_template}

or_one : (b : Bool) → (b || false) ≡ true → b ≡ true
or_one true h = refl
or_one false h = absurd (true≢false (sym h))

one_of : (only name : List ℕ) → is_among (only ∷ []) name ≡ true → name ≡ only
one_of only name h = equal_bytes true name only (sym (or_one (bytes_eq name only) h)) refl

-- through an element of a name that a scope shows, cells or not
shown_thinly : (s : ControlState) (name : List ℕ) (w : Track) (v : Course) (n : ℕ) (c : ControlState) → Along v n c → On w s c → is_standing v.base ≡ true → is_among template_names name ≡ false → is_among (words "html") name ≡ false → is_there_named w.there name ≡ true
    → Did s (through_named name) (thinly w) c
shown_thinly s name w v n c g on h nt nh k = go w.there k on.there
  where
    ends : (where_ : Scope) (e : OpenElement) → named_in template_names e ≡ true → within (kinds.Set (ends_of where_)) e ≡ true
    ends scope.Default = named-within template_names sets.DefaultScopeEnds refl
    ends scope.ListItem = named-within template_names sets.ListItemScopeEnds refl
    ends scope.Button = named-within template_names sets.ButtonScopeEnds refl
    ends scope.Table = named-within template_names sets.TableScopeEnds refl
    ends scope.Select = named-within template_names sets.SelectScopeEnds refl

    go : (there : There) → is_there_named there name ≡ true → ThereIs there c.stack → Did s (through_named name) (thinly w) c
    go nowhere m shown = absurd (true≢false (sym m))
    go (among where_ names) m shown = absurd (true≢false (sym m))
    go (named where_ other) m shown =
        let same = equal_bytes true other name (sym m) refl in
        did_thin s (through_named name) w v n c g on (thinning_through_named name c (ready v n c h g))
        (shown-thin s (kinds.Html name) (kinds.Set (ends_of where_)) c (rooted_on v n c g h) (apart-name (words "html") name nh) (apart-name template_names name nt) (ends where_) (subst (λ x. seen (kinds.Html x) (kinds.Set (ends_of where_)) c.stack ≡ true) same shown))

-- through an element of a name
pub through_did : (s : ControlState) (t : Token) (which : Which) (w : Track) (v : Course) (n : ℕ) (c : ControlState) → is_sorted s c.stack ≡ true → Along v n c → On w s c → is_standing v.base ≡ true → can_through (name_told (kind_of t) which) w ≡ true → Did s (through_named (name_for t which)) (steps.through (name_told (kind_of t) which) w) c
through_did s t which w v n c srt g on h k = go (name_told (kind_of t) which) refl k
  where
    by_name : (name : List ℕ) (a b : Bool) → is_template_name name ≡ a → is_select_name name ≡ b → (if a then is_even w.balance else if b then w.select || is_there_named w.there name else can_pass (words "template") name && is_there_named w.there name) ≡ true
        → Did s (through_named name) (if a then record (thinly w) { balance = under } else if b then thinly w else passed_named name w) c
    by_name name true b e f q = subst (λ x. Did s (through_named x) (record (thinly w) { balance = under }) c) (sym (one_of (text_of known.Template) name e)) (through_template s w v n c srt g on h q)
    by_name name false true e f q = subst (λ x. Did s (through_named x) (thinly w) c) (sym same) (selected w.select refl)
      where
        same : name ≡ text_of known.Select
        same = one_of (text_of known.Select) name f

        selected : (z : Bool) → w.select ≡ z → Did s (through_named (text_of known.Select)) (thinly w) c
        selected true y = through_coming s (words "select") (words "template select") (kinds.Html (text_of known.Select)) w v n c g on h (apart-name (words "html") (text_of known.Select) refl) select_goal (apart-name template_names (text_of known.Select) refl)
            (named-named template_names (words "template select") refl) (named-named (words "select") (words "template select") refl) (on.select y)
          where
            select_goal : (x : OpenElement) → named_in (words "select") x ≡ true → within (kinds.Html (text_of known.Select)) x ≡ true
            select_goal x m =
                let parts = and_parts (is_html x) (is_among (words "select") x.name) m in
                and_from (is_html x) (bytes_eq (text_of known.Select) x.name) parts.0 (subst (λ y2. bytes_eq (text_of known.Select) y2 ≡ true) (sym (one_of (text_of known.Select) x.name parts.1)) refl)
        selected false y = shown_thinly s (text_of known.Select) w v n c g on h refl refl (subst (λ x. is_there_named w.there x ≡ true) same (either_of w.select (is_there_named w.there name) q y))
    by_name name false false e f q =
        let parts = and_parts (can_pass (words "template") name) (is_there_named w.there name) q in
        let passes = and_parts (not (is_among (words "template") name)) (not (is_among (words "html") name)) parts.0 in
        through_shown s name w v n c g on h (not-true (is_among (words "template") name) passes.0) (not-true (is_among (words "html") name) passes.1) parts.1

    go : (o : Option (List ℕ)) → name_told (kind_of t) which ≡ o → can_through o w ≡ true → Did s (through_named (name_for t which)) (steps.through o w) c
    go None e q = absurd (true≢false (sym q))
    go (Some name) e q = subst (λ x. Did s (through_named x) (steps.through (Some name) w) c) (sym (name-told t which name e)) (by_name name (is_template_name name) (is_select_name name) refl refl q)

-- through the first of a set
pub through_first_did : (s : ControlState) (names : SetName) (w : Track) (v : Course) (n : ℕ) (c : ControlState) → Along v n c → On w s c → is_standing v.base ≡ true → can_through_first names w ≡ true → Did s (through (kinds.Set names) kinds.Nothing) (through_first names w) c
through_first_did s sets.Headings w v n c g on h k = go w.there k on.there
  where
    go : (there : There) → is_headings there ≡ true → ThereIs there c.stack → Did s (through (kinds.Set sets.Headings) kinds.Nothing) (weakly w) c
    go (among scope.Default sets.Headings) m shown =
        did_weak s (through (kinds.Set sets.Headings) kinds.Nothing) w v n c g on (thinning_through (kinds.Set sets.Headings) kinds.Nothing c (ready v n c h g))
        (shown-weak s (kinds.Set sets.Headings) (kinds.Set sets.DefaultScopeEnds) c (rooted_on v n c g h) (apart-set (words "html") (members sets.Headings) refl) (apart-set core_names (members sets.Headings) refl) (named-within core_names sets.DefaultScopeEnds refl) shown)
    go _ m shown = absurd (true≢false (sym m))
through_first_did s sets.Cells w v n c g on h k = celled w.cell refl
  where
    shown_one : (there : There) → is_cells there ≡ true → ThereIs there c.stack → Did s (through (kinds.Set sets.Cells) kinds.Nothing) (thinly w) c
    shown_one (among scope.Table sets.Cells) m shown =
        did_thin s (through (kinds.Set sets.Cells) kinds.Nothing) w v n c g on (thinning_through (kinds.Set sets.Cells) kinds.Nothing c (ready v n c h g))
        (shown-thin s (kinds.Set sets.Cells) (kinds.Set sets.TableScopeEnds) c (rooted_on v n c g h) (apart-set (words "html") (members sets.Cells) refl) (apart-set template_names (members sets.Cells) refl) (named-within template_names sets.TableScopeEnds refl) shown)
    shown_one _ m shown = absurd (true≢false (sym m))

    celled : (z : Bool) → w.cell ≡ z → Did s (through (kinds.Set sets.Cells) kinds.Nothing) (thinly w) c
    celled true y = through_coming s (words "td th") core_names (kinds.Set sets.Cells) w v n c g on h (apart-set (words "html") (members sets.Cells) refl) (named-within (words "td th") sets.Cells refl) (apart-set template_names (members sets.Cells) refl)
        (named-named template_names core_names refl) (named-named (words "td th") core_names refl) (on.cell y)
    celled false y = shown_one w.there (either_of w.cell (is_cells w.there) k y) on.there
through_first_did s _ w v n c g on h k = absurd (true≢false (sym k))

-- a member of a set of HTML names has one of them
html_members : (names : List (List ℕ)) (name : List ℕ) → is_member (map (λ n. (Html, n)) names) Html name ≡ is_among names name
html_members [] name = refl
html_members (x ∷ xs) name = ap (λ b. bytes_eq name x || b) (html_members xs name)

other_members : (names : List (List ℕ)) (space : Namespace) (name : List ℕ) → is_html_space space ≡ false → is_member (map (λ n. (Html, n)) names) space name ≡ false
other_members [] space name h = refl
other_members (x ∷ xs) Html name h = absurd (true≢false h)
other_members (x ∷ xs) MathMl name h = other_members xs MathMl name h
other_members (x ∷ xs) Svg name h = other_members xs Svg name h

pub set-named : (names : List (List ℕ)) (e : OpenElement) → is_member (map (λ n. (Html, n)) names) e.namespace e.name ≡ true → named_in names e ≡ true
set-named names e h = go (is_html_space e.namespace) refl
  where
    go : (b : Bool) → is_html_space e.namespace ≡ b → (b && is_among names e.name) ≡ true
    go true f = sym (html_members names e.name) ∙ subst (λ space. is_member (map (λ n. (Html, n)) names) space e.name ≡ true) (html_space e.namespace f) h
    go false f = absurd (true≢false (sym h ∙ other_members names e.namespace e.name f))

abbrev KeyFree : List OpenElement → Type 0
KeyFree [] = ⊥
KeyFree (e ∷ es) = named_in key_names e ≡ false

-- down to what a scope shows, or to another goal above it: the current node is plain
module _ (inner ends goals : Kinds) (is_goal : (e : OpenElement) → within inner e ≡ true → within goals e ≡ true) (plain_one : (e : OpenElement) → within inner e ≡ true → named_in key_names e ≡ false)
    (others : (e : OpenElement) → within goals e ≡ true → within ends e ≡ false → named_in key_names e ≡ false) where
  narrow : (st : List OpenElement) → seen inner ends st ≡ true → (k : ℕ) → reach goals kinds.Nothing st ≡ Some k → KeyFree (drop k st)
  narrow [] h k e = absurd (none-some k e)
  narrow (y ∷ ys) h k e = go (within goals y) refl (within inner y) refl (within ends y) refl e h (λ z j q. narrow ys z j q)
    where
      mapped : (o : Option ℕ) → is_some (option_map suc o) ≡ is_some o
      mapped None = refl
      mapped (Some j) = refl

      go : (a : Bool) → within goals y ≡ a → (b : Bool) → within inner y ≡ b → (d : Bool) → within ends y ≡ d → (if a then Some 0 else option_map suc (reach goals kinds.Nothing ys)) ≡ Some k → is_some (if b then Some 0 else (if d then None else option_map suc (reach inner ends ys))) ≡ true
          → (seen inner ends ys ≡ true → (j : ℕ) → reach goals kinds.Nothing ys ≡ Some j → KeyFree (drop j ys)) → KeyFree (drop k (y ∷ ys))
      go true f true i d j p q later = subst (λ x. KeyFree (drop x (y ∷ ys))) (same_Some 0 k p) (plain_one y i)
      go true f false i true j p q later = absurd (true≢false (sym q))
      go true f false i false j p q later = subst (λ x. KeyFree (drop x (y ∷ ys))) (same_Some 0 k p) (others y f j)
      go false f true i d j p q later = absurd (true≢false (sym (is_goal y i) ∙ f))
      go false f false i true j p q later = absurd (true≢false (sym q))
      go false f false i false j p q later =
          let (x, there) = deeper (reach goals kinds.Nothing ys) k p in
          subst (λ z. KeyFree (drop z (y ∷ ys))) (sym there.1) (later (sym (mapped (reach inner ends ys)) ∙ q) x there.0)

plain_of : (s : ControlState) (st : List OpenElement) → is_rooted st ≡ true → KeyFree st → TopIs plain s st
plain_of s [] r h = absurd h
plain_of s (e ∷ es) r h = let l : 1 < length (e ∷ es) = top-short e es r (apart-fewer (words "html") key_names refl e h) in (omega arith, ap not (and_right (is_new s e) (is_key e) h))

-- goals that are no ends are not kept track of
goal_plain : (goals ends : SetName) → list_all (λ x. not (is_among key_names x.1 && not (in_set ends Html x.1))) (members goals) ≡ true → (e : OpenElement) → is_member (members goals) e.namespace e.name ≡ true → within (kinds.Set ends) e ≡ false → named_in key_names e ≡ false
goal_plain goals ends h e k m = false_from_ne_true (named_in key_names e) (λ q. contradiction q)
  where
    no : (is_among key_names e.name && not (in_set ends Html e.name)) ≡ false
    no = refused (λ name. is_among key_names name && not (in_set ends Html name)) (members goals) e.namespace e.name h k

    contradiction : named_in key_names e ≡ true → ⊥
    contradiction q =
        let parts = and_parts (is_html e) (is_among key_names e.name) q in
        let off : in_set ends Html e.name ≡ false = subst (λ space. in_set ends space e.name ≡ false) (html_space e.namespace parts.0) m in
        true≢false (sym (and_from (is_among key_names e.name) (not (in_set ends Html e.name)) parts.1 (ap not off)) ∙ no)

-- pops down to a context of a table
pub to_did : (s : ControlState) (names : SetName) (w : Track) (v : Course) (n : ℕ) (c : ControlState) → Along v n c → On w s c → is_standing v.base ≡ true → is_context names ≡ true → Did s (pop_to (kinds.Set names)) (record (thinly w) { top = if narrows names w.there then plain else unknown }) c
to_did s names w v n c g on h k = go names k
  where
    r : is_rooted c.stack ≡ true
    r = rooted_on v n c g h

    thinned : (x : SetName) → ((e : OpenElement) → named_in template_names e ≡ true → within (kinds.Set x) e ≡ true) → ((e : OpenElement) → named_in (words "html") e ≡ true → within (kinds.Set x) e ≡ true) → Did s (pop_to (kinds.Set x)) (thinly w) c
    thinned x ht hh = did_thin s (pop_to (kinds.Set x)) w v n c g on (thinning_pop_to (kinds.Set x) c (ready v n c h g)) (to-thin s (kinds.Set x) c r ht hh)

    topped : (x : SetName) → ((e : OpenElement) → named_in (words "html") e ≡ true → within (kinds.Set x) e ≡ true) → ((k : ℕ) → reach (kinds.Set x) kinds.Nothing c.stack ≡ Some k → KeyFree (drop k c.stack)) → TopIs plain s (pop_to (kinds.Set x) c).control.stack
    topped x hh f = at_depth (reach (kinds.Set x) kinds.Nothing c.stack) refl (reach-root (kinds.Set x) c.stack r (λ e m. hh e (root-html e m)))
      where
        at_depth : (o : Option ℕ) → reach (kinds.Set x) kinds.Nothing c.stack ≡ o → above o c.stack < length c.stack → TopIs plain s (popped_by (above o c.stack) c.stack)
        at_depth None e l = absurd (omega arith)
        at_depth (Some j) e l = subst (λ es. TopIs plain s es) (sym (all-popped j c.stack l)) (plain_of s (drop j c.stack) (rooted-drop j c.stack l r) (f j e))

    with_plain : (x : SetName) → Did s (pop_to (kinds.Set x)) (thinly w) c → TopIs plain s (pop_to (kinds.Set x) c).control.stack → Did s (pop_to (kinds.Set x)) (record (thinly w) { top = plain }) c
    with_plain x (a, inl b) p = (a, inl b)
    with_plain x (a, inr o) p = (a, inr (with_top plain (thinly w) s (pop_to (kinds.Set x) c).control o p))

    body_ends : (e : OpenElement) → within (kinds.Set sets.TableBodyContext) e ≡ true → within (kinds.Set sets.TableScopeEnds) e ≡ false → named_in key_names e ≡ false
    body_ends e m q = goal_plain sets.TableBodyContext sets.TableScopeEnds refl e m q

    row_ends : (e : OpenElement) → within (kinds.Set sets.TableRowContext) e ≡ true → within (kinds.Set sets.TableScopeEnds) e ≡ false → named_in key_names e ≡ false
    row_ends e m q = goal_plain sets.TableRowContext sets.TableScopeEnds refl e m q

    goal_of : (x : SetName) (names2 : List (List ℕ)) (name : List ℕ) → is_among names2 name ≡ true → ((e : OpenElement) → named_in names2 e ≡ true → within (kinds.Set x) e ≡ true) → (e : OpenElement) → within (kinds.Html name) e ≡ true → within (kinds.Set x) e ≡ true
    goal_of x names2 name m f e q =
        let parts = and_parts (is_html e) (bytes_eq name e.name) q in
        f e (and_from (is_html e) (is_among names2 e.name) parts.0 (subst (λ z. is_among names2 z ≡ true) (equal_bytes true name e.name (sym parts.1) refl) m))

    key_of : (names2 : List (List ℕ)) (name : List ℕ) → list_all (λ z. not (is_among key_names z)) names2 ≡ true → is_among names2 name ≡ true → (e : OpenElement) → within (kinds.Html name) e ≡ true → named_in key_names e ≡ false
    key_of names2 name a m = apart-name key_names name (not-true (is_among key_names name) (among-all (λ z. not (is_among key_names z)) names2 name a m))

    go : (x : SetName) → is_context x ≡ true → Did s (pop_to (kinds.Set x)) (record (thinly w) { top = if narrows x w.there then plain else unknown }) c
    go sets.TableContext q = thinned sets.TableContext (named-within template_names sets.TableContext refl) (named-within (words "html") sets.TableContext refl)
    go sets.TableBodyContext q = by_there w.there on.there
      where
        base : Did s (pop_to (kinds.Set sets.TableBodyContext)) (thinly w) c
        base = thinned sets.TableBodyContext (named-within template_names sets.TableBodyContext refl) (named-within (words "html") sets.TableBodyContext refl)

        named_one : (name : List ℕ) (b : Bool) → is_among (words "tbody tfoot thead") name ≡ b → seen (kinds.Html name) (kinds.Set sets.TableScopeEnds) c.stack ≡ true → Did s (pop_to (kinds.Set sets.TableBodyContext)) (record (thinly w) { top = if b then plain else unknown }) c
        named_one name true m shown = with_plain sets.TableBodyContext base (topped sets.TableBodyContext (named-within (words "html") sets.TableBodyContext refl)
            (narrow (kinds.Html name) (kinds.Set sets.TableScopeEnds) (kinds.Set sets.TableBodyContext) (goal_of sets.TableBodyContext (words "tbody tfoot thead") name m (named-within (words "tbody tfoot thead") sets.TableBodyContext refl)) (key_of (words "tbody tfoot thead") name refl m) body_ends c.stack shown))
        named_one name false m shown = base

        by_there : (there : There) → ThereIs there c.stack → Did s (pop_to (kinds.Set sets.TableBodyContext)) (record (thinly w) { top = if narrows sets.TableBodyContext there then plain else unknown }) c
        by_there (named scope.Table name) shown = named_one name (is_among (words "tbody tfoot thead") name) refl shown
        by_there (among scope.Table sets.TableSections) shown = with_plain sets.TableBodyContext base (topped sets.TableBodyContext (named-within (words "html") sets.TableBodyContext refl)
            (narrow (kinds.Set sets.TableSections) (kinds.Set sets.TableScopeEnds) (kinds.Set sets.TableBodyContext) sections_goal (apart-set key_names (members sets.TableSections) refl) body_ends c.stack shown))
          where
            sections_goal : (e : OpenElement) → within (kinds.Set sets.TableSections) e ≡ true → within (kinds.Set sets.TableBodyContext) e ≡ true
            sections_goal e m = named-within (words "tbody tfoot thead") sets.TableBodyContext refl e (set-named (words "tbody tfoot thead") e m)
        by_there _ shown = base
    go sets.TableRowContext q = by_there w.there on.there
      where
        base : Did s (pop_to (kinds.Set sets.TableRowContext)) (thinly w) c
        base = thinned sets.TableRowContext (named-within template_names sets.TableRowContext refl) (named-within (words "html") sets.TableRowContext refl)

        named_one : (name : List ℕ) (b : Bool) → is_among (words "tr") name ≡ b → seen (kinds.Html name) (kinds.Set sets.TableScopeEnds) c.stack ≡ true → Did s (pop_to (kinds.Set sets.TableRowContext)) (record (thinly w) { top = if b then plain else unknown }) c
        named_one name true m shown = with_plain sets.TableRowContext base (topped sets.TableRowContext (named-within (words "html") sets.TableRowContext refl)
            (narrow (kinds.Html name) (kinds.Set sets.TableScopeEnds) (kinds.Set sets.TableRowContext) (goal_of sets.TableRowContext (words "tr") name m (named-within (words "tr") sets.TableRowContext refl)) (key_of (words "tr") name refl m) row_ends c.stack shown))
        named_one name false m shown = base

        by_there : (there : There) → ThereIs there c.stack → Did s (pop_to (kinds.Set sets.TableRowContext)) (record (thinly w) { top = if narrows sets.TableRowContext there then plain else unknown }) c
        by_there (named scope.Table name) shown = named_one name (is_among (words "tr") name) refl shown
        by_there _ shown = base
    go _ q = absurd (true≢false (sym q))

-- what stands there below implied end tags
still_run : (name : List ℕ) (where_ : Scope) (x : Kinds) (c : ControlState) → is_rooted c.stack ≡ true → ((e : OpenElement) → within x e ≡ true → named_in key_names e ≡ false) → ((e : OpenElement) → within x e ≡ true → within (kinds.Html name) e ≡ false)
    → seen (kinds.Html name) (kinds.Set (ends_of where_)) c.stack ≡ true → seen (kinds.Html name) (kinds.Set (ends_of where_)) (pop_run x c).control.stack ≡ true
still_run name where_ x c r a b shown =
    let l = run-short x c.stack r (root-apart x (λ e m. apart-fewer (words "html") key_names refl e (a e m))) in
    subst (λ es. seen (kinds.Html name) (kinds.Set (ends_of where_)) es ≡ true) (sym (all-popped (run_of x c.stack) c.stack l)) (shown-run (kinds.Html name) (kinds.Set (ends_of where_)) x c.stack b shown)

still_set : (y : SetName) (where_ : Scope) (x : Kinds) (c : ControlState) → is_rooted c.stack ≡ true → ((e : OpenElement) → within x e ≡ true → named_in key_names e ≡ false) → ((e : OpenElement) → within x e ≡ true → within (kinds.Set y) e ≡ false)
    → seen (kinds.Set y) (kinds.Set (ends_of where_)) c.stack ≡ true → seen (kinds.Set y) (kinds.Set (ends_of where_)) (pop_run x c).control.stack ≡ true
still_set y where_ x c r a b shown =
    let l = run-short x c.stack r (root-apart x (λ e m. apart-fewer (words "html") key_names refl e (a e m))) in
    subst (λ es. seen (kinds.Set y) (kinds.Set (ends_of where_)) es ≡ true) (sym (all-popped (run_of x c.stack) c.stack l)) (shown-run (kinds.Set y) (kinds.Set (ends_of where_)) x c.stack b shown)

implied_key : (e : OpenElement) → within (kinds.Set sets.Implied) e ≡ true → named_in key_names e ≡ false
implied_key = apart-set key_names (members sets.Implied) refl

pub implied_there : (there : There) (c : ControlState) → is_rooted c.stack ≡ true → ThereIs there c.stack → ThereIs (still_there there) (implied c).control.stack
implied_there nowhere c r h = tt
implied_there (named where_ name) c r h = go (in_set sets.Implied Html name) refl
  where
    other : (e : OpenElement) → in_set sets.Implied Html name ≡ false → within (kinds.Set sets.Implied) e ≡ true → within (kinds.Html name) e ≡ false
    other e f m = false_from_ne_true (within (kinds.Html name) e) (λ q.
        let parts = and_parts (is_html e) (bytes_eq name e.name) q in
        let one : in_set sets.Implied Html e.name ≡ true = subst (λ space. in_set sets.Implied space e.name ≡ true) (html_space e.namespace parts.0) m in
        true≢false (sym one ∙ (ap (in_set sets.Implied Html) (sym (equal_bytes true name e.name (sym parts.1) refl)) ∙ f)))

    go : (b : Bool) → in_set sets.Implied Html name ≡ b → ThereIs (if b then nowhere else named where_ name) (implied c).control.stack
    go true f = tt
    go false f = still_run name where_ (kinds.Set sets.Implied) c r implied_key (λ e m. other e f m) h
implied_there (among where_ sets.Headings) c r h = still_set sets.Headings where_ (kinds.Set sets.Implied) c r implied_key headings_off h
  where
    headings_off : (e : OpenElement) → within (kinds.Set sets.Implied) e ≡ true → within (kinds.Set sets.Headings) e ≡ false
    headings_off e m = false_from_ne_true (within (kinds.Set sets.Headings) e) (λ q. true≢false (sym (set-named (words "h1 h2 h3 h4 h5 h6") e q) ∙ apart-set (words "h1 h2 h3 h4 h5 h6") (members sets.Implied) refl e m))
implied_there (among where_ sets.Cells) c r h = still_set sets.Cells where_ (kinds.Set sets.Implied) c r implied_key cells_off h
  where
    cells_off : (e : OpenElement) → within (kinds.Set sets.Implied) e ≡ true → within (kinds.Set sets.Cells) e ≡ false
    cells_off e m = false_from_ne_true (within (kinds.Set sets.Cells) e) (λ q. true≢false (sym (set-named (words "td th") e q) ∙ apart-set (words "td th") (members sets.Implied) refl e m))
implied_there (among where_ _) c r h = tt

-- below the implied end tags but its own
but_one : (k : Known) (where_ : Scope) (c : ControlState) → is_rooted c.stack ≡ true → ((e : OpenElement) → within (kinds.Set (implied_but k)) e ≡ true → within (kinds.Html (text_of k)) e ≡ false) → (but : List ℕ) → but ≡ text_of k
    → seen (kinds.Html but) (kinds.Set (ends_of where_)) c.stack ≡ true → seen (kinds.Html but) (kinds.Set (ends_of where_)) (implied_but_for (known_of but) c).control.stack ≡ true
but_one k where_ c r off but same shown =
    subst (λ x. seen (kinds.Html x) (kinds.Set (ends_of where_)) (implied_but_for (known_of x) c).control.stack ≡ true) (sym same)
    (subst (λ o. seen (kinds.Html (text_of k)) (kinds.Set (ends_of where_)) (implied_but_for o c).control.stack ≡ true) (sym (known_of_text k))
    (still_run (text_of k) where_ (kinds.Set (implied_but k)) c r (but-apart k) off (subst (λ x. seen (kinds.Html x) (kinds.Set (ends_of where_)) c.stack ≡ true) same shown)))

pub but_there : (but : List ℕ) (where_ : Scope) (c : ControlState) → is_rooted c.stack ≡ true → is_among (words "dd dt li") but ≡ true
    → seen (kinds.Html but) (kinds.Set (ends_of where_)) c.stack ≡ true → seen (kinds.Html but) (kinds.Set (ends_of where_)) (implied_but_for (known_of but) c).control.stack ≡ true
but_there but where_ c r m shown = go (bytes_eq but (text_of known.Dd)) refl (bytes_eq but (text_of known.Dt)) refl (bytes_eq but (text_of known.Li)) refl m
  where
    go : (a : Bool) → bytes_eq but (text_of known.Dd) ≡ a → (b : Bool) → bytes_eq but (text_of known.Dt) ≡ b → (d : Bool) → bytes_eq but (text_of known.Li) ≡ d → (a || (b || (d || false))) ≡ true
        → seen (kinds.Html but) (kinds.Set (ends_of where_)) (implied_but_for (known_of but) c).control.stack ≡ true
    go true f b i d j q = but_one known.Dd where_ c r (λ e x. other_name (text_of known.Dd) e (apart-set (text_of known.Dd ∷ []) (members sets.ImpliedButDd) refl e x)) but (equal_bytes true but (text_of known.Dd) (sym f) refl) shown
    go false f true i d j q = but_one known.Dt where_ c r (λ e x. other_name (text_of known.Dt) e (apart-set (text_of known.Dt ∷ []) (members sets.ImpliedButDt) refl e x)) but (equal_bytes true but (text_of known.Dt) (sym i) refl) shown
    go false f false i true j q = but_one known.Li where_ c r (λ e x. other_name (text_of known.Li) e (apart-set (text_of known.Li ∷ []) (members sets.ImpliedButLi) refl e x)) but (equal_bytes true but (text_of known.Li) (sym j) refl) shown
    go false f false i false j q = absurd (true≢false (sym q))

-- the acts that pop implied end tags
pub implied_did : (s : ControlState) (w : Track) (v : Course) (n : ℕ) (c : ControlState) → Along v n c → On w s c → is_standing v.base ≡ true → Did s implied (record (strongly w) { there = still_there w.there }) c
implied_did s w v n c g on h = go (did_strong s implied w v n c g on (thinning_implied c (ready v n c h g)) (implied-strong s c (rooted_on v n c g h)))
  where
    go : Did s implied (strongly w) c → Did s implied (record (strongly w) { there = still_there w.there }) c
    go (a, inl b) = (a, inl b)
    go (a, inr o) = (a, inr (with_there (still_there w.there) (strongly w) s (implied c).control o (implied_there w.there c (rooted_on v n c g h) on.there)))

pub except_did : (s : ControlState) (t : Token) (which : Which) (w : Track) (v : Course) (n : ℕ) (c : ControlState) → Along v n c → On w s c → is_standing v.base ≡ true
    → Did s (implied_but_for (known_of (name_for t which))) (record (strongly w) { there = still_but (name_told (kind_of t) which) w.there }) c
except_did s t which w v n c g on h = go (name_told (kind_of t) which) refl
  where
    f : Act
    f = implied_but_for (known_of (name_for t which))

    base : Did s f (strongly w) c
    base = did_strong s f w v n c g on (implied_but_thins (known_of (name_for t which)) c (ready v n c h g)) (but_for-strong s (known_of (name_for t which)) c (rooted_on v n c g h))

    with_it_there : (there : There) → Did s f (strongly w) c → ThereIs there (f c).control.stack → Did s f (record (strongly w) { there = there }) c
    with_it_there there (a, inl b) k = (a, inl b)
    with_it_there there (a, inr o) k = (a, inr (with_there there (strongly w) s (f c).control o k))

    by_there : (but : List ℕ) → name_for t which ≡ but → (there : There) → ThereIs there c.stack → ThereIs (still_but (Some but) there) (f c).control.stack
    by_there but e nowhere k = tt
    by_there but e (among where_ names) k = tt
    by_there but e (named where_ name) k = test (bytes_eq but name && is_among (words "dd dt li") but) refl
      where
        test : (b : Bool) → (bytes_eq but name && is_among (words "dd dt li") but) ≡ b → ThereIs (if b then named where_ name else nowhere) (f c).control.stack
        test false q = tt
        test true q =
            let parts = and_parts (bytes_eq but name) (is_among (words "dd dt li") but) q in
            let same : but ≡ name = equal_bytes true but name (sym parts.0) refl in
            subst (λ x. seen (kinds.Html x) (kinds.Set (ends_of where_)) (implied_but_for (known_of (name_for t which)) c).control.stack ≡ true) same
            (subst (λ x. seen (kinds.Html but) (kinds.Set (ends_of where_)) (implied_but_for (known_of x) c).control.stack ≡ true) (sym e)
            (but_there but where_ c (rooted_on v n c g h) parts.1 (subst (λ x. seen (kinds.Html x) (kinds.Set (ends_of where_)) c.stack ≡ true) (sym same) k)))

    go : (o : Option (List ℕ)) → name_told (kind_of t) which ≡ o → Did s f (record (strongly w) { there = still_but o w.there }) c
    go None e = base
    go (Some but) e = with_it_there (still_but (Some but) w.there) base (by_there but (name-told t which but e) w.there on.there)
