use Rattle.std.proofs.Common.{List, ℕ, ◌∙◌, ap, sym, subst}
use Rattle.std.specs.Str.{chars, IsUtf8}
use Rattle.hp_tokens.proofs.Characters.{rest_whole}
use Rattle.hp_tokens.proofs.Fronts.{front-within, front-utf8, front-chars}
use Rattle.hp_tokens.proofs.cursor.Cursor.behind_front.Goals as goal

pub slice_bounds-result-count : goal.slice_bounds-result-count
slice_bounds-result-count c = front-within c.rest.result.now c.args.self.now.text 1 c.rest.ensures.utf8 c.rest.ensures.chars c.requires.front

pub slice_bounds-result-start : goal.slice_bounds-result-start
slice_bounds-result-start c = front-within c.rest.result.now c.args.self.now.text 1 c.rest.ensures.utf8 c.rest.ensures.chars c.requires.front

pub returns-clause-chars : goal.returns-clause-chars
returns-clause-chars c =
    ap chars (rest_whole c.rest.result.now 1) ∙ front-chars c.rest.result.now c.args.self.now.text 1 c.rest.ensures.utf8 c.rest.ensures.chars c.requires.front

pub returns-clause-utf8 : goal.returns-clause-utf8
returns-clause-utf8 c =
    let P : List ℕ → Type 0 = λ xs. IsUtf8 xs in
    subst P (sym (rest_whole c.rest.result.now 1)) (front-utf8 c.rest.result.now c.args.self.now.text 1 c.rest.ensures.utf8 c.rest.ensures.chars c.requires.front)
