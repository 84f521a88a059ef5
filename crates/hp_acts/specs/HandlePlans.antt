-- What the handling of a token asks and changes (13.2.6): its turns, and the line feed that is dropped.
use Rattle.std.specs.Prelude.{ℕ, zero, suc, ◌+◌, ◌*◌, ◌^◌, ◌==◌, if◌then◌else◌, List, [], ◌∷◌, length, Option, None, Some}
use Rattle.hp_elements.specs.declared.token.Token.{Token}
use Rattle.hp_elements.specs.declared.token.Token.TheVariants as token
use Rattle.hp_elements.specs.declared.token.CharClass.{CharClass}
use Rattle.hp_control.specs.declared.question.Crossing.TheVariants.{X3}
use Rattle.hp_control.specs.Faithful.{Split}
use Rattle.hp_control.specs.Plan.{Plan, gives, crosses, followed_by}
use Rattle.hp_acts.specs.Handling.{nothing_asked, unskipped}
use Rattle.hp_acts.specs.RowPlans.{Reached, Came, left, again, turn_plan}

abbrev pub where_again : (Token → Reached → Plan Reached) → Came → Plan Reached
where_again next (left r) = gives r
where_again next (again t r) = next t r

-- at most so many turns
unfoldable pub turns_plan : ℕ → Token → Reached → Plan Reached
turns_plan zero t r = crosses X3
turns_plan (suc n) t r = followed_by (turn_plan t r) (where_again (turns_plan n))

-- a token is handled in no more turns than this: an older stack has fewer than 2 ^ 60 elements
abbrev pub most_turns : Split → ℕ
most_turns v = 32 + 16 * (2 ^ 60 + length v.change.stack)

abbrev pub all_turns_plan : Token → Split → Plan Reached
all_turns_plan t v = turns_plan (most_turns v) t (record { split = v; handled = nothing_asked })

-- characters without the line feed that they begin with; none where they are that alone
abbrev pub rest_of_text : CharClass → List ℕ → Option Token
rest_of_text class [] = None
rest_of_text class (c ∷ cs) = Some (token.Characters class (c ∷ cs))

abbrev pub without_line_feed : Token → Option Token
without_line_feed (token.Characters class (c ∷ cs)) = if c == 0xA then rest_of_text class cs else Some (token.Characters class (c ∷ cs))
without_line_feed t = Some t

abbrev pub handle_rest : Option Token → Split → Plan Reached
handle_rest None v = gives (record { split = v; handled = nothing_asked })
handle_rest (Some t) v = all_turns_plan t v

-- a line feed is dropped where one is to be skipped
abbrev pub handle_plan : Token → Split → Plan Reached
handle_plan t v = if v.change.skip_lf then handle_rest (without_line_feed t) (unskipped v) else all_turns_plan t v
