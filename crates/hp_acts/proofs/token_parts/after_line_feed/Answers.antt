use Rattle.std.proofs.Common.{None, Some, ap, lit<, sym, ◌∙◌}
use Rattle.std.proofs.lemmas.Str.Pattern.{strip_prefix_char}
use Rattle.hp_acts.specs.HandlePlans.{without_line_feed}
use Rattle.hp_acts.proofs.LineFeeds.{text_ends, text_goes_on, text_stays}
use Rattle.hp_acts.proofs.token_parts.after_line_feed.Goals as goal

pub returns-in-None : goal.returns-in-None
returns-in-None c =
    text_stays c.in-Characters.class c.in-Characters.text c.as_str.result.now c.as_str.ensures c.as_str.utf8 (strip_prefix_char 0xA c.as_str.result.now None c.in-None.ensures.cases (lit< tt))
    ∙ sym (ap without_line_feed c.in-Characters.is)

pub returns-then-is_empty : goal.returns-then-is_empty
returns-then-is_empty c =
    text_ends c.in-Characters.class c.in-Characters.text c.as_str.result.now c.in-Some.rest.now c.in_ok-after-in-Some.after c.as_str.ensures c.as_str.utf8 (strip_prefix_char 0xA c.as_str.result.now (Some c.in-Some.rest) c.in-Some.ensures.cases (lit< tt)) c.in_ok-after-in-Some.ensures (sym c.is_empty.ensures ∙ c.if-is_empty.true)
    ∙ sym (ap without_line_feed c.in-Characters.is)

pub returns-else-is_empty : goal.returns-else-is_empty
returns-else-is_empty c =
    text_goes_on c.in-Characters.class c.in-Characters.text c.as_str.result.now c.in-Some.rest.now c.in_ok-after-in-Some.after c.as_str.ensures c.as_str.utf8 (strip_prefix_char 0xA c.as_str.result.now (Some c.in-Some.rest) c.in-Some.ensures.cases (lit< tt)) c.in_ok-after-in-Some.ensures (sym c.is_empty.ensures ∙ c.if-is_empty.false)
    ∙ sym (ap without_line_feed c.in-Characters.is)
