-- The tables of numbers give each token the acts that its mode's rows say.
use Rattle.std.proofs.Common.{◌≡◌, [], ◌++◌, get_or, refl}
use Rattle.hp_elements.specs.declared.token.Kind.{Kind}
use Rattle.hp_elements.specs.Rules.{acts_for, acts_numbered}
use Rattle.hp_elements.specs.Placing.{place_of}
use Rattle.hp_elements.proofs.RowLemmas.{row_at}
use Rattle.hp_rules_page.specs.declared.numbers.TheConstants.{INITIAL, BEFORE_HTML, BEFORE_HEAD, IN_HEAD, IN_HEAD_NOSCRIPT, AFTER_HEAD, AFTER_BODY, IN_FRAMESET, AFTER_FRAMESET, AFTER_AFTER_BODY, AFTER_AFTER_FRAMESET}
use Rattle.hp_rules_page.specs.Page.{initial, before_html, before_head, in_head, in_head_noscript, after_head}
use Rattle.hp_rules_page.specs.Late.{after_body, in_frameset, after_frameset, after_after_body, after_after_frameset}
use Rattle.hp_rules_page.specs.Table.{all_rows}

pub at_initial : (token : Kind) → acts_numbered all_rows (get_or INITIAL (place_of token) 0) ≡ acts_for initial token
at_initial token = row_at INITIAL [] initial (before_html ++ before_head ++ in_head ++ in_head_noscript ++ after_head ++ after_body ++ in_frameset ++ after_frameset ++ after_after_body ++ after_after_frameset) refl refl token

pub at_before_html : (token : Kind) → acts_numbered all_rows (get_or BEFORE_HTML (place_of token) 0) ≡ acts_for before_html token
at_before_html token = row_at BEFORE_HTML initial before_html (before_head ++ in_head ++ in_head_noscript ++ after_head ++ after_body ++ in_frameset ++ after_frameset ++ after_after_body ++ after_after_frameset) refl refl token

pub at_before_head : (token : Kind) → acts_numbered all_rows (get_or BEFORE_HEAD (place_of token) 0) ≡ acts_for before_head token
at_before_head token = row_at BEFORE_HEAD (initial ++ before_html) before_head (in_head ++ in_head_noscript ++ after_head ++ after_body ++ in_frameset ++ after_frameset ++ after_after_body ++ after_after_frameset) refl refl token

pub at_in_head : (token : Kind) → acts_numbered all_rows (get_or IN_HEAD (place_of token) 0) ≡ acts_for in_head token
at_in_head token = row_at IN_HEAD (initial ++ before_html ++ before_head) in_head (in_head_noscript ++ after_head ++ after_body ++ in_frameset ++ after_frameset ++ after_after_body ++ after_after_frameset) refl refl token

pub at_in_head_noscript : (token : Kind) → acts_numbered all_rows (get_or IN_HEAD_NOSCRIPT (place_of token) 0) ≡ acts_for in_head_noscript token
at_in_head_noscript token = row_at IN_HEAD_NOSCRIPT (initial ++ before_html ++ before_head ++ in_head) in_head_noscript (after_head ++ after_body ++ in_frameset ++ after_frameset ++ after_after_body ++ after_after_frameset) refl refl token

pub at_after_head : (token : Kind) → acts_numbered all_rows (get_or AFTER_HEAD (place_of token) 0) ≡ acts_for after_head token
at_after_head token = row_at AFTER_HEAD (initial ++ before_html ++ before_head ++ in_head ++ in_head_noscript) after_head (after_body ++ in_frameset ++ after_frameset ++ after_after_body ++ after_after_frameset) refl refl token

pub at_after_body : (token : Kind) → acts_numbered all_rows (get_or AFTER_BODY (place_of token) 0) ≡ acts_for after_body token
at_after_body token = row_at AFTER_BODY (initial ++ before_html ++ before_head ++ in_head ++ in_head_noscript ++ after_head) after_body (in_frameset ++ after_frameset ++ after_after_body ++ after_after_frameset) refl refl token

pub at_in_frameset : (token : Kind) → acts_numbered all_rows (get_or IN_FRAMESET (place_of token) 0) ≡ acts_for in_frameset token
at_in_frameset token = row_at IN_FRAMESET (initial ++ before_html ++ before_head ++ in_head ++ in_head_noscript ++ after_head ++ after_body) in_frameset (after_frameset ++ after_after_body ++ after_after_frameset) refl refl token

pub at_after_frameset : (token : Kind) → acts_numbered all_rows (get_or AFTER_FRAMESET (place_of token) 0) ≡ acts_for after_frameset token
at_after_frameset token = row_at AFTER_FRAMESET (initial ++ before_html ++ before_head ++ in_head ++ in_head_noscript ++ after_head ++ after_body ++ in_frameset) after_frameset (after_after_body ++ after_after_frameset) refl refl token

pub at_after_after_body : (token : Kind) → acts_numbered all_rows (get_or AFTER_AFTER_BODY (place_of token) 0) ≡ acts_for after_after_body token
at_after_after_body token = row_at AFTER_AFTER_BODY (initial ++ before_html ++ before_head ++ in_head ++ in_head_noscript ++ after_head ++ after_body ++ in_frameset ++ after_frameset) after_after_body after_after_frameset refl refl token

pub at_after_after_frameset : (token : Kind) → acts_numbered all_rows (get_or AFTER_AFTER_FRAMESET (place_of token) 0) ≡ acts_for after_after_frameset token
at_after_after_frameset token = row_at AFTER_AFTER_FRAMESET (initial ++ before_html ++ before_head ++ in_head ++ in_head_noscript ++ after_head ++ after_body ++ in_frameset ++ after_frameset ++ after_after_body) after_after_frameset [] refl refl token
