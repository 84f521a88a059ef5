-- The text that a page is, and the parts of it.
use Rattle.std.specs.Prelude.{ℕ, List}
use Rattle.hp_text.specs.declared.pages.Page.{Page}

-- the bytes of the page's text
abbrev pub text_of : Page → List ℕ
text_of page = page.text.now
