-- Two control states, compared part by part.
use Rattle.std.specs.Prelude.{◌≡◌}
use Rattle.hp_control.specs.States.{ControlState}

pub record AreListsOf (s t : ControlState) : Type 0 where
  pub stack : s.stack ≡ t.stack
  pub formatting : s.formatting ≡ t.formatting
  pub templates : s.templates ≡ t.templates
  pub pending : s.pending ≡ t.pending

pub record AreFactsOf (s t : ControlState) : Type 0 where
  pub mode : s.mode ≡ t.mode
  pub original : s.original ≡ t.original
  pub next : s.next ≡ t.next
  pub head : s.head ≡ t.head
  pub form : s.form ≡ t.form
  pub frameset_ok : s.frameset_ok ≡ t.frameset_ok
  pub quirks : s.quirks ≡ t.quirks
  pub skip_lf : s.skip_lf ≡ t.skip_lf
