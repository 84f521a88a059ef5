use Rattle.hp_pieces.proofs.InBytes.{first_in_bytes, own_nothing}
use Rattle.hp_pieces.proofs.Inside.{first_parts, touches_inside, whole_is_own}
use Rattle.hp_pieces.proofs.Own.{first_before, first_exists, first_once, own_leads, own_or_touches}
use Rattle.hp_pieces.proofs.laws.firsts.Goals as goal

pub returns : goal.returns
returns c = record {
  once = first_once;
  exist = first_exists;
  before = first_before;
  parts = first_parts;
  bytes = first_in_bytes;
  inside = touches_inside;
  whole = whole_is_own;
  apart = own_or_touches;
  own = own_leads;
  known = own_nothing;
}
