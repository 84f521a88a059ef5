use Rattle.std.proofs.Common.{refl}
use Rattle.hp_pieces.proofs.Inside.{resting_waits}
use Rattle.hp_pieces.proofs.Stays.{guess_grows, runs_wait, waiting_stays}
use Rattle.hp_pieces.proofs.laws.states_wait.Goals as goal

pub returns : goal.returns
returns c = record { start = λ names. refl; runs = runs_wait; resting = resting_waits; stays = waiting_stays; guess = guess_grows }
