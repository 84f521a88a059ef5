-- What a sound guess builds.
use Rattle.hp_pieces.specs.Guesses.{covered_text, state_behind}
use Rattle.hp_pieces.proofs.Stays.{guess_grows}
use Rattle.hp_growing.specs.Laws.{GuessBuilds}
use Rattle.hp_growing.proofs.Places.{leads-name_there}

pub guess-builds : GuessBuilds
guess-builds f s t sound may holds counted =
    let g = guess_grows f s sound may holds in
    let names = leads-name_there f.names (covered_text f) s (state_behind f s) g.edits g.leads may.valid in
    record { edits = g.edits; leads = g.leads; builds = g.makes t counted.there counted.count names.named }
