-- What a page on several threads becomes.
use Rattle.std.specs.Prelude.{◌≡◌, ◌==◌, ◌||◌, ℕ, ◌+◌, ◌∷◌, [], ◌++◌, List, true, Some, length, nat_lt, replicate}
use Rattle.std.specs.List.{list_all}
use Rattle.std.specs.Str.{chars}
use Rattle.hp_names.specs.BuiltIn.{built_in}
use Rattle.hp_control.specs.Tree.{Tree}
use Rattle.hp_cut.specs.Places.{Cutting}
use Rattle.hp_predict.specs.declared.quiet.GuessKind.{GuessKind}
use Rattle.hp_runs.specs.Pages.{IsTreeOf}
use Rattle.hp_board.specs.Calls.{IsBoardOf}
use Rattle.hp_board.specs.Desk.{Desk}
use Rattle.hp_board.specs.Fair.{IsFair}
use Rattle.hp_board.specs.Machine.{replay}
use Rattle.hp_board.specs.declared.journal.Entry.{Entry}
use Rattle.hp_board.specs.declared.journal.Status.TheVariants as status
use Rattle.hp_board.specs.declared.tally.Tally.{Tally}
use Rattle.hp_workers.specs.Turns.{AreByKind, IsFree}

-- the journal replays to a board on which all is done
abbrev pub EndsAllDone : Cutting → List Entry → Type 0
EndsAllDone cuts journal = replay (length cuts.places + 1) journal ≡ Some (replicate (length cuts.places + 1) status.Done)

-- each entry is by one of so many workers, or by main
abbrev pub AreBorneBy : ℕ → List Entry → Type 0
AreBorneBy workers journal = list_all (λ e. nat_lt e.worker workers || (e.worker == 64)) journal ≡ true

-- the standard's tree of the text, and the journal of a board of its chunks: all are done, each first judgement of a right guess is
-- fair, each guess is by a predictor of that kind, and each entry by one of the workers or by main
pub record IsParsed (text : List ℕ) (cuts : Cutting) (kind : GuessKind) (workers : ℕ) (built : Tree) (journal : List Entry) : Type 0 where
  pub tree : IsTreeOf built_in (chars text) built
  pub done : EndsAllDone cuts journal
  pub fair : IsFair text cuts journal
  pub by : AreByKind kind journal
  pub borne : AreBorneBy workers journal

-- the last of the tallies is main's
pub record EndsWithMain (tallies : List Tally) : Type 0 where
  pub workers : List Tally
  pub main : Tally
  pub parts : tallies ≡ workers ++ main ∷ []
  pub number : main.worker ≡ 64

-- a board of which nobody has a chunk, with the tallies of its journal, main's last
pub record IsReady (desk : Desk) (tallies : List Tally) : Type 0 where
  pub of : IsBoardOf desk desk.text desk.cuts tallies
  pub free : IsFree desk
  pub main : EndsWithMain tallies

-- a board of this text, these cuts and so many workers
pub record IsBoardFor (page : List ℕ) (cutting : Cutting) (count : ℕ) (desk : Desk) : Type 0 where
  pub text : desk.text ≡ page
  pub cuts : desk.cuts ≡ cutting
  pub workers : desk.workers ≡ count
