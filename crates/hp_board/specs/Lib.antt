-- The board as a machine, what the board keeps, and what each call does.
pub mod Kinds
pub mod Machine
pub mod Origins
pub mod Fair
pub mod Tallies
pub mod Desk
pub mod Calls
pub mod Cost
pub mod FairLaws
