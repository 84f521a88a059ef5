pub mod Counted
pub mod Settled
pub mod Made
pub mod Holding
pub mod GoingOn
pub mod Behind
