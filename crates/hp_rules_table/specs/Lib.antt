pub mod Table
pub mod TableModes
