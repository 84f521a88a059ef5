pub mod Late
pub mod Page
pub mod Table
