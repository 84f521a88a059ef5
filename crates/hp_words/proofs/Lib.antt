pub mod NumberLemmas
pub mod SettingLemmas
