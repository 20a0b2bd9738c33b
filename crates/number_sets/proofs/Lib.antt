pub mod Cited
pub mod MaskOrder
pub mod OptionLemmas
pub mod OptionLists
pub mod SetLemmas
