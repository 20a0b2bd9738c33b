pub mod AmountLemmas
pub mod Cited
pub mod ItemLemmas
pub mod RefusalLemmas
pub mod TermLemmas
pub mod ValidLemmas
