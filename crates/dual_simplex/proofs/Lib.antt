pub mod BlockLemmas
pub mod StepLemmas
pub mod ResultLemmas
pub mod RowExchangeLemmas
pub mod RowSizeLemmas
pub mod RowStartLemmas
pub mod CandidateLemmas
pub mod RatioLemmas
pub mod DenominatorLemmas
pub mod DivisionLemmas
pub mod LcmLemmas
pub mod PutLemmas
pub mod ReadingLemmas
pub mod RoundLemmas
pub mod SizeLemmas
pub mod ValueLemmas
pub mod RankLemmas
pub mod ExchangeLemmas
pub mod FirstLemmas
pub mod SecondLemmas
pub mod StartLemmas
pub mod OptionLemmas
pub mod EndLemmas
pub mod LawLemmas
pub mod NumberLemmas
pub mod PastLemmas
pub mod FlowLawLemmas
pub mod NameLemmas
pub mod RoomLemmas
pub use Rattle.flow_program.proofs.number_sets as number_sets
pub use Rattle.flow_program.proofs.integer_laws as integer_laws
pub use Rattle.flow_program.proofs.pns_rules as pns_rules
pub use Rattle.flow_program.proofs.exact_numbers as exact_numbers
pub use Rattle.flow_program.proofs.pns_problem as pns_problem
pub use Rattle.flow_program.proofs as flow_program
pub use Rattle.path_laws.proofs as path_laws
