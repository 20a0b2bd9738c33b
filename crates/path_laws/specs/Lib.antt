pub mod TableauLaws
pub mod PathLaws
pub mod Phases
pub mod PhaseLaws
pub mod RangeLaws
pub mod Ends
pub mod EndLaws
