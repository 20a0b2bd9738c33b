mod CanonicalTexts
mod LineFaults
mod Numbers
mod ReadTexts
mod ShippedFile
mod Texts
mod WholeTexts
pub use Rattle.problem_rules.proofs as problem_rules
