mod LineFaults
mod ReadScripts
mod Texts
pub use Rattle.number_sets.proofs as number_sets
pub use Rattle.text_rules.proofs.problem_rules as problem_rules
