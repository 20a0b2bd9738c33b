pub mod Certified
pub use Rattle.scaled_flows.specs as scaled_flows
pub use Rattle.basis_guess.specs.charges as charges
