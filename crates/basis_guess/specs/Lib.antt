pub use Rattle.charges.specs as charges
