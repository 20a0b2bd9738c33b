-- What the proofs of other crates cite.
pub use Rattle.report_tables.proofs.Pieces.{last_row, next_row, printed-append}
