-- What the proofs of other crates cite.
pub use Rattle.pns_problem.proofs.NameLemmas.{bytes_eq-sym, has_listed, names-insert_key}
pub use Rattle.pns_problem.proofs.Printed.{AreLinesPrinted}
pub use Rattle.pns_problem.proofs.PrintingLemmas.{after, one_line}
