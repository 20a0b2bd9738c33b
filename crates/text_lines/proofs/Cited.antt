-- What the proofs of other crates cite.
pub use Rattle.text_lines.proofs.Ascii.{name_utf8}
pub use Rattle.text_lines.proofs.Borrowed.{texts-long}
pub use Rattle.text_lines.proofs.Cutting.{behind-none, parts_some, split-at, split-first}
pub use Rattle.text_lines.proofs.Cutting.{split-none}
pub use Rattle.text_lines.proofs.Maps.{maps_more}
pub use Rattle.text_lines.proofs.Sides.{sides-none, sides-two, term-bad, term-good}
