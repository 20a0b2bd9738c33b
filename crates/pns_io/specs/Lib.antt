pub mod MemoryShelf
pub mod MemorySink
pub mod NamedFiles
pub use Rattle.text_rules.specs.problem_rules as problem_rules
