-- What the proofs of other crates cite.
pub use Rattle.plan_laws.proofs.Lists.{blocks_more, each_at, made_more, same_default}
