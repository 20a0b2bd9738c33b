use Rattle.std.specs.Prelude.{◌≡◌, ◌<◌, ℕ, Bool, false, List, length, slice_index_or}
use Rattle.dual_simplex.specs.Start.{start_of}
use Rattle.dual_simplex.proofs.start.start_flags.Given as goal

-- the flags before j are set
pub record AreSet (units rows : ℕ) (old new : List Bool) (j : ℕ) : Type 0 where
  pub size : length new ≡ length old
  pub done : (k : ℕ) → k < j → slice_index_or new k false ≡ start_of units rows k

abbrev pub invariant-loop-k : goal.invariant-loop-k
invariant-loop-k l = AreSet l.size.units l.size.rows l.fn.flags l.flags l.k
