-- A node's payload that is lent for writing.
use Rattle.std.specs.Prelude.{ℕ}
use Rattle.std.specs.Borrow.{Lends, MutBor, Fml, RattleType}
use Rattle.node_pool.specs.Pooled.{Pooled, with_payload}
use Rattle.node_pool.specs.contracts.pool.Pool.{the_row}

module _ (T : RattleType) (p : MutBor (Pooled T.Denot)) (id : ℕ) where
  -- the pool ends with the last value of r as the payload of node id
  abbrev pub LendsPayload : MutBor T.Denot → Fml
  LendsPayload r = Lends (the_row T) T p r (with_payload p.now id)
