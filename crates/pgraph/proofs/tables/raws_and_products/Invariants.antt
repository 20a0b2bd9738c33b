use Rattle.std.proofs.Common.{◌≡◌, ◌&&◌, ℕ, nat_lt}
use Rattle.flow_rules.specs.number_sets.Sets.{has}
use Rattle.pgraph.specs.Building.{is_raw_at, is_product_at}
use Rattle.pgraph.proofs.tables.raws_and_products.Given as goal

abbrev pub invariant-loop-x : goal.invariant-loop-x
invariant-loop-x l = record {
  raws : (y : ℕ) → has l.raws y ≡ (nat_lt y l.x && is_raw_at l.materials y);
  products : (y : ℕ) → has l.products y ≡ (nat_lt y l.x && is_product_at l.materials y);
}
