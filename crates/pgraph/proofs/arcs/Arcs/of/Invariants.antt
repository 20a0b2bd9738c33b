use Rattle.std.proofs.Common.{◌≡◌, ◌&&◌, ℕ, length, nat_lt}
use Rattle.pgraph.specs.Arcs.{joins}
use Rattle.pgraph.specs.Building.{has_term}
use Rattle.pgraph.proofs.arcs.Arcs.of.Given as goal

abbrev pub invariant-loop-u : goal.invariant-loop-u
invariant-loop-u l = record {
  joined : (v y : ℕ) → joins l.arcs v y ≡ (nat_lt v l.u && has_term l.fn.side l.units v y);
  units : length l.arcs.materials ≡ length l.units;
  materials : length l.arcs.units ≡ l.fn.materials;
}
