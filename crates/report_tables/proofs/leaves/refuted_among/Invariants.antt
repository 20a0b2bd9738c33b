use Rattle.std.proofs.Common.{◌≡◌, ◌++◌, drop}
use Rattle.std.specs.Prelude.{flat_map}
use Rattle.cert_check.specs.OpenLeaves.{leaves_at}
use Rattle.report_tables.specs.Opened.{refuted_at}
use Rattle.report_tables.specs.View.{leaves_of}
use Rattle.report_tables.proofs.leaves.refuted_among.Given as goal

-- the leaves so far and those that are left give all
abbrev pub invariant-leaves : goal.invariant-leaves
invariant-leaves l = leaves_of l.nodes l.found.items ++ flat_map (refuted_at l.nodes) (leaves_at
    (drop l.leaf-index l.leaves)) ≡ flat_map (refuted_at l.nodes) (leaves_at l.leaves)
