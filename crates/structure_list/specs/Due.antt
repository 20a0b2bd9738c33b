-- Which material is due for a decision: one that is needed, and whose makers are not decided yet.
use Rattle.std.specs.Prelude.{ℕ, Bool, not, ◌&&◌}
use Rattle.pgraph.specs.pns_rules.Shape.{Shape}
use Rattle.pgraph.specs.pns_rules.Structure.{is_needed}

abbrev pub is_due : Shape → (ℕ → Bool) → (ℕ → Bool) → ℕ → Bool
is_due g inside done x = is_needed g inside x && not (done x)
