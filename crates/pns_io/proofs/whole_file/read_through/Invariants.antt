use Rattle.std.proofs.Common.{◌≡◌, ◌≤◌, List, ℕ, length, take, vec_len, IfSome, unwrap_or, [], ◌+◌}
use Rattle.std.proofs.Common.{◌-◌}
use Rattle.pns_io.proofs.whole_file.read_through.Given as goal

abbrev pub invariant-loop-bytes : goal.invariant-loop-bytes
invariant-loop-bytes g l = record {
  front : IfSome ((g.F.Shelf.state l.fn.shelf).held l.fn.name)
      (λ file. (l.bytes.items ≡ take (vec_len l.bytes) (unwrap_or file []))
      × (vec_len l.bytes ≤ length (unwrap_or file [])));
  within : vec_len l.bytes ≤ l.limit + 1;
  later : (other : List ℕ) → (g.F.Shelf.state l.fn.shelf).faults other
      ≤ (g.F.Shelf.state l.shelf).faults other;
  keeps : (other : List ℕ) → (g.F.Shelf.state l.shelf).held other
      ≡ (g.F.Shelf.state l.fn.shelf).held other;
}

abbrev pub decreases-loop-bytes : goal.decreases-loop-bytes
decreases-loop-bytes g l = l.limit + 1 - vec_len l.bytes
