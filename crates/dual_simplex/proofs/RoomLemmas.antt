-- The room of a bench, from program to program.
use Rattle.std.proofs.Common.{◌≡◌, ℕ, ◌≤◌, List, length, arith}
use Rattle.std.specs.Prelude.{ℤ, All}
use Rattle.dual_simplex.specs.Rows.{Rows}
use Rattle.dual_simplex.specs.Walk.{IsSameRoom}
use Rattle.dual_simplex.specs.Sizes.{IsSize}
use Rattle.dual_simplex.specs.Bench.{HasLists}

-- lists of the same lengths are the room that there was
pub room_stays : (old new : Rows) {nonbasic columns ys flows nonbasic' columns' ys' : ℕ}
    {sizes sizes' : List ℤ} → HasLists old nonbasic columns ys flows sizes → IsSameRoom old new
    → columns' ≡ columns → nonbasic' ≤ columns → ys' ≡ ys → length sizes' ≡ length sizes
    → All IsSize sizes' → HasLists new nonbasic' columns' ys' flows sizes'
room_stays old new h same c n y s all =
    let units = same.most_units in
    let rows = same.most_rows in
    let columns_room = h.columns_room in
    let ys_room = h.ys_room in
    let flows_room = h.flows_room in
    let sizes_room = h.sizes_room in
    record {
      nonbasic_fit = omega (arith, c, n);
      columns_room = omega (arith, c, columns_room, units, rows);
      ys_room = omega (arith, y, ys_room, rows);
      flows_room = omega (arith, flows_room, units);
      sizes_room = omega (arith, s, sizes_room, units);
      sizes_are = all;
    }
