use Rattle.std.proofs.Common.{◌<◌, ◌≤◌, ◌+◌, ◌^◌, length, arith}
use Rattle.link_lists.proofs.States.{open_state}
use Rattle.link_lists.proofs.lists.Lists.open.Goals as goal

pub invariant_of-result : goal.invariant_of-result
invariant_of-result c =
    let long = c.in_ok-links.ensures.length in
    let ok = c.in_ok-stack.stack.ok in
    let len = c.in_ok-stack.ensures.len in
    let fits_lists = c.ranges.lists.fits in
    let fits_cells = c.ranges.cells.fits in
    let room : c.args.lists + c.args.cells ≤ length c.in_ok-links.links.items = omega arith in
    let room_stack : c.args.cells ≤ length c.in_ok-stack.stack.items = omega arith in
    let small : (c.args.lists < 2 ^ 32) × (c.args.cells < 2 ^ 32) = (omega arith, omega arith) in
    (open_state c.args.lists c.args.cells c.in_ok-links.links.items c.in_ok-stack.stack.items room
    room_stack small c.in_ok-links.ensures.next c.in_ok-links.ensures.prev).held

pub returns : goal.returns
returns c =
    let long = c.in_ok-links.ensures.length in
    let ok = c.in_ok-stack.stack.ok in
    let len = c.in_ok-stack.ensures.len in
    let fits_lists = c.ranges.lists.fits in
    let fits_cells = c.ranges.cells.fits in
    let room : c.args.lists + c.args.cells ≤ length c.in_ok-links.links.items = omega arith in
    let room_stack : c.args.cells ≤ length c.in_ok-stack.stack.items = omega arith in
    let small : (c.args.lists < 2 ^ 32) × (c.args.cells < 2 ^ 32) = (omega arith, omega arith) in
    (open_state c.args.lists c.args.cells c.in_ok-links.links.items c.in_ok-stack.stack.items room
    room_stack small c.in_ok-links.ensures.next c.in_ok-links.ensures.prev).state
