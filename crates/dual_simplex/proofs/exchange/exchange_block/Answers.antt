use Rattle.std.proofs.Common.{rules, ◌≡◌, ◌+◌, ◌*◌, ◌++◌, ◌≤◌, ℕ, ℤ, List, arith, sym, ap, ◌∙◌}
use Rattle.std.proofs.Common.{subst, refl, length, drop}
use Rattle.std.proofs.lemmas.List.Elements.{All-append, All-drop}
use Rattle.flow_program.specs.integer_laws.Range.{InRange, AllInRange}
use Rattle.dual_simplex.specs.Rows.{row_at}
use Rattle.dual_simplex.specs.Exchange.{pivot_row}
use Rattle.dual_simplex.proofs.BlockLemmas.{below, row_before}
use Rattle.dual_simplex.proofs.StepLemmas.{front_row, block_stepped, block_past}
use Rattle.dual_simplex.proofs.ResultLemmas.{map_ok, map_err}
use Rattle.dual_simplex.proofs.exchange.exchange_block.Goals as goal

pub returns-clause-row : goal.returns-clause-row
returns-clause-row c =
    let w = c.args.width in
    let front = c.split_at_mut-body.result.0.now in
    let room : w * w ≤ length front = omega arith in
    let after : w * w ≤ length c.exchange_in.new.body = omega arith in
    let b = below w w c.args.e c.requires.e in
    let same = c.exchange_in.ensures.pivot
    ∙ ap (pivot_row c.args.negate)
    (front_row w c.args.basic.now c.args.entries.now front _ c.split_at_mut-body.ensures.value
    room c.args.l c.requires.l) in
    map_ok c.exchange_in.result
    (λ h. row_before w c.args.e c.exchange_in.new.body _ (omega arith) ∙ h ∙ same)
    c.exchange_in.ensures.row

pub returns-clause-done : goal.returns-clause-done
returns-clause-done c =
    let w = c.args.width in
    let front = c.split_at_mut-body.result.0.now in
    let room : w * w ≤ length front = omega arith in
    let after : w * w ≤ length c.exchange_in.new.body = omega arith in
    let same = c.exchange_in.ensures.pivot
    ∙ ap (pivot_row c.args.negate)
    (front_row w c.args.basic.now c.args.entries.now front _ c.split_at_mut-body.ensures.value
    room c.args.l c.requires.l) in
    map_ok c.exchange_in.result
    (block_stepped w c.args.basic.now c.args.entries.now front _
    c.split_at_mut-body.ensures.value room _ _ c.args.l c.args.e same c.exchange_in.new.body _
    after) c.exchange_in.ensures.done

pub returns-clause-past : goal.returns-clause-past
returns-clause-past c =
    let w = c.args.width in
    let front = c.split_at_mut-body.result.0.now in
    let room : w * w ≤ length front = omega arith in
    let same = c.exchange_in.ensures.pivot
    ∙ ap (pivot_row c.args.negate)
    (front_row w c.args.basic.now c.args.entries.now front _ c.split_at_mut-body.ensures.value
    room c.args.l c.requires.l) in
    map_err c.exchange_in.result
    (λ p. block_past w c.args.basic.now c.args.entries.now front _
    c.split_at_mut-body.ensures.value room _ _ c.args.l c.args.e same p.row p.j p.which)
    c.exchange_in.ensures.past

pub returns-clause-in_range : goal.returns-clause-in_range
returns-clause-in_range c =
    let w = c.args.width in
    let behind =
    subst AllInRange (sym c.split_at_mut-body.ensures.back)
    (All-drop InRange (w * w) c.args.entries.now c.requires.all_in_range) in
    All-append InRange c.exchange_in.new.body _ c.exchange_in.ensures.in_range
    (All-append InRange c.exchange_in.new.pivot _ c.exchange_in.ensures.pivot_in_range
    (All-drop InRange w c.split_at_mut-body.result.1.now behind))
