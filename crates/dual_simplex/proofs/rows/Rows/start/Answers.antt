use Rattle.std.proofs.Common.{rules, ◌≡◌, ◌<◌, ◌≤◌, ◌+◌, ◌*◌, suc, ℕ, ℤ, Bool, List, arith, sym, ap}
use Rattle.std.proofs.Common.{◌∙◌, subst, length, get_or, pos}
use Rattle.std.proofs.lemmas.List.{with_items_is}
use Rattle.std.specs.Vec.{with_items}
use Rattle.flow_program.specs.flow_rules.LinearProgram.{linear_of}
use Rattle.flow_program.specs.flow_rules.Columns.{scale_at}
use Rattle.dual_simplex.specs.Rows.{Rows, width_of, row_at, table, AreRows}
use Rattle.dual_simplex.proofs.RowStartLemmas.{rows_fit, rows_are_start}
use Rattle.dual_simplex.proofs.rows.Rows.start.Goals as goal

pub invariant_of-self : goal.invariant_of-self
invariant_of-self c =
    let inside = c.self.inside in
    let i = c.self.invariant in
    let size = c.size_of-size.result in
    let units : size.units ≤ inside.most_units = let e = c.size_of-size.ensures.units in let h =
    c.requires.units in let v = ap (λ (o : Rows). o.most_units) c.self.view_is in
    omega (arith, e, h, v) in
    let rows : size.rows ≤ inside.most_rows = let e = c.size_of-size.ensures.rows in let h =
    c.requires.rows in let v = ap (λ (o : Rows). o.most_rows) c.self.view_is in
    omega (arith, e, h, v) in
    let as_long : length c.start_flags.new.flags ≡ length inside.basic.items =
    c.start_flags.ensures.length ∙ ap length c.deref_mut-2.ensures.value in
    let as_long_entries : length c.start_rows.new.entries ≡ length inside.entries.items =
    c.start_rows.ensures.length ∙ ap length c.deref_mut.ensures.value in
    let flags =
    with_items_is inside.basic c.start_flags.new.flags
    (c.start_flags.ensures.length ∙ c.deref_mut-2.ensures.len) in
    let entries =
    with_items_is inside.entries c.start_rows.new.entries
    (c.start_rows.ensures.length ∙ c.deref_mut.ensures.len) in
    subst
    (λ (b : List Bool). AreRows
    (record {
      units = size.units;
      rows = size.rows;
      most_units = inside.most_units;
      most_rows =
          inside.most_rows;
      basic = b;
      entries =
          (with_items inside.entries c.start_rows.new.entries).items;
    })) (sym flags)
    (subst
    (λ (es : List ℤ). AreRows
    (record {
      units = size.units;
      rows = size.rows;
      most_units = inside.most_units;
      most_rows =
          inside.most_rows;
      basic = c.start_flags.new.flags;
      entries = es;
    })) (sym entries)
    (rows_fit size.units size.rows inside.most_units inside.most_rows c.start_flags.new.flags
    c.start_rows.new.entries i.units_few i.rows_few units rows (as_long ∙ i.flags_room)
    (as_long_entries ∙ i.entries_room) c.start_rows.ensures.in_range))

pub returns-clause-start : goal.returns-clause-start
returns-clause-start c =
    let inside = c.self.inside in
    let p = linear_of c.args.program.now in
    let size = c.size_of-size.result in
    let w = c.width-width.result in
    let entries =
    with_items_is inside.entries c.start_rows.new.entries
    (c.start_rows.ensures.length ∙ c.deref_mut.ensures.len) in
    let eu = c.size_of-size.ensures.units in
    let er = c.size_of-size.ensures.rows in
    let ew = c.width-width.ensures.value in
    rows_are_start p _ (λ x k a b l.
    ap (λ (es : List ℤ). get_or (row_at (width_of size.units size.rows) es x) k (pos 0)) entries
    ∙ ap (λ (n : ℕ). get_or (row_at n c.start_rows.new.entries x) k (pos 0)) (sym ew)
    ∙ c.start_rows.ensures.value x k (omega (arith, eu, a)) (omega (arith, eu, er, ew, b))
    (omega (arith, eu, er, ew, l)))
