use Rattle.std.proofs.Common.{◌≡◌, ◌∙◌, ◌∷◌, sym, subst, List, ℕ, Some}
use Rattle.report_rules.specs.number_sets.Sets.{has}
use Rattle.report_rules.proofs.number_sets.Cited.{has_below}
use Rattle.report_rules.specs.Table.{unit_heading, IsUnitRow, IsUnitTable, records_text}
use Rattle.report_amounts.proofs.RowLemmas.{IsTableSoFar, table_begins, table_more, table_ends}
use Rattle.report_amounts.proofs.RowLemmas.{if_ok}
use Rattle.report_amounts.proofs.Walk.{all_within, next_within, rest_within}
use Rattle.report_amounts.proofs.units.unit_table.Goals as goal

pub loop-u-init : goal.loop-u-init
loop-u-init c =
    let p = c.args.problem.now in
    let w = c.args.network.now in
    let are : c.into_iter-u-iterator.result ≡ w.units =
    c.into_iter-u-iterator.ensures.into_iter_gives.0 ∙ c.units-u-items.ensures in
    record {
      within = all_within c.into_iter-u-iterator.result w.units are;
      table =
          subst
          (λ (us : List ℕ). IsTableSoFar (λ v. Some v.items) unit_heading (IsUnitRow p w) w.units
          c.in_ok-writer.writer us) (sym are)
          (table_begins (λ v. Some v.items) unit_heading (IsUnitRow p w) w.units
          c.in_ok-writer.writer c.in_ok-writer.ensures);
    }

pub returns : goal.returns
returns c =
    let p = c.args.problem.now in
    let w = c.args.network.now in
    let so_far = c.loop-u.invariant.table in
    if_ok c.written.result (λ v. v.items ≡ records_text (unit_heading ∷ so_far.rows))
    (λ v. IsUnitTable p w v.items)
    (λ v e. table_ends (λ v. Some v.items) unit_heading (IsUnitRow p w) w.units c.loop-u.writer
    c.loop-u.u-iterator v.items c.in-None.ensures.steps.0 so_far e)
    (c.written.ensures (records_text (unit_heading ∷ so_far.rows)) so_far.written)

pub push_unit-requires : goal.push_unit-requires
push_unit-requires c =
    has_below _ c.args.network.now.units c.in-Some.u c.requires.below
    (next_within (has c.args.network.now.units) c.loop-u.u-iterator c.next.new.self c.in-Some.u
    c.in-Some.ensures.steps c.loop-u.invariant.within)

pub loop-u-preserved : goal.loop-u-preserved
loop-u-preserved c =
    let p = c.args.problem.now in
    let w = c.args.network.now in
    let so_far = c.loop-u.invariant.table in
    record {
      within =
          rest_within (has w.units) c.loop-u.u-iterator c.next.new.self c.in-Some.u
          c.in-Some.ensures.steps c.loop-u.invariant.within;
      table =
          table_more (λ v. Some v.items) unit_heading (IsUnitRow p w) w.units c.loop-u.writer
          c.push_unit.new.writer c.loop-u.u-iterator c.in-Some.u c.next.new.self
          c.in-Some.ensures.steps so_far
          (c.in_ok-push_unit.ensures (records_text (unit_heading ∷ so_far.rows)) so_far.written);
    }
