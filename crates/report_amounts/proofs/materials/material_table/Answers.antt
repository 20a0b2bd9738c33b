use Rattle.std.proofs.Common.{◌≡◌, ◌<◌, ◌∙◌, ◌++◌, ◌∷◌, sym, subst, List, ℕ, Some, length, pos}
use Rattle.csv.specs.Writing.{default_writer, row_text}
use Rattle.report_rules.specs.number_sets.Sets.{has}
use Rattle.report_rules.proofs.number_sets.Cited.{has_below, AreBelow-listed}
use Rattle.report_rules.specs.problem_rules.Problem.{Problem}
use Rattle.report_rules.specs.pns_rules.Shape.{shape_of}
use Rattle.report_rules.specs.pns_rules.Structure.{mats}
use Rattle.report_rules.specs.flow_rules.Net.{net_of, materials_of}
use Rattle.report_rules.specs.flow_rules.Steps.{AreInRange}
use Rattle.report_rules.specs.flow_rules.FeasibleSteps.{units_at, balance_steps}
use Rattle.report_rules.specs.tree_rules.Claim.{size_in}
use Rattle.report_rules.specs.Table.{material_heading, IsMaterialRow, IsMaterialTable, records_text}
use Rattle.report_amounts.specs.Written.{HasWritten}
use Rattle.report_amounts.proofs.FlowLemmas.{material_in_range}
use Rattle.report_amounts.proofs.RowLemmas.{IsTableSoFar, table_begins, table_more, table_ends}
use Rattle.report_amounts.proofs.RowLemmas.{if_ok}
use Rattle.report_amounts.proofs.Walk.{all_within, next_within, rest_within}
use Rattle.report_amounts.proofs.materials.material_table.Goals as goal

pub materials_in-j-items-requires : goal.materials_in-j-items-requires
materials_in-j-items-requires c =
    record { known = λ u h. has_below _ c.args.network.now.units u c.requires.known.below h }

pub loop-j-init : goal.loop-j-init
loop-j-init c =
    let p = c.args.site.now in
    let w = c.args.network.now in
    let js = materials_of (net_of p) (has w.units) in
    let are : c.into_iter-j-iterator.result ≡ js =
    c.into_iter-j-iterator.ensures.into_iter_gives.0 ∙ c.materials_in-j-items.ensures in
    record {
      within = all_within c.into_iter-j-iterator.result js are;
      table =
          subst
          (λ (left : List ℕ). IsTableSoFar (λ v. Some v.items) material_heading (IsMaterialRow p w)
          js c.in_ok-writer.writer left) (sym are)
          (table_begins (λ v. Some v.items) material_heading (IsMaterialRow p w) js
          c.in_ok-writer.writer c.in_ok-writer.ensures);
    }

pub returns : goal.returns
returns c =
    let p = c.args.site.now in
    let w = c.args.network.now in
    let so_far = c.loop-j.invariant.table in
    if_ok c.written.result (λ v. v.items ≡ records_text (material_heading ∷ so_far.rows))
    (λ v. IsMaterialTable p w v.items)
    (λ v e. table_ends (λ v. Some v.items) material_heading (IsMaterialRow p w)
    (materials_of (net_of p) (has w.units)) c.loop-j.writer c.loop-j.j-iterator v.items
    c.in-None.ensures.steps.0 so_far e)
    (c.written.ensures (records_text (material_heading ∷ so_far.rows)) so_far.written)

pub push_material-requires-clause-known : goal.push_material-requires-clause-known
push_material-requires-clause-known c u h =
    subst (λ (p : Problem). u < length p.units) (sym c.problem.ensures.same)
    (has_below _ c.args.network.now.units u c.requires.known.below h)

pub push_material-requires-clause-material : goal.push_material-requires-clause-material
push_material-requires-clause-material c =
    let p = c.args.site.now in
    let s = has c.args.network.now.units in
    let js = materials_of (net_of p) s in
    subst (λ (p : Problem). c.in-Some.j < length p.materials) (sym c.problem.ensures.same)
    (has_below _ js c.in-Some.j (AreBelow-listed (length p.materials) (mats (shape_of p) s))
    (next_within (has js) c.loop-j.j-iterator c.next.new.self c.in-Some.j c.in-Some.ensures.steps
    c.loop-j.invariant.within))

pub push_material-requires-clause-steps : goal.push_material-requires-clause-steps
push_material-requires-clause-steps c =
    let p = c.args.site.now in
    let w = c.args.network.now in
    let j = c.in-Some.j in
    let js = materials_of (net_of p) (has w.units) in
    subst
    (λ (p : Problem). AreInRange
    (balance_steps (net_of p) (size_in w) j (units_at (net_of p) (has w.units) j) (pos 0)))
    (sym c.problem.ensures.same)
    (material_in_range (net_of p) (has w.units) (size_in w) js j c.requires.steps
    (next_within (has js) c.loop-j.j-iterator c.next.new.self j c.in-Some.ensures.steps
    c.loop-j.invariant.within))

pub loop-j-preserved : goal.loop-j-preserved
loop-j-preserved c =
    let p = c.args.site.now in
    let w = c.args.network.now in
    let js = materials_of (net_of p) (has w.units) in
    let so_far = c.loop-j.invariant.table in
    record {
      within =
          rest_within (has js) c.loop-j.j-iterator c.next.new.self c.in-Some.j
          c.in-Some.ensures.steps c.loop-j.invariant.within;
      table =
          table_more (λ v. Some v.items) material_heading (IsMaterialRow p w) js c.loop-j.writer
          c.push_material.new.writer c.loop-j.j-iterator c.in-Some.j c.next.new.self
          c.in-Some.ensures.steps so_far
          (subst (λ (p : Problem). (row : List (List ℕ)) × IsMaterialRow p w c.in-Some.j row
          × HasWritten (λ v. Some v.items) c.push_material.new.writer
          (records_text (material_heading ∷ so_far.rows) ++ row_text default_writer row))
          c.problem.ensures.same
          (c.in_ok-push_material.ensures (records_text (material_heading ∷ so_far.rows))
          so_far.written));
    }
