use Rattle.std.proofs.Common.{◌≡◌, ◌<◌, ◌++◌, ◌∙◌, ap, sym, subst, ℕ, List, true, pos, length}
use Rattle.std.proofs.Common.{string_bytes}
use Rattle.text_lines.specs.number_sets.Sets.{has, listed}
use Rattle.text_lines.specs.problem_rules.Problem.{Problem, rate_of}
use Rattle.cert_check.specs.pns_rules.Shape.{Shape, shape_of}
use Rattle.cert_check.specs.pns_rules.Structure.{mats}
use Rattle.cert_check.specs.pgraph.View.{node_of}
use Rattle.cert_check.specs.pns_problem.Printing.{printed}
use Rattle.cert_check.specs.flow_rules.Net.{net_of, beside}
use Rattle.cert_check.specs.flow_rules.Relaxed.{stays, units, rows}
use Rattle.cert_check.specs.flow_rules.Steps.{AreInRange}
use Rattle.cert_check.specs.flow_rules.BoundSteps.{rows_at, reduced_steps}
use Rattle.cert_check.proofs.flow_rules.Cited.{Agree}
use Rattle.cert_check.specs.flow_program.Entry.{entry}
use Rattle.cert_check.specs.flow_program.NodeSets.{AreSetsOf}
use Rattle.cert_check.specs.tree_rules.Leaf.{multiplier}
use Rattle.report_amounts.specs.report_rules.Clash.{material_lines, unit_lines}
use Rattle.report_tables.proofs.Appended.{both_printed}
use Rattle.report_tables.proofs.SameLines.{same_lines}
use Rattle.report_tables.proofs.Lefts.{formed_by}
use Rattle.report_tables.proofs.bounds.push_bounds.Goals as goal

pub sets_of-sets-requires : goal.sets_of-sets-requires
sets_of-sets-requires c =
    subst (λ (g : Shape). (u : ℕ) → has c.args.node.now.inside u ≡ true → u < g.units)
    (sym c.graph.ensures.same) c.requires.known

pub by_material-y_at-requires : goal.by_material-y_at-requires
by_material-y_at-requires c =
    let n = node_of c.args.node.now in
    let rs : c.sets_of-sets.result.rows ≡ rows (net_of c.args.site.now) n =
    c.sets_of-sets.ensures.rows_are
    ∙ ap (λ (g : Shape). listed g.materials (mats g (stays n))) c.graph.ensures.same in
    c.requires.refuted.each_row ∙ ap (λ (js : List ℕ). length js) (sym rs)

pub push_materials-requires-clause-sets : goal.push_materials-requires-clause-sets
push_materials-requires-clause-sets c =
    let s = c.sets_of-sets.result in
    subst
    (λ (p : Problem). AreSetsOf (shape_of p) (node_of c.args.node.now) s.units s.rows s.needed)
    (sym c.problem.ensures.same)
    (subst (λ (g : Shape). AreSetsOf g (node_of c.args.node.now) s.units s.rows s.needed)
    c.graph.ensures.same c.sets_of-sets.ensures)

pub push_units-requires-clause-units : goal.push_units-requires-clause-units
push_units-requires-clause-units c =
    let n = node_of c.args.node.now in
    c.sets_of-sets.ensures.units_are
    ∙ ap (λ (g : Shape). listed g.units (stays n)) c.graph.ensures.same

pub push_units-requires-clause-in_range : goal.push_units-requires-clause-in_range
push_units-requires-clause-in_range c =
    let p = c.args.site.now in
    let n = node_of c.args.node.now in
    let us : c.sets_of-sets.result.units ≡ units (net_of p) n =
    c.sets_of-sets.ensures.units_are
    ∙ ap (λ (g : Shape). listed g.units (stays n)) c.graph.ensures.same in
    let rs : c.sets_of-sets.result.rows ≡ rows (net_of p) n =
    c.sets_of-sets.ensures.rows_are
    ∙ ap (λ (g : Shape). listed g.materials (mats g (stays n))) c.graph.ensures.same in
    let agree : Agree (entry c.by_material-y_at.result) (multiplier p n c.args.ys.now)
    (rows (net_of p) n)
    = subst (λ (xs : List ℕ). Agree (entry c.by_material-y_at.result) (beside xs c.args.ys.now) xs)
    rs c.by_material-y_at.ensures in
    subst (λ (set : List ℕ). (i : ℕ) → has set i ≡ true
    → AreInRange
    (reduced_steps (entry c.by_material-y_at.result) (λ j. rate_of p j i)
    (rows_at (net_of p) n i) (pos 0))) (sym us)
    (formed_by (net_of p) n (entry c.by_material-y_at.result) (multiplier p n c.args.ys.now) agree
    c.requires.refuted.formed)

pub returns : goal.returns
returns c =
    let p = c.args.site.now in
    let n = node_of c.args.node.now in
    let t0 = string_bytes c.args.text.now in
    let y = entry c.by_material-y_at.result in
    let rs : c.sets_of-sets.result.rows ≡ rows (net_of p) n =
    c.sets_of-sets.ensures.rows_are
    ∙ ap (λ (g : Shape). listed g.materials (mats g (stays n))) c.graph.ensures.same in
    let agree : Agree y (multiplier p n c.args.ys.now) (rows (net_of p) n) =
    subst (λ (xs : List ℕ). Agree y (beside xs c.args.ys.now) xs) rs
    c.by_material-y_at.ensures in
    both_printed t0 (string_bytes c.push_materials.new.text) (string_bytes c.push_units.new.text)
    (material_lines p n y) (unit_lines p n y)
    (c.in_ok-push_materials.ensures
    ∙ ap (λ (q : Problem). t0 ++ printed (material_lines q n y)) c.problem.ensures.same)
    c.in_ok-push_units.ensures
    ∙ ap (λ (ls : List (List ℕ)). t0 ++ printed ls)
    (same_lines p n y (multiplier p n c.args.ys.now) agree)
