use Rattle.std.proofs.Common.{SFits, rules, ◌≡◌, ◌≤◌, ◌∙◌, ap, subst, sym, length, arith}
use Rattle.std.specs.Int.{w128}
use Rattle.std.proofs.lemmas.Int.{to_z-of_z}
use Rattle.std.proofs.lemmas.List.{with_items_is}
use Rattle.flow_program.specs.flow_rules.LinearProgram.{linear_of}
use Rattle.dual_simplex.specs.Walk.{EndsFeasible}
use Rattle.dual_simplex.specs.Bench.{Bench}
use Rattle.dual_simplex.proofs.EndLemmas.{flows_of}
use Rattle.dual_simplex.proofs.bench.Bench.read_flows.Goals as goal

pub returns-in-Ok-clause-flows : goal.returns-in-Ok-clause-flows
returns-in-Ok-clause-flows c =
    let read = c.in-Ok in
    let zs = c.read_sizes.new.flows in
    let r : SFits w128 read.den = search rules in
    let items =
    with_items_is c.self.inside.flows zs (read.ensures.length ∙ c.deref_mut.ensures.len) in
    let long : length zs ≡ c.self.inside.rows.most_units =
    read.ensures.length ∙ ap length c.deref_mut.ensures.value ∙ c.self.invariant.flows_room in
    let fit = c.are_rows.ensures.units_fit in
    let room : c.self.inside.rows.units ≤ length zs = omega (arith, long, fit) in
    let feasible : EndsFeasible (linear_of c.args.program.now) c.self.inside.rows =
    subst (λ (b : Bench). EndsFeasible (linear_of c.args.program.now) b.rows)
    (sym c.self.view_is) c.requires.least.feasible in
    simp to_z-of_z
    (flows_of c.args.program.now c.self.inside.rows _ c.self.inside.d _ c.self.inside.row _ zs
    read.den items room feasible read.ensures.read read.ensures.positive
    read.ensures.den_in_range read.ensures.in_range)
