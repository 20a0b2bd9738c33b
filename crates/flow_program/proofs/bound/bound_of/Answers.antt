use Rattle.std.proofs.Common.{◌≡◌, ◌∙◌, sym, ap, SFits, rules, ℕ, List, length, arith, ◌+◌, ◌*◌}
use Rattle.std.proofs.Common.{◌<◌, ◌*ℤ◌, true, subst}
use Rattle.std.specs.Int.{w128}
use Rattle.std.proofs.lemmas.Int.{to_z-of_z}
use Rattle.std.proofs.lemmas.Result.{IfOk-weaker}
use Rattle.exact_numbers.specs.integer_laws.Total.{total}
use Rattle.pgraph.specs.number_sets.Sets.{has, listed}
use Rattle.pgraph.proofs.number_sets.Cited.{length_below}
use Rattle.pgraph.specs.pns_rules.Shape.{Shape}
use Rattle.pgraph.specs.pns_rules.Structure.{mats}
use Rattle.pgraph.specs.View.{node_of}
use Rattle.pgraph.specs.flow_rules.Net.{net_of, trillion, beside}
use Rattle.pgraph.specs.flow_rules.Relaxed.{stays, units, rows, fixed_cost}
use Rattle.pgraph.proofs.flow_rules.Cited.{Agree}
use Rattle.flow_program.specs.Entry.{entry}
use Rattle.flow_program.specs.NodeSets.{AreNeeded}
use Rattle.flow_program.proofs.NodeSetLemmas.{listed_had, set_listed}
use Rattle.flow_program.proofs.BoundLemmas.{first_past, past_in_rows, past_in_units, all_in_range}
use Rattle.flow_program.proofs.BoundLemmas.{bound_is}
use Rattle.flow_program.proofs.BoundSumLemmas.{IfErr-both}
use Rattle.flow_program.proofs.bound.bound_of.Goals as goal

pub returns-in_default-clause-past : goal.returns-in_default-clause-past
returns-in_default-clause-past c =
    let d = c.ranges.d in
    let p = c.args.problem.now in
    let n = node_of c.args.node in
    let us : c.sets_of.result.units ≡ units (net_of p) n =
    c.sets_of.ensures.units_are
    ∙ ap (λ (g : Shape). listed g.units (stays n)) c.requires.graph in
    let rs : c.sets_of.result.rows ≡ rows (net_of p) n =
    c.sets_of.ensures.rows_are
    ∙ ap (λ (g : Shape). listed g.materials (mats g (stays n))) c.requires.graph in
    let known : (u : ℕ) → has c.args.node.inside u ≡ true → u < length p.units =
    subst (λ (g : Shape). (u : ℕ) → has c.args.node.inside u ≡ true → u < g.units)
    c.requires.graph c.requires.known in
    let fx : SFits w128 c.fixed_costs.result = search rules in
    let fixed : c.fixed_costs.result ≡ fixed_cost (net_of p) n
    = c.fixed_costs.ensures.value
    ∙ ap (λ (xs : List ℕ). trillion *ℤ total (net_of p).fix xs)
    (sym (set_listed (length p.units) c.args.node.inside c.rises.ensures known)) in
    let agree : Agree (entry c.by_material-y_at.result) (beside (rows (net_of p) n) c.args.ys.now)
    (rows (net_of p) n)
    = subst (λ (xs : List ℕ). Agree (entry c.by_material-y_at.result) (beside xs c.args.ys.now) xs)
    rs c.by_material-y_at.ensures in
    first_past (net_of p) n c.args.d (entry c.by_material-y_at.result)
    (beside (rows (net_of p) n) c.args.ys.now) agree c.fixed_costs.result fixed
    c.sets_of.result.units c.sets_of.result.rows us rs (simp to_z-of_z at c.in_default.ensures)

pub with_rows-requires-clause-known : goal.with_rows-requires-clause-known
with_rows-requires-clause-known c =
    let p = c.args.problem.now in
    let n = node_of c.args.node in
    λ j h.
    (listed_had (length p.materials) (mats (net_of p).graph (stays n)) c.sets_of.result.rows j
    (c.sets_of.ensures.rows_are
    ∙ ap (λ (g : Shape). listed g.materials (mats g (stays n))) c.requires.graph) h).0

pub with_rows-requires-clause-needed : goal.with_rows-requires-clause-needed
with_rows-requires-clause-needed c =
    subst (λ (g : Shape). AreNeeded g (node_of c.args.node) c.sets_of.result.needed)
    c.requires.graph c.sets_of.ensures.needed_are

pub overflow_mul-count : goal.overflow_mul-count
overflow_mul-count c =
    let few =
    length_below 256 c.sets_of.result.rows c.rises-2.ensures.rising c.rises-2.ensures.below in
    let count = c.count.ensures in
    omega arith

pub overflow_add-count : goal.overflow_add-count
overflow_add-count c =
    let few =
    length_below 256 c.sets_of.result.rows c.rises-2.ensures.rising c.rises-2.ensures.below in
    let count = c.count.ensures in
    omega arith

pub with_units-requires-clause-room : goal.with_units-requires-clause-room
with_units-requires-clause-room c =
    let few =
    length_below 256 c.sets_of.result.rows c.rises-2.ensures.rising c.rises-2.ensures.below in
    let count = c.count.ensures in
    omega arith

pub returns-in-Err-clause-past : goal.returns-in-Err-clause-past
returns-in-Err-clause-past c =
    let d = c.ranges.d in
    let p = c.args.problem.now in
    let n = node_of c.args.node in
    let us : c.sets_of.result.units ≡ units (net_of p) n =
    c.sets_of.ensures.units_are
    ∙ ap (λ (g : Shape). listed g.units (stays n)) c.requires.graph in
    let rs : c.sets_of.result.rows ≡ rows (net_of p) n =
    c.sets_of.ensures.rows_are
    ∙ ap (λ (g : Shape). listed g.materials (mats g (stays n))) c.requires.graph in
    let known : (u : ℕ) → has c.args.node.inside u ≡ true → u < length p.units =
    subst (λ (g : Shape). (u : ℕ) → has c.args.node.inside u ≡ true → u < g.units)
    c.requires.graph c.requires.known in
    let fx : SFits w128 c.fixed_costs.result = search rules in
    let fixed : c.fixed_costs.result ≡ fixed_cost (net_of p) n
    = c.fixed_costs.ensures.value
    ∙ ap (λ (xs : List ℕ). trillion *ℤ total (net_of p).fix xs)
    (sym (set_listed (length p.units) c.args.node.inside c.rises.ensures known)) in
    let agree : Agree (entry c.by_material-y_at.result) (beside (rows (net_of p) n) c.args.ys.now)
    (rows (net_of p) n)
    = subst (λ (xs : List ℕ). Agree (entry c.by_material-y_at.result) (beside xs c.args.ys.now) xs)
    rs c.by_material-y_at.ensures in
    let st : SFits w128 c.in-Some.start = search rules in
    let h = simp to_z-of_z at c.in-Some.ensures in
    past_in_rows (net_of p) n c.args.d (entry c.by_material-y_at.result)
    (beside (rows (net_of p) n) c.args.ys.now) agree c.fixed_costs.result fixed
    c.sets_of.result.units c.sets_of.result.rows us rs c.in-Some.start h.0 h.1 c.in-Err.past.at
    c.in-Err.ensures.from_start (simp to_z-of_z at c.in-Err.ensures.past)

pub returns-in-Ok-clause-value : goal.returns-in-Ok-clause-value
returns-in-Ok-clause-value c =
    let d = c.ranges.d in
    let p = c.args.problem.now in
    let n = node_of c.args.node in
    let us : c.sets_of.result.units ≡ units (net_of p) n =
    c.sets_of.ensures.units_are
    ∙ ap (λ (g : Shape). listed g.units (stays n)) c.requires.graph in
    let rs : c.sets_of.result.rows ≡ rows (net_of p) n =
    c.sets_of.ensures.rows_are
    ∙ ap (λ (g : Shape). listed g.materials (mats g (stays n))) c.requires.graph in
    let known : (u : ℕ) → has c.args.node.inside u ≡ true → u < length p.units =
    subst (λ (g : Shape). (u : ℕ) → has c.args.node.inside u ≡ true → u < g.units)
    c.requires.graph c.requires.known in
    let fx : SFits w128 c.fixed_costs.result = search rules in
    let fixed : c.fixed_costs.result ≡ fixed_cost (net_of p) n
    = c.fixed_costs.ensures.value
    ∙ ap (λ (xs : List ℕ). trillion *ℤ total (net_of p).fix xs)
    (sym (set_listed (length p.units) c.args.node.inside c.rises.ensures known)) in
    let agree : Agree (entry c.by_material-y_at.result) (beside (rows (net_of p) n) c.args.ys.now)
    (rows (net_of p) n)
    = subst (λ (xs : List ℕ). Agree (entry c.by_material-y_at.result) (beside xs c.args.ys.now) xs)
    rs c.by_material-y_at.ensures in
    let st : SFits w128 c.in-Some.start = search rules in
    let h = simp to_z-of_z at c.in-Some.ensures in
    let t : SFits w128 c.in-Ok.sum = search rules in
    IfOk-weaker c.with_units.result _ _
    (λ b v. bound_is (net_of p) n c.args.d (entry c.by_material-y_at.result)
    (beside (rows (net_of p) n) c.args.ys.now) agree c.fixed_costs.result fixed
    c.sets_of.result.units c.sets_of.result.rows us rs c.in-Some.start h.0 h.1 c.in-Ok.sum
    (simp to_z-of_z at c.in-Ok.ensures.in_range) (simp to_z-of_z at c.in-Ok.ensures.value) b v)
    (simp to_z-of_z at c.with_units.ensures.value)

pub returns-in-Ok-clause-in_range : goal.returns-in-Ok-clause-in_range
returns-in-Ok-clause-in_range c =
    let d = c.ranges.d in
    let p = c.args.problem.now in
    let n = node_of c.args.node in
    let us : c.sets_of.result.units ≡ units (net_of p) n =
    c.sets_of.ensures.units_are
    ∙ ap (λ (g : Shape). listed g.units (stays n)) c.requires.graph in
    let rs : c.sets_of.result.rows ≡ rows (net_of p) n =
    c.sets_of.ensures.rows_are
    ∙ ap (λ (g : Shape). listed g.materials (mats g (stays n))) c.requires.graph in
    let known : (u : ℕ) → has c.args.node.inside u ≡ true → u < length p.units =
    subst (λ (g : Shape). (u : ℕ) → has c.args.node.inside u ≡ true → u < g.units)
    c.requires.graph c.requires.known in
    let fx : SFits w128 c.fixed_costs.result = search rules in
    let fixed : c.fixed_costs.result ≡ fixed_cost (net_of p) n
    = c.fixed_costs.ensures.value
    ∙ ap (λ (xs : List ℕ). trillion *ℤ total (net_of p).fix xs)
    (sym (set_listed (length p.units) c.args.node.inside c.rises.ensures known)) in
    let agree : Agree (entry c.by_material-y_at.result) (beside (rows (net_of p) n) c.args.ys.now)
    (rows (net_of p) n)
    = subst (λ (xs : List ℕ). Agree (entry c.by_material-y_at.result) (beside xs c.args.ys.now) xs)
    rs c.by_material-y_at.ensures in
    let st : SFits w128 c.in-Some.start = search rules in
    let h = simp to_z-of_z at c.in-Some.ensures in
    let t : SFits w128 c.in-Ok.sum = search rules in
    IfOk-weaker c.with_units.result _ _
    (λ b v. all_in_range (net_of p) n c.args.d (entry c.by_material-y_at.result)
    (beside (rows (net_of p) n) c.args.ys.now) agree c.fixed_costs.result fixed
    c.sets_of.result.units c.sets_of.result.rows us rs c.in-Some.start h.0 h.1 c.in-Ok.sum
    (simp to_z-of_z at c.in-Ok.ensures.in_range) (simp to_z-of_z at c.in-Ok.ensures.value) v)
    (simp to_z-of_z at c.with_units.ensures.in_range)

pub returns-in-Ok-clause-past : goal.returns-in-Ok-clause-past
returns-in-Ok-clause-past c =
    let d = c.ranges.d in
    let p = c.args.problem.now in
    let n = node_of c.args.node in
    let us : c.sets_of.result.units ≡ units (net_of p) n =
    c.sets_of.ensures.units_are
    ∙ ap (λ (g : Shape). listed g.units (stays n)) c.requires.graph in
    let rs : c.sets_of.result.rows ≡ rows (net_of p) n =
    c.sets_of.ensures.rows_are
    ∙ ap (λ (g : Shape). listed g.materials (mats g (stays n))) c.requires.graph in
    let known : (u : ℕ) → has c.args.node.inside u ≡ true → u < length p.units =
    subst (λ (g : Shape). (u : ℕ) → has c.args.node.inside u ≡ true → u < g.units)
    c.requires.graph c.requires.known in
    let fx : SFits w128 c.fixed_costs.result = search rules in
    let fixed : c.fixed_costs.result ≡ fixed_cost (net_of p) n
    = c.fixed_costs.ensures.value
    ∙ ap (λ (xs : List ℕ). trillion *ℤ total (net_of p).fix xs)
    (sym (set_listed (length p.units) c.args.node.inside c.rises.ensures known)) in
    let agree : Agree (entry c.by_material-y_at.result) (beside (rows (net_of p) n) c.args.ys.now)
    (rows (net_of p) n)
    = subst (λ (xs : List ℕ). Agree (entry c.by_material-y_at.result) (beside xs c.args.ys.now) xs)
    rs c.by_material-y_at.ensures in
    let st : SFits w128 c.in-Some.start = search rules in
    let h = simp to_z-of_z at c.in-Some.ensures in
    let t : SFits w128 c.in-Ok.sum = search rules in
    IfErr-both c.with_units.result _ _ _
    (λ e from v. past_in_units (net_of p) n c.args.d (entry c.by_material-y_at.result)
    (beside (rows (net_of p) n) c.args.ys.now) agree c.fixed_costs.result fixed
    c.sets_of.result.units c.sets_of.result.rows us rs c.in-Some.start h.0 h.1 c.in-Ok.sum
    (simp to_z-of_z at c.in-Ok.ensures.in_range) (simp to_z-of_z at c.in-Ok.ensures.value)
    (1 + 2 * c.count.result) e.at (ap (λ (k : ℕ). 1 + 2 * k) c.count.ensures) from v)
    c.with_units.ensures.from_start (simp to_z-of_z at c.with_units.ensures.past)
