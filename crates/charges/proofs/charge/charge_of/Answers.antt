use Rattle.std.proofs.Common.{◌≡◌, ◌<◌, ◌∙◌, refl, sym, ap, subst, SFits, rules, ℕ, List, length}
use Rattle.std.proofs.Common.{true, pos}
use Rattle.std.specs.Int.{w128}
use Rattle.std.proofs.lemmas.Int.{to_z-of_z}
use Rattle.structure_list.specs.integer_laws.Total.{total}
use Rattle.structure_list.specs.number_sets.Sets.{has, listed}
use Rattle.structure_list.specs.problem_rules.Problem.{Problem}
use Rattle.structure_list.specs.pns_rules.Shape.{Shape, shape_of}
use Rattle.structure_list.specs.pns_rules.Structure.{mats}
use Rattle.structure_list.specs.pgraph.View.{node_of}
use Rattle.structure_list.specs.flow_rules.Net.{net_of, beside}
use Rattle.structure_list.specs.flow_rules.Relaxed.{stays, units, rows, row_part}
use Rattle.structure_list.specs.flow_rules.Steps.{AreInRange, IsFirstPast}
use Rattle.structure_list.specs.flow_rules.BoundSteps.{rows_steps}
use Rattle.flow_program.specs.Entry.{entry}
use Rattle.flow_program.specs.NodeSets.{AreNeeded, AreSetsOf}
use Rattle.flow_program.proofs.Cited.{listed_had}
use Rattle.charges.specs.Known.{asked_of, facts_of}
use Rattle.structure_list.specs.pgraph.CoversView.{covers_of}
use Rattle.charges.proofs.SumLemmas.{past_in_rows, past_in_worth, past_in_weights, past_in_paid}
use Rattle.charges.proofs.SumLemmas.{past_in_units, all_fit, charge_is}
use Rattle.charges.proofs.charge.charge_of.Goals as goal

pub sets_of-sets-requires : goal.sets_of-sets-requires
sets_of-sets-requires c =
    subst (λ (q : Shape). (u : ℕ) → has c.args.node.now.inside u ≡ true → u < q.units)
    (sym c.graph.ensures.same) c.requires.known

pub table_of-requires : goal.table_of-requires
table_of-requires c =
    let p = c.args.site.now in
    let n = node_of c.args.node.now in
    let g = c.graph.ensures.same in
    let rs : c.sets_of-sets.result.rows ≡ rows (net_of p) n = c.sets_of-sets.ensures.rows_are
    ∙ ap (λ (q : Shape). listed q.materials (mats q (stays n))) g in
    c.requires.multipliers ∙ ap (λ (js : List ℕ). length js) (sym rs)

pub rows_sum-requires-clause-known : goal.rows_sum-requires-clause-known
rows_sum-requires-clause-known c =
    let p = c.args.site.now in
    let n = node_of c.args.node.now in
    let g = c.graph.ensures.same in
    let rs : c.sets_of-sets.result.rows ≡ rows (net_of p) n = c.sets_of-sets.ensures.rows_are
    ∙ ap (λ (q : Shape). listed q.materials (mats q (stays n))) g in
    subst (λ (q : Problem). (j : ℕ) → has c.sets_of-sets.result.rows j ≡ true
    → j < length q.materials) (sym c.problem-problem.ensures.same)
    (λ j h.
    (listed_had (length p.materials) (mats (net_of p).graph (stays n)) c.sets_of-sets.result.rows j
    rs h).0)

pub rows_sum-requires-clause-needed : goal.rows_sum-requires-clause-needed
rows_sum-requires-clause-needed c =
    let n = node_of c.args.node.now in
    subst (λ (q : Problem). AreNeeded (shape_of q) n c.sets_of-sets.result.needed)
    (sym c.problem-problem.ensures.same)
    (subst (λ (q : Shape). AreNeeded q n c.sets_of-sets.result.needed) c.graph.ensures.same
    c.sets_of-sets.ensures.needed_are)

pub useful_at-requires : goal.useful_at-requires
useful_at-requires c =
    subst
    (λ (q : Shape). AreSetsOf q (node_of c.args.node.now) c.sets_of-sets.result.units
    c.sets_of-sets.result.rows c.sets_of-sets.result.needed) c.graph.ensures.same
    c.sets_of-sets.ensures

pub with_units-requires-clause-ground : goal.with_units-requires-clause-ground
with_units-requires-clause-ground c =
    let g = c.graph.ensures.same in
    record {
      units = c.sets_of-sets.ensures.units_are
          ∙ ap (λ (q : Shape). listed q.units (stays (node_of c.args.node.now))) g;
      useful = c.useful_at.ensures;
    }

pub returns-in-Err-clause-past : goal.returns-in-Err-clause-past
returns-in-Err-clause-past c =
    let p = c.args.site.now in
    let n = node_of c.args.node.now in
    let f = facts_of c.args.facts.now in
    let h = c.args.handed.now in
    let e = c.problem-problem.ensures.same in
    let g = c.graph.ensures.same in
    let us : c.sets_of-sets.result.units ≡ units (net_of p) n = c.sets_of-sets.ensures.units_are
    ∙ ap (λ (q : Shape). listed q.units (stays n)) g in
    let rs : c.sets_of-sets.result.rows ≡ rows (net_of p) n = c.sets_of-sets.ensures.rows_are
    ∙ ap (λ (q : Shape). listed q.materials (mats q (stays n))) g in
    let ys : entry c.table_of.result ≡ beside (rows (net_of p) n) h.ys.now = c.table_of.ensures
    ∙ ap (λ (js : List ℕ). beside js h.ys.now) rs in
    let d : SFits w128 h.d = search rules in
    past_in_rows (net_of p) n f h.d (entry c.table_of.result) (beside (rows (net_of p) n) h.ys.now)
    ys f.demand refl (covers_of h.covers.now)
    c.sets_of-sets.result.rows c.sets_of-sets.result.units rs us
    c.in-Err.past.at
    (subst
    (λ (q : Problem). IsFirstPast
    (rows_steps (net_of q) n (entry c.table_of.result) c.sets_of-sets.result.rows (pos 0))
    c.in-Err.past.at) e c.in-Err.ensures.past)

pub returns-in-Err-with_worth-clause-past : goal.returns-in-Err-with_worth-clause-past
returns-in-Err-with_worth-clause-past c =
    let p = c.args.site.now in
    let n = node_of c.args.node.now in
    let f = facts_of c.args.facts.now in
    let h = c.args.handed.now in
    let e = c.problem-problem.ensures.same in
    let g = c.graph.ensures.same in
    let us : c.sets_of-sets.result.units ≡ units (net_of p) n = c.sets_of-sets.ensures.units_are
    ∙ ap (λ (q : Shape). listed q.units (stays n)) g in
    let rs : c.sets_of-sets.result.rows ≡ rows (net_of p) n = c.sets_of-sets.ensures.rows_are
    ∙ ap (λ (q : Shape). listed q.materials (mats q (stays n))) g in
    let ys : entry c.table_of.result ≡ beside (rows (net_of p) n) h.ys.now = c.table_of.ensures
    ∙ ap (λ (js : List ℕ). beside js h.ys.now) rs in
    let d : SFits w128 h.d = search rules in
    let v = c.in-Ok.ensures.value
    ∙ ap
    (λ (q : Problem). total (row_part (net_of q) n (entry c.table_of.result))
    c.sets_of-sets.result.rows) e in
    let k = c.in-Ok.ensures.count
    ∙ ap
    (λ (q : Problem). length
    (rows_steps (net_of q) n (entry c.table_of.result) c.sets_of-sets.result.rows (pos 0))) e in
    let fit =
    subst
    (λ (q : Problem). AreInRange
    (rows_steps (net_of q) n (entry c.table_of.result) c.sets_of-sets.result.rows (pos 0))) e
    c.in-Ok.ensures.in_range in
    past_in_worth (net_of p) n f h.d (entry c.table_of.result)
    (beside (rows (net_of p) n) h.ys.now) ys (asked_of c.demand.result) c.demand.ensures
    (covers_of h.covers.now) c.sets_of-sets.result.rows c.sets_of-sets.result.units rs us
    c.in-Ok.rows.sum c.in-Ok.rows.at v k fit
    c.in-Err-with_worth.past.at c.in-Err-with_worth.ensures.from_start
    c.in-Err-with_worth.ensures.past

pub returns-in-Err-with_weights-clause-past : goal.returns-in-Err-with_weights-clause-past
returns-in-Err-with_weights-clause-past c =
    let p = c.args.site.now in
    let n = node_of c.args.node.now in
    let f = facts_of c.args.facts.now in
    let h = c.args.handed.now in
    let e = c.problem-problem.ensures.same in
    let g = c.graph.ensures.same in
    let us : c.sets_of-sets.result.units ≡ units (net_of p) n = c.sets_of-sets.ensures.units_are
    ∙ ap (λ (q : Shape). listed q.units (stays n)) g in
    let rs : c.sets_of-sets.result.rows ≡ rows (net_of p) n = c.sets_of-sets.ensures.rows_are
    ∙ ap (λ (q : Shape). listed q.materials (mats q (stays n))) g in
    let ys : entry c.table_of.result ≡ beside (rows (net_of p) n) h.ys.now = c.table_of.ensures
    ∙ ap (λ (js : List ℕ). beside js h.ys.now) rs in
    let d : SFits w128 h.d = search rules in
    let v = c.in-Ok.ensures.value
    ∙ ap
    (λ (q : Problem). total (row_part (net_of q) n (entry c.table_of.result))
    c.sets_of-sets.result.rows) e in
    let k = c.in-Ok.ensures.count
    ∙ ap
    (λ (q : Problem). length
    (rows_steps (net_of q) n (entry c.table_of.result) c.sets_of-sets.result.rows (pos 0))) e in
    let fit =
    subst
    (λ (q : Problem). AreInRange
    (rows_steps (net_of q) n (entry c.table_of.result) c.sets_of-sets.result.rows (pos 0))) e
    c.in-Ok.ensures.in_range in
    past_in_weights (net_of p) n f h.d (entry c.table_of.result)
    (beside (rows (net_of p) n) h.ys.now) ys (asked_of c.demand.result) c.demand.ensures
    (covers_of h.covers.now) c.sets_of-sets.result.rows c.sets_of-sets.result.units rs us
    c.in-Ok.rows.sum c.in-Ok.rows.at v k fit
    c.in-Ok-with_worth.asked.sum c.in-Ok-with_worth.asked.at c.in-Ok-with_worth.ensures.value
    c.in-Ok-with_worth.ensures.count c.in-Ok-with_worth.ensures.in_range
    c.in-Err-with_weights.past.at c.in-Err-with_weights.ensures.from_start
    c.in-Err-with_weights.ensures.past

pub returns-in-Err-paid_of-clause-past : goal.returns-in-Err-paid_of-clause-past
returns-in-Err-paid_of-clause-past c =
    let p = c.args.site.now in
    let n = node_of c.args.node.now in
    let f = facts_of c.args.facts.now in
    let h = c.args.handed.now in
    let e = c.problem-problem.ensures.same in
    let g = c.graph.ensures.same in
    let us : c.sets_of-sets.result.units ≡ units (net_of p) n = c.sets_of-sets.ensures.units_are
    ∙ ap (λ (q : Shape). listed q.units (stays n)) g in
    let rs : c.sets_of-sets.result.rows ≡ rows (net_of p) n = c.sets_of-sets.ensures.rows_are
    ∙ ap (λ (q : Shape). listed q.materials (mats q (stays n))) g in
    let ys : entry c.table_of.result ≡ beside (rows (net_of p) n) h.ys.now = c.table_of.ensures
    ∙ ap (λ (js : List ℕ). beside js h.ys.now) rs in
    let d : SFits w128 h.d = search rules in
    let v = c.in-Ok.ensures.value
    ∙ ap
    (λ (q : Problem). total (row_part (net_of q) n (entry c.table_of.result))
    c.sets_of-sets.result.rows) e in
    let k = c.in-Ok.ensures.count
    ∙ ap
    (λ (q : Problem). length
    (rows_steps (net_of q) n (entry c.table_of.result) c.sets_of-sets.result.rows (pos 0))) e in
    let fit =
    subst
    (λ (q : Problem). AreInRange
    (rows_steps (net_of q) n (entry c.table_of.result) c.sets_of-sets.result.rows (pos 0))) e
    c.in-Ok.ensures.in_range in
    past_in_paid (net_of p) n f h.d (entry c.table_of.result) (beside (rows (net_of p) n) h.ys.now)
    ys (asked_of c.demand.result) c.demand.ensures (covers_of h.covers.now)
    c.sets_of-sets.result.rows c.sets_of-sets.result.units rs us
    c.in-Ok.rows.sum c.in-Ok.rows.at v k fit c.in-Ok-with_worth.asked.sum
    c.in-Ok-with_worth.asked.at c.in-Ok-with_worth.ensures.value c.in-Ok-with_worth.ensures.count
    c.in-Ok-with_worth.ensures.in_range c.in-Ok-with_weights.sum.sum
    c.in-Ok-with_weights.sum.at c.in-Ok-with_weights.ensures.value
    c.in-Ok-with_weights.ensures.count c.in-Ok-with_weights.ensures.in_range
    c.in-Err-paid_of.past.at c.in-Err-paid_of.ensures.from_start c.in-Err-paid_of.ensures.past

pub returns-in-Err-with_units-clause-past : goal.returns-in-Err-with_units-clause-past
returns-in-Err-with_units-clause-past c =
    let p = c.args.site.now in
    let n = node_of c.args.node.now in
    let f = facts_of c.args.facts.now in
    let h = c.args.handed.now in
    let e = c.problem-problem.ensures.same in
    let g = c.graph.ensures.same in
    let us : c.sets_of-sets.result.units ≡ units (net_of p) n = c.sets_of-sets.ensures.units_are
    ∙ ap (λ (q : Shape). listed q.units (stays n)) g in
    let rs : c.sets_of-sets.result.rows ≡ rows (net_of p) n = c.sets_of-sets.ensures.rows_are
    ∙ ap (λ (q : Shape). listed q.materials (mats q (stays n))) g in
    let ys : entry c.table_of.result ≡ beside (rows (net_of p) n) h.ys.now = c.table_of.ensures
    ∙ ap (λ (js : List ℕ). beside js h.ys.now) rs in
    let d : SFits w128 h.d = search rules in
    let v = c.in-Ok.ensures.value
    ∙ ap
    (λ (q : Problem). total (row_part (net_of q) n (entry c.table_of.result))
    c.sets_of-sets.result.rows) e in
    let k = c.in-Ok.ensures.count
    ∙ ap
    (λ (q : Problem). length
    (rows_steps (net_of q) n (entry c.table_of.result) c.sets_of-sets.result.rows (pos 0))) e in
    let fit =
    subst
    (λ (q : Problem). AreInRange
    (rows_steps (net_of q) n (entry c.table_of.result) c.sets_of-sets.result.rows (pos 0))) e
    c.in-Ok.ensures.in_range in
    let s : SFits w128 c.in-Ok-with_weights.sum.sum = search rules in
    past_in_units (net_of p) n f h.d (entry c.table_of.result) (beside (rows (net_of p) n) h.ys.now)
    ys (asked_of c.demand.result) c.demand.ensures (covers_of h.covers.now)
    c.sets_of-sets.result.rows c.sets_of-sets.result.units rs us
    c.in-Ok.rows.sum c.in-Ok.rows.at v k fit c.in-Ok-with_worth.asked.sum
    c.in-Ok-with_worth.asked.at c.in-Ok-with_worth.ensures.value c.in-Ok-with_worth.ensures.count
    c.in-Ok-with_worth.ensures.in_range c.in-Ok-with_weights.sum.sum
    c.in-Ok-with_weights.sum.at c.in-Ok-with_weights.ensures.value
    c.in-Ok-with_weights.ensures.count c.in-Ok-with_weights.ensures.in_range
    c.in-Ok-paid_of.paid.at c.in-Ok-paid_of.ensures.count c.in-Ok-paid_of.ensures.in_range
    c.in-Err-with_units.past.at c.in-Err-with_units.ensures.from_start
    (simp to_z-of_z
    at (c.in-Err-with_units.ensures.past (covers_of h.covers.now) c.in-Ok-paid_of.ensures.value))

pub returns-in-Ok-with_units-clause-value : goal.returns-in-Ok-with_units-clause-value
returns-in-Ok-with_units-clause-value c =
    let p = c.args.site.now in
    let n = node_of c.args.node.now in
    let f = facts_of c.args.facts.now in
    let h = c.args.handed.now in
    let e = c.problem-problem.ensures.same in
    let g = c.graph.ensures.same in
    let us : c.sets_of-sets.result.units ≡ units (net_of p) n = c.sets_of-sets.ensures.units_are
    ∙ ap (λ (q : Shape). listed q.units (stays n)) g in
    let rs : c.sets_of-sets.result.rows ≡ rows (net_of p) n = c.sets_of-sets.ensures.rows_are
    ∙ ap (λ (q : Shape). listed q.materials (mats q (stays n))) g in
    let ys : entry c.table_of.result ≡ beside (rows (net_of p) n) h.ys.now = c.table_of.ensures
    ∙ ap (λ (js : List ℕ). beside js h.ys.now) rs in
    let d : SFits w128 h.d = search rules in
    let v = c.in-Ok.ensures.value
    ∙ ap
    (λ (q : Problem). total (row_part (net_of q) n (entry c.table_of.result))
    c.sets_of-sets.result.rows) e in
    let k = c.in-Ok.ensures.count
    ∙ ap
    (λ (q : Problem). length
    (rows_steps (net_of q) n (entry c.table_of.result) c.sets_of-sets.result.rows (pos 0))) e in
    let fit =
    subst
    (λ (q : Problem). AreInRange
    (rows_steps (net_of q) n (entry c.table_of.result) c.sets_of-sets.result.rows (pos 0))) e
    c.in-Ok.ensures.in_range in
    let s : SFits w128 c.in-Ok-with_weights.sum.sum = search rules in
    let all : SFits w128 c.in-Ok-with_units.all.sum = search rules in
    simp to_z-of_z
    (charge_is (net_of p) n f h.d (entry c.table_of.result) (beside (rows (net_of p) n) h.ys.now) ys
    (asked_of c.demand.result) c.demand.ensures (covers_of h.covers.now) c.sets_of-sets.result.rows
    c.sets_of-sets.result.units rs us
    c.in-Ok.rows.sum c.in-Ok.rows.at v k fit c.in-Ok-with_worth.asked.sum
    c.in-Ok-with_worth.asked.at c.in-Ok-with_worth.ensures.value c.in-Ok-with_worth.ensures.count
    c.in-Ok-with_worth.ensures.in_range c.in-Ok-with_weights.sum.sum
    c.in-Ok-with_weights.sum.at c.in-Ok-with_weights.ensures.value
    c.in-Ok-with_weights.ensures.count c.in-Ok-with_weights.ensures.in_range
    c.in-Ok-paid_of.paid.at c.in-Ok-paid_of.ensures.count c.in-Ok-paid_of.ensures.in_range
    c.in-Ok-with_units.all.sum
    (simp to_z-of_z
    at (c.in-Ok-with_units.ensures.value (covers_of h.covers.now) c.in-Ok-paid_of.ensures.value)))

pub returns-in-Ok-with_units-clause-in_range : goal.returns-in-Ok-with_units-clause-in_range
returns-in-Ok-with_units-clause-in_range c =
    let p = c.args.site.now in
    let n = node_of c.args.node.now in
    let f = facts_of c.args.facts.now in
    let h = c.args.handed.now in
    let e = c.problem-problem.ensures.same in
    let g = c.graph.ensures.same in
    let us : c.sets_of-sets.result.units ≡ units (net_of p) n = c.sets_of-sets.ensures.units_are
    ∙ ap (λ (q : Shape). listed q.units (stays n)) g in
    let rs : c.sets_of-sets.result.rows ≡ rows (net_of p) n = c.sets_of-sets.ensures.rows_are
    ∙ ap (λ (q : Shape). listed q.materials (mats q (stays n))) g in
    let ys : entry c.table_of.result ≡ beside (rows (net_of p) n) h.ys.now = c.table_of.ensures
    ∙ ap (λ (js : List ℕ). beside js h.ys.now) rs in
    let d : SFits w128 h.d = search rules in
    let v = c.in-Ok.ensures.value
    ∙ ap
    (λ (q : Problem). total (row_part (net_of q) n (entry c.table_of.result))
    c.sets_of-sets.result.rows) e in
    let k = c.in-Ok.ensures.count
    ∙ ap
    (λ (q : Problem). length
    (rows_steps (net_of q) n (entry c.table_of.result) c.sets_of-sets.result.rows (pos 0))) e in
    let fit =
    subst
    (λ (q : Problem). AreInRange
    (rows_steps (net_of q) n (entry c.table_of.result) c.sets_of-sets.result.rows (pos 0))) e
    c.in-Ok.ensures.in_range in
    let s : SFits w128 c.in-Ok-with_weights.sum.sum = search rules in
    all_fit (net_of p) n f h.d (entry c.table_of.result) (beside (rows (net_of p) n) h.ys.now) ys
    (asked_of c.demand.result) c.demand.ensures (covers_of h.covers.now) c.sets_of-sets.result.rows
    c.sets_of-sets.result.units rs us
    c.in-Ok.rows.sum c.in-Ok.rows.at v k fit c.in-Ok-with_worth.asked.sum
    c.in-Ok-with_worth.asked.at c.in-Ok-with_worth.ensures.value c.in-Ok-with_worth.ensures.count
    c.in-Ok-with_worth.ensures.in_range c.in-Ok-with_weights.sum.sum
    c.in-Ok-with_weights.sum.at c.in-Ok-with_weights.ensures.value
    c.in-Ok-with_weights.ensures.count c.in-Ok-with_weights.ensures.in_range
    c.in-Ok-paid_of.paid.at c.in-Ok-paid_of.ensures.count c.in-Ok-paid_of.ensures.in_range
    (simp to_z-of_z
    at (c.in-Ok-with_units.ensures.in_range (covers_of h.covers.now) c.in-Ok-paid_of.ensures.value))
