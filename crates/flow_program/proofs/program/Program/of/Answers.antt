use Rattle.std.proofs.Common.{◌≡◌, ◌∙◌, sym, ap, SFits, rules, ℕ, List, length, ◌<◌, ◌*ℤ◌, true}
use Rattle.std.proofs.Common.{subst}
use Rattle.std.specs.Int.{w128}
use Rattle.std.proofs.lemmas.Int.{to_z-of_z}
use Rattle.pgraph.specs.number_sets.Sets.{has, listed}
use Rattle.pgraph.specs.pns_rules.Shape.{Shape}
use Rattle.pgraph.specs.pns_rules.Structure.{mats}
use Rattle.pgraph.specs.flow_rules.Net.{net_of}
use Rattle.flow_program.proofs.NodeSetLemmas.{listed_had, set_listed}
use Rattle.pgraph.specs.View.{node_of}
use Rattle.pgraph.specs.flow_rules.Relaxed.{stays, units, rows, fixed_cost}
use Rattle.pgraph.specs.flow_rules.Net.{trillion}
use Rattle.pgraph.specs.flow_rules.Program.{IsProgram}
use Rattle.exact_numbers.specs.integer_laws.Total.{total}
use Rattle.flow_program.specs.NodeSets.{AreNeeded}
use Rattle.flow_program.proofs.ProgramLemmas.{same_program, program_is}
use Rattle.flow_program.proofs.program.Program.of.Goals as goal

pub bands_of-requires-clause-known : goal.bands_of-requires-clause-known
bands_of-requires-clause-known c =
    let p = c.args.problem.now in
    let n = node_of c.args.node in
    λ j h.
    (listed_had (length p.materials) (mats (net_of p).graph (stays n)) c.sets_of.result.rows j
    (c.sets_of.ensures.rows_are
    ∙ ap (λ (g : Shape). listed g.materials (mats g (stays n))) c.requires.graph) h).0

pub bands_of-requires-clause-needed : goal.bands_of-requires-clause-needed
bands_of-requires-clause-needed c =
    subst (λ (g : Shape). AreNeeded g (node_of c.args.node) c.sets_of.result.needed)
    c.requires.graph c.sets_of.ensures.needed_are

pub columns_of-requires-clause-known : goal.columns_of-requires-clause-known
columns_of-requires-clause-known c =
    let p = c.args.problem.now in
    let n = node_of c.args.node in
    λ u h. (listed_had (length p.units) (stays n) c.sets_of.result.units u
    (c.sets_of.ensures.units_are ∙ ap (λ (g : Shape). listed g.units (stays n)) c.requires.graph)
    h).0

pub invariant_of-result : goal.invariant_of-result
invariant_of-result c =
    let p = c.args.problem.now in
    let n = node_of c.args.node in
    let us : c.sets_of.result.units ≡ units (net_of p) n =
    c.sets_of.ensures.units_are
    ∙ ap (λ (g : Shape). listed g.units (stays n)) c.requires.graph in
    let rs : c.sets_of.result.rows ≡ rows (net_of p) n =
    c.sets_of.ensures.rows_are
    ∙ ap (λ (g : Shape). listed g.materials (mats g (stays n))) c.requires.graph in
    let known : (u : ℕ) → has c.args.node.inside u ≡ true → u < length p.units =
    subst (λ (g : Shape). (u : ℕ) → has c.args.node.inside u ≡ true → u < g.units)
    c.requires.graph c.requires.known in
    let fx : SFits w128 c.fixed_costs-fixed.result = search rules in
    let fixed : c.fixed_costs-fixed.result ≡ fixed_cost (net_of p) n
    = c.fixed_costs-fixed.ensures.value
    ∙ ap (λ (xs : List ℕ). trillion *ℤ total (net_of p).fix xs)
    (sym (set_listed (length p.units) c.args.node.inside c.rises.ensures known)) in
    let k = c.in_ok-columns.columns in
    let b = c.in_ok-bands.bands in
    let e = c.in_ok-columns.ensures in
    let f = c.in_ok-bands.ensures in
    let same =
    same_program (net_of p) n c.sets_of.result.units c.sets_of.result.rows
    c.fixed_costs-fixed.result k.costs.items k.lows.items k.highs.items b.floors.items
    b.ceilings.items k.rates.items
    us rs fixed e.costs e.lows e.highs f.floors f.ceilings e.rates in
    simp to_z-of_z (subst IsProgram (sym same) (program_is p c.is_valid.ensures.well_formed n))

pub returns : goal.returns
returns c =
    let p = c.args.problem.now in
    let n = node_of c.args.node in
    let us : c.sets_of.result.units ≡ units (net_of p) n =
    c.sets_of.ensures.units_are
    ∙ ap (λ (g : Shape). listed g.units (stays n)) c.requires.graph in
    let rs : c.sets_of.result.rows ≡ rows (net_of p) n =
    c.sets_of.ensures.rows_are
    ∙ ap (λ (g : Shape). listed g.materials (mats g (stays n))) c.requires.graph in
    let known : (u : ℕ) → has c.args.node.inside u ≡ true → u < length p.units =
    subst (λ (g : Shape). (u : ℕ) → has c.args.node.inside u ≡ true → u < g.units)
    c.requires.graph c.requires.known in
    let fx : SFits w128 c.fixed_costs-fixed.result = search rules in
    let fixed : c.fixed_costs-fixed.result ≡ fixed_cost (net_of p) n
    = c.fixed_costs-fixed.ensures.value
    ∙ ap (λ (xs : List ℕ). trillion *ℤ total (net_of p).fix xs)
    (sym (set_listed (length p.units) c.args.node.inside c.rises.ensures known)) in
    let k = c.in_ok-columns.columns in
    let b = c.in_ok-bands.bands in
    let e = c.in_ok-columns.ensures in
    let f = c.in_ok-bands.ensures in
    let same =
    same_program (net_of p) n c.sets_of.result.units c.sets_of.result.rows
    c.fixed_costs-fixed.result k.costs.items k.lows.items k.highs.items b.floors.items
    b.ceilings.items k.rates.items
    us rs fixed e.costs e.lows e.highs f.floors f.ceilings e.rates in
    simp to_z-of_z same
