use Rattle.std.proofs.Common.{◌∙◌, ◌<◌, ap, sym, subst, length, arith, List}
use Rattle.flow_rules.specs.problem_rules.Problem.{Material, Exclusion}
use Rattle.flow_rules.specs.number_sets.Sets.{has}
use Rattle.pgraph.specs.declared.arcs.Side.TheVariants.{Inputs, Outputs}
use Rattle.pgraph.specs.Building.{has_term, units_excluded}
use Rattle.pgraph.specs.Tables.{shape}
use Rattle.pgraph.proofs.TableLemmas.{same_shape, is_graph}
use Rattle.pgraph.proofs.graph.Graph.of.Goals as goal

pub of-requires-clause-known : goal.of-requires-clause-known
of-requires-clause-known c = λ u x e.
    subst (λ (ms : List Material). x < length ms) (sym c.materials-materials.ensures)
    ((c.valid_is_proper.ensures c.args.problem.now c.is_valid.ensures.valid).input_known u x
    (ap (λ us. has_term Inputs us u x) (sym c.units-units.ensures) ∙ e))

pub of-requires-2-clause-known : goal.of-requires-2-clause-known
of-requires-2-clause-known c = λ u x e.
    subst (λ (ms : List Material). x < length ms) (sym c.materials-materials.ensures)
    ((c.valid_is_proper.ensures c.args.problem.now c.is_valid.ensures.valid).output_known u x
    (ap (λ us. has_term Outputs us u x) (sym c.units-units.ensures) ∙ e))

pub excluded_units-requires : goal.excluded_units-requires
excluded_units-requires c = λ k u e.
    let known =
    (c.valid_is_proper.ensures c.args.problem.now c.is_valid.ensures.valid).excluded_known k u
    (ap (λ (es : List Exclusion). has (units_excluded es k) u) (sym c.exclusions.ensures)
    ∙ e) in
    let few = c.is_valid.ensures.well_formed.few_units in
    omega (arith, known.1)

pub new-requires : goal.new-requires
new-requires c =
    let inputs = c.in_ok-inputs.ensures in
    let outputs = c.in_ok-outputs.ensures in
    let excluded = c.in_ok-exclusions.ensures in
    is_graph c.args.problem.now c.materials-materials.result.now c.units-units.result.now
    c.exclusions.result.now c.materials-materials.ensures c.units-units.ensures
    c.exclusions.ensures
    (record {
      raws = c.raws_and_products-raws.result.0;
      products =
          c.raws_and_products-raws.result.1;
      inputs = c.in_ok-inputs.inputs;
      outputs =
          c.in_ok-outputs.outputs;
      exclusions = c.in_ok-exclusions.exclusions.items;
    })
    inputs.materials inputs.units excluded.count c.raws_and_products-raws.ensures.raws
    c.raws_and_products-raws.ensures.products inputs.joined outputs.joined excluded.units
    (c.valid_is_proper.ensures c.args.problem.now c.is_valid.ensures.valid)
    c.is_valid.ensures.well_formed outputs.materials outputs.units

pub returns : goal.returns
returns c =
    let inputs = c.in_ok-inputs.ensures in
    let outputs = c.in_ok-outputs.ensures in
    let excluded = c.in_ok-exclusions.ensures in
    ap shape c.new.ensures
    ∙ same_shape c.args.problem.now c.materials-materials.result.now c.units-units.result.now
    c.exclusions.result.now c.materials-materials.ensures c.units-units.ensures
    c.exclusions.ensures
    (record {
      raws = c.raws_and_products-raws.result.0;
      products =
          c.raws_and_products-raws.result.1;
      inputs = c.in_ok-inputs.inputs;
      outputs =
          c.in_ok-outputs.outputs;
      exclusions = c.in_ok-exclusions.exclusions.items;
    })
    inputs.materials inputs.units excluded.count c.raws_and_products-raws.ensures.raws
    c.raws_and_products-raws.ensures.products inputs.joined outputs.joined excluded.units
