use Rattle.std.proofs.Common.{◌≡◌, ◌<◌, ◌∙◌, ◌++◌, ◌∷◌, [], sym, ap, subst, true, length, map}
use Rattle.report_rules.specs.number_sets.Sets.{has}
use Rattle.report_rules.specs.problem_rules.Problem.{Problem}
use Rattle.report_rules.specs.flow_rules.Net.{net_of, materials_of}
use Rattle.report_rules.specs.tree_rules.Claim.{IsFeasible}
use Rattle.report_rules.specs.Facts.{material_json}
use Rattle.report_tables.proofs.report_amounts.Cited.{all_within, next_within, rest_within}
use Rattle.report_tables.proofs.report_amounts.Cited.{material_known}
use Rattle.json_text.proofs.Values.{next_value, last_value}
use Rattle.json_text.proofs.materials.material_values.Goals as goal

pub materials_in-j-items-requires : goal.materials_in-j-items-requires
materials_in-j-items-requires c = record { known = c.requires.feasible.structure.s3 }

pub loop-j-init : goal.loop-j-init
loop-j-init c =
    let js = materials_of (net_of c.args.site.now) (has c.args.network.now.units) in
    let are : c.into_iter-j-iterator.result ≡ js =
    c.into_iter-j-iterator.ensures.into_iter_gives.0 ∙ c.materials_in-j-items.ensures in
    record {
      within = all_within c.into_iter-j-iterator.result js are;
      values = λ i. c.new-values.ensures.items i
          ++ map (material_json c.args.site.now c.args.network.now c.args.marginals.now) (are i);
    }

pub returns : goal.returns
returns c =
    last_value (material_json c.args.site.now c.args.network.now c.args.marginals.now)
    c.loop-j.j-iterator c.loop-j.values.items _ c.in-None.ensures.steps.0 c.loop-j.invariant.values

pub material_json-requires-clause-feasible : goal.material_json-requires-clause-feasible
material_json-requires-clause-feasible c =
    subst (λ (p : Problem). IsFeasible p c.args.network.now) (sym c.problem.ensures.same)
    c.requires.feasible

pub material_json-requires-clause-material : goal.material_json-requires-clause-material
material_json-requires-clause-material c =
    let s = has c.args.network.now.units in
    subst (λ (p : Problem). has (materials_of (net_of p) s) c.in-Some.j ≡ true)
    (sym c.problem.ensures.same)
    (next_within (has (materials_of (net_of c.args.site.now) s)) c.loop-j.j-iterator c.next.new.self
    c.in-Some.j c.in-Some.ensures.steps c.loop-j.invariant.within)

pub material_json-requires-clause-known : goal.material_json-requires-clause-known
material_json-requires-clause-known c =
    let p = c.args.site.now in
    let w = c.args.network.now in
    subst (λ (p : Problem). c.in-Some.j < length p.materials) (sym c.problem.ensures.same)
    (material_known p w c.in-Some.j
    (next_within (has (materials_of (net_of p) (has w.units))) c.loop-j.j-iterator
    c.next.new.self c.in-Some.j c.in-Some.ensures.steps c.loop-j.invariant.within))

pub loop-j-preserved : goal.loop-j-preserved
loop-j-preserved c =
    let p = c.args.site.now in
    let w = c.args.network.now in
    let m = c.args.marginals.now in
    record {
      within =
          rest_within (has (materials_of (net_of p) (has w.units))) c.loop-j.j-iterator
          c.next.new.self c.in-Some.j c.in-Some.ensures.steps c.loop-j.invariant.within;
      values =
          next_value (material_json p w m) c.loop-j.j-iterator c.next.new.self c.in-Some.j
          c.loop-j.values.items c.push.new.self.items _ c.in-Some.ensures.steps
          (c.in_ok-push.ensures.items
          ∙ (λ i. c.loop-j.values.items
          ++ (c.in_ok-material_json.ensures
          ∙ ap (λ (p : Problem). material_json p w m c.in-Some.j) c.problem.ensures.same) i ∷ []))
          c.loop-j.invariant.values;
    }
