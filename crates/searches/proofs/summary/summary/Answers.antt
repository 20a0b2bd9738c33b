use Rattle.std.proofs.Common.{◌≡◌, ◌++◌, ◌∙◌, ℕ, ℤ, List, length, ap, ap₂, SFits, rules}
use Rattle.std.proofs.Common.{string_bytes}
use Rattle.std.specs.Int.{w128}
use Rattle.std.proofs.lemmas.Int.{to_z-of_z}
use Rattle.tree_text.specs.number_sets.Sets.{has}
use Rattle.tree_text.specs.problem_rules.Problem.{OperatingUnit, unit_names}
use Rattle.command_files.specs.studio_rules.Lines.{spaced_names, names_in}
use Rattle.searches.proofs.Summaries.{before_names, behind_names, summary_is}
use Rattle.searches.proofs.summary.summary.Goals as goal

pub returns : goal.returns
returns c =
    let p = c.args.problem.now in
    let w = c.args.network.now in
    let most = c.args.most in
    let nodes = c.args.nodes in
    let cost_fits : SFits w128 c.cost.result = search rules in
    let d_fits : SFits w128 c.d.result = search rules in
    let before : string_bytes c.in_ok-sizes.sizes ≡ before_names (length p.units) most =
    c.in_ok-sizes.ensures
    ∙ ap (λ (us : List OperatingUnit). before_names (length us) most) c.units.ensures in
    let behind : string_bytes c.in_ok-cost.cost ≡ behind_names w.cost w.d nodes =
    (simp to_z-of_z at c.in_ok-cost.ensures)
    ∙ ap₂ (λ (cost d : ℤ). behind_names cost d nodes) c.cost.ensures c.d.ensures in
    let names : spaced_names (names_in (has c.units-3.result) 0 (unit_names c.units-2.result.now))
    ≡ spaced_names (names_in (has w.units) 0 (unit_names p.units)) =
    ap₂ (λ (set : List ℕ) (us : List OperatingUnit). spaced_names
    (names_in (has set) 0 (unit_names us))) c.units-3.ensures c.units-2.ensures in
    let front = c.in_ok-text.ensures.items_if_clones_equal (λ x y e. e)
    ∙ (c.as_bytes.ensures.value ∙ before) in
    c.in_ok-extend_from_slice.ensures.items
    ∙ (ap₂ (λ (x y : List ℕ). x ++ y)
    (c.in_ok-push_unit_names.ensures ∙ ap₂ (λ (x y : List ℕ). x ++ y) front names)
    (c.as_bytes-2.ensures.value ∙ behind)
    ∙ summary_is p most w nodes)
