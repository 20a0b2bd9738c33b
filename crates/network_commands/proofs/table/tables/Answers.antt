use Rattle.std.proofs.Common.{◌≡◌, ◌++◌, ◌∷◌, ◌∙◌, [], sym, ap, subst, ℕ, List, length}
use Rattle.verdicts.proofs.number_sets.Cited.{below_from}
use Rattle.verdicts.specs.problem_rules.Problem.{Problem}
use Rattle.verdicts.specs.tree_rules.Known.{AreUnits}
use Rattle.verdicts.specs.report_rules.Table.{IsUnitTable}
use Rattle.network_commands.proofs.TableLines.{tables_told}
use Rattle.network_commands.proofs.table.tables.Goals as goal

pub unit_table-requires : goal.unit_table-requires
unit_table-requires c =
    subst (λ (p : Problem). AreUnits p c.args.network.now.units) (sym c.problem.ensures.same)
    (record {
      rising = c.is_sized.ensures.sized.unit_set.rising;
      below =
          below_from (length c.args.site.now.units) c.args.network.now.units
          c.requires.feasible.structure.s3;
    })

pub material_table-requires-clause-known : goal.material_table-requires-clause-known
material_table-requires-clause-known c =
    record {
      rising = c.is_sized.ensures.sized.unit_set.rising;
      below =
          below_from (length c.args.site.now.units) c.args.network.now.units
          c.requires.feasible.structure.s3;
    }

pub returns : goal.returns
returns c =
    let units =
    subst (λ (p : Problem). IsUnitTable p c.args.network.now c.in_ok-bytes.bytes.items)
    c.problem.ensures.same c.in_ok-bytes.ensures in
    let materials = c.in_ok-materials.ensures in
    let above : c.push.new.self.items ≡ c.in_ok-bytes.bytes.items ++ 10 ∷ [] =
    c.in_ok-push.ensures.items in
    let below : c.deref.result.now ≡ c.in_ok-materials.materials.items = c.deref.ensures.value in
    tables_told c.args.site.now c.args.network.now units.0 materials.0 units.1 materials.1
    c.extend_from_slice.new.self.items
    (c.in_ok-extend_from_slice.ensures.items
    ∙ (λ i. (above ∙ ap (λ (t : List ℕ). t ++ 10 ∷ []) units.2) i ++ (below ∙ materials.2) i))
