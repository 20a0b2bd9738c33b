use Rattle.std.proofs.Common.{◌∙◌, ap, sym, not, ℕ, Bool}
use Rattle.text_lines.specs.number_sets.Sets.{has}
use Rattle.cert_check.specs.pns_rules.Shape.{shape_of}
use Rattle.cert_check.specs.pns_rules.Structure.{mats}
use Rattle.command_files.specs.report_rules.Warned.{material_stands}
use Rattle.structure_commands.specs.Judged.{Judged}
use Rattle.structure_commands.proofs.plant.Plant.material_stands.Goals as goal

pub returns-in-UnusedMaterial : goal.returns-in-UnusedMaterial
returns-in-UnusedMaterial c =
    let j = c.args.self.now in
    let x = c.args.x in
    ap not (c.has.ensures ∙ ap (λ (t : ℕ → Bool). t x) c.self.invariant
    ∙ ap (λ (j : Judged). mats (shape_of j.problem) (has j.units) x) c.self.view_is)
    ∙ ap (material_stands j.problem (has j.units) x) (sym c.in-UnusedMaterial.is)
