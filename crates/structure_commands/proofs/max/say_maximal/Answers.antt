use Rattle.std.proofs.Common.{◌++◌, ◌∷◌, [], refl, inl, inr, ℕ, List, codes}
use Rattle.text_lines.specs.number_sets.Sets.{has}
use Rattle.cert_check.specs.pns_rules.Shape.{shape_of}
use Rattle.cert_check.specs.pns_rules.Structure.{mats}
use Rattle.cert_check.specs.pgraph.Tables.{shape}
use Rattle.command_files.specs.studio_rules.Lines.{line}
use Rattle.command_files.specs.studio_rules.Max.{MaxWork, units_line, materials_line}
use Rattle.command_files.specs.studio_rules.Ending.{Tells}
use Rattle.command_files.specs.studio_rules.declared.status.Status.{Status}
use Rattle.command_files.specs.studio_rules.declared.status.Status.TheVariants.{Done}
use Rattle.command_files.proofs.Cited.{Ends-map, only_in, only_or_memory_in, two_lines}
use Rattle.command_files.proofs.studio_rules.Cited.{maximal_from, none_from}
use Rattle.structure_commands.proofs.max.say_maximal.Goals as goal

pub returns-in-Some : goal.returns-in-Some
returns-in-Some g c =
    let p = c.args.problem.now in
    let s = has c.in-Some.set in
    let first : List ℕ = units_line p s in
    let second : List ℕ = materials_line p (mats (shape_of p) s) in
    let Q : Status → List ℕ → Type 0 = Tells (MaxWork p) in
    let is =
    maximal_from (shape c.in-Ok.graph) (shape_of p) c.empty.result c.in-Some.set c.in-Ok.ensures
    c.empty.ensures c.in-Some.ensures.union c.in-Some.ensures.structure in
    Ends-map _ Q c.args.out.now _ _
    (only_or_memory_in Q Done (line first ++ line second)
    (first ∷ second ∷ [], inr (s, is, refl), two_lines first second) ([], inl refl, refl))
    c.say_structure.ensures

pub returns : goal.returns
returns g c =
    let p = c.args.problem.now in
    let Q : Status → List ℕ → Type 0 = Tells (MaxWork p) in
    let no =
    none_from (shape c.in-Ok.graph) (shape_of p) c.empty.result c.in-Ok.ensures c.empty.ensures
    c.in-None.ensures.none in
    Ends-map _ Q c.args.out.now _ _
    (only_in Q Done (line (codes "none")) (codes "none" ∷ [], inl (no, refl), refl))
    c.say.ensures
