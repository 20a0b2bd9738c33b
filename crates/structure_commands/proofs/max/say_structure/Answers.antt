use Rattle.std.proofs.Common.{◌≡◌, ◌++◌, ◌∙◌, ap, inl, inr, ℕ, List, Bool}
use Rattle.text_lines.specs.number_sets.Sets.{has}
use Rattle.cert_check.specs.pns_rules.Shape.{Shape, shape_of}
use Rattle.cert_check.specs.pns_rules.Structure.{mats}
use Rattle.command_files.specs.studio_rules.Lines.{line}
use Rattle.command_files.specs.studio_rules.Max.{units_line, materials_line}
use Rattle.command_files.specs.studio_rules.Ending.{Only, OrMemory}
use Rattle.command_files.specs.studio_rules.declared.status.Status.{Status}
use Rattle.command_files.specs.studio_rules.declared.status.Status.TheVariants.{Done}
use Rattle.command_files.proofs.Cited.{Ends-map}
use Rattle.structure_commands.proofs.max.say_structure.Goals as goal

pub returns-in_default-materials_line : goal.returns-in_default-materials_line
returns-in_default-materials_line g c =
    let p = c.args.problem.now in
    let text : List ℕ =
    line (units_line p (has c.args.set))
    ++ line (materials_line p (mats (shape_of p) (has c.args.set))) in
    let Q : Status → List ℕ → Type 0 = OrMemory (Only Done text) in
    Ends-map _ Q c.args.out.now _ _ (λ s t q. inr q) c.say_memory-in_default-materials_line.ensures

pub returns : goal.returns
returns g c =
    let p = c.args.problem.now in
    let text : List ℕ =
    line (units_line p (has c.args.set))
    ++ line (materials_line p (mats (shape_of p) (has c.args.set))) in
    let Q : Status → List ℕ → Type 0 = OrMemory (Only Done text) in
    let first : c.deref.result.now ≡ line (units_line p (has c.args.set)) =
    c.deref.ensures.value ∙ c.in-Ok.ensures in
    let there : has c.materials.result ≡ mats (shape_of p) (has c.args.set) =
    c.materials.ensures ∙ ap (λ (h : Shape). mats h (has c.args.set)) c.requires.graph in
    let second : c.deref-2.result.now
    ≡ line (materials_line p (mats (shape_of p) (has c.args.set))) =
    c.deref-2.ensures.value ∙ c.in-Ok-materials_line.ensures
    ∙ ap (λ (m : ℕ → Bool). line (materials_line p m)) there in
    Ends-map (Only Done (c.deref.result.now ++ c.deref-2.result.now)) Q c.args.out.now _ _
    (λ s t q. inl (q.0, q.1 ∙ (λ i. first i ++ second i))) c.say_both.ensures
