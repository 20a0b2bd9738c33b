use Rattle.std.proofs.Common.{◌≡◌, ◌∙◌, [], None, refl, inl, subst, ℕ, List, codes}
use Rattle.verdicts.specs.problem_rules.Problem.{Problem}
use Rattle.command_files.specs.studio_rules.Lines.{line, text_of}
use Rattle.command_files.specs.studio_rules.Graph.{AreGraphLines, PlantGraphWork}
use Rattle.command_files.specs.studio_rules.Ending.{Tells}
use Rattle.command_files.specs.studio_rules.declared.status.Status.{Status}
use Rattle.command_files.specs.studio_rules.declared.status.Status.TheVariants.{Done, Memory}
use Rattle.command_files.proofs.Cited.{Ends-map, only_in}
use Rattle.network_commands.proofs.graph.say_plant.Goals as goal

pub returns-in_default : goal.returns-in_default
returns-in_default g c =
    let Q : Status → List ℕ → Type 0 = Tells (PlantGraphWork c.args.problem.now) in
    Ends-map _ Q c.args.out.now _ _ (only_in Q Memory (line (codes "memory")) ([], inl refl, refl))
    c.say_memory.ensures

pub returns-in-Ok-drawn : goal.returns-in-Ok-drawn
returns-in-Ok-drawn g c =
    let Q : Status → List ℕ → Type 0 = Tells (PlantGraphWork c.args.problem.now) in
    let told =
    subst (λ (p : Problem). (lines : List (List ℕ)) × AreGraphLines p None [] lines
    × (c.in-Ok-drawn.bytes.items ≡ text_of lines)) c.of-site.ensures c.in-Ok-drawn.ensures in
    Ends-map _ Q c.args.out.now _ _
    (only_in Q Done c.deref.result.now (told.0, told.1, c.deref.ensures.value ∙ told.2))
    c.say_text.ensures

pub returns : goal.returns
returns g c =
    let Q : Status → List ℕ → Type 0 = Tells (PlantGraphWork c.args.problem.now) in
    Ends-map _ Q c.args.out.now _ _ (only_in Q Memory (line (codes "memory")) ([], inl refl, refl))
    c.say_memory-in-Err.ensures
