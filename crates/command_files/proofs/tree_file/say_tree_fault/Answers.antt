use Rattle.std.proofs.Common.{◌∙◌, inl, inr}
use Rattle.studio_words.specs.studio_rules.Lines.{line}
use Rattle.studio_words.specs.studio_rules.TreeFile.{tree_fault_line}
use Rattle.studio_words.specs.studio_rules.Ending.{Only, OrMemory}
use Rattle.studio_words.specs.studio_rules.declared.status.Status.TheVariants.{BadTree}
use Rattle.command_files.proofs.Ending.{Ends-map}
use Rattle.command_files.proofs.tree_file.say_tree_fault.Goals as goal

pub returns-in-Ok : goal.returns-in-Ok
returns-in-Ok g c =
    Ends-map (Only BadTree c.as_bytes.result.now)
    (OrMemory (Only BadTree (line (tree_fault_line c.args.number c.args.kind)))) c.args.out.now _ _
    (λ s t p. inl (p.0, p.1 ∙ c.as_bytes.ensures.value ∙ c.in-Ok.ensures)) c.tell.ensures

pub returns : goal.returns
returns g c =
    Ends-map _ (OrMemory (Only BadTree (line (tree_fault_line c.args.number c.args.kind))))
    c.args.out.now _ _ (λ s t p. inr p) c.say_memory.ensures
