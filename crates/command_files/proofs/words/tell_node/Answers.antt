use Rattle.std.proofs.Common.{◌≡◌, ◌∙◌, inl}
use Rattle.studio_words.specs.studio_rules.Lines.{line}
use Rattle.studio_words.specs.studio_rules.RefusalWords.{node_line}
use Rattle.studio_words.specs.studio_rules.Ending.{Only, OrMemory}
use Rattle.studio_words.specs.studio_rules.declared.status.Status.TheVariants.{BadClaim}
use Rattle.command_files.proofs.Ending.{Ends-map}
use Rattle.command_files.proofs.words.tell_node.Goals as goal

pub returns-in-Ok : goal.returns-in-Ok
returns-in-Ok g c =
    let told = line (node_line c.args.node c.args.why) in
    let text : c.as_bytes.result.now ≡ told = c.as_bytes.ensures.value ∙ c.in-Ok.ensures in
    Ends-map (Only BadClaim c.as_bytes.result.now) (OrMemory (Only BadClaim told)) c.args.out.now
    c.tell.new.out _ (λ s t said. inl (said.0, said.1 ∙ text)) c.tell.ensures
