use Rattle.std.proofs.Common.{◌≡◌, ◌∙◌, inl, ℕ, List}
use Rattle.searches.specs.studio_rules.RankWords.{rank_node_line}
use Rattle.searches.specs.studio_rules.Lines.{line}
use Rattle.searches.specs.studio_rules.Ending.{Only, OrMemory}
use Rattle.searches.specs.studio_rules.declared.status.Status.{Status}
use Rattle.searches.specs.studio_rules.declared.status.Status.TheVariants.{Refused}
use Rattle.searches.proofs.command_files.Cited.{Ends-map}
use Rattle.rank_commands.proofs.judge.say_node.Goals as goal

pub returns-in-Ok : goal.returns-in-Ok
returns-in-Ok g c =
    let told : List ℕ = line (rank_node_line c.args.node c.args.why) in
    let Q : Status → List ℕ → Type 0 = OrMemory (Only Refused told) in
    let text : c.as_bytes.result.now ≡ told = c.as_bytes.ensures.value ∙ c.in-Ok.ensures in
    Ends-map (Only Refused c.as_bytes.result.now) Q c.args.out.now _ _
    (λ s t said. inl (said.0, said.1 ∙ text)) c.say.ensures
