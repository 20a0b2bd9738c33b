use Rattle.std.proofs.Common.{◌∷◌, [], refl, inl, ℕ, List, codes}
use Rattle.rank_text.specs.rank_rules.Ranked.{NetworkIsFault}
use Rattle.rank_text.specs.rank_rules.Text.{ranking_of}
use Rattle.network_commands.specs.studio_rules.Lines.{line}
use Rattle.network_commands.specs.studio_rules.RankWords.{network_line}
use Rattle.network_commands.specs.studio_rules.Ending.{Ends, Tells, Only, OrMemory}
use Rattle.network_commands.specs.studio_rules.declared.status.Status.{Status}
use Rattle.network_commands.specs.studio_rules.declared.status.Status.TheVariants.{BadClaim, Memory}
use Rattle.network_commands.proofs.command_files.Cited.{Ends-map, Ends-told, only_in}
use Rattle.network_commands.proofs.command_files.Cited.{only_or_memory_in, one_line}
use Rattle.report_commands.specs.Works.{VerdictWork, RankLines}
use Rattle.report_commands.proofs.Works.{done, refused}
use Rattle.report_commands.proofs.ranking.say_judged.Goals as goal

pub returns-in-Ok : goal.returns-in-Ok
returns-in-Ok g c =
    let reader = c.args.reader in
    let p = c.args.site.now in
    let t = c.args.ranking.now in
    let verdict = c.in-Ok.verdict in
    Ends-told c.text_of.result (λ v. v.items) (VerdictWork reader p t)
    (RankLines reader p (ranking_of t) verdict) c.args.out.now _ _
    (λ lines says. done reader p t verdict lines c.in-Ok.ensures.verdict says) c.text_of.ensures
    c.say_told.ensures

pub returns-in-Err-Network : goal.returns-in-Err-Network
returns-in-Err-Network g c =
    let reader = c.args.reader in
    let p = c.args.site.now in
    let t = c.args.ranking.now in
    let Q : Status → List ℕ → Type 0 = Tells (VerdictWork reader p t) in
    let fails : NetworkIsFault p (ranking_of t) c.in-Err-Network.number c.in-Err-Network.why =
    (rw c.in-Err-Network.field-0-is at c.in-Err-Network.ensures.unjudged) in
    let told : List ℕ = network_line c.in-Err-Network.number c.in-Err-Network.why in
    let said : Ends (OrMemory (Only BadClaim (line told))) c.args.out.now c.say_network.new.out
    c.say_network.result = c.say_network.ensures in
    Ends-map (OrMemory (Only BadClaim (line told))) Q c.args.out.now c.say_network.new.out
    c.say_network.result
    (only_or_memory_in Q BadClaim (line told) (
      told ∷ [],
      refused reader p t c.in-Err-Network.number c.in-Err-Network.why fails,
      one_line told,
    ) ([], inl refl, refl))
    said

pub returns-in-Err-Memory : goal.returns-in-Err-Memory
returns-in-Err-Memory g c =
    let Q : Status → List ℕ → Type 0 =
    Tells (VerdictWork c.args.reader c.args.site.now c.args.ranking.now) in
    Ends-map _ Q c.args.out.now _ _ (only_in Q Memory (line (codes "memory")) ([], inl refl, refl))
    c.say_memory.ensures
