use Rattle.std.proofs.Common.{◌∷◌, [], false, refl, inl, inr, ℕ, List, codes}
use Rattle.rank_text.specs.rank_rules.Networks.{ArePassing}
use Rattle.rank_text.specs.rank_rules.Ranked.{NetworkIsFault, NodeIsFault}
use Rattle.rank_text.specs.rank_rules.Text.{ranking_of}
use Rattle.searches.specs.studio_rules.RankWords.{network_line, rank_node_line}
use Rattle.searches.specs.studio_rules.Lines.{line}
use Rattle.searches.specs.studio_rules.Rankcheck.{RankcheckWork}
use Rattle.searches.specs.studio_rules.Ending.{Tells}
use Rattle.searches.specs.studio_rules.declared.status.Status.{Status}
use Rattle.searches.specs.studio_rules.declared.status.Status.TheVariants.{Done, Refused, Memory}
use Rattle.searches.proofs.command_files.Cited.{Ends-map, only_in, only_or_memory_in, one_line}
use Rattle.rank_commands.proofs.judge.say_judged.Goals as goal

pub returns-in-Err-Network : goal.returns-in-Err-Network
returns-in-Err-Network g c =
    let Q : Status → List ℕ → Type 0 = Tells (RankcheckWork c.args.site.now c.args.text.now) in
    let fails : NetworkIsFault c.args.site.now (ranking_of c.args.text.now) c.in-Err-Network.number
    c.in-Err-Network.why =
    (rw c.in-Err-Network.field-0-is at c.in-Err-Network.ensures.refused) in
    let told : List ℕ = network_line c.in-Err-Network.number c.in-Err-Network.why in
    Ends-map _ Q c.args.out.now _ _
    (only_or_memory_in Q Refused (line told) (
      told ∷ [],
      inl (c.in-Err-Network.number, c.in-Err-Network.why, fails, refl),
      one_line told,
    )
    ([], inl refl, refl))
    c.say_network.ensures

pub returns-in-Err-Node : goal.returns-in-Err-Node
returns-in-Err-Node g c =
    let Q : Status → List ℕ → Type 0 = Tells (RankcheckWork c.args.site.now c.args.text.now) in
    let p = c.args.site.now in
    let t = c.args.text.now in
    let refuses : ArePassing t.distinct p [] t.networks
    × NodeIsFault false p (ranking_of t) c.in-Err-Node.node c.in-Err-Node.why =
    (rw c.in-Err-Node.field-0-is at c.in-Err-Node.ensures.refused) in
    let told : List ℕ = rank_node_line c.in-Err-Node.node c.in-Err-Node.why in
    Ends-map _ Q c.args.out.now _ _
    (only_or_memory_in Q Refused (line told) (
      told ∷ [],
      inr (refuses.0, (c.in-Err-Node.node, c.in-Err-Node.why, refuses.1, refl)),
      one_line told,
    )
    ([], inl refl, refl))
    c.say_node.ensures

pub returns-in-Ok : goal.returns-in-Ok
returns-in-Ok g c =
    let Q : Status → List ℕ → Type 0 = Tells (RankcheckWork c.args.site.now c.args.text.now) in
    Ends-map _ Q c.args.out.now _ _
    (only_in Q Done (line (codes "accepted"))
    (codes "accepted" ∷ [], (c.in-Ok.ensures.ranked, refl), one_line (codes "accepted")))
    c.say.ensures

pub returns-in-Err-Memory : goal.returns-in-Err-Memory
returns-in-Err-Memory g c =
    let Q : Status → List ℕ → Type 0 = Tells (RankcheckWork c.args.site.now c.args.text.now) in
    Ends-map _ Q c.args.out.now _ _ (only_in Q Memory (line (codes "memory")) ([], inl refl, refl))
    c.say_memory.ensures
