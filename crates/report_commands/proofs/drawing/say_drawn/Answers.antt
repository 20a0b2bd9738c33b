use Rattle.std.proofs.Common.{◌≡◌, ◌∷◌, [], refl, inl, subst, Bool, ℕ, List, codes}
use Rattle.rank_text.specs.tree_rules.Claim.{Network}
use Rattle.rank_text.specs.rank_rules.Networks.{ArePassing, IsFirstOff}
use Rattle.rank_text.specs.rank_rules.Ranked.{NetworkIsFault}
use Rattle.rank_text.specs.rank_rules.Text.{ranking_of}
use Rattle.network_commands.specs.studio_rules.RankGraph.{RankGraphWork}
use Rattle.network_commands.specs.studio_rules.RankWords.{network_line}
use Rattle.network_commands.specs.studio_rules.Lines.{line}
use Rattle.network_commands.specs.studio_rules.Ending.{Tells}
use Rattle.network_commands.specs.studio_rules.declared.status.Status.{Status}
use Rattle.network_commands.specs.studio_rules.declared.status.Status.TheVariants.{BadClaim}
use Rattle.network_commands.proofs.command_files.Cited.{Ends-map, only_or_memory_in, one_line}
use Rattle.report_commands.proofs.drawing.say_drawn.Goals as goal

pub say_first-requires : goal.say_first-requires
say_first-requires g c =
    let p = c.args.site.now in
    record {
      listed =
          subst (λ (ws : List Network). ArePassing c.args.ranking.now.distinct p [] ws)
          c.networks.ensures
          (subst (λ (d : Bool). ArePassing d p [] c.networks.result.now) c.is_distinct.ensures
          c.in-Ok.ensures.passes);
    }

pub returns-in-Err : goal.returns-in-Err
returns-in-Err g c =
    let p = c.args.site.now in
    let t = c.args.ranking.now in
    let Q : Status → List ℕ → Type 0 = Tells (RankGraphWork c.args.scene p t) in
    let number = c.in-Err.number in
    let why = c.in-Err.why in
    let fails : NetworkIsFault p (ranking_of t) number why =
    subst (λ (ws : List Network). IsFirstOff t.distinct p [] ws number why) c.networks.ensures
    (subst (λ (d : Bool). IsFirstOff d p [] c.networks.result.now number why) c.is_distinct.ensures
    c.in-Err.ensures.fails) in
    let told : List ℕ = network_line number why in
    Ends-map _ Q c.args.out.now _ _
    (only_or_memory_in Q BadClaim (line told)
    (told ∷ [], inl (number, why, fails, refl), one_line told) ([], inl refl, refl))
    c.say_network.ensures
