use Rattle.std.proofs.Common.{sym, subst, inl}
use Rattle.tree_text.specs.tree_rules.Claim as claims
use Rattle.tree_text.specs.tree_rules.Claim.{Network}
use Rattle.tree_text.specs.tree_rules.Accepted.{first_node}
use Rattle.command_files.specs.studio_rules.Ending.{Tells}
use Rattle.command_files.specs.studio_rules.declared.status.Status.{Status}
use Rattle.command_files.specs.studio_rules.declared.status.Status.TheVariants.{Memory}
use Rattle.command_files.proofs.Cited.{Ends-map, Tells-map, Tells-memory, only_in}
use Rattle.headed_search.specs.abb_search.declared.outcome.Found.{Found}
use Rattle.headed_search.specs.abb_search.Found.{IsFound}
use Rattle.tree_text.specs.tree_rules.Proved.{IsProved}
use Rattle.searches.specs.Found.{FoundSays}
use Rattle.command_files.specs.studio_rules.Summary.{SummarySays, SummaryWork}
use Rattle.searches.proofs.FoundTexts.{solves, found_sums}
use Rattle.searches.proofs.summary.say_summed.Goals as goal

pub say_summary-requires-clause-solves : goal.say_summary-requires-clause-solves
say_summary-requires-clause-solves g c =
    let p = c.args.problem.now in
    let proved : IsProved p first_node (claims.network c.in-Solved.network) c.in-Solved.tree =
    subst (λ (f : Found). IsFound p first_node c.args.effort.budget f) c.in-Solved.is
    c.search_all.ensures in
    solves c.accepted_is_optimal.ensures p c.is_valid.ensures.valid
    (claims.network c.in-Solved.network) c.in-Solved.tree proved

pub returns-in-Solved : goal.returns-in-Solved
returns-in-Solved g c =
    let p = c.args.problem.now in
    Ends-map _ _ c.args.out.now _ _
    (Tells-map (SummarySays p) (SummaryWork c.args.effort.budget p)
    (λ s lines h. subst (λ (t : Status). SummaryWork c.args.effort.budget p t lines) (sym h.0)
    (inl h.1))) c.say_summary.ensures

pub say_found-requires : goal.say_found-requires
say_found-requires g c = (c.args.effort.budget, c.search_all.ensures)

pub returns : goal.returns
returns g c =
    let p = c.args.problem.now in
    let f : Found = c.search_all.result in
    Ends-map _ _ c.args.out.now _ _ (Tells-map (FoundSays p f) (SummaryWork c.args.effort.budget p)
    (found_sums c.accepted_is_optimal.ensures p c.is_valid.ensures.valid c.args.effort.budget f
    c.search_all.ensures c.in_default-search_all.not-Solved)) c.say_found.ensures

pub returns-in_default : goal.returns-in_default
returns-in_default g c =
    Ends-map _ _ c.args.out.now _ _
    (only_in (Tells (SummaryWork c.args.effort.budget c.args.problem.now)) Memory _
    (Tells-memory (SummaryWork c.args.effort.budget c.args.problem.now))) c.say_memory.ensures
