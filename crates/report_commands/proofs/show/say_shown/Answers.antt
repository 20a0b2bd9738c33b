use Rattle.std.proofs.Common.{sym, subst, arith}
use Rattle.rank_text.specs.problem_rules.Problem.{Problem}
use Rattle.rank_text.specs.tree_rules.Claim.{network}
use Rattle.rank_text.specs.tree_rules.Accepted.{first_node}
use Rattle.searches.specs.abb_search.Found.{IsFound}
use Rattle.json_text.specs.report_rules.Measures.{Measures, measures_of}
use Rattle.network_commands.specs.studio_rules.Ending.{Ends, Tells}
use Rattle.network_commands.specs.studio_rules.Solve.{SolvesBy}
use Rattle.network_commands.specs.studio_rules.Show.{HeadedShows, ShowWork}
use Rattle.network_commands.specs.studio_rules.declared.status.Status.TheVariants.{Memory}
use Rattle.network_commands.proofs.command_files.Cited.{Ends-map, Tells-map, Tells-memory, only_in}
use Rattle.searches.specs.declared.solves_search.Solution.{Solution}
use Rattle.searches.specs.Solution.{IsSolution, certificate_of}
use Rattle.report_commands.specs.Shown.{FoundShows}
use Rattle.report_commands.proofs.Shown.{found_shows, headed_shows}
use Rattle.report_commands.proofs.show.say_shown.Goals as goal

pub say_found-requires : goal.say_found-requires
say_found-requires g c = (
  c.args.effort.budget,
  subst (λ (p : Problem). IsFound p first_node c.args.effort.budget c.in-Plain.found)
      (sym c.of-site.ensures)
      (subst (λ (s : Solution). IsSolution c.args.problem.now c.args.effort.budget s)
      c.in-Plain.is c.search_best-solution.ensures),
)

pub returns-in_default : goal.returns-in_default
returns-in_default g c =
    let work = ShowWork c.args.effort.budget c.args.bytes.now c.args.problem.now in
    Ends-map _ _ c.args.out.now _ _ (only_in (Tells work) Memory _ (Tells-memory work))
    c.say_memory.ensures

pub returns-in_default-of : goal.returns-in_default-of
returns-in_default-of g c =
    let work = ShowWork c.args.effort.budget c.args.bytes.now c.args.problem.now in
    Ends-map _ _ c.args.out.now _ _ (only_in (Tells work) Memory _ (Tells-memory work))
    c.say_memory-in_default-of.ensures

pub returns-in-Plain : goal.returns-in-Plain
returns-in-Plain g c =
    let file = c.args.bytes.now in
    let p = c.args.problem.now in
    let f = c.in-Plain.found in
    Ends-map _ _ c.args.out.now _ _
    (Tells-map (FoundShows (measures_of file) p f) (ShowWork c.args.effort.budget file p)
    (found_shows c.accepted_is_optimal.ensures file p c.is_valid.ensures.valid
    c.args.effort.budget f
    (subst (λ (s : Solution). IsSolution p c.args.effort.budget s) c.in-Plain.is
    c.search_best-solution.ensures)))
    (subst
    (λ (ms : Measures). Ends (Tells (FoundShows ms p f)) c.args.out.now c.say_found.new.out
    c.say_found.result) c.in-Ok.ensures
    (subst
    (λ (q : Problem). Ends (Tells (FoundShows c.in-Ok.measures q f)) c.args.out.now
    c.say_found.new.out c.say_found.result) c.of-site.ensures c.say_found.ensures))

pub say_headed-requires : goal.say_headed-requires
say_headed-requires g c =
    let h = c.in-WithHead.headed in
    let it : SolvesBy c.args.problem.now (network h.network) h.head h.tree =
    subst (λ (s : Solution). IsSolution c.args.problem.now c.args.effort.budget s)
    c.in-WithHead.is c.search_best-solution.ensures in
    let few = it.proved.few in
    record { few = omega (arith, few) }

pub returns : goal.returns
returns g c =
    let file = c.args.bytes.now in
    let p = c.args.problem.now in
    let h = c.in-WithHead.headed in
    let q = certificate_of h.network h.head h.tree in
    Ends-map _ _ c.args.out.now _ _
    (Tells-map (HeadedShows (measures_of file) p q) (ShowWork c.args.effort.budget file p)
    (headed_shows c.args.effort.budget file p q
    (subst (λ (s : Solution). IsSolution p c.args.effort.budget s) c.in-WithHead.is
    c.search_best-solution.ensures)))
    (subst
    (λ (ms : Measures). Ends (Tells (HeadedShows ms p q)) c.args.out.now c.say_headed.new.out
    c.say_headed.result) c.in-Ok.ensures
    (subst
    (λ (r : Problem). Ends (Tells (HeadedShows c.in-Ok.measures r q)) c.args.out.now
    c.say_headed.new.out c.say_headed.result) c.of-site.ensures c.say_headed.ensures))
