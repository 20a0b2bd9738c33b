use Rattle.std.proofs.Common.{ℕ, List, refl, ap, length}
use Rattle.tree_text.specs.number_sets.Sets.{has}
use Rattle.command_files.specs.studio_rules.Lines.{text_of}
use Rattle.command_files.specs.studio_rules.Ending.{Tells}
use Rattle.command_files.specs.studio_rules.declared.status.Status.TheVariants.{Done}
use Rattle.command_files.proofs.Cited.{Ends-map, only_or_memory_in, Tells-memory}
use Rattle.command_files.specs.studio_rules.Summary.{CountsMaximal, SummarySays, summary_lines}
use Rattle.searches.proofs.summary.say_summary.Goals as goal

pub returns : goal.returns
returns g c =
    let p = c.args.problem.now in
    let w = c.args.network.now in
    let tree = c.args.tree.now in
    let feasible = c.requires.solves.feasible w refl in
    let counts : CountsMaximal p c.maximal_count-most.result =
    c.maximal_count-most.ensures (has w.units) feasible.structure in
    let lines : List (List ℕ) =
    summary_lines p c.maximal_count-most.result w (length c.nodes.result.now) in
    Ends-map _ _ c.args.out.now _ _
    (only_or_memory_in (Tells (SummarySays p)) Done (text_of lines) (
      lines,
      (
        refl,
        (
          c.maximal_count-most.result,
          w,
          tree,
          counts,
          c.requires.solves,
          ap (λ ts. summary_lines p c.maximal_count-most.result w (length ts)) c.nodes.ensures,
        ),
      ),
      refl,
    ) (Tells-memory (SummarySays p)))
    (c.say_made.ensures lines c.summary.ensures)
