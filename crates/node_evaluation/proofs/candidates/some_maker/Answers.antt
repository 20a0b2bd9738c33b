use Rattle.std.proofs.Common.{List, ℕ, sym, ap, ◌∙◌}
use Rattle.structure_list.specs.number_sets.Sets.{has}
use Rattle.structure_list.proofs.number_sets.Cited.{first_had, first_none}
use Rattle.structure_list.specs.pgraph.Tables.{shape}
use Rattle.structure_list.specs.pgraph.View.{node_of}
use Rattle.node_evaluation.proofs.BranchChoiceLemmas.{none_free}
use Rattle.node_evaluation.proofs.BranchChoiceLemmas.{decisive_from}
use Rattle.node_evaluation.proofs.candidates.some_maker.Goals as goal

pub unreachable-requires : goal.unreachable-requires
unreachable-requires c =
    none_free (shape c.args.graph.now) (node_of c.args.node.now) c.args.x
    (sym c.options-base.ensures.free
    ∙ first_none c.options-base.result.1 (sym c.least.ensures ∙ c.in-None.is)) c.requires

pub returns : goal.returns
returns c =
    let u = c.in-Some.u in
    let here = first_had c.options-base.result.1 u (sym c.least.ensures ∙ c.in-Some.is) in
    decisive_from (shape c.args.graph.now) (node_of c.args.node.now) c.args.x u c.requires.needed
    (sym (ap (λ (xs : List ℕ). has xs u) c.options-base.ensures.free) ∙ here)
