use Rattle.std.proofs.Common.{◌∙◌, [], length, subst, sym, refl, inl, ℕ, List, codes}
use Rattle.stability.specs.number_sets.Sets.{AreBelow}
use Rattle.stability.proofs.number_sets.Cited.{below_from}
use Rattle.stability.specs.problem_rules.Problem.{Problem}
use Rattle.stability_commands.specs.Table.{IsTableFault}
use Rattle.stability_commands.specs.declared.cells.TableFault.TheVariants as faults
use Rattle.network_commands.specs.studio_rules.Lines.{line}
use Rattle.network_commands.specs.studio_rules.Stable.{not_best_lines}
use Rattle.network_commands.specs.studio_rules.StableTable.{RangesWork}
use Rattle.network_commands.specs.studio_rules.Printed.{OneAnswer}
use Rattle.network_commands.specs.studio_rules.Ending.{Ends, Tells}
use Rattle.network_commands.specs.studio_rules.declared.status.Status.{Status}
use Rattle.network_commands.specs.studio_rules.declared.status.Status.TheVariants.{Done, NotBest}
use Rattle.network_commands.specs.studio_rules.declared.status.Status.TheVariants.{Memory}
use Rattle.network_commands.proofs.command_files.Cited.{Ends-map, Tells-map, only_in}
use Rattle.stability_commands.proofs.RangeRows.{ranges_not_best}
use Rattle.stability_commands.proofs.ranges.say_table.Goals as goal

pub returns-in-Ok : goal.returns-in-Ok
returns-in-Ok g c =
    let Q : Status → List ℕ → Type 0 =
    Tells (RangesWork c.args.effort.budget c.args.site.now c.args.network.now) in
    let told = c.in-Ok.ensures.table in
    Ends-map _ Q c.args.out.now _ _
    (only_in Q Done c.deref.result.now (told.0, told.1, c.deref.ensures.value ∙ told.2))
    c.say_text.ensures

pub say_not_best-requires : goal.say_not_best-requires
say_not_best-requires g c =
    let p = c.args.site.now in
    let n = c.in-Err-NotBest.cheaper in
    let h : IsTableFault p c.args.network.now (faults.NotBest n) =
    subst (IsTableFault p c.args.network.now) c.in-Err-NotBest.field-0-is
    c.in-Err-NotBest.ensures.fault in
    subst (λ (q : Problem). AreBelow (length q.units) n.units) (sym c.problem.ensures.same)
    (below_from (length p.units) n.units h.feasible.structure.s3)

pub returns-in-Err-NotBest : goal.returns-in-Err-NotBest
returns-in-Err-NotBest g c =
    let p = c.args.site.now in
    let w = c.args.network.now in
    let n = c.in-Err-NotBest.cheaper in
    let h : IsTableFault p w (faults.NotBest n) =
    subst (IsTableFault p w) c.in-Err-NotBest.field-0-is c.in-Err-NotBest.ensures.fault in
    Ends-map _ _ c.args.out.now _ _
    (Tells-map (OneAnswer NotBest (not_best_lines p n)) (RangesWork c.args.effort.budget p w)
    (ranges_not_best c.args.effort.budget p w n h))
    (subst
    (λ (q : Problem). Ends (Tells (OneAnswer NotBest (not_best_lines q n))) c.args.out.now
    c.say_not_best.new.out c.say_not_best.result) c.problem.ensures.same c.say_not_best.ensures)

pub returns-in-Err-Memory : goal.returns-in-Err-Memory
returns-in-Err-Memory g c =
    let Q : Status → List ℕ → Type 0 =
    Tells (RangesWork c.args.effort.budget c.args.site.now c.args.network.now) in
    Ends-map _ Q c.args.out.now _ _ (only_in Q Memory (line (codes "memory")) ([], inl refl, refl))
    c.say_memory.ensures
