use Rattle.std.proofs.Common.{length, subst, SFits, rules}
use Rattle.std.specs.Int.{w64}
use Rattle.std.proofs.lemmas.Int.{to_z-of_z}
use Rattle.stability.proofs.number_sets.Cited.{below_from}
use Rattle.stability.specs.abb_search.declared.outcome.Found.TheVariants as founds
use Rattle.stability.specs.report_rules.Spot.{valued}
use Rattle.stability.specs.declared.outcome.RangeFault.TheVariants.{NotBest, Spent, Past, PastCost}
use Rattle.stability.specs.Refusal.{IsRefusal}
use Rattle.network_commands.specs.studio_rules.Ending.{Tells}
use Rattle.network_commands.specs.studio_rules.Printed.{OneAnswer}
use Rattle.network_commands.specs.studio_rules.declared.status.Status.TheVariants as statuses
use Rattle.network_commands.proofs.command_files.Cited.{Ends-map, Tells-map, Tells-memory, only_in}
use Rattle.network_commands.specs.studio_rules.Stable.{not_best_lines, past_cost_lines, SpotWork}
use Rattle.stability_commands.specs.Beyond.{StopSays}
use Rattle.stability_commands.proofs.Told.{not_best_told, past_cost_told, spent_told, past_told}
use Rattle.stability_commands.proofs.stable.say_refusal.Goals as goal

pub say_not_best-requires : goal.say_not_best-requires
say_not_best-requires g c =
    let r = c.requires.refusal in
    let n = c.in-NotBest.cheaper in
    let h : IsRefusal c.args.problem.now c.args.spot r.0 r.1 (NotBest n) =
    subst (IsRefusal c.args.problem.now c.args.spot r.0 r.1) c.in-NotBest.is r.2 in
    below_from (length c.args.problem.now.units) n.units h.feasible.structure.s3

pub returns-in-NotBest : goal.returns-in-NotBest
returns-in-NotBest g c = λ w budget is.
    let p = c.args.problem.now in
    let n = c.in-NotBest.cheaper in
    let h : IsRefusal p c.args.spot w budget (NotBest n) =
    subst (IsRefusal p c.args.spot w budget) c.in-NotBest.is is in
    Ends-map _ _ c.args.out.now _ _
    (Tells-map (OneAnswer statuses.NotBest (not_best_lines p n))
    (SpotWork c.args.spot budget p w) (not_best_told p c.args.spot w budget n h))
    c.say_not_best.ensures

pub returns-in-PastCost : goal.returns-in-PastCost
returns-in-PastCost g c = λ w budget is.
    let p = c.args.problem.now in
    let v = c.in-PastCost.value in
    let at = c.in-PastCost.at in
    let fits : SFits w64 v = search rules in
    let h : IsRefusal p c.args.spot w budget (PastCost v at) =
    subst (IsRefusal p c.args.spot w budget) c.in-PastCost.is is in
    Ends-map _ _ c.args.out.now _ _
    (Tells-map (OneAnswer statuses.Past (past_cost_lines v at))
    (SpotWork c.args.spot budget p w) (past_cost_told p c.args.spot w budget v at h.0 h.1 h.2))
    (simp to_z-of_z at c.say_past_cost.ensures)

pub returns-in-Memory : goal.returns-in-Memory
returns-in-Memory g c = λ w budget is.
    Ends-map _ _ c.args.out.now _ _
    (only_in (Tells (SpotWork c.args.spot budget c.args.problem.now w)) statuses.Memory _
    (Tells-memory (SpotWork c.args.spot budget c.args.problem.now w))) c.say_memory.ensures

pub say_stopped-requires : goal.say_stopped-requires
say_stopped-requires g c =
    let r = c.requires.refusal in
    let fits : SFits w64 c.in-Spent.value = search rules in
    let h : IsRefusal c.args.problem.now c.args.spot r.0 r.1
    (Spent c.in-Spent.value c.in-Spent.best c.in-Spent.tree c.in-Spent.next
    c.in-Spent.options) =
    subst (IsRefusal c.args.problem.now c.args.spot r.0 r.1) c.in-Spent.is r.2 in
    simp to_z-of_z (record { known = c.requires.known; allowed = h.0; found = (r.1, h.2) })

pub say_stopped-requires-in-Past-clause-found : goal.say_stopped-requires-in-Past-clause-found
say_stopped-requires-in-Past-clause-found g c =
    let r = c.requires.refusal in
    let fits : SFits w64 c.in-Past.value = search rules in
    let h : IsRefusal c.args.problem.now c.args.spot r.0 r.1
    (Past c.in-Past.value c.in-Past.best c.in-Past.tree c.in-Past.node c.in-Past.nonbasic
    c.in-Past.place) =
    subst (IsRefusal c.args.problem.now c.args.spot r.0 r.1) c.in-Past.is r.2 in
    simp to_z-of_z (r.1, h.2)

pub returns-in-Spent : goal.returns-in-Spent
returns-in-Spent g c = λ w budget is.
    let p = c.args.problem.now in
    let k = c.args.spot in
    let v = c.in-Spent.value in
    let fits : SFits w64 v = search rules in
    let h : IsRefusal p k w budget
    (Spent v c.in-Spent.best c.in-Spent.tree c.in-Spent.next c.in-Spent.options) =
    subst (IsRefusal p k w budget) c.in-Spent.is is in
    let valid = c.valued_is_valid.ensures p c.is_valid.ensures.valid k c.requires.known v h.0 in
    Ends-map _ _ c.args.out.now _ _
    (Tells-map
    (StopSays (valued p k v) v
    (founds.Spent c.in-Spent.best c.in-Spent.tree c.in-Spent.next c.in-Spent.options))
    (SpotWork k budget p w)
    (spent_told p k w budget c.accepted_is_optimal.ensures v valid h.0 h.1 c.in-Spent.best
    c.in-Spent.tree c.in-Spent.next c.in-Spent.options h.2))
    (simp to_z-of_z at c.say_stopped.ensures)

pub returns-in-Past : goal.returns-in-Past
returns-in-Past g c = λ w budget is.
    let p = c.args.problem.now in
    let k = c.args.spot in
    let v = c.in-Past.value in
    let fits : SFits w64 v = search rules in
    let h : IsRefusal p k w budget
    (Past v c.in-Past.best c.in-Past.tree c.in-Past.node c.in-Past.nonbasic c.in-Past.place) =
    subst (IsRefusal p k w budget) c.in-Past.is is in
    let valid = c.valued_is_valid.ensures p c.is_valid.ensures.valid k c.requires.known v h.0 in
    Ends-map _ _ c.args.out.now _ _
    (Tells-map
    (StopSays (valued p k v) v
    (founds.Past c.in-Past.best c.in-Past.tree c.in-Past.node c.in-Past.nonbasic
    c.in-Past.place)) (SpotWork k budget p w)
    (past_told p k w budget c.accepted_is_optimal.ensures v valid h.0 h.1 c.in-Past.best
    c.in-Past.tree c.in-Past.node c.in-Past.nonbasic c.in-Past.place h.2))
    (simp to_z-of_z at c.say_stopped-in-Past.ensures)
