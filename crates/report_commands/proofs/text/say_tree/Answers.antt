use Rattle.std.proofs.Common.{◌≡◌, ◌∷◌, [], Ok, Err, refl, inl, inr, subst, ℕ, List, codes}
use Rattle.rank_text.specs.problem_rules.Problem.{Problem}
use Rattle.rank_text.specs.branch_tree.View.{claim_of}
use Rattle.rank_text.specs.tree_reading.Said.{said_by}
use Rattle.rank_text.specs.tree_text_rules.Read.{read_headed_text}
use Rattle.network_commands.specs.studio_rules.Lines.{line}
use Rattle.network_commands.specs.studio_rules.TreeFile.{tree_fault_line}
use Rattle.network_commands.specs.studio_rules.HeadedFile.{HeadedSays}
use Rattle.network_commands.specs.studio_rules.Report.{ReportWork}
use Rattle.network_commands.specs.studio_rules.Json.{JsonWork}
use Rattle.network_commands.specs.studio_rules.Network.{OnNetwork}
use Rattle.network_commands.specs.studio_rules.Graph.{NetworkGraphWork}
use Rattle.network_commands.specs.studio_rules.Ending.{Ends, Tells, Only, OrMemory}
use Rattle.network_commands.specs.studio_rules.declared.status.Status.{Status}
use Rattle.network_commands.specs.studio_rules.declared.status.Status.TheVariants.{BadTree, Memory}
use Rattle.network_commands.proofs.command_files.Cited.{Ends-map, Tells-map, only_in}
use Rattle.network_commands.proofs.command_files.Cited.{only_or_memory_in, one_line}
use Rattle.report_commands.specs.Works.{TreeWork}
use Rattle.report_commands.proofs.Works.{as_report, as_json, as_graph}
use Rattle.report_commands.proofs.text.say_tree.Goals as goal

pub returns-in-Ok-of : goal.returns-in-Ok-of
returns-in-Ok-of g c name =
    let form = c.args.form in
    let p = c.args.problem.now in
    let file = c.args.bytes.now in
    let t = said_by c.in-Ok.text in
    let ms = c.in-Report.measures in
    Ends-map (Tells (ReportWork ms.now p t)) (Tells (HeadedSays (TreeWork form) name p file))
    c.args.out.now _ _
    (Tells-map (ReportWork ms.now p t) (HeadedSays (TreeWork form) name p file)
    (λ s lines h. inr (
      t,
      (c.requires, c.in-Ok.ensures.read),
      as_report form ms c.in-Report.is p t s lines h,
    )))
    (subst (λ (q : Problem). Ends (Tells (ReportWork ms.now q t)) c.args.out.now
    c.say_reported.new.out c.say_reported.result) c.of-site.ensures c.say_reported.ensures)

pub returns-in_default : goal.returns-in_default
returns-in_default g c name =
    let Q : Status → List ℕ → Type 0 =
    Tells (HeadedSays (TreeWork c.args.form) name c.args.problem.now c.args.bytes.now) in
    Ends-map _ Q c.args.out.now _ _ (only_in Q Memory (line (codes "memory")) ([], inl refl, refl))
    c.say_memory.ensures

pub returns-in-Json : goal.returns-in-Json
returns-in-Json g c name =
    let form = c.args.form in
    let p = c.args.problem.now in
    let file = c.args.bytes.now in
    let t = said_by c.in-Ok.text in
    Ends-map (Tells (JsonWork p t)) (Tells (HeadedSays (TreeWork form) name p file))
    c.args.out.now _ _
    (Tells-map (JsonWork p t) (HeadedSays (TreeWork form) name p file)
    (λ s lines h. inr (
      t,
      (c.requires, c.in-Ok.ensures.read),
      as_json form c.in-Json.is p t s lines h,
    ))) c.say_stated.ensures

pub returns-in-Graph : goal.returns-in-Graph
returns-in-Graph g c name =
    let form = c.args.form in
    let p = c.args.problem.now in
    let file = c.args.bytes.now in
    let t = said_by c.in-Ok.text in
    let claim = claim_of c.in-Ok.text.claim in
    let tree = c.in-Ok.text.tree in
    let scene = c.in-Graph.scene in
    let work = NetworkGraphWork scene in
    Ends-map (Tells (OnNetwork work p claim tree)) (Tells (HeadedSays (TreeWork form) name p file))
    c.args.out.now _ _
    (Tells-map (OnNetwork work p claim tree) (HeadedSays (TreeWork form) name p file)
    (λ s lines h. inr (
      t,
      (c.requires, c.in-Ok.ensures.read),
      as_graph form scene c.in-Graph.is p t s lines h,
    ))) c.say_claimed.ensures

pub returns-in-Err-At : goal.returns-in-Err-At
returns-in-Err-At g c name =
    let p = c.args.problem.now in
    let Q : Status → List ℕ → Type 0 =
    Tells (HeadedSays (TreeWork c.args.form) name p c.args.bytes.now) in
    let read : read_headed_text p c.args.bytes.now ≡ Err (c.in-Err-At.line, c.in-Err-At.kind) =
    (rw c.in-Err-At.field-0-is at c.in-Err-At.ensures.fault) in
    let told : List ℕ = tree_fault_line c.in-Err-At.line c.in-Err-At.kind in
    let said : Ends (OrMemory (Only BadTree (line told))) c.args.out.now c.say_tree_fault.new.out
    c.say_tree_fault.result = c.say_tree_fault.ensures in
    Ends-map (OrMemory (Only BadTree (line told))) Q c.args.out.now c.say_tree_fault.new.out
    c.say_tree_fault.result
    (only_or_memory_in Q BadTree (line told) (
      told ∷ [],
      inl (c.requires, (c.in-Err-At.line, c.in-Err-At.kind, read, refl)),
      one_line told,
    ) ([], inl refl, refl))
    said

pub returns-in-Err-Memory : goal.returns-in-Err-Memory
returns-in-Err-Memory g c name =
    let Q : Status → List ℕ → Type 0 =
    Tells (HeadedSays (TreeWork c.args.form) name c.args.problem.now c.args.bytes.now) in
    Ends-map _ Q c.args.out.now _ _ (only_in Q Memory (line (codes "memory")) ([], inl refl, refl))
    c.say_memory-in-Err-Memory.ensures
