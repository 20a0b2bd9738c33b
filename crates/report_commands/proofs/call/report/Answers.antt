use Rattle.std.proofs.Common.{◌≡◌, ◌∙◌, [], refl, inl, sym, subst, ap, ℕ, List, codes}
use Rattle.rank_text.specs.problem_rules.Problem.{Problem}
use Rattle.json_text.specs.report_rules.Measures.{Measures, measures_of}
use Rattle.network_commands.specs.studio_rules.Lines.{line}
use Rattle.network_commands.specs.studio_rules.Reading.{GivesProblem, TwoTextsSay}
use Rattle.network_commands.specs.studio_rules.RankReport.{RankReportWork, ReportsOn}
use Rattle.network_commands.specs.studio_rules.Report.{ReportWork}
use Rattle.network_commands.specs.studio_rules.TextFile.{OnEither, EitherSays}
use Rattle.network_commands.specs.studio_rules.Ending.{Ends, Says}
use Rattle.network_commands.specs.studio_rules.declared.status.Status.{Status}
use Rattle.network_commands.specs.studio_rules.declared.status.Status.TheVariants.{Memory}
use Rattle.network_commands.proofs.command_files.Cited.{Ends-map, Ends-from, only_in, has_type}
use Rattle.network_commands.proofs.command_files.Cited.{on_texts-faults}
use Rattle.network_commands.proofs.command_files.Cited.{on_texts-work, keeps_through}
use Rattle.report_commands.proofs.call.report.Goals as goal

-- what is said of the second file, by the bytes of the first
abbrev Judged : List ℕ → List ℕ → Problem → List ℕ → Status → List (List ℕ) → Type 0
Judged name bytes =
    EitherSays (ReportWork (measures_of bytes)) (RankReportWork (measures_of bytes)) name

pub returns-in-Ok-of-clause-ends : goal.returns-in-Ok-of-clause-ends
returns-in-Ok-of-clause-ends g c =
    let old = g.F.Shelf.state c.args.shelf.now in
    let mid = g.F.Shelf.state c.plant_of.new.shelf in
    let new = g.F.Shelf.state c.say_headed.new.shelf in
    let file = c.args.file.now in
    let name = c.args.text.now in
    let p = c.in-Ok.problem in
    let bytes = c.in-Ok.bytes.items in
    let ms : Measures = c.in-Ok-of.measures in
    let is : ms ≡ measures_of bytes =
    c.in-Ok-of.ensures ∙ ap measures_of c.deref.ensures.value in
    let Says-by : Measures → Status → List ℕ → Type 0 = λ m.
    Says (OnEither (ReportWork m) (RankReportWork m) mid.held name p) (λ other. other ≡ name) mid
    new in
    Ends-from (Says-by (measures_of bytes)) (TwoTextsSay ReportsOn file name old new)
    c.args.out.now _ _ _ c.in-Ok.ensures.silent
    (on_texts-work (Judged name) file name old mid new p bytes c.in-Ok.ensures.held
    c.in-Ok.ensures.problem (c.plant_of.ensures.keeps.held name) c.plant_of.ensures.keeps.later)
    (subst (λ (m : Measures). Ends (Says-by m) c.plant_of.new.out c.say_headed.new.out
    c.say_headed.result) is c.say_headed.ensures.ends)

pub returns-in_default-clause-ends : goal.returns-in_default-clause-ends
returns-in_default-clause-ends g c =
    let old = g.F.Shelf.state c.args.shelf.now in
    let new = g.F.Shelf.state c.plant_of.new.shelf in
    let Q : Status → List ℕ → Type 0 =
    TwoTextsSay ReportsOn c.args.file.now c.args.text.now old new in
    Ends-from _ Q c.args.out.now _ _ _ c.in-Ok.ensures.silent
    (only_in Q Memory (line (codes "memory")) ([], inl refl, refl)) c.say_memory.ensures

pub returns-in-Err-clause-ends : goal.returns-in-Err-clause-ends
returns-in-Err-clause-ends g c =
    let old = g.F.Shelf.state c.args.shelf.now in
    let new = g.F.Shelf.state c.plant_of.new.shelf in
    let Q : Status → List ℕ → Type 0 =
    TwoTextsSay ReportsOn c.args.file.now c.args.text.now old new in
    Ends-map _ Q c.args.out.now _ _
    (on_texts-faults (Judged c.args.text.now) c.args.file.now c.args.text.now old new)
    c.in-Err.ensures.told

pub returns-in-Ok-of-clause-keeps : goal.returns-in-Ok-of-clause-keeps
returns-in-Ok-of-clause-keeps g c =
    keeps_through _ _ _ c.in-Ok.ensures.keeps c.say_headed.ensures.keeps
