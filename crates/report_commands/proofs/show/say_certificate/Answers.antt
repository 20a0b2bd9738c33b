use Rattle.std.proofs.Common.{◌∙◌, [], refl, inl, ap, subst, ℕ, List, codes}
use Rattle.rank_text.specs.tree_rules.Claim.{Claim}
use Rattle.rank_text.specs.tree_rules.Accepted.{Tree}
use Rattle.rank_text.specs.branch_tree.View.{claim_of, tail_of}
use Rattle.network_commands.specs.studio_rules.Lines.{line}
use Rattle.network_commands.specs.studio_rules.Ending.{Tells}
use Rattle.network_commands.specs.studio_rules.Solve.{status_of}
use Rattle.network_commands.specs.studio_rules.Report.{ReportSays}
use Rattle.network_commands.specs.studio_rules.Show.{CertificateShows}
use Rattle.network_commands.specs.studio_rules.declared.status.Status.{Status}
use Rattle.network_commands.specs.studio_rules.declared.status.Status.TheVariants.{Memory}
use Rattle.network_commands.proofs.command_files.Cited.{Ends-map, only_in}
use Rattle.report_commands.proofs.Shown.{tells_of}
use Rattle.report_commands.proofs.show.say_certificate.Goals as goal

pub returns-in-Some : goal.returns-in-Some
returns-in-Some g c =
    let p = c.args.plant.now.site.now in
    let ms = c.args.plant.now.measures.now in
    let q = c.args.certificate in
    let parts = c.into_parts-claim.result in
    let Q : Status → List ℕ → Type 0 = Tells (CertificateShows ms p q) in
    let told = c.in-Some.ensures in
    let says : ReportSays ms p q.claim q.tree told.0 =
    subst (λ (k : Claim). ReportSays ms p k q.tree told.0) c.into_parts-claim.ensures.claim
    (subst (λ (t : Tree). ReportSays ms p (claim_of parts.0) t told.0)
    c.into_parts-claim.ensures.tree told.1) in
    Ends-map _ Q c.args.out.now _ _
    (only_in Q (status_of (tail_of parts.2)) c.deref.result.now
    (tells_of (CertificateShows ms p q) (tail_of parts.2) told.0 c.deref.result.now
    (ap status_of c.into_parts-claim.ensures.tail, says) (c.deref.ensures.value ∙ told.2)))
    c.say_report.ensures

pub returns : goal.returns
returns g c =
    let Q : Status → List ℕ → Type 0 =
    Tells (CertificateShows c.args.plant.now.measures.now c.args.plant.now.site.now
    c.args.certificate) in
    Ends-map _ Q c.args.out.now _ _ (only_in Q Memory (line (codes "memory")) ([], inl refl, refl))
    c.say_memory.ensures
