use Rattle.std.proofs.Common.{None, subst, ℕ, List, Bool}
use Rattle.text_lines.specs.number_sets.Sets.{has}
use Rattle.cert_check.specs.pns_rules.Shape.{Shape, shape_of}
use Rattle.cert_check.specs.pns_rules.Verdict.{Judges}
use Rattle.command_files.specs.studio_rules.Axioms.{NamesSay, VerdictSays, units_named}
use Rattle.command_files.specs.studio_rules.Ending.{Tells}
use Rattle.command_files.specs.studio_rules.declared.status.Status.{Status}
use Rattle.command_files.proofs.Cited.{Ends-map, Tells-map}
use Rattle.structure_commands.proofs.axioms.say_known.Goals as goal

pub returns : goal.returns
returns g c =
    let p = c.args.problem.now in
    let names = c.args.units.now in
    let v = c.judge-verdict.result in
    let judged : Judges (shape_of p) (units_named p names) v =
    subst (λ (s : ℕ → Bool). Judges (shape_of p) s v) c.units_named.ensures.named
    (subst (λ (h : Shape). Judges h (has c.units_named.result) v) c.in-Ok.ensures
    c.judge-verdict.ensures.judges) in
    let Q : Status → List ℕ → Type 0 = Tells (NamesSay names p None) in
    Ends-map (Tells (VerdictSays p v)) Q c.args.out.now _ _
    (Tells-map (VerdictSays p v) (NamesSay names p None) (λ s lines h. (v, judged, h)))
    c.say_verdict.ensures
