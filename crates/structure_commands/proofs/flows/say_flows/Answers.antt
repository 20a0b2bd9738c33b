use Rattle.std.proofs.Common.{◌∷◌, [], refl, subst, inl, ℕ, List, Option}
use Rattle.cert_check.specs.pns_rules.declared.verdict.Axiom.TheVariants.{S3}
use Rattle.command_files.specs.studio_rules.Lines.{line}
use Rattle.command_files.specs.studio_rules.Axioms.{breaks_line}
use Rattle.command_files.specs.studio_rules.Flows.{FlowsWork, FlowNamesSay}
use Rattle.command_files.specs.studio_rules.Ending.{Tells}
use Rattle.command_files.specs.studio_rules.declared.status.Status.{Status}
use Rattle.command_files.specs.studio_rules.declared.status.Status.TheVariants.{Refused}
use Rattle.command_files.proofs.Cited.{Ends-map, only_or_memory_in, one_line, Tells-map}
use Rattle.structure_commands.proofs.flows.say_flows.Goals as goal

pub returns-in-Some : goal.returns-in-Some
returns-in-Some g c =
    let p = c.args.problem.now in
    let names = c.args.units.now in
    let Q : Status → List ℕ → Type 0 = Tells (FlowsWork names p) in
    let told : List ℕ = breaks_line S3 c.in-Some.name.now in
    Ends-map _ Q c.args.out.now _ _
    (only_or_memory_in Q Refused (line told) (
      told ∷ [],
      subst (λ (o : Option (List ℕ)). FlowNamesSay names p o Refused (told ∷ []))
          c.in-Some.ensures (refl, refl),
      one_line told,
    )
    ([], inl refl, refl))
    c.say_breaks.ensures

pub returns-in-None : goal.returns-in-None
returns-in-None g c =
    let p = c.args.problem.now in
    let names = c.args.units.now in
    let Q : Status → List ℕ → Type 0 = Tells (FlowsWork names p) in
    Ends-map _ Q c.args.out.now _ _
    (Tells-map _ (FlowsWork names p)
    (λ s lines h. subst (λ (o : Option (List ℕ)). FlowNamesSay names p o s lines)
    c.in-None.ensures h))
    c.say_known.ensures
