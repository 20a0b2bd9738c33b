use Rattle.std.proofs.Common.{◌∷◌, ◌∙◌, [], refl, sym, ap, subst, inl, ℕ, List, codes}
use Rattle.cert_check.specs.pns_rules.declared.verdict.Verdict.{Verdict}
use Rattle.command_files.specs.studio_rules.Lines.{line}
use Rattle.command_files.specs.studio_rules.Axioms.{VerdictSays, breaks_line, place_name}
use Rattle.command_files.specs.studio_rules.Ending.{Tells}
use Rattle.command_files.specs.studio_rules.declared.status.Status.{Status}
use Rattle.command_files.specs.studio_rules.declared.status.Status.TheVariants.{Done, Refused}
use Rattle.command_files.proofs.Cited.{Ends-map, only_in, only_or_memory_in, one_line}
use Rattle.structure_commands.proofs.axioms.say_verdict.Goals as goal

pub returns-in-Meets : goal.returns-in-Meets
returns-in-Meets g c =
    let p = c.args.problem.now in
    let Q : Status → List ℕ → Type 0 = Tells (VerdictSays p c.args.verdict) in
    Ends-map _ Q c.args.out.now _ _
    (only_in Q Done (line (codes "meets")) (
      codes "meets" ∷ [],
      subst (λ (v : Verdict). VerdictSays p v Done (codes "meets" ∷ [])) (sym c.in-Meets.is)
          (refl, refl),
      refl,
    ))
    c.say.ensures

pub returns-in-Breaks : goal.returns-in-Breaks
returns-in-Breaks g c =
    let p = c.args.problem.now in
    let Q : Status → List ℕ → Type 0 = Tells (VerdictSays p c.args.verdict) in
    let told : List ℕ =
    breaks_line c.in-Breaks.axiom (place_name p c.in-Breaks.axiom c.in-Breaks.at) in
    Ends-map _ Q c.args.out.now _ _
    (only_or_memory_in Q Refused (line (breaks_line c.in-Breaks.axiom c.place_name.result.now)) (
      told ∷ [],
      subst (λ (v : Verdict). VerdictSays p v Refused (told ∷ [])) (sym c.in-Breaks.is)
          (refl, refl),
      ap (λ (name : List ℕ). line (breaks_line c.in-Breaks.axiom name)) c.place_name.ensures
          ∙ one_line told,
    )
    ([], inl refl, refl))
    c.say_breaks.ensures
