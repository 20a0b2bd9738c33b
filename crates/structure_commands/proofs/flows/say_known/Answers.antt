use Rattle.std.proofs.Common.{◌≡◌, ℕ, Bool, List, None, length, refl, subst, sym}
use Rattle.text_lines.specs.number_sets.Sets.{has, IsSet}
use Rattle.text_lines.specs.problem_rules.Problem.{Problem}
use Rattle.cert_check.specs.pns_rules.Shape.{Shape, shape_of}
use Rattle.cert_check.specs.pns_rules.Verdict.{Judges}
use Rattle.cert_check.specs.pns_rules.declared.verdict.Verdict.{Verdict}
use Rattle.cert_check.specs.pns_rules.declared.verdict.Verdict.TheVariants.{Meets, Breaks}
use Rattle.command_files.specs.studio_rules.Axioms.{VerdictSays, units_named}
use Rattle.command_files.specs.studio_rules.Flows.{FlowsSay, FlowNamesSay, UnitsSay}
use Rattle.command_files.specs.studio_rules.declared.status.Status.{Status}
use Rattle.cert_check.specs.tree_rules.Known.{AreUnits}
use Rattle.command_files.specs.studio_rules.Ending.{Ends, Tells}
use Rattle.command_files.proofs.Cited.{Ends-map, Tells-map}
use Rattle.text_lines.proofs.number_sets.Cited.{below_from}
use Rattle.structure_commands.proofs.flows.say_known.Goals as goal

pub say_structure-requires-clause-known : goal.say_structure-requires-clause-known
say_structure-requires-clause-known g c =
    subst (λ (p : Problem). AreUnits p c.units_named-set.result) (sym c.of-in-Meets.ensures)
    (record {
      rising = c.rises.ensures.rising;
      below =
          below_from (length c.args.problem.now.units) c.units_named-set.result
          c.units_named-set.ensures.known;
    })

other_verdict : (names : List (List ℕ)) (p : Problem) (v : Verdict) (s : Status)
    (lines : List (List ℕ)) → (v ≡ Meets → ⊥) → VerdictSays p v s lines → UnitsSay names p v s lines
other_verdict names p Meets s lines n h = absurd (n refl)
other_verdict names p (Breaks broken at) s lines n h = h

pub returns-in-Meets : goal.returns-in-Meets
returns-in-Meets g c =
    let p = c.args.problem.now in
    let names = c.args.units.now in
    let us = c.units_named-set.result in
    let judged : Judges (shape_of p) (units_named p names) c.judge.result =
    subst (λ (s : ℕ → Bool). Judges (shape_of p) s c.judge.result) c.units_named-set.ensures.named
    (subst (λ (h : Shape). Judges h (has us) c.judge.result) c.in-Ok.ensures
    c.judge.ensures.judges) in
    let meets : Judges (shape_of p) (units_named p names) Meets =
    subst (λ (v : Verdict). Judges (shape_of p) (units_named p names) v) c.in-Meets.is judged in
    let set : IsSet (length p.units) us =
    record {
      rising = c.rises.ensures.rising;
      below =
          below_from (length p.units) us c.units_named-set.ensures.known;
    } in
    Ends-map _ _ c.args.out.now _ _
    (Tells-map (FlowsSay p us) (FlowNamesSay names p None)
    (λ s lines h. (Meets, meets, (us, set, c.units_named-set.ensures.named, h))))
    (subst
    (λ (q : Problem). Ends (Tells (FlowsSay q us)) c.args.out.now c.say_structure.new.out
    c.say_structure.result) c.of-in-Meets.ensures c.say_structure.ensures)

pub returns : goal.returns
returns g c =
    let p = c.args.problem.now in
    let names = c.args.units.now in
    let us = c.units_named-set.result in
    let v = c.judge.result in
    let judged : Judges (shape_of p) (units_named p names) v =
    subst (λ (s : ℕ → Bool). Judges (shape_of p) s v) c.units_named-set.ensures.named
    (subst (λ (h : Shape). Judges h (has us) v) c.in-Ok.ensures c.judge.ensures.judges) in
    Ends-map _ _ c.args.out.now _ _
    (Tells-map (VerdictSays p v) (FlowNamesSay names p None)
    (λ s lines h.
    (v, judged, other_verdict names p v s lines (λ e. c.in_default-judge.not-Meets e) h)))
    c.say_verdict.ensures
