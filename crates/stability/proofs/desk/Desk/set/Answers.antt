use Rattle.std.proofs.Common.{◌≡◌, sym, ap, ◌∙◌, subst, rules, SFits, to_z, of_z}
use Rattle.std.specs.Int.{w64}
use Rattle.std.proofs.lemmas.Int.{to_z-of_z}
use Rattle.stability_laws.specs.problem_rules.Validity.{IsValid}
use Rattle.stability_laws.specs.pns_rules.Shape.{shape_of}
use Rattle.solver.specs.neutral_extension.Candidates.{AreMakersOf}
use Rattle.stability_laws.specs.report_rules.declared.spot.Spot.{Spot}
use Rattle.stability_laws.specs.report_rules.Spot.{KnowsSpot, valued}
use Rattle.stability.specs.Case.{Case}
use Rattle.stability.specs.Desk.{Desk}
use Rattle.stability.proofs.DeskLemmas.{set_again, set_knows, set_valid}
use Rattle.stability.proofs.desk.Desk.set.Goals as goal

pub set-requires-clause-known : goal.set-requires-clause-known
set-requires-clause-known g c =
    let k = c.args.case.now in
    let p = c.self.inside.problem in
    let spot : c.case.inside.spot ≡ k.spot = ap (λ (x : Case). x.spot) c.case.view_is in
    let is : p ≡ valued k.problem k.spot c.requires.desk.value =
    ap (λ (d : Desk). d.problem) c.self.view_is ∙ c.requires.desk.problem in
    subst (λ (s : Spot). KnowsSpot p s) (sym spot)
    (set_knows k.problem p k.spot c.is_known.ensures.known c.requires.desk.value is)

pub set-requires-clause-valid : goal.set-requires-clause-valid
set-requires-clause-valid g c =
    let k = c.args.case.now in
    let p = c.self.inside.problem in
    let fits : SFits w64 c.args.value = search rules in
    let value : to_z w64 (of_z w64 c.args.value) ≡ c.args.value = simp to_z-of_z in
    let spot : c.case.inside.spot ≡ k.spot = ap (λ (x : Case). x.spot) c.case.view_is in
    let is : p ≡ valued k.problem k.spot c.requires.desk.value =
    ap (λ (d : Desk). d.problem) c.self.view_is ∙ c.requires.desk.problem in
    let same : valued p c.case.inside.spot (to_z w64 (of_z w64 c.args.value))
    ≡ valued p k.spot c.args.value = λ i. valued p (spot i) (value i) in
    subst IsValid (sym same)
    (set_valid c.valued_is_valid.ensures k.problem p c.is_known.ensures.valid k.spot
    c.is_known.ensures.known c.requires.desk.value c.args.value is c.requires.allowed)

pub returns-clause-problem : goal.returns-clause-problem
returns-clause-problem g c =
    let k = c.args.case.now in
    let p = c.self.inside.problem in
    let fits : SFits w64 c.args.value = search rules in
    let value : to_z w64 (of_z w64 c.args.value) ≡ c.args.value = simp to_z-of_z in
    let spot : c.case.inside.spot ≡ k.spot = ap (λ (x : Case). x.spot) c.case.view_is in
    let is : p ≡ valued k.problem k.spot c.requires.desk.value =
    ap (λ (d : Desk). d.problem) c.self.view_is ∙ c.requires.desk.problem in
    let same : valued p c.case.inside.spot (to_z w64 (of_z w64 c.args.value))
    ≡ valued p k.spot c.args.value = λ i. valued p (spot i) (value i) in
    c.set.ensures
    ∙ (same
    ∙ set_again k.problem p k.spot c.is_known.ensures.known c.requires.desk.value c.args.value
    is)

pub returns-clause-own : goal.returns-clause-own
returns-clause-own g c =
    subst (λ (d : Desk). AreMakersOf (shape_of c.args.case.now.problem) d.makers)
    (sym c.self.view_is) c.requires.desk.makers

pub returns-clause-desk : goal.returns-clause-desk
returns-clause-desk g c =
    record {
      value = c.args.value;
      problem = returns-clause-problem g c;
      makers =
          returns-clause-own g c;
    }
