use Rattle.std.proofs.Common.{refl, subst, MatchOption}
use Rattle.std.proofs.lemmas.Bool.{both_ways}
use Rattle.pgraph.proofs.number_sets.Cited.{below_from}
use Rattle.pgraph.specs.pns_rules.Structure.{Clashes}
use Rattle.pgraph.specs.pns_rules.Ends.{IsNever, IsFirst}
use Rattle.pgraph.specs.Tables.{shape}
use Rattle.pgraph.specs.View.{node_of}
use Rattle.neutral_extension.specs.Tests.{IsLooseSet}
use Rattle.neutral_extension.proofs.EndLemmas.{decided_from}
use Rattle.neutral_extension.proofs.FindLemmas.{loose_possible, loose_whole, no_loose}
use Rattle.neutral_extension.proofs.NextLemmas.{starve_next, loose_next, sole_next, reduced_from}
use Rattle.neutral_extension.proofs.turn.next_move.Goals as goal

pub returns-in-Some-starved_material-clause-comes :
    goal.returns-in-Some-starved_material-clause-comes
returns-in-Some-starved_material-clause-comes c =
    let g = shape c.args.graph.now in
    let d = node_of c.args.leaf.now.node in
    let no_clash =
    subst (λ o. MatchOption o (IsNever (Clashes g d.inside)) (IsFirst (Clashes g d.inside)))
    c.in_default-clash.is c.requires.stands.intake.clash in
    starve_next g d c.in_default.ensures no_clash c.in_default-raw_unit.ensures
    c.in_default-rival_unit.ensures c.in-Some-starved_material.x
    c.in-Some-starved_material.ensures

pub returns-then-not-is_empty-clause-comes : goal.returns-then-not-is_empty-clause-comes
returns-then-not-is_empty-clause-comes c =
    let g = shape c.args.graph.now in
    let d = node_of c.args.leaf.now.node in
    let no_clash =
    subst (λ o. MatchOption o (IsNever (Clashes g d.inside)) (IsFirst (Clashes g d.inside)))
    c.in_default-clash.is c.requires.stands.intake.clash in
    let w = c.loose_units-loose.result in
    let loose = c.loose_units-loose.ensures.loose in
    loose_next g d c.in_default.ensures no_clash c.in_default-raw_unit.ensures
    c.in_default-rival_unit.ensures c.in_default-starved_material.ensures w
    (loose_possible g d c.requires.sound w loose
    (λ e. both_ways c.is_empty.result c.if-not-is_empty.true (c.is_empty.ensures.1 e)))
    (loose_whole g d c.requires.sound w loose)

pub returns-then-not-is_empty-clause-set : goal.returns-then-not-is_empty-clause-set
returns-then-not-is_empty-clause-set c =
    let g = shape c.args.graph.now in
    let d = node_of c.args.leaf.now.node in
    let w = c.loose_units-loose.result in
    let p =
    loose_possible g d c.requires.sound w c.loose_units-loose.ensures.loose
    (λ e. both_ways c.is_empty.result c.if-not-is_empty.true (c.is_empty.ensures.1 e)) in
    record { rising = c.rises.ensures.rising; below = below_from g.units w (λ u h. (p.1 u h).0) }

pub returns-in-Some-sole_step-clause-comes : goal.returns-in-Some-sole_step-clause-comes
returns-in-Some-sole_step-clause-comes c =
    let g = shape c.args.graph.now in
    let d = node_of c.args.leaf.now.node in
    let no_clash =
    subst (λ o. MatchOption o (IsNever (Clashes g d.inside)) (IsFirst (Clashes g d.inside)))
    c.in_default-clash.is c.requires.stands.intake.clash in
    let h =
    subst (IsLooseSet g d) (c.is_empty.ensures.0 c.if-not-is_empty.false)
    c.loose_units-loose.ensures.loose in
    sole_next g d c.in_default.ensures no_clash c.in_default-raw_unit.ensures
    c.in_default-rival_unit.ensures c.in_default-starved_material.ensures
    (no_loose g d h) c.in-Some-sole_step.material c.in-Some-sole_step.unit
    c.in-Some-sole_step.ensures.0 c.in-Some-sole_step.ensures.1

pub returns-in-Some-undecided_material-clause-comes :
    goal.returns-in-Some-undecided_material-clause-comes
returns-in-Some-undecided_material-clause-comes c =
    let g = shape c.args.graph.now in
    let d = node_of c.args.leaf.now.node in
    let no_clash =
    subst (λ o. MatchOption o (IsNever (Clashes g d.inside)) (IsFirst (Clashes g d.inside)))
    c.in_default-clash.is c.requires.stands.intake.clash in
    let h =
    subst (IsLooseSet g d) (c.is_empty.ensures.0 c.if-not-is_empty.false)
    c.loose_units-loose.ensures.loose in (
      reduced_from g d c.in_default.ensures no_clash c.in_default-raw_unit.ensures
          c.in_default-rival_unit.ensures c.in_default-starved_material.ensures (no_loose g d h)
          c.in_default-sole_step.ensures,
      c.in-Some-undecided_material.ensures,
    )

pub returns-in-None-clause-comes : goal.returns-in-None-clause-comes
returns-in-None-clause-comes c =
    let g = shape c.args.graph.now in
    let d = node_of c.args.leaf.now.node in
    let no_clash =
    subst (λ o. MatchOption o (IsNever (Clashes g d.inside)) (IsFirst (Clashes g d.inside)))
    c.in_default-clash.is c.requires.stands.intake.clash in
    let h =
    subst (IsLooseSet g d) (c.is_empty.ensures.0 c.if-not-is_empty.false)
    c.loose_units-loose.ensures.loose in
    let r =
    reduced_from g d c.in_default.ensures no_clash c.in_default-raw_unit.ensures
    c.in_default-rival_unit.ensures c.in_default-starved_material.ensures (no_loose g d h)
    c.in_default-sole_step.ensures in
    decided_from g d c.requires.sound r c.in-None.ensures (λ u q. h.others u q refl)
