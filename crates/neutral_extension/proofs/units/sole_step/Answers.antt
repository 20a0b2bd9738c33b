use Rattle.std.proofs.Common.{ℕ, false, refl, sym, ap, ◌∙◌, subst, arith}
use Rattle.std.proofs.lemmas.Bool.{both_ways}
use Rattle.pgraph.specs.number_sets.Sets.{has}
use Rattle.pgraph.proofs.number_sets.Cited.{first_had, first_none}
use Rattle.pgraph.specs.Tables.{shape}
use Rattle.pgraph.specs.View.{node_of}
use Rattle.neutral_extension.specs.OpenLeaf.{IsOnlyMaker}
use Rattle.neutral_extension.proofs.FindLemmas.{before_first, sole_known, sole_alone, sole_to}
use Rattle.neutral_extension.proofs.FindLemmas.{sole_from}
use Rattle.neutral_extension.proofs.LeafLemmas.{first_alone, first_there}
use Rattle.neutral_extension.proofs.units.sole_step.Goals as goal

pub returns-in_default : goal.returns-in_default
returns-in_default c = λ x u p.
    let s = c.args.leaf.now in
    both_ways false refl
    (sym
    (ap (λ xs. has xs x)
    (first_none c.minus-undecided.result (sym c.least.ensures ∙ c.in_default.is)))
    ∙ sole_from (shape c.args.graph.now) (node_of s.node) c.requires.sound.apart
    c.is_proper.ensures.proper c.minus-undecided.result c.meet-single.result s.intake.needed
    s.scarce.single s.intake.made c.meet-single.ensures c.minus-undecided.ensures
    c.requires.stands.intake.needed c.requires.stands.single c.requires.stands.intake.made x u
    p)

pub first-requires : goal.first-requires
first-requires c =
    let s = c.args.leaf.now in
    let x = c.in-Some.x in
    let lt =
    sole_known (shape c.args.graph.now) (node_of s.node) c.requires.sound.apart
    c.is_proper.ensures.proper c.minus-undecided.result c.meet-single.result s.intake.needed
    s.scarce.single s.intake.made c.meet-single.ensures c.minus-undecided.ensures
    c.requires.stands.intake.needed c.requires.stands.single c.requires.stands.intake.made x
    (first_had c.minus-undecided.result x (sym c.least.ensures ∙ c.in-Some.is)) in
    let count = c.requires.follows.same.count in
    omega arith

pub returns-in-Some-first : goal.returns-in-Some-first
returns-in-Some-first c =
    let s = c.args.leaf.now in
    let g = shape c.args.graph.now in
    let d = node_of s.node in
    let x = c.in-Some.x in
    let head = sym c.least.ensures ∙ c.in-Some.is in
    let here = first_had c.minus-undecided.result x head in
    let k =
    sole_alone g d c.requires.sound.apart c.is_proper.ensures.proper c.minus-undecided.result
    c.meet-single.result s.intake.needed s.scarce.single s.intake.made c.meet-single.ensures
    c.minus-undecided.ensures c.requires.stands.intake.needed c.requires.stands.single
    c.requires.stands.intake.made x here in
    let e =
    first_alone g c.args.makers.now d c.is_proper.ensures.proper c.requires.follows.same
    c.requires.follows.out x k.0 c.in-Some-first.unit k.1
    (sym c.first.ensures ∙ c.in-Some-first.is) in (
      sole_to g d c.requires.sound.apart c.is_proper.ensures.proper c.minus-undecided.result
          c.meet-single.result s.intake.needed s.scarce.single s.intake.made c.meet-single.ensures
          c.minus-undecided.ensures c.requires.stands.intake.needed c.requires.stands.single
          c.requires.stands.intake.made x c.in-Some-first.unit here
          (subst (λ (u : ℕ). IsOnlyMaker g d x u) (sym e) k.1),
      λ y v lt p. before_first c.minus-undecided.result x y c.rises.ensures.rising head lt
          (sole_from g d c.requires.sound.apart c.is_proper.ensures.proper c.minus-undecided.result
          c.meet-single.result s.intake.needed s.scarce.single s.intake.made c.meet-single.ensures
          c.minus-undecided.ensures c.requires.stands.intake.needed c.requires.stands.single
          c.requires.stands.intake.made y v p),
    )

pub returns-in-None : goal.returns-in-None
returns-in-None c = λ y v p.
    let s = c.args.leaf.now in
    let g = shape c.args.graph.now in
    let d = node_of s.node in
    let x = c.in-Some.x in
    let here = first_had c.minus-undecided.result x (sym c.least.ensures ∙ c.in-Some.is) in
    let k =
    sole_alone g d c.requires.sound.apart c.is_proper.ensures.proper c.minus-undecided.result
    c.meet-single.result s.intake.needed s.scarce.single s.intake.made c.meet-single.ensures
    c.minus-undecided.ensures c.requires.stands.intake.needed c.requires.stands.single
    c.requires.stands.intake.made x here in
    first_there g c.args.makers.now d c.is_proper.ensures.proper c.requires.follows.same
    c.requires.follows.out x k.0 k.1 (sym c.first.ensures ∙ c.in-None.is)
