use Rattle.std.proofs.Common.{◌≡◌, ℕ, ◌^◌, List, [], length, refl, sym, ap, ◌∙◌, arith, eqb-true}
use Rattle.structure_list.specs.pns_rules.Nodes.{base_makers, free_makers}
use Rattle.structure_list.specs.pgraph.Tables.{shape}
use Rattle.structure_list.specs.pgraph.View.{node_of}
use Rattle.node_evaluation.proofs.BranchChoiceLemmas.{undecided_from}
use Rattle.node_evaluation.proofs.choice.has_three_options.Goals as goal

pub returns-then-is_empty-clause-undecided : goal.returns-then-is_empty-clause-undecided
returns-then-is_empty-clause-undecided c t =
    let g = shape c.args.graph.now in
    let n = node_of c.args.node.now in
    let two = eqb-true c.count.result 2 t in
    let counted = c.count.ensures ∙ ap (λ (xs : List ℕ). length xs) c.options-base.ensures.free in
    undecided_from g n c.args.x c.requires.needed (λ e.
    let none : length (free_makers g n c.args.x) ≡ 0 = ap (λ (xs : List ℕ). length xs) e in
    omega (arith, two, counted, none))

pub returns-then-is_empty-clause-three : goal.returns-then-is_empty-clause-three
returns-then-is_empty-clause-three c t =
    let g = shape c.args.graph.now in
    let n = node_of c.args.node.now in
    let none : base_makers g n c.args.x ≡ [] =
    sym c.options-base.ensures.base ∙ c.if-is_empty.ensures.0 refl in
    let law = c.options_are_counted.ensures.none g n c.args.x none in
    let counted = sym (ap (λ (xs : List ℕ). length xs) c.options-base.ensures.free)
    ∙ sym c.count.ensures ∙ eqb-true c.count.result 2 t in
    let four : 2 ^ length (free_makers g n c.args.x) ≡ 4 = ap (λ (m : ℕ). 2 ^ m) counted in
    omega (arith, law, four)
