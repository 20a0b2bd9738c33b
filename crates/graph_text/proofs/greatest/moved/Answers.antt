use Rattle.std.proofs.Common.{◌≡◌, ◌∙◌, sym, subst, SFits, rules, to_z, of_z, ◌*ℤ◌}
use Rattle.std.specs.Int.{w64, w128}
use Rattle.std.proofs.lemmas.Int.{to_z-of_z}
use Rattle.report_amounts.specs.integer_laws.Range.{InRange}
use Rattle.report_amounts.specs.problem_rules.Problem.{rate_of}
use Rattle.report_amounts.specs.tree_rules.Claim.{size_in}
use Rattle.graph_text.proofs.Moves.{moved_in_range}
use Rattle.graph_text.proofs.greatest.moved.Goals as goal

pub moved_at-requires : goal.moved_at-requires
moved_at-requires c n =
    let p = c.args.problem.now in
    let w = c.args.network.now in
    let f : SFits w64 c.rate_at.result = search rules in
    let g : SFits w128 c.size_at.result = search rules in
    let rate : to_z w64 (of_z w64 c.rate_at.result) ≡ rate_of p c.args.j c.args.u =
    to_z-of_z w64 c.rate_at.result f ∙ c.rate_at.ensures in
    let size : to_z w128 (of_z w128 c.size_at.result) ≡ size_in w c.args.u =
    to_z-of_z w128 c.size_at.result g ∙ c.size_at.ensures.value in
    subst InRange (λ i. sym rate i *ℤ sym size i)
    (moved_in_range p w c.args.u c.args.j (c.valid_is_proper.ensures p c.is_valid.ensures.valid)
    c.requires.feasible c.requires.unit c.requires.in_network (λ e. n (rate ∙ e)))
