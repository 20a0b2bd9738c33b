use Rattle.std.proofs.Common.{◌≡◌, ◌≤◌, length, refl, sym, subst, arith, rules}
use Rattle.dual_simplex.proofs.number_sets.Cited.{length_listed}
use Rattle.dual_simplex.specs.pns_rules.Structure.{mats}
use Rattle.dual_simplex.specs.problem_rules.Problem.{Problem}
use Rattle.dual_simplex.specs.pgraph.View.{node_of}
use Rattle.dual_simplex.specs.flow_rules.Net.{net_of, beside}
use Rattle.dual_simplex.specs.flow_rules.Program.{Program, program_of}
use Rattle.dual_simplex.specs.flow_rules.Relaxed.{stays, units, rows}
use Rattle.dual_simplex.specs.Bench.{HasRoom, IsNoneOf}
use Rattle.dual_simplex.specs.PastPlace.{IsPastOf}
use Rattle.node_evaluation.specs.tree_rules.Past.{IsPastAt}
use Rattle.flow_evaluator.proofs.KnownLemmas.{place_known, kept_known, unproved_is}
use Rattle.flow_evaluator.proofs.evaluator.prove_on.Goals as goal

pub least-requires : goal.least-requires
least-requires c =
    let p = c.args.site.now in
    let n = node_of c.args.node.now in
    let made : c.in_ok-program.program ≡ program_of (net_of p) n =
    subst (λ (r : Problem). c.in_ok-program.program ≡ program_of (net_of r) n)
    c.problem.ensures.same c.in_ok-program.ensures in
    let b = c.args.bench.now in
    let few_units : length (units (net_of p) n) ≤ length p.units =
    length_listed (length p.units) (stays n) in
    let few_rows : length (rows (net_of p) n) ≤ length p.materials =
    length_listed (length p.materials) (mats (net_of p).graph (stays n)) in
    let own : HasRoom b (length (units (net_of p) n)) (length (rows (net_of p) n)) = record {
      units_fit = omega (arith, few_units, c.requires.room.units_fit);
      rows_fit = omega (arith, few_rows, c.requires.room.rows_fit);
    } in
    record {
      fits =
          subst (λ (q : Program). HasRoom b (length q.units) (length q.rows)) (sym made) own;
    }

pub unreachable-requires : goal.unreachable-requires
unreachable-requires c =
    let p = c.args.site.now in
    let n = node_of c.args.node.now in
    let b = c.least.new.self in
    let own = program_of (net_of p) n in
    let none : IsNoneOf own b = search rules in
    c.refutation.ensures.relaxed p n (beside (rows (net_of p) n) b.ys)
    (c.none_is_refuted.ensures p c.problem.ensures.valid n own b refl none)
    c.requires.some.sizes c.requires.some.d c.requires.some.relaxed

pub returns-clause-proved : goal.returns-clause-proved
returns-clause-proved c =
    let p = c.args.site.now in
    let n = node_of c.args.node.now in
    let made : c.in_ok-program.program ≡ program_of (net_of p) n =
    subst (λ (r : Problem). c.in_ok-program.program ≡ program_of (net_of r) n)
    c.problem.ensures.same c.in_ok-program.ensures in
    let b = c.least.new.self in
    let own = program_of (net_of p) n in
    let place = c.in-Err.place in
    let at : IsPastOf own b place =
    subst (λ (r : Program). IsPastOf r b place) made c.in-Err.ensures.past in
    let past : IsPastAt p n b.nonbasic place = record {
      past = c.entry_is_past.ensures (net_of p) n own b place refl at;
      columns = kept_known p n b c.names_are_of_program.ensures.nonbasic at.nonbasic_are;
      known = place_known p n place (c.names_are_of_program.ensures.entries own b place at);
    } in
    λ cost positive worth. unproved_is p n b.nonbasic place c.unproved.result past
    c.unproved.ensures cost
