use Rattle.std.proofs.Common.{ap, arith, flat_map}
use Rattle.std.proofs.lemmas.Result.{err_from_is_err_and}
use Rattle.tree_text.proofs.Cited.{then_printed, then_failed, item_ahead}
use Rattle.tree_text_laws.specs.tree_text_rules.Spelling.{network_lines}
use Rattle.rank_text.proofs.print.put_networks.Goals as goal

pub returns-in_err-print_network-clause-prints : goal.returns-in_err-print_network-clause-prints
returns-in_err-print_network-clause-prints g c =
    let e = err_from_is_err_and c.from_residual.result c.from_residual.ensures.1 in
    rw (e.1, e.2) (then_failed _ _ _ _ _ _ _ c.printing.invariant.printed
    (ap (flat_map (network_lines c.args.problem.now))
    (item_ahead c.args.networks.now c.printing.network-index c.network-item.result
    c.printing-test.true c.network-item.is))
    _ c.printing.invariant.later c.in_err-print_network.ensures.prints)

pub printing-preserved : goal.printing-preserved
printing-preserved g c = record {
  known =
      (rw (item_ahead c.args.networks.now c.printing.network-index c.network-item.result
      c.printing-test.true c.network-item.is) at c.printing.invariant.known).1;
  printed = then_printed _ _ _ _ _ _ _ c.printing.invariant.printed
      (ap (flat_map (network_lines c.args.problem.now))
      (item_ahead c.args.networks.now c.printing.network-index c.network-item.result
      c.printing-test.true c.network-item.is))
      c.in_ok-print_network.ensures.prints;
  later = omega arith;
}
