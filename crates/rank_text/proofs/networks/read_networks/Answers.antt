use Rattle.std.proofs.Common.{◌∷◌, [], List, length, ap, arith}
use Rattle.std.proofs.lemmas.List.{length-append}
use Rattle.std.proofs.lemmas.Result.{err_from_is_err_and}
use Rattle.tree_text_laws.specs.tree_rules.Claim.{Network}
use Rattle.tree_reading.specs.Place.{lines_at}
use Rattle.tree_reading.specs.Taken.{taken}
use Rattle.rank_check.specs.Known.{KnowsNetwork}
use Rattle.tree_reading.proofs.Cited.{each_last}
use Rattle.rank_text.proofs.Together.{network_on, network_bad, networks_whole}
use Rattle.rank_text.proofs.networks.read_networks.Goals as goal

pub returns-in_err-network-clause-fault : goal.returns-in_err-network-clause-fault
returns-in_err-network-clause-fault c =
    let e = err_from_is_err_and c.from_residual.result c.from_residual.ensures.1 in
    rw (e.1, e.2)
    (network_bad c.args.problem.now _ c.reading.networks.items c.reading.left c.reading.at.line
    (lines_at c.args.bytes.now c.reading.at)
    c.reading.invariant.leads c.reading-test.true _ c.in_err-network.ensures.fault)

pub reading-preserved : goal.reading-preserved
reading-preserved c =
    let p = c.args.problem.now in
    let lines = lines_at c.args.bytes.now c.reading.at in
    let ws = c.reading.networks.items in
    let t = taken c.in_ok-network.network c.args.bytes.now c.in_ok-network.behind in
    let items = c.in_ok-push.ensures.items in
    record {
      leads =
          rw items
          (network_on p _ ws c.reading.left c.reading.at.line lines c.reading.invariant.leads
          c.reading-test.true t c.in_ok-network.ensures.read);
      later =
          omega (
            arith,
            (c.networks_are_taken.ensures p c.is_valid.ensures.valid).number_is c.reading.at.line
                lines t c.in_ok-network.ensures.read,
          );
      reached =
          record {
            is_cut = c.in_ok-network.ensures.behind.is_cut;
            later =
                omega (
                  arith,
                  c.reading.invariant.reached.later,
                  c.in_ok-network.ensures.behind.later,
                );
          };
      count =
          omega (
            arith,
            ap (λ (vs : List Network). length vs) items,
            length-append ws (t.what ∷ []),
          );
      known =
          rw items
          (each_last (KnowsNetwork p) ws t.what c.reading.invariant.known
          c.in_ok-network.ensures.known);
    }

pub returns-clause-ok : goal.returns-clause-ok
returns-clause-ok c =
    networks_whole c.args.problem.now _ c.reading.networks.items c.reading.left c.reading.at.line
    (lines_at c.args.bytes.now c.reading.at) c.reading.invariant.leads (omega arith)
