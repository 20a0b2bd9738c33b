use Rattle.std.proofs.Common.{◌+◌, sym, subst, drop, length, arith}
use Rattle.std.proofs.lemmas.List.{drop_all, drop_more}
use Rattle.stability.specs.problem_rules.Each.{Each}
use Rattle.stability.specs.report_rules.declared.spot.Spot.TheVariants.{Price}
use Rattle.stability.specs.report_rules.Spot.{KnowsSpot}
use Rattle.stability_commands.proofs.RangeRows.{GoOn, row_more, rows_whole}
use Rattle.stability_commands.proofs.table.rows_for.Goals as goal

pub finding-init : goal.finding-init
finding-init g c =
    let spots = c.args.spots.now in
    record {
      known = c.requires.known;
      rows =
          subst (GoOn c.args.effort.budget c.args.site.now c.args.network.now spots spots)
          (sym c.new-rows.ensures.items) (λ more h. h);
    }

pub row_of-requires-clause-known : goal.row_of-requires-clause-known
row_of-requires-clause-known g c =
    (subst (Each (KnowsSpot c.args.site.now))
    (drop_more c.args.spots.now c.finding.spot-index (Price 0) c.finding-test.true)
    c.finding.invariant.known).0

pub finding-preserved : goal.finding-preserved
finding-preserved g c =
    let spots = c.args.spots.now in
    let k = c.finding.spot-index in
    let ahead = drop_more spots k (Price 0) c.finding-test.true in
    record {
      known = (subst (Each (KnowsSpot c.args.site.now)) ahead c.finding.invariant.known).1;
      rows =
          row_more c.args.effort.budget c.args.site.now c.args.network.now spots (drop k spots)
          (drop (k + 1) spots) _ c.finding.rows.items c.push.new.self.items c.in_ok-row.row ahead
          c.in-Ok.ensures.items c.in_ok-row.ensures.row c.finding.invariant.rows;
    }

pub returns-clause-rows : goal.returns-clause-rows
returns-clause-rows g c =
    let spots = c.args.spots.now in
    let k = c.finding.spot-index in
    let done = c.finding-test.false in
    rows_whole c.args.effort.budget c.args.site.now c.args.network.now spots (drop k spots)
    c.finding.rows.items (drop_all k spots (omega (arith, done))) c.finding.invariant.rows
