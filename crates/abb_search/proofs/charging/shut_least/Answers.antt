use Rattle.std.proofs.Common.{◌≡◌, ◌∙◌, None, sym}
use Rattle.abb_search.proofs.ChargingLemmas.{no_stop, going_none, keeps_charged}
use Rattle.abb_search.proofs.charging.shut_least.Goals as goal

pub charge_least-requires-clause-growing : goal.charge_least-requires-clause-growing
charge_least-requires-clause-growing g c =
    let s = c.args.growing.now in
    going_none g.E.Evaluator.past c.args.site.now s
    (no_stop s.stop (sym c.is_some.ensures ∙ c.if-is_some.false)) c.requires.going

pub returns-in-Some-clause-keeps : goal.returns-in-Some-clause-keeps
returns-in-Some-clause-keeps g c =
    let s = c.args.growing.now in
    let none : s.stop ≡ None =
    no_stop s.stop (sym c.is_some.ensures ∙ c.if-is_some.false) in
    keeps_charged g.E.Evaluator.past c.args.site.now s c.shut_leaf.new.growing c.in-Some.leaf
    c.in-Some.charged none (going_none g.E.Evaluator.past c.args.site.now s none c.requires.going)
    c.in-Some.ensures.charged (record {
      frees = c.shut_leaf.ensures.frees;
      cells = c.shut_leaf.ensures.cells;
      values = c.shut_leaf.ensures.values;
      leaves = c.shut_leaf.ensures.leaves;
      rest = c.shut_leaf.ensures.rest;
    })
