use Rattle.std.specs.List.{slice_get}
use Rattle.std.proofs.Common.{◌≡◌, ◌∷◌, [], refl, Option, Some, None, length}
use Rattle.std.proofs.Common.{subst, sym, ap, arith}
use Rattle.std.proofs.Common.{ℕ, length-append}
use Rattle.rank_check.specs.exact_numbers.declared.number.Mixed.{Mixed}
use Rattle.abb_search.specs.search_tree.Cells.{cell_at}
use Rattle.rank_check.specs.unit_sets.declared.node.Node.{Node}
use Rattle.rank_search.specs.Naming.{Names, name_at}
use Rattle.rank_search.proofs.NameLemmas.{item_there}
use Rattle.rank_search.specs.Listing.{reached_of}
use Rattle.rank_search.specs.Names.{IsNameFor}
use Rattle.rank_search.proofs.DistinctNameLemmas.{got_is, names_next}
use Rattle.rank_search.proofs.names.names_for.Goals as goal

pub naming-init : goal.naming-init
naming-init c = record {
  counted = refl;
  as_many = ap (λ (ns : Names). length ns) c.new-names.ensures.items;
  each = λ j lt. absurd (omega (arith, lt));
}

pub node_at-inside-requires : goal.node_at-inside-requires
node_at-inside-requires c =
    let t = c.naming-test.true in
    let n = c.naming.invariant.counted in
    let m = c.requires.as_many in
    omega (arith, t, n, m)

pub naming-preserved : goal.naming-preserved
naming-preserved c =
    let i = c.naming.value-index in
    let os = c.args.reached.now in
    let there : slice_get c.args.reached.now c.naming.value-index ≡ Some c.value-item.result =
    item_there os i c.value-item.result (let t = c.naming-test.true in omega (arith, t))
    c.value-item.is in
    let here : reached_of c.args.reached.now c.naming.value-index ≡ c.value-item.result =
    got_is os i c.value-item.result None there in
    let named =
    subst
    (λ (k : ℕ). IsNameFor c.args.listed.now (cell_at c.args.pool.now.payloads k).node.inside
    (reached_of os i) c.name_for.result) c.naming.invariant.counted
    (subst
    (λ (n : Node). IsNameFor c.args.listed.now n.inside (reached_of os i) c.name_for.result)
    c.node_at-inside.ensures
    (subst
    (λ (o : Option Mixed). IsNameFor c.args.listed.now c.node_at-inside.result.inside o
    c.name_for.result) (sym here) c.name_for.ensures)) in
    let pushed = c.in_ok-push.ensures.items in
    record {
      counted = let n = c.naming.invariant.counted in omega (arith, n);
      as_many =
          let m = c.naming.invariant.as_many in
          let e = ap (λ (ns : Names). length ns) pushed in
          let l = length-append c.naming.names.items (c.name_for.result ∷ []) in
          omega (arith, m, e, l);
      each = λ j lt.
          subst
          (λ (ns : Names). IsNameFor c.args.listed.now
          (cell_at c.args.pool.now.payloads j).node.inside
          (reached_of os j) (name_at ns j)) (sym pushed)
          (names_next c.args.pool.now.payloads c.args.listed.now os c.naming.names.items
          c.name_for.result i c.naming.invariant.as_many c.naming.invariant.each named j lt);
    }

pub returns : goal.returns
returns c = record {
  as_many =
      let m = c.naming.invariant.as_many in
      let t = c.naming-test.false in
      omega (arith, m, t);
  each = λ j lt. c.naming.invariant.each j (let t = c.naming-test.false in omega (arith, t, lt));
}
