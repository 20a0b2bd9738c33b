use Rattle.std.proofs.Common.{◌≡◌, ℕ, true, List, length, slice_set, sym, ap, ◌∙◌, subst}
use Rattle.std.specs.Prelude.{vec_capacity}
use Rattle.std.specs.List.{find}
use Rattle.link_lists.specs.Lists.{has, without}
use Rattle.node_pool.specs.Order.{OpenLeaves, is_at_least, placed, put_before}
use Rattle.node_pool.specs.Pooled.{Pooled, with_value}
use Rattle.node_pool.proofs.Order.{without_out}
use Rattle.node_pool.proofs.Places.{found_has}
use Rattle.node_pool.proofs.Sound.{known_set, rising_rest, leaves_set, sound_set}
use Rattle.node_pool.proofs.pool.Pool.raise.Goals as goal

pub first_at_least-before-requires-clause-known : goal.first_at_least-before-requires-clause-known
first_at_least-before-requires-clause-known g c =
    let s = c.self.inside in
    rw c.take.ensures
    (known_set s.tree s.values.items (vec_capacity s.values) (length s.payloads.items)
    (vec_capacity s.payloads) s.leaves c.args.id c.args.value c.self.invariant)

pub first_at_least-before-requires-clause-rising : goal.first_at_least-before-requires-clause-rising
first_at_least-before-requires-clause-rising g c =
    let s = c.self.inside in
    rw c.take.ensures
    (rising_rest s.tree s.values.items (vec_capacity s.values) (length s.payloads.items)
    (vec_capacity s.payloads) s.leaves c.args.id c.args.value c.self.invariant)

pub put-requires-clause-free : goal.put-requires-clause-free
put-requires-clause-free g c = rw c.take.ensures (without_out c.args.id c.self.inside.leaves.leaves)

pub put-requires-clause-before : goal.put-requires-clause-before
put-requires-clause-before g c =
    let vs = slice_set c.self.inside.values.items c.args.id c.args.value in
    λ b e. found_has (is_at_least vs c.args.value) c.take.new.self.leaves b
    (sym c.first_at_least-before.ensures ∙ e)

pub invariant_of-self : goal.invariant_of-self
invariant_of-self g c =
    let s = c.self.inside in
    let vs = slice_set s.values.items c.args.id c.args.value in
    let there : has s.leaves.leaves c.args.id ≡ true =
    subst (λ (p : Pooled g.row.T.Denot). has p.leaves c.args.id ≡ true) (sym c.self.view_is)
    c.requires in
    let found = c.first_at_least-before.ensures
    ∙ ap (λ (o : OpenLeaves). find (is_at_least vs c.args.value) o.leaves) c.take.ensures in
    rw c.put.ensures (rw c.take.ensures
    (sound_set s.tree s.values.items (vec_capacity s.values) (length s.payloads.items)
    (vec_capacity s.payloads) s.leaves c.args.id c.args.value c.self.invariant
    c.first_at_least-before.result there found))

pub returns : goal.returns
returns g c =
    let s = c.self.inside in
    let vs = slice_set s.values.items c.args.id c.args.value in
    let before = c.first_at_least-before.result in
    let there : has s.leaves.leaves c.args.id ≡ true =
    subst (λ (p : Pooled g.row.T.Denot). has p.leaves c.args.id ≡ true) (sym c.self.view_is)
    c.requires in
    let found = c.first_at_least-before.ensures
    ∙ ap (λ (o : OpenLeaves). find (is_at_least vs c.args.value) o.leaves) c.take.ensures in
    let on : OpenLeaves → OpenLeaves =
    λ o. record { leaves = put_before c.args.id before o.leaves; room = o.room } in
    let holding : List ℕ → OpenLeaves = λ xs. record { leaves = xs; room = s.leaves.room } in
    let put : c.put.new.self
    ≡ holding (placed vs c.args.value c.args.id (without c.args.id s.leaves.leaves)) =
    c.put.ensures
    ∙ (ap on c.take.ensures
    ∙ ap holding
    (leaves_set s.tree s.values.items (vec_capacity s.values) (length s.payloads.items)
    (vec_capacity s.payloads) s.leaves c.args.id c.args.value c.self.invariant before there
    found)) in
    rw put (ap (λ (p : Pooled g.row.T.Denot). with_value p c.args.id c.args.value) c.self.view_is)
