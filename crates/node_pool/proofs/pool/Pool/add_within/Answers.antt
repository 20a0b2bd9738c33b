use Rattle.std.proofs.Common.{◌≡◌, ◌<◌, ◌+◌, ◌-◌, ◌++◌, ◌∷◌, [], length, sym, ap, ◌∙◌, subst}
use Rattle.std.proofs.Common.{length-append, arith}
use Rattle.std.specs.Prelude.{vec_capacity}
use Rattle.node_pool.specs.Tree.{Branches}
use Rattle.node_pool.specs.Order.{OpenLeaves, is_at_least, placed, put_before}
use Rattle.node_pool.specs.Pooled.{Pooled}
use Rattle.node_pool.proofs.Places.{found_has}
use Rattle.node_pool.proofs.Sound.{leaves_added, sound_added}
use Rattle.node_pool.proofs.pool.Pool.add_within.Goals as goal

pub put-requires-clause-before : goal.put-requires-clause-before
put-requires-clause-before g c =
    λ b e. found_has (is_at_least c.self.inside.values.items c.args.value)
    c.self.inside.leaves.leaves b (sym c.first_at_least-before.ensures ∙ e)

pub invariant_of-self : goal.invariant_of-self
invariant_of-self g c =
    let s = c.self.inside in
    let spare : 0 < s.leaves.room - length s.tree.parents =
    subst (λ (p : Pooled g.row.T.Denot). 0 < p.spare) (sym c.self.view_is) c.requires.spare in
    let room : length s.tree.parents < s.leaves.room = omega arith in
    let more = length-append s.payloads.items (c.args.payload ∷ []) in
    let long = ap length c.push_reserved-2.ensures.items in
    let len : length c.push_reserved-2.new.self.items ≡ length s.payloads.items + 1 = omega arith in
    rw c.push.ensures (rw c.push_reserved.ensures.items (rw c.put.ensures (rw c.len-id.ensures
    (sound_added s.tree s.values.items (vec_capacity s.values) (length s.payloads.items)
    (vec_capacity s.payloads) s.leaves c.args.parent c.args.value c.first_at_least-before.result
    c.self.invariant room c.first_at_least-before.ensures
    (vec_capacity c.push_reserved.new.self) (length c.push_reserved-2.new.self.items)
    (vec_capacity c.push_reserved-2.new.self) c.push_reserved.ensures.capacity len
    c.push_reserved-2.ensures.capacity))))

pub returns-clause-added : goal.returns-clause-added
returns-clause-added g c =
    let s = c.self.inside in
    let spare : 0 < s.leaves.room - length s.tree.parents =
    subst (λ (p : Pooled g.row.T.Denot). 0 < p.spare) (sym c.self.view_is) c.requires.spare in
    let room : length s.tree.parents < s.leaves.room = omega arith in
    record {
      parents = ap (λ (t : Branches). t.parents) c.push.ensures
          ∙ ap (λ (p : Pooled g.row.T.Denot). p.parents ++ c.args.parent ∷ []) c.self.view_is;
      values = c.push_reserved.ensures.items
          ∙ ap (λ (p : Pooled g.row.T.Denot). p.values ++ c.args.value ∷ []) c.self.view_is;
      payloads = c.push_reserved-2.ensures.items
          ∙ ap (λ (p : Pooled g.row.T.Denot). p.payloads ++ c.args.payload ∷ []) c.self.view_is;
      leaves = ap (λ (o : OpenLeaves). o.leaves) c.put.ensures
          ∙ (ap (λ n. put_before n c.first_at_least-before.result s.leaves.leaves) c.len-id.ensures
          ∙ (leaves_added s.tree s.values.items (vec_capacity s.values) (length s.payloads.items)
          (vec_capacity s.payloads) s.leaves c.args.parent c.args.value
          c.first_at_least-before.result c.self.invariant room c.first_at_least-before.ensures
          ∙ ap
          (λ (p : Pooled g.row.T.Denot). placed p.values c.args.value (length p.parents)
          p.leaves) c.self.view_is));
    }
