use Rattle.std.proofs.Common.{◌≡◌, ◌∙◌, ◌∷◌, [], List, ap, sym, subst}
use Rattle.std.proofs.lemmas.Result.{err_from_is_err_and}
use Rattle.tree_text_laws.specs.number_sets.Sets.{has}
use Rattle.tree_text_laws.specs.pns_rules.Shape.{shape_of}
use Rattle.tree_text_laws.specs.pns_rules.Nodes.{Node}
use Rattle.tree_text_laws.specs.pgraph.View.{node_of}
use Rattle.tree_text_laws.specs.tree_rules.Tree.{IsTree}
use Rattle.tree_text_laws.specs.tree_rules.Claim.{Claim}
use Rattle.tree_text_laws.specs.tree_rules.Accepted.{Tree, first_node, IsPartial}
use Rattle.tree_text_laws.specs.branch_tree.View.{claim_of}
use Rattle.tree_text_laws.specs.tree_text_rules.OpenLeaves.{OpenAt, open_leaves, IsAmong}
use Rattle.tree_text_laws.specs.tree_text_rules.Graft.{claim_of_both}
use Rattle.cert_check.specs.declared.open_leaf.OpenLeaf.{OpenLeaf}
use Rattle.cert_check.specs.OpenLeaves.{leaves_at}
use Rattle.tree_text_laws.specs.tree_text_rules.Part.{start_of}
use Rattle.tree_parts.proofs.merging.merge.Goals as goal

pub returns-in_err-leaves-clause-fault : goal.returns-in_err-leaves-clause-fault
returns-in_err-leaves-clause-fault c =
    let e = err_from_is_err_and c.from_residual.result c.from_residual.ensures.1 in
    rw (e.1, e.2) (c.in_err-leaves.ensures.fault c.args.part.now)

pub returns-in_default-clause-fault : goal.returns-in_default-clause-fault
returns-in_default-clause-fault c =
    let g = shape_of c.args.site.now in
    let tree = c.args.tree.now in
    let told : leaves_at c.deref.result.now ≡ open_leaves g (first_node ∷ []) tree 0 =
    ap (λ (ls : List OpenLeaf). leaves_at ls) c.deref.ensures.value
    ∙ c.in_ok-leaves.ensures.leaves in
    let start : node_of c.start-start.result ≡ start_of c.args.part.now =
    λ i. record {
      inside = has (c.start-start.ensures.inside i);
      outside =
          has (c.start-start.ensures.outside i);
    } in (
      c.in_ok-leaves.ensures.partial,
      c.in_ok-judge_part.ensures.partial,
      (λ k s.
          let l : OpenAt = record { number = k; node = start_of c.args.part.now } in
          let among =
          subst (λ (ls : List OpenAt). IsAmong l ls) (sym told)
          ((c.open_leaves_stand.ensures g first_node tree l).1 s) in
          c.in_default.ensures.none k
          (subst
          (λ (n : Node). IsAmong (record { number = k; node = n })
          (leaves_at c.deref.result.now)) (sym start) among)),
    )

pub put_back-requires : goal.put_back-requires
put_back-requires c =
    let g = shape_of c.args.site.now in
    let tree = c.args.tree.now in
    let told : leaves_at c.deref.result.now ≡ open_leaves g (first_node ∷ []) tree 0 =
    ap (λ (ls : List OpenLeaf). leaves_at ls) c.deref.ensures.value
    ∙ c.in_ok-leaves.ensures.leaves in
    let start : node_of c.start-start.result ≡ start_of c.args.part.now =
    λ i. record {
      inside = has (c.start-start.ensures.inside i);
      outside =
          has (c.start-start.ensures.outside i);
    } in
    let l : OpenAt = record { number = c.in-Some.at; node = start_of c.args.part.now } in
    let among =
    subst
    (λ (n : Node). IsAmong (record { number = c.in-Some.at; node = n })
    (leaves_at c.deref.result.now)) start c.in-Some.ensures.some in (
      c.args.site.now,
      (c.open_leaves_stand.ensures g first_node tree l).0
          (subst (λ (ls : List OpenAt). IsAmong l ls) told among),
    )

pub returns-in-Ok-clause-merged : goal.returns-in-Ok-clause-merged
returns-in-Ok-clause-merged c =
    let p = c.args.site.now in
    let g = shape_of p in
    let tree = c.args.tree.now in
    let part = c.args.part.now in
    let claim = claim_of c.args.claim.now in
    let at = c.in-Some.at in
    let told : leaves_at c.deref.result.now ≡ open_leaves g (first_node ∷ []) tree 0 =
    ap (λ (ls : List OpenLeaf). leaves_at ls) c.deref.ensures.value
    ∙ c.in_ok-leaves.ensures.leaves in
    let start : node_of c.start-start.result ≡ start_of part =
    λ i. record {
      inside = has (c.start-start.ensures.inside i);
      outside =
          has (c.start-start.ensures.outside i);
    } in
    let l : OpenAt = record { number = at; node = start_of part } in
    let among =
    subst
    (λ (n : Node). IsAmong (record { number = at; node = n }) (leaves_at c.deref.result.now))
    start c.in-Some.ensures.some in
    let stands =
    (c.open_leaves_stand.ensures g first_node tree l).0
    (subst (λ (ls : List OpenAt). IsAmong l ls) told among) in
    let whole = c.in-Ok.found.1 in
    let law =
    c.grafts_are_partial.ensures.partial p first_node (start_of part) claim part.claim tree
    part.tree at c.is_tree.ensures (subst IsTree c.tree.ensures c.is_tree-2.ensures)
    c.in_ok-leaves.ensures.partial c.in_ok-judge_part.ensures.partial stands in
    record {
      tree_proves = c.in_ok-leaves.ensures.partial;
      part_proves = c.in_ok-judge_part.ensures.partial;
      place = at;
      leaf_is = stands;
      tree_is = c.in-Ok.ensures.tree;
      claim_is = c.in-Ok.ensures.claim;
      partial =
          subst (λ (q : Claim). IsPartial p first_node q whole) (sym c.in-Ok.ensures.claim)
          (subst (λ (w : Tree). IsPartial p first_node (claim_of_both claim part.claim w) w)
          (sym c.in-Ok.ensures.tree) law);
    }
