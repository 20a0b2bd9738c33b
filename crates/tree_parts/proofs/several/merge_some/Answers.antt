use Rattle.std.proofs.Common.{◌≡◌, ◌<◌, ◌∷◌, [], List, ap, ◌∙◌, sym, subst, length, IfOk, arith}
use Rattle.tree_text_laws.specs.pns_rules.Shape.{shape_of}
use Rattle.tree_text_laws.specs.tree_rules.Tree.{IsTree}
use Rattle.tree_text_laws.specs.tree_rules.Claim.{Claim}
use Rattle.tree_text_laws.specs.tree_rules.Accepted.{first_node}
use Rattle.tree_text_laws.specs.branch_tree.View.{claim_of}
use Rattle.tree_text_laws.specs.tree_text_rules.OpenLeaves.{OpenAt, open_leaves, IsAmong}
use Rattle.tree_text_laws.specs.tree_text_rules.Part.{start_of}
use Rattle.tree_parts.specs.Splices.{cheapest, settled}
use Rattle.cert_check.specs.declared.open_leaf.OpenLeaf.{OpenLeaf}
use Rattle.cert_check.specs.OpenLeaves.{leaves_at}
use Rattle.tree_parts.specs.Waiting.{splices_of, IsOneMore}
use Rattle.tree_parts.proofs.Growing.{one_waits, stops_first, stops_without, all_merged}
use Rattle.tree_parts.proofs.Growing.{stops_at_first}
use Rattle.tree_text_laws.specs.tree_rules.Accepted.{Tree}
use Rattle.tree_parts.specs.Splices.{spliced}
use Rattle.tree_parts.specs.declared.waiting.Waiting.{Waiting}
use Rattle.tree_parts.specs.Waiting.{AreWithin}
use Rattle.tree_parts.proofs.Growing.{IsGrowing, no_items}
use Rattle.tree_parts.proofs.LaidNodes.{put_within}
use Rattle.tree_parts.proofs.several.merge_some.Goals as goal

pub putting-preserved : goal.putting-preserved
putting-preserved c =
    let p = c.args.site.now in
    let tree = c.args.whole in
    let part = c.index-parts-at.result in
    let old = splices_of c.putting.waiting.items in
    let new = splices_of c.take_next.new.waiting.items in
    let told : leaves_at c.deref.result.now ≡ open_leaves (shape_of p) (first_node ∷ []) tree 0 =
    ap (λ (ls : List OpenLeaf). leaves_at ls) c.deref.ensures.value ∙ c.in-Ok.ensures.leaves in (
      one_waits p c.open_leaves_stand.ensures c.grafts_are_partial.ensures.tree
          c.grafts_are_partial.ensures.partial (claim_of c.args.claim) tree c.args.parts.now
          c.putting.at old new
          (claim_of c.putting.both) (claim_of c.in-Ok-cheapest.next) part c.putting.invariant.0
          (subst (λ (ls : List OpenAt). IsOneMore ls part old new) told
          (c.in-Ok-take_next.ensures.put c.if-not-taken.false))
          (subst IsTree c.tree.ensures c.is_tree-in-putting.ensures)
          c.in-Ok-take_next.ensures.partial
          (c.in-Ok-cheapest.ensures
          ∙ ap (λ (o : Claim). cheapest (claim_of c.putting.both) o) c.claim.ensures)
          c.putting-test.true c.index-parts-at.is,
      c.putting.invariant.1,
    )

pub returns-in-Err-clause-fault : goal.returns-in-Err-clause-fault
returns-in-Err-clause-fault c =
    stops_first c.args.site.now (claim_of c.args.claim) c.args.whole c.args.parts.now c.in-Err.fault
    c.requires.some c.in-Err.ensures.fault

pub returns-then-at-eq0-clause-fault : goal.returns-then-at-eq0-clause-fault
returns-then-at-eq0-clause-fault c =
    let p = c.args.site.now in
    let part = c.index-parts-at.result in
    let told : leaves_at c.deref.result.now
    ≡ open_leaves (shape_of p) (first_node ∷ []) c.args.whole 0 =
    ap (λ (ls : List OpenLeaf). leaves_at ls) c.deref.ensures.value ∙ c.in-Ok.ensures.leaves in
    let none =
    c.in-Ok-take_next.ensures.none c.if-not-taken.true
    (no_items c.putting.waiting.items c.putting.at c.if-at-eq0.true
    c.putting.invariant.0.count) in
    stops_without p c.open_leaves_stand.ensures (claim_of c.args.claim) c.args.whole
    c.args.parts.now c.putting.at (splices_of c.putting.waiting.items) (claim_of c.putting.both)
    part c.putting.invariant.0
    c.if-at-eq0.true c.putting-test.true c.index-parts-at.is c.in-Ok-take_next.ensures.partial
    (λ k among. none k
    (subst (λ (ls : List OpenAt). IsAmong (record { number = k; node = start_of part }) ls)
    (sym told) among))

pub put_all-requires-clause-within : goal.put_all-requires-clause-within
put_all-requires-clause-within c =
    let kept = c.in-Ok-take_next.ensures.kept c.if-not-taken.true in
    let same : c.take_next.new.waiting.items ≡ c.putting.waiting.items = λ i. (kept i).items in
    subst (λ (t : Tree). AreWithin (length t) (splices_of c.take_next.new.waiting.items))
    (sym c.putting.invariant.1)
    (subst (λ (ws : List Waiting). AreWithin (length c.args.whole) (splices_of ws)) (sym same)
    (put_within c.args.site.now first_node c.args.whole (splices_of c.putting.waiting.items)
    c.putting.invariant.0.put))

pub put_all-requires-clause-tree : goal.put_all-requires-clause-tree
put_all-requires-clause-tree c =
    let kept = c.in-Ok-take_next.ensures.kept c.if-not-taken.true in
    let same : c.take_next.new.waiting.items ≡ c.putting.waiting.items = λ i. (kept i).items in
    subst (λ (t : Tree). IsTree (spliced (splices_of c.take_next.new.waiting.items) t))
    (sym c.putting.invariant.1)
    (subst (λ (ws : List Waiting). IsTree (spliced (splices_of ws) c.args.whole)) (sym same)
    c.putting.invariant.0.whole)

pub put_all-requires-2-clause-within : goal.put_all-requires-2-clause-within
put_all-requires-2-clause-within c =
    subst (λ (t : Tree). AreWithin (length t) (splices_of c.putting.waiting.items))
    (sym c.putting.invariant.1)
    (put_within c.args.site.now first_node c.args.whole (splices_of c.putting.waiting.items)
    c.putting.invariant.0.put)

pub put_all-requires-2-clause-tree : goal.put_all-requires-2-clause-tree
put_all-requires-2-clause-tree c =
    subst (λ (t : Tree). IsTree (spliced (splices_of c.putting.waiting.items) t))
    (sym c.putting.invariant.1) c.putting.invariant.0.whole

pub returns-then-not-taken-clause-merged : goal.returns-then-not-taken-clause-merged
returns-then-not-taken-clause-merged c =
    let p = c.args.site.now in
    let claim = claim_of c.args.claim in
    let running = claim_of c.putting.both in
    let new = splices_of c.take_next.new.waiting.items in
    let kept = c.in-Ok-take_next.ensures.kept c.if-not-taken.true in
    let same : c.take_next.new.waiting.items ≡ c.putting.waiting.items = λ i. (kept i).items in
    let now : IsGrowing p claim c.args.whole c.args.parts.now c.putting.at new running =
    subst
    (λ (ws : List Waiting). IsGrowing p claim c.args.whole c.args.parts.now c.putting.at
    (splices_of ws) running) (sym same) c.putting.invariant.0 in
    let not_first = c.if-at-eq0.false in
    let some : 0 < c.putting.at = omega (arith, not_first) in
    all_merged p claim c.args.whole c.args.parts.now c.putting.at new running c.put_all.result now
    some c.put_all.ensures.count
    (subst (λ (t : Tree). IfOk c.put_all.result (λ m. m.tree ≡ spliced new t)) c.putting.invariant.1
    c.put_all.ensures.tree)
    (subst
    (λ (t : Tree). IfOk c.put_all.result
    (λ m. claim_of m.claim ≡ settled running (spliced new t))) c.putting.invariant.1
    c.put_all.ensures.claim)

pub returns-then-not-taken-clause-fault : goal.returns-then-not-taken-clause-fault
returns-then-not-taken-clause-fault c =
    stops_at_first c.args.site.now (claim_of c.args.claim) c.args.whole c.args.parts.now
    c.put_all.result c.requires.some c.put_all.ensures.fault

pub returns-clause-fault : goal.returns-clause-fault
returns-clause-fault c =
    stops_at_first c.args.site.now (claim_of c.args.claim) c.args.whole c.args.parts.now
    c.put_all-2.result c.requires.some c.put_all-2.ensures.fault
