use Rattle.std.proofs.Common.{◌≡◌, length, arith, ◌++◌, ◌∷◌, [], List, ap, ◌∙◌, length-append}
use Rattle.node_evaluation.specs.search_tree.declared.growth.Fresh.{Fresh}
use Rattle.abb_search.proofs.HandLemmas.{placing_goes_on}
use Rattle.abb_search.proofs.hand.place_all.Goals as goal

pub children-preserved : goal.children-preserved
children-preserved c =
    let h = c.children.invariant in
    let f = c.in-Some.fresh in
    let el : c.children.children.items ≡ c.pop.new.self.items ++ f ∷ [] = c.in-Some.ensures.items in
    let n = ap (λ (fs : List Fresh). length fs) el ∙ length-append c.pop.new.self.items (f ∷ []) in
    let m = ap (λ (fs : List Fresh). length fs) c.push_reserved.ensures.items
    ∙ length-append c.children.placed.items (c.place.result ∷ []) in
    let a = c.place.ensures.len in
    let b = c.place.ensures.capacity in
    let d = c.push_reserved.ensures.capacity in
    let room = h.1 in
    let space = h.2 in (
      placing_goes_on c.args.children.items c.args.ready.items c.args.hand.now
          c.children.children.items c.pop.new.self.items c.children.ready.items
          c.take_last-at_hand.new.ready.items c.children.hand c.place.new.hand
          c.children.placed.items c.push_reserved.new.self.items f c.place.result
          c.take_last-at_hand.result h.0 el c.take_last-at_hand.ensures
          c.push_reserved.ensures.items c.place.ensures.placed,
      omega (arith, n, a, b, room),
      omega (arith, n, m, d, space),
    )
