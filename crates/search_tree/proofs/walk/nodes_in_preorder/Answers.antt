use Rattle.std.proofs.Common.{◌≡◌, ℕ, ◌+◌, ◌<◌, ◌==◌, cond, List, [], ◌∷◌, ◌++◌, length, Option}
use Rattle.std.proofs.Common.{sym, ap, ◌∙◌, subst, arith, rules}
use Rattle.std.specs.Prelude.{option_copied}
use Rattle.std.specs.List.{range_with_len}
use Rattle.std.proofs.lemmas.Option.{get_or_from_slice_get}
use Rattle.tree_laws.specs.tree_rules.Accepted.{Tree}
use Rattle.search_tree.specs.declared.walk.Run.{Run}
use Rattle.search_tree.specs.Cells.{Cell, no_cell, cell_at, numbers_below, children_at}
use Rattle.search_tree.specs.declared.shut.Shut.{Shut}
use Rattle.search_tree.specs.Growth.{as_shut}
use Rattle.search_tree.specs.Preorder.{node_at, IsTreeIn}
use Rattle.search_tree.specs.Shut.{shut_end, shut_cells}
use Rattle.search_tree.specs.Runs.{to_come}
use Rattle.search_tree.proofs.RunLemmas.{to_come-push, come_none}
use Rattle.search_tree.proofs.ShutLemmas.{proof_of, shut_length, shut_at, children_stay}
use Rattle.search_tree.proofs.ShutLemmas.{shut_linked}
use Rattle.search_tree.proofs.WalkLemmas.{IsWalk, load, load_falls, walk_starts, walk_goes_on}
use Rattle.search_tree.proofs.WalkLemmas.{walk_ends}
use Rattle.search_tree.proofs.walk.nodes_in_preorder.Goals as goal

pub walk-init : goal.walk-init
walk-init c =
    let cells = shut_cells c.args.proofs.now c.args.pool.now.payloads in
    let first : Run = record { next = 0; more = 0 } in
    let stack : c.push.new.self.items ≡ first ∷ [] =
    c.in_ok-push.ensures.items
    ∙ ap (λ (rs : List Run). rs ++ first ∷ []) c.new-stack.ensures.items in
    subst
    (λ (rs : List Run). IsWalk cells c.args.wanted (to_come rs) c.new-order.result.items
    c.new-nodes.result.items 0) (sym stack)
    (subst (λ (ks : List ℕ). IsWalk cells c.args.wanted (0 ∷ []) ks c.new-nodes.result.items 0)
    (sym c.new-order.ensures.items)
    (subst (λ (ts : Tree). IsWalk cells c.args.wanted (0 ∷ []) [] ts 0)
    (sym c.new-nodes.ensures.items)
    (walk_starts cells
    (shut_linked c.args.proofs.now c.args.pool.now.payloads c.requires.linked) c.args.wanted)))

pub payload-cell-requires : goal.payload-cell-requires
payload-cell-requires c =
    let old_cells = c.args.pool.now.payloads in
    let cells = shut_cells c.args.proofs.now old_cells in
    let linked = shut_linked c.args.proofs.now old_cells c.requires.linked in
    let many : length cells ≡ length old_cells = shut_length c.args.proofs.now old_cells in
    let run = c.in-Some.run' in
    let stack = c.pop.new.self.items in
    let walk =
    subst
    (λ xs. IsWalk cells c.args.wanted xs c.walk.order.items c.walk.nodes.items c.walk.place)
    (to_come-push stack run)
    (subst
    (λ (xs : List Run). IsWalk cells c.args.wanted (to_come xs) c.walk.order.items
    c.walk.nodes.items c.walk.place) c.in-Some.ensures.items c.walk.invariant) in
    let there : run.next < length cells = walk.there.0 in
    let same = c.is_pool.ensures.payloads in
    omega (arith, there, same, many)

pub visit-requires : goal.visit-requires
visit-requires c =
    let old_cells = c.args.pool.now.payloads in
    let cells = shut_cells c.args.proofs.now old_cells in
    let linked = shut_linked c.args.proofs.now old_cells c.requires.linked in
    let many : length cells ≡ length old_cells = shut_length c.args.proofs.now old_cells in
    let run = c.in-Some.run' in
    let stack = c.pop.new.self.items in
    let walk =
    subst
    (λ xs. IsWalk cells c.args.wanted xs c.walk.order.items c.walk.nodes.items c.walk.place)
    (to_come-push stack run)
    (subst
    (λ (xs : List Run). IsWalk cells c.args.wanted (to_come xs) c.walk.order.items
    c.walk.nodes.items c.walk.place) c.in-Some.ensures.items c.walk.invariant) in
    let there : run.next < length cells = walk.there.0 in
    let same = c.is_pool.ensures.payloads in
    let few = c.is_pool.ensures.numbered in
    omega (arith, there, same, few, many)

pub walk-smaller : goal.walk-smaller
walk-smaller c =
    let old_cells = c.args.pool.now.payloads in
    let cells = shut_cells c.args.proofs.now old_cells in
    let linked = shut_linked c.args.proofs.now old_cells c.requires.linked in
    let many : length cells ≡ length old_cells = shut_length c.args.proofs.now old_cells in
    let run = c.in-Some.run' in
    let stack = c.pop.new.self.items in
    let rest = range_with_len (run.next + 1) run.more ++ to_come stack in
    let old : to_come c.walk.stack.items ≡ run.next ∷ rest =
    ap to_come c.in-Some.ensures.items ∙ to_come-push stack run in
    let walk : IsWalk cells c.args.wanted (run.next ∷ rest) c.walk.order.items c.walk.nodes.items
    c.walk.place
    = subst (λ xs. IsWalk cells c.args.wanted xs c.walk.order.items c.walk.nodes.items c.walk.place)
    old c.walk.invariant in
    let item : cell_at old_cells run.next ≡ c.payload-cell.result.now =
    get_or_from_slice_get old_cells run.next c.payload-cell.result.now no_cell
    c.payload-cell.ensures in
    let there : run.next < length old_cells = let t = walk.there.0 in omega (arith, t, many) in
    let shut : cell_at cells run.next
    ≡ as_shut (cell_at old_cells run.next)
    (shut_end (proof_of c.args.proofs.now run.next) (cell_at old_cells run.next).end) =
    shut_at c.args.proofs.now old_cells run.next there in
    let new : to_come c.visit.new.stack.items ≡ children_at cells run.next ++ rest
    = subst (λ (x : Cell). to_come c.visit.new.stack.items ≡ numbers_below x.first x.end ++ rest)
    (sym item) c.in_ok-visit.ensures.stack
    ∙ ap (λ xs. xs ++ rest) (sym (children_stay c.args.proofs.now old_cells run.next there)) in
    subst (λ xs. load (length cells) xs < load (length cells) (to_come c.walk.stack.items))
    (sym new)
    (subst (λ ys. load (length cells) (children_at cells run.next ++ rest) < load (length cells) ys)
    (sym old) (load_falls cells linked run.next rest walk.there.0))

pub walk-preserved : goal.walk-preserved
walk-preserved c =
    let old_cells = c.args.pool.now.payloads in
    let cells = shut_cells c.args.proofs.now old_cells in
    let linked = shut_linked c.args.proofs.now old_cells c.requires.linked in
    let many : length cells ≡ length old_cells = shut_length c.args.proofs.now old_cells in
    let run = c.in-Some.run' in
    let stack = c.pop.new.self.items in
    let rest = range_with_len (run.next + 1) run.more ++ to_come stack in
    let old : to_come c.walk.stack.items ≡ run.next ∷ rest =
    ap to_come c.in-Some.ensures.items ∙ to_come-push stack run in
    let walk : IsWalk cells c.args.wanted (run.next ∷ rest) c.walk.order.items c.walk.nodes.items
    c.walk.place
    = subst (λ xs. IsWalk cells c.args.wanted xs c.walk.order.items c.walk.nodes.items c.walk.place)
    old c.walk.invariant in
    let item : cell_at old_cells run.next ≡ c.payload-cell.result.now =
    get_or_from_slice_get old_cells run.next c.payload-cell.result.now no_cell
    c.payload-cell.ensures in
    let there : run.next < length old_cells = let t = walk.there.0 in omega (arith, t, many) in
    let shut : cell_at cells run.next
    ≡ as_shut (cell_at old_cells run.next)
    (shut_end (proof_of c.args.proofs.now run.next) (cell_at old_cells run.next).end) =
    shut_at c.args.proofs.now old_cells run.next there in
    let new : to_come c.visit.new.stack.items ≡ children_at cells run.next ++ rest
    = subst (λ (x : Cell). to_come c.visit.new.stack.items ≡ numbers_below x.first x.end ++ rest)
    (sym item) c.in_ok-visit.ensures.stack
    ∙ ap (λ xs. xs ++ rest) (sym (children_stay c.args.proofs.now old_cells run.next there)) in
    let seen : c.visit.new.nodes.items ≡ c.walk.nodes.items
    ++ record {
      option = (cell_at old_cells run.next).option;
      steps =
          (cell_at old_cells run.next).steps;
      end =
          shut_end (proof_of c.args.proofs.now run.next) (cell_at old_cells run.next).end;
    } ∷ []
    = subst (λ (q : Option Shut). c.visit.new.nodes.items ≡ c.walk.nodes.items
    ++ record {
      option = (cell_at old_cells run.next).option;
      steps =
          (cell_at old_cells run.next).steps;
      end = shut_end q (cell_at old_cells run.next).end;
    }
    ∷ []) c.proof_at-proof.ensures
    (subst (λ (x : Cell). c.visit.new.nodes.items ≡ c.walk.nodes.items
    ++ record {
      option = x.option;
      steps = x.steps;
      end =
          shut_end (option_copied c.proof_at-proof.result) x.end;
    } ∷ []) (sym item)
    c.in_ok-visit.ensures.nodes) in
    let nodes : c.visit.new.nodes.items ≡ c.walk.nodes.items ++ node_at cells run.next ∷ []
    = seen
    ∙ ap (λ (x : Cell). c.walk.nodes.items
    ++ record { option = x.option; steps = x.steps; end = x.end } ∷ []) (sym shut) in
    let count : c.len.result ≡ length c.walk.nodes.items = let a = c.len.ensures in search rules in
    let place : c.place_after-place.result
    ≡ cond (run.next == c.args.wanted) (length c.walk.nodes.items) c.walk.place
    = c.place_after-place.ensures
    ∙ ap (λ n. cond (run.next == c.args.wanted) n c.walk.place) count in
    subst
    (λ xs. IsWalk cells c.args.wanted xs c.visit.new.order.items c.visit.new.nodes.items
    c.place_after-place.result) (sym new)
    (subst
    (λ (ks : List ℕ). IsWalk cells c.args.wanted (children_at cells run.next ++ rest) ks
    c.visit.new.nodes.items c.place_after-place.result) (sym c.in_ok-visit.ensures.order)
    (subst
    (λ (ts : Tree). IsWalk cells c.args.wanted (children_at cells run.next ++ rest)
    (c.walk.order.items ++ run.next ∷ []) ts c.place_after-place.result) (sym nodes)
    (subst
    (λ k. IsWalk cells c.args.wanted (children_at cells run.next ++ rest)
    (c.walk.order.items ++ run.next ∷ []) (c.walk.nodes.items ++ node_at cells run.next ∷ []) k)
    (sym place)
    (walk_goes_on cells linked c.args.wanted run.next rest c.walk.order.items c.walk.nodes.items
    c.walk.place walk))))

pub ended-requires : goal.ended-requires
ended-requires c =
    let old_cells = c.args.pool.now.payloads in
    let cells = shut_cells c.args.proofs.now old_cells in
    let linked = shut_linked c.args.proofs.now old_cells c.requires.linked in
    let many : length cells ≡ length old_cells = shut_length c.args.proofs.now old_cells in
    let none : length c.walk.stack.items ≡ 0 = let h =
    c.in_default.ensures.cases.0 in search rules in
    let e : to_come c.walk.stack.items ≡ [] = come_none c.walk.stack.items none in
    let walk =
    subst
    (λ xs. IsWalk cells c.args.wanted xs c.walk.order.items c.walk.nodes.items c.walk.place) e
    c.walk.invariant in
    let r =
    walk_ends cells linked c.args.wanted (let w = c.requires.wanted in omega (arith, w, many))
    c.walk.order.items c.walk.nodes.items c.walk.place walk in
    let within = r.1 in
    let same = c.is_pool.ensures.payloads in
    let few = c.is_pool.ensures.numbered in
    omega (arith, within, same, few, many)

pub returns : goal.returns
returns c =
    let old_cells = c.args.pool.now.payloads in
    let cells = shut_cells c.args.proofs.now old_cells in
    let linked = shut_linked c.args.proofs.now old_cells c.requires.linked in
    let many : length cells ≡ length old_cells = shut_length c.args.proofs.now old_cells in
    let none : length c.walk.stack.items ≡ 0 = let h =
    c.in_default.ensures.cases.0 in search rules in
    let e : to_come c.walk.stack.items ≡ [] = come_none c.walk.stack.items none in
    let walk =
    subst
    (λ xs. IsWalk cells c.args.wanted xs c.walk.order.items c.walk.nodes.items c.walk.place) e
    c.walk.invariant in
    let r =
    walk_ends cells linked c.args.wanted (let w = c.requires.wanted in omega (arith, w, many))
    c.walk.order.items c.walk.nodes.items c.walk.place walk in
    subst
    (λ k. IsTreeIn cells c.args.wanted c.ended.result.order.items c.ended.result.nodes.items k)
    (sym c.ended.ensures.place)
    (subst (λ v. IsTreeIn cells c.args.wanted v.items c.ended.result.nodes.items c.walk.place)
    (sym c.ended.ensures.order)
    (subst (λ v. IsTreeIn cells c.args.wanted c.walk.order.items v.items c.walk.place)
    (sym c.ended.ensures.nodes) r.0))
