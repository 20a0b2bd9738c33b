-- The network of each leaf among children.
use Rattle.std.proofs.Common.{◌≡◌, Bool, true, false, cond, List, [], ◌∷◌, ◌++◌, Option, Some}
use Rattle.std.proofs.Common.{None, sym, ap, ◌∙◌, subst, true≢false}
use Rattle.std.specs.Prelude.{is_some}
use Rattle.std.proofs.lemmas.List.{map-append}
use Rattle.structure_list.specs.problem_rules.Problem.{Problem}
use Rattle.search_tree.specs.tree_rules.Tree.{End, leaf}
use Rattle.search_tree.specs.tree_rules.Claim as claims
use Rattle.search_tree.specs.tree_rules.Leaf.{Leaf, dead, clash, refuted, bounded, charged, untried}
use Rattle.search_tree.specs.tree_rules.Leaf.{LeafPasses}
use Rattle.search_tree.specs.Cells.{Cell, place_of}
use Rattle.search_tree.specs.declared.growth.Fresh.{Fresh}
use Rattle.node_evaluation.specs.declared.looks.Looked.{Looked}
use Rattle.node_evaluation.specs.declared.children.Children.{Children}
use Rattle.node_evaluation.specs.Looks.{cost_of, is_bounded, is_charged, AreFoundAt}
use Rattle.node_evaluation.specs.Children.{cells_of, IsSolvedBy, AreSolvedBy}

-- a leaf that passes for its network is solved by it
pub solved_by : (p : Problem) (c : Cell) (w : Option claims.Network) (what : Leaf)
    → c.end ≡ leaf what → LeafPasses true p (cost_of w) (place_of c) what
    → AreFoundAt p (place_of c) w
    → is_some w ≡ is_bounded c.end → is_charged c.end ≡ false → IsSolvedBy p c w
solved_by p c None what e passes found b u = (sym b, u)
solved_by p c (Some w) (dead x) e passes found b u =
    absurd (true≢false (b ∙ ap (λ (d : End Leaf). is_bounded d) e))
solved_by p c (Some w) (clash k) e passes found b u =
    absurd (true≢false (b ∙ ap (λ (d : End Leaf). is_bounded d) e))
solved_by p c (Some w) (refuted ys) e passes found b u =
    absurd (true≢false (b ∙ ap (λ (d : End Leaf). is_bounded d) e))
solved_by p c (Some w) (bounded d ys) e passes found b u =
    record { d = d; ys = ys; end_is = e; found = found; bounded = passes }
solved_by p c (Some w) (charged h) e passes found b u =
    absurd (true≢false (b ∙ ap (λ (d : End Leaf). is_bounded d) e))
solved_by p c (Some w) (untried low) e passes found b u =
    absurd (true≢false (b ∙ ap (λ (d : End Leaf). is_bounded d) e))

solved-append : (p : Problem) (cs ds : List Cell) (ws vs : List (Option claims.Network))
    → AreSolvedBy p cs ws → AreSolvedBy p ds vs → AreSolvedBy p (cs ++ ds) (ws ++ vs)
solved-append p [] ds [] vs h k = k
solved-append p [] ds (w ∷ ws) vs h k = absurd h
solved-append p (c ∷ cs) ds [] vs h k = absurd h
solved-append p (c ∷ cs) ds (w ∷ ws) vs h k = (h.0, solved-append p cs ds ws vs h.1 k)

-- with one child more
solved_more : (p : Problem) (old new : Children) (l : Looked) (all : Bool) → all ≡ true
    → new.nodes.items ≡ old.nodes.items ++ record { cell = l.cell; value = l.value } ∷ []
    → new.networks.items ≡ cond all (old.networks.items ++ l.network ∷ []) old.networks.items
    → AreSolvedBy p (cells_of old.nodes.items) old.networks.items
    → IsSolvedBy p l.cell l.network
    → AreSolvedBy p (cells_of new.nodes.items) new.networks.items
solved_more p old new l all e ek en h k =
    let cells : cells_of new.nodes.items ≡ cells_of old.nodes.items ++ l.cell ∷ []
    = ap (λ (fs : List Fresh). cells_of fs) ek
    ∙ map-append (λ (f : Fresh). f.cell) old.nodes.items
    (record { cell = l.cell; value = l.value } ∷ []) in
    let networks : new.networks.items ≡ old.networks.items ++ l.network ∷ []
    = en ∙ ap (λ b. cond b (old.networks.items ++ l.network ∷ []) old.networks.items) e in
    subst (λ (ws : List (Option claims.Network)). AreSolvedBy p (cells_of new.nodes.items) ws)
    (sym networks)
    (subst (λ (cs : List Cell). AreSolvedBy p cs (old.networks.items ++ l.network ∷ [])) (sym cells)
    (solved-append p (cells_of old.nodes.items) (l.cell ∷ []) old.networks.items (l.network ∷ []) h
    (k, tt)))

pub solved_after : (p : Problem) (old new : Children) (l : Looked) (all : Bool)
    → (all ≡ true → AreSolvedBy p (cells_of old.nodes.items) old.networks.items)
    → IsSolvedBy p l.cell l.network
    → new.nodes.items ≡ old.nodes.items ++ record { cell = l.cell; value = l.value } ∷ []
    → new.networks.items ≡ cond all (old.networks.items ++ l.network ∷ []) old.networks.items
    → all ≡ true → AreSolvedBy p (cells_of new.nodes.items) new.networks.items
solved_after p old new l all h k ek en e = solved_more p old new l all e ek en (h e) k

-- before the first child
pub solved_first : (p : Problem) (fs : List Fresh) (ws : List (Option claims.Network)) → fs ≡ []
    → ws ≡ [] → AreSolvedBy p (cells_of fs) ws
solved_first p fs ws ef ew =
    subst (λ (xs : List (Option claims.Network)). AreSolvedBy p (cells_of fs) xs) (sym ew)
    (subst (λ (gs : List Fresh). AreSolvedBy p (cells_of gs) []) (sym ef) tt)
