-- Cells of which open leaves are shut are linked as before.
use Rattle.std.proofs.Common.{◌≡◌, ℕ, zero, suc, ◌<◌, false, List, [], ◌∷◌, length, Option, Some}
use Rattle.std.proofs.Common.{None, refl, sym, ap, ◌∙◌, subst, arith, true≢false}
use Rattle.std.specs.Prelude.{slice_index_or}
use Rattle.tree_laws.specs.tree_rules.Tree.{End, branch, leaf}
use Rattle.tree_laws.specs.tree_rules.Leaf.{Leaf, dead, clash, refuted, bounded, charged, untried}
use Rattle.search_tree.specs.declared.shut.Shut.{Shut}
use Rattle.search_tree.specs.Cells.{Cell, cell_at, times, numbers_below, children_at, AreBehind}
use Rattle.search_tree.specs.Cells.{IsLinked}
use Rattle.search_tree.specs.Growth.{is_open, as_shut}
use Rattle.search_tree.specs.Shut.{shut_leaf, shut_end, shut_cells}

-- an end that is not open stays
closed_leaf : (s : Shut) (l : Leaf) → is_open (leaf l) ≡ false → shut_leaf (Some s) l ≡ l
closed_leaf s (dead x) h = refl
closed_leaf s (clash k) h = refl
closed_leaf s (refuted ys) h = refl
closed_leaf s (bounded d ys) h = refl
closed_leaf s (charged c) h = refl
closed_leaf s (untried low) h = absurd (true≢false h)

pub closed_stays : (s : Shut) (e : End Leaf) → is_open e ≡ false → shut_end (Some s) e ≡ e
closed_stays s (branch w) h = refl
closed_stays s (leaf l) h = ap (λ (k : Leaf). leaf k) (closed_leaf s l h)

pub unproved_stays : (e : End Leaf) → shut_end None e ≡ e
unproved_stays (branch w) = refl
unproved_stays (leaf l) = refl

pub numbers_stay : (f : ℕ) (s : Option Shut) (e : End Leaf)
    → numbers_below f (shut_end s e) ≡ numbers_below f e
numbers_stay f s (branch w) = refl
numbers_stay f s (leaf l) = refl

behind_stays : (n i f : ℕ) (s : Option Shut) (e : End Leaf) → AreBehind n i f e
    → AreBehind n i f (shut_end s e)
behind_stays n i f s (branch w) h = h
behind_stays n i f s (leaf l) h = tt

abbrev pub proof_of : List (Option Shut) → ℕ → Option Shut
proof_of ss i = slice_index_or ss i None

same_cell : (c : Cell) → as_shut c (shut_end None c.end) ≡ c
same_cell c = ap (λ (e : End Leaf). as_shut c e) (unproved_stays c.end)

pub shut_length : (ss : List (Option Shut)) (cs : List Cell) → length (shut_cells ss cs) ≡ length cs
shut_length [] cs = refl
shut_length (s ∷ ss) [] = refl
shut_length (s ∷ ss) (c ∷ cs) = ap suc (shut_length ss cs)

pub shut_at : (ss : List (Option Shut)) (cs : List Cell) (i : ℕ) → i < length cs
    → cell_at (shut_cells ss cs) i
    ≡ as_shut (cell_at cs i) (shut_end (proof_of ss i) (cell_at cs i).end)
shut_at [] cs i lt = sym (same_cell (cell_at cs i))
shut_at (s ∷ ss) [] i lt = absurd (omega (arith, lt))
shut_at (s ∷ ss) (c ∷ cs) zero lt = refl
shut_at (s ∷ ss) (c ∷ cs) (suc i) lt = shut_at ss cs i (omega (arith, lt))

module _ (ss : List (Option Shut)) (cs : List Cell) where
  pub children_stay : (i : ℕ) → i < length cs → children_at (shut_cells ss cs) i ≡ children_at cs i
  children_stay i lt = ap (λ (c : Cell). numbers_below c.first c.end) (shut_at ss cs i lt)
      ∙ numbers_stay (cell_at cs i).first (proof_of ss i) (cell_at cs i).end

  within : (i : ℕ) → i < length (shut_cells ss cs) → i < length cs
  within i lt = let e = shut_length ss cs in omega (arith, lt, e)

  pub shut_linked : IsLinked cs → IsLinked (shut_cells ss cs)
  shut_linked h = record {
    some = let a = h.some in let e = shut_length ss cs in omega (arith, a, e);
    behind =
        λ i lt. subst (λ (c : Cell). AreBehind (length (shut_cells ss cs)) i c.first c.end)
        (sym (shut_at ss cs i (within i lt)))
        (behind_stays (length (shut_cells ss cs)) i (cell_at cs i).first (proof_of ss i)
        (cell_at cs i).end
        (subst (λ n. AreBehind n i (cell_at cs i).first (cell_at cs i).end)
        (sym (shut_length ss cs)) (h.behind i (within i lt))));
    parent = λ j some lt. let q = h.parent j some (within j lt) in (
      q.0,
      record {
        before = q.1.before;
        once = λ v less. ap (λ xs. times j xs) (children_stay v (within v less))
            ∙ q.1.once v (within v less);
      },
    );
  }
