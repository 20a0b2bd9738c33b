-- Each cell is once in a preorder: a cell as often as its parent, and the root once. So there are
-- as many nodes as cells.
use Rattle.std.proofs.Common.{◌≡◌, ℕ, zero, suc, ◌+◌, ◌<◌, ◌≤◌, ◌==◌, Bool, true, false, cond, List}
use Rattle.std.proofs.Common.{[], ◌∷◌, ◌++◌, length, refl, sym, ap, ◌∙◌, subst, arith, eq-eqb}
use Rattle.std.proofs.Common.{ne_eqb, inl, inr}
use Rattle.std.specs.List.{range_with_len}
use Rattle.std.proofs.lemmas.Bool.{cases_eq}
use Rattle.tree_laws.specs.tree_rules.Ways.{width}
use Rattle.tree_laws.specs.tree_rules.Tree.{End, branch, leaf}
use Rattle.tree_laws.specs.tree_rules.Leaf.{Leaf}
use Rattle.search_tree.specs.Cells.{Cell, cell_at, times, numbers_below, children_at, AreBehind}
use Rattle.search_tree.specs.Cells.{IsParentOf, IsLinked}
use Rattle.search_tree.specs.Preorder.{IsPreorder}
use Rattle.search_tree.proofs.TreeLemmas.{AreThere, there-append, children_there}

pub times-append : (j : ℕ) (is ks : List ℕ) → times j (is ++ ks) ≡ times j is + times j ks
times-append j [] ks = omega arith
times-append j (i ∷ is) ks = let h = times-append j is ks in omega arith

abbrev pub one_if : Bool → ℕ
one_if b = cond b 1 0

-- how often j is a child of a number of the list
abbrev as_child : List Cell → ℕ → List ℕ → ℕ
as_child cells j [] = 0
as_child cells j (v ∷ vs) = times j (children_at cells v) + as_child cells j vs

-- what is in a preorder was to come at its start or is a child of what is in it
times_are : (cells : List Cell) (j : ℕ) (is order : List ℕ) → IsPreorder cells is order
    → times j order ≡ times j is + as_child cells j order
times_are cells j [] [] p = refl
times_are cells j [] (k ∷ ks) p = absurd p
times_are cells j (i ∷ is) [] p = absurd p
times_are cells j (i ∷ is) (k ∷ ks) p =
    let rest = times_are cells j (children_at cells i ++ is) ks p.1 in
    let split = times-append j (children_at cells i) is in
    let same : times j (children_at cells k) ≡ times j (children_at cells i) =
    ap (λ v. times j (children_at cells v)) p.0 in
    let here : one_if (k == j) ≡ one_if (i == j) = ap (λ v. one_if (v == j)) p.0 in
    omega (arith, rest, split, same, here)

are_there : (cells : List Cell) → IsLinked cells → (is order : List ℕ) → AreThere cells is
    → IsPreorder cells is order → AreThere cells order
are_there cells linked [] [] there p = tt
are_there cells linked [] (k ∷ ks) there p = absurd p
are_there cells linked (i ∷ is) [] there p = absurd p
are_there cells linked (i ∷ is) (k ∷ ks) there p = (
  subst (λ v. v < length cells) (sym p.0) there.0,
  are_there cells linked (children_at cells i ++ is) ks
      (there-append cells (children_at cells i) is (children_there cells linked i there.0)
      there.1) p.1,
)

-- a child is there as often as its one parent
child_times : (cells : List Cell) (q j : ℕ) → IsParentOf cells q j → (vs : List ℕ)
    → AreThere cells vs → as_child cells j vs ≡ times q vs
child_times cells q j parent [] there = refl
child_times cells q j parent (v ∷ vs) there =
    let rest = child_times cells q j parent vs there.1 in
    let here = parent.once v there.0 in
    omega arith

not_below : (j f c : ℕ) → j < f → times j (range_with_len f c) ≡ 0
not_below j f zero h = refl
not_below j f (suc c) h =
    let rest = not_below j (f + 1) c (omega (arith, h)) in
    let apart : (f == j) ≡ false = ne_eqb f j (λ e. omega (arith, h, e)) in
    rw apart (omega (arith, rest))

root_below : (n i f : ℕ) (e : End Leaf) → AreBehind n i f e → times 0 (numbers_below f e) ≡ 0
root_below n i f (branch w) h = not_below 0 f (width w) (let a = h.1 in omega arith)
root_below n i f (leaf l) h = refl

-- the root is no child
root_times : (cells : List Cell) → IsLinked cells → (vs : List ℕ) → AreThere cells vs
    → as_child cells 0 vs ≡ 0
root_times cells linked [] there = refl
root_times cells linked (v ∷ vs) there =
    let rest = root_times cells linked vs there.1 in
    let here =
    root_below (length cells) v (cell_at cells v).first (cell_at cells v).end
    (linked.behind v there.0) in
    omega arith

module _ (cells : List Cell) (linked : IsLinked cells) (order : List ℕ)
    (p : IsPreorder cells (0 ∷ []) order) where
  all_there : AreThere cells order
  all_there = are_there cells linked (0 ∷ []) order (linked.some, tt) p

  root_once : times 0 order ≡ 1
  root_once =
      let a = times_are cells 0 (0 ∷ []) order p in
      let b = root_times cells linked order all_there in
      omega arith

  -- by the least number that would be there another number of times
  pub once : (fuel j : ℕ) → j < fuel → j < length cells → times j order ≡ 1
  once zero j less lt = absurd (omega (arith, less))
  once (suc fuel) zero less lt = root_once
  once (suc fuel) (suc j) less lt = let q =
      linked.parent (suc j) (omega arith) lt in
      at q.0 q.1 (once fuel q.0 (before q.0 q.1 less) (there q.0 q.1 lt))
    where
      before : (q : ℕ) → IsParentOf cells q (suc j) → suc j < suc fuel → q < fuel
      before q parent less = let b = parent.before in omega (arith, less, b)

      there : (q : ℕ) → IsParentOf cells q (suc j) → suc j < length cells → q < length cells
      there q parent lt = let b = parent.before in omega (arith, lt, b)

      at : (q : ℕ) → IsParentOf cells q (suc j) → times q order ≡ 1 → times (suc j) order ≡ 1
      at q parent one =
          let a = times_are cells (suc j) (0 ∷ []) order p in
          let b = child_times cells q (suc j) parent order all_there in
          let apart : one_if (0 == suc j) ≡ 0 =
          ap one_if (ne_eqb 0 (suc j) (λ e. omega (arith, e))) in
          omega (arith, a, b, apart, one)

-- ---- a list is as long as its numbers are many
abbrev sum_times : List ℕ → ℕ → ℕ
sum_times order zero = 0
sum_times order (suc n) = sum_times order n + times n order

sum-none : (n : ℕ) → sum_times [] n ≡ 0
sum-none zero = refl
sum-none (suc n) = let h = sum-none n in omega arith

one-below : (i n : ℕ) → ℕ
one-below i zero = 0
one-below i (suc n) = one-below i n + cond (i == n) 1 0

sum-cons : (i : ℕ) (is : List ℕ) (n : ℕ) → sum_times (i ∷ is) n ≡ one-below i n + sum_times is n
unfolding one-below
sum-cons i is zero = refl
sum-cons i is (suc n) = let h = sum-cons i is n in omega arith

one-past : (i n : ℕ) → n ≤ i → one-below i n ≡ 0
unfolding one-below
one-past i zero h = refl
one-past i (suc n) h =
    let rest = one-past i n (omega (arith, h)) in
    let apart : (i == n) ≡ false = ne_eqb i n (λ e. omega (arith, h, e)) in
    rw apart (omega (arith, rest))

one-is : (i n : ℕ) → i < n → one-below i n ≡ 1
unfolding one-below
one-is i zero h = absurd (omega (arith, h))
one-is i (suc n) h = elim (cases_eq i n) [
  | inl e ↦
      let rest = one-past i n (omega (arith, e)) in
      let here : (i == n) ≡ true = eq-eqb i n e in
      rw here (omega (arith, rest))
  | inr ne ↦
      let rest = one-is i n (omega (arith, h, ne)) in
      let apart : (i == n) ≡ false = ne_eqb i n ne in
      rw apart (omega (arith, rest))
]

length-times : (cells : List Cell) (order : List ℕ) → AreThere cells order
    → length order ≡ sum_times order (length cells)
length-times cells [] there = sym (sum-none (length cells))
length-times cells (i ∷ is) there =
    let rest = length-times cells is there.1 in
    let a = sum-cons i is (length cells) in
    let b = one-is i (length cells) there.0 in
    omega arith

sum-ones : (order : List ℕ) (n : ℕ) → ((j : ℕ) → j < n → times j order ≡ 1) → sum_times order n ≡ n
sum-ones order zero h = refl
sum-ones order (suc n) h =
    let rest = sum-ones order n (λ j lt. h j (omega (arith, lt))) in
    let here = h n (omega arith) in
    omega arith

pub preorder_has_all : (cells : List Cell) (order : List ℕ) → IsLinked cells
    → IsPreorder cells (0 ∷ []) order → length order ≡ length cells
preorder_has_all cells order linked p =
    length-times cells order (all_there cells linked order p)
    ∙ sum-ones order (length cells) (λ j lt. once cells linked order p (suc j) j (omega arith) lt)
