-- Cells stay linked if a leaf is branched, and if open leaves are shut.
use Rattle.std.proofs.Common.{◌≡◌, ℕ, zero, suc, ◌+◌, ◌-◌, ◌<◌, ◌≤◌, ◌==◌, Bool, true, false, cond}
use Rattle.std.proofs.Common.{List, [], length, refl, sym, ap, ◌∙◌, subst, arith, inl, inr, ◌⊎◌}
use Rattle.std.proofs.Common.{eq-eqb, ne_eqb}
use Rattle.std.specs.List.{range_with_len}
use Rattle.std.proofs.lemmas.Bool.{cases_eq, cases_lt}
use Rattle.tree_laws.specs.tree_rules.Ways.{Way, width}
use Rattle.tree_laws.specs.tree_rules.Tree.{End, branch, leaf}
use Rattle.tree_laws.specs.tree_rules.Leaf.{Leaf, untried}
use Rattle.search_tree.specs.Cells.{Cell, cell_at, times, numbers_below, children_at, AreBehind}
use Rattle.search_tree.specs.Cells.{IsParentOf, IsLinked}
use Rattle.search_tree.specs.Growth.{EndsOpen}
use Rattle.search_tree.specs.Turns.{IsBranched}

abbrev pub one_if : Bool → ℕ
one_if b = cond b 1 0

-- ---- runs of numbers
not_below : (j f c : ℕ) → j < f → times j (range_with_len f c) ≡ 0
not_below j f zero h = refl
not_below j f (suc c) h =
    let rest = not_below j (f + 1) c (omega (arith, h)) in
    let apart : (f == j) ≡ false = ne_eqb f j (λ e. omega (arith, h, e)) in
    rw apart (omega (arith, rest))

not_above : (j f c : ℕ) → f + c ≤ j → times j (range_with_len f c) ≡ 0
not_above j f zero h = refl
not_above j f (suc c) h =
    let rest = not_above j (f + 1) c (omega (arith, h)) in
    let apart : (f == j) ≡ false = ne_eqb f j (λ e. omega (arith, h, e)) in
    rw apart (omega (arith, rest))

once_within : (j f c : ℕ) → f ≤ j → j < f + c → times j (range_with_len f c) ≡ 1
once_within j f zero h k = absurd (omega (arith, h, k))
once_within j f (suc c) h k = elim (cases_eq f j) [
  | inl e ↦
      let rest = not_below j (f + 1) c (omega (arith, e)) in
      let here : (f == j) ≡ true = eq-eqb f j e in
      rw here (omega (arith, rest))
  | inr ne ↦
      let rest = once_within j (f + 1) c (omega (arith, h, ne)) (omega (arith, k)) in
      let apart : (f == j) ≡ false = ne_eqb f j ne in
      rw apart (omega (arith, rest))
]

-- ---- ends
behind_more : (n m i f : ℕ) (e : End Leaf) → n ≤ m → AreBehind n i f e → AreBehind m i f e
behind_more n m i f (branch w) h b = let q = b.2 in (b.0, b.1, omega (arith, h, q))
behind_more n m i f (leaf l) h b = tt

none_past : (n i f j : ℕ) (e : End Leaf) → AreBehind n i f e → n ≤ j
    → times j (numbers_below f e) ≡ 0
none_past n i f j (branch w) b h = let q = b.2 in not_above j f (width w) (omega (arith, h, q))
none_past n i f j (leaf l) b h = refl

leaf_behind : (n i f : ℕ) (e : End Leaf) (l : Leaf) → e ≡ leaf l → AreBehind n i f e
leaf_behind n i f e l h = subst (λ (w : End Leaf). AreBehind n i f w) (sym h) tt

leaf_below : (f : ℕ) (e : End Leaf) (l : Leaf) → e ≡ leaf l → numbers_below f e ≡ []
leaf_below f e l h = ap (λ (w : End Leaf). numbers_below f w) h

-- ---- a leaf is branched
module _ (old children new : List Cell) (at : ℕ) (w : Way)
    (b : IsBranched old children new at w) where
  -- the place of a number: at the leaf, among the other cells, or among the children

  abbrev pub IsFreshAt : ℕ → Type 0
  IsFreshAt j = (k : ℕ) × (k < length children) × (j ≡ length old + k)

  pub where_is : (j : ℕ) → j < length new → (j ≡ at)
      ⊎ (((j < length old) × (j ≡ at → ⊥)) ⊎ IsFreshAt j)
  where_is j lt = elim (cases_eq j at) [
    | inl e ↦ inl e
    | inr ne ↦ elim (cases_lt j (length old)) [
      | inl less ↦ inr (inl (less, ne))
      | inr more ↦ let l = b.len in
          inr (inr (j - length old, omega (arith, lt, more, l), omega (arith, more)))
    ]
  ]

  module _ (linked : IsLinked old) (there : at < length old)
      (is_open : EndsOpen (cell_at old at).end) (some : 0 < length children)
      (leaves : (k : ℕ) → k < length children → (l : Leaf)
      × ((cell_at children k).end ≡ leaf l)) where
    child_is : (j : ℕ) (k : ℕ) → k < length children → j ≡ length old + k
        → cell_at new j ≡ cell_at children k
    child_is j k lt e = ap (λ i. cell_at new i) e ∙ b.children_are k lt

    behind : (j : ℕ) → j < length new
        → AreBehind (length new) j (cell_at new j).first (cell_at new j).end
    behind j lt = elim (where_is j lt) [
      | inl e ↦ subst (λ i. AreBehind (length new) i (cell_at new i).first (cell_at new i).end)
          (sym e)
          (subst (λ (c : Cell). AreBehind (length new) at c.first c.end) (sym b.at_is) (
            subst (λ n. 0 < n) (sym b.wide) some,
            there,
            let l = b.len in let wide =
                b.wide in omega (arith, l, wide),
          ))
      | inr other ↦ elim other [
        | inl o
            ↦ subst (λ (c : Cell). AreBehind (length new) j c.first c.end)
            (sym (b.others j o.0 o.1))
            (behind_more (length old) (length new) j (cell_at old j).first (cell_at old j).end
            (let l = b.len in omega (arith, l)) (linked.behind j o.0))
        | inr child
            ↦ subst (λ (c : Cell). AreBehind (length new) j c.first c.end)
            (sym (child_is j child.0 child.1 child.2))
            (let l = leaves child.0 child.1 in
            leaf_behind (length new) j (cell_at children child.0).first
            (cell_at children child.0).end l.0 l.1)
      ]
    ]

    children_same : (v : ℕ) → v < length old → (v ≡ at → ⊥) → children_at new v ≡ children_at old v
    children_same v lt ne = ap (λ (c : Cell). numbers_below c.first c.end) (b.others v lt ne)

    children_here : children_at new at ≡ range_with_len (length old) (length children)
    children_here = ap (λ (c : Cell). numbers_below c.first c.end) b.at_is
        ∙ ap (λ n. range_with_len (length old) n) b.wide

    no_children : (v : ℕ) → (child : IsFreshAt v) → children_at new v ≡ []
    no_children v child =
        let l = leaves child.0 child.1 in
        ap (λ (c : Cell). numbers_below c.first c.end) (child_is v child.0 child.1 child.2)
        ∙ leaf_below (cell_at children child.0).first (cell_at children child.0).end l.0 l.1

    apart : (v q : ℕ) → (v ≡ q → ⊥) → one_if (v == q) ≡ 0
    apart v q ne = ap one_if (ne_eqb v q ne)

    -- an old cell keeps its parent
    old_parent : (j q : ℕ) → j < length old → IsParentOf old q j → IsParentOf new q j
    old_parent j q lt parent =
        record { before = parent.before; once = λ v less. at_cell v (where_is v less) }
      where
        at_cell : (v : ℕ) → (v ≡ at) ⊎ (((v < length old) × (v ≡ at → ⊥)) ⊎ IsFreshAt v)
            → times j (children_at new v) ≡ one_if (v == q)
        at_cell v (inl e) =
            let was : times j (children_at old at) ≡ one_if (at == q) = parent.once at there in
            let none : times j (children_at old at) ≡ 0 =
            ap (times j)
            (leaf_below (cell_at old at).first (cell_at old at).end (untried is_open.0)
            is_open.1) in
            let now : times j (children_at new at) ≡ 0 =
            ap (times j) children_here ∙ not_below j (length old) (length children) lt in
            subst (λ i. times j (children_at new i) ≡ one_if (i == q)) (sym e)
            (now ∙ (sym none ∙ was))
        at_cell v (inr (inl o)) = ap (times j) (children_same v o.0 o.1) ∙ parent.once v o.0
        at_cell v (inr (inr child)) =
            ap (times j) (no_children v child)
            ∙ sym
            (apart v q (λ e. let a = parent.before in let c =
            child.2 in omega (arith, a, c, e, lt)))

    -- a child has the leaf as its parent
    new_parent : (j : ℕ) → length old ≤ j → j < length new → IsParentOf new at j
    new_parent j le lt =
        record { before = omega (arith, there, le); once = λ v less. at_cell v (where_is v less) }
      where
        at_cell : (v : ℕ) → (v ≡ at) ⊎ (((v < length old) × (v ≡ at → ⊥)) ⊎ IsFreshAt v)
            → times j (children_at new v) ≡ one_if (v == at)
        at_cell v (inl e) =
            let now : times j (children_at new at) ≡ 1 =
            ap (times j) children_here
            ∙ once_within j (length old) (length children) le
            (let l = b.len in omega (arith, l, lt)) in
            let same : one_if (at == at) ≡ 1 = ap one_if (eq-eqb at at refl) in
            subst (λ i. times j (children_at new i) ≡ one_if (i == at)) (sym e) (now ∙ sym same)
        at_cell v (inr (inl o)) =
            ap (times j) (children_same v o.0 o.1)
            ∙ (none_past (length old) v (cell_at old v).first j (cell_at old v).end
            (linked.behind v o.0) le ∙ sym (apart v at o.1))
        at_cell v (inr (inr child)) =
            ap (times j) (no_children v child)
            ∙ sym (apart v at (λ e. let c = child.2 in omega (arith, there, c, e)))

    pub branched_linked : IsLinked new
    branched_linked = record {
      some = let a = linked.some in let l = b.len in omega (arith, a, l);
      behind = behind;
      parent = λ j pos lt. elim (cases_lt j (length old)) [
        | inl less ↦ let q = linked.parent j pos less in (q.0, old_parent j q.0 less q.1)
        | inr le ↦ (at, new_parent j le lt)
      ];
    }
