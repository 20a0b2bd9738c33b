-- The links of a tree in memory, after a node was added.
use Rattle.std.proofs.Common.{◌≡◌, ℕ, zero, suc, ◌<◌, ◌≤◌, true, false, cond, List, [], ◌∷◌, ◌++◌}
use Rattle.std.proofs.Common.{length, Option, Some, None, slice_index_or, slice_set, refl, sym, ap}
use Rattle.std.proofs.Common.{◌∙◌, subst, inl, inr, eq-eqb, ne_eqb, arith}
use Rattle.std.proofs.lemmas.Bool.{both_ways, false_from_ne_true, cases_eq, cases_lt}
use Rattle.std.proofs.lemmas.List.{length-map, get_or_past}
use Rattle.link_lists.specs.Lists.{has, first, following}
use Rattle.node_pool.specs.declared.tree.Kin.{Kin}
use Rattle.node_pool.specs.Tree.{parent_of, children, next_child, sibling_after, AreAfterParents}
use Rattle.node_pool.specs.Tree.{IsThere}
use Rattle.node_pool.specs.Kin.{parents_of, first_at, last_at, next_at, with_at, first_with}
use Rattle.node_pool.specs.Kin.{next_with, IsAdopted, IsAdoptedBy, last, IsLinked}
use Rattle.node_pool.proofs.Children.{children_push, children_other, child_parent, parent_child}
use Rattle.node_pool.proofs.Children.{parent_below, IsOnce_children, last_push, last_none, last_has}
use Rattle.node_pool.proofs.Children.{first_push, following_at_last, following_within}
use Rattle.node_pool.proofs.Children.{following_new, parent_before, parent_new, parent_past}

-- a write to another field leaves the parents
pub parents_kept : (kin : List Kin) (i : ℕ) (new old : Kin) → new.parent ≡ old.parent
    → old ≡ slice_index_or kin i old → parents_of (slice_set kin i new) ≡ parents_of kin
parents_kept [] i new old h e = refl
parents_kept (k ∷ kin) zero new old h e =
    ap (λ p. p ∷ parents_of kin) (h ∙ ap (λ (m : Kin). m.parent) e)
parents_kept (k ∷ kin) (suc i) new old h e =
    ap (λ ps. k.parent ∷ ps) (parents_kept kin i new old h e)

abbrev pub newborn : Option ℕ → Kin
newborn p = record { parent = p; first_child = None; last_child = None; next_sibling = None }

parents_push : (kin : List Kin) (p : Option ℕ)
    → parents_of (kin ++ newborn p ∷ []) ≡ parents_of kin ++ p ∷ []
parents_push [] p = refl
parents_push (k ∷ kin) p = ap (λ ps. k.parent ∷ ps) (parents_push kin p)

-- a node without kin adds no link
first_pushed : (kin : List Kin) (p : Option ℕ) (i : ℕ)
    → first_at (kin ++ newborn p ∷ []) i ≡ first_at kin i
first_pushed [] p zero = refl
first_pushed [] p (suc i) = refl
first_pushed (k ∷ kin) p zero = refl
first_pushed (k ∷ kin) p (suc i) = first_pushed kin p i

last_pushed : (kin : List Kin) (p : Option ℕ) (i : ℕ)
    → last_at (kin ++ newborn p ∷ []) i ≡ last_at kin i
last_pushed [] p zero = refl
last_pushed [] p (suc i) = refl
last_pushed (k ∷ kin) p zero = refl
last_pushed (k ∷ kin) p (suc i) = last_pushed kin p i

next_pushed : (kin : List Kin) (p : Option ℕ) (i : ℕ)
    → next_at (kin ++ newborn p ∷ []) i ≡ next_at kin i
next_pushed [] p zero = refl
next_pushed [] p (suc i) = refl
next_pushed (k ∷ kin) p zero = refl
next_pushed (k ∷ kin) p (suc i) = next_pushed kin p i

with-same : (f : ℕ → Option ℕ) (p : ℕ) (v : Option ℕ) (i : ℕ) → i ≡ p → with_at f p v i ≡ v
with-same f p v i e = ap (λ b. cond b v (f i)) (eq-eqb i p e)

with-other : (f : ℕ → Option ℕ) (p : ℕ) (v : Option ℕ) (i : ℕ) → (i ≡ p → ⊥) → with_at f p v i ≡ f i
with-other f p v i ne = ap (λ b. cond b v (f i)) (ne_eqb i p ne)

after_push : (ps : List (Option ℕ)) (p : Option ℕ) → AreAfterParents ps → IsThere ps p
    → AreAfterParents (ps ++ p ∷ [])
after_push ps p a there i r e = elim (cases_lt i (length ps)) [
  | inl lt ↦ a i r (sym (parent_before ps p i lt) ∙ e)
  | inr le ↦ elim (cases_eq i (length ps)) [
    | inl s ↦ let t : p ≡ Some r = sym (parent_new ps p)
        ∙ (ap (parent_of (ps ++ p ∷ [])) (sym s) ∙ e) in let u : r < length ps =
        subst (IsThere ps) t there in omega arith
    | inr ne ↦ let t = parent_past ps p i (omega arith) in cc
  ]
]

-- ---- a root

next_same : (ps : List (Option ℕ)) (i : ℕ) → sibling_after (ps ++ None ∷ []) i ≡ sibling_after ps i
next_same ps i = elim (cases_lt i (length ps)) [
  | inl lt ↦ ap (next_child (ps ++ None ∷ []) i) (parent_before ps None i lt) ∙ by (parent_of ps i)
  | inr le ↦ ap (next_child (ps ++ None ∷ []) i) (none le)
      ∙ sym (ap (next_child ps i) (get_or_past ps i None le))
]
  where
    by : (o : Option ℕ) → next_child (ps ++ None ∷ []) i o ≡ next_child ps i o
    by None = refl
    by (Some p) = ap (following i) (children_other ps None p refl)

    none : length ps ≤ i → parent_of (ps ++ None ∷ []) i ≡ None
    none le = elim (cases_eq i (length ps)) [
      | inl s ↦ ap (parent_of (ps ++ None ∷ [])) s ∙ parent_new ps None
      | inr ne ↦ parent_past ps None i (omega arith)
    ]

-- ---- a child of q

module _ (ps : List (Option ℕ)) (q : ℕ) (old new : List Kin) (h : IsLinked ps old)
    (a : IsAdopted old new q (length ps)) where
  abbrev more : List (Option ℕ)
  more = ps ++ Some q ∷ []

  abbrev siblings : List ℕ
  siblings = children ps q

  last_is : last_at old q ≡ last (children ps q)
  last_is = h.last q

  new_out : has (children ps q) (length ps) ≡ false
  new_out =
      false_from_ne_true (has siblings (length ps))
      (λ t. let lt = parent_below ps q (length ps) (child_parent ps q (length ps) t) in omega arith)

  others : (i : ℕ) → (i ≡ q → ⊥) → children (ps ++ Some q ∷ []) i ≡ children ps i
  others i ne = children_other ps (Some q) i (ne_eqb q i (λ e. ne (sym e)))

  first_more : (i : ℕ) → first_at new i ≡ first (children (ps ++ Some q ∷ []) i)
  first_more i = ap (λ f. f i) a.first ∙ by (last_at old q) refl
    where
      by : (o : Option ℕ) → last_at old q ≡ o
          → first_with o (first_at old) q (length ps) i ≡ first (children more i)
      by None e = elim (cases_eq i q) [
        | inl s ↦ with-same (first_at old) q (Some (length ps)) i s
            ∙ sym (ap (λ k. first (children more k)) s
            ∙ ap first (children_push ps q
            ∙ ap (λ xs. xs ++ length ps ∷ []) (last_none siblings (sym last_is ∙ e))))
        | inr ne ↦ with-other (first_at old) q (Some (length ps)) i ne
            ∙ (h.first i ∙ sym (ap first (others i ne)))
      ]
      by (Some l) e = elim (cases_eq i q) [
        | inl s ↦ h.first i
            ∙ (ap (λ k. first (children ps k)) s
            ∙ sym (ap (λ k. first (children more k)) s
            ∙ (ap first (children_push ps q)
            ∙ first_push siblings l (length ps) (sym last_is ∙ e))))
        | inr ne ↦ h.first i ∙ sym (ap first (others i ne))
      ]

  last_more : (i : ℕ) → last_at new i ≡ last (children (ps ++ Some q ∷ []) i)
  last_more i = ap (λ f. f i) a.last ∙ elim (cases_eq i q) [
    | inl s ↦ with-same (last_at old) q (Some (length ps)) i s
        ∙ sym (ap (λ k. last (children more k)) s
        ∙ (ap last (children_push ps q) ∙ last_push None siblings (length ps)))
    | inr ne ↦ with-other (last_at old) q (Some (length ps)) i ne
        ∙ (h.last i ∙ sym (ap last (others i ne)))
  ]

  -- the links of a node that is not the last child of q stay
  next_old : (i : ℕ) → ((l : ℕ) → last (children ps q) ≡ Some l → i ≡ l → ⊥)
      → next_at new i ≡ next_at old i
  next_old i ne = ap (λ f. f i) a.next ∙ by (last_at old q) refl
    where
      by : (o : Option ℕ) → last_at old q ≡ o
          → next_with o (next_at old) (length ps) i ≡ next_at old i
      by None e = refl
      by (Some l) e = with-other (next_at old) l (Some (length ps)) i (ne l (sym last_is ∙ e))

  next_last : (l : ℕ) → last (children ps q) ≡ Some l → next_at new l ≡ Some (length ps)
  next_last l e = ap (λ f. f l) a.next
      ∙ (ap (λ o. next_with o (next_at old) (length ps) l) (last_is ∙ e)
      ∙ with-same (next_at old) l (Some (length ps)) l refl)

  -- a node after the old ones has no sibling
  next_past : (i : ℕ) → length ps ≤ i → next_at new i ≡ None
  next_past i le =
      next_old i (λ l e s. let lt =
      parent_below ps q l (child_parent ps q l (last_has siblings l e)) in omega arith)
      ∙ (h.next i ∙ ap (next_child ps i) (get_or_past ps i None le))

  next_sibling : (i : ℕ) → has (children ps q) i ≡ true
      → next_at new i ≡ following i (children ps q ++ length ps ∷ [])
  next_sibling i there = by (last (children ps q)) refl
    where
      was : next_at old i ≡ following i (children ps q)
      was = h.next i ∙ ap (next_child ps i) (child_parent ps q i there)

      by : (o : Option ℕ) → last (children ps q) ≡ o
          → next_at new i ≡ following i (children ps q ++ length ps ∷ [])
      by None e =
          absurd (both_ways (has siblings i) (ap (λ xs. has xs i) (last_none siblings e)) there)
      by (Some l) e = elim (cases_eq i l) [
        | inl s ↦ ap (next_at new) s
            ∙ (next_last l e
            ∙ sym (ap (λ k. following k (siblings ++ length ps ∷ [])) s
            ∙ following_at_last siblings l (length ps) (IsOnce_children ps q) e))
        | inr ne ↦
            next_old i
            (λ m em s. ne
            (s ∙ (let t : Some m ≡ Some l = sym em ∙ e in let u : m ≡ l = cc in u)))
            ∙ (was ∙ sym (following_within siblings l (length ps) i e there ne))
      ]

  next_more : (i : ℕ) → next_at new i ≡ sibling_after (ps ++ Some q ∷ []) i
  next_more i = elim (cases_lt i (length ps)) [
    | inl lt ↦ by (parent_of ps i) refl
        ∙ sym (ap (next_child more i) (parent_before ps (Some q) i lt))
    | inr le ↦ next_past i le ∙ sym (elim (cases_eq i (length ps)) [
      | inl s ↦ ap (next_child more i) (ap (parent_of more) s ∙ parent_new ps (Some q))
          ∙ (ap (following i) (children_push ps q)
          ∙ (ap (λ k. following k (siblings ++ length ps ∷ [])) s
          ∙ following_new siblings (length ps) new_out))
      | inr ne ↦ ap (next_child more i) (parent_past ps (Some q) i (omega arith))
    ])
  ]
    where
      -- the last child of q has the parent q
      apart : (o : Option ℕ) → parent_of ps i ≡ o → (o ≡ Some q → ⊥) → (l : ℕ)
          → last (children ps q) ≡ Some l → i ≡ l → ⊥
      apart o e ne l el s =
          ne (sym e ∙ (ap (parent_of ps) s ∙ child_parent ps q l (last_has siblings l el)))

      by : (o : Option ℕ) → parent_of ps i ≡ o → next_at new i ≡ next_child (ps ++ Some q ∷ []) i o
      by None e = next_old i (apart None e (λ t. cc)) ∙ (h.next i ∙ ap (next_child ps i) e)
      by (Some r) e = elim (cases_eq r q) [
        | inl s ↦ next_sibling i (parent_child ps q i (e ∙ ap Some s))
            ∙ sym (ap (λ k. following i (children more k)) s
            ∙ ap (following i) (children_push ps q))
        | inr ne ↦ next_old i (apart (Some r) e (λ t. ne cc))
            ∙ (h.next i ∙ (ap (next_child ps i) e ∙ sym (ap (following i) (others r ne))))
      ]

-- ---- both

linked_by : (old new : List Kin) (p : Option ℕ) → IsLinked (parents_of old) old
    → IsThere (parents_of old) p → IsAdoptedBy old new p (length (parents_of old))
    → IsLinked (parents_of old ++ p ∷ []) (new ++ newborn p ∷ [])
linked_by old new None h there a = record {
  first = λ i. first_pushed new None i
      ∙ (ap (λ k. first_at k i) a
      ∙ (h.first i ∙ sym (ap first (children_other (parents_of old) None i refl))));
  last = λ i. last_pushed new None i
      ∙ (ap (λ k. last_at k i) a
      ∙ (h.last i ∙ sym (ap last (children_other (parents_of old) None i refl))));
  next = λ i. next_pushed new None i
      ∙ (ap (λ k. next_at k i) a ∙ (h.next i ∙ sym (next_same (parents_of old) i)));
  after = after_push (parents_of old) None h.after there;
}
linked_by old new (Some q) h there a = record {
  first = λ i. first_pushed new (Some q) i ∙ first_more (parents_of old) q old new h a i;
  last = λ i. last_pushed new (Some q) i ∙ last_more (parents_of old) q old new h a i;
  next = λ i. next_pushed new (Some q) i ∙ next_more (parents_of old) q old new h a i;
  after = after_push (parents_of old) (Some q) h.after there;
}

same_parents : (old new : List Kin) (p : Option ℕ) (id : ℕ) → IsAdoptedBy old new p id
    → parents_of new ≡ parents_of old
same_parents old new None id a = ap parents_of a
same_parents old new (Some q) id a = a.parents

-- a node was added
module _ (old new : List Kin) (p : Option ℕ) (h : IsLinked (parents_of old) old)
    (there : IsThere (parents_of old) p) (a : IsAdoptedBy old new p (length old)) where
  id_is : length old ≡ length (parents_of old)
  id_is = sym (length-map old (λ k. k.parent))

  pub pushed_parents : parents_of (new ++ newborn p ∷ []) ≡ parents_of old ++ p ∷ []
  pushed_parents = parents_push new p
      ∙ ap (λ ps. ps ++ p ∷ []) (same_parents old new p (length old) a)

  pub pushed_linked : IsLinked (parents_of (new ++ newborn p ∷ [])) (new ++ newborn p ∷ [])
  pushed_linked =
      subst (λ ps. IsLinked ps (new ++ newborn p ∷ [])) (sym pushed_parents)
      (linked_by old new p h there (subst (IsAdoptedBy old new p) id_is a))

-- the last child is a node
pub last_is_node : (kin : List Kin) → IsLinked (parents_of kin) kin → (p l : ℕ)
    → last_at kin p ≡ Some l → l < length kin
last_is_node kin h p l e =
    let lt =
    parent_below (parents_of kin) p l
    (child_parent (parents_of kin) p l
    (last_has (children (parents_of kin) p) l (sym (h.last p) ∙ e))) in
    let n = length-map kin (λ (k : Kin). k.parent) in
    omega arith
