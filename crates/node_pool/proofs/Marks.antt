-- The marks of open leaves, as leaves come and go.
use Rattle.std.proofs.Common.{◌≡◌, ℕ, zero, suc, ◌≤◌, ◌==◌, Bool, true, false, cond, not, List, []}
use Rattle.std.proofs.Common.{◌∷◌, ◌++◌, length, Some, take, replicate, slice_set, refl, sym, ap}
use Rattle.std.proofs.Common.{◌∙◌, subst, inl, inr, ◌⊎◌, ne_eqb, arith}
use Rattle.std.proofs.lemmas.Bool.{and_from, or_right, or_left, or_cases, both_ways}
use Rattle.std.specs.List.{slice_get}
use Rattle.std.proofs.lemmas.List.{length-map}
use Rattle.link_lists.specs.Lists.{Rows, row, has, without, inserted, with_pushed, with_inserted}
use Rattle.link_lists.specs.Lists.{with_taken}
use Rattle.link_lists.proofs.Cited.{has-here, has-later, has-append, has-without, row-pushed}
use Rattle.link_lists.proofs.Cited.{row-inserted, row-without, length-pushed}
use Rattle.node_pool.specs.OneList.{AreMarked, IsOneList}

-- a write at or after the end changes nothing
pub set_past : (xs : List Bool) (i : ℕ) (v : Bool) → length xs ≤ i → xs ≡ slice_set xs i v
set_past [] i v le = refl
set_past (x ∷ xs) zero v le = absurd (omega arith)
set_past (x ∷ xs) (suc i) v le = ap (λ ys. x ∷ ys) (set_past xs i v (omega arith))

-- what is marked after a write
set_true : (xs : List Bool) (i c : ℕ) → slice_get (slice_set xs i true) c ≡ Some true → (c ≡ i)
    ⊎ (slice_get xs c ≡ Some true)
set_true [] i c h = inr h
set_true (x ∷ xs) zero zero h = inl refl
set_true (x ∷ xs) zero (suc c) h = inr h
set_true (x ∷ xs) (suc i) zero h = inr h
set_true (x ∷ xs) (suc i) (suc c) h =
    elim (set_true xs i c h) [ inl s ↦ inl (ap suc s) | inr t ↦ inr t ]

set_false : (xs : List Bool) (i c : ℕ) → slice_get (slice_set xs i false) c ≡ Some true
    → (c ≡ i → ⊥) × (slice_get xs c ≡ Some true)
set_false [] i c h = absurd cc
set_false (x ∷ xs) zero zero h = absurd cc
set_false (x ∷ xs) zero (suc c) h = (λ s. cc, h)
set_false (x ∷ xs) (suc i) zero h = (λ s. cc, h)
set_false (x ∷ xs) (suc i) (suc c) h = let r = set_false xs i c h in (λ s. r.0 (omega arith), r.1)

none_true : (n c : ℕ) → slice_get (replicate n false) c ≡ Some true → ⊥
none_true zero c h = cc
none_true (suc n) zero h = cc
none_true (suc n) (suc c) h = none_true n c h

-- ---- the leaves

pub none_marked : (n : ℕ) (leaves : List ℕ) → AreMarked (replicate n false) leaves
none_marked n leaves leaf h = absurd (none_true n leaf h)

pub more_marks : (n k : ℕ) (xs : List Bool) (leaves : List ℕ) → AreMarked xs leaves
    → AreMarked (take n xs ++ replicate k false) leaves
more_marks n k xs leaves m leaf h = m leaf (old n xs leaf h)
  where
    old : (n : ℕ) (xs : List Bool) (c : ℕ)
        → slice_get (take n xs ++ replicate k false) c ≡ Some true → slice_get xs c ≡ Some true
    old zero xs c h = absurd (none_true k c h)
    old (suc n) [] c h = absurd (none_true k c h)
    old (suc n) (x ∷ xs) zero h = h
    old (suc n) (x ∷ xs) (suc c) h = old n xs c h

has_inserted : (c b : ℕ) (xs : List ℕ) (d : ℕ) → has xs b ≡ true → (d ≡ c) ⊎ (has xs d ≡ true)
    → has (inserted c b xs) d ≡ true
has_inserted c b [] d there h = absurd (both_ways false refl there)
has_inserted c b (x ∷ xs) d there h = by (x == b) refl (λ q r. has_inserted c b xs d q r)
  where
    here : (d ≡ c) ⊎ (has (x ∷ xs) d ≡ true) → has (c ∷ x ∷ xs) d ≡ true
    here (inl s) = subst (λ k. has (c ∷ x ∷ xs) k ≡ true) (sym s) (has-here c (x ∷ xs))
    here (inr t) = has-later c d (x ∷ xs) t

    by : (t : Bool) → (x == b) ≡ t
        → (has xs b ≡ true → (d ≡ c) ⊎ (has xs d ≡ true) → has (inserted c b xs) d ≡ true)
        → has (inserted c b (x ∷ xs)) d ≡ true
    by true q ih = ap (λ t. has (cond t (c ∷ x ∷ xs) (x ∷ inserted c b xs)) d) q ∙ here h
    by false q ih = ap (λ t. has (cond t (c ∷ x ∷ xs) (x ∷ inserted c b xs)) d) q ∙ later h
      where
        rest : has xs b ≡ true
        rest =
            elim (or_cases (x == b) (has xs b) there)
            [ inl s ↦ absurd (both_ways (x == b) q s) | inr t ↦ t ]

        later : (d ≡ c) ⊎ (has (x ∷ xs) d ≡ true) → has (x ∷ inserted c b xs) d ≡ true
        later (inl s) = has-later x d (inserted c b xs) (ih rest (inl s))
        later (inr t) =
            elim (or_cases (x == d) (has xs d) t) [
              | inl s ↦ or_left (x == d) (has (inserted c b xs) d) s
              | inr u
                  ↦ has-later x d (inserted c b xs) (ih rest (inr u))
            ]

pub marked_pushed : (marks : List Bool) (leaves : List ℕ) (c : ℕ) → AreMarked marks leaves
    → AreMarked (slice_set marks c true) (leaves ++ c ∷ [])
marked_pushed marks leaves c m leaf h =
    has-append leaves (c ∷ []) leaf ∙ elim (set_true marks c leaf h) [
      | inl s ↦ or_right (has leaves leaf) (has (c ∷ []) leaf)
          (subst (λ k. has (c ∷ []) k ≡ true) (sym s) (has-here c []))
      | inr t ↦ or_left (has leaves leaf) (has (c ∷ []) leaf) (m leaf t)
    ]

pub marked_inserted : (marks : List Bool) (leaves : List ℕ) (c b : ℕ) → has leaves b ≡ true
    → AreMarked marks leaves → AreMarked (slice_set marks c true) (inserted c b leaves)
marked_inserted marks leaves c b there m leaf h =
    has_inserted c b leaves leaf there
    (elim (set_true marks c leaf h) [ inl s ↦ inl s | inr t ↦ inr (m leaf t) ])

pub marked_without : (marks : List Bool) (leaves : List ℕ) (c : ℕ) → AreMarked marks leaves
    → AreMarked (slice_set marks c false) (without c leaves)
marked_without marks leaves c m leaf h =
    let r = set_false marks c leaf h in
    has-without c leaves leaf
    ∙ and_from (has leaves leaf) (not (c == leaf)) (m leaf r.1)
    (ap not (ne_eqb c leaf (λ e. r.0 (sym e))))

-- ---- the list with its marks

pub one_pushed : (r : Rows) (room : ℕ) (marks : List Bool) (leaf : ℕ) → IsOneList r room marks
    → IsOneList (with_pushed r 0 leaf) room (slice_set marks leaf true)
one_pushed r room marks leaf h = record {
  one = length-pushed r.lists 0 leaf ∙ h.one;
  linked = h.linked;
  cells = h.cells;
  marked =
      subst (AreMarked (slice_set marks leaf true))
      (sym (row-pushed r.lists 0 leaf (let x = h.one in omega arith)))
      (marked_pushed marks (row r.lists 0) leaf h.marked);
}

pub one_inserted : (r : Rows) (room : ℕ) (marks : List Bool) (leaf b : ℕ) → IsOneList r room marks
    → has (row r.lists 0) b ≡ true
    → IsOneList (with_inserted r leaf b) room (slice_set marks leaf true)
one_inserted r room marks leaf b h there = record {
  one = length-map r.lists (inserted leaf b) ∙ h.one;
  linked = h.linked;
  cells = h.cells;
  marked =
      subst (AreMarked (slice_set marks leaf true)) (sym (row-inserted leaf b r.lists 0))
      (marked_inserted marks (row r.lists 0) leaf b there h.marked);
}

pub one_taken : (r : Rows) (room : ℕ) (marks : List Bool) (leaf : ℕ) → IsOneList r room marks
    → IsOneList (with_taken r leaf) room (slice_set marks leaf false)
one_taken r room marks leaf h = record {
  one = length-map r.lists (without leaf) ∙ h.one;
  linked = h.linked;
  cells = h.cells;
  marked =
      subst (AreMarked (slice_set marks leaf false)) (sym (row-without leaf r.lists 0))
      (marked_without marks (row r.lists 0) leaf h.marked);
}
