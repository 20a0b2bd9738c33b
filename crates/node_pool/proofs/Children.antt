-- The children of a node, and how they change when a node is added.
use Rattle.std.proofs.Common.{◌≡◌, ℕ, zero, suc, ◌+◌, ◌<◌, ◌==◌, Bool, true, false, cond, List, []}
use Rattle.std.proofs.Common.{◌∷◌, ◌++◌, length, Option, Some, None, refl, sym, ap, ◌∙◌, subst, inl}
use Rattle.std.proofs.Common.{inr, eqb-true, eq-eqb, ne_eqb, arith}
use Rattle.std.proofs.lemmas.Bool.{or_cases, or_parts, both_ways, false_from_ne_true, cases_eq}
use Rattle.std.proofs.lemmas.Bool.{cases_lt}
use Rattle.std.specs.List.{last_or}
use Rattle.std.proofs.lemmas.List.{get_or_past, get_or_append_left}
use Rattle.link_lists.specs.Lists.{has, first, following, IsOnce}
use Rattle.link_lists.proofs.Cited.{has-here, has-later}
use Rattle.node_pool.specs.Tree.{parent_of, is_parent, children_from, children}

append_nil : (xs : List ℕ) → xs ++ [] ≡ xs
append_nil [] = refl
append_nil (x ∷ xs) = ap (λ ys. x ∷ ys) (append_nil xs)

-- ---- the children after a node was added

children_from_push : (k : ℕ) (ps : List (Option ℕ)) (p : Option ℕ) (i : ℕ)
    → children_from k (ps ++ p ∷ []) i ≡ children_from k ps i
    ++ cond (is_parent p i) ((k + length ps) ∷ []) []
children_from_push k [] p i = let e : k ≡ k + 0 =
    omega arith in ap (λ m. cond (is_parent p i) (m ∷ []) []) e
children_from_push k (q ∷ ps) p i =
    let e : suc k + length ps ≡ k + suc (length ps) = omega arith in
    by (is_parent q i) (children_from_push (suc k) ps p i
    ∙ ap (λ m. children_from (suc k) ps i ++ cond (is_parent p i) (m ∷ []) []) e)
  where
    by : (b : Bool) → children_from (suc k) (ps ++ p ∷ []) i ≡ children_from (suc k) ps i
        ++ cond (is_parent p i) ((k + suc (length ps)) ∷ []) []
        → cond b (k ∷ children_from (suc k) (ps ++ p ∷ []) i)
        (children_from (suc k) (ps ++ p ∷ []) i)
        ≡ cond b (k ∷ children_from (suc k) ps i) (children_from (suc k) ps i)
        ++ cond (is_parent p i) ((k + suc (length ps)) ∷ []) []
    by true ih = ap (λ ys. k ∷ ys) ih
    by false ih = ih

children_all : (ps : List (Option ℕ)) (p : Option ℕ) (i : ℕ)
    → children (ps ++ p ∷ []) i ≡ children ps i ++ cond (is_parent p i) (length ps ∷ []) []
children_all ps p i = let z : 0 + length ps ≡ length ps =
    omega arith in children_from_push 0 ps p i
    ∙ ap (λ m. children ps i ++ cond (is_parent p i) (m ∷ []) []) z

pub children_push : (ps : List (Option ℕ)) (q : ℕ)
    → children (ps ++ Some q ∷ []) q ≡ children ps q ++ length ps ∷ []
children_push ps q = children_all ps (Some q) q
    ∙ ap (λ b. children ps q ++ cond b (length ps ∷ []) []) (eq-eqb q q refl)

pub children_other : (ps : List (Option ℕ)) (p : Option ℕ) (i : ℕ) → is_parent p i ≡ false
    → children (ps ++ p ∷ []) i ≡ children ps i
children_other ps p i h = children_all ps p i
    ∙ (ap (λ b. children ps i ++ cond b (length ps ∷ []) []) h ∙ append_nil (children ps i))

-- ---- a child has its parent

parent_by : (o : Option ℕ) (q : ℕ) → is_parent o q ≡ true → o ≡ Some q
parent_by None q h = absurd (both_ways false refl h)
parent_by (Some p) q h = ap Some (eqb-true p q h)

has_from : (k : ℕ) (ps : List (Option ℕ)) (q i : ℕ) → has (children_from k ps q) i ≡ true → (j : ℕ)
    × (i ≡ k + j) × (parent_of ps j ≡ Some q)
has_from k [] q i h = absurd (both_ways false refl h)
has_from k (o ∷ ps) q i h = by (is_parent o q) refl (λ t. has_from (suc k) ps q i t)
  where
    by : (b : Bool) → is_parent o q ≡ b
        → (has (children_from (suc k) ps q) i ≡ true → (j : ℕ) × (i ≡ suc k + j)
        × (parent_of ps j ≡ Some q)) → (j : ℕ) × (i ≡ k + j) × (parent_of (o ∷ ps) j ≡ Some q)
    by true e ih =
        elim
        (or_cases (k == i) (has (children_from (suc k) ps q) i)
        (sym
        (ap (λ c. has (cond c (k ∷ children_from (suc k) ps q) (children_from (suc k) ps q)) i) e)
        ∙ h)) [
          | inl s ↦ (0, (let w : k ≡ i = eqb-true k i s in omega arith), parent_by o q e)
          | inr t ↦ let r = ih t in (suc r.0, (let w = r.1 in omega arith), r.2)
        ]
    by false e ih = let r =
        ih (sym
        (ap (λ c. has (cond c (k ∷ children_from (suc k) ps q) (children_from (suc k) ps q)) i) e)
        ∙ h) in (suc r.0, (let w = r.1 in omega arith), r.2)

pub child_parent : (ps : List (Option ℕ)) (q i : ℕ) → has (children ps q) i ≡ true
    → parent_of ps i ≡ Some q
child_parent ps q i h =
    let r = has_from 0 ps q i h in
    let e : r.0 ≡ i = let w = r.1 in omega arith in
    subst (λ j. parent_of ps j ≡ Some q) e r.2

pub parent_below : (ps : List (Option ℕ)) (q i : ℕ) → parent_of ps i ≡ Some q → i < length ps
parent_below ps q i h =
    elim (cases_lt i (length ps)) [ inl lt ↦ lt | inr le ↦ let e = get_or_past ps i None le in cc ]

parent_child_from : (k : ℕ) (ps : List (Option ℕ)) (q j : ℕ) → parent_of ps j ≡ Some q
    → has (children_from k ps q) (k + j) ≡ true
parent_child_from k [] q j h = cc
parent_child_from k (o ∷ ps) q zero h =
    let z : k + 0 ≡ k = omega arith in
    ap (λ c. has (cond c (k ∷ children_from (suc k) ps q) (children_from (suc k) ps q)) (k + 0))
    (ap (λ w. is_parent w q) h ∙ eq-eqb q q refl)
    ∙ subst (λ m. has (k ∷ children_from (suc k) ps q) m ≡ true) (sym z)
    (has-here k (children_from (suc k) ps q))
parent_child_from k (o ∷ ps) q (suc j) h =
    let z : suc k + j ≡ k + suc j = omega arith in
    by (is_parent o q)
    (subst (λ m. has (children_from (suc k) ps q) m ≡ true) z
    (parent_child_from (suc k) ps q j h))
  where
    by : (b : Bool) → has (children_from (suc k) ps q) (k + suc j) ≡ true
        → has (cond b (k ∷ children_from (suc k) ps q) (children_from (suc k) ps q)) (k + suc j)
        ≡ true
    by true t = has-later k (k + suc j) (children_from (suc k) ps q) t
    by false t = t

pub parent_child : (ps : List (Option ℕ)) (q i : ℕ) → parent_of ps i ≡ Some q
    → has (children ps q) i ≡ true
parent_child ps q i h = let z : 0 + i ≡ i =
    omega arith in subst (λ j. has (children ps q) j ≡ true) z (parent_child_from 0 ps q i h)

IsOnce_from : (k : ℕ) (ps : List (Option ℕ)) (q : ℕ) → IsOnce (children_from k ps q)
IsOnce_from k [] q = tt
IsOnce_from k (o ∷ ps) q = by (is_parent o q) (IsOnce_from (suc k) ps q)
  where
    out : has (children_from (suc k) ps q) k ≡ false
    out =
        false_from_ne_true (has (children_from (suc k) ps q) k)
        (λ t. let r = has_from (suc k) ps q k t in let w = r.1 in omega arith)

    by : (b : Bool) → IsOnce (children_from (suc k) ps q)
        → IsOnce (cond b (k ∷ children_from (suc k) ps q) (children_from (suc k) ps q))
    by true ih = (out, ih)
    by false ih = ih

pub IsOnce_children : (ps : List (Option ℕ)) (q : ℕ) → IsOnce (children ps q)
IsOnce_children ps q = IsOnce_from 0 ps q

-- ---- the last of a list

pub last_push : (o : Option ℕ) (xs : List ℕ) (n : ℕ) → last_or o (xs ++ n ∷ []) ≡ Some n
last_push o [] n = refl
last_push o (x ∷ xs) n = last_push (Some x) xs n

last_some : (a : ℕ) (xs : List ℕ) → last_or (Some a) xs ≡ None → ⊥
last_some a [] e = cc
last_some a (x ∷ xs) e = last_some x xs e

pub last_none : (xs : List ℕ) → last_or None xs ≡ None → xs ≡ []
last_none [] e = refl
last_none (x ∷ xs) e = absurd (last_some x xs e)

last_or_has : (a : ℕ) (xs : List ℕ) (l : ℕ) → last_or (Some a) xs ≡ Some l → has (a ∷ xs) l ≡ true
last_or_has a [] l e = let s : a ≡ l = cc in subst (λ k. has (a ∷ []) k ≡ true) s (has-here a [])
last_or_has a (x ∷ xs) l e = has-later a l (x ∷ xs) (last_or_has x xs l e)

pub last_has : (xs : List ℕ) (l : ℕ) → last_or None xs ≡ Some l → has xs l ≡ true
last_has [] l e = cc
last_has (x ∷ xs) l e = last_or_has x xs l e

pub first_push : (xs : List ℕ) (l n : ℕ) → last_or None xs ≡ Some l
    → first (xs ++ n ∷ []) ≡ first xs
first_push [] l n e = cc
first_push (x ∷ xs) l n e = refl

-- ---- what follows a child when one more comes after the last one, l

following_last : (a : ℕ) (xs : List ℕ) (l n : ℕ) → IsOnce (a ∷ xs) → last_or (Some a) xs ≡ Some l
    → following l ((a ∷ xs) ++ n ∷ []) ≡ Some n
following_last a [] l n o e = let s : a ≡ l =
    cc in ap (λ b. cond b (Some n) (following l (n ∷ []))) (eq-eqb a l s)
following_last a (x ∷ xs) l n o e =
    let ne : (a == l) ≡ false =
    ne_eqb a l
    (λ s. both_ways (has (x ∷ xs) a) o.0
    (subst (λ k. has (x ∷ xs) k ≡ true) (sym s) (last_or_has x xs l e))) in
    ap (λ b. cond b (first ((x ∷ xs) ++ n ∷ [])) (following l ((x ∷ xs) ++ n ∷ []))) ne
    ∙ following_last x xs l n o.1 e

following_inner : (a : ℕ) (xs : List ℕ) (l n i : ℕ) → last_or (Some a) xs ≡ Some l
    → has (a ∷ xs) i ≡ true → (i ≡ l → ⊥) → following i ((a ∷ xs) ++ n ∷ []) ≡ following i (a ∷ xs)
following_inner a [] l n i e h ne =
    elim (or_cases (a == i) false h) [
      | inl s ↦ absurd (ne (sym (eqb-true a i s) ∙ (let t : a ≡ l = cc in t)))
      | inr t
          ↦ absurd (both_ways false refl t)
    ]
following_inner a (x ∷ xs) l n i e h ne = elim (cases_eq a i) [
  | inl s ↦ ap (λ b. cond b (Some x) (following i ((x ∷ xs) ++ n ∷ []))) (eq-eqb a i s)
      ∙ sym (ap (λ b. cond b (Some x) (following i (x ∷ xs))) (eq-eqb a i s))
  | inr far ↦
      ap (λ b. cond b (Some x) (following i ((x ∷ xs) ++ n ∷ []))) (ne_eqb a i far)
      ∙ (following_inner x xs l n i e
      (elim (or_cases (a == i) (has (x ∷ xs) i) h)
      [ inl s ↦ absurd (far (eqb-true a i s)) | inr t ↦ t ]) ne
      ∙ sym (ap (λ b. cond b (Some x) (following i (x ∷ xs))) (ne_eqb a i far)))
]

pub following_at_last : (xs : List ℕ) (l n : ℕ) → IsOnce xs → last_or None xs ≡ Some l
    → following l (xs ++ n ∷ []) ≡ Some n
following_at_last [] l n o e = cc
following_at_last (x ∷ xs) l n o e = following_last x xs l n o e

pub following_within : (xs : List ℕ) (l n i : ℕ) → last_or None xs ≡ Some l → has xs i ≡ true
    → (i ≡ l → ⊥) → following i (xs ++ n ∷ []) ≡ following i xs
following_within [] l n i e h ne = cc
following_within (x ∷ xs) l n i e h ne = following_inner x xs l n i e h ne

pub following_new : (xs : List ℕ) (n : ℕ) → has xs n ≡ false → following n (xs ++ n ∷ []) ≡ None
following_new [] n h = ap (λ b. cond b None None) (eq-eqb n n refl)
following_new (x ∷ xs) n h =
    let p = or_parts (x == n) (has xs n) h in
    ap (λ b. cond b (first (xs ++ n ∷ [])) (following n (xs ++ n ∷ []))) p.0
    ∙ following_new xs n p.1

-- ---- the parents after a node was added

pub parent_before : (ps : List (Option ℕ)) (p : Option ℕ) (i : ℕ) → i < length ps
    → parent_of (ps ++ p ∷ []) i ≡ parent_of ps i
parent_before ps p i lt = get_or_append_left ps (p ∷ []) None i lt

pub parent_new : (ps : List (Option ℕ)) (p : Option ℕ) → parent_of (ps ++ p ∷ []) (length ps) ≡ p
parent_new [] p = refl
parent_new (q ∷ ps) p = parent_new ps p

pub parent_past : (ps : List (Option ℕ)) (p : Option ℕ) (i : ℕ) → length ps < i
    → parent_of (ps ++ p ∷ []) i ≡ None
parent_past [] p (suc i) lt = refl
parent_past [] p zero lt = absurd (omega arith)
parent_past (q ∷ ps) p zero lt = absurd (omega arith)
parent_past (q ∷ ps) p (suc i) lt = parent_past ps p i (omega arith)
