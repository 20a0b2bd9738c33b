-- The names of leaves: each is that of a network that was found there, and no leaf at which one was
-- found is without a name.
use Rattle.std.proofs.Common.{◌≡◌, ◌⊎◌, ℕ, zero, suc, ◌+◌, ◌<◌, ◌≤◌, List, [], ◌∷◌, length, drop}
use Rattle.std.proofs.Common.{replicate, slice_set, Option, Some, None, refl, sym, ap, ◌∙◌, subst}
use Rattle.std.proofs.Common.{arith, inl, inr}
use Rattle.std.specs.List.{slice_get}
use Rattle.std.specs.Prelude.{get_or}
use Rattle.std.proofs.lemmas.Bool.{cases_eq, cases_lt}
use Rattle.std.proofs.lemmas.List.{get_or-set_same, get_or-set_other, get_or_past, length-set}
use Rattle.rank_check.specs.problem_rules.Each.{Each}
use Rattle.rank_check.specs.tree_rules.Claim.{IsSized}
use Rattle.rank_search.specs.Found.{FoundAt, networks_of, IsOfLeaf}
use Rattle.rank_search.specs.Naming.{Names, AreWithin, names_with, names_of, name_at, names_at}

-- the name is that of a network of the list, numbered from k on, which was found at the leaf j
pub record IsNameOf (k : ℕ) (fs : List FoundAt) (j : ℕ) (name : Option ℕ) : Type 0 where
  pub at : ℕ
  pub one : FoundAt
  pub there : slice_get fs at ≡ Some one
  pub of_leaf : one.leaf ≡ j
  pub name_is : name ≡ Some (k + at)

from_next : (k i : ℕ) → suc k + i ≡ k + suc i
from_next k i = omega arith

from_first : (k : ℕ) → k ≡ k + 0
from_first k = omega arith

-- or none was found there, and the name is the one before
named : (names : Names) (k : ℕ) (fs : List FoundAt) (j : ℕ) → j < length names
    → IsNameOf k fs j (name_at (names_with names k fs) j)
    ⊎ ((IsOfLeaf j fs → ⊥) × (name_at (names_with names k fs) j ≡ name_at names j))
named names k [] j lt = inr ((λ h. h), refl)
named names k (f ∷ fs) j lt =
    let within : j < length (slice_set names f.leaf (Some k)) = let e =
    length-set names f.leaf (Some k) in omega (arith, lt, e) in
    elim (named (slice_set names f.leaf (Some k)) (suc k) fs j within) [
      | inl h
          ↦ inl
          (record {
            at = suc h.at;
            one = h.one;
            there = h.there;
            of_leaf = h.of_leaf;
            name_is =
                h.name_is ∙ ap (λ (n : ℕ). Some n) (from_next k h.at);
          })
      | inr h ↦ elim (cases_eq f.leaf j) [
        | inl e ↦
            let there : f.leaf < length names = omega (arith, lt, e) in
            inl (record {
              at = 0;
              one = f;
              there = refl;
              of_leaf = e;
              name_is =
                  h.1 ∙ (subst (λ (i : ℕ). name_at (slice_set names f.leaf (Some k)) i ≡ Some k) e
                  (get_or-set_same names f.leaf (Some k) None there)
                  ∙ ap (λ (n : ℕ). Some n) (from_first k));
            })
        | inr ne
            ↦ inr (
              (λ o. elim o [ inl e ↦ ne e | inr q ↦ h.0 q ]),
              h.1
                  ∙ get_or-set_other names f.leaf j (Some k) None (λ (q : j ≡ f.leaf). ne (sym q)),
            )
      ]
    ]

no-name : (n j : ℕ) → name_at (replicate n None) j ≡ None
no-name zero zero = refl
no-name zero (suc j) = refl
no-name (suc n) zero = refl
no-name (suc n) (suc j) = no-name n j

pub no-length : (n : ℕ) → length (replicate {A = Option ℕ} n None) ≡ n
no-length zero = refl
no-length (suc n) = ap suc (no-length n)

pub length-with : (names : Names) (k : ℕ) (fs : List FoundAt)
    → length (names_with names k fs) ≡ length names
length-with names k [] = refl
length-with names k (f ∷ fs) = length-with (slice_set names f.leaf (Some k)) (suc k) fs
    ∙ length-set names f.leaf (Some k)

-- the name of a leaf, if it has one
pub name_is : (n : ℕ) (fs : List FoundAt) (j : ℕ) → j < n
    → IsNameOf 1 fs j (name_at (names_of n fs) j)
    ⊎ ((IsOfLeaf j fs → ⊥) × (name_at (names_of n fs) j ≡ None))
name_is n fs j lt =
    let there : j < length (replicate {A = Option ℕ} n None) = let e =
    no-length n in omega (arith, lt, e) in
    elim (named (replicate n None) 1 fs j there)
    [ inl h ↦ inl h | inr h ↦ inr (h.0, h.1 ∙ no-name n j) ]

-- names are counted from 1
abbrev pub IsCountedName : Option ℕ → Type 0
IsCountedName None = Unit {0}
IsCountedName (Some k) = 1 ≤ k

from_one : (k : ℕ) → 1 ≤ 1 + k
from_one k = omega arith

pub counted_name : (n : ℕ) (fs : List FoundAt) (j : ℕ) → IsCountedName (name_at (names_of n fs) j)
counted_name n fs j = elim (cases_lt j n) [
  | inl lt ↦ elim (name_is n fs j lt) [
    | inl h ↦ subst IsCountedName (sym h.name_is) (from_one h.at)
    | inr h ↦ subst IsCountedName (sym h.1) tt
  ]
  | inr le ↦
      let past : length (names_of n fs) ≤ j = let e = length-with (replicate n None) 1 fs in let d =
      no-length n in omega (arith, le, e, d) in
      subst IsCountedName (sym (get_or_past (names_of n fs) j None past)) tt
]

pub within_all : (n : ℕ) (fs : List FoundAt)
    → ((k : ℕ) (f : FoundAt) → slice_get fs k ≡ Some f → f.leaf < n) → AreWithin n fs
within_all n [] h = tt
within_all n (f ∷ fs) h = (h 0 f refl, within_all n fs (λ k g e. h (suc k) g e))

-- ---- one after the other

ahead : {X : Type 0} (xs : List X) (i : ℕ) (x : X) → slice_get xs i ≡ Some x
    → drop i xs ≡ x ∷ drop (suc i) xs
ahead [] i x h = cc
ahead (y ∷ ys) zero x h = let e : y ≡ x = cc in ap (λ w. w ∷ ys) e
ahead (y ∷ ys) (suc i) x h = ahead ys i x h

next : (n : ℕ) → suc n ≡ n + 1
next n = omega arith

pub names_next : (names all : Names) (k i : ℕ) (fs : List FoundAt) (f g : FoundAt)
    → slice_get fs i ≡ Some f → f ≡ g → names_with names k (drop i fs) ≡ all
    → names_with (slice_set names g.leaf (Some k)) (k + 1) (drop (i + 1) fs) ≡ all
names_next names all k i fs f g there same h =
    let now : names_with names k (f ∷ drop (suc i) fs) ≡ all =
    subst (λ (ds : List FoundAt). names_with names k ds ≡ all) (ahead fs i f there) h in
    subst (λ (o : FoundAt). names_with (slice_set names o.leaf (Some k)) (k + 1) (drop (i + 1) fs)
    ≡ all) same
    (subst (λ (m : ℕ). names_with (slice_set names f.leaf (Some k)) m (drop (i + 1) fs) ≡ all)
    (next k)
    (subst (λ (j : ℕ). names_with (slice_set names f.leaf (Some k)) (suc k) (drop j fs) ≡ all)
    (next i) now))

pub within_next : (n i : ℕ) (fs : List FoundAt) (f : FoundAt) → slice_get fs i ≡ Some f
    → AreWithin n (drop i fs) → AreWithin n (drop (i + 1) fs)
within_next n i fs f there h =
    subst (λ (j : ℕ). AreWithin n (drop j fs)) (next i)
    (subst (λ (ds : List FoundAt). AreWithin n ds) (ahead fs i f there) h).1

pub each_sized : (fs : List FoundAt)
    → ((k : ℕ) (f : FoundAt) → slice_get fs k ≡ Some f → IsSized f.network)
    → Each IsSized (networks_of fs)
each_sized [] h = tt
each_sized (f ∷ fs) h = (h 0 f refl, each_sized fs (λ k g e. h (suc k) g e))

pub name_there : (names : Names) (order : List ℕ) (i : ℕ) → i < length order
    → slice_get (names_at names order) i ≡ Some (name_at names (get_or order i 0))
name_there names [] i lt = absurd (omega (arith, lt))
name_there names (k ∷ ks) zero lt = refl
name_there names (k ∷ ks) (suc i) lt = name_there names ks i (omega (arith, lt))

-- ---- items

pub item_there : {X : Type 0} (xs : List X) (i : ℕ) (x : X) → i < length xs → x ≡ get_or xs i x
    → slice_get xs i ≡ Some x
item_there [] i x lt h = absurd (omega (arith, lt))
item_there (y ∷ ys) zero x lt h = ap (λ w. Some w) (sym h)
item_there (y ∷ ys) (suc i) x lt h = item_there ys i x (omega (arith, lt)) h

pub got : {X : Type 0} (xs : List X) (i : ℕ) (d : X) → i < length xs
    → slice_get xs i ≡ Some (get_or xs i d)
got [] i d lt = absurd (omega (arith, lt))
got (y ∷ ys) zero d lt = refl
got (y ∷ ys) (suc i) d lt = got ys i d (omega (arith, lt))

pub same_item : {X : Type 0} (x y : X) → Some x ≡ Some y → x ≡ y
same_item x y h = cc

-- what is no number is none
pub no_number : (R : Option ℕ → Type 0) → ((k : ℕ) → R (Some k) → ⊥) → (o : Option ℕ) → R o
    → o ≡ None
no_number R h None r = refl
no_number R h (Some k) r = absurd (h k r)
