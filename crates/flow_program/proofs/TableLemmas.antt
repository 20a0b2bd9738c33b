-- Values written at the numbers of a set.
use Rattle.std.proofs.Common.{◌≡◌, ◌≢◌, ℕ, zero, suc, ◌+◌, ◌<◌, Bool, true, false, List, [], ◌∷◌}
use Rattle.std.proofs.Common.{length, drop, get_or, set, refl, sym, ap, ◌∙◌, subst, arith, pos, ℤ}
use Rattle.std.proofs.lemmas.List.{drop_more, get_or-set_same, get_or-set_other, length-set}
use Rattle.std.proofs.lemmas.Bool.{eq-eqb, ne_eqb}
use Rattle.pgraph.specs.number_sets.Sets.{has, IsRising, IsBelowAll, IsSet}
use Rattle.pgraph.specs.flow_rules.Net.{beside}
use Rattle.flow_program.proofs.WalkLemmas.{IsNext, has_next, passed}

-- `left` are the numbers of the set from place k on; at each other the table has its value
pub record IsTabled (n : ℕ) (numbers : List ℕ) (values table : List ℤ) (left : List ℕ)
    (k : ℕ) : Type 0 where
  pub size : length table ≡ n
  pub rest : left ≡ drop k numbers
  pub count : k + length left ≡ length numbers
  pub filled : (j : ℕ) → has numbers j ≡ true → has left j ≡ false
      → get_or table j (pos 0) ≡ beside numbers values j

pub none_tabled : (n : ℕ) (numbers : List ℕ) (values table : List ℤ) → length table ≡ n
    → IsTabled n numbers values table numbers 0
none_tabled n numbers values table h = record {
  size = h;
  rest = refl;
  count = omega arith;
  filled = λ j there gone. clash (has numbers j) there gone;
}
  where
    clash : (b : Bool) → {X : Type 0} → b ≡ true → b ≡ false → X
    clash b e f = absurd (let g : true ≡ false = sym e ∙ f in cc)

above_drop : (y : ℕ) (ys : List ℕ) (k x : ℕ) (rest : List ℕ) → IsBelowAll y ys
    → drop k ys ≡ x ∷ rest → y < x
above_drop y [] zero x rest h e = let f : [] ≡ x ∷ rest = e in cc
above_drop y [] (suc k) x rest h e = let f : [] ≡ x ∷ rest = e in cc
above_drop y (z ∷ ys) zero x rest h e = let f : z ≡ x = cc in subst (λ w. y < w) f h.0
above_drop y (z ∷ ys) (suc k) x rest h e = above_drop y ys k x rest h.1 e

-- the value at a number's place is the one beside it
pub beside_at : (xs : List ℕ) (zs : List ℤ) (k x : ℕ) (rest : List ℕ) → IsRising xs
    → drop k xs ≡ x ∷ rest → k < length zs → beside xs zs x ≡ get_or zs k (pos 0)
beside_at [] zs zero x rest h e l = let f : [] ≡ x ∷ rest = e in cc
beside_at [] zs (suc k) x rest h e l = let f : [] ≡ x ∷ rest = e in cc
beside_at (y ∷ ys) [] k x rest h e l = absurd (omega arith)
beside_at (y ∷ ys) (z ∷ zs) zero x rest h e l =
    let f : y ≡ x = cc in
    rw (eq-eqb y x f) refl
beside_at (y ∷ ys) (z ∷ zs) (suc k) x rest h e l =
    let less = above_drop y ys k x rest h.0 e in
    rw (ne_eqb y x (λ f. absurd (omega arith))) (beside_at ys zs k x rest h.1 e (omega arith))

pub tabled_more : (n : ℕ) (numbers : List ℕ) (values table : List ℤ) (left : List ℕ) (k j : ℕ)
    (rest : List ℕ) (value : ℤ) → IsSet n numbers → length values ≡ length numbers
    → IsNext n left j rest → value ≡ get_or values k (pos 0)
    → IsTabled n numbers values table left k
    → IsTabled n numbers values (set table j value) rest (k + 1)
tabled_more n numbers values table left k j rest value whole same next v so_far = record {
  size = length-set table j value ∙ so_far.size;
  rest = tails;
  count = let a = so_far.count in let b = lengths in omega arith;
  filled =
      λ i there gone. passed n left j rest next
      (λ i. has numbers i ≡ true → get_or (set table j value) i (pos 0) ≡ beside numbers values i)
      before here i gone there;
}
  where
    lengths : length left ≡ 1 + length rest
    lengths = ap (λ (xs : List ℕ). length xs) next.is ∙ (omega arith)

    within : k < length numbers
    within = let a = so_far.count in let b = lengths in omega arith

    ahead : drop k numbers ≡ j ∷ rest
    ahead = sym so_far.rest ∙ next.is

    tails : rest ≡ drop (k + 1) numbers
    tails = let e : j ∷ rest ≡ get_or numbers k 0 ∷ drop (k + 1) numbers =
        sym ahead ∙ drop_more numbers k 0 within in cc

    here : has numbers j ≡ true → get_or (set table j value) j (pos 0) ≡ beside numbers values j
    here there =
        let l : j < length table = let s = so_far.size in let b = next.below in omega arith in
        rw get_or-set_same
        (v ∙ sym
        (beside_at numbers values k j rest whole.rising ahead (let w = within in omega arith)))

    before : (i : ℕ) → has left i ≡ false → has numbers i ≡ true
        → get_or (set table j value) i (pos 0) ≡ beside numbers values i
    before i gone there =
        let other : i ≢ j =
        λ e. absurd
        (clash (subst (λ w. has left w ≡ false) e gone) (has_next n left j rest next)) in
        rw get_or-set_other (so_far.filled i there gone)
      where
        clash : has left j ≡ false → has left j ≡ true → ⊥
        clash a b = cc
