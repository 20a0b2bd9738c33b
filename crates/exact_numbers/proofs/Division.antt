-- Division of a row by a common divisor, and the greatest common divisor of a row, one entry after
-- another.
use Rattle.std.proofs.Common.{◌≡◌, ℕ, sym, ap, ◌∙◌, arith, pos, negsuc, ℤ, ◌+ℤ◌, ◌*ℤ◌, neg_ℤ, ◌<ℤ◌}
use Rattle.std.proofs.Common.{◌+◌, ◌-◌, ◌≤◌, ◌<◌, List, take, drop, ◌++◌, max, set, get_or, length}
use Rattle.std.proofs.Common.{map, subst}
use Rattle.std.specs.Prelude.{unsigned_abs, int_div, int_rem, All}
use Rattle.std.specs.Int.{IsGcd, ◌∣◌}
use Rattle.std.proofs.lemmas.Int.{ints, quot-rem}
use Rattle.std.proofs.lemmas.Nat.Gcd.{mod-eq-zero_of_dvd, dvd_trans, dvd-zero}
use Rattle.std.proofs.lemmas.List.Elements.{All-more, All-nil, All-take}
use Rattle.std.proofs.lemmas.List.Folds.{map_fixed}
use Rattle.std.proofs.lemmas.Simd.{map-map}
use Rattle.std.proofs.lemmas.List.{take_all, get_or-take, length-take-le, length-map}
use Rattle.std.proofs.lemmas.List.{get_or-append_right, get_or-drop, get_or_default, drop_all}
use Rattle.std.proofs.lemmas.List.{append-nil}
use Rattle.std.proofs.lemmas.List.Edits.{map_over_more}
use Rattle.integer_laws.proofs.Cited.{one_divides}
use Rattle.integer_laws.specs.Reduced.{DividesAll, IsRowGcd, IsReduced, scaled}

rem_none : (e : ℤ) (n : ℕ) → n ∣ unsigned_abs e → int_rem e (pos n) ≡ pos 0
rem_none (pos a) n h = ap pos (mod-eq-zero_of_dvd n h)
rem_none (negsuc a) n h = ap (λ (m : ℕ). neg_ℤ (pos m)) (mod-eq-zero_of_dvd n h)

pub quotient_exact : (e d : ℤ) → pos 0 <ℤ d → unsigned_abs d ∣ unsigned_abs e → d *ℤ int_div e d ≡ e
quotient_exact e (pos n) h k =
    let r : int_rem e (pos n) ≡ pos 0 = rem_none e n k in
    let q : int_div e (pos n) *ℤ pos n +ℤ int_rem e (pos n) ≡ e = quot-rem e (pos n) in
    let s : pos n *ℤ int_div e (pos n) ≡ int_div e (pos n) *ℤ pos n = omega (arith, ints) in
    omega (arith, ints)
quotient_exact e (negsuc n) h k = absurd h.lt

-- ---- the greatest common divisor of a row, one entry after another

pub IsRowGcd-nil : (row : List ℤ) → IsRowGcd (take 0 row) 0
IsRowGcd-nil row =
    record { divides = All-nil (λ x. 0 ∣ unsigned_abs x); greatest = λ d h. dvd-zero d }

-- what is true of each of the first i + 1 is true of each of the first i, and of the last
All-less : (P : ℤ → Type 0) (row : List ℤ) (i : ℕ) → i < length row → All P (take (i + 1) row)
    → All P (take i row) × P (get_or row i (pos 0))
All-less P row i within all = (
  λ k d k_in.
      let n : length (take i row) ≡ i = length-take-le i row (omega arith) in
      let m : length (take (i + 1) row) ≡ i + 1 = length-take-le (i + 1) row (omega arith) in
      let below : k < i = omega arith in
      let in_more : k < length (take (i + 1) row) = omega arith in
      let at : get_or (take i row) k d ≡ get_or (take (i + 1) row) k d =
      get_or-take i row k d below ∙ sym (get_or-take (i + 1) row k d (omega arith)) in
      subst P (sym at) (all k d in_more),
  let m : length (take (i + 1) row) ≡ i + 1 = length-take-le (i + 1) row (omega arith) in
      subst P (get_or-take (i + 1) row i (pos 0) (omega arith)) (all i (pos 0) (omega arith)),
)

pub IsRowGcd-more : (row : List ℤ) (i g h : ℕ) → i < length row → IsRowGcd (take i row) g
    → IsGcd g (unsigned_abs (get_or row i (pos 0))) h → IsRowGcd (take (i + 1) row) h
IsRowGcd-more row i g h within before step = record {
  divides = All-more (λ x. h ∣ unsigned_abs x) row i (pos 0) within
      (λ k d k_in. dvd_trans h step.0 (before.divides k d k_in)) step.1;
  greatest = λ d all.
      let parts : DividesAll d (take i row) × (d ∣ unsigned_abs (get_or row i (pos 0))) =
      All-less (λ x. d ∣ unsigned_abs x) row i within all in
      step.2 d (before.greatest d parts.0) parts.1;
}

pub IsRowGcd-all : (row : List ℤ) (i g : ℕ) → length row ≤ i → IsRowGcd (take i row) g
    → IsRowGcd row g
IsRowGcd-all row i g past h = subst (λ (xs : List ℤ). IsRowGcd xs g) (take_all i row past) h

-- if the first entries have no common divisor above 1, the row has none
pub IsRowGcd-one : (row : List ℤ) (i g : ℕ) → g ≡ 1 → IsRowGcd (take i row) g → IsRowGcd row g
IsRowGcd-one row i g e h = record {
  divides =
      λ k d within. subst (λ (n : ℕ). n ∣ unsigned_abs (get_or row k d)) (sym e)
      (one_divides (unsigned_abs (get_or row k d)));
  greatest = λ d all. h.greatest d (All-take (λ x. d ∣ unsigned_abs x) i row all);
}

-- ---- the row divided, entry after entry

pub entry_left : (f : ℤ → ℤ) (old new : List ℤ) (i : ℕ) → new ≡ map f (take i old) ++ drop i old
    → i < length old → get_or new i (pos 0) ≡ get_or old i (pos 0)
entry_left f old new i e within =
    let m : length (map f (take i old)) ≡ length (take i old) = length-map (take i old) f in
    let t : length (take i old) ≡ i = length-take-le i old (omega arith) in
    let zero_off : i - i ≡ 0 = omega arith in
    let sum_off : i + 0 ≡ i = omega arith in
    ap (λ xs. get_or xs i (pos 0)) e
    ∙ get_or-append_right (map f (take i old)) (drop i old) i i (pos 0) (omega arith)
    (omega arith)
    ∙ ap (λ k. get_or (drop i old) k (pos 0)) zero_off ∙ get_or-drop i old 0 (pos 0)
    ∙ ap (λ k. get_or old k (pos 0)) sum_off

pub divides_entry : (f : ℤ → ℤ) (old new : List ℤ) (i g : ℕ)
    → new ≡ map f (take i old) ++ drop i old → i < length old → IsRowGcd old g
    → g ∣ unsigned_abs (get_or new i (pos 0))
divides_entry f old new i g e within h =
    subst (λ (z : ℤ). g ∣ unsigned_abs z) (sym (entry_left f old new i e within))
    (h.divides i (pos 0) within)

pub divided_more : (old new : List ℤ) (i : ℕ) (g q : ℤ)
    → new ≡ map (λ x. int_div x g) (take i old) ++ drop i old → i < length old
    → length new ≡ length old → q ≡ int_div (get_or new i (pos 0)) g
    → set new i q ≡ map (λ x. int_div x g) (take (i + 1) old) ++ drop (i + 1) old
divided_more old new i g q e within same v =
    ap (set new i) v
    ∙ map_over_more (λ x. int_div x g) old new i (get_or new i (pos 0)) within e
    (get_or_default new i (pos 0) (get_or new i (pos 0)) (omega arith))

pub divided_all : (old new : List ℤ) (i : ℕ) (g : ℤ)
    → new ≡ map (λ x. int_div x g) (take i old) ++ drop i old → length old ≤ i
    → new ≡ map (λ x. int_div x g) old
divided_all old new i g e past =
    e ∙ ap (λ xs. map (λ x. int_div x g) xs ++ drop i old) (take_all i old past)
    ∙ ap (λ xs. map (λ x. int_div x g) old ++ xs) (drop_all i old past)
    ∙ append-nil (map (λ x. int_div x g) old)

pub reduced_from_quotients : (old new : List ℤ) (g : ℤ) → pos 0 <ℤ g → IsRowGcd old (unsigned_abs g)
    → new ≡ map (λ x. int_div x g) old → IsReduced old new
reduced_from_quotients old new (negsuc g) p h e = absurd p.lt
reduced_from_quotients old new (pos g) p h e = record {
  common = g;
  is_gcd = h;
  old-is =
      let k : max 1 g ≡ g = omega (arith, ints) in
      let back : map (λ x. pos g *ℤ int_div x (pos g)) old ≡ old =
      map_fixed (λ x. pos g *ℤ int_div x (pos g)) old
      (λ i d within. quotient_exact (get_or old i d) (pos g) p (h.divides i d within)) in
      sym (ap (λ m. scaled m new) k ∙ ap (scaled g) e
      ∙ map-map (λ x. pos g *ℤ x) (λ x. int_div x (pos g)) old ∙ back);
}

pub reduced_from_one : (old : List ℤ) (g : ℕ) → g ≤ 1 → IsRowGcd old g → IsReduced old old
reduced_from_one old g p h = record {
  common = g;
  is_gcd = h;
  old-is =
      let k : max 1 g ≡ 1 = omega arith in
      sym (ap (λ m. scaled m old) k
      ∙ map_fixed (λ x. pos 1 *ℤ x) old (λ i d within. omega (arith, ints)));
}
