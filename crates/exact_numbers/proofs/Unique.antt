-- The results of calls on a row are unique: its division by the common divisor, and its combination
-- with a pivot row.
use Rattle.std.proofs.Common.{◌≡◌, ℕ, ◌*◌, ◌<◌, ◌≤◌, refl, sym, ap, ◌∙◌, arith, subst, pos, ℤ, ◌*ℤ◌}
use Rattle.std.proofs.Common.{◌<ℤ◌, List, [], ◌∷◌, max, get_or, None, Some}
use Rattle.std.specs.Prelude.{unsigned_abs, slice_index_or}
use Rattle.std.specs.Int.{◌∣◌}
use Rattle.std.proofs.lemmas.Int.{ints, unsigned_abs-mul}
use Rattle.std.proofs.lemmas.Nat.Gcd.{dvd_antisymm}
use Rattle.std.proofs.lemmas.List.Elements.{All-map}
use Rattle.std.proofs.Math.Nat.{mul-dvd-mul_left, dvd_of_mul-dvd-mul_left}
use Rattle.integer_laws.proofs.Cited.{cancel}
use Rattle.integer_laws.specs.declared.which.Which.{Which}
use Rattle.integer_laws.specs.Reduced.{DividesAll, IsRowGcd, IsReduced, scaled}
use Rattle.integer_laws.specs.Combined.{combined, past_at, IsCombined, IsPastEntry}
use Rattle.exact_numbers.proofs.LowestLemmas.{lowest_same}

row_gcd_unique : (row : List ℤ) (g h : ℕ) → IsRowGcd row g → IsRowGcd row h → g ≡ h
row_gcd_unique row g h a b = dvd_antisymm (b.greatest g a.divides) (a.greatest h b.divides)

cancel_row : (k : ℕ) → 1 ≤ k → (a b : List ℤ) → scaled k a ≡ scaled k b → a ≡ b
cancel_row k p [] [] e = refl
cancel_row k p [] (y ∷ b) e = cc
cancel_row k p (x ∷ a) [] e = cc
cancel_row k p (x ∷ a) (y ∷ b) e =
    let head : pos k *ℤ x ≡ pos k *ℤ y = cc in
    let tail : scaled k a ≡ scaled k b = cc in
    ap (λ z. z ∷ a) (cancel (pos k) x y (omega (arith, ints)) head)
    ∙ ap (λ zs. y ∷ zs) (cancel_row k p a b tail)

pub reduced_unique : (old a b : List ℤ) → IsReduced old a → IsReduced old b → a ≡ b
reduced_unique old a b h k =
    let g : h.common ≡ k.common = row_gcd_unique old h.common k.common h.is_gcd k.is_gcd in
    cancel_row (max 1 k.common) (omega arith) a b
    (ap (λ n. scaled (max 1 n) a) (sym g) ∙ sym h.old-is ∙ k.old-is)

-- a row that was divided has no common divisor above 1, unless all its entries are 0
pub reduced-greatest : (old new : List ℤ) (h : IsReduced old new) → 0 < h.common → (d : ℕ)
    → DividesAll d new → d ∣ 1
reduced-greatest old new h p d all =
    let k : max 1 h.common ≡ h.common = omega arith in
    let old-is : old ≡ scaled h.common new = h.old-is ∙ ap (λ (n : ℕ). scaled n new) k in
    let times : DividesAll (h.common * d) old =
    subst (λ (row : List ℤ). DividesAll (h.common * d) row) (sym old-is)
    (All-map (λ x. h.common * d ∣ unsigned_abs x) (λ x. pos h.common *ℤ x) new
    (λ i e within. subst (λ (n : ℕ). h.common * d ∣ n)
    (sym (unsigned_abs-mul (pos h.common) (get_or new i e)))
    (mul-dvd-mul_left d h.common (all i e within)))) in
    let one : h.common ≡ h.common * 1 = omega arith in
    dvd_of_mul-dvd-mul_left d p
    (subst (λ (n : ℕ). h.common * d ∣ n) one (h.is_gcd.greatest (h.common * d) times))

-- ---- a combination is either done or refused, and in one way

pub combined_unique : (old pivot a b : List ℤ) (c : ℕ) → pos 0 <ℤ slice_index_or pivot c (pos 0)
    → IsCombined old pivot c a → IsCombined old pivot c b → a ≡ b
combined_unique old pivot a b c positive h k =
    let same = lowest_same positive h.lowest k.lowest in
    let moved : IsReduced (combined k.p k.q old pivot) a =
    subst (λ (p : ℤ). IsReduced (combined p k.q old pivot) a) same.1
    (subst (λ (q : ℤ). IsReduced (combined h.p q old pivot) a) same.0 h.reduced) in
    reduced_unique (combined k.p k.q old pivot) a b moved k.reduced

pub combined_never_past : (old pivot new : List ℤ) (c j : ℕ) (which : Which)
    → pos 0 <ℤ slice_index_or pivot c (pos 0) → IsCombined old pivot c new
    → IsPastEntry old pivot c j which → ⊥
combined_never_past old pivot new c j which positive done past =
    let same = lowest_same positive done.lowest past.lowest in
    let none : past_at past.p past.q old pivot j ≡ None =
    subst (λ (p : ℤ). past_at p past.q old pivot j ≡ None) same.1
    (subst (λ (q : ℤ). past_at done.p q old pivot j ≡ None) same.0
    (done.in_range j past.within)) in
    let both : None ≡ Some which = sym none ∙ past.past in
    cc
