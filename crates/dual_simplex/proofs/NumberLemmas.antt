-- Tables of the numbers of a set, and lists of the columns outside a basis.
use Rattle.std.proofs.Common.{◌≡◌, ◌≢◌, ℕ, zero, suc, ◌+◌, ◌<◌, Bool, true, false, not, cond, List}
use Rattle.std.proofs.Common.{[], ◌∷◌, ◌++◌, map, length, drop, get_or, set, refl, sym, ap, ◌∙◌}
use Rattle.std.proofs.Common.{subst, arith}
use Rattle.std.specs.List.{filter, range_with_len}
use Rattle.std.proofs.lemmas.Bool.{cases_eq}
use Rattle.std.proofs.Common.{inl, inr}
use native.Mathlib.Numerals.{unary_clauses}
use Rattle.std.proofs.lemmas.List.{drop_more, get_or-set_same, get_or-set_other, length-set}
use Rattle.std.proofs.lemmas.List.Elements.{filter-append}
use Rattle.flow_program.specs.number_sets.Sets.{IsSet}
use Rattle.flow_program.proofs.number_sets.Cited.{length_below}
use Rattle.flow_program.proofs.Cited.{IsNext}

-- `left` are the numbers of the set from place k on; the table has those before
pub record IsFilled (n : ℕ) (numbers table left : List ℕ) (k : ℕ) : Type 0 where
  pub size : length table ≡ n
  pub rest : left ≡ drop k numbers
  pub count : k + length left ≡ length numbers
  pub filled : (i : ℕ) → i < k → get_or table i 0 ≡ get_or numbers i 0

pub none_filled : (n : ℕ) (numbers table : List ℕ) → length table ≡ n
    → IsFilled n numbers table numbers 0
none_filled n numbers table h =
    record { size = h; rest = refl; count = omega arith; filled = λ i l. absurd (omega arith) }

pub place_below : (n : ℕ) (numbers table left : List ℕ) (k j : ℕ) (rest : List ℕ) → IsSet n numbers
    → IsNext n left j rest → IsFilled n numbers table left k → k < n
place_below n numbers table left k j rest whole next f =
    let few = length_below n numbers whole.rising whole.below in
    let e : length left ≡ 1 + length rest =
    ap (λ (xs : List ℕ). length xs) next.is ∙ (omega arith) in
    let c = f.count in
    omega arith

pub filled_more : (n : ℕ) (numbers table left : List ℕ) (k j : ℕ) (rest : List ℕ) → IsSet n numbers
    → IsNext n left j rest → IsFilled n numbers table left k
    → IsFilled n numbers (set table k j) rest (k + 1)
filled_more n numbers table left k j rest whole next f = record {
  size = length-set table k j ∙ f.size;
  rest = let e : j ∷ rest ≡ get_or numbers k 0 ∷ drop (k + 1) numbers = ahead in cc;
  count = let a = f.count in let b = lengths in omega arith;
  filled =
      λ i l. elim (cases_eq i k) [
        | inl e ↦ subst (λ (m : ℕ). get_or (set table k j) m 0 ≡ get_or numbers m 0) (sym e) here
        | inr ne ↦ before i l ne
      ];
}
  where
    lengths : length left ≡ 1 + length rest
    lengths = ap (λ (xs : List ℕ). length xs) next.is ∙ (omega arith)

    within : k < length numbers
    within = let a = f.count in let b = lengths in omega arith

    ahead : j ∷ rest ≡ get_or numbers k 0 ∷ drop (k + 1) numbers
    ahead = sym next.is ∙ f.rest ∙ drop_more numbers k 0 within

    here : get_or (set table k j) k 0 ≡ get_or numbers k 0
    here =
        let l : k < length table = let s = f.size in let b =
        place_below n numbers table left k j rest whole next f in omega arith in
        let e : j ≡ get_or numbers k 0 = let a = ahead in cc in
        rw get_or-set_same e

    before : (i : ℕ) → i < k + 1 → i ≢ k → get_or (set table k j) i 0 ≡ get_or numbers i 0
    before i l ne = rw get_or-set_other (f.filled i (omega arith))

pub all_filled : (n : ℕ) (numbers table left : List ℕ) (k : ℕ) → IsFilled n numbers table left k
    → left ≡ [] → (i : ℕ) → i < length numbers → get_or table i 0 ≡ get_or numbers i 0
all_filled n numbers table left k f e i l =
    let z : length left ≡ 0 = ap (λ (xs : List ℕ). length xs) e in
    let c = f.count in
    f.filled i (omega arith)

-- ---- the columns outside a basis

range_more : (a n j : ℕ) → a + n ≡ j → range_with_len a (n + 1) ≡ range_with_len a n ++ j ∷ []
range_more a zero j h = ap (λ (i : ℕ). i ∷ []) (omega arith)
range_more a (suc n) j h =
    simp unary_clauses
    (simp unary_clauses at (ap (λ (xs : List ℕ). a ∷ xs) (range_more (a + 1) n j (omega arith))))

map_both : {Y : Type 0} (f : ℕ → Y) (xs ys : List ℕ) → map f (xs ++ ys) ≡ map f xs ++ map f ys
map_both f [] ys = refl
map_both f (x ∷ xs) ys = ap (λ zs. f x ∷ zs) (map_both f xs ys)

one_more : {Y : Type 0} (f : ℕ → Y) (b : ℕ → Bool) (k : ℕ) (c : Bool) → b k ≡ c
    → map f (filter (λ i. not (b i)) (k ∷ [])) ≡ cond c [] (f k ∷ [])
one_more f b k true e = rw e refl
one_more f b k false e = rw e refl

pub outside_more : {Y : Type 0} (f : ℕ → Y) (b : ℕ → Bool) (k : ℕ)
    → map f (filter (λ i. not (b i)) (range_with_len 0 (k + 1)))
    ≡ map f (filter (λ i. not (b i)) (range_with_len 0 k)) ++ cond (b k) [] (f k ∷ [])
outside_more f b k =
    ap (λ (xs : List ℕ). map f (filter (λ i. not (b i)) xs)) (range_more 0 k k (omega arith))
    ∙ ap (λ (xs : List ℕ). map f xs) (filter-append (λ i. not (b i)) (range_with_len 0 k) (k ∷ []))
    ∙ map_both f (filter (λ i. not (b i)) (range_with_len 0 k)) (filter (λ i. not (b i)) (k ∷ []))
    ∙ ap (λ ys. map f (filter (λ i. not (b i)) (range_with_len 0 k)) ++ ys)
    (one_more f b k (b k) refl)
