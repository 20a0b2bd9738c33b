-- Divisors found one number after another.
use Rattle.std.proofs.Common.{◌≡◌, ℕ, ◌+◌, ◌*◌, ◌<◌, ◌≤◌, List, [], ◌∷◌, ◌++◌, length, get_or, true}
use Rattle.std.proofs.Common.{false, sym, ap, ◌∙◌, subst, arith, pos, ℤ, ◌*ℤ◌, ◌≤ℤ◌}
use Rattle.std.specs.Prelude.{unsigned_abs}
use Rattle.std.specs.Int.{◌∣◌}
use Rattle.std.proofs.lemmas.Int.{ints, unsigned_abs-mul}
use Rattle.std.proofs.Math.Nat.{mul-le-mul}
use Rattle.std.proofs.lemmas.List.{length-append}
use Rattle.std.proofs.lemmas.Nat.Gcd.{dvd_refl, dvd_trans}
use Rattle.std.proofs.Math.ListN.{get_or-append}
use Rattle.std.proofs.Math.Seq.{get_or-append_seam}
use borrow.Author.Count.{below_more}
use Rattle.tree_rules.specs.integer_laws.Range.{InRange}
use Rattle.tree_rules.specs.number_sets.Sets.{has, IsWithin}
use Rattle.tree_rules.specs.pns_rules.Nodes.{Node}
use Rattle.tree_rules.specs.problem_rules.Problem.{Problem, OperatingUnit, rate_of}
use Rattle.tree_rules.specs.flow_rules.Net.{Net}
use Rattle.tree_rules.specs.flow_rules.Relaxed.{row_low, row_high, unit_low, unit_cost}
use Rattle.flow_program.proofs.Cited.{IsNext, rest_within, passed}
use Rattle.scaled_flows.specs.Found.{AreRateDivisors, AreUnitDivisors, DividesRow}

-- what divides a divisor divides all that it divides
pub through : (h g x : ℤ) → unsigned_abs h ∣ unsigned_abs g → unsigned_abs g ∣ unsigned_abs x
    → unsigned_abs h ∣ unsigned_abs x
through h g x a b = dvd_trans (unsigned_abs h) a b

pub divides_more : (f : ℕ → ℤ) (h g : ℤ) (k : ℕ) → unsigned_abs h ∣ unsigned_abs g
    → unsigned_abs h ∣ unsigned_abs (f k) → ((i : ℕ) → i < k → unsigned_abs g ∣ unsigned_abs (f i))
    → (i : ℕ) → i < k + 1 → unsigned_abs h ∣ unsigned_abs (f i)
divides_more f h g k a here before =
    below_more (λ i. unsigned_abs h ∣ unsigned_abs (f i)) k
    (λ i l. through h g (f i) a (before i l)) here

-- ---- the rates of one material: of the first k units
pub record IsRateDivisor (p : Problem) (j : ℕ) (start common : ℤ) (k : ℕ) : Type 0 where
  pub in_range : InRange common
  pub of_start : unsigned_abs common ∣ unsigned_abs start
  pub rates : (i : ℕ) → i < k → unsigned_abs common ∣ unsigned_abs (rate_of p j i)

pub rate_begins : (p : Problem) (j : ℕ) (start : ℤ) → InRange start
    → IsRateDivisor p j start start 0
rate_begins p j start f =
    record {
      in_range = f;
      of_start = dvd_refl (unsigned_abs start);
      rates =
          λ i l. absurd (omega arith);
    }

-- a walk over all units is at its end
pub rate_end : (p : Problem) (u : ℕ) (us : List OperatingUnit) → us ≡ p.units → length us ≤ u
    → (i : ℕ) → i < length p.units → i < u
rate_end p u us e h i l = let same : length us ≡ length p.units =
    ap (λ (xs : List OperatingUnit). length xs) e in omega arith

pub rate_more : (p : Problem) (j : ℕ) (start common new : ℤ) (k : ℕ) → InRange new
    → unsigned_abs new ∣ unsigned_abs common → unsigned_abs new ∣ unsigned_abs (rate_of p j k)
    → IsRateDivisor p j start common k → IsRateDivisor p j start new (k + 1)
rate_more p j start common new k f a b h =
    record {
      in_range = f;
      of_start = through new common start a h.of_start;
      rates =
          divides_more (rate_of p j) new common k a b h.rates;
    }

-- ---- the list of divisors
listed_more : (P : ℤ → ℕ → Type 0) (rates : List ℤ) (g : ℤ) (k : ℕ) → length rates ≡ k
    → ((j : ℕ) → j < k → P (get_or rates j (pos 0)) j) → P g k → (j : ℕ) → j < k + 1
    → P (get_or (rates ++ g ∷ []) j (pos 0)) j
listed_more P rates g k n before here =
    below_more (λ j. P (get_or (rates ++ g ∷ []) j (pos 0)) j) k
    (λ j l. subst (λ (v : ℤ). P v j) (sym (get_or-append rates (g ∷ []) (pos 0) j (omega arith)))
    (before j l))
    (subst (λ (v : ℤ). P v k)
    (sym (ap (λ (i : ℕ). get_or (rates ++ g ∷ []) i (pos 0)) (sym n)
    ∙ get_or-append_seam rates g [] (pos 0))) here)

pub rates_more : (net : Net) (t : Node) (rates : List ℤ) (g : ℤ) (k : ℕ) → pos 1 ≤ℤ g
    → ((i : ℕ) → i < net.graph.units → unsigned_abs g ∣ unsigned_abs (net.rate k i))
    → unsigned_abs g ∣ unsigned_abs (row_low net t k)
    → unsigned_abs g ∣ unsigned_abs (row_high net t k)
    → AreRateDivisors net t rates k → AreRateDivisors net t (rates ++ g ∷ []) (k + 1)
rates_more net t rates g k p d lo hi h = record {
  count = let n = h.count in let m : length (rates ++ g ∷ []) ≡ length rates + length (g ∷ []) =
      length-append rates (g ∷ []) in omega arith;
  positive = listed_more (λ v j. pos 1 ≤ℤ v) rates g k h.count h.positive p;
  divides =
      λ j i l m. listed_more (λ v j. unsigned_abs v ∣ unsigned_abs (net.rate j i)) rates g k h.count
      (λ j l. h.divides j i l m) (d i m) j l;
  low =
      listed_more (λ v j. unsigned_abs v ∣ unsigned_abs (row_low net t j)) rates g k h.count h.low
      lo;
  high =
      listed_more (λ v j. unsigned_abs v ∣ unsigned_abs (row_high net t j)) rates g k h.count h.high
      hi;
}

-- ---- the numbers of units
pub units_more : (net : Net) (t f : Node) (s c s' c' : ℤ) (k : ℕ) → unsigned_abs s' ∣ unsigned_abs s
    → unsigned_abs c' ∣ unsigned_abs c
    → unsigned_abs s' ∣ unsigned_abs (unit_low net t k)
    → unsigned_abs s' ∣ unsigned_abs (net.most k)
    → unsigned_abs c' ∣ unsigned_abs (unit_cost net t k)
    → unsigned_abs c' ∣ unsigned_abs (unit_cost net f k)
    → AreUnitDivisors net t f s c k → AreUnitDivisors net t f s' c' (k + 1)
units_more net t f s c s' c' k ds dc lo hi ct cf h = record {
  low = divides_more (unit_low net t) s' s k ds lo h.low;
  high = divides_more net.most s' s k ds hi h.high;
  taken_cost = divides_more (unit_cost net t) c' c k dc ct h.taken_cost;
  free_cost = divides_more (unit_cost net f) c' c k dc cf h.free_cost;
}

-- with both in range
pub record IsUnitsSoFar (net : Net) (t f : Node) (s c : ℤ) (k : ℕ) : Type 0 where
  pub found : AreUnitDivisors net t f s c k
  pub sizes_in_range : InRange s
  pub costs_in_range : InRange c

pub units_begin : (net : Net) (t f : Node) → IsUnitsSoFar net t f (pos 0) (pos 0) 0
units_begin net t f = record {
  found =
      record {
        low = λ i l. absurd (omega arith);
        high = λ i l. absurd (omega arith);
        taken_cost =
            λ i l. absurd (omega arith);
        free_cost = λ i l. absurd (omega arith);
      };
  sizes_in_range = omega (arith, ints);
  costs_in_range = omega (arith, ints);
}

-- ---- the ends of rows
pub quotient_small : (x g q : ℤ) → pos 1 ≤ℤ g → g *ℤ q ≡ x → InRange x → InRange q
quotient_small x g q p e f =
    let product : unsigned_abs g * unsigned_abs q ≡ unsigned_abs x =
    sym (unsigned_abs-mul g q) ∙ ap unsigned_abs e in
    let one : 1 ≤ unsigned_abs g = omega (arith, ints) in
    let same : unsigned_abs q ≤ unsigned_abs q = omega arith in
    let less : 1 * unsigned_abs q ≤ unsigned_abs g * unsigned_abs q = mul-le-mul one same in
    omega arith

pub record IsRowsDivisor (net : Net) (t : Node) (rates : List ℤ) (rows : List ℕ) (start all : ℤ)
    (left : List ℕ) : Type 0 where
  pub in_range : InRange all
  pub within : IsWithin (has left) (has rows)
  pub of_start : unsigned_abs all ∣ unsigned_abs start
  pub known : (j : ℕ) → has left j ≡ false → has rows j ≡ true → DividesRow net t rates all j

pub rows_begin : (net : Net) (t : Node) (rates : List ℤ) (rows : List ℕ) (start : ℤ) → InRange start
    → unsigned_abs start ∣ unsigned_abs start → IsRowsDivisor net t rates rows start start rows
rows_begin net t rates rows start f d =
    record {
      in_range = f;
      within = λ j h. h;
      of_start = d;
      known =
          λ j gone there. absurd (let e : true ≡ false = sym there ∙ gone in cc);
    }

pub rows_more : (net : Net) (t : Node) (rates : List ℤ) (rows : List ℕ) (start all new : ℤ)
    (left : List ℕ) (j : ℕ) (rest : List ℕ) → IsNext 256 left j rest → InRange new
    → unsigned_abs new ∣ unsigned_abs all → DividesRow net t rates new j
    → IsRowsDivisor net t rates rows start all left → IsRowsDivisor net t rates rows start new rest
rows_more net t rates rows start all new left j rest next f a here h = record {
  in_range = f;
  within = λ i k. h.within i (rest_within 256 left j rest next i k);
  of_start = through new all start a h.of_start;
  known =
      λ i gone there. passed 256 left j rest next
      (λ i. has rows i ≡ true → DividesRow net t rates new i)
      (λ i out in_rows. let d = h.known i out in_rows in
      (dvd_trans (unsigned_abs new) a d.0, dvd_trans (unsigned_abs new) a d.1)) (λ _. here) i
      gone there;
}

pub rows_end : (net : Net) (t : Node) (rates : List ℤ) (rows : List ℕ) (start all : ℤ)
    (left : List ℕ) → left ≡ [] → IsRowsDivisor net t rates rows start all left → (j : ℕ)
    → has rows j ≡ true → DividesRow net t rates all j
rows_end net t rates rows start all left e h j there =
    h.known j (ap (λ (xs : List ℕ). has xs j) e) there
