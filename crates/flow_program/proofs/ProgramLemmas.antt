-- The lists of a program, and the sizes of its numbers.
use Rattle.std.proofs.Common.{◌≡◌, ℕ, zero, suc, ◌*◌, ◌<◌, ◌≤◌, ◌^◌, List, [], ◌∷◌, ◌++◌, length}
use Rattle.std.proofs.Common.{true, false, Bool, cond, refl, sym, ap, ◌∙◌, arith, pos, negsuc, ℤ}
use Rattle.std.proofs.Common.{neg_ℤ, ◌+ℤ◌, ◌*ℤ◌, ◌≤ℤ◌}
use Rattle.std.specs.Prelude.{map, unsigned_abs, int_div, ◌||◌}
use Rattle.std.specs.List.{AllByRecursion}
use Rattle.std.specs.Ordering.{int_eq}
use Rattle.std.proofs.lemmas.Int.{ints}
use Rattle.std.proofs.lemmas.List.{length-append, length-map, append_assoc, append-nil}
use Rattle.std.proofs.lemmas.List.Elements.{All-from_recursion}
use Rattle.std.proofs.Math.Nat.{div-le_self}
use Rattle.exact_numbers.specs.integer_laws.Total.{total, total_below}
use Rattle.exact_numbers.proofs.integer_laws.Cited.{ring_z}
use Rattle.pgraph.specs.number_sets.Sets.{has, listed, IsSet, IsWithin}
use Rattle.pgraph.proofs.number_sets.Cited.{IsSet-listed, AreBelow-higher, length_listed}
use Rattle.pgraph.specs.problem_rules.Problem.{Problem, rate_of, rate_in, terms_have, unit_at}
use Rattle.pgraph.specs.problem_rules.Problem.{material_at}
use Rattle.pgraph.specs.problem_rules.WellFormed.{IsWellFormed, IsInRange}
use Rattle.pgraph.specs.pns_rules.Structure.{mats}
use Rattle.pgraph.specs.pns_rules.Nodes.{Node}
use Rattle.pgraph.specs.flow_rules.Net.{Net, net_of, million, trillion, size_cost, units_of}
use Rattle.pgraph.specs.flow_rules.Relaxed.{stays, units, rows, lower_at, row_low, row_high}
use Rattle.pgraph.specs.flow_rules.Relaxed.{unit_low}
use Rattle.pgraph.specs.flow_rules.Relaxed.{unit_cost, slope, fixed_cost}
use Rattle.pgraph.specs.flow_rules.Program as rules
use Rattle.pgraph.specs.flow_rules.Program.{Program, program_of, rates_over, IsProgram, AreRanges}
use Rattle.pgraph.proofs.flow_rules.Cited.{unit_formed, material_formed, not_negative, at_most_from}
use Rattle.pgraph.proofs.flow_rules.Cited.{all_had}
use Rattle.flow_program.proofs.SizeLemmas.{size_mul, size_add, size_sub}
use Rattle.flow_program.proofs.NodeSetLemmas.{listed_had}
use Rattle.flow_program.proofs.RateLemmas.{rate_in_range, size_of_rate, one_zero}
use Rattle.flow_program.specs.Entry.{entry, rate_beside}
use Rattle.flow_program.specs.Rates.{AreRates}
use Rattle.flow_program.proofs.WalkLemmas.{IsNext, rest_within}

-- ---- a list that is pushed to
pub pushed_onto : {X : Type 0} (f : ℕ → X) (items : List X) (left : List ℕ) (i : ℕ)
    (rest : List ℕ)
    (x : X) → left ≡ i ∷ rest → x ≡ f i → (items ++ x ∷ []) ++ map f rest ≡ items ++ map f left
pushed_onto f items left i rest x e v =
    append_assoc items (x ∷ []) (map f rest) ∙ ap (λ y. items ++ y ∷ map f rest) v
    ∙ ap (λ (is : List ℕ). items ++ map f is) (sym e)

pub pushed : {X : Type 0} (f : ℕ → X) (whole : List ℕ) (items : List X) (left : List ℕ) (i : ℕ)
    (rest : List ℕ) (x : X) → left ≡ i ∷ rest → x ≡ f i → items ++ map f left ≡ map f whole
    → (items ++ x ∷ []) ++ map f rest ≡ map f whole
pushed f whole items left i rest x e v h =
    append_assoc items (x ∷ []) (map f rest) ∙ ap (λ y. items ++ y ∷ map f rest) v
    ∙ ap (λ (is : List ℕ). items ++ map f is) (sym e) ∙ h

pub all_pushed : {X : Type 0} (f : ℕ → X) (whole : List ℕ) (items : List X) (left : List ℕ)
    → left ≡ [] → items ++ map f left ≡ map f whole → items ≡ map f whole
all_pushed f whole items left e h = sym (append-nil items)
    ∙ ap (λ (is : List ℕ). items ++ map f is) (sym e) ∙ h

-- ---- the rates of a unit in the rows
rate_is : (p : Problem) (u : ℕ) (materials : List ℕ) (rate : List ℤ) → AreRates p u materials rate
    → (j : ℕ) (b : Bool) → has materials j ≡ b → cond b (entry rate j) (pos 0) ≡ rate_of p j u
rate_is p u materials rate h j true e = h.rate j e
rate_is p u materials rate h j false e = sym (h.none_else j e)

rates_are : (p : Problem) (u : ℕ) (materials : List ℕ) (rate : List ℤ)
    → AreRates p u materials rate
    → (js : List ℕ) → map (rate_beside materials rate) js ≡ map (λ j. rate_of p j u) js
rates_are p u materials rate h [] = refl
rates_are p u materials rate h (j ∷ js) =
    λ k. rate_is p u materials rate h j (has materials j) refl k
    ∷ rates_are p u materials rate h js k

pub rates_pushed : (p : Problem) (js whole : List ℕ) (items new : List ℤ) (left : List ℕ) (u : ℕ)
    (rest materials : List ℕ) (rate : List ℤ) → AreRates p u materials rate → left ≡ u ∷ rest
    → new ≡ items ++ map (rate_beside materials rate) js
    → items ++ rates_over (net_of p) js left ≡ rates_over (net_of p) js whole
    → new ++ rates_over (net_of p) js rest ≡ rates_over (net_of p) js whole
rates_pushed p js whole items new left u rest materials rate h e v so_far =
    ap (λ xs. xs ++ rates_over (net_of p) js rest) v
    ∙ append_assoc items (map (rate_beside materials rate) js) (rates_over (net_of p) js rest)
    ∙ ap (λ xs. items ++ (xs ++ rates_over (net_of p) js rest))
    (rates_are p u materials rate h js)
    ∙ ap (λ (is : List ℕ). items ++ rates_over (net_of p) js is) (sym e) ∙ so_far

pub rates_all_pushed : (p : Problem) (js whole : List ℕ) (items : List ℤ) (left : List ℕ)
    → left ≡ [] → items ++ rates_over (net_of p) js left ≡ rates_over (net_of p) js whole
    → items ≡ rates_over (net_of p) js whole
rates_all_pushed p js whole items left e h =
    sym (append-nil items) ∙ ap (λ (is : List ℕ). items ++ rates_over (net_of p) js is) (sym e)
    ∙ h

-- ---- what the loops keep
pub record AreColumns (p : Problem) (n : Node) (js whole : List ℕ)
    (costs lows highs rates : List ℤ)
    (left : List ℕ) : Type 0 where
  pub within : IsWithin (has left) (has whole)
  pub costs_are : costs ++ map (unit_cost (net_of p) n) left ≡ map (unit_cost (net_of p) n) whole
  pub lows_are : lows ++ map (unit_low (net_of p) n) left ≡ map (unit_low (net_of p) n) whole
  pub highs_are : highs ++ map (net_of p).most left ≡ map (net_of p).most whole
  pub rates_are : rates ++ rates_over (net_of p) js left ≡ rates_over (net_of p) js whole

pub record AreBands (p : Problem) (n : Node) (whole : List ℕ) (floors ceilings : List ℤ)
    (left : List ℕ) : Type 0 where
  pub within : IsWithin (has left) (has whole)
  pub floors_are : floors ++ map (row_low (net_of p) n) left ≡ map (row_low (net_of p) n) whole
  pub ceilings_are : ceilings ++ map (row_high (net_of p) n) left
      ≡ map (row_high (net_of p) n) whole

pub columns_begin : (p : Problem) (n : Node) (js whole : List ℕ)
    → AreColumns p n js whole [] [] [] [] whole
columns_begin p n js whole =
    record {
      within = λ i h. h;
      costs_are = refl;
      lows_are = refl;
      highs_are = refl;
      rates_are =
          refl;
    }

pub bands_begin : (p : Problem) (n : Node) (whole : List ℕ) → AreBands p n whole [] [] whole
bands_begin p n whole = record { within = λ i h. h; floors_are = refl; ceilings_are = refl }

pub columns_more : (p : Problem) (n : Node) (js whole : List ℕ)
    (costs lows highs rates new_costs new_lows new_highs new_rates : List ℤ) (left : List ℕ)
    (u : ℕ)
    (rest : List ℕ) → IsNext 128 left u rest
    → (materials : List ℕ) (rate : List ℤ) → AreRates p u materials rate → (cost low high : ℤ)
    → cost ≡ unit_cost (net_of p) n u → low ≡ unit_low (net_of p) n u → high ≡ (net_of p).most u
    → new_costs ≡ costs ++ cost ∷ [] → new_lows ≡ lows ++ low ∷ []
    → new_highs ≡ highs ++ high ∷ []
    → new_rates ≡ rates ++ map (rate_beside materials rate) js
    → AreColumns p n js whole costs lows highs rates left
    → AreColumns p n js whole new_costs new_lows new_highs new_rates rest
columns_more p n js whole costs lows highs rates new_costs new_lows new_highs new_rates left u
    rest
    next materials rate h cost low high ec el eh pc pl ph pr so_far = record {
      within = λ j k. so_far.within j (rest_within 128 left u rest next j k);
      costs_are = ap (λ xs. xs ++ map (unit_cost (net_of p) n) rest) pc
          ∙ pushed (unit_cost (net_of p) n) whole costs left u rest cost next.is ec
          so_far.costs_are;
      lows_are = ap (λ xs. xs ++ map (unit_low (net_of p) n) rest) pl
          ∙ pushed (unit_low (net_of p) n) whole lows left u rest low next.is el so_far.lows_are;
      highs_are = ap (λ xs. xs ++ map (net_of p).most rest) ph
          ∙ pushed (net_of p).most whole highs left u rest high next.is eh so_far.highs_are;
      rates_are =
          rates_pushed p js whole rates new_rates left u rest materials rate h next.is pr
          so_far.rates_are;
    }

pub bands_more : (p : Problem) (n : Node) (whole : List ℕ)
    (floors ceilings new_floors new_ceilings : List ℤ) (left : List ℕ) (j : ℕ) (rest : List ℕ)
    → IsNext 256 left j rest
    → (low high : ℤ) → low ≡ row_low (net_of p) n j → high ≡ row_high (net_of p) n j
    → new_floors ≡ floors ++ low ∷ [] → new_ceilings ≡ ceilings ++ high ∷ []
    → AreBands p n whole floors ceilings left → AreBands p n whole new_floors new_ceilings rest
bands_more p n whole floors ceilings new_floors new_ceilings left j rest next low high el eh pl ph
    so_far = record {
      within = λ i k. so_far.within i (rest_within 256 left j rest next i k);
      floors_are = ap (λ xs. xs ++ map (row_low (net_of p) n) rest) pl
          ∙ pushed (row_low (net_of p) n) whole floors left j rest low next.is el
          so_far.floors_are;
      ceilings_are = ap (λ xs. xs ++ map (row_high (net_of p) n) rest) ph
          ∙ pushed (row_high (net_of p) n) whole ceilings left j rest high next.is eh
          so_far.ceilings_are;
    }

-- ---- sizes of the numbers of a node
low_enough : (z : ℤ) (m n : ℕ) → m ≤ n → unsigned_abs z ≤ m → unsigned_abs z ≤ n
low_enough z m n l h = omega arith

total_below_small : (n : ℕ) (f : ℕ → ℤ) (m : ℕ) → ((k : ℕ) → k < n → unsigned_abs (f k) ≤ m)
    → unsigned_abs (total_below n f) ≤ n * m
total_below_small zero f m h = omega arith
total_below_small (suc n) f m h =
    let a =
    size_add (total_below n f) (f n) (n * m) m
    (total_below_small n f m (λ k l. h k (omega arith))) (h n (omega arith)) in omega arith

total_small : (f : ℕ → ℤ) (xs : List ℕ) (m : ℕ) → AllByRecursion (λ x. unsigned_abs (f x) ≤ m) xs
    → unsigned_abs (total f xs) ≤ length xs * m
total_small f [] m h = omega arith
total_small f (x ∷ xs) m h = let a =
    size_add (f x) (total f xs) m (length xs * m) h.0 (total_small f xs m h.1) in omega arith

zero_small : (m : ℕ) → unsigned_abs (pos 0) ≤ m
zero_small m = omega arith

by_test : (b : Bool) (x y : ℤ) (m : ℕ) → unsigned_abs x ≤ m → unsigned_abs y ≤ m
    → unsigned_abs (cond b x y) ≤ m
by_test true x y m h k = h
by_test false x y m h k = k

neg_small : (z : ℤ) (m : ℕ) → unsigned_abs z ≤ m → unsigned_abs (neg_ℤ z) ≤ m
neg_small z m h = omega (arith, ints)

div_small : (a b : ℤ) (m : ℕ) → unsigned_abs a ≤ m → unsigned_abs (int_div a b) ≤ m
div_small (pos a) (pos b) m h = let l = div-le_self a b in omega (arith, ints)
div_small (pos a) (negsuc b) m h = let l = div-le_self a (suc b) in omega (arith, ints)
div_small (negsuc a) (pos b) m h = let l = div-le_self (suc a) b in omega (arith, ints)
div_small (negsuc a) (negsuc b) m h = let l = div-le_self (suc a) (suc b) in omega (arith, ints)

module _ (p : Problem) (formed : IsWellFormed p) where
  over_years : (yearly once : ℤ) → IsInRange yearly → IsInRange once
      → unsigned_abs (p.payout *ℤ yearly +ℤ once) ≤ 10 ^ 18
  over_years yearly once h k =
      let a = size_mul p.payout yearly 100 (10 ^ 15) formed.payout_limit h in
      let b = size_add (p.payout *ℤ yearly) once (100 * 10 ^ 15) (10 ^ 15) a k in
      omega arith

  fix_small : (i : ℕ) → i < length p.units → unsigned_abs ((net_of p).fix i) ≤ 10 ^ 18
  fix_small i l = let u = unit_formed p formed i l in
      over_years (unit_at p i).fix (unit_at p i).investment_fix u.fix.in_range
      u.investment_fix.in_range

  rate_small : (j i : ℕ) → i < length p.units → IsInRange (rate_of p j i)
  rate_small j i l =
      let u = unit_formed p formed i l in
      size_of_rate (rate_in (unit_at p i).outputs j) (rate_in (unit_at p i).inputs j)
      (rate_in_range (length p.materials) (unit_at p i).outputs j u.outputs.terms_formed)
      (rate_in_range (length p.materials) (unit_at p i).inputs j u.inputs.terms_formed)
      (one_zero p i u j (terms_have (unit_at p i).outputs j) (terms_have (unit_at p i).inputs j)
      refl refl)

  worth_small : (i j : ℕ) → i < length p.units → j < length p.materials
      → unsigned_abs ((net_of p).price j *ℤ rate_of p j i) ≤ 10 ^ 32
  worth_small i j l k =
      let a =
      size_mul p.payout (material_at p j).price 100 (10 ^ 15) formed.payout_limit
      (material_formed p formed j k).price_in_range in
      let b =
      size_mul ((net_of p).price j) (rate_of p j i) (100 * 10 ^ 15) (10 ^ 15) a
      (rate_small j i l) in
      omega arith

  size_cost_small : (i : ℕ) → i < length p.units → unsigned_abs (size_cost (net_of p) i) ≤ 10 ^ 35
  size_cost_small i l =
      let u = unit_formed p formed i l in
      let a =
      over_years (unit_at p i).proportional (unit_at p i).investment_proportional u.proportional
      u.investment_proportional in
      let b = size_mul ((net_of p).proportional i) million (10 ^ 18) 1000000 a (omega arith) in
      let c =
      total_below_small (length p.materials) (λ j. (net_of p).price j *ℤ rate_of p j i)
      (10 ^ 32) (λ j k. worth_small i j l k) in
      let few = formed.few_materials in
      let d : length p.materials * 10 ^ 32 ≤ 256 * 10 ^ 32 = omega arith in
      let e =
      size_sub ((net_of p).proportional i *ℤ million)
      (total_below (length p.materials) (λ j. (net_of p).price j *ℤ rate_of p j i))
      (10 ^ 18 * 1000000) (256 * 10 ^ 32) b (omega arith) in
      omega arith

  unit_cost_small : (n : Node) (i : ℕ) → i < length p.units
      → unsigned_abs (unit_cost (net_of p) n i) ≤ 10 ^ 36
  unit_cost_small n i l =
      let f =
      size_mul ((net_of p).fix i) million (10 ^ 18) 1000000 (fix_small i l) (omega arith) in
      let s =
      by_test (int_eq ((net_of p).most i) (pos 0)) (pos 0)
      (int_div ((net_of p).fix i *ℤ million) ((net_of p).most i)) (10 ^ 18 * 1000000)
      (zero_small (10 ^ 18 * 1000000))
      (div_small ((net_of p).fix i *ℤ million) ((net_of p).most i) (10 ^ 18 * 1000000) f) in
      let m = size_mul (slope (net_of p) i) million (10 ^ 18 * 1000000) 1000000 s (omega arith) in
      let c =
      by_test (n.inside i) (pos 0) (slope (net_of p) i *ℤ million) (10 ^ 18 * 1000000 * 1000000)
      (zero_small (10 ^ 18 * 1000000 * 1000000)) m in
      let a =
      size_add (size_cost (net_of p) i)
      (cond (n.inside i) (pos 0) (slope (net_of p) i *ℤ million)) (10 ^ 35)
      (10 ^ 18 * 1000000 * 1000000) (size_cost_small i l) c in
      omega arith

  pub box_formed : (n : Node) (i : ℕ) → i < length p.units
      → rules.IsWithin (10 ^ 15) (unit_low (net_of p) n i)
      × rules.IsWithin (10 ^ 15) ((net_of p).most i)
      × (unit_low (net_of p) n i ≤ℤ (net_of p).most i)
  box_formed n i l =
      let b = (unit_formed p formed i l).bounds in (
        by_test (n.inside i) (unit_at p i).lower (pos 0) (10 ^ 15) b.lower_bound.in_range
            (zero_small (10 ^ 15)),
        b.upper_bound.in_range,
        at (n.inside i) (at_most_from (unit_at p i).lower (unit_at p i).upper b.ordered)
            (not_negative (unit_at p i).upper b.upper_bound.not_negative),
      )
    where
      at : (b : Bool) → (unit_at p i).lower ≤ℤ (unit_at p i).upper → pos 0 ≤ℤ (unit_at p i).upper
          → cond b (unit_at p i).lower (pos 0) ≤ℤ (unit_at p i).upper
      at true h k = h
      at false h k = k

  pub range_formed : (n : Node) (j : ℕ) → j < length p.materials
      → rules.IsWithin (10 ^ 21) (row_low (net_of p) n j)
      × rules.IsWithin (10 ^ 21) (row_high (net_of p) n j)
      × (row_low (net_of p) n j ≤ℤ row_high (net_of p) n j)
  range_formed n j l =
      let b = (material_formed p formed j l).bounds in
      let lower =
      by_test ((net_of p).graph.product j || mats (net_of p).graph n.inside j)
      (material_at p j).lower (pos 0) (10 ^ 15) b.lower_bound.in_range (zero_small (10 ^ 15)) in (
        millionfold
            (cond ((net_of p).graph.raw j) (neg_ℤ (material_at p j).upper)
            (lower_at (net_of p) n j))
            (by_test ((net_of p).graph.raw j) (neg_ℤ (material_at p j).upper)
            (lower_at (net_of p) n j) (10 ^ 15)
            (neg_small (material_at p j).upper (10 ^ 15) b.upper_bound.in_range) lower),
        millionfold
            (cond ((net_of p).graph.raw j) (neg_ℤ (lower_at (net_of p) n j))
            (material_at p j).upper)
            (by_test ((net_of p).graph.raw j) (neg_ℤ (lower_at (net_of p) n j))
            (material_at p j).upper (10 ^ 15)
            (neg_small (lower_at (net_of p) n j) (10 ^ 15) lower)
            b.upper_bound.in_range),
        ordered ((net_of p).graph.raw j) (lower_at (net_of p) n j) (material_at p j).upper
            (at ((net_of p).graph.product j || mats (net_of p).graph n.inside j)
            (at_most_from (material_at p j).lower (material_at p j).upper b.ordered)
            (not_negative (material_at p j).upper b.upper_bound.not_negative)),
      )
    where
      millionfold : (z : ℤ) → unsigned_abs z ≤ 10 ^ 15 → unsigned_abs (million *ℤ z) ≤ 10 ^ 21
      millionfold z h = let a = size_mul million z 1000000 (10 ^ 15) (omega arith) h in
          omega arith

      at : (b : Bool) → (material_at p j).lower ≤ℤ (material_at p j).upper
          → pos 0 ≤ℤ (material_at p j).upper
          → cond b (material_at p j).lower (pos 0) ≤ℤ (material_at p j).upper
      at true h k = h
      at false h k = k

      ordered : (b : Bool) (low high : ℤ) → low ≤ℤ high
          → (million *ℤ cond b (neg_ℤ high) low) ≤ℤ (million *ℤ cond b (neg_ℤ low) high)
      ordered true low high h = omega (arith, ring_z)
      ordered false low high h = omega (arith, ring_z)

  ranges_from : (limit : ℕ) (low high : ℕ → ℤ) (xs : List ℕ)
      → AllByRecursion (λ x. rules.IsWithin limit (low x) × rules.IsWithin limit (high x)
      × (low x ≤ℤ high x)) xs → AreRanges limit (map low xs) (map high xs)
  ranges_from limit low high [] h = tt
  ranges_from limit low high (x ∷ xs) h = (h.0.0, h.0.1, h.0.2, ranges_from limit low high xs h.1)

  mapped : (P : ℤ → Type 0) (f : ℕ → ℤ) (xs : List ℕ) → AllByRecursion (λ x. P (f x)) xs
      → AllByRecursion P (map f xs)
  mapped P f [] h = tt
  mapped P f (x ∷ xs) h = (h.0, mapped P f xs h.1)

  joined : (P : ℤ → Type 0) (xs ys : List ℤ) → AllByRecursion P xs → AllByRecursion P ys
      → AllByRecursion P (xs ++ ys)
  joined P [] ys h k = k
  joined P (x ∷ xs) ys h k = (h.0, joined P xs ys h.1 k)

  rates_small : (js is : List ℕ) → AllByRecursion (λ i. i < length p.units) is
      → AllByRecursion (rules.IsWithin (10 ^ 15)) (rates_over (net_of p) js is)
  rates_small js [] h = tt
  rates_small js (i ∷ is) h =
      joined (rules.IsWithin (10 ^ 15)) (map (λ j. rate_of p j i) js)
      (rates_over (net_of p) js is)
      (mapped (rules.IsWithin (10 ^ 15)) (λ j. rate_of p j i) js
      (all_had (λ j. rules.IsWithin (10 ^ 15) (rate_of p j i)) js (λ j e. rate_small j i h.0)))
      (rates_small js is h.1)

  count_of_rates : (js is : List ℕ) → length (rates_over (net_of p) js is) ≡ length is * length js
  count_of_rates js [] = omega arith
  count_of_rates js (i ∷ is) =
      let a = length-append (map (λ j. rate_of p j i) js) (rates_over (net_of p) js is) in
      let b = length-map js (λ j. rate_of p j i) in
      let c = count_of_rates js is in
      omega arith

  higher : (m n : ℕ) (t : ℕ → Bool) → m ≤ n → IsSet n (listed m t)
  higher m n t l = let s = IsSet-listed m t in
      record { rising = s.rising; below = AreBelow-higher m n (listed m t) l s.below }

  pub program_is : (n : Node) → IsProgram (program_of (net_of p) n)
  program_is n =
      let net = net_of p in
      let known : (i : ℕ) → has (units net n) i ≡ true → i < length p.units =
      λ i e. (listed_had (length p.units) (stays n) (units net n) i refl e).0 in
      let row_known : (j : ℕ) → has (rows net n) j ≡ true → j < length p.materials =
      λ j e.
      (listed_had (length p.materials) (mats net.graph (stays n)) (rows net n) j refl e).0 in
      record {
        units_set = higher (length p.units) 128 (stays n) formed.few_units;
        rows_set =
            higher (length p.materials) 256 (mats net.graph (stays n)) formed.few_materials;
        one_cost = length-map (units net n) (unit_cost net n);
        one_box = length-map (units net n) (unit_low net n);
        one_range = length-map (rows net n) (row_low net n);
        all_rates = count_of_rates (rows net n) (units net n);
        boxes = ranges_from (10 ^ 15) (unit_low net n) net.most (units net n)
            (all_had (λ i. rules.IsWithin (10 ^ 15) (unit_low net n i)
            × rules.IsWithin (10 ^ 15) (net.most i) × (unit_low net n i ≤ℤ net.most i))
            (units net n) (λ i e. box_formed n i (known i e)));
        ranges = ranges_from (10 ^ 21) (row_low net n) (row_high net n) (rows net n)
            (all_had (λ j. rules.IsWithin (10 ^ 21) (row_low net n j)
            × rules.IsWithin (10 ^ 21) (row_high net n j)
            × (row_low net n j ≤ℤ row_high net n j)) (rows net n)
            (λ j e. range_formed n j (row_known j e)));
        fixed_small = fixed_is_small n;
        costs_small =
            All-from_recursion (rules.IsWithin (10 ^ 36)) (map (unit_cost net n) (units net n))
            (mapped (rules.IsWithin (10 ^ 36)) (unit_cost net n) (units net n)
            (all_had (λ i. rules.IsWithin (10 ^ 36) (unit_cost net n i)) (units net n)
            (λ i e. unit_cost_small n i (known i e))));
        rates_small =
            All-from_recursion (rules.IsWithin (10 ^ 15))
            (rates_over net (rows net n) (units net n))
            (rates_small (rows net n) (units net n)
            (all_had (λ i. i < length p.units) (units net n) known));
      }
    where
      fixed_is_small : (n : Node) → unsigned_abs (fixed_cost (net_of p) n) ≤ 10 ^ 33
      fixed_is_small n =
          let t = total_small (net_of p).fix (units_of (net_of p) n.inside) (10 ^ 18)
          (all_had (λ i. unsigned_abs ((net_of p).fix i) ≤ 10 ^ 18) (units_of (net_of p) n.inside)
          (λ i e. fix_small i
          (listed_had (length p.units) n.inside (units_of (net_of p) n.inside) i refl e).0)) in
          let l = length_listed (length p.units) n.inside in
          let few = formed.few_units in
          let c : length (units_of (net_of p) n.inside) * 10 ^ 18 ≤ 128 * 10 ^ 18 = omega arith in
          let m =
          size_mul trillion (total (net_of p).fix (units_of (net_of p) n.inside)) 1000000000000
          (128 * 10 ^ 18) (omega arith) (omega arith) in
          omega arith

pub same_program : (net : Net) (n : Node) (us js : List ℕ) (fixed : ℤ)
    (costs lows highs floors ceilings rates : List ℤ) → us ≡ units net n → js ≡ rows net n
    → fixed ≡ fixed_cost net n
    → costs ≡ map (unit_cost net n) us → lows ≡ map (unit_low net n) us → highs ≡ map net.most us
    → floors ≡ map (row_low net n) js → ceilings ≡ map (row_high net n) js
    → rates ≡ rates_over net js us
    → (let q : Program =
    record {
      units = us;
      rows = js;
      fixed = fixed;
      costs = costs;
      lows = lows;
      highs =
          highs;
      floors = floors;
      ceilings = ceilings;
      rates = rates;
    } in q) ≡ program_of net n
same_program net n us js fixed costs lows highs floors ceilings rates u r f a b c d e g =
    (λ k. record {
      units = us;
      rows = js;
      fixed = f k;
      costs = a k;
      lows = b k;
      highs =
          c k;
      floors = d k;
      ceilings = e k;
      rates = g k;
    })
    ∙ (λ k. record {
      units = u k;
      rows = r k;
      fixed = fixed_cost net n;
      costs =
          map (unit_cost net n) (u k);
      lows = map (unit_low net n) (u k);
      highs =
          map net.most (u k);
      floors = map (row_low net n) (r k);
      ceilings =
          map (row_high net n) (r k);
      rates = rates_over net (r k) (u k);
    })
