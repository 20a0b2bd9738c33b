-- Divisors of a problem's numbers, from the node with all units taken in and the node with all
-- free.
use Rattle.std.proofs.Common.{◌≡◌, ℕ, ◌<◌, Bool, true, false, not, ◌||◌, ◌&&◌, cond, List, [], ◌∷◌}
use Rattle.std.proofs.Common.{length, refl, sym, ap, ◌∙◌, subst, arith, pos, ℤ, neg_ℤ, ◌+ℤ◌, ◌*ℤ◌}
use Rattle.std.proofs.Common.{◌≤ℤ◌, ◌<ℤ◌}
use Rattle.std.specs.Prelude.{int_div, unsigned_abs}
use Rattle.std.specs.Int.{◌∣◌}
use Rattle.std.specs.List.{AllByRecursion}
use Rattle.std.proofs.lemmas.Int.{ints}
use Rattle.tree_rules.specs.integer_laws.Total.{total}
use Rattle.tree_rules.proofs.integer_laws.Cited.{mul_comm_z, mul_assoc_z, mul-add_z, mul-zero_z}
use Rattle.tree_rules.proofs.integer_laws.Cited.{part_divides}
use Rattle.flow_program.proofs.exact_numbers.Cited.{quotient_exact}
use Rattle.tree_rules.specs.number_sets.Sets.{any_below}
use Rattle.tree_rules.proofs.number_sets.Cited.{any_below-some, any_below-from}
use Rattle.tree_rules.specs.pns_rules.Shape.{Shape}
use Rattle.tree_rules.specs.pns_rules.Structure.{mats, is_used, is_made}
use Rattle.tree_rules.specs.pns_rules.Nodes.{Node}
use Rattle.tree_rules.specs.flow_rules.Net.{Net, million, size_cost}
use Rattle.tree_rules.specs.flow_rules.Relaxed.{stays, row_low, row_high, unit_low, unit_cost}
use Rattle.tree_rules.specs.flow_rules.Relaxed.{slope}
use Rattle.scaled_flows.specs.Divisors.{Divisors, Divides, rate_divisor, AreDivisors}
use Rattle.scaled_flows.proofs.SettledLemmas.{product_positive}

from_one : (a : ℤ) → pos 1 ≤ℤ a → pos 0 <ℤ a
from_one a h = omega (arith, ints)

pub divides_abs : (g x : ℤ) → pos 1 ≤ℤ g → unsigned_abs g ∣ unsigned_abs x → Divides g x
divides_abs g x p h = quotient_exact x g (from_one g p) h

pub divides_of : (g q x : ℤ) → pos 1 ≤ℤ g → g *ℤ q ≡ x → Divides g x
divides_of g q x p e = divides_abs g x p (part_divides q g x (mul_comm_z q g ∙ e))

divides_zero : (g : ℤ) → pos 1 ≤ℤ g → Divides g (pos 0)
divides_zero g p = divides_of g (pos 0) (pos 0) p (mul-zero_z g)

pub divides_both : (g r x : ℤ) → pos 1 ≤ℤ g → pos 1 ≤ℤ r → Divides g x → Divides r (int_div x g)
    → Divides (g *ℤ r) x
divides_both g r x p q a b =
    divides_of (g *ℤ r) (int_div (int_div x g) r) x (product_positive g r p q)
    (mul_assoc_z g r (int_div (int_div x g) r) ∙ ap (λ (v : ℤ). g *ℤ v) b ∙ a)

divides_sum : (g : ℤ) → pos 1 ≤ℤ g → (f : ℕ → ℤ) (xs : List ℕ)
    → AllByRecursion (λ i. Divides g (f i)) xs → Divides g (total f xs)
divides_sum g p f [] h = divides_zero g p
divides_sum g p f (x ∷ xs) h =
    let rest : Divides g (total f xs) = divides_sum g p f xs h.1 in
    divides_of g (int_div (f x) g +ℤ int_div (total f xs) g) (f x +ℤ total f xs) p
    (mul-add_z g (int_div (f x) g) (int_div (total f xs) g)
    ∙ ap (λ (v : ℤ). v +ℤ g *ℤ int_div (total f xs) g) h.0 ∙ ap (λ (v : ℤ). f x +ℤ v) rest)

-- a number that is kept or becomes 0
divides_either : (g : ℤ) (b : Bool) (x : ℤ) → pos 1 ≤ℤ g → Divides g x
    → Divides g (cond b x (pos 0))
divides_either g true x p h = h
divides_either g false x p h = divides_zero g p

zero_million : million *ℤ pos 0 ≡ pos 0
zero_million = mul-zero_z million

zero_million_turned : million *ℤ neg_ℤ (pos 0) ≡ pos 0
zero_million_turned = mul-zero_z million

-- the ends of a range at which the lower bound is kept, or is 0
low_kept : (g : ℤ) (raw keep : Bool) (lower upper : ℤ) → pos 1 ≤ℤ g
    → Divides g (million *ℤ cond raw (neg_ℤ upper) lower)
    → Divides g (million *ℤ cond raw (neg_ℤ upper) (cond keep lower (pos 0)))
low_kept g true keep lower upper p h = h
low_kept g false true lower upper p h = h
low_kept g false false lower upper p h = subst (Divides g) (sym zero_million) (divides_zero g p)

high_kept : (g : ℤ) (raw keep : Bool) (lower upper : ℤ) → pos 1 ≤ℤ g
    → Divides g (million *ℤ cond raw (neg_ℤ lower) upper)
    → Divides g (million *ℤ cond raw (neg_ℤ (cond keep lower (pos 0))) upper)
high_kept g true true lower upper p h = h
high_kept g true false lower upper p h =
    subst (Divides g) (sym zero_million_turned) (divides_zero g p)
high_kept g false keep lower upper p h = h

both_here : (a b c : Bool) → (a ≡ true → c ≡ true) → (a && b) ≡ true → (c && b) ≡ true
both_here true b c f h = rw (f refl) h
both_here false b c f h = cc

-- the materials of a set are those of each set that has its units
mats_larger : (g : Shape) (s t : ℕ → Bool) → ((u : ℕ) → u < g.units → s u ≡ true → t u ≡ true)
    → (j : ℕ) → mats g s j ≡ true → mats g t j ≡ true
mats_larger g s t sub j h = at (is_used g s j) refl h
  where
    lifted : (of : ℕ → Bool) → any_below g.units (λ u. s u && of u) ≡ true
        → any_below g.units (λ u. t u && of u) ≡ true
    lifted of e = let w = any_below-some g.units (λ u. s u && of u) e in
        any_below-from g.units (λ u. t u && of u) w.0 w.1
        (both_here (s w.0) (of w.0) (t w.0) (sub w.0 w.1) w.2)

    first : (a b : Bool) → a ≡ true → (a || b) ≡ true
    first true b e = refl
    first false b e = cc

    second : (a b : Bool) → b ≡ true → (a || b) ≡ true
    second true b e = refl
    second false b e = e

    at : (b : Bool) → is_used g s j ≡ b → (b || is_made g s j) ≡ true → mats g t j ≡ true
    at true e k = first (is_used g t j) (is_made g t j) (lifted (λ u. g.uses u j) e)
    at false e k = second (is_used g t j) (is_made g t j) (lifted (λ u. g.makes u j) k)

or_second : (a b : Bool) → b ≡ true → (a || b) ≡ true
or_second true b e = refl
or_second false b e = e

-- `taken` has all units inside, `free` none
module _ (net : Net) (s : Divisors) (taken free : Node)
    (all_inside : (i : ℕ) → i < net.graph.units → taken.inside i ≡ true)
    (none_outside : (i : ℕ) → taken.outside i ≡ false)
    (none_inside : (i : ℕ) → free.inside i ≡ false) where
  row_of_all : (n : Node) (j : ℕ) → mats net.graph (stays n) j ≡ true
      → mats net.graph (stays taken) j ≡ true
  row_of_all n j h =
      mats_larger net.graph (stays n) (stays taken) (λ u l e. ap not (none_outside u)) j h

  kept_of_all : (n : Node) (j : ℕ) → mats net.graph (stays n) j ≡ true
      → (net.graph.product j || mats net.graph taken.inside j) ≡ true
  kept_of_all n j h =
      or_second (net.graph.product j) (mats net.graph taken.inside j)
      (mats_larger net.graph (stays n) taken.inside (λ u l e. all_inside u l) j h)

  low_of_all : (g : ℤ) (n : Node) (j : ℕ) → pos 1 ≤ℤ g → mats net.graph (stays n) j ≡ true
      → Divides g (row_low net taken j) → Divides g (row_low net n j)
  low_of_all g n j p h k =
      low_kept g (net.graph.raw j) (net.graph.product j || mats net.graph n.inside j) (net.lower j)
      (net.upper j) p
      (subst
      (λ (b : Bool). Divides g
      (million *ℤ cond (net.graph.raw j) (neg_ℤ (net.upper j)) (cond b (net.lower j) (pos 0))))
      (kept_of_all n j h) k)

  high_of_all : (g : ℤ) (n : Node) (j : ℕ) → pos 1 ≤ℤ g → mats net.graph (stays n) j ≡ true
      → Divides g (row_high net taken j) → Divides g (row_high net n j)
  high_of_all g n j p h k =
      high_kept g (net.graph.raw j) (net.graph.product j || mats net.graph n.inside j) (net.lower j)
      (net.upper j) p
      (subst
      (λ (b : Bool). Divides g
      (million *ℤ cond (net.graph.raw j) (neg_ℤ (cond b (net.lower j) (pos 0))) (net.upper j)))
      (kept_of_all n j h) k)

  cost_of_either : (g : ℤ) (n : Node) (i : ℕ) → i < net.graph.units
      → Divides g (unit_cost net taken i) → Divides g (unit_cost net free i)
      → Divides g (unit_cost net n i)
  cost_of_either g n i l a b = at (n.inside i)
      (subst (λ (x : Bool). Divides g (size_cost net i +ℤ cond x (pos 0) (slope net i *ℤ million)))
      (all_inside i l) a)
      (subst (λ (x : Bool). Divides g (size_cost net i +ℤ cond x (pos 0) (slope net i *ℤ million)))
      (none_inside i) b)
    where
      at : (x : Bool) → Divides g (size_cost net i +ℤ cond true (pos 0) (slope net i *ℤ million))
          → Divides g (size_cost net i +ℤ cond false (pos 0) (slope net i *ℤ million))
          → Divides g (size_cost net i +ℤ cond x (pos 0) (slope net i *ℤ million))
      at true p q = p
      at false p q = q

  low_of_units : (g : ℤ) (n : Node) (i : ℕ) → pos 1 ≤ℤ g → i < net.graph.units
      → Divides g (unit_low net taken i) → Divides g (unit_low net n i)
  low_of_units g n i p l h =
      divides_either g (n.inside i) (net.least i) p
      (subst (λ (b : Bool). Divides g (cond b (net.least i) (pos 0))) (all_inside i l) h)

  -- what divides the numbers of these two nodes divides those of all
  pub divisors_from :
      length s.rates ≡ net.graph.materials
      → ((j : ℕ) → j < net.graph.materials → pos 1 ≤ℤ rate_divisor s j)
      → pos 1 ≤ℤ s.sizes → pos 1 ≤ℤ s.costs
      → ((j i : ℕ) → j < net.graph.materials → i < net.graph.units
      → unsigned_abs (rate_divisor s j) ∣ unsigned_abs (net.rate j i))
      → ((j : ℕ) → j < net.graph.materials
      → (unsigned_abs (rate_divisor s j) ∣ unsigned_abs (row_low net taken j))
      × (unsigned_abs (rate_divisor s j) ∣ unsigned_abs (row_high net taken j)))
      → ((j : ℕ) → j < net.graph.materials → mats net.graph (stays taken) j ≡ true
      → (unsigned_abs s.sizes ∣ unsigned_abs (int_div (row_low net taken j) (rate_divisor s j)))
      × (unsigned_abs s.sizes ∣ unsigned_abs
      (int_div (row_high net taken j) (rate_divisor s j))))
      → ((i : ℕ) → i < net.graph.units
      → (unsigned_abs s.sizes ∣ unsigned_abs (unit_low net taken i))
      × (unsigned_abs s.sizes ∣ unsigned_abs (net.most i)))
      → ((i : ℕ) → i < net.graph.units
      → (unsigned_abs s.costs ∣ unsigned_abs (unit_cost net taken i))
      × (unsigned_abs s.costs ∣ unsigned_abs (unit_cost net free i)))
      → AreDivisors net s
  divisors_from count rates_positive sizes_positive costs_positive rates ends rows sizes costs =
      record {
        count = count;
        rates_positive = rates_positive;
        sizes_positive = sizes_positive;
        costs_positive = costs_positive;
        rate =
            λ j i l k. divides_abs (rate_divisor s j) (net.rate j i) (rates_positive j l)
            (rates j i l k);
        size_low =
            λ n i l. low_of_units s.sizes n i sizes_positive l
            (divides_abs s.sizes (unit_low net taken i) sizes_positive (sizes i l).0);
        size_high = λ i l. divides_abs s.sizes (net.most i) sizes_positive (sizes i l).1;
        row_low =
            λ n j l h. low_of_all (rate_divisor s j *ℤ s.sizes) n j
            (product_positive (rate_divisor s j) s.sizes (rates_positive j l) sizes_positive) h
            (divides_both (rate_divisor s j) s.sizes (row_low net taken j) (rates_positive j l)
            sizes_positive
            (divides_abs (rate_divisor s j) (row_low net taken j) (rates_positive j l) (ends j l).0)
            (divides_abs s.sizes (int_div (row_low net taken j) (rate_divisor s j)) sizes_positive
            (rows j l (row_of_all n j h)).0));
        row_high =
            λ n j l h. high_of_all (rate_divisor s j *ℤ s.sizes) n j
            (product_positive (rate_divisor s j) s.sizes (rates_positive j l) sizes_positive) h
            (divides_both (rate_divisor s j) s.sizes (row_high net taken j) (rates_positive j l)
            sizes_positive
            (divides_abs (rate_divisor s j) (row_high net taken j) (rates_positive j l)
            (ends j l).1)
            (divides_abs s.sizes (int_div (row_high net taken j) (rate_divisor s j)) sizes_positive
            (rows j l (row_of_all n j h)).1));
        cost =
            λ n i l. cost_of_either s.costs n i l
            (divides_abs s.costs (unit_cost net taken i) costs_positive (costs i l).0)
            (divides_abs s.costs (unit_cost net free i) costs_positive (costs i l).1);
      }
