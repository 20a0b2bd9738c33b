-- How many units of a node are free, and how many options a material has.
use Rattle.std.proofs.Common.{◌≡◌, ℕ, zero, suc, ◌+◌, ◌*◌, ◌^◌, ◌≤◌, ◌<◌, Bool, true, false, cond}
use Rattle.std.proofs.Common.{not, ◌&&◌, ◌||◌, ◌==◌, List, [], ◌∷◌, ◌++◌, length, refl, ap, ◌∙◌}
use Rattle.std.proofs.Common.{subst, inl, inr, eq-eqb, arith}
use Rattle.std.proofs.lemmas.Bool.{or_right, and_from, and_parts, both_ways, not-true, cases_eq}
use Rattle.std.proofs.lemmas.List.{length-append, length-map}
use Rattle.std.proofs.lemmas.Nat.{pow-add}
use Rattle.std.proofs.Math.Nat.{pow-le-pow_right}
use Rattle.tree_rules.specs.number_sets.Sets.{has, listed}
use Rattle.tree_rules.specs.number_sets.Options.{without_and_with, subsets, with_base, non_empty}
use Rattle.tree_rules.specs.pns_rules.Shape.{Shape}
use Rattle.tree_rules.specs.pns_rules.Nodes.{Node, Step, raw, rival, starve, loose, sole, is_free}
use Rattle.tree_rules.specs.pns_rules.Nodes.{after}
use Rattle.tree_rules.specs.pns_rules.Nodes.{free_makers, options, child}
use Rattle.tree_rules.specs.Ways.{Way, at_material, either, MayBranch, decides, options_at}
use Rattle.tree_rules.specs.Ways.{child_at, children_at, IsDecision}

-- how many numbers below n pass
abbrev pub count : ℕ → (ℕ → Bool) → ℕ
count zero t = 0
count (suc n) t = count n t + cond (t n) 1 0

one_or_none : (n : ℕ) (b : Bool) → length (cond b (n ∷ []) []) ≡ cond b 1 0
one_or_none n true = refl
one_or_none n false = refl

pub length-listed : (n : ℕ) (t : ℕ → Bool) → length (listed n t) ≡ count n t
unfolding listed
length-listed zero t = refl
length-listed (suc n) t =
    let a : length (listed n t ++ cond (t n) (n ∷ []) []) ≡ length (listed n t)
    + length (cond (t n) (n ∷ []) []) = length-append (listed n t) (cond (t n) (n ∷ []) []) in
    let b : length (listed n t) ≡ count n t = length-listed n t in
    let c : length (cond (t n) (n ∷ []) []) ≡ cond (t n) 1 0 = one_or_none n (t n) in
    omega arith

-- two sets that are apart are not more than a set of both
bits : (a b c : Bool) → (a ≡ true → (c ≡ true) × (b ≡ false)) → (b ≡ true → c ≡ true)
    → cond a 1 0 + cond b 1 0 ≤ cond c 1 0
bits true true c f g = absurd (both_ways true (f refl).1 refl)
bits true false true f g = omega arith
bits true false false f g = absurd (both_ways false refl (f refl).0)
bits false true true f g = omega arith
bits false true false f g = absurd (both_ways false refl (g refl))
bits false false c f g = none c
  where
    none : (b : Bool) → 0 ≤ cond b 1 0
    none true = omega arith
    none false = omega arith

pub count-parts : (n : ℕ) (a b c : ℕ → Bool) → ((u : ℕ) → a u ≡ true → (c u ≡ true) × (b u ≡ false))
    → ((u : ℕ) → b u ≡ true → c u ≡ true) → count n a + count n b ≤ count n c
count-parts zero a b c f g = omega arith
count-parts (suc n) a b c f g =
    let h = count-parts n a b c f g in
    let k = bits (a n) (b n) (c n) (f n) (g n) in
    omega (arith, h, k)

pub count-some : (n : ℕ) (t : ℕ → Bool) (u : ℕ) → u < n → t u ≡ true → 1 ≤ count n t
count-some zero t u lt e = absurd (omega (arith, lt))
count-some (suc n) t u lt e = elim (cases_eq u n) [
  | inl same ↦
      let here : t n ≡ true = subst (λ (k : ℕ). t k ≡ true) same e in
      rw here (omega arith)
  | inr apart ↦
      let h = count-some n t u (omega (arith, lt, apart)) e in
      omega (arith, h)
]

count-none : (n : ℕ) → count n (λ u. false) ≡ 0
count-none zero = refl
count-none (suc n) = let h = count-none n in omega arith

pub count-le : (n : ℕ) (a c : ℕ → Bool) → ((u : ℕ) → a u ≡ true → c u ≡ true)
    → count n a ≤ count n c
count-le n a c f =
    let h =
    count-parts n a (λ u. false) c (λ u e. (f u e, refl))
    (λ u e. absurd (both_ways false refl e)) in
    let k = count-none n in
    omega (arith, h, k)

-- ---- options

pub double : (n : ℕ) → 2 ^ suc n ≡ 2 * 2 ^ n
double n = ap (λ (k : ℕ). 2 ^ k) (let s : suc n ≡ 1 + n = omega arith in s) ∙ pow-add 2 1 n

length-doubled : (u : ℕ) (ts : List (List ℕ)) → length (without_and_with u ts) ≡ 2 * length ts
length-doubled u [] = refl
length-doubled u (t ∷ ts) = let h = length-doubled u ts in omega arith

pub length-subsets : (us : List ℕ) → length (subsets us) ≡ 2 ^ length us
length-subsets [] = refl
length-subsets (u ∷ us) =
    let h = length-subsets us in
    let d = length-doubled u (subsets us) in
    let q : 2 ^ suc (length us) ≡ 2 * 2 ^ length us = double (length us) in
    omega arith

length-with_base : (base : List ℕ) (ts : List (List ℕ)) → length (with_base base ts) ≡ length ts
length-with_base base [] = refl
length-with_base base (t ∷ ts) = ap suc (length-with_base base ts)

length-non_empty : (ts : List (List ℕ)) → length (non_empty ts) ≤ length ts
length-non_empty [] = omega arith
length-non_empty ([] ∷ ts) = let h = length-non_empty ts in omega (arith, h)
length-non_empty ((u ∷ us) ∷ ts) = let h = length-non_empty ts in omega (arith, h)

pub options_at_most : (g : Shape) (n : Node) (x : ℕ)
    → length (options g n x) ≤ 2 ^ length (free_makers g n x)
options_at_most g n x =
    let base = listed g.units (λ u. n.inside u && g.makes u x) in
    let free = free_makers g n x in
    let a = length-non_empty (with_base base (subsets free)) in
    let b = length-with_base base (subsets free) in
    let c = length-subsets free in
    omega (arith, a, b, c)

-- the units that are free and that a way decides
abbrev pub open_to : Shape → Node → Way → List ℕ
open_to g n w = listed g.units (λ v. is_free g n v && decides g w v)

-- a way has no more options than those units have sets
pub ways_at_most : (g : Shape) (n : Node) (w : Way) → MayBranch g n w
    → length (options_at g n w) ≤ 2 ^ length (open_to g n w)
ways_at_most g n (at_material x c) may = options_at_most g n x
ways_at_most g n (either u) may =
    let k : length (open_to g n (either u)) ≡ count g.units (λ v. is_free g n v && (u == v)) =
    length-listed g.units (λ v. is_free g n v && (u == v)) in
    let some : 1 ≤ count g.units (λ v. is_free g n v && (u == v))
    = count-some g.units (λ v. is_free g n v && (u == v)) u may.0
    (and_from (is_free g n u) (u == u) may.1 (eq-eqb u u refl)) in
    pow-le-pow_right (omega arith) (let one : 1 ≤ length (open_to g n (either u)) =
    omega (arith, k, some) in one)

-- and at least two
pub ways_split : (g : Shape) (n : Node) (w : Way) → IsDecision g n w → 2 ≤ length (options_at g n w)
ways_split g n (at_material x c) d = d
ways_split g n (either u) d = omega arith

pub children_are_many : (g : Shape) (n : Node) (w : Way) → IsDecision g n w
    → 2 ≤ length (children_at g n w)
children_are_many g n w d =
    let a = ways_split g n w d in
    let b : length (children_at g n w) ≡ length (options_at g n w) =
    length-map (options_at g n w) (child_at g n w) in
    omega (arith, a, b)

-- ---- free units

abbrev pub free_count : Shape → Node → ℕ
free_count g n = count g.units (is_free g n)

fewer : (a b c d : Bool) → (c ≡ true → a ≡ true) → (d ≡ true → b ≡ true) → (not a && not b) ≡ true
    → (not c && not d) ≡ true
fewer a b true d f h e = absurd (both_ways a (not-true a (and_parts (not a) (not b) e).0) (f refl))
fewer a b false true f h e =
    absurd (both_ways b (not-true b (and_parts (not a) (not b) e).1) (h refl))
fewer a b false false f h e = refl

step_frees : (g : Shape) (n : Node) (t : Step) (u : ℕ) → is_free g (after g n t) u ≡ true
    → is_free g n u ≡ true
step_frees g n (raw v) u =
    fewer (n.inside u) ((v == u) || n.outside u) (n.inside u) (n.outside u) (λ e. e)
    (λ e. or_right (v == u) (n.outside u) e)
step_frees g n (rival v) u =
    fewer (n.inside u) ((v == u) || n.outside u) (n.inside u) (n.outside u) (λ e. e)
    (λ e. or_right (v == u) (n.outside u) e)
step_frees g n (starve x) u =
    fewer (n.inside u) (g.uses u x || n.outside u) (n.inside u) (n.outside u) (λ e. e)
    (λ e. or_right (g.uses u x) (n.outside u) e)
step_frees g n (loose w) u =
    fewer (n.inside u) (has w u || n.outside u) (n.inside u) (n.outside u) (λ e. e)
    (λ e. or_right (has w u) (n.outside u) e)
step_frees g n (sole x v) u =
    fewer ((v == u) || n.inside u) (n.outside u) (n.inside u) (n.outside u)
    (λ e. or_right (v == u) (n.inside u) e) (λ e. e)

pub step_count : (g : Shape) (n : Node) (t : Step) → free_count g (after g n t) ≤ free_count g n
step_count g n t = count-le g.units (is_free g (after g n t)) (is_free g n) (step_frees g n t)

-- a unit that is free at a child is not decided
child_decides : (a b m h : Bool) → (not (h || a) && not ((m && not h) || b)) ≡ true → m ≡ false
child_decides a b false h e = refl
child_decides true b true true e = absurd (both_ways false refl e)
child_decides false b true true e = absurd (both_ways false refl e)
child_decides true b true false e = absurd (both_ways false refl e)
child_decides false b true false e = absurd (both_ways false refl e)

pub way_count : (g : Shape) (n : Node) (w : Way) (t : List ℕ)
    → free_count g (child_at g n w t) + length (open_to g n w) ≤ free_count g n
way_count g n w t =
    let k : length (open_to g n w) ≡ count g.units (λ u. is_free g n u && decides g w u) =
    length-listed g.units (λ u. is_free g n u && decides g w u) in
    let h : count g.units (is_free g (child_at g n w t))
    + count g.units (λ u. is_free g n u && decides g w u) ≤ count g.units (is_free g n)
    = count-parts g.units (is_free g (child_at g n w t)) (λ u. is_free g n u && decides g w u)
    (is_free g n) apart (λ u e. (and_parts (is_free g n u) (decides g w u) e).0) in
    omega (arith, h, k)
  where
    apart : (u : ℕ) → is_free g (child_at g n w t) u ≡ true → (is_free g n u ≡ true)
        × ((is_free g n u && decides g w u) ≡ false)
    apart u e =
        let free : is_free g n u ≡ true
        = fewer (has t u || n.inside u) ((decides g w u && not (has t u)) || n.outside u)
        (n.inside u) (n.outside u) (λ q. or_right (has t u) (n.inside u) q)
        (λ q. or_right (decides g w u && not (has t u)) (n.outside u) q) e in
        let undecided : decides g w u ≡ false =
        child_decides (n.inside u) (n.outside u) (decides g w u) (has t u) e in
        (free, rw free (rw undecided refl))

pub child_count : (g : Shape) (n : Node) (x : ℕ) (t : List ℕ)
    → free_count g (child g n x t) + length (free_makers g n x) ≤ free_count g n
child_count g n x t = way_count g n (at_material x 0) t
