-- What a network moves of a material at one unit is a number by which it was judged.
use Rattle.std.proofs.Common.{◌≡◌, ◌≢◌, ℕ, zero, suc, get_or, sym, ◌<◌, List, [], ◌∷◌, refl, ap}
use Rattle.std.proofs.Common.{◌∙◌, subst, arith, eq-eqb, pos, ℤ, ◌+ℤ◌, ◌-ℤ◌, ◌*ℤ◌, true, false}
use Rattle.std.proofs.Common.{Bool, ◌==◌, ◌⊎◌, inl, inr, length}
use Rattle.std.specs.Prelude.{◌||◌, ◌&&◌, nat_lt, not}
use Rattle.std.specs.Ordering.{int_eq}
use Rattle.std.proofs.lemmas.Int.{ints}
use Rattle.std.proofs.lemmas.Bool.{eqb-true, lt-ltb}
use Rattle.report_amounts.specs.integer_laws.Range.{InRange}
use Rattle.report_amounts.specs.number_sets.Sets.{has}
use Rattle.report_amounts.proofs.number_sets.Cited.{has-listed, any_below-from}
use Rattle.report_amounts.specs.problem_rules.Problem.{Problem, Term, terms_have, rate_in, rate_of}
use Rattle.report_amounts.specs.problem_rules.Problem.{unit_at}
use Rattle.report_amounts.specs.pns_rules.Shape.{shape_of, IsProper}
use Rattle.report_amounts.specs.pns_rules.Structure.{mats, is_used, is_made}
use Rattle.report_amounts.specs.flow_rules.Net.{Net, net_of, materials_of}
use Rattle.report_amounts.specs.flow_rules.Steps.{AreInRange}
use Rattle.report_amounts.specs.flow_rules.FeasibleSteps.{units_at, balance_steps}
use Rattle.report_amounts.proofs.flow_rules.Cited.{int_eq_other}
use Rattle.report_amounts.specs.tree_rules.Claim.{Network, IsFeasible, size_in}
use Rattle.report_amounts.proofs.Cited.{material_in_range}

-- each product of a balance is one of its steps
step_in_range : (net : Net) (z : ℕ → ℤ) (j : ℕ) (units : List ℕ) (sum : ℤ) (i : ℕ)
    → AreInRange (balance_steps net z j units sum) → has units i ≡ true
    → InRange (net.rate j i *ℤ z i)
step_in_range net z j [] sum i h e = let f : false ≡ true = e in cc
step_in_range net z j (u ∷ us) sum i h e =
    at (u == i) refl e (λ g. step_in_range net z j us (sum +ℤ net.rate j u *ℤ z u) i h.1.1 g)
  where
    at : (b : Bool) → (u == i) ≡ b → (b || has us i) ≡ true
        → (has us i ≡ true → InRange (net.rate j i *ℤ z i)) → InRange (net.rate j i *ℤ z i)
    at true f g later = subst (λ k. InRange (net.rate j k *ℤ z k)) (eqb-true u i f) h.0
    at false f g later = later g

-- a material that is not among the terms has no rate there
no_rate : (ts : List Term) (j : ℕ) → terms_have ts j ≡ false → rate_in ts j ≡ pos 0
no_rate [] j h = refl
no_rate (t ∷ ts) j h = at (t.material == j) refl h (no_rate ts j)
  where
    at : (b : Bool) → (t.material == j) ≡ b → (b || terms_have ts j) ≡ false
        → (terms_have ts j ≡ false → rate_in ts j ≡ pos 0) → rate_in (t ∷ ts) j ≡ pos 0
    at true e f later = let g : true ≡ false = f in cc
    at false e f later = rw (rate_in, e) (later f)

-- a material of the graph
pub is_material : (p : Problem) (s : ℕ → Bool) (j : ℕ) → j < length p.materials
    → mats (shape_of p) s j ≡ true → has (materials_of (net_of p) s) j ≡ true
is_material p s j l m = has-listed (length p.materials) (mats (shape_of p) s) j
    ∙ (λ i. lt-ltb j (length p.materials) l i && m i)

-- a unit with a rate of a material has the material on one side
has_term : (p : Problem) (u j : ℕ) → rate_of p j u ≢ pos 0
    → (terms_have (unit_at p u).inputs j ≡ true) ⊎ (terms_have (unit_at p u).outputs j ≡ true)
has_term p u j n =
    at (terms_have (unit_at p u).inputs j) refl (terms_have (unit_at p u).outputs j) refl
  where
    nothing : (a b : ℤ) → a ≡ pos 0 → b ≡ pos 0 → a -ℤ b ≡ pos 0
    nothing a b e f = omega (arith, ints)

    at : (a : Bool) → terms_have (unit_at p u).inputs j ≡ a → (b : Bool)
        → terms_have (unit_at p u).outputs j ≡ b → (terms_have (unit_at p u).inputs j ≡ true)
        ⊎ (terms_have (unit_at p u).outputs j ≡ true)
    at true e b f = inl e
    at false e true f = inr f
    at false e false f =
        absurd
        (n (nothing (rate_in (unit_at p u).outputs j) (rate_in (unit_at p u).inputs j)
        (no_rate (unit_at p u).outputs j f) (no_rate (unit_at p u).inputs j e)))

or_true : (a b : Bool) → (a ≡ true) ⊎ (b ≡ true) → (a || b) ≡ true
or_true true b h = refl
or_true false b (inl e) = let f : false ≡ true = e in cc
or_true false b (inr e) = e

both_true : (a b : Bool) → a ≡ true → b ≡ true → (a && b) ≡ true
both_true true b h k = k
both_true false b h k = h

-- that material is one of the graph of a set with the unit
term_in : (p : Problem) (s : ℕ → Bool) (u j : ℕ) → u < length p.units → s u ≡ true
    → (terms_have (unit_at p u).inputs j ≡ true) ⊎ (terms_have (unit_at p u).outputs j ≡ true)
    → mats (shape_of p) s j ≡ true
term_in p s u j l e (inl h) =
    or_true (is_used (shape_of p) s j) (is_made (shape_of p) s j)
    (inl
    (any_below-from (length p.units) (λ v. s v && terms_have (unit_at p v).inputs j) u l
    (both_true (s u) (terms_have (unit_at p u).inputs j) e h)))
term_in p s u j l e (inr h) =
    or_true (is_used (shape_of p) s j) (is_made (shape_of p) s j)
    (inr
    (any_below-from (length p.units) (λ v. s v && terms_have (unit_at p v).outputs j) u l
    (both_true (s u) (terms_have (unit_at p u).outputs j) e h)))

known : (p : Problem) (u j : ℕ) → IsProper (shape_of p) → (terms_have (unit_at p u).inputs j ≡ true)
    ⊎ (terms_have (unit_at p u).outputs j ≡ true) → j < length p.materials
known p u j proper (inl h) = proper.input_known u j h
known p u j proper (inr h) = proper.output_known u j h

pub moved_in_range : (p : Problem) (w : Network) (u j : ℕ) → IsProper (shape_of p) → IsFeasible p w
    → u < length p.units → has w.units u ≡ true → rate_of p j u ≢ pos 0
    → InRange (rate_of p j u *ℤ size_in w u)
moved_in_range p w u j proper h l e n =
    let side = has_term p u j n in
    let below : j < length p.materials = known p u j proper side in
    let steps : AreInRange
    (balance_steps (net_of p) (size_in w) j (units_at (net_of p) (has w.units) j) (pos 0)) =
    material_in_range (net_of p) (has w.units) (size_in w) (materials_of (net_of p) (has w.units)) j
    h.balances (is_material p (has w.units) j below (term_in p (has w.units) u j l e side)) in
    step_in_range (net_of p) (size_in w) j (units_at (net_of p) (has w.units) j) (pos 0) u steps
    (has-listed (length p.units) (λ i. has w.units i && not (int_eq (rate_of p j i) (pos 0))) u
    ∙ both_true (nat_lt u (length p.units)) (has w.units u && not (int_eq (rate_of p j u) (pos 0)))
    (lt-ltb u (length p.units) l)
    (both_true (has w.units u) (not (int_eq (rate_of p j u) (pos 0))) e
    (ap not (int_eq_other (rate_of p j u) n))))

-- an item of a list of terms is among them
item_at : (ts : List Term) (k : ℕ) (t : Term) → k < length ts
    → terms_have ts (get_or ts k t).material ≡ true
item_at [] k t less = absurd (omega arith)
item_at (x ∷ xs) zero t less =
    or_true (x.material == x.material) (terms_have xs x.material)
    (inl (eq-eqb x.material x.material refl))
item_at (x ∷ xs) (suc k) t less =
    or_true (x.material == (get_or xs k t).material) (terms_have xs (get_or xs k t).material)
    (inr (item_at xs k t (omega (arith, less))))

pub item_had : (ts : List Term) (k : ℕ) (t : Term) → k < length ts → t ≡ get_or ts k t
    → terms_have ts t.material ≡ true
item_had ts k t less is =
    subst (λ (x : Term). terms_have ts x.material ≡ true) (sym is) (item_at ts k t less)
