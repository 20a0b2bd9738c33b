-- Rates written at their materials.
use Rattle.std.proofs.Common.{◌≡◌, ◌≢◌, ℕ, zero, suc, ◌+◌, ◌<◌, ◌≤◌, ◌==◌, ◌⊎◌, inl, inr, Bool}
use Rattle.std.proofs.Common.{true, false, ◌||◌, cond, List, [], ◌∷◌, length, drop, get_or, set}
use Rattle.std.proofs.Common.{refl, sym, ap, ◌∙◌, subst, arith, pos, ℤ, neg_ℤ, ◌-ℤ◌}
use Rattle.std.specs.Prelude.{int_lt}
use Rattle.std.proofs.lemmas.Int.{ints}
use Rattle.std.proofs.lemmas.List.{drop_more, get_or-set_same, get_or-set_other, length-set}
use Rattle.std.proofs.lemmas.Bool.{eq-eqb, ne_eqb, eqb-true}
use Rattle.pgraph.specs.number_sets.Sets.{has}
use Rattle.pgraph.specs.problem_rules.Each.{Each}
use Rattle.pgraph.specs.problem_rules.Problem.{Problem, Material, material_at, no_material}
use Rattle.pgraph.specs.problem_rules.Problem.{OperatingUnit}
use Rattle.pgraph.specs.problem_rules.Problem.{Term, terms_have, rate_in, rate_of, unit_at, no_unit}
use Rattle.pgraph.specs.problem_rules.Validity.{repeats_material}
use Rattle.pgraph.specs.problem_rules.WellFormed.{IsWellFormedSide, IsWellFormedTerm}
use Rattle.pgraph.specs.problem_rules.WellFormed.{IsWellFormedUnit}
use Rattle.pgraph.specs.problem_rules.WellFormed.{IsInRange}
use Rattle.pgraph.proofs.problem_rules.Cited.{Each-at, known_material, sides_apart}
use Rattle.pgraph.proofs.flow_rules.Cited.{no_rate_in}
use Rattle.flow_program.specs.Rates.{AreRates}

-- the default beyond the list does not matter within it
pub get_or-any : {X : Type 0} (xs : List X) (k : ℕ) (a b : X) → k < length xs
    → get_or xs k a ≡ get_or xs k b
get_or-any [] k a b l = absurd (omega arith)
get_or-any (x ∷ xs) zero a b l = refl
get_or-any (x ∷ xs) (suc k) a b l = get_or-any xs k a b (omega arith)

either : (a b : Bool) → (a || b) ≡ false → (a ≡ false) × (b ≡ false)
either true b e = cc
either false b e = (refl, e)

abbrev no_term : Term
no_term = record { material = 0; rate = pos 0 }

-- a term of a side without doubles is in it, and its rate is that of its material
found : (ts : List Term) (k : ℕ) (t : Term) → repeats_material ts ≡ false → k < length ts
    → t ≡ get_or ts k t → (terms_have ts t.material ≡ true) × (rate_in ts t.material ≡ t.rate)
found [] k t once l e = absurd (omega arith)
found (s ∷ ts) zero t once l e =
    let same : (s.material == t.material) ≡ true =
    eq-eqb s.material t.material (ap (λ (x : Term). x.material) (sym e)) in
    (rw same refl, rw (rate_in, same) (ap (λ (x : Term). x.rate) (sym e)))
found (s ∷ ts) (suc k) t once l e =
    let parts = either (terms_have ts s.material) (repeats_material ts) once in
    let later = found ts k t parts.1 (omega arith) e in
    at (s.material == t.material) refl parts.0 later
  where
    at : (b : Bool) → (s.material == t.material) ≡ b → terms_have ts s.material ≡ false
        → (terms_have ts t.material ≡ true) × (rate_in ts t.material ≡ t.rate)
        → (terms_have (s ∷ ts) t.material ≡ true) × (rate_in (s ∷ ts) t.material ≡ t.rate)
    at true f none later = let m : s.material ≡ t.material =
        eqb-true s.material t.material f in
        absurd (clash (subst (λ x. terms_have ts x ≡ false) m none) later.0)
      where
        clash : terms_have ts t.material ≡ false → terms_have ts t.material ≡ true → ⊥
        clash a b = cc
    at false f none later = (rw f later.0, rw (rate_in, f) later.1)

abbrev pub signed : Bool → ℤ → ℤ
signed used r = cond used (neg_ℤ r) r

-- the rates of the first k terms are written; `old` are the numbers before
pub record IsWritten (terms : List Term) (used : Bool) (old now : List ℤ) (k : ℕ) : Type 0 where
  pub size : length now ≡ 256
  pub written : (x : ℕ) → terms_have (drop k terms) x ≡ false
      → get_or now x (pos 0) ≡ cond (terms_have terms x) (signed used (rate_in terms x))
      (get_or old x (pos 0))

pub none_written : (terms : List Term) (used : Bool) (old : List ℤ) → length old ≡ 256
    → IsWritten terms used old old 0
none_written terms used old h =
    record {
      size = h;
      written = λ x none. let none' : terms_have terms x ≡ false =
          none in rw none' refl;
    }

module _ (terms : List Term) (used : Bool) (old now : List ℤ) (k materials : ℕ) (t : Term)
    (few : materials ≤ 256) (formed : IsWellFormedSide materials terms) (l : k < length terms)
    (e : t ≡ get_or terms k t) where
  pub term_known : t.material < 256
  term_known = let known = formed_at in let less = known.known in omega arith
    where
      formed_at : IsWellFormedTerm materials t
      formed_at =
          subst (IsWellFormedTerm materials) (sym e)
          (Each-at (IsWellFormedTerm materials) terms k t l formed.terms_formed)

  pub term_in_range : IsInRange t.rate
  term_in_range =
      (subst (IsWellFormedTerm materials) (sym e)
      (Each-at (IsWellFormedTerm materials) terms k t l formed.terms_formed)).in_range

  pub write_one : (rate : ℤ) → rate ≡ signed used t.rate → IsWritten terms used old now k
      → IsWritten terms used old (set now t.material rate) (k + 1)
  write_one rate r so_far = record {
    size = length-set now t.material rate ∙ so_far.size;
    written = λ x none. at x none (t.material == x) refl;
  }
    where
      ahead : drop k terms ≡ t ∷ drop (k + 1) terms
      ahead = drop_more terms k t l ∙ ap (λ s. s ∷ drop (k + 1) terms) (sym e)

      at : (x : ℕ) → terms_have (drop (k + 1) terms) x ≡ false → (b : Bool) → (t.material == x) ≡ b
          → get_or (set now t.material rate) x (pos 0)
          ≡ cond (terms_have terms x) (signed used (rate_in terms x)) (get_or old x (pos 0))
      at x none true f =
          let same : t.material ≡ x = eqb-true t.material x f in
          let here = found terms k t formed.once l e in
          let within : t.material < length now = let size = so_far.size in let less =
          term_known in omega arith in
          subst
          (λ w. get_or (set now t.material rate) w (pos 0)
          ≡ cond (terms_have terms w) (signed used (rate_in terms w)) (get_or old w (pos 0)))
          same
          (rw get_or-set_same (rw (here.0, here.1) r))
      at x none false f =
          let other : x ≢ t.material = λ g. absurd (clash f (eq-eqb t.material x (sym g))) in
          rw get_or-set_other (so_far.written x (rw ahead (rw (f, none) refl)))
        where
          clash : (t.material == x) ≡ false → (t.material == x) ≡ true → ⊥
          clash a b = cc

-- ---- the rates of a unit
pub rate_in_range : (n : ℕ) (ts : List Term) (x : ℕ) → Each (IsWellFormedTerm n) ts
    → IsInRange (rate_in ts x)
rate_in_range n [] x h = omega arith
rate_in_range n (t ∷ ts) x h = at (t.material == x) h.0.in_range (rate_in_range n ts x h.1)
  where
    at : (b : Bool) → IsInRange t.rate → IsInRange (rate_in ts x)
        → IsInRange (elim b [ true ↦ t.rate | false ↦ rate_in ts x ])
    at true p q = p
    at false p q = q

positive_not_zero : (z : ℤ) → int_lt (pos 0) z ≡ true → z ≡ pos 0 → ⊥
positive_not_zero z h e = let f : int_lt (pos 0) (pos 0) ≡ true =
    subst (λ w. int_lt (pos 0) w ≡ true) e h in cc

rate_not_zero : (n : ℕ) (ts : List Term) (x : ℕ) → Each (IsWellFormedTerm n) ts
    → terms_have ts x ≡ true → rate_in ts x ≡ pos 0 → ⊥
rate_not_zero n [] x h k = cc
rate_not_zero n (t ∷ ts) x h k = at (t.material == x) k (λ k e. rate_not_zero n ts x h.1 k e)
  where
    at : (b : Bool) → (b || terms_have ts x) ≡ true
        → (terms_have ts x ≡ true → rate_in ts x ≡ pos 0 → ⊥)
        → (elim b [ true ↦ t.rate | false ↦ rate_in ts x ]) ≡ pos 0 → ⊥
    at true k rest e = positive_not_zero t.rate h.0.positive e
    at false k rest e = rest k e

sub_zero : (a b : ℤ) → b ≡ pos 0 → a ≡ a -ℤ b
sub_zero a b e = rw e (omega (arith, ints))

zero_sub : (a b : ℤ) → a ≡ pos 0 → neg_ℤ b ≡ a -ℤ b
zero_sub a b e = rw e (omega (arith, ints))

pub size_of_rate : (a b : ℤ) → IsInRange a → IsInRange b → (a ≡ pos 0) ⊎ (b ≡ pos 0)
    → IsInRange (a -ℤ b)
size_of_rate a b p q (inl e) = rw e (omega (arith, ints))
size_of_rate a b p q (inr e) = rw e (omega (arith, ints))

zero_sum : (a b : ℤ) → a -ℤ b ≡ pos 0 → a ≡ b
zero_sum a b e = omega (arith, ints)

-- of a unit that is well formed, one of the two rates of a material is 0
module _ (p : Problem) (u : ℕ) (formed : IsWellFormedUnit (length p.materials) (unit_at p u)) where
  pub one_zero : (x : ℕ) (a b : Bool) → terms_have (unit_at p u).outputs x ≡ a
      → terms_have (unit_at p u).inputs x ≡ b → (rate_in (unit_at p u).outputs x ≡ pos 0)
      ⊎ (rate_in (unit_at p u).inputs x ≡ pos 0)
  one_zero x false b e f = inl (no_rate_in (unit_at p u).outputs x e)
  one_zero x true false e f = inr (no_rate_in (unit_at p u).inputs x f)
  one_zero x true true e f =
      absurd (sides_apart (unit_at p u).inputs (unit_at p u).outputs x formed.sides_apart f e)

  neither_true : (a b : Bool) → a ≡ false → b ≡ false → (a || b) ≡ true → ⊥
  neither_true true b e f h = cc
  neither_true false b e f h = cc

  not_zero_at : (x : ℕ) (a b : Bool) → terms_have (unit_at p u).inputs x ≡ a
      → terms_have (unit_at p u).outputs x ≡ b
      → (terms_have (unit_at p u).inputs x || terms_have (unit_at p u).outputs x) ≡ true
      → rate_in (unit_at p u).outputs x ≡ rate_in (unit_at p u).inputs x → ⊥
  not_zero_at x true true e f h q =
      sides_apart (unit_at p u).inputs (unit_at p u).outputs x formed.sides_apart e f
  not_zero_at x true false e f h q =
      rate_not_zero (length p.materials) (unit_at p u).inputs x formed.inputs.terms_formed e
      (sym q ∙ no_rate_in (unit_at p u).outputs x f)
  not_zero_at x false true e f h q =
      rate_not_zero (length p.materials) (unit_at p u).outputs x formed.outputs.terms_formed f
      (q ∙ no_rate_in (unit_at p u).inputs x e)
  not_zero_at x false false e f h q =
      neither_true (terms_have (unit_at p u).inputs x) (terms_have (unit_at p u).outputs x) e f h

  -- the rate of a material is 0 only if it is neither used nor made
  pub rate_there : (x : ℕ)
      → (terms_have (unit_at p u).inputs x || terms_have (unit_at p u).outputs x) ≡ true
      → rate_of p x u ≡ pos 0 → ⊥
  rate_there x h e =
      not_zero_at x (terms_have (unit_at p u).inputs x) (terms_have (unit_at p u).outputs x) refl
      refl h (zero_sum (rate_in (unit_at p u).outputs x) (rate_in (unit_at p u).inputs x) e)

  pub rate_elsewhere : (x : ℕ)
      → (terms_have (unit_at p u).inputs x || terms_have (unit_at p u).outputs x) ≡ false
      → rate_of p x u ≡ pos 0
  rate_elsewhere x h =
      let n = either (terms_have (unit_at p u).inputs x) (terms_have (unit_at p u).outputs x) h in
      rw (no_rate_in (unit_at p u).inputs x n.0, no_rate_in (unit_at p u).outputs x n.1)
      (omega (arith, ints))

  pub are_rates : (materials : List ℕ) (old middle new : List ℤ) → length new ≡ 256
      → ((x : ℕ) → get_or middle x (pos 0)
      ≡ cond (terms_have (unit_at p u).outputs x)
      (signed false (rate_in (unit_at p u).outputs x)) (get_or old x (pos 0)))
      → ((x : ℕ) → get_or new x (pos 0)
      ≡ cond (terms_have (unit_at p u).inputs x) (signed true (rate_in (unit_at p u).inputs x))
      (get_or middle x (pos 0)))
      → ((x : ℕ) → has materials x
      ≡ (terms_have (unit_at p u).inputs x || terms_have (unit_at p u).outputs x))
      → AreRates p u materials new
  are_rates materials old middle new size first second members = record {
    size = size;
    known = λ x h. known_at x (terms_have (unit_at p u).inputs x) refl (sym (members x) ∙ h);
    rate =
        λ x h. rate_at x (terms_have (unit_at p u).inputs x) (terms_have (unit_at p u).outputs x)
        refl refl (sym (members x) ∙ h);
    in_range = λ x. size_of_rate (rate_in (unit_at p u).outputs x) (rate_in (unit_at p u).inputs x)
        (rate_in_range (length p.materials) (unit_at p u).outputs x formed.outputs.terms_formed)
        (rate_in_range (length p.materials) (unit_at p u).inputs x formed.inputs.terms_formed)
        (one_zero x (terms_have (unit_at p u).outputs x) (terms_have (unit_at p u).inputs x) refl
        refl);
    not_zero = λ x h e. rate_there x (sym (members x) ∙ h) e;
    none_else = λ x h. rate_elsewhere x (sym (members x) ∙ h);
  }
    where
      known_at : (x : ℕ) (a : Bool) → terms_have (unit_at p u).inputs x ≡ a
          → (terms_have (unit_at p u).inputs x || terms_have (unit_at p u).outputs x) ≡ true
          → x < length p.materials
      known_at x true e h =
          known_material (length p.materials) (unit_at p u).inputs x formed.inputs.terms_formed e
      known_at x false e h =
          known_material (length p.materials) (unit_at p u).outputs x formed.outputs.terms_formed
          (ap (λ b. b || terms_have (unit_at p u).outputs x) (sym e) ∙ h)

      rate_at : (x : ℕ) (a b : Bool) → terms_have (unit_at p u).inputs x ≡ a
          → terms_have (unit_at p u).outputs x ≡ b
          → (terms_have (unit_at p u).inputs x || terms_have (unit_at p u).outputs x) ≡ true
          → get_or new x (pos 0) ≡ rate_of p x u
      rate_at x true true e f h =
          absurd (sides_apart (unit_at p u).inputs (unit_at p u).outputs x formed.sides_apart e f)
      rate_at x true false e f h = second x
          ∙ rw e
          (zero_sub (rate_in (unit_at p u).outputs x) (rate_in (unit_at p u).inputs x)
          (no_rate_in (unit_at p u).outputs x f))
      rate_at x false true e f h = second x
          ∙ rw e
          (first x
          ∙ rw f
          (sub_zero (rate_in (unit_at p u).outputs x) (rate_in (unit_at p u).inputs x)
          (no_rate_in (unit_at p u).inputs x e)))
      rate_at x false false e f h =
          absurd
          (neither_true (terms_have (unit_at p u).inputs x) (terms_have (unit_at p u).outputs x) e f
          h)

-- the unit that was read
pub unit_read : (p : Problem) (us : List OperatingUnit) (u : ℕ) (x : OperatingUnit) → us ≡ p.units
    → u < length p.units → x ≡ get_or us u x → x ≡ unit_at p u
unit_read p us u x e l h = h ∙ ap (λ (vs : List OperatingUnit). get_or vs u x) e
    ∙ get_or-any p.units u x no_unit l

-- ---- one rate, looked up
module _ (ts : List Term) (k j : ℕ) (t : Term) (l : k < length ts) (e : t ≡ get_or ts k t)
    (so_far : rate_in (drop k ts) j ≡ rate_in ts j) where
  term_ahead : drop k ts ≡ t ∷ drop (k + 1) ts
  term_ahead = drop_more ts k t l ∙ ap (λ (s : Term). s ∷ drop (k + 1) ts) (sym e)

  pub rate_found : t.material ≡ j → t.rate ≡ rate_in ts j
  rate_found same = here ∙ ap (λ (xs : List Term). rate_in xs j) (sym term_ahead) ∙ so_far
    where
      here : t.rate ≡ rate_in (t ∷ drop (k + 1) ts) j
      here = rw (rate_in, eq-eqb t.material j same) refl

  pub rate_skipped : (t.material ≡ j → ⊥) → rate_in (drop (k + 1) ts) j ≡ rate_in ts j
  rate_skipped other = here ∙ ap (λ (xs : List Term). rate_in xs j) (sym term_ahead) ∙ so_far
    where
      here : rate_in (drop (k + 1) ts) j ≡ rate_in (t ∷ drop (k + 1) ts) j
      here = rw (rate_in, ne_eqb t.material j other) refl

-- the material that was read
pub material_read : (p : Problem) (ms : List Material) (j : ℕ) (x : Material) → ms ≡ p.materials
    → j < length p.materials → x ≡ get_or ms j x → x ≡ material_at p j
material_read p ms j x e l h = h ∙ ap (λ (ys : List Material). get_or ys j x) e
    ∙ get_or-any p.materials j x no_material l
