-- The laws of traces.
use Rattle.std.proofs.Common.{◌≡◌, ℕ, zero, suc, ◌<◌, ◌≤◌, ◌==◌, nat_lt, Bool, true, false, not}
use Rattle.std.proofs.Common.{cond, ◌&&◌, ◌||◌, List, [], ◌∷◌, length, refl, sym, ap, ap₂, ◌∙◌}
use Rattle.std.proofs.Common.{subst, inl, inr, arith, eq-eqb, eqb-true, lt-ltb, Option, Some, None}
use Rattle.std.proofs.lemmas.Bool.{or_cases, or_left, or_right, and_parts, and_from, both_ways}
use Rattle.std.proofs.lemmas.Bool.{false_from_ne_true, true_from_ne_false, cases_eq, not-true}
use Rattle.number_sets.specs.Sets.{has, listed, IsWithin}
use Rattle.pns_rules.specs.Shape.{Shape, IsProper}
use Rattle.pns_rules.specs.Structure.{is_used, is_needed, makers, IsPath, IsStructure}
use Rattle.pns_rules.specs.Trace.{Pair, is_done, units_of, least_below, or_later, next_material}
use Rattle.pns_rules.specs.Trace.{Continues, IsTrace, onto, HasMakers}
use Rattle.number_sets.proofs.Cited.{has-listed, IsRising-listed, length-less, same_tests}
use Rattle.pns_rules.proofs.StructureLemmas.{is_used-from, raw_unmade}

-- ---- the least number that passes

least_some_at : (n : ℕ) (t : ℕ → Bool) (x : ℕ) (o : Option ℕ) (b : Bool)
    → ((y : ℕ) → o ≡ Some y → (y < n) × (t y ≡ true)) → t n ≡ b
    → or_later o (cond b (Some n) None) ≡ Some x → (x < suc n) × (t x ≡ true)
least_some_at n t x (Some y) b ih h q =
    let k = ih y refl in
    let same : y ≡ x = cc in
    let P : ℕ → Type 0 = λ z. (z < suc n) × (t z ≡ true) in
    subst P same (omega (arith, k.0), k.1)
least_some_at n t x None true ih h q =
    let same : n ≡ x = cc in
    let P : ℕ → Type 0 = λ z. (z < suc n) × (t z ≡ true) in
    subst P same (omega arith, h)
least_some_at n t x None false ih h q = cc

pub least_some : (n : ℕ) (t : ℕ → Bool) (x : ℕ) → least_below n t ≡ Some x → (x < n) × (t x ≡ true)
least_some zero t x q = cc
least_some (suc n) t x q =
    least_some_at n t x (least_below n t) (t n) (λ y e. least_some n t y e) refl q

least_none_at : (n : ℕ) (t : ℕ → Bool) (u : ℕ) (o : Option ℕ) (b : Bool)
    → (o ≡ None → u < n → t u ≡ false) → t n ≡ b → or_later o (cond b (Some n) None) ≡ None
    → u < suc n → t u ≡ false
least_none_at n t u (Some y) b ih h q lt = cc
least_none_at n t u None true ih h q lt = cc
least_none_at n t u None false ih h q lt =
    elim (cases_eq u n) [
      | inl e ↦ subst (λ v. t v ≡ false) (sym e) h
      | inr d
          ↦ ih refl (omega arith)
    ]

pub least_none : (n : ℕ) (t : ℕ → Bool) → least_below n t ≡ None → (u : ℕ) → u < n → t u ≡ false
least_none zero t q u lt = absurd (omega arith)
least_none (suc n) t q u lt =
    least_none_at n t u (least_below n t) (t n) (λ e k. least_none n t e u k) refl q lt

-- ---- a trace is there, and is the only one

module _ (g : Shape) (s : ℕ → Bool) where
  is_open : List Pair → ℕ → Bool
  is_open done x = not (is_done done x)

  -- how many materials are in no pair
  pub left : List Pair → ℕ
  left done = length (listed g.materials (λ x. not (is_done done x)))

  pair_at : ℕ → Pair
  pair_at x = record { material = x; chosen = listed g.units (makers g s x) }

  pub left_less : (x : ℕ) (ch : List ℕ) (done : List Pair) → x < g.materials
      → is_done done x ≡ false → left (record { material = x; chosen = ch } ∷ done) < left done
  unfolding left
  left_less x ch done lt e =
      length-less (listed g.materials (λ y. not ((x == y) || is_done done y)))
      (listed g.materials (λ y. not (is_done done y))) x
      (IsRising-listed g.materials (λ y. not ((x == y) || is_done done y)))
      (IsRising-listed g.materials (λ y. not (is_done done y)))
      (λ u h. has-listed g.materials (λ y. not (is_done done y)) u
      ∙ fewer u (nat_lt u g.materials) (x == u) (is_done done u)
      (sym (has-listed g.materials (λ y. not ((x == y) || is_done done y)) u) ∙ h))
      (has-listed g.materials (λ y. not (is_done done y)) x
      ∙ and_from (nat_lt x g.materials) (not (is_done done x)) (lt-ltb x g.materials lt)
      (ap not e))
      (has-listed g.materials (λ y. not ((x == y) || is_done done y)) x
      ∙ gone (nat_lt x g.materials) (x == x) (is_done done x) (eq-eqb x x refl))
    where
      fewer : (u : ℕ) (a b c : Bool) → (a && not (b || c)) ≡ true → (a && not c) ≡ true
      fewer u true false c h = h
      fewer u true true c h = cc
      fewer u false b c h = cc

      gone : (a b c : Bool) → b ≡ true → (a && not (b || c)) ≡ false
      gone true true c h = refl
      gone false true c h = refl
      gone a false c h = cc

  pub next_at : (done : List Pair) (x : ℕ) → next_material g done ≡ Some x → (x < g.materials)
      × (is_done done x ≡ false)
  next_at done x e =
      let k =
      least_some g.materials (λ y. is_needed g (units_of done) y && not (is_done done y)) x e in (
        k.0,
        not-true (is_done done x)
            (and_parts (is_needed g (units_of done) x) (not (is_done done x)) k.1).1,
      )

  pub a_trace_at : (k : ℕ) (done : List Pair) → left done ≤ k → (t : List Pair)
      × Continues g s done t
  a_trace_at k done h = by_next k done h (next_material g done) refl
    where
      by_next : (k : ℕ) (done : List Pair) → left done ≤ k → (o : Option ℕ)
          → next_material g done ≡ o → (t : List Pair) × Continues g s done t
      by_next k done h None e = ([], e)
      by_next zero done h (Some x) e =
          let n = next_at done x e in
          let less = left_less x (listed g.units (makers g s x)) done n.0 n.1 in
          absurd (omega arith)
      by_next (suc k) done h (Some x) e =
          let n = next_at done x e in
          let p : Pair = record { material = x; chosen = listed g.units (makers g s x) } in
          let less : left (record { material = x; chosen = listed g.units (makers g s x) } ∷ done)
          < left done = left_less x (listed g.units (makers g s x)) done n.0 n.1 in
          let rest = by_next k (p ∷ done) (omega arith) (next_material g (p ∷ done)) refl in
          (p ∷ rest.0, (e, refl, rest.1))

pub a_trace : (g : Shape) (s : ℕ → Bool) → (t : List Pair) × IsTrace g s t
a_trace g s = a_trace_at g s (left g s []) [] (omega arith)

pub one_trace : (g : Shape) (s : ℕ → Bool) (done t t' : List Pair) → Continues g s done t
    → Continues g s done t' → t ≡ t'
one_trace g s done [] [] h k = refl
one_trace g s done [] (q ∷ qs) h k = cc (h, k.0)
one_trace g s done (p ∷ ps) [] h k = cc (h.0, k)
one_trace g s done (p ∷ ps) (q ∷ qs) h k =
    let material : p.material ≡ q.material = cc (h.0, k.0) in
    let chosen : p.chosen ≡ q.chosen =
    h.1 ∙ (ap (λ x. listed g.units (makers g s x)) material ∙ sym k.1) in
    let pair : p ≡ q = ap₂ (λ (m : ℕ) (ch : List ℕ). same_pair m ch) material chosen in
    ap₂ (λ (r : Pair) (rs : List Pair). r ∷ rs) pair
    (one_trace g s (p ∷ done) ps qs h.2 (subst (λ r. Continues g s (r ∷ done) qs) (sym pair) k.2))
  where
    same_pair : ℕ → List ℕ → Pair
    same_pair m ch = record { material = m; chosen = ch }

-- ---- a structure is the units of its trace

at_end : (g : Shape) (s : ℕ → Bool) (done t : List Pair) → Continues g s done t
    → next_material g (onto t done) ≡ None
at_end g s done [] h = h
at_end g s done (p ∷ ps) h = at_end g s (p ∷ done) ps h.2

keeps_makers : (g : Shape) (s : ℕ → Bool) (done t : List Pair) → Continues g s done t
    → HasMakers g s done → HasMakers g s (onto t done)
keeps_makers g s done [] h m = m
keeps_makers g s done (p ∷ ps) h m = keeps_makers g s (p ∷ done) ps h.2 (h.1, m)

module _ (g : Shape) (s : ℕ → Bool) where
  has_maker : (x u : ℕ) → has (listed g.units (makers g s x)) u
      ≡ (nat_lt u g.units && (s u && g.makes u x))
  has_maker x u = has-listed g.units (makers g s x) u

  -- the units of the pairs are of the set
  units_within : (ps : List Pair) → HasMakers g s ps → IsWithin (units_of ps) s
  units_within [] m u e = cc
  units_within (p ∷ ps) m u e = elim (or_cases (has p.chosen u) (units_of ps u) e) [
    | inl h
        ↦ (and_parts (s u) (g.makes u p.material)
        (and_parts (nat_lt u g.units) (s u && g.makes u p.material)
        (sym (has_maker p.material u) ∙ (ap (λ xs. has xs u) (sym m.0) ∙ h))).1).0
    | inr r ↦ units_within ps m.1 u r
  ]

  -- a unit of the set that makes a material of a pair is in the pairs
  units_have : (ps : List Pair) → HasMakers g s ps → (u x : ℕ) → u < g.units → s u ≡ true
      → g.makes u x ≡ true → is_done ps x ≡ true → units_of ps u ≡ true
  units_have [] m u x lt su mk d = cc
  units_have (p ∷ ps) m u x lt su mk d = elim (or_cases (p.material == x) (is_done ps x) d) [
    | inl e ↦
        let same : p.material ≡ x = eqb-true p.material x e in
        or_left (has p.chosen u) (units_of ps u)
        (ap (λ xs. has xs u) m.0
        ∙ (has_maker p.material u
        ∙ and_from (nat_lt u g.units) (s u && g.makes u p.material) (lt-ltb u g.units lt)
        (and_from (s u) (g.makes u p.material) su
        (subst (λ y. g.makes u y ≡ true) (sym same) mk))))
    | inr r ↦ or_right (has p.chosen u) (units_of ps u) (units_have ps m.1 u x lt su mk r)
  ]

  module _ (proper : IsProper g) (hs : IsStructure g s) (ps : List Pair) (m : HasMakers g s ps)
      (end : next_material g ps ≡ None) where
    all_done : (x : ℕ) → x < g.materials → is_needed g (units_of ps) x ≡ true → is_done ps x ≡ true
    all_done x lt n = true_from_ne_false (is_done ps x) (λ d.
        both_ways (is_needed g (units_of ps) x && not (is_done ps x))
        (least_none g.materials (λ y. is_needed g (units_of ps) y && not (is_done ps y)) end x lt)
        (and_from (is_needed g (units_of ps) x) (not (is_done ps x)) n (ap not d)))

    made_not_raw : (u x : ℕ) → s u ≡ true → g.makes u x ≡ true → g.raw x ≡ false
    made_not_raw u x e mk = false_from_ne_true (g.raw x) (raw_unmade g s hs u x e mk)

    on_path : (u : ℕ) (path : List ℕ) → IsPath g s u path → units_of ps u ≡ true
    on_path u [] p = absurd p
    on_path u (x ∷ []) p =
        units_have ps m u x (hs.s3 u p.0) p.0 p.1
        (all_done x (proper.product_known x p.2)
        (or_left (g.product x) (not (g.raw x) && is_used g (units_of ps) x) p.2))
    on_path u (x ∷ v ∷ rest) p =
        let later = on_path v rest p.3 in
        let used =
        is_used-from g (units_of ps) v x (hs.s3 v (units_within ps m v later)) later p.2 in
        units_have ps m u x (hs.s3 u p.0) p.0 p.1
        (all_done x (proper.output_known u x p.1)
        (or_right (g.product x) (not (g.raw x) && is_used g (units_of ps) x)
        (and_from (not (g.raw x)) (is_used g (units_of ps) x) (ap not (made_not_raw u x p.0 p.1))
        used)))

    pub is_units : (u : ℕ) → s u ≡ units_of ps u
    is_units u =
        same_tests (s u) (units_of ps u) (λ e. let h = hs.s4 u e in on_path u h.path h.leads)
        (units_within ps m u)

-- a structure is the units of its trace
pub units_of_trace : (g : Shape) (s : ℕ → Bool) (t : List Pair) → IsProper g → IsStructure g s
    → IsTrace g s t → (u : ℕ) → s u ≡ units_of (onto t []) u
units_of_trace g s t proper hs h u =
    is_units g s proper hs (onto t []) (keeps_makers g s [] t h tt) (at_end g s [] t h) u

pub traces_tell : (g : Shape) (s s' : ℕ → Bool) (t : List Pair) → IsProper g → IsStructure g s
    → IsStructure g s' → IsTrace g s t → IsTrace g s' t → (u : ℕ) → s u ≡ s' u
traces_tell g s s' t proper hs hs' a b u =
    units_of_trace g s t proper hs a u ∙ sym (units_of_trace g s' t proper hs' b u)
