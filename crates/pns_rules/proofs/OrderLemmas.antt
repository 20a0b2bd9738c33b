-- The order of structures by their traces.
use Rattle.std.proofs.Common.{◌≡◌, ℕ, ◌<◌, ◌≤◌, Bool, true, false, ◌&&◌, List, [], ◌∷◌, refl, sym}
use Rattle.std.proofs.Common.{ap, ap₂, ◌∙◌, subst, inl, inr, ◌⊎◌, arith, Option, Some, None}
use Rattle.std.proofs.Common.{bytes_eq}
use Rattle.std.specs.Cmp.Lexicographic.{bytes_decides}
use Rattle.std.proofs.lemmas.Bool.{cases_Bool, cases_lt, cases_eq, cases_order, both_ways}
use Rattle.number_sets.specs.Sets.{listed, mask_of}
use Rattle.pns_rules.specs.Shape.{Shape, IsProper}
use Rattle.pns_rules.specs.Structure.{makers, IsStructure}
use Rattle.pns_rules.specs.Trace.{Pair, next_material, Continues, IsTrace, IsLess, IsBefore}
use Rattle.pns_rules.specs.Trace.{IsWalk}
use Rattle.pns_rules.specs.Trace.{HasMakers}
use Rattle.pns_rules.proofs.TraceLemmas.{a_trace, a_trace_at, one_trace, left, traces_tell}
use Rattle.number_sets.proofs.Cited.{listed-less, listed-same_mask}

-- ---- strict and transitive

less_strict : (t : List Pair) → IsLess t t → ⊥
less_strict [] h = h
less_strict (p ∷ ps) h = elim h.1 [ inl lt ↦ omega (arith, lt) | inr k ↦ less_strict ps k.1 ]

less_trans : (a b c : List Pair) → IsLess a b → IsLess b c → IsLess a c
less_trans [] b c h k = absurd h
less_trans (p ∷ ps) [] c h k = absurd h
less_trans (p ∷ ps) (q ∷ qs) [] h k = absurd k
less_trans (p ∷ ps) (q ∷ qs) (r ∷ rs) h k =
    (h.0 ∙ k.0, at (λ a b. less_trans ps qs rs a b) h.1 k.1)
  where
    at : (IsLess ps qs → IsLess qs rs → IsLess ps rs)
        → ((mask_of p.chosen < mask_of q.chosen) ⊎ ((p.chosen ≡ q.chosen) × IsLess ps qs))
        → ((mask_of q.chosen < mask_of r.chosen) ⊎ ((q.chosen ≡ r.chosen) × IsLess qs rs))
        → ((mask_of p.chosen < mask_of r.chosen) ⊎ ((p.chosen ≡ r.chosen) × IsLess ps rs))
    at ih (inl a) (inl b) = inl (omega (arith, a, b))
    at ih (inl a) (inr b) = inl (subst (λ xs. mask_of p.chosen < mask_of xs) b.0 a)
    at ih (inr a) (inl b) = inl (subst (λ xs. mask_of xs < mask_of r.chosen) (sym a.0) b)
    at ih (inr a) (inr b) = inr (a.0 ∙ b.0, ih a.1 b.1)

pub before_strict : (g : Shape) (s : ℕ → Bool) → IsBefore g s s → ⊥
before_strict g s h =
    let same = one_trace g s [] h.trace_of_t h.trace_of_s h.of_t h.of_s in
    less_strict h.trace_of_s (subst (λ t. IsLess h.trace_of_s t) same h.less)

pub before_trans : (g : Shape) (s t v : ℕ → Bool) → IsBefore g s t → IsBefore g t v
    → IsBefore g s v
before_trans g s t v h k =
    let same = one_trace g t [] k.trace_of_s h.trace_of_t k.of_s h.of_t in
    record {
      trace_of_s = h.trace_of_s;
      trace_of_t = k.trace_of_t;
      of_s = h.of_s;
      of_t = k.of_t;
      less =
          less_trans h.trace_of_s h.trace_of_t k.trace_of_t h.less
          (subst (λ a. IsLess a k.trace_of_t) same k.less);
    }

-- two sets with the same units are equal
pub same_set : (s t : ℕ → Bool) → ((u : ℕ) → s u ≡ t u) → s ≡ t
same_set s t same = λ i. λ u. same u i

pub before_apart : (g : Shape) (s t : ℕ → Bool) → ((u : ℕ) → s u ≡ t u) → IsBefore g s t → ⊥
before_apart g s t same h = before_strict g t (subst (λ k. IsBefore g k t) (same_set s t same) h)

pub before_not_after : (g : Shape) (s t : ℕ → Bool) → IsBefore g s t → IsBefore g t s → ⊥
before_not_after g s t h k = before_strict g s (before_trans g s t s h k)

-- ---- traces that begin alike

back : List Pair → List Pair → List Pair
back [] t = t
back (p ∷ ps) t = back ps (p ∷ t)

from_back : (g : Shape) (s : ℕ → Bool) (ps t : List Pair) → IsWalk g ps → HasMakers g s ps
    → Continues g s ps t → IsTrace g s (back ps t)
unfolding back
from_back g s [] t w m h = h
from_back g s (p ∷ ps) t w m h = from_back g s ps (p ∷ t) w.1 m.1 (w.0, m.0, h)

less_back : (ps t t' : List Pair) → IsLess t t' → IsLess (back ps t) (back ps t')
unfolding back
less_back [] t t' h = h
less_back (p ∷ ps) t t' h = less_back ps (p ∷ t) (p ∷ t') (refl, inr (refl, h))

-- two sets whose traces begin alike, and which at the next material differ at u and not above u
pub before_at : (g : Shape) (s t : ℕ → Bool) (ps : List Pair) (x u : ℕ) → IsWalk g ps
    → HasMakers g s ps → HasMakers g t ps → next_material g ps ≡ Some x → u < g.units
    → g.makes u x ≡ true → s u ≡ false → t u ≡ true
    → ((v : ℕ) → u < v → v < g.units → g.makes v x ≡ true → s v ≡ t v) → IsBefore g s t
before_at g s t ps x u w ms mt e lt mk a b same =
    let p : Pair = record { material = x; chosen = listed g.units (makers g s x) } in
    let q : Pair = record { material = x; chosen = listed g.units (makers g t x) } in
    let rest_s = a_trace_at g s (left g s (p ∷ ps)) (p ∷ ps) (omega arith) in
    let rest_t = a_trace_at g t (left g t (q ∷ ps)) (q ∷ ps) (omega arith) in
    record {
      trace_of_s = back ps (p ∷ rest_s.0);
      trace_of_t = back ps (q ∷ rest_t.0);
      of_s = from_back g s ps (p ∷ rest_s.0) w ms (e, refl, rest_s.1);
      of_t = from_back g t ps (q ∷ rest_t.0) w mt (e, refl, rest_t.1);
      less = less_back ps (p ∷ rest_s.0) (q ∷ rest_t.0) (
        refl,
        inl (listed-less g.units (makers g s x) (makers g t x) u record {
          within = lt;
          lacks = ap (λ c. c && g.makes u x) a;
          holds = ap₂ (λ c d. c && d) b mk;
          above = above;
        }),
      );
    }
  where
    above_at : (v : ℕ) (m : Bool) → g.makes v x ≡ m → (g.makes v x ≡ true → s v ≡ t v)
        → (s v && m) ≡ (t v && m)
    above_at v true q h = ap (λ c. c && true) (h q)
    above_at v false q h = none (s v) (t v)
      where
        none : (c d : Bool) → (c && false) ≡ (d && false)
        none true true = refl
        none true false = refl
        none false true = refl
        none false false = refl

    above : (v : ℕ) → u < v → v < g.units → (s v && g.makes v x) ≡ (t v && g.makes v x)
    above v h k = above_at v (g.makes v x) refl (same v h k)

-- ---- of two sets one is before the other, or neither

less_or_not : (t t' : List Pair) → IsLess t t' ⊎ (IsLess t t' → ⊥)
less_or_not [] t' = inr (λ h. h)
less_or_not (p ∷ ps) [] = inr (λ h. h)
less_or_not (p ∷ ps) (q ∷ qs) =
    at (cases_eq p.material q.material) (cases_lt (mask_of p.chosen) (mask_of q.chosen))
    (cases_Bool (bytes_eq p.chosen q.chosen)) (less_or_not ps qs)
  where
    at : (p.material ≡ q.material) ⊎ (p.material ≡ q.material → ⊥)
        → (mask_of p.chosen < mask_of q.chosen) ⊎ (mask_of q.chosen ≤ mask_of p.chosen)
        → (bytes_eq p.chosen q.chosen ≡ true) ⊎ (bytes_eq p.chosen q.chosen ≡ false)
        → IsLess ps qs
        ⊎ (IsLess ps qs → ⊥) → IsLess (p ∷ ps) (q ∷ qs) ⊎ (IsLess (p ∷ ps) (q ∷ qs) → ⊥)
    at (inr ne) m b r = inr (λ h. ne h.0)
    at (inl e) (inl lt) b r = inl (e, inl lt)
    at (inl e) (inr le) (inl same) (inl r) =
        inl (e, inr ((bytes_decides p.chosen q.chosen).0 same, r))
    at (inl e) (inr le) (inl same) (inr r) =
        inr (λ h. elim h.1 [ inl lt ↦ omega (arith, lt, le) | inr k ↦ r k.1 ])
    at (inl e) (inr le) (inr apart) r =
        inr (λ h. elim h.1 [
          | inl lt ↦ omega (arith, lt, le)
          | inr k
              ↦ both_ways (bytes_eq p.chosen q.chosen) apart
              ((bytes_decides p.chosen q.chosen).1 k.0)
        ])

pub before_or_not : (g : Shape) (s t : ℕ → Bool) → IsBefore g s t ⊎ (IsBefore g s t → ⊥)
before_or_not g s t = at (less_or_not (a_trace g s).0 (a_trace g t).0)
  where
    at : IsLess (a_trace g s).0 (a_trace g t).0 ⊎ (IsLess (a_trace g s).0 (a_trace g t).0 → ⊥)
        → IsBefore g s t ⊎ (IsBefore g s t → ⊥)
    at (inl h) =
        inl (record {
          trace_of_s = (a_trace g s).0;
          trace_of_t = (a_trace g t).0;
          of_s =
              (a_trace g s).1;
          of_t = (a_trace g t).1;
          less = h;
        })
    at (inr n) = inr (λ b. n (
        let es = one_trace g s [] b.trace_of_s (a_trace g s).0 b.of_s (a_trace g s).1 in
        let et = one_trace g t [] b.trace_of_t (a_trace g t).0 b.of_t (a_trace g t).1 in
        subst (λ x. IsLess x (a_trace g t).0) es (subst (λ x. IsLess b.trace_of_s x) et b.less)))

none_some : (o : Option ℕ) (x : ℕ) → o ≡ None → o ≡ Some x → ⊥
none_some o x h k = cc

pair_of : ℕ → List ℕ → Pair
pair_of m ch = record { material = m; chosen = ch }

tri_at : (p q : Pair) (ps qs : List Pair) → p.material ≡ q.material
    → (mask_of p.chosen ≡ mask_of q.chosen → p.chosen ≡ q.chosen)
    → (p.chosen ≡ q.chosen → (ps ≡ qs) ⊎ (IsLess ps qs ⊎ IsLess qs ps))
    → (mask_of p.chosen ≡ mask_of q.chosen)
    ⊎ ((mask_of p.chosen < mask_of q.chosen) ⊎ (mask_of q.chosen < mask_of p.chosen))
    → (p ∷ ps ≡ q ∷ qs) ⊎ (IsLess (p ∷ ps) (q ∷ qs) ⊎ IsLess (q ∷ qs) (p ∷ ps))
unfolding pair_of
tri_at p q ps qs m eq rest (inr (inl lt)) = inr (inl (m, inl lt))
tri_at p q ps qs m eq rest (inr (inr gt)) = inr (inr (sym m, inl gt))
tri_at p q ps qs m eq rest (inl e) = by (rest (eq e))
  where
    by : (ps ≡ qs) ⊎ (IsLess ps qs ⊎ IsLess qs ps) → (p ∷ ps ≡ q ∷ qs)
        ⊎ (IsLess (p ∷ ps) (q ∷ qs) ⊎ IsLess (q ∷ qs) (p ∷ ps))
    by (inl same) =
        inl (ap₂ (λ (r : Pair) (rs : List Pair). r ∷ rs)
        (ap₂ (λ (a : ℕ) (b : List ℕ). pair_of a b) m (eq e)) same)
    by (inr (inl lt)) = inr (inl (m, inr (eq e, lt)))
    by (inr (inr gt)) = inr (inr (sym m, inr (sym (eq e), gt)))

tri : (g : Shape) (s s' : ℕ → Bool) (done t t' : List Pair) → Continues g s done t
    → Continues g s' done t' → (t ≡ t') ⊎ (IsLess t t' ⊎ IsLess t' t)
unfolding pair_of
tri g s s' done [] [] h k = inl refl
tri g s s' done [] (q ∷ qs) h k = absurd (none_some (next_material g done) q.material h k.0)
tri g s s' done (p ∷ ps) [] h k = absurd (none_some (next_material g done) p.material k h.0)
tri g s s' done (p ∷ ps) (q ∷ qs) h k =
    let m : p.material ≡ q.material = cc (h.0, k.0) in
    let sq : q.chosen ≡ listed g.units (makers g s' p.material) =
    k.1 ∙ ap (λ x. listed g.units (makers g s' x)) (sym m) in
    tri_at p q ps qs m
    (λ e. h.1
    ∙ (listed-same_mask g.units (makers g s p.material) (makers g s' p.material)
    (sym (ap mask_of h.1) ∙ (e ∙ ap mask_of sq)) ∙ sym sq))
    (λ e.
    let pair : p ≡ q = ap₂ (λ (a : ℕ) (b : List ℕ). pair_of a b) m e in
    tri g s s' (p ∷ done) ps qs h.2 (subst (λ r. Continues g s' (r ∷ done) qs) (sym pair) k.2))
    (cases_order (mask_of p.chosen) (mask_of q.chosen))

-- of two structures one is before the other, or they are the same
pub order_is_total : (g : Shape) (s t : ℕ → Bool) → IsProper g → IsStructure g s → IsStructure g t
    → ((u : ℕ) → s u ≡ t u) ⊎ (IsBefore g s t ⊎ IsBefore g t s)
order_is_total g s t proper hs ht =
    at (tri g s t [] (a_trace g s).0 (a_trace g t).0 (a_trace g s).1 (a_trace g t).1)
  where
    at : ((a_trace g s).0 ≡ (a_trace g t).0)
        ⊎ (IsLess (a_trace g s).0 (a_trace g t).0 ⊎ IsLess (a_trace g t).0 (a_trace g s).0)
        → ((u : ℕ) → s u ≡ t u) ⊎ (IsBefore g s t ⊎ IsBefore g t s)
    at (inl e) =
        inl (traces_tell g s t (a_trace g s).0 proper hs ht (a_trace g s).1
        (subst (λ x. IsTrace g t x) (sym e) (a_trace g t).1))
    at (inr (inl lt)) =
        inr (inl
        (record {
          trace_of_s = (a_trace g s).0;
          trace_of_t = (a_trace g t).0;
          of_s =
              (a_trace g s).1;
          of_t = (a_trace g t).1;
          less = lt;
        }))
    at (inr (inr gt)) =
        inr (inr
        (record {
          trace_of_s = (a_trace g t).0;
          trace_of_t = (a_trace g s).0;
          of_s =
              (a_trace g t).1;
          of_t = (a_trace g s).1;
          less = gt;
        }))
