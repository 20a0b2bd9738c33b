-- Of the units that a way to branch decides, an option has those that are taken in and none that is
-- left out. So the families of the children split the family of a node.
use Rattle.std.proofs.Common.{◌≡◌, ℕ, ◌<◌, Bool, true, false, not, ◌&&◌, ◌||◌, ◌==◌, List, [], ◌∷◌}
use Rattle.std.proofs.Common.{refl, sym, subst, inl, inr, arith, eq-eqb}
use Rattle.std.proofs.lemmas.Bool.{or_left, or_right, or_cases, and_from, and_parts, both_ways}
use Rattle.std.proofs.lemmas.Bool.{not-true, eqb-true, cases_Bool}
use Rattle.tree_rules.specs.number_sets.Sets.{has, mask_of, Avoids, IsRising}
use Rattle.tree_rules.specs.number_sets.Options.{IsIn, IsAscending, IsBelowEach}
use Rattle.tree_rules.proofs.number_sets.Cited.{same_sets, same_tests}
use Rattle.tree_rules.specs.pns_rules.Shape.{Shape, IsProper}
use Rattle.tree_rules.specs.pns_rules.Structure.{InFamily}
use Rattle.tree_rules.specs.pns_rules.Nodes.{Node, is_free}
use Rattle.tree_rules.proofs.pns_rules.Cited.{children_cover, options_all, options_ascend}
use Rattle.tree_rules.specs.Ways.{Way, at_material, either, MayBranch, decides, options_at}
use Rattle.tree_rules.specs.Ways.{child_at, children_at}

pub record IsChoice (g : Shape) (n : Node) (w : Way) (t : List ℕ) : Type 0 where
  pub rising : IsRising t
  pub has_base : (v : ℕ) → n.inside v ≡ true → decides g w v ≡ true → has t v ≡ true
  pub decided : (v : ℕ) → has t v ≡ true → (v < g.units) × (decides g w v ≡ true)
      × (n.outside v ≡ false)

pub free_parts : (g : Shape) (n : Node) (u : ℕ) → is_free g n u ≡ true → (n.inside u ≡ false)
    × (n.outside u ≡ false)
free_parts g n u e = let p = and_parts (not (n.inside u)) (not (n.outside u)) e in
    (not-true (n.inside u) p.0, not-true (n.outside u) p.1)

-- the one unit of a list
pub only : (u v : ℕ) → has (u ∷ []) v ≡ true → u ≡ v
only u v e =
    elim (or_cases (u == v) false e)
    [ inl q ↦ eqb-true u v q | inr q ↦ absurd (both_ways false refl q) ]

pub choices : (g : Shape) (n : Node) (w : Way) (t : List ℕ) → IsProper g → Avoids n.inside n.outside
    → MayBranch g n w → IsIn t (options_at g n w) → IsChoice g n w t
choices g n (at_material x c) t proper apart may i =
    let o = (options_all g n x t proper apart).0 i in
    record {
      rising = o.rising;
      has_base =
          λ v e m. o.has_base v (and_from (n.inside v) (g.makes v x) e m);
      decided = o.made_by;
    }
choices g n (either u) t proper apart may (inl e) =
    let free = free_parts g n u may.1 in
    subst (λ (k : List ℕ). IsChoice g n (either u) k) (sym e) (record {
      rising = (tt, tt);
      has_base = λ v i q. or_left (u == v) false q;
      decided = λ v h.
          let same : u ≡ v = only u v h in (
            subst (λ (k : ℕ). k < g.units) same may.0,
            subst (λ (k : ℕ). (u == k) ≡ true) same (eq-eqb u u refl),
            subst (λ (k : ℕ). n.outside k ≡ false) same free.1,
          );
    })
choices g n (either u) t proper apart may (inr (inl e)) =
    let free = free_parts g n u may.1 in
    subst (λ (k : List ℕ). IsChoice g n (either u) k) (sym e) (record {
      rising = tt;
      has_base =
          λ v i q. absurd
          (both_ways (n.inside v) (subst (λ (k : ℕ). n.inside k ≡ false) (eqb-true u v q) free.0)
          i);
      decided = λ v h. absurd (both_ways false refl h);
    })
choices g n (either u) t proper apart may (inr (inr none)) = absurd none

-- ---- no option is listed twice

abbrev pub AreDistinct : List (List ℕ) → Type 0
AreDistinct [] = Unit {0}
AreDistinct (t ∷ ts) = (IsIn t ts → ⊥) × AreDistinct ts

not_below : (t : List ℕ) (ts : List (List ℕ)) → IsBelowEach t ts → IsIn t ts → ⊥
not_below t [] h i = i
not_below t (u ∷ us) h (inl e) = let less : mask_of t < mask_of t =
    subst (λ (w : List ℕ). mask_of t < mask_of w) (sym e) h.0 in omega arith
not_below t (u ∷ us) h (inr i) = not_below t us h.1 i

rising_distinct : (ts : List (List ℕ)) → IsAscending ts → AreDistinct ts
rising_distinct [] h = tt
rising_distinct (t ∷ ts) h = ((λ i. not_below t ts h.0 i), rising_distinct ts h.1)

pub options_distinct : (g : Shape) (n : Node) (w : Way) → AreDistinct (options_at g n w)
options_distinct g n (at_material x c) =
    rising_distinct (options_at g n (at_material x c)) (options_ascend g n x)
options_distinct g n (either u) =
    ((λ i. elim i [ inl e ↦ absurd cc | inr none ↦ none ]), ((λ i. i), tt))

-- ---- families

pub of_child : (g : Shape) (n : Node) (w : Way) (t : List ℕ) (s : ℕ → Bool)
    → InFamily g (child_at g n w t).inside (child_at g n w t).outside s
    → InFamily g n.inside n.outside s
of_child g n w t s f = record {
  between = record {
    meets = f.between.meets;
    contains = λ v e. f.between.contains v (or_right (has t v) (n.inside v) e);
    avoids =
        λ v e o. f.between.avoids v e (or_right (decides g w v && not (has t v)) (n.outside v) o);
  };
  allowed = f.allowed;
}

-- a structure takes the unit in or leaves it out
takes_in : (g : Shape) (n : Node) (u : ℕ) (s : ℕ → Bool) → s u ≡ true
    → InFamily g n.inside n.outside s
    → InFamily g (child_at g n (either u) (u ∷ [])).inside
    (child_at g n (either u) (u ∷ [])).outside s
takes_in g n u s there f = record {
  between = record {
    meets = f.between.meets;
    contains = λ v h. elim (or_cases (has (u ∷ []) v) (n.inside v) h) [
      | inl q ↦ subst (λ (k : ℕ). s k ≡ true) (only u v q) there
      | inr q ↦ f.between.contains v q
    ];
    avoids = λ v e o. elim (or_cases ((u == v) && not (has (u ∷ []) v)) (n.outside v) o) [
      | inl q ↦
          let p = and_parts (u == v) (not (has (u ∷ []) v)) q in
          both_ways (has (u ∷ []) v) (not-true (has (u ∷ []) v) p.1) (or_left (u == v) false p.0)
      | inr q ↦ f.between.avoids v e q
    ];
  };
  allowed = f.allowed;
}

leaves_out : (g : Shape) (n : Node) (u : ℕ) (s : ℕ → Bool) → s u ≡ false
    → InFamily g n.inside n.outside s
    → InFamily g (child_at g n (either u) []).inside (child_at g n (either u) []).outside s
leaves_out g n u s missing f = record {
  between = record {
    meets = f.between.meets;
    contains = λ v h. f.between.contains v h;
    avoids = λ v e o. elim (or_cases ((u == v) && not (has [] v)) (n.outside v) o) [
      | inl q
          ↦ both_ways (s v)
          (subst (λ (k : ℕ). s k ≡ false) (eqb-true u v (and_parts (u == v) (not (has [] v)) q).0)
          missing) e
      | inr q ↦ f.between.avoids v e q
    ];
  };
  allowed = f.allowed;
}

pub family_apart : (g : Shape) (n : Node) (s : ℕ → Bool) → InFamily g n.inside n.outside s
    → Avoids n.inside n.outside
family_apart g n s f = λ u i e. f.between.avoids u (f.between.contains u i) e

pub ways_cover : (g : Shape) → IsProper g → (n : Node) (w : Way) → MayBranch g n w → (s : ℕ → Bool)
    → InFamily g n.inside n.outside s
    → (t : List ℕ) × IsIn t (options_at g n w)
    × InFamily g (child_at g n w t).inside (child_at g n w t).outside s
ways_cover g proper n (at_material x c) may s f =
    let k = children_cover g n x s proper may f in
    (k.0, (options_all g n x k.0 proper (family_apart g n s f)).1 k.1, k.2)
ways_cover g proper n (either u) may s f = elim (cases_Bool (s u)) [
  | inl e ↦ (u ∷ [], inl refl, takes_in g n u s e f)
  | inr e ↦ ([], inr (inl refl), leaves_out g n u s e f)
]

-- two options are one if neither has what the other leaves out
pub one_choice : (g : Shape) (n : Node) (w : Way) (t t' : List ℕ) → IsChoice g n w t
    → IsChoice g n w t'
    → ((v : ℕ) → has t v ≡ true → (decides g w v && not (has t' v)) ≡ true → ⊥)
    → ((v : ℕ) → has t' v ≡ true → (decides g w v && not (has t v)) ≡ true → ⊥) → t ≡ t'
one_choice g n w t t' c c' h h' =
    same_sets t t' c.rising c'.rising
    (λ v. same_tests (has t v) (has t' v) (shared t t' c h v) (shared t' t c' h' v))
  where
    shared : (a b : List ℕ) → IsChoice g n w a
        → ((v : ℕ) → has a v ≡ true → (decides g w v && not (has b v)) ≡ true → ⊥) → (v : ℕ)
        → has a v ≡ true → has b v ≡ true
    shared a b k apart v e = elim (cases_Bool (has b v)) [
      | inl q ↦ q
      | inr q
          ↦ absurd
          (apart v e (and_from (decides g w v) (not (has b v)) (k.decided v e).1 (rw q refl)))
    ]

pub ways_apart : (g : Shape) → IsProper g → (n : Node) (w : Way) → MayBranch g n w
    → (s : ℕ → Bool) (t t' : List ℕ) → IsIn t (options_at g n w) → IsIn t' (options_at g n w)
    → InFamily g (child_at g n w t).inside (child_at g n w t).outside s
    → InFamily g (child_at g n w t').inside (child_at g n w t').outside s → t ≡ t'
ways_apart g proper n w may s t t' i j f h =
    let a = family_apart g n s (of_child g n w t s f) in
    one_choice g n w t t' (choices g n w t proper a may i) (choices g n w t' proper a may j)
    (λ v e o. h.between.avoids v (f.between.contains v (or_left (has t v) (n.inside v) e))
    (or_left (decides g w v && not (has t' v)) (n.outside v) o))
    (λ v e o. f.between.avoids v (h.between.contains v (or_left (has t' v) (n.inside v) e))
    (or_left (decides g w v && not (has t v)) (n.outside v) o))

-- ---- no unit is taken in and left out

pub child_apart : (g : Shape) (n : Node) (w : Way) (t : List ℕ) → IsChoice g n w t
    → Avoids n.inside n.outside → Avoids (child_at g n w t).inside (child_at g n w t).outside
child_apart g n w t o a =
    λ v e h. elim (or_cases (decides g w v && not (has t v)) (n.outside v) h) [
      | inl q ↦
          let k = and_parts (decides g w v) (not (has t v)) q in
          elim (or_cases (has t v) (n.inside v) e) [
            | inl i ↦ both_ways (has t v) (not-true (has t v) k.1) i
            | inr i ↦ both_ways (has t v) (not-true (has t v) k.1) (o.has_base v i k.0)
          ]
      | inr q ↦ elim (or_cases (has t v) (n.inside v) e) [
        | inl i ↦ both_ways (n.outside v) (o.decided v i).2 q
        | inr i ↦ a v i q
      ]
    ]

-- ---- the children at a unit

one_of : (u v : ℕ) (i : Bool) → (has (u ∷ []) v || i) ≡ ((u == v) || i)
one_of u v i = at (u == v) i
  where
    at : (a b : Bool) → ((a || false) || b) ≡ (a || b)
    at true b = refl
    at false b = refl

not_out : (u v : ℕ) (o : Bool) → (((u == v) && not (has (u ∷ []) v)) || o) ≡ o
not_out u v o = at (u == v) o
  where
    at : (a b : Bool) → ((a && not (a || false)) || b) ≡ b
    at true b = refl
    at false b = refl

is_out : (u v : ℕ) (o : Bool) → (((u == v) && not (has [] v)) || o) ≡ ((u == v) || o)
is_out u v o = at (u == v) o
  where
    at : (a b : Bool) → ((a && true) || b) ≡ (a || b)
    at true b = refl
    at false b = refl

pub either_children : (g : Shape) (n : Node) (u : ℕ)
    → children_at g n (either u)
    ≡ record { inside = λ v. (u == v) || n.inside v; outside = n.outside }
    ∷ record { inside = n.inside; outside = λ v. (u == v) || n.outside v } ∷ []
either_children g n u = λ k.
    record { inside = λ v. one_of u v (n.inside v) k; outside = λ v. not_out u v (n.outside v) k }
    ∷ record { inside = n.inside; outside = λ v. is_out u v (n.outside v) k }
    ∷ []
