-- The steps of a node keep its family.
use Rattle.std.proofs.Common.{◌≡◌, ℕ, ◌<◌, ◌==◌, Bool, true, false, not, ◌&&◌, ◌||◌, List, []}
use Rattle.std.proofs.Common.{◌∷◌}
use Rattle.std.proofs.Common.{◌↔◌, refl, sym, ap, ◌∙◌, subst, inl, inr, eqb-true, nat_lt, lt-ltb}
use Rattle.std.proofs.Common.{ltb-true}
use Rattle.std.proofs.lemmas.Bool.{or_cases, or_left, or_right, and_from, and_parts, both_ways}
use Rattle.std.proofs.lemmas.Bool.{false_from_ne_true, true_from_ne_false, not-true, cases_Bool}
use Rattle.std.proofs.lemmas.Bool.{cases_order}
use Rattle.number_sets.specs.Sets.{has, listed, Avoids}
use Rattle.pns_rules.specs.Shape.{Shape, IsProper}
use Rattle.pns_rules.specs.Structure.{is_used, is_needed, makers, mats, IsPath, IsBetween}
use Rattle.pns_rules.specs.Structure.{InFamily}
use Rattle.pns_rules.specs.Structure.{Clashes, IsAllowed}
use Rattle.pns_rules.specs.Nodes.{Node, Step, raw, rival, starve, loose, sole, IsPossible, after}
use Rattle.pns_rules.specs.Nodes.{IsOption, child}
use Rattle.pns_rules.specs.Ends.{IsDead}
use Rattle.number_sets.proofs.Cited.{has-listed, IsRising-listed, same_sets, same_tests}
use Rattle.pns_rules.proofs.StructureLemmas.{is_used-some, raw_unmade, a_maker, used_in}

-- more units are left out, none of them in the structure
more_out : (g : Shape) (inside out more o : ℕ → Bool) → Avoids o more → IsBetween g inside out o
    → IsBetween g inside (λ v. more v || out v) o
more_out g inside out more o a f = record {
  meets = f.meets;
  contains = f.contains;
  avoids =
      λ u e q. elim (or_cases (more u) (out u) q) [ inl p ↦ a u e p | inr p ↦ f.avoids u e p ];
}

fewer_out : (g : Shape) (inside out more o : ℕ → Bool)
    → IsBetween g inside (λ v. more v || out v) o
    → IsBetween g inside out o
fewer_out g inside out more o f = record {
  meets = f.meets;
  contains = f.contains;
  avoids = λ u e q. f.avoids u e (or_right (more u) (out u) q);
}

abbrev IsRival : Step → Bool
IsRival (raw u) = false
IsRival (rival u) = true
IsRival (starve x) = false
IsRival (loose w) = false
IsRival (sole x u) = false

-- no unit of a structure of the node is in a loose set
not_loose : (g : Shape) (n : Node) (w : List ℕ) (o : ℕ → Bool) → IsPossible g n (loose w)
    → IsBetween g n.inside n.outside o → (u : ℕ) (path : List ℕ) → has w u ≡ true
    → IsPath g o u path → ⊥
not_loose g n w o p f u [] hw path = path
not_loose g n w o p f u (x ∷ []) hw path = both_ways (g.product x) (p.2 u x hw path.1).0 path.2
not_loose g n w o p f u (x ∷ v ∷ rest) hw path =
    let ov = starts v rest path.3 in
    elim (cases_Bool (has w v)) [
      | inl hv ↦ not_loose g n w o p f v rest hv path.3
      | inr hv
          ↦ both_ways (g.uses v x)
          ((p.2 u x hw path.1).1 v (f.meets.s3 v ov)
          (false_from_ne_true (n.outside v) (f.avoids v ov)) hv) path.2
    ]
  where
    starts : (v : ℕ) (path : List ℕ) → IsPath g o v path → o v ≡ true
    starts v [] p = absurd p
    starts v (x ∷ []) p = p.0
    starts v (x ∷ k ∷ rest) p = p.0

pub steps_keep_between : (g : Shape) (n : Node) (step : Step) → IsRival step ≡ false → IsProper g
    → IsPossible g n step → (o : ℕ → Bool) → IsBetween g n.inside n.outside o
    ↔ IsBetween g (after g n step).inside (after g n step).outside o
steps_keep_between g n (raw u) not_rival proper p o = (
  (λ f. more_out g n.inside n.outside (λ v. u == v) o
      (λ v e q. let same : u ≡ v = eqb-true u v q in
      raw_unmade g o f.meets u p.2.0 (subst (λ k. o k ≡ true) (sym same) e) p.2.1 p.2.2) f),
  fewer_out g n.inside n.outside (λ v. u == v) o,
)
steps_keep_between g n (rival u) not_rival proper p o = cc
steps_keep_between g n (starve x) not_rival proper p o = (
  (λ f. more_out g n.inside n.outside (λ v. g.uses v x) o
      (λ v e q. let k = a_maker g o f.meets x (used_in g o f.meets v x e q) p.0 in
      f.avoids k.0 k.2 (p.1 k.0 k.1 k.3)) f),
  fewer_out g n.inside n.outside (λ v. g.uses v x) o,
)
steps_keep_between g n (loose w) not_rival proper p o = (
  (λ f. more_out g n.inside n.outside (has w) o
      (λ v e q. let k = f.meets.s4 v e in not_loose g n w o p f v k.path q k.leads) f),
  fewer_out g n.inside n.outside (has w) o,
)
steps_keep_between g n (sole x u) not_rival proper p o = (
  (λ f. record {
    meets = f.meets;
    contains =
        λ v e. elim (or_cases (u == v) (n.inside v) e)
        [ inl q ↦ subst (λ k. o k ≡ true) (eqb-true u v q) (taken f) | inr q ↦ f.contains v q ];
    avoids = f.avoids;
  }),
  (λ f. record {
    meets = f.meets;
    contains =
        λ v e. f.contains v (or_right (u == v) (n.inside v) e);
    avoids = f.avoids;
  }),
)
  where
    -- x is in each structure of the node, and is not raw
    by : (f : IsBetween g n.inside n.outside o) → (mats g o x ≡ true) → g.raw x ≡ false
        → o u ≡ true
    by f m r =
        let k = a_maker g o f.meets x m r in
        subst (λ v. o v ≡ true)
        (p.5 k.0 k.1 k.3 (false_from_ne_true (n.outside k.0) (f.avoids k.0 k.2))) k.2

    taken : IsBetween g n.inside n.outside o → o u ≡ true
    taken f = elim (or_cases (g.product x) (not (g.raw x) && is_used g n.inside x) p.0) [
      | inl q
          ↦ by f (f.meets.s1 x q) (false_from_ne_true (g.raw x) (λ r. proper.kinds_apart x r q))
      | inr q ↦
          let parts = and_parts (not (g.raw x)) (is_used g n.inside x) q in
          let k = is_used-some g n.inside x parts.1 in
          by f (used_in g o f.meets k.0 x (f.contains k.0 k.2) k.3) (not-true (g.raw x) parts.0)
    ]

-- ---- the children of a needed material

-- a needed material is in each structure of the node, and is not raw
pub needed_there : (g : Shape) (n : Node) (x : ℕ) (o : ℕ → Bool) → IsProper g
    → is_needed g n.inside x ≡ true → IsBetween g n.inside n.outside o → (mats g o x ≡ true)
    × (g.raw x ≡ false)
needed_there g n x o proper e f =
    elim (or_cases (g.product x) (not (g.raw x) && is_used g n.inside x) e) [
      | inl q ↦ (f.meets.s1 x q, false_from_ne_true (g.raw x) (λ r. proper.kinds_apart x r q))
      | inr q ↦
          let parts = and_parts (not (g.raw x)) (is_used g n.inside x) q in
          let k = is_used-some g n.inside x parts.1 in
          (used_in g o f.meets k.0 x (f.contains k.0 k.2) k.3, not-true (g.raw x) parts.0)
    ]

module _ (g : Shape) (n : Node) (x : ℕ) (o : ℕ → Bool) where
  chosen : List ℕ
  chosen = listed g.units (makers g o x)

  chosen_has : (u : ℕ) → u < g.units
      → has (listed g.units (makers g o x)) u ≡ (o u && g.makes u x)
  chosen_has u lt = has-listed g.units (makers g o x) u
      ∙ ap (λ b. b && (o u && g.makes u x)) (lt-ltb u g.units lt)

  chosen_parts : (u : ℕ) → has (listed g.units (makers g o x)) u ≡ true → (u < g.units)
      × (o u ≡ true) × (g.makes u x ≡ true)
  chosen_parts u e =
      let p =
      and_parts (nat_lt u g.units) (o u && g.makes u x)
      (sym (has-listed g.units (makers g o x) u) ∙ e) in
      let q = and_parts (o u) (g.makes u x) p.1 in
      (ltb-true u g.units p.0, q.0, q.1)

  chosen_from : IsBetween g n.inside n.outside o → (u : ℕ) → o u ≡ true → g.makes u x ≡ true
      → has (listed g.units (makers g o x)) u ≡ true
  chosen_from f u e m = chosen_has u (f.meets.s3 u e) ∙ and_from (o u) (g.makes u x) e m

  -- what an option of a structure of the child is
  option_is : (t : List ℕ) → IsOption g n x t
      → IsBetween g (child g n x t).inside (child g n x t).outside o → (u : ℕ)
      → has t u ≡ (o u && g.makes u x)
  option_is t p f u =
      same_tests (has t u) (o u && g.makes u x)
      (λ e. and_from (o u) (g.makes u x) (f.contains u (or_left (has t u) (n.inside u) e))
      (p.made_by u e).1)
      (λ e.
      let q = and_parts (o u) (g.makes u x) e in
      true_from_ne_false (has t u)
      (λ no. f.avoids u q.0
      (or_left (g.makes u x && not (has t u)) (n.outside u)
      (and_from (g.makes u x) (not (has t u)) q.1 (ap not no)))))

pub children_cover_between : (g : Shape) (n : Node) (x : ℕ) (o : ℕ → Bool) → IsProper g
    → is_needed g n.inside x ≡ true → IsBetween g n.inside n.outside o → (t : List ℕ)
    × IsOption g n x t × IsBetween g (child g n x t).inside (child g n x t).outside o
children_cover_between g n x o proper e f =
    let there = needed_there g n x o proper e f in
    let k = a_maker g o f.meets x there.0 there.1 in (
      listed g.units (makers g o x),
      record {
        rising = IsRising-listed g.units (makers g o x);
        has_base = λ u h. let q = and_parts (n.inside u) (g.makes u x) h in
            chosen_from g n x o f u (f.contains u q.0) q.1;
        made_by = λ u h. let p = chosen_parts g n x o u h in
            (p.0, p.2, false_from_ne_true (n.outside u) (f.avoids u p.1));
        some = (k.0, chosen_from g n x o f k.0 k.2 k.3);
      },
      record {
        meets = f.meets;
        contains =
            λ u h. elim (or_cases (has (listed g.units (makers g o x)) u) (n.inside u) h)
            [ inl q ↦ (chosen_parts g n x o u q).1 | inr q ↦ f.contains u q ];
        avoids =
            λ u h q. elim
            (or_cases (g.makes u x && not (has (listed g.units (makers g o x)) u)) (n.outside u)
            q) [
              | inl p ↦
                  let r =
                  and_parts (g.makes u x) (not (has (listed g.units (makers g o x)) u)) p in
                  both_ways (has (listed g.units (makers g o x)) u)
                  (not-true (has (listed g.units (makers g o x)) u) r.1)
                  (chosen_from g n x o f u h r.0)
              | inr p ↦ f.avoids u h p
            ];
      },
    )

pub children_apart_between : (g : Shape) (n : Node) (x : ℕ) (o : ℕ → Bool) (t t' : List ℕ)
    → IsOption g n x t → IsOption g n x t'
    → IsBetween g (child g n x t).inside (child g n x t).outside o
    → IsBetween g (child g n x t').inside (child g n x t').outside o → t ≡ t'
children_apart_between g n x o t t' p q f h =
    same_sets t t' p.rising q.rising
    (λ u. option_is g n x o t p f u ∙ sym (option_is g n x o t' q h u))

-- ---- the same for clash-free structures

both_allowed : (g : Shape) (i e j f o : ℕ → Bool) → IsBetween g i e o ↔ IsBetween g j f o
    → InFamily g i e o ↔ InFamily g j f o
both_allowed g i e j f o same = (
  λ k. record { between = same.0 k.between; allowed = k.allowed },
  λ k. record { between = same.1 k.between; allowed = k.allowed },
)

-- two units of a clash-free structure in one exclusion are one
one_of : (g : Shape) (o : ℕ → Bool) → IsAllowed g o → (k u v : ℕ) → k < g.exclusions → o u ≡ true
    → o v ≡ true → g.excludes k u ≡ true → g.excludes k v ≡ true → u ≡ v
one_of g o allowed k u v known ou ov ku kv = elim (cases_order u v) [
  | inl e ↦ e
  | inr d ↦ elim d [
    | inl lt
        ↦ absurd
        (allowed k
        (record {
          known = known;
          one = u;
          other = v;
          apart = lt;
          has_one = (ou, ku);
          has_other =
              (ov, kv);
        }))
    | inr gt
        ↦ absurd
        (allowed k
        (record {
          known = known;
          one = v;
          other = u;
          apart = gt;
          has_one = (ov, kv);
          has_other =
              (ou, ku);
        }))
  ]
]

pub steps_keep_families : (g : Shape) (n : Node) (step : Step) → IsProper g → IsPossible g n step
    → (o : ℕ → Bool) → InFamily g n.inside n.outside o
    ↔ InFamily g (after g n step).inside (after g n step).outside o
steps_keep_families g n (raw u) proper p o =
    both_allowed g _ _ _ _ o (steps_keep_between g n (raw u) refl proper p o)
steps_keep_families g n (rival u) proper p o = (
  (λ f. record {
    between = more_out g n.inside n.outside (λ v. u == v) o (λ v ov q.
        let same : u ≡ v = eqb-true u v q in
        let ou : o u ≡ true = subst (λ w. o w ≡ true) (sym same) ov in
        let e =
        one_of g o f.allowed p.2.0 u p.2.1 p.2.2 ou (f.between.contains p.2.1 p.2.3) p.2.4
        p.2.5 in
        both_ways (n.inside u)
        (not-true (n.inside u) (and_parts (not (n.inside u)) (not (n.outside u)) p.1).0)
        (subst (λ w. n.inside w ≡ true) (sym e) p.2.3)) f.between;
    allowed = f.allowed;
  }),
  (λ f. record {
    between = fewer_out g n.inside n.outside (λ v. u == v) o f.between;
    allowed =
        f.allowed;
  }),
)
steps_keep_families g n (starve x) proper p o =
    both_allowed g _ _ _ _ o (steps_keep_between g n (starve x) refl proper p o)
steps_keep_families g n (loose w) proper p o =
    both_allowed g _ _ _ _ o (steps_keep_between g n (loose w) refl proper p o)
steps_keep_families g n (sole x u) proper p o =
    both_allowed g _ _ _ _ o (steps_keep_between g n (sole x u) refl proper p o)

pub clashes_are_empty : (g : Shape) (n : Node) (k : ℕ) (o : ℕ → Bool) → Clashes g n.inside k
    → InFamily g n.inside n.outside o → ⊥
clashes_are_empty g n k o c f =
    f.allowed k (record {
      known = c.known;
      one = c.one;
      other = c.other;
      apart = c.apart;
      has_one = (f.between.contains c.one c.has_one.0, c.has_one.1);
      has_other = (f.between.contains c.other c.has_other.0, c.has_other.1);
    })

pub dead_are_empty : (g : Shape) (n : Node) (x : ℕ) (o : ℕ → Bool) → IsProper g → IsDead g n x
    → InFamily g n.inside n.outside o → ⊥
dead_are_empty g n x o proper d f =
    let there = needed_there g n x o proper d.needed f.between in
    let k = a_maker g o f.between.meets x there.0 there.1 in
    f.between.avoids k.0 k.2 (d.all_out k.0 k.1 k.3)

pub children_cover : (g : Shape) (n : Node) (x : ℕ) (o : ℕ → Bool) → IsProper g
    → is_needed g n.inside x ≡ true → InFamily g n.inside n.outside o → (t : List ℕ)
    × IsOption g n x t × InFamily g (child g n x t).inside (child g n x t).outside o
children_cover g n x o proper e f =
    let k = children_cover_between g n x o proper e f.between in
    (k.0, k.1, record { between = k.2; allowed = f.allowed })

pub children_apart : (g : Shape) (n : Node) (x : ℕ) (o : ℕ → Bool) (t t' : List ℕ)
    → IsOption g n x t → IsOption g n x t'
    → InFamily g (child g n x t).inside (child g n x t).outside o
    → InFamily g (child g n x t').inside (child g n x t').outside o → t ≡ t'
children_apart g n x o t t' p q f h = children_apart_between g n x o t t' p q f.between h.between
