-- From the maximal structure to the position at which the search starts, and from there to the
-- listing.
use Rattle.std.proofs.Common.{◌≡◌, ℕ, ◌≤◌, nat_lt, Bool, true, false, not, ◌&&◌, ◌||◌, List, []}
use Rattle.std.proofs.Common.{◌∷◌, length, refl, sym, ap, ◌∙◌, subst, inl, inr, ◌↔◌, arith, lt-ltb}
use Rattle.std.proofs.Common.{Option, Some, None}
use Rattle.std.proofs.lemmas.Bool.{both_ways, and_parts, and_from, not-true, or_parts}
use Rattle.std.proofs.lemmas.Bool.{true_from_ne_false, false_from_ne_true}
use Rattle.pgraph.specs.number_sets.Sets.{has, listed, IsRising, IsSet, minus}
use Rattle.pgraph.proofs.number_sets.Cited.{has-minus, has-listed, IsRising-listed, length-within}
use Rattle.pgraph.proofs.number_sets.Cited.{length_below, same_tests}
use Rattle.pgraph.specs.pns_rules.Shape.{Shape, IsProper}
use Rattle.pgraph.specs.pns_rules.Structure.{IsStructure, IsAllowed, IsUnion, is_needed, mats}
use Rattle.pgraph.specs.pns_rules.Trace.{IsBefore}
use Rattle.pgraph.specs.pns_rules.Listing.{IsLater, IsListing}
use Rattle.pgraph.proofs.pns_rules.Cited.{goes_on, goes_back, same_set, before_apart, before_trans}
use Rattle.pgraph.specs.Tables.{Tables, shape}
use Rattle.structure_list.specs.MaxRest.{IsKept}
use Rattle.structure_list.specs.Position.{IsPosition, IsWithinNode, free_count}
use Rattle.structure_list.specs.declared.position.Position.{Position}
use Rattle.structure_list.specs.Rest.{Rest, IsToCome, IsUnderWay}
use Rattle.structure_list.specs.Family.{IsHead}
use Rattle.structure_list.specs.Tight.{kept_units, IsTight}
use Rattle.structure_list.specs.Start.{IsStart}
use Rattle.structure_list.specs.Stack.{InStack, IsStack, IsCut, HaveSame}
use Rattle.structure_list.proofs.TightLemmas.{makes_needed}

-- the units outside `most` are left out, and none is taken in
module _ (g : Shape) (proper : IsProper g) (p : Position) (most : List ℕ)
    (position : IsPosition g p) (inside_is : p.decided.node.inside ≡ [])
    (outside_is : (u : ℕ) → has p.decided.node.outside u ≡ (nat_lt u g.units && not (has most u)))
    (union : IsUnion g (λ u. false) (has most)) (structure : IsStructure g (has most))
    (set : IsSet 128 most) where
  abbrev out : ℕ → Bool
  out = has p.decided.node.outside

  abbrev i : ℕ → Bool
  i = has p.decided.node.inside

  none_in : (u : ℕ) → i u ≡ true → ⊥
  none_in u e = both_ways (i u) (ap (λ xs. has xs u) inside_is) e

  within : (s : ℕ → Bool) → IsStructure g s → IsWithinNode g p.decided.node s
  within s h = record {
    meets = h;
    contains = λ u q. absurd (none_in u q);
    avoids = λ u q k.
        both_ways (has most u)
        (not-true (has most u)
        (and_parts (nat_lt u g.units) (not (has most u)) (sym (outside_is u) ∙ k)).1)
        ((union.unit_in u).1 (mats g s, s, h, (λ v a b. both_ways false refl b), q));
  }

  most_there : (u : ℕ) → nat_lt u g.units ≡ true → out u ≡ false → has most u ≡ true
  most_there u lt free =
      true_from_ne_false (has most u)
      (λ k. both_ways (out u) free
      (outside_is u ∙ and_from (nat_lt u g.units) (not (has most u)) lt (ap not k)))

  few : (m : List ℕ) → IsRising m → IsUnion g (λ u. false) (has m)
      → free_count g p.decided.node ≤ length m
  unfolding free_count
  few m up is =
      length-within (listed g.units (λ u. not (i u || out u))) m
      (IsRising-listed g.units (λ u. not (i u || out u))) up (λ u h.
      let q =
      and_parts (nat_lt u g.units) (not (i u || out u))
      (sym (has-listed g.units (λ v. not (i v || out v)) u) ∙ h) in
      let free = (or_parts (i u) (out u) (not-true (i u || out u) q.1)).1 in
      (is.unit_in u).1 ((union.unit_in u).0 (most_there u q.0 free)))

  most_kept : has most ≡ kept_units g p.decided.node
  most_kept =
      same_set (has most) (kept_units g p.decided.node)
      (λ u. same_tests (has most u) (kept_units g p.decided.node u)
      (λ e. and_from (nat_lt u g.units) (not (out u)) (lt-ltb u g.units (structure.s3 u e))
      (ap not
      (false_from_ne_true (out u)
      (λ q. both_ways (has most u)
      (not-true (has most u)
      (and_parts (nat_lt u g.units) (not (has most u)) (sym (outside_is u) ∙ q)).1) e))))
      (λ e. let q = and_parts (nat_lt u g.units) (not (out u)) e in
      most_there u q.0 (not-true (out u) q.1)))

  tight : IsTight g p.decided.node
  tight = record {
    kept = subst (λ k. IsKept g (is_needed g i) k) most_kept (record {
      balanced = λ x b. b.1 (structure.s2 x b.0);
      makes = makes_needed g proper i (has most) structure (λ u e. absurd (none_in u e));
    });
    inside = λ u e. absurd (none_in u e);
    leads = λ u e. absurd (none_in u e);
  }

  pub starts : IsStart g p
  starts = record {
    position = position;
    tight = tight;
    has_all = within;
    small = let a = few most set.rising union in let b =
        length_below 128 most set.rising set.below in omega (arith, a, b);
    few = few;
  }

pub union_of : (g : Shape) (w most : List ℕ) → w ≡ [] → IsUnion g (has w) (has most)
    → IsUnion g (λ u. false) (has most)
union_of g w most e h =
    let P = λ (xs : List ℕ). IsUnion g (has xs) (has most) in
    subst P e h

pub out_of : (g : Shape) (most out cut all : List ℕ) (count : ℕ) → out ≡ cut → cut ≡ minus all most
    → ((u : ℕ) → has all u ≡ nat_lt u count) → count ≡ g.units → (u : ℕ)
    → has out u ≡ (nat_lt u g.units && not (has most u))
out_of g most out cut all count qe qc qa qn u =
    ap (λ xs. has xs u) (qe ∙ qc)
    ∙ (has-minus all most u ∙ ap (λ b. b && not (has most u)) (qa u ∙ ap (nat_lt u) qn))

-- ---- the stack with which the listing begins

module _ (g : Shape) where
  pub start_stack : (p : Position) → IsStart g p → IsStack g (p ∷ [])
  start_stack p is = record {
    most = free_count g p.decided.node;
    small = is.small;
    few = is.few;
    placed = (
      record {
        position = is.position;
        tight = is.tight;
        room = omega arith;
        before =
            λ s t h f. absurd h;
      },
      tt,
    );
  }

  pub start_has : (p : Position) → IsStart g p → (s : ℕ → Bool) → IsStructure g s → IsAllowed g s
      → InStack g (p ∷ []) s
  start_has p is s h a = inl (record { between = is.has_all s h; allowed = a })

  pub begins : (p : Position) → IsStart g p → IsUnderWay g (p ∷ []) None
  begins p is = record {
    stack = start_stack p is;
    has_all = λ s h. start_has p is (has s) h.meets h.allowed;
    no_more = λ s h. tt;
  }

  pub nothing : (last : Option (List ℕ)) → ((s : ℕ → Bool) → IsStructure g s → ⊥)
      → IsUnderWay g [] last
  nothing last none = record {
    stack = record { most = 0; small = omega arith; few = λ m up is. omega arith; placed = tt };
    has_all = λ s h. absurd (none (has s) h.meets);
    no_more = λ s h. absurd h;
  }

  -- ---- the head of the listing

  in_is : (ps : List Position) (s : ℕ → Bool) → InStack g ps s → IsStructure g s × IsAllowed g s
  in_is [] s h = absurd h
  in_is (p ∷ ps) s h = elim h [ inl f ↦ (f.between.meets, f.allowed) | inr k ↦ in_is ps s k ]

  later_trans : (last : Option (List ℕ)) (r s : ℕ → Bool) → IsLater g last r → IsBefore g r s
      → IsLater g last s
  later_trans None r s h b = tt
  later_trans (Some l) r s h b = before_trans g (has l) r s h b

  module _ (ps : List Position) (last : Option (List ℕ)) (way : IsUnderWay g ps last) where
    pub head_some : (r : List ℕ) (qs : List Position) → IsRising r → IsCut g ps r qs
        → IsHead g last (Some r)
    head_some r qs up cut = let is = in_is ps (has r) cut.there in record {
      listed =
          record { rising = up; meets = is.0; allowed = is.1; later = way.no_more r cut.there };
      first =
          λ s h. elim (cut.rest (has s) (way.has_all s h))
          [ inl same ↦ inl same | inr there ↦ inr (cut.first (has s) there) ];
    }

    pub goes_after : (r : List ℕ) (qs : List Position) → IsCut g ps r qs → IsStack g qs
        → IsUnderWay g qs (Some r)
    goes_after r qs cut st = record {
      stack = st;
      has_all =
          λ s h. elim
          (cut.rest (has s)
          (way.has_all s
          (record {
            rising = h.rising;
            meets = h.meets;
            allowed = h.allowed;
            later =
                later_trans last (has r) (has s) (way.no_more r cut.there) h.later;
          }))) [
            | inl same ↦ absurd (before_apart g (has r) (has s) same h.later)
            | inr there ↦ there
          ];
      no_more = λ s h. cut.first (has s) h;
    }

    pub head_none : (qs : List Position) → HaveSame g ps qs → qs ≡ [] → IsHead g last None
    head_none qs same none =
        λ s h. subst (λ rs. InStack g rs (has s)) none ((same (has s)).0 (way.has_all s h))

    pub stays_after : (qs : List Position) → HaveSame g ps qs → IsStack g qs → IsUnderWay g qs last
    stays_after qs same st = record {
      stack = st;
      has_all = λ s h. (same (has s)).0 (way.has_all s h);
      no_more = λ s h. way.no_more s ((same (has s)).1 h);
    }

-- the step of a listing under way
pub next_goes : (graph : Tables) (last : Option (List ℕ)) (before : Rest) (r : List ℕ)
    → record { graph = graph; last = last } ≡ before → IsHead (shape graph) last (Some r)
    → (xs : List (List ℕ)) → IsListing (shape graph) (Some r) xs ↔ IsToCome before (r ∷ xs)
next_goes graph last before r q h xs =
    subst (λ k. IsListing (shape graph) (Some r) xs ↔ IsToCome k (r ∷ xs)) q (
      goes_on (shape graph) last r h.listed h.first xs,
      goes_back (shape graph) last r h.listed h.first xs,
    )

-- nothing is to come
pub next_ends : (graph : Tables) (last : Option (List ℕ)) (before : Rest)
    → record { graph = graph; last = last } ≡ before → IsHead (shape graph) last None
    → IsToCome before []
next_ends graph last before q h =
    subst (λ k. IsToCome k []) q
    (record { in_order = tt; has_all = λ s k. absurd (h s k); no_more = λ s k. absurd k })
