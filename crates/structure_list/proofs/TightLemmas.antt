-- A turn at a node whose kept units are balanced, without the unit and with it.
use Rattle.std.proofs.Common.{◌≡◌, ℕ, ◌<◌, nat_lt, Bool, true, false, not, ◌&&◌, ◌||◌, List, []}
use Rattle.std.proofs.Common.{◌∷◌, refl, sym, ap, ap₂, ◌∙◌, subst, inl, inr, ◌↔◌, Option, Some}
use Rattle.std.proofs.Common.{None, lt-ltb, ltb-true}
use Rattle.std.proofs.lemmas.Bool.{and_parts, and_from, both_ways, or_cases, or_left, or_right}
use Rattle.std.proofs.lemmas.Bool.{or_parts, true_from_ne_false, false_from_ne_true, not-true}
use Rattle.pgraph.specs.number_sets.Sets.{has, with_number, union, minus, IsWithin}
use Rattle.pgraph.proofs.number_sets.Cited.{has-minus, has-union, same_tests}
use Rattle.pgraph.specs.pns_rules.Shape.{Shape, IsProper}
use Rattle.pgraph.specs.pns_rules.Structure.{is_made, is_used, is_needed, mats, IsPath, HasPath}
use Rattle.pgraph.specs.pns_rules.Structure.{IsStructure}
use Rattle.pgraph.specs.pns_rules.Trace.{Pair, is_done, units_of, next_material}
use Rattle.pgraph.specs.pns_rules.Ends.{IsNever}
use Rattle.pgraph.proofs.pns_rules.Cited.{is_made-from, is_made-some, is_used-from, is_used-some}
use Rattle.pgraph.proofs.pns_rules.Cited.{is_used-within, HasPath-within, least_some, found_in}
use Rattle.pgraph.proofs.pns_rules.Cited.{found_leads, path_found, same_set}
use Rattle.pgraph.specs.pns_rules.Breaks.{BreaksS1}
use Rattle.pgraph.specs.unit_sets.declared.node.Node.{Node}
use Rattle.structure_list.specs.MaxRest.{HasAll, IsKept, IsRest, HasNoRest}
use Rattle.structure_list.proofs.BalanceLemmas.{broken_if_unmade, makes_what_it_uses}
use Rattle.structure_list.proofs.UnionLemmas.{structure_of}
use Rattle.structure_list.specs.declared.position.Position.{Position}
use Rattle.structure_list.specs.declared.turn.Turn.{Turn}
use Rattle.structure_list.specs.Position.{IsPosition, IsTurn, IsSettled, IsWithinNode, with_unit}
use Rattle.structure_list.specs.Position.{makes_it, free_count}
use Rattle.structure_list.proofs.NodeLemmas.{has_added, has_more, has_either, wider_in, taken_in}
use Rattle.structure_list.proofs.NodeLemmas.{narrow_in, fewer}
use Rattle.structure_list.proofs.PositionLemmas.{position_of}
use Rattle.structure_list.specs.Tight.{kept_units, IsTight, IsSide, IsForced}

-- a structure with these units makes all that they need
pub makes_needed : (g : Shape) → IsProper g → (i s : ℕ → Bool) → IsStructure g s → IsWithin i s
    → HasAll g (is_needed g i) s
makes_needed g proper i s h w x e =
    elim (or_cases (g.product x) (not (g.raw x) && is_used g i x) e) [
      | inl p ↦ true_from_ne_false (is_made g s x)
          (λ q. proper.kinds_apart x ((h.s2 x (h.s1 x p)).0 q) p)
      | inr q ↦
          let r = and_parts (not (g.raw x)) (is_used g i x) q in
          let k = is_used-some g i x r.1 in
          makes_what_it_uses g (mats g s) s h k.0 x (w k.0 k.2) k.3 (not-true (g.raw x) r.0)
    ]

-- the units of a set that lead to a product, as a test
abbrev pub reaching : Shape → (ℕ → Bool) → ℕ → Bool
reaching g kept = found_in g kept g.units

module _ (g : Shape) (proper : IsProper g) (n : Node) (is : IsTight g n) where
  abbrev i : ℕ → Bool
  i = has n.inside

  abbrev kept : ℕ → Bool
  kept = kept_units g n

  pub kept_known : (u : ℕ) → kept u ≡ true → u < g.units
  kept_known u e = ltb-true u g.units (and_parts (nat_lt u g.units) (not (has n.outside u)) e).0

  kept_in : (u : ℕ) → kept u ≡ true → has n.outside u ≡ false
  kept_in u e =
      not-true (has n.outside u) (and_parts (nat_lt u g.units) (not (has n.outside u)) e).1

  pub kept_from : (u : ℕ) → u < g.units → has n.outside u ≡ false → kept u ≡ true
  kept_from u lt e =
      and_from (nat_lt u g.units) (not (has n.outside u)) (lt-ltb u g.units lt) (ap not e)

  within_kept : (s : ℕ → Bool) → IsWithinNode g n s → IsWithin s kept
  within_kept s f u e =
      kept_from u (f.meets.s3 u e) (false_from_ne_true (has n.outside u) (f.avoids u e))

  pub forced : (u : ℕ) → HasNoRest g (is_needed g i) kept u → (s : ℕ → Bool) → IsWithinNode g n s
      → s u ≡ false → ⊥
  forced u h s f e =
      h (mats g s) s f.meets (within_kept s f) e (makes_needed g proper i s f.meets f.contains)

  -- ---- the units of what is kept that lead to a product are a structure of the node

  abbrev reach : ℕ → Bool
  reach = reaching g kept

  reach_is : (u : ℕ) → (reach u ≡ true) ↔ HasPath g kept u
  reach_is u = (found_leads g kept g.units u, path_found g kept proper kept_known u)

  none_missing : IsNever (BreaksS1 g reach)
  none_missing x b =
      let k =
      is_made-some g kept x
      (is.kept.makes x (or_left (g.product x) (not (g.raw x) && is_used g i x) b.0)) in
      let there = (reach_is k.0).1 (record { path = x ∷ []; leads = (k.2, k.3, b.0) }) in
      both_ways (mats g reach x) b.1
      (or_right (is_used g reach x) (is_made g reach x)
      (is_made-from g reach k.0 x k.1 there k.3))

  pub some_left : IsWithinNode g n reach
  some_left = record {
    meets = structure_of g kept reach reach_is is.kept.balanced kept_known none_missing;
    contains = λ u e. (reach_is u).1 (HasPath-within g i kept is.inside u (is.leads u e));
    avoids = λ u e q.
        let p = (reach_is u).0 e in
        both_ways (has n.outside u) (kept_in u (begins u p.path p.leads)) q;
  }
    where
      begins : (u : ℕ) (path : List ℕ) → IsPath g kept u path → kept u ≡ true
      begins u [] p = absurd p
      begins u (x ∷ []) p = p.0
      begins u (x ∷ v ∷ rest) p = p.0

  -- if no unit is left to be decided those taken in are a structure
  pub settled_is : IsSettled g n → IsWithinNode g n i
  settled_is settled =
      subst (λ k. IsWithinNode g n k) (same_set reach i (settled reach some_left)) some_left

  -- ---- the unit is taken in

  module _ (u : ℕ) (lt : u < g.units) (free : (i u || has n.outside u) ≡ false) where
    kept_u : kept u ≡ true
    kept_u = kept_from u lt (or_parts (i u) (has n.outside u) free).1

    abbrev more : ℕ → Bool
    more = has (with_number u n.inside)

    more_kept : IsWithin more kept
    more_kept v h =
        elim (has_either u n.inside v h)
        [ inl same ↦ subst (λ k. kept k ≡ true) same kept_u | inr there ↦ is.inside v there ]

    more_made : HasAll g (is_needed g more) kept
    more_made x e = elim (or_cases (g.product x) (not (g.raw x) && is_used g more x) e) [
      | inl p ↦ is.kept.makes x (or_left (g.product x) (not (g.raw x) && is_used g i x) p)
      | inr q ↦
          let r = and_parts (not (g.raw x)) (is_used g more x) q in
          true_from_ne_false (is_made g kept x)
          (λ unmade. is.kept.balanced x
          ((broken_if_unmade g kept x (not-true (g.raw x) r.0) unmade).0
          (is_used-within g more kept more_kept x r.1)))
    ]

    wide : IsWithin i more
    wide v h = has_more u n.inside v h

    pub tight_with : HasPath g more u → IsTight g (with_unit u n)
    tight_with path = record {
      kept = record { balanced = is.kept.balanced; makes = more_made };
      inside = more_kept;
      leads = λ v h. elim (has_either u n.inside v h) [
        | inl same ↦ subst (λ k. HasPath g more k) same path
        | inr there ↦ HasPath-within g i more wide v (is.leads v there)
      ];
    }

    module _ (pairs : List Pair)
        (from_pairs : (v : ℕ) → units_of pairs v ≡ true → i v ≡ true) where
      path_at : (x : ℕ) → next_material g pairs ≡ Some x → g.makes u x ≡ true → HasPath g more u
      path_at x next makes =
          let due =
          (least_some g.materials (λ y. is_needed g (units_of pairs) y && not (is_done pairs y))
          x next).1 in
          let needed =
          (and_parts (is_needed g (units_of pairs) x) (not (is_done pairs x)) due).0 in
          elim (or_cases (g.product x) (not (g.raw x) && is_used g (units_of pairs) x) needed) [
            | inl p ↦ record { path = x ∷ []; leads = (has_added u n.inside, makes, p) }
            | inr q ↦
                let k =
                is_used-some g (units_of pairs) x
                (and_parts (not (g.raw x)) (is_used g (units_of pairs) x) q).1 in
                let p = HasPath-within g i more wide k.0 (is.leads k.0 (from_pairs k.0 k.2)) in
                record {
                  path = x ∷ k.0 ∷ p.path;
                  leads =
                      (has_added u n.inside, makes, k.3, p.leads);
                }
          ]

      pub path_of : (at : Option ℕ) → next_material g pairs ≡ at → makes_it g at u ≡ true
          → HasPath g more u
      path_of None next makes = absurd (both_ways false refl makes)
      path_of (Some x) next makes = path_at x next makes

    -- ---- the unit is left out, and with it what is not kept without it

    module _ (rest : ℕ → Bool) (r : IsRest g (is_needed g i) kept u rest) (out : List ℕ)
        (out_is : (v : ℕ) → has out v ≡ (has n.outside v || (kept v && not (rest v)))) where
      abbrev m : Node
      m = record { inside = n.inside; outside = out }

      still_out : (v : ℕ) → has n.outside v ≡ true → has out v ≡ true
      still_out v e = out_is v ∙ or_left (has n.outside v) (kept v && not (rest v)) e

      not_out : (v : ℕ) → rest v ≡ true → has out v ≡ false
      not_out v e =
          false_from_ne_true (has out v)
          (λ q. elim (or_cases (has n.outside v) (kept v && not (rest v)) (sym (out_is v) ∙ q)) [
            | inl k ↦ both_ways (has n.outside v) (kept_in v (r.within v e)) k
            | inr k
                ↦ both_ways (rest v) (not-true (rest v) (and_parts (kept v) (not (rest v)) k).1) e
          ])

      out_of_rest : (v : ℕ) → kept v ≡ true → rest v ≡ false → has out v ≡ true
      out_of_rest v k e = out_is v
          ∙ or_right (has n.outside v) (kept v && not (rest v))
          (and_from (kept v) (not (rest v)) k (ap not e))

      u_out : has out u ≡ true
      u_out = out_of_rest u kept_u r.without

      rest_is : rest ≡ kept_units g m
      rest_is = same_set rest (kept_units g m) (λ v. same_tests (rest v) (kept_units g m v)
          (λ e. and_from (nat_lt v g.units) (not (has out v))
          (lt-ltb v g.units (kept_known v (r.within v e))) (ap not (not_out v e)))
          (λ e.
          let p = and_parts (nat_lt v g.units) (not (has out v)) e in
          let gone = not-true (has out v) p.1 in
          true_from_ne_false (rest v) (λ q. both_ways (has out v) gone
          (out_of_rest v
          (kept_from v (ltb-true v g.units p.0)
          (false_from_ne_true (has n.outside v)
          (λ k. both_ways (has out v) gone (still_out v k)))) q))))

      inside_rest : IsWithin i rest
      inside_rest v e = r.stays v (is.inside v e)
          (λ q. both_ways (i v)
          (subst (λ k. i k ≡ false) q (or_parts (i u) (has n.outside u) free).0) e)
          (λ x uses other. or_right (g.product x) (not (g.raw x) && is_used g i x)
          (and_from (not (g.raw x)) (is_used g i x) (ap not other)
          (is_used-from g i v x (kept_known v (is.inside v e)) e uses)))

      pub tight_without : IsTight g m
      tight_without = record {
        kept = subst (λ k. IsKept g (is_needed g i) k) rest_is r.kept;
        inside = subst (λ k. IsWithin i k) rest_is inside_rest;
        leads = is.leads;
      }

      pub same_without : (s : ℕ → Bool) → IsWithinNode g m s
          ↔ (IsWithinNode g n s × (s u ≡ false))
      same_without s = (
        λ f. (
          record {
            meets = f.meets;
            contains = f.contains;
            avoids =
                λ v e q. f.avoids v e (still_out v q);
          },
          false_from_ne_true (s u) (λ e. f.avoids u e u_out),
        ),
        λ p. record {
          meets = p.0.meets;
          contains = p.0.contains;
          avoids =
              λ v e q. both_ways (has out v)
              (not_out v (r.holds (mats g s) s p.0.meets (within_kept s p.0) p.1 v e)) q;
        },
      )

      pub fewer_without : free_count g m < free_count g n
      unfolding free_count
      fewer_without =
          fewer g.units (λ v. not (i v || has out v)) (λ v. not (i v || has n.outside v)) u lt
          (λ v h.
          let p = or_parts (i v) (has out v) (not-true (i v || has out v) h) in
          ap not
          (neither (i v) (has n.outside v) p.0
          (false_from_ne_true (has n.outside v)
          (λ q. both_ways (has out v) p.1 (still_out v q)))))
          (ap not free)
          (ap not (or_right (i u) (has out u) u_out))
        where
          neither : (a b : Bool) → a ≡ false → b ≡ false → (a || b) ≡ false
          neither a b p q = ap₂ (λ (c d : Bool). c || d) p q

-- ---- turns

-- a turn is at the node of the position before it
pub tight_here : (g : Shape) (t n : Node) → t ≡ n → IsTight g n → IsTight g t
tight_here g t n same is = subst (λ k. IsTight g k) (sym same) is

module _ (g : Shape) (proper : IsProper g) (t : Turn) (turn : IsTurn g t)
    (is : IsTight g t.position.decided.node) where
  abbrev node : Node
  node = t.position.decided.node

  pub side_in : (p : Position) → IsPosition g p → p.decided.node ≡ with_unit t.unit node
      → free_count g p.decided.node < free_count g node → IsSide g t true p
  side_in p position node_is few = record {
    position = position;
    tight =
        subst (λ k. IsTight g k) (sym node_is)
        (tight_with g proper node is t.unit turn.known turn.free
        (path_of g proper node is t.unit turn.known turn.free turn.position.pairs
        turn.position.from_pairs t.position.at turn.position.next turn.makes));
    same =
        λ s. subst (λ k. IsWithinNode g k s ↔ (IsWithinNode g node s × (s t.unit ≡ true)))
        (sym node_is) (
          λ f. (wider_in g node t.unit s f, taken_in g node t.unit s f),
          λ p. narrow_in g node t.unit s p.0 p.1,
        );
    fewer = few;
  }

  module _ (kept rest gone out : List ℕ) (kept_is : has kept ≡ kept_units g node)
      (r : IsRest g (is_needed g (has node.inside)) (has kept) t.unit (has rest))
      (gone_is : gone ≡ minus kept rest) (out_is : out ≡ union node.outside gone) where
    r_at : IsRest g (is_needed g (has node.inside)) (kept_units g node) t.unit (has rest)
    r_at = subst (λ k. IsRest g (is_needed g (has node.inside)) k t.unit (has rest)) kept_is r

    out_has : (v : ℕ)
        → has out v ≡ (has node.outside v || (kept_units g node v && not (has rest v)))
    out_has v =
        ap (λ xs. has xs v) out_is
        ∙ (has-union node.outside gone v
        ∙ ap (λ b. has node.outside v || b)
        (ap (λ xs. has xs v) gone_is
        ∙ (has-minus kept rest v ∙ ap (λ k. k v && not (has rest v)) kept_is)))

    pub side_out : IsSide g t false
        (position_of (record { inside = node.inside; outside = out }) t.position.decided.done
        t.position.wanted t.position.at)
    side_out =
        let same =
        same_without g proper node is t.unit turn.known turn.free (has rest) r_at out out_has in
        record {
          position = record {
            pairs = turn.position.pairs;
            walk = turn.position.walk;
            chosen = λ s f. turn.position.chosen s ((same s).0 f).0;
            done_is = turn.position.done_is;
            wanted_is = turn.position.wanted_is;
            next = turn.position.next;
            from_pairs = turn.position.from_pairs;
            in_pairs = turn.position.in_pairs;
            known = turn.position.known;
          };
          tight =
              tight_without g proper node is t.unit turn.known turn.free (has rest) r_at out
              out_has;
          same = same;
          fewer =
              fewer_without g proper node is t.unit turn.known turn.free (has rest) r_at out
              out_has;
        }

-- the kept units, from masks
pub kept_is_at : (g : Shape) (n : Node) (kept all : List ℕ) (count : ℕ)
    → kept ≡ minus all n.outside
    → ((u : ℕ) → has all u ≡ nat_lt u count) → count ≡ g.units → has kept ≡ kept_units g n
kept_is_at g n kept all count qk qa qn = same_set (has kept) (kept_units g n) (λ u.
    ap (λ xs. has xs u) qk
    ∙ (has-minus all n.outside u
    ∙ ap (λ b. b && not (has n.outside u)) (qa u ∙ ap (nat_lt u) qn)))

-- what is wanted at a position is what is needed
pub wanted_needed : (g : Shape) (p : Position) → IsPosition g p
    → has p.wanted ≡ is_needed g (has p.decided.node.inside)
wanted_needed g p is =
    same_set (has p.wanted) (is_needed g (has p.decided.node.inside)) is.wanted_is

module _ (g : Shape) (proper : IsProper g) (t : Turn) (turn : IsTurn g t)
    (is : IsTight g t.position.decided.node) (kept : List ℕ)
    (kept_is : has kept ≡ kept_units g t.position.decided.node) where
  pub kept_below : (v : ℕ) → has kept v ≡ true → v < g.units
  kept_below v e =
      kept_known g proper t.position.decided.node is v (sym (ap (λ k. k v) kept_is) ∙ e)

  pub unit_kept : has kept t.unit ≡ true
  unit_kept = ap (λ k. k t.unit) kept_is
      ∙ kept_from g proper t.position.decided.node is t.unit turn.known
      (or_parts (has t.position.decided.node.inside t.unit)
      (has t.position.decided.node.outside t.unit) turn.free).1

  pub forced_at : HasNoRest g (has t.position.wanted) (has kept) t.unit → IsForced g t
  forced_at h =
      forced g proper t.position.decided.node is t.unit
      (subst (λ k. HasNoRest g (is_needed g (has t.position.decided.node.inside)) k t.unit)
      kept_is
      (subst (λ w. HasNoRest g w (has kept) t.unit) (wanted_needed g t.position turn.position) h))
