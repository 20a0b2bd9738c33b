-- Positions, and what a turn there decides.
use Rattle.std.proofs.Common.{◌≡◌, ℕ, ◌<◌, ◌==◌, nat_lt, Bool, true, false, not, ◌&&◌, ◌||◌, List}
use Rattle.std.proofs.Common.{[], ◌∷◌, refl, sym, ap, ap₂, ◌∙◌, subst, inl, inr, arith, lt-ltb}
use Rattle.std.proofs.Common.{ltb-true, Option, Some, None}
use Rattle.std.proofs.lemmas.Bool.{both_ways, or_cases, or_left, or_right, and_parts, and_from}
use Rattle.std.proofs.lemmas.Bool.{false_from_ne_true, not-true}
use Rattle.pgraph.specs.number_sets.Sets.{has, first, listed, with_number, union, minus, IsRising}
use Rattle.pgraph.proofs.number_sets.Cited.{has-with_number, has-union, has-minus, has-listed}
use Rattle.pgraph.proofs.number_sets.Cited.{listed-same}
use Rattle.pgraph.proofs.number_sets.Cited.{same_tests}
use Rattle.pgraph.specs.pns_rules.Shape.{Shape, IsProper}
use Rattle.pgraph.specs.pns_rules.Structure.{is_used, is_needed, makers}
use Rattle.pgraph.specs.pns_rules.Trace.{Pair, is_done, units_of, least_below, next_material}
use Rattle.pgraph.proofs.pns_rules.Cited.{is_used-from, is_used-some, is_units, next_at, same_set}
use Rattle.pgraph.proofs.pns_rules.Cited.{before_at}
use Rattle.pgraph.specs.unit_sets.declared.node.Node.{Node}
use Rattle.structure_list.specs.Due.{is_due}
use Rattle.structure_list.specs.declared.position.Position.{Position}
use Rattle.structure_list.specs.declared.turn.Turn.{Turn}
use Rattle.structure_list.specs.Position.{IsWithinNode, with_unit, without_unit, makes_it}
use Rattle.structure_list.specs.Position.{IsPosition}
use Rattle.structure_list.specs.Position.{IsTurn, IsSettled, IsGreatest, undone_count}
use Rattle.structure_list.proofs.NodeLemmas.{has_added, has_more, has_either, wider_in, wider_out}
use Rattle.structure_list.proofs.NodeLemmas.{fewer}
use Rattle.structure_list.proofs.GreatestLemmas.{first-least}

abbrev pub position_of : Node → List ℕ → List ℕ → Option ℕ → Position
position_of n done wanted at =
    record { decided = record { node = n; done = done }; wanted = wanted; at = at }

-- ---- what is needed

pub needed_known : (g : Shape) → IsProper g → (o : ℕ → Bool) (x : ℕ) → is_needed g o x ≡ true
    → x < g.materials
needed_known g proper o x e = elim (or_cases (g.product x) (not (g.raw x) && is_used g o x) e) [
  | inl p ↦ proper.product_known x p
  | inr p ↦ let some = is_used-some g o x (and_parts (not (g.raw x)) (is_used g o x) p).1 in
      proper.input_known some.0 x some.3
]

pub due_known : (g : Shape) → IsProper g → (o done : ℕ → Bool) (x : ℕ) → is_due g o done x ≡ true
    → x < g.materials
due_known g proper o done x e =
    needed_known g proper o x (and_parts (is_needed g o x) (not (done x)) e).0

-- the least of the materials that are needed and not done
pub first_due : (g : Shape) → IsProper g → (inside done wanted due : List ℕ)
    → ((x : ℕ) → has wanted x ≡ is_needed g (has inside) x) → due ≡ minus wanted done → IsRising due
    → first due ≡ least_below g.materials (is_due g (has inside) (has done))
first_due g proper inside done wanted due wanted_is is rising =
    first-least g.materials due (is_due g (has inside) (has done)) rising
    (due_known g proper (has inside) (has done))
    (λ x. ap (λ xs. has xs x) is
    ∙ (has-minus wanted done x ∙ ap (λ b. b && not (has done x)) (wanted_is x)))

used_more : (g : Shape) (u : ℕ) (inside : List ℕ) (x : ℕ) → u < g.units
    → is_used g (has (with_number u inside)) x ≡ (is_used g (has inside) x || g.uses u x)
used_more g u inside x lt =
    same_tests (is_used g (has (with_number u inside)) x) (is_used g (has inside) x || g.uses u x)
    (λ e.
    let some = is_used-some g (has (with_number u inside)) x e in
    elim (has_either u inside some.0 some.2) [
      | inl same
          ↦ or_right (is_used g (has inside) x) (g.uses u x)
          (subst (λ v. g.uses v x ≡ true) (sym same) some.3)
      | inr there
          ↦ or_left (is_used g (has inside) x) (g.uses u x)
          (is_used-from g (has inside) some.0 x some.1 there some.3)
    ])
    (λ e. elim (or_cases (is_used g (has inside) x) (g.uses u x) e) [
      | inl used ↦ let some = is_used-some g (has inside) x used in
          is_used-from g (has (with_number u inside)) some.0 x some.1
          (has_more u inside some.0 some.2) some.3
      | inr uses ↦ is_used-from g (has (with_number u inside)) u x lt (has_added u inside) uses
    ])

-- what is needed with one unit more
pub needed_more : (g : Shape) (u : ℕ) (inside wanted inputs raws extra more : List ℕ) → u < g.units
    → ((x : ℕ) → has wanted x ≡ is_needed g (has inside) x) → has inputs ≡ g.uses u
    → has raws ≡ g.raw → extra ≡ minus inputs raws → more ≡ union wanted extra → (x : ℕ)
    → has more x ≡ is_needed g (has (with_number u inside)) x
needed_more g u inside wanted inputs raws extra more lt wanted_is inputs_are raws_are extra_is
    more_is x =
    ap (λ xs. has xs x) more_is
    ∙ (has-union wanted extra x
    ∙ (ap₂ (λ (a b : Bool). a || b) (wanted_is x)
    (ap (λ xs. has xs x) extra_is
    ∙ (has-minus inputs raws x
    ∙ ap₂ (λ (a b : Bool). a && not b) (ap (λ t. t x) inputs_are) (ap (λ t. t x) raws_are)))
    ∙ (join (g.product x) (g.raw x) (is_used g (has inside) x) (g.uses u x)
    ∙ ap (λ b. g.product x || (not (g.raw x) && b)) (sym (used_more g u inside x lt)))))
  where
    join : (p r a b : Bool) → ((p || (not r && a)) || (b && not r)) ≡ (p || (not r && (a || b)))
    join true r a b = refl
    join false true a true = refl
    join false true a false = refl
    join false false true b = refl
    join false false false true = refl
    join false false false false = refl

-- ---- positions

pub position_start : (g : Shape) (outside wanted : List ℕ) (at : Option ℕ)
    → ((x : ℕ) → has wanted x ≡ is_needed g (has []) x)
    → at ≡ least_below g.materials (is_due g (has []) (has []))
    → IsPosition g (position_of (record { inside = []; outside = outside }) [] wanted at)
position_start g outside wanted at wanted_is is = record {
  pairs = [];
  walk = tt;
  chosen = λ s f. tt;
  done_is = λ x. refl;
  wanted_is = wanted_is;
  next = sym is;
  from_pairs = λ u h. h;
  in_pairs = λ u h. absurd (both_ways false refl h);
  known = λ u h. absurd (both_ways false refl h);
}

module _ (g : Shape) (t : Turn) (is : IsTurn g t) where
  abbrev n : Node
  n = t.position.decided.node

  pub position_in : (wanted : List ℕ)
      → ((x : ℕ) → has wanted x ≡ is_needed g (has (with_number t.unit n.inside)) x)
      → IsPosition g (position_of (with_unit t.unit n) t.position.decided.done wanted t.position.at)
  position_in wanted wanted_is = record {
    pairs = is.position.pairs;
    walk = is.position.walk;
    chosen = λ s f. is.position.chosen s (wider_in g n t.unit s f);
    done_is = is.position.done_is;
    wanted_is = wanted_is;
    next = is.position.next;
    from_pairs = λ v h. has_more t.unit n.inside v (is.position.from_pairs v h);
    in_pairs = λ v h. elim (has_either t.unit n.inside v h) [
      | inl same
          ↦ subst (λ k. (units_of is.position.pairs k || makes_it g t.position.at k) ≡ true) same
          (or_right (units_of is.position.pairs t.unit) (makes_it g t.position.at t.unit) is.makes)
      | inr there ↦ is.position.in_pairs v there
    ];
    known =
        λ v h. elim (has_either t.unit n.inside v h) [
          | inl same ↦ subst (λ k. k < g.units) same is.known
          | inr there
              ↦ is.position.known v there
        ];
  }

  pub position_out : IsPosition g
      (position_of (without_unit t.unit n) t.position.decided.done t.position.wanted t.position.at)
  position_out = record {
    pairs = is.position.pairs;
    walk = is.position.walk;
    chosen = λ s f. is.position.chosen s (wider_out g n t.unit s f);
    done_is = is.position.done_is;
    wanted_is = is.position.wanted_is;
    next = is.position.next;
    from_pairs = is.position.from_pairs;
    in_pairs = is.position.in_pairs;
    known = is.position.known;
  }

-- ---- a pass over a material at a position

module _ (g : Shape) (proper : IsProper g) (p : Position) (is : IsPosition g p) (x : ℕ)
    (at_is : p.at ≡ Some x) where
  abbrev i : ℕ → Bool
  i = has p.decided.node.inside

  abbrev e : ℕ → Bool
  e = has p.decided.node.outside

  next_is : next_material g is.pairs ≡ Some x
  next_is = is.next ∙ at_is

  pub known_below : x < g.materials
  known_below = (next_at g (λ u. false) is.pairs x next_is).0

  not_done : has p.decided.done x ≡ false
  not_done = is.done_is x ∙ (next_at g (λ u. false) is.pairs x next_is).1

  pub fewer_undone : (at : Option ℕ)
      → undone_count g (position_of p.decided.node (with_number x p.decided.done) p.wanted at)
      < undone_count g p
  unfolding undone_count
  fewer_undone at =
      fewer g.materials (λ y. not (has (with_number x p.decided.done) y))
      (λ y. not (has p.decided.done y)) x known_below
      (λ y h. flip (has p.decided.done y) (has (with_number x p.decided.done) y)
      (has_more x p.decided.done y) h)
      (ap not not_done) (ap not (has_added x p.decided.done))
    where
      flip : (a b : Bool) → (a ≡ true → b ≡ true) → not b ≡ true → not a ≡ true
      flip true b f h = absurd (both_ways b (not-true b h) (f refl))
      flip false b f h = refl

  module _ (free : List ℕ)
      (free_is : free ≡ listed g.units (λ u. (not (i u) && not (e u)) && g.makes u x)) where
    free_has : (u : ℕ)
        → has free u ≡ (nat_lt u g.units && ((not (i u) && not (e u)) && g.makes u x))
    free_has u = ap (λ xs. has xs u) free_is
        ∙ has-listed g.units (λ u. (not (i u) && not (e u)) && g.makes u x) u

    -- a maker that is not free is decided
    decided : (u : ℕ) → u < g.units → has free u ≡ false → g.makes u x ≡ true → (i u || e u) ≡ true
    decided u lt h m = either (i u) (e u) (λ q.
        both_ways (has free u) h
        (free_has u
        ∙ and_from (nat_lt u g.units) ((not (i u) && not (e u)) && g.makes u x)
        (lt-ltb u g.units lt) (and_from (not (i u) && not (e u)) (g.makes u x) q m)))
      where
        either : (a b : Bool) → ((not a && not b) ≡ true → ⊥) → (a || b) ≡ true
        either true b f = refl
        either false true f = refl
        either false false f = absurd (f refl)

    pub turn_found : (u : ℕ) → g.units < 129 → IsGreatest (has free) u
        → IsTurn g (record { position = p; unit = u })
    turn_found u few top =
        let q =
        and_parts (nat_lt u g.units) ((not (i u) && not (e u)) && g.makes u x)
        (sym (free_has u) ∙ top.there) in
        let r = and_parts (not (i u) && not (e u)) (g.makes u x) q.1 in
        let above : (v : ℕ) → u < v → v < g.units → g.makes v x ≡ true → (i v || e v) ≡ true =
        λ v k l m. decided v l (top.above v k (omega arith)) m in
        record {
          position = is;
          known = ltb-true u g.units q.0;
          makes = subst (λ o. makes_it g o u ≡ true) (sym at_is) r.1;
          free = neither (i u) (e u) r.0;
          apart =
              λ s o f h a b. before_at g s o is.pairs x u is.walk (is.chosen s f) (is.chosen o h)
              next_is (ltb-true u g.units q.0) r.1 a b (λ v k l m.
              elim (or_cases (i v) (e v) (above v k l m)) [
                | inl w ↦ f.contains v w ∙ sym (h.contains v w)
                | inr w ↦ false_from_ne_true (s v) (λ y. f.avoids v y w)
                    ∙ sym (false_from_ne_true (o v) (λ y. h.avoids v y w))
              ]);
        }
      where
        neither : (a b : Bool) → (not a && not b) ≡ true → (a || b) ≡ false
        neither true b h = absurd (both_ways false refl h)
        neither false true h = absurd (both_ways false refl h)
        neither false false h = refl

    -- all makers of the material are decided, and the next material comes
    module _ (none : free ≡ []) (at : Option ℕ)
        (is_next : at ≡ least_below g.materials
        (is_due g i (has (with_number x p.decided.done)))) where
      all : (u : ℕ) → u < g.units → g.makes u x ≡ true → (i u || e u) ≡ true
      all u lt m = decided u lt (ap (λ xs. has xs u) none) m

      pair : Pair
      pair = record { material = x; chosen = listed g.units (makers g i x) }

      now_done : (y : ℕ) → has (with_number x p.decided.done) y ≡ ((x == y) || is_done is.pairs y)
      now_done y = has-with_number x p.decided.done y ∙ ap (λ b. (x == y) || b) (is.done_is y)

      agree : (s : ℕ → Bool) → IsWithinNode g p.decided.node s → (u : ℕ) → u < g.units → (b : Bool)
          → g.makes u x ≡ b → (i u && g.makes u x) ≡ (s u && g.makes u x)
      agree s f u h true q =
          ap (λ b. b && g.makes u x)
          (same_tests (i u) (s u) (f.contains u) (λ k. elim (or_cases (i u) (e u) (all u h q)) [
            | inl there ↦ there
            | inr out ↦ absurd (f.avoids u k out)
          ]))
      agree s f u h false q = rw q (neither (i u) (s u))
        where
          neither : (c d : Bool) → (c && false) ≡ (d && false)
          neither true true = refl
          neither true false = refl
          neither false true = refl
          neither false false = refl

      chosen_is : (u : ℕ) → has (listed g.units (makers g i x)) u
          ≡ (nat_lt u g.units && (i u && g.makes u x))
      chosen_is u = has-listed g.units (makers g i x) u

      in_pairs_at : (u : ℕ) → i u ≡ true → (units_of is.pairs u || g.makes u x) ≡ true
      in_pairs_at u h =
          subst (λ o. (units_of is.pairs u || makes_it g o u) ≡ true) at_is (is.in_pairs u h)

      inside_is : (u : ℕ) → i u ≡ (has (listed g.units (makers g i x)) u || units_of is.pairs u)
      inside_is u = same_tests (i u) (has (listed g.units (makers g i x)) u || units_of is.pairs u)
          (λ h. elim (or_cases (units_of is.pairs u) (g.makes u x) (in_pairs_at u h)) [
            | inl q ↦ or_right (has (listed g.units (makers g i x)) u) (units_of is.pairs u) q
            | inr q ↦ or_left (has (listed g.units (makers g i x)) u) (units_of is.pairs u)
                (chosen_is u
                ∙ and_from (nat_lt u g.units) (i u && g.makes u x)
                (lt-ltb u g.units (is.known u h)) (and_from (i u) (g.makes u x) h q))
          ])
          (λ h. elim (or_cases (has (listed g.units (makers g i x)) u) (units_of is.pairs u) h) [
            | inl q
                ↦ (and_parts (i u) (g.makes u x)
                (and_parts (nat_lt u g.units) (i u && g.makes u x) (sym (chosen_is u) ∙ q)).1).0
            | inr q ↦ is.from_pairs u q
          ])

      pub position_passed : IsPosition g
          (position_of p.decided.node (with_number x p.decided.done) p.wanted at)
      unfolding pair
      position_passed = record {
        pairs = pair ∷ is.pairs;
        walk = (next_is, is.walk);
        chosen =
            λ s f. (
              listed-same g.units (makers g i x) (makers g s x)
                  (λ u h. agree s f u h (g.makes u x) refl),
              is.chosen s f,
            );
        done_is = now_done;
        wanted_is = is.wanted_is;
        next =
            ap₂ (λ (k : ℕ → Bool) (d : ℕ → Bool). least_below g.materials (is_due g k d))
            (same_set (units_of (pair ∷ is.pairs)) i (λ u. sym (inside_is u)))
            (same_set (is_done (pair ∷ is.pairs)) (has (with_number x p.decided.done))
            (λ y. sym (now_done y))) ∙ sym is_next;
        from_pairs = λ u h. inside_is u ∙ h;
        in_pairs =
            λ u h. or_left (units_of (pair ∷ is.pairs) u) (makes_it g at u) (sym (inside_is u) ∙ h);
        known = is.known;
      }

-- if no material is next, no unit is left to be decided
pub settled_at : (g : Shape) → IsProper g → (p : Position) → IsPosition g p → p.at ≡ None
    → IsSettled g p.decided.node
settled_at g proper p is at_is s f u =
    is_units g s proper f.meets is.pairs (is.chosen s f) (is.next ∙ at_is) u
    ∙ same_tests (units_of is.pairs u) (has p.decided.node.inside u) (is.from_pairs u)
    (λ h. elim
    (or_cases (units_of is.pairs u) false
    (subst (λ o. (units_of is.pairs u || makes_it g o u) ≡ true) at_is (is.in_pairs u h))) [
      | inl q ↦ q
      | inr q ↦ absurd (both_ways false refl q)
    ])
