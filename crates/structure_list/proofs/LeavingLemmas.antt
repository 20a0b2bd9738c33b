-- A unit goes from a set in which S2 is broken nowhere and all that is wanted is made. Then the
-- units that starve go.
use Rattle.std.proofs.Common.{◌≡◌, ◌≢◌, ℕ, ◌<◌, ◌==◌, Bool, true, false, not, ◌&&◌, List, [], refl}
use Rattle.std.proofs.Common.{sym, ap, ◌∙◌, subst, inl, inr, eq-eqb, ne_eqb}
use Rattle.std.proofs.lemmas.Bool.{and_parts, and_from, both_ways, cases_eq, cases_Bool, or_cases}
use Rattle.std.proofs.lemmas.Bool.{true_from_ne_false, false_from_ne_true, not-true}
use Rattle.pgraph.specs.number_sets.Sets.{has, kept, union, meet, minus, IsWithin, Avoids}
use Rattle.pgraph.proofs.number_sets.Cited.{has-kept, has-meet}
use Rattle.pgraph.specs.pns_rules.Shape.{Shape, IsProper}
use Rattle.pgraph.specs.pns_rules.Structure.{is_made, Meets}
use Rattle.pgraph.specs.pns_rules.Ends.{IsNever}
use Rattle.pgraph.proofs.pns_rules.Cited.{is_made-from, is_made-some, is_made-within, is_used-some}
use Rattle.pgraph.proofs.pns_rules.Cited.{is_used-within}
use Rattle.pgraph.specs.pns_rules.Breaks.{BreaksS2}
use Rattle.structure_list.specs.MaxRest.{IsKept, UsesWanted, IsRest, HasNoRest, IsStarved}
use Rattle.structure_list.proofs.BalanceLemmas.{broken_raw, broken_other, broken_used}
use Rattle.structure_list.proofs.BalanceLemmas.{broken_if_raw}
use Rattle.structure_list.proofs.BalanceLemmas.{broken_if_unmade, makes_what_it_uses, next_has}
use Rattle.structure_list.proofs.BalanceLemmas.{next_within, next_keeps, same_makers, more_covers}
use Rattle.structure_list.proofs.BalanceLemmas.{more_has, more_lost}

-- what holds on the way: `waiting` has each material that can have lost its last maker
pub record IsLeaving (g : Shape) (wanted held : ℕ → Bool) (u : ℕ) (left waiting : ℕ → Bool) : Type
    0 where
  pub within : IsWithin left held
  pub without : left u ≡ false
  pub holds : (m o : ℕ → Bool) → Meets g m o → IsWithin o held → o u ≡ false → IsWithin o left
  pub stays : (v : ℕ) → held v ≡ true → u ≢ v → UsesWanted g wanted v → left v ≡ true
  pub covers : (y : ℕ) → BreaksS2 g left y → waiting y ≡ true
  pub lost : (y : ℕ) → wanted y ≡ true → is_made g left y ≡ false → waiting y ≡ true
  pub known : (y : ℕ) → waiting y ≡ true → (y < g.materials) × (g.raw y ≡ false)

-- a balanced set makes no raw material
pub makes_none_raw : (g : Shape) (held : ℕ → Bool) → IsNever (BreaksS2 g held) → (y : ℕ)
    → is_made g held y ≡ true → g.raw y ≡ false
makes_none_raw g held never y made =
    false_from_ne_true (g.raw y) (λ raw. never y ((broken_if_raw g held y raw).0 made))

-- ---- the start

module _ (g : Shape) (proper : IsProper g) (wanted held : ℕ → Bool) (all start outputs : List ℕ)
    (u : ℕ) (all_is : has all ≡ held) (start_is : start ≡ kept (λ v. not (u == v)) all)
    (outputs_are : has outputs ≡ g.makes u) (lt : u < g.units) (there : held u ≡ true)
    (is : IsKept g wanted held) where
  start_has : (v : ℕ) → has start v ≡ (held v && not (u == v))
  start_has v = ap (λ xs. has xs v) start_is
      ∙ (has-kept (λ w. not (u == w)) all v ∙ ap (λ t. t v && not (u == v)) all_is)

  start_within : IsWithin (has start) held
  start_within v e = (and_parts (held v) (not (u == v)) (sym (start_has v) ∙ e)).0

  start_keeps : (v : ℕ) → held v ≡ true → u ≢ v → has start v ≡ true
  start_keeps v e ne = start_has v ∙ and_from (held v) (not (u == v)) e (ap not (ne_eqb u v ne))

  -- what has lost its last maker is an output of the unit
  start_lost : (y : ℕ) → is_made g held y ≡ true → is_made g (has start) y ≡ false
      → has outputs y ≡ true
  start_lost y made unmade =
      let k = is_made-some g held y made in
      elim (cases_eq u k.0) [
        | inl same ↦ ap (λ t. t y) outputs_are ∙ subst (λ v. g.makes v y ≡ true) (sym same) k.3
        | inr other
            ↦ absurd
            (both_ways (is_made g (has start) y) unmade
            (is_made-from g (has start) k.0 y k.1 (start_keeps k.0 k.2 other) k.3))
      ]

  start_covers : (y : ℕ) → BreaksS2 g (has start) y → has outputs y ≡ true
  start_covers y b = elim (cases_Bool (g.raw y)) [
    | inl raw
        ↦ absurd
        (is.balanced y
        ((broken_if_raw g held y raw).0
        (is_made-within g (has start) held start_within y (broken_raw g (has start) y b raw))))
    | inr other ↦ start_lost y
        (true_from_ne_false (is_made g held y)
        (λ unmade. is.balanced y
        ((broken_if_unmade g held y other unmade).0
        (is_used-within g (has start) held start_within y
        (broken_used g (has start) y b other)))))
        (broken_other g (has start) y b other)
  ]

  start_known : (y : ℕ) → has outputs y ≡ true → (y < g.materials) × (g.raw y ≡ false)
  start_known y e =
      let makes = sym (ap (λ t. t y) outputs_are) ∙ e in (
        proper.output_known u y makes,
        makes_none_raw g held is.balanced y (is_made-from g held u y lt there makes),
      )

  pub starts_leaving : IsLeaving g wanted held u (has start) (has outputs)
  starts_leaving = record {
    within = start_within;
    without =
        false_from_ne_true (has start u)
        (λ e. both_ways (u == u)
        (not-true (u == u) (and_parts (held u) (not (u == u)) (sym (start_has u) ∙ e)).1)
        (eq-eqb u u refl));
    holds =
        λ m o h w out v e. start_keeps v (w v e)
        (λ q. both_ways (o v) (subst (λ k. o k ≡ false) q out) e);
    stays = λ v e ne uses. start_keeps v e ne;
    covers = start_covers;
    lost = λ y want unmade. start_lost y (is.makes y want) unmade;
    known = start_known;
  }

-- ---- a turn

module _ (g : Shape) (proper : IsProper g) (wanted held : ℕ → Bool)
    (left gone next waiting made more : List ℕ) (u x : ℕ)
    (next_is : next ≡ minus left gone) (made_is : has made ≡ is_made g (has gone))
    (more_is : more ≡ union (kept (λ v. not (x == v)) waiting) made)
    (here : has waiting x ≡ true) (never : IsNever (BreaksS2 g held))
    (s : IsStarved g wanted (has left) x (has gone))
    (is : IsLeaving g wanted held u (has left) (has waiting)) where
  raw_not : g.raw x ≡ false
  raw_not = (is.known x here).1

  none_made : is_made g (has left) x ≡ true → is_made g (has gone) x ≡ false
  none_made e = false_from_ne_true (is_made g (has gone) x) (λ f.
      let k = is_made-some g (has gone) x f in
      both_ways (is_made g (has left) x) (s.use_it k.0 k.2).1 e)

  settled_at : BreaksS2 g (has next) x → ⊥
  settled_at b = elim (cases_Bool (is_made g (has left) x)) [
    | inl e ↦ both_ways (is_made g (has next) x) (broken_other g (has next) x b raw_not)
        (sym
        (same_makers g left gone next waiting made more x next_is s.within made_is more_is x
        (none_made e)) ∙ e)
    | inr unmade ↦
        let k = is_used-some g (has next) x (broken_used g (has next) x b raw_not) in
        let p =
        and_parts (has left k.0) (not (has gone k.0))
        (sym
        (next_has g left gone next waiting made more x next_is s.within made_is more_is k.0)
        ∙ k.2) in
        both_ways (has gone k.0) (not-true (has gone k.0) p.1) (s.all unmade k.0 p.0 k.3)
  ]

  avoids : (m o : ℕ → Bool) → Meets g m o → IsWithin o (has left) → Avoids o (has gone)
  avoids m o h w v e f =
      let p = s.use_it v f in
      both_ways (is_made g (has left) x) p.1
      (is_made-within g o (has left) w x (makes_what_it_uses g m o h v x e p.0 raw_not))

  unmade_known : (y : ℕ) → is_made g (has gone) y ≡ true → (y < g.materials) × (g.raw y ≡ false)
  unmade_known y e =
      let k = is_made-some g (has gone) y e in (
        proper.output_known k.0 y k.3,
        makes_none_raw g held never y
            (is_made-from g held k.0 y k.1 (is.within k.0 (s.within k.0 k.2)) k.3),
      )

  pub goes_on_leaving : IsLeaving g wanted held u (has next) (has more)
  goes_on_leaving = record {
    within =
        λ v e. is.within v
        (next_within g left gone next waiting made more x next_is s.within made_is more_is v e);
    without =
        false_from_ne_true (has next u)
        (λ e. both_ways (has left u) is.without
        (next_within g left gone next waiting made more x next_is s.within made_is more_is u e));
    holds = λ m o h w out.
        let so_far = is.holds m o h w out in
        next_keeps g left gone next waiting made more x next_is s.within made_is more_is o so_far
        (avoids m o h so_far);
    stays = λ v e ne uses.
        next_has g left gone next waiting made more x next_is s.within made_is more_is v
        ∙ and_from (has left v) (not (has gone v)) (is.stays v e ne uses)
        (ap not (false_from_ne_true (has gone v) (λ f.
        let p = s.use_it v f in
        both_ways (is_made g (has left) x) p.1 (s.makes (uses x p.0 raw_not)))));
    covers =
        more_covers g left gone next waiting made more x next_is s.within made_is more_is is.covers
        settled_at;
    lost =
        λ y want unmade. more_lost g left gone next waiting made more x next_is s.within made_is
        more_is y (is.lost y want) (λ q. s.makes (subst (λ z. wanted z ≡ true) (sym q) want))
        unmade;
    known =
        λ y e. elim
        (or_cases (has waiting y && not (x == y)) (is_made g (has gone) y)
        (sym (more_has g left gone next waiting made more x next_is s.within made_is more_is y)
        ∙ e)) [
          | inl p ↦ is.known y (and_parts (has waiting y) (not (x == y)) p).0
          | inr q ↦ unmade_known y q
        ];
  }

-- ---- what starves

pub starved_is : (g : Shape) (wanted : ℕ → Bool) (left users gone : List ℕ) (x : ℕ)
    → has users ≡ (λ v. g.uses v x) → gone ≡ meet left users → is_made g (has left) x ≡ false
    → wanted x ≡ false → IsStarved g wanted (has left) x (has gone)
starved_is g wanted left users gone x users_are gone_is unmade other =
    let at : (v : ℕ) → has gone v ≡ (has left v && g.uses v x) =
    λ v. ap (λ xs. has xs v) gone_is
    ∙ (has-meet left users v ∙ ap (λ t. has left v && t v) users_are) in
    record {
      within = λ v e. (and_parts (has left v) (g.uses v x) (sym (at v) ∙ e)).0;
      use_it = λ v e. ((and_parts (has left v) (g.uses v x) (sym (at v) ∙ e)).1, unmade);
      all = λ q v e uses. at v ∙ and_from (has left v) (g.uses v x) e uses;
      makes = λ want. absurd (both_ways (wanted x) other want);
    }

-- ---- the end

-- no material waits
pub is_rest : (g : Shape) (wanted held : ℕ → Bool) (u : ℕ) (left waiting : List ℕ) → waiting ≡ []
    → IsLeaving g wanted held u (has left) (has waiting) → IsRest g wanted held u (has left)
is_rest g wanted held u left waiting none is = record {
  within = is.within;
  without = is.without;
  kept = record {
    balanced = λ y b. both_ways (has waiting y) (ap (λ xs. has xs y) none) (is.covers y b);
    makes =
        λ y want. true_from_ne_false (is_made g (has left) y)
        (λ unmade. both_ways (has waiting y) (ap (λ xs. has xs y) none) (is.lost y want unmade));
  };
  holds = is.holds;
  stays = is.stays;
}

-- what is wanted and has no maker in a set that holds each structure in question leaves none
pub no_rest : (g : Shape) (wanted held left waiting : ℕ → Bool) (u x : ℕ)
    → IsLeaving g wanted held u left waiting → wanted x ≡ true → is_made g left x ≡ false
    → HasNoRest g wanted held u
no_rest g wanted held left waiting u x is want unmade m o h w out all =
    both_ways (is_made g left x) unmade
    (is_made-within g o left (is.holds m o h w out) x (all x want))
