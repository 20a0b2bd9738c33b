-- A turn of the balance: what goes, what stays, and at which materials the second axiom can still
-- be broken.
use Rattle.std.proofs.Common.{◌≡◌, ℕ, ◌+◌, ◌*◌, ◌<◌, ◌==◌, Bool, true, false, not, cond, ◌&&◌, ◌||◌}
use Rattle.std.proofs.Common.{List, [], ◌∷◌, length, refl, sym, ap, ◌∙◌, subst, inl, inr, ◌↔◌}
use Rattle.std.proofs.Common.{arith, eq-eqb, ne_eqb}
use Rattle.std.proofs.lemmas.Bool.{or_cases, or_left, or_right, and_parts, and_from, both_ways}
use Rattle.std.proofs.lemmas.Bool.{true_from_ne_false, false_from_ne_true, not-true}
use Rattle.pgraph.specs.number_sets.Sets.{has, kept, union, meet, minus, IsWithin, IsSet, Avoids}
use Rattle.pgraph.proofs.number_sets.Cited.{has-minus, has-meet, has-union, has-kept, length-less}
use Rattle.pgraph.proofs.number_sets.Cited.{length_below, same_sets, same_tests}
use Rattle.pgraph.specs.pns_rules.Shape.{Shape, IsProper}
use Rattle.pgraph.specs.pns_rules.Structure.{is_made, is_used, Meets}
use Rattle.pgraph.proofs.pns_rules.Cited.{is_made-from, is_made-some, is_made-within, is_used-from}
use Rattle.pgraph.proofs.pns_rules.Cited.{is_used-some, mats-within}
use Rattle.pgraph.specs.pns_rules.Breaks.{BreaksS2}
use Rattle.structure_list.specs.Balance.{is_to_blame}

module _ (g : Shape) where
  -- a structure makes no raw material, and makes what it uses of the others
  makes_no_raw : (m o : ℕ → Bool) → Meets g m o → (u x : ℕ) → o u ≡ true → g.makes u x ≡ true
      → g.raw x ≡ true → ⊥
  makes_no_raw m o h u x e p r =
      let made = is_made-from g o u x (h.s3 u e) e p in
      both_ways (is_made g o x)
      ((h.s2 x (h.graph x (or_right (is_used g o x) (is_made g o x) made))).1 r) made

  pub makes_what_it_uses : (m o : ℕ → Bool) → Meets g m o → (u x : ℕ) → o u ≡ true
      → g.uses u x ≡ true → g.raw x ≡ false → is_made g o x ≡ true
  makes_what_it_uses m o h u x e p r =
      let used = is_used-from g o u x (h.s3 u e) e p in
      true_from_ne_false (is_made g o x)
      (λ q. both_ways (g.raw x) r
      ((h.s2 x (h.graph x (or_left (is_used g o x) (is_made g o x) used))).0 q))

  -- if the second axiom is broken at a raw material it is made; at another it is used and not made
  pub broken_raw : (o : ℕ → Bool) (x : ℕ) → BreaksS2 g o x → g.raw x ≡ true → is_made g o x ≡ true
  broken_raw o x b r = true_from_ne_false (is_made g o x) (λ q. b.1 (λ e. r, λ e. q))

  pub broken_other : (o : ℕ → Bool) (x : ℕ) → BreaksS2 g o x → g.raw x ≡ false
      → is_made g o x ≡ false
  broken_other o x b r =
      false_from_ne_true (is_made g o x)
      (λ q. b.1 (
        λ e. absurd (both_ways (is_made g o x) e q),
        λ e. absurd (both_ways (g.raw x) r e),
      ))

  pub broken_used : (o : ℕ → Bool) (x : ℕ) → BreaksS2 g o x → g.raw x ≡ false → is_used g o x ≡ true
  broken_used o x b r = elim (or_cases (is_used g o x) (is_made g o x) b.0) [
    | inl used ↦ used
    | inr made ↦ absurd (both_ways (is_made g o x) (broken_other o x b r) made)
  ]

  -- the test of it
  pub broken_if_raw : (o : ℕ → Bool) (x : ℕ) → g.raw x ≡ true → (is_made g o x ≡ true)
      ↔ BreaksS2 g o x
  broken_if_raw o x r = (
    λ e. (or_right (is_used g o x) (is_made g o x) e, λ h. both_ways (is_made g o x) (h.1 r) e),
    λ b. broken_raw o x b r,
  )

  pub broken_if_unmade : (o : ℕ → Bool) (x : ℕ) → g.raw x ≡ false → is_made g o x ≡ false
      → (is_used g o x ≡ true) ↔ BreaksS2 g o x
  broken_if_unmade o x r unmade = (
    λ e. (or_left (is_used g o x) (is_made g o x) e, λ h. both_ways (g.raw x) r (h.0 unmade)),
    λ b. broken_used o x b r,
  )

  pub unbroken_if_made : (o : ℕ → Bool) (x : ℕ) → g.raw x ≡ false → is_made g o x ≡ true
      → BreaksS2 g o x → ⊥
  unbroken_if_made o x r made b = both_ways (is_made g o x) (broken_other o x b r) made

  pub broken_known : IsProper g → (o : ℕ → Bool) (x : ℕ) → BreaksS2 g o x → x < g.materials
  broken_known proper o x b = elim (or_cases (is_used g o x) (is_made g o x) b.0) [
    | inl used ↦ let k = is_used-some g o x used in proper.input_known k.0 x k.3
    | inr made ↦ let k = is_made-some g o x made in proper.output_known k.0 x k.3
  ]

  module _ (set : ℕ → Bool) (x : ℕ) (b : BreaksS2 g set x) where
    none_blamed : (raw : Bool) → g.raw x ≡ raw → (m o : ℕ → Bool) → Meets g m o → IsWithin o set
        → (u : ℕ) → o u ≡ true → cond raw (g.makes u x) (g.uses u x) ≡ true → ⊥
    none_blamed true r m o h w u e p = makes_no_raw m o h u x e p r
    none_blamed false r m o h w u e p =
        both_ways (is_made g set x) (broken_other set x b r)
        (is_made-within g o set w x (makes_what_it_uses m o h u x e p r))

    pub keeps_structures : (m o : ℕ → Bool) → Meets g m o → IsWithin o set → (u : ℕ) → o u ≡ true
        → is_to_blame g x u ≡ true → ⊥
    keeps_structures m o h w u e p = none_blamed (g.raw x) refl m o h w u e p

    -- without those to blame the axiom holds at x
    module _ (rest : ℕ → Bool) (within : IsWithin rest set)
        (none : (u : ℕ) → rest u ≡ true → is_to_blame g x u ≡ true → ⊥) where
      settled_at : (raw : Bool) → g.raw x ≡ raw
          → ((u : ℕ) → rest u ≡ true → cond raw (g.makes u x) (g.uses u x) ≡ true → ⊥)
          → BreaksS2 g rest x → ⊥
      settled_at true r none_at c = let k =
          is_made-some g rest x (broken_raw rest x c r) in none_at k.0 k.2 k.3
      settled_at false r none_at c = let k =
          is_used-some g rest x (broken_used rest x c r) in none_at k.0 k.2 k.3

      pub settled : BreaksS2 g rest x → ⊥
      settled c = settled_at (g.raw x) refl none c

module _ (g : Shape) (set blamed gone : List ℕ) (x : ℕ) (b : BreaksS2 g (has set) x)
    (blamed_is : has blamed ≡ is_to_blame g x) (gone_is : gone ≡ meet set blamed) where
  gone_has : (u : ℕ) → has gone u ≡ (has set u && has blamed u)
  gone_has u = ap (λ xs. has xs u) gone_is ∙ has-meet set blamed u

  pub gone_within : IsWithin (has gone) (has set)
  gone_within u e = (and_parts (has set u) (has blamed u) (sym (gone_has u) ∙ e)).0

  pub gone_keeps : (m o : ℕ → Bool) → Meets g m o → IsWithin o (has set) → Avoids o (has gone)
  gone_keeps m o h w u e f =
      keeps_structures g (has set) x b m o h w u e
      (sym (ap (λ t. t u) blamed_is)
      ∙ (and_parts (has set u) (has blamed u) (sym (gone_has u) ∙ f)).1)

  pub gone_settles : (rest : ℕ → Bool) → ((u : ℕ) → rest u ≡ (has set u && not (has gone u)))
      → BreaksS2 g rest x → ⊥
  gone_settles rest is = settled g (has set) x b rest
      (λ u e. (and_parts (has set u) (not (has gone u)) (sym (is u) ∙ e)).0)
      (λ u e f.
      let p = and_parts (has set u) (not (has gone u)) (sym (is u) ∙ e) in
      both_ways (has gone u) (not-true (has gone u) p.1)
      (gone_has u ∙ and_from (has set u) (has blamed u) p.0 (ap (λ t. t u) blamed_is ∙ f)))

and_nothing : (b : Bool) → (b && true) ≡ b
and_nothing true = refl
and_nothing false = refl

-- if nothing goes nothing changes
pub unbroken_settles : (g : Shape) (set : List ℕ) (x : ℕ) → (BreaksS2 g (has set) x → ⊥)
    → (rest : ℕ → Bool) → ((u : ℕ) → rest u ≡ (has set u && true)) → BreaksS2 g rest x → ⊥
unbroken_settles g set x no_break rest is c =
    let same : rest ≡ has set = λ i. λ u. (is u ∙ and_nothing (has set u)) i in
    no_break (subst (λ o. BreaksS2 g o x) same c)

-- ---- a turn

module _ (g : Shape) (left gone next waiting made more : List ℕ) (x : ℕ)
    (next_is : next ≡ minus left gone) (gone_in : IsWithin (has gone) (has left))
    (made_is : has made ≡ is_made g (has gone))
    (more_is : more ≡ union (kept (λ v. not (x == v)) waiting) made) where
  pub next_has : (u : ℕ) → has next u ≡ (has left u && not (has gone u))
  next_has u = ap (λ xs. has xs u) next_is ∙ has-minus left gone u

  pub next_within : IsWithin (has next) (has left)
  next_within u e = (and_parts (has left u) (not (has gone u)) (sym (next_has u) ∙ e)).0

  pub next_keeps : (o : ℕ → Bool) → IsWithin o (has left) → Avoids o (has gone)
      → IsWithin o (has next)
  next_keeps o w a u e = next_has u
      ∙ and_from (has left u) (not (has gone u)) (w u e)
      (ap not (false_from_ne_true (has gone u) (a u e)))

  pub more_has : (y : ℕ) → has more y ≡ ((has waiting y && not (x == y)) || is_made g (has gone) y)
  more_has y =
      ap (λ xs. has xs y) more_is
      ∙ (has-union (kept (λ v. not (x == v)) waiting) made y
      ∙ (ap (λ b. b || has made y) (has-kept (λ v. not (x == v)) waiting y)
      ∙ ap (λ b. (has waiting y && not (x == y)) || b) (ap (λ t. t y) made_is)))

  -- a material that no unit which goes makes has the makers that it had
  pub same_makers : (y : ℕ) → is_made g (has gone) y ≡ false
      → is_made g (has left) y ≡ is_made g (has next) y
  same_makers y none = same_tests (is_made g (has left) y) (is_made g (has next) y)
      (λ e.
      let k = is_made-some g (has left) y e in
      is_made-from g (has next) k.0 y k.1
      (next_has k.0
      ∙ and_from (has left k.0) (not (has gone k.0)) k.2
      (ap not
      (false_from_ne_true (has gone k.0)
      (λ f. both_ways (is_made g (has gone) y) none
      (is_made-from g (has gone) k.0 y k.1 f k.3)))))
      k.3)
      (is_made-within g (has next) (has left) next_within y)

  was_broken : (y : ℕ) → is_made g (has gone) y ≡ false → BreaksS2 g (has next) y
      → BreaksS2 g (has left) y
  was_broken y none b = (
    mats-within g (has next) (has left) next_within y b.0,
    λ h. b.1 (subst (λ made. (made ≡ false) ↔ (g.raw y ≡ true)) (same_makers y none) h),
  )

  pub more_covers : ((y : ℕ) → BreaksS2 g (has left) y → has waiting y ≡ true)
      → (BreaksS2 g (has next) x → ⊥) → (y : ℕ) → BreaksS2 g (has next) y → has more y ≡ true
  more_covers covers settles y b = more_has y ∙ at (is_made g (has gone) y) refl
    where
      at : (made : Bool) → is_made g (has gone) y ≡ made
          → ((has waiting y && not (x == y)) || is_made g (has gone) y) ≡ true
      at true e = or_right (has waiting y && not (x == y)) (is_made g (has gone) y) e
      at false e = or_left (has waiting y && not (x == y)) (is_made g (has gone) y)
          (and_from (has waiting y) (not (x == y)) (covers y (was_broken y e b))
          (ap not (ne_eqb x y (λ q. settles (subst (λ z. BreaksS2 g (has next) z) (sym q) b)))))

  -- what has lost its last maker is looked at, if that was so before and x has one
  pub more_lost : (y : ℕ) → (is_made g (has left) y ≡ false → has waiting y ≡ true)
      → (x ≡ y → is_made g (has left) x ≡ true) → is_made g (has next) y ≡ false → has more y ≡ true
  more_lost y had made_at unmade = more_has y ∙ at (is_made g (has gone) y) refl
    where
      at : (made : Bool) → is_made g (has gone) y ≡ made
          → ((has waiting y && not (x == y)) || is_made g (has gone) y) ≡ true
      at true e = or_right (has waiting y && not (x == y)) (is_made g (has gone) y) e
      at false e =
          let was : is_made g (has left) y ≡ false = same_makers y e ∙ unmade in
          or_left (has waiting y && not (x == y)) (is_made g (has gone) y)
          (and_from (has waiting y) (not (x == y)) (had was)
          (ap not
          (ne_eqb x y
          (λ q. both_ways (is_made g (has left) y) was
          (subst (λ z. is_made g (has left) z ≡ true) q (made_at q))))))

  pub more_known : IsProper g → ((y : ℕ) → has waiting y ≡ true → y < g.materials) → (y : ℕ)
      → has more y ≡ true → y < g.materials
  more_known proper known y e =
      elim
      (or_cases (has waiting y && not (x == y)) (is_made g (has gone) y) (sym (more_has y) ∙ e)) [
        | inl p ↦ known y (and_parts (has waiting y) (not (x == y)) p).0
        | inr q ↦ let k = is_made-some g (has gone) y q in proper.output_known k.0 y k.3
      ]

  nothing_made : gone ≡ [] → (y : ℕ) → is_made g (has gone) y ≡ false
  nothing_made none y = false_from_ne_true (is_made g (has gone) y) (λ e.
      let k = is_made-some g (has gone) y e in
      both_ways (has gone k.0) (ap (λ xs. has xs k.0) none) k.2)

  -- either a unit goes, or no material comes to those to look at and x goes from them
  pub turn_smaller : has waiting x ≡ true → IsSet 128 left → IsSet 128 next → IsSet 256 waiting
      → IsSet 256 more → 257 * length next + length more < 257 * length left + length waiting
  turn_smaller here left_set next_set open_set more_set = by gone refl
    where
      by : (xs : List ℕ) → gone ≡ xs
          → 257 * length next + length more < 257 * length left + length waiting
      by [] e =
          let same : next ≡ left =
          same_sets next left next_set.rising left_set.rising
          (λ u. next_has u
          ∙ (ap (λ ys. has left u && not (has ys u)) e ∙ and_nothing (has left u))) in
          let fewer : length more < length waiting =
          length-less more waiting x more_set.rising open_set.rising
          (λ y f. elim
          (or_cases (has waiting y && not (x == y)) (is_made g (has gone) y)
          (sym (more_has y) ∙ f)) [
            | inl p ↦ (and_parts (has waiting y) (not (x == y)) p).0
            | inr q ↦ absurd (both_ways (is_made g (has gone) y) (nothing_made e y) q)
          ])
          here
          (false_from_ne_true (has more x)
          (λ f. elim
          (or_cases (has waiting x && not (x == x)) (is_made g (has gone) x)
          (sym (more_has x) ∙ f)) [
            | inl p
                ↦ both_ways (x == x)
                (not-true (x == x) (and_parts (has waiting x) (not (x == x)) p).1) (eq-eqb x x refl)
            | inr q ↦ both_ways (is_made g (has gone) x) (nothing_made e x) q
          ])) in
          let lengths : length next ≡ length left = ap length same in
          omega arith
      by (u ∷ us) e =
          let first_gone : has gone u ≡ true =
          ap (λ ys. has ys u) e ∙ or_left (u == u) (has us u) (eq-eqb u u refl) in
          let fewer : length next < length left =
          length-less next left u next_set.rising left_set.rising next_within
          (gone_in u first_gone)
          (false_from_ne_true (has next u)
          (λ f. both_ways (has gone u)
          (not-true (has gone u)
          (and_parts (has left u) (not (has gone u)) (sym (next_has u) ∙ f)).1) first_gone)) in
          let most = length_below 256 more more_set.rising more_set.below in
          omega arith
