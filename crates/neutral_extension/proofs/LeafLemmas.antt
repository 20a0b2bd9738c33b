-- What is kept of a node, from step to step.
use Rattle.std.proofs.Common.{◌≡◌, ℕ, ◌+◌, ◌<◌, ◌==◌, nat_lt, Bool, true, false, cond, not, ◌&&◌}
use Rattle.std.proofs.Common.{◌||◌, List, [], ◌∷◌, ◌++◌, ◌↔◌, Some, None, refl, sym, ap, ap₂, ◌∙◌}
use Rattle.std.proofs.Common.{subst, inl, inr, eqb-true, lt-ltb, eq-eqb, ne_eqb, arith}
use Rattle.std.proofs.lemmas.Bool.{or_cases, or_left, or_right, or_from, and_from, and_parts}
use Rattle.std.proofs.lemmas.Bool.{both_ways, false_from_ne_true, true_from_ne_false, not-true}
use Rattle.std.proofs.lemmas.Bool.{cases_Bool, cases_eq}
use Rattle.pgraph.specs.number_sets.Sets.{has, first, kept, minus, union, with_number, IsRising}
use Rattle.pgraph.specs.number_sets.Sets.{IsWithin}
use Rattle.pgraph.proofs.number_sets.Cited.{has-minus, has-union, has-kept, has-append}
use Rattle.pgraph.proofs.number_sets.Cited.{has-with_number}
use Rattle.pgraph.proofs.number_sets.Cited.{same_tests, IsRising-kept}
use Rattle.pgraph.specs.pns_rules.Shape.{Shape, IsProper}
use Rattle.pgraph.specs.pns_rules.Structure.{is_made, is_used, is_needed, IsPath, HasPath}
use Rattle.pgraph.specs.pns_rules.Nodes.{Node, Step, raw, rival, starve, loose, sole, IsPossible}
use Rattle.pgraph.specs.pns_rules.Nodes.{after}
use Rattle.pgraph.specs.pns_rules.Ends.{remaining}
use Rattle.pgraph.proofs.pns_rules.Cited.{is_made-from, is_made-some, is_used-from, is_used-some}
use Rattle.pgraph.proofs.pns_rules.Cited.{is_made-within, is_used-within}
use Rattle.pgraph.proofs.Cited.{and_swap, below_more}
use Rattle.neutral_extension.specs.Candidates.{Candidates, left, makers_at, AreMakersOf}
use Rattle.neutral_extension.specs.OpenLeaf.{is_empty, is_single, IsTold, IsCounted, IsOnlyMaker}
use Rattle.neutral_extension.specs.OpenLeaf.{AllLead}
use Rattle.neutral_extension.specs.declared.scarce.Scarce.{Scarce}
use Rattle.neutral_extension.proofs.EndLemmas.{remains_from, remains_parts}

at : (s t : ℕ → Bool) (u : ℕ) → s ≡ t → s u ≡ t u
at s t u e = ap (λ (f : ℕ → Bool). f u) e

-- ---- the intake of more units

pub needed_is : (g : Shape) (o : ℕ → Bool) (needed products rest used raws : List ℕ)
    → needed ≡ union products rest → rest ≡ minus used raws → has products ≡ g.product
    → has used ≡ is_used g o → has raws ≡ g.raw → has needed ≡ is_needed g o
needed_is g o needed products rest used raws e m p u r = λ i. λ x.
    (ap (λ xs. has xs x) e
    ∙ (has-union products rest x
    ∙ ap₂ (λ (a b : Bool). a || b) (at (has products) g.product x p)
    (ap (λ xs. has xs x) m
    ∙ (has-minus used raws x
    ∙ (ap₂ (λ (a b : Bool). a && not b) (at (has used) (is_used g o) x u) (at (has raws) g.raw x r)
    ∙ and_swap (is_used g o x) (not (g.raw x))))))) i

module _ (units before more : List ℕ) (m : more ≡ minus units before)
    (within : IsWithin (has before) (has units)) where
  is_more : (u : ℕ) → has more u ≡ (has units u && not (has before u))
  is_more u = ap (λ xs. has xs u) m ∙ has-minus units before u

  pub more_within : IsWithin (has more) (has units)
  more_within u h = (and_parts (has units u) (not (has before u)) (sym (is_more u) ∙ h)).0

  pub none_more : more ≡ [] → has before ≡ has units
  none_more none = λ i. λ u. same_tests (has before u) (has units u) (within u)
      (λ h. true_from_ne_false (has before u)
      (λ no. both_ways false refl
      (sym (ap (λ xs. has xs u) none)
      ∙ (is_more u ∙ and_from (has units u) (not (has before u)) h (ap not no))))) i

  pub used_more : (g : Shape) (all old new : List ℕ) → all ≡ union old new
      → has old ≡ is_used g (has before) → has new ≡ is_used g (has more)
      → has all ≡ is_used g (has units)
  used_more g all old new e o n = λ i. λ x. same_tests (has all x) (is_used g (has units) x)
      (λ h. elim
      (or_cases (has old x) (has new x) (sym (ap (λ xs. has xs x) e ∙ has-union old new x) ∙ h)) [
        | inl p
            ↦ is_used-within g (has before) (has units) within x
            (sym (at (has old) (is_used g (has before)) x o) ∙ p)
        | inr p
            ↦ is_used-within g (has more) (has units) more_within x
            (sym (at (has new) (is_used g (has more)) x n) ∙ p)
      ])
      (λ h.
      let k = is_used-some g (has units) x h in
      ap (λ xs. has xs x) e ∙ (has-union old new x ∙ elim (cases_Bool (has before k.0)) [
        | inl p
            ↦ or_left (has old x) (has new x)
            (at (has old) (is_used g (has before)) x o
            ∙ is_used-from g (has before) k.0 x k.1 p k.3)
        | inr p
            ↦ or_right (has old x) (has new x)
            (at (has new) (is_used g (has more)) x n
            ∙ is_used-from g (has more) k.0 x k.1
            (is_more k.0 ∙ and_from (has units k.0) (not (has before k.0)) k.2 (ap not p)) k.3)
      ])) i

  pub made_more : (g : Shape) (all old new : List ℕ) → all ≡ union old new
      → has old ≡ is_made g (has before) → has new ≡ is_made g (has more)
      → has all ≡ is_made g (has units)
  made_more g all old new e o n = λ i. λ x. same_tests (has all x) (is_made g (has units) x)
      (λ h. elim
      (or_cases (has old x) (has new x) (sym (ap (λ xs. has xs x) e ∙ has-union old new x) ∙ h)) [
        | inl p
            ↦ is_made-within g (has before) (has units) within x
            (sym (at (has old) (is_made g (has before)) x o) ∙ p)
        | inr p
            ↦ is_made-within g (has more) (has units) more_within x
            (sym (at (has new) (is_made g (has more)) x n) ∙ p)
      ])
      (λ h.
      let k = is_made-some g (has units) x h in
      ap (λ xs. has xs x) e ∙ (has-union old new x ∙ elim (cases_Bool (has before k.0)) [
        | inl p
            ↦ or_left (has old x) (has new x)
            (at (has old) (is_made g (has before)) x o
            ∙ is_made-from g (has before) k.0 x k.1 p k.3)
        | inr p
            ↦ or_right (has old x) (has new x)
            (at (has new) (is_made g (has more)) x n
            ∙ is_made-from g (has more) k.0 x k.1
            (is_more k.0 ∙ and_from (has units k.0) (not (has before k.0)) k.2 (ap not p)) k.3)
      ])) i

-- ---- a set that has a number exactly if the number belongs to it

pub with_is : (x y : ℕ) (b : Bool) (set new : List ℕ) → b ≡ true → new ≡ with_number x set
    → has new y ≡ cond (x == y) b (has set y)
with_is x y b set new t e = ap (λ xs. has xs y) e
    ∙ (has-with_number x set y
    ∙ (table (x == y) (has set y) ∙ ap (λ c. cond (x == y) c (has set y)) (sym t)))
  where
    table : (p q : Bool) → (p || q) ≡ cond p true q
    table true q = refl
    table false q = refl

pub without_is : (x y : ℕ) (b : Bool) (set new : List ℕ) → b ≡ false
    → new ≡ kept (λ v. not (x == v)) set → has new y ≡ cond (x == y) b (has set y)
without_is x y b set new f e = ap (λ xs. has xs y) e
    ∙ (has-kept (λ v. not (x == v)) set y
    ∙ (table (x == y) (has set y) ∙ ap (λ c. cond (x == y) c (has set y)) (sym f)))
  where
    table : (p q : Bool) → (q && not p) ≡ cond p false q
    table true true = refl
    table true false = refl
    table false true = refl
    table false false = refl

-- ---- a test known for all but some numbers, made known for one more

-- the number with which a list begins is in it
pub head_had : (xs : List ℕ) (x : ℕ) (rest : List ℕ) → xs ≡ x ∷ rest → has xs x ≡ true
head_had xs x rest e = ap (λ (ys : List ℕ). has ys x) e
    ∙ or_left (x == x) (has rest x) (eq-eqb x x refl)

-- and so is a number of the others
pub rest_had : (xs : List ℕ) (x : ℕ) (rest : List ℕ) (y : ℕ) → xs ≡ x ∷ rest → has rest y ≡ true
    → has xs y ≡ true
rest_had xs x rest y e h = ap (λ (ys : List ℕ). has ys y) e ∙ or_right (x == y) (has rest y) h

pub told_more : (rest xs ys : List ℕ) (test : ℕ → Bool) (x : ℕ) (b : Bool)
    → IsTold (has (x ∷ rest)) test xs → b ≡ test x
    → ((y : ℕ) → has ys y ≡ cond (x == y) b (has xs y)) → IsTold (has rest) test ys
told_more rest xs ys test x b told here is y gone = elim (cases_eq x y) [
  | inl e ↦ is y ∙ (ap (λ c. cond c b (has xs y)) (eq-eqb x y e) ∙ (here ∙ ap test e))
  | inr ne ↦
      let apart = ne_eqb x y ne in
      is y
      ∙ (ap (λ c. cond c b (has xs y)) apart
      ∙ told y (or_from (x == y) (has rest y) apart gone))
]

pub told_all : (todo xs : List ℕ) (test : ℕ → Bool) → todo ≡ [] → IsTold (has todo) test xs
    → (x : ℕ) → has xs x ≡ test x
told_all todo xs test none told x = told x (ap (λ ys. has ys x) none)

pub told_next : (xs ys : List ℕ) (n : ℕ) (test : ℕ → Bool) (b : Bool)
    → ((x : ℕ) → has xs x ≡ (nat_lt x n && test x)) → b ≡ test n
    → ((y : ℕ) → has ys y ≡ cond (n == y) b (has xs y)) → (x : ℕ)
    → has ys x ≡ (nat_lt x (n + 1) && test x)
told_next xs ys n test b told here is x = elim (cases_eq n x) [
  | inl e ↦ is x
      ∙ (ap (λ c. cond c b (has xs x)) (eq-eqb n x e)
      ∙ (here ∙ (ap test e ∙ sym (ap (λ c. c && test x) (lt-ltb x (n + 1) (omega arith))))))
  | inr ne ↦ is x
      ∙ (ap (λ c. cond c b (has xs x)) (ne_eqb n x ne)
      ∙ (told x ∙ below_more x n (test x) (ne_eqb x n (λ q. ne (sym q)))))
]

pub below_is : (n x : ℕ) (b : Bool) → x < n → b ≡ (nat_lt x n && b)
below_is n x b lt = sym (ap (λ c. c && b) (lt-ltb x n lt))

-- ---- the makers that are left

pub none_is : (xs : List ℕ) (b : Bool) → ((v : ℕ) → has xs v ≡ true → b ≡ true)
    → (b ≡ true → (v : ℕ) × (has xs v ≡ true)) → is_empty xs ≡ not b
none_is [] true to from = let k = from refl in absurd (both_ways false refl k.1)
none_is [] false to from = refl
none_is (x ∷ xs) b to from = sym (ap not (to x (or_left (x == x) (has xs x) (eq-eqb x x refl))))

pub first_is_none : (xs : List ℕ) → is_empty xs ≡ true → xs ≡ []
first_is_none [] h = refl
first_is_none (x ∷ xs) h = absurd (both_ways false refl h)

module _ (g : Shape) (k : Candidates) (d : Node) (proper : IsProper g)
    (same : AreMakersOf g k.makers) (out : (u : ℕ) → has k.taken u ≡ d.outside u) where
  pub has_left : (x v : ℕ) → has (left k x) v ≡ (g.makes v x && not (d.outside v))
  has_left x v = has-kept (λ u. not (has k.taken u)) (makers_at k.makers x) v
      ∙ ap₂ (λ (a b : Bool). a && not b) (same.makes x v) (out v)

  left_parts : (x v : ℕ) → has (left k x) v ≡ true → (v < g.units) × (g.makes v x ≡ true)
      × (d.outside v ≡ false)
  left_parts x v h = let p = and_parts (g.makes v x) (not (d.outside v)) (sym (has_left x v) ∙ h) in
      (proper.maker_known v x p.0, p.0, not-true (d.outside v) p.1)

  left_from : (x v : ℕ) → g.makes v x ≡ true → d.outside v ≡ false → has (left k x) v ≡ true
  left_from x v m o = has_left x v ∙ and_from (g.makes v x) (not (d.outside v)) m (ap not o)

  pub none_left : (x : ℕ) → is_empty (left k x) ≡ not (is_made g (remaining g d) x)
  none_left x = none_is (left k x) (is_made g (remaining g d) x)
      (λ v h. let p = left_parts x v h in
      is_made-from g (remaining g d) v x p.0 (remains_from g d v p.0 p.2) p.1)
      (λ h. let m = is_made-some g (remaining g d) x h in
      (m.0, left_from x m.0 m.3 (remains_parts g d m.0 m.2).1))

  rises : (x : ℕ) → IsRising (left k x)
  rises x = IsRising-kept (λ u. not (has k.taken u)) (makers_at k.makers x) (same.sets x).rising

  pub one_to : (x : ℕ) → is_single (left k x) ≡ true → (u : ℕ) × IsOnlyMaker g d x u
  one_to x h = by (left k x) refl h
    where
      by : (xs : List ℕ) → left k x ≡ xs → is_single xs ≡ true → (u : ℕ) × IsOnlyMaker g d x u
      by [] e q = absurd (both_ways false refl q)
      by (u ∷ v ∷ rest) e q = absurd (both_ways false refl q)
      by (u ∷ []) e q =
          let p =
          left_parts x u (ap (λ xs. has xs u) e ∙ or_left (u == u) false (eq-eqb u u refl)) in (
            u,
            record {
              known = p.0;
              makes = p.1;
              remains = p.2;
              alone =
                  λ v lt m o. elim
                  (or_cases (u == v) false (sym (ap (λ xs. has xs v) e) ∙ left_from x v m o)) [
                    | inl s ↦ sym (eqb-true u v s)
                    | inr never ↦ absurd (both_ways false refl never)
                  ];
            },
          )

  pub one_from : (x u : ℕ) → IsOnlyMaker g d x u → is_single (left k x) ≡ true
  one_from x u h = by (left k x) refl
    where
      by : (xs : List ℕ) → left k x ≡ xs → is_single xs ≡ true
      by [] e =
          absurd
          (both_ways false refl (sym (ap (λ xs. has xs u) e) ∙ left_from x u h.makes h.remains))
      by (v ∷ []) e = refl
      by (v ∷ w ∷ rest) e =
          let p =
          left_parts x v (ap (λ xs. has xs v) e
          ∙ or_left (v == v) ((w == v) || has rest v) (eq-eqb v v refl)) in
          let q =
          left_parts x w (ap (λ xs. has xs w) e
          ∙ or_right (v == w) ((w == w) || has rest w)
          (or_left (w == w) (has rest w) (eq-eqb w w refl))) in
          let a : v ≡ u = h.alone v p.0 p.1 p.2 in
          let b : w ≡ u = h.alone w q.0 q.1 q.2 in
          let r = (subst IsRising e (rises x)).0 in
          let lt : v < w = r.0 in
          absurd (omega arith)

  pub unmade_at : (s : Scarce) → IsCounted k g.materials (λ x. false) s → (x : ℕ)
      → has s.unmade x ≡ (nat_lt x g.materials && not (is_made g (remaining g d) x))
  unmade_at s c x = c.unmade x refl ∙ ap (λ b. nat_lt x g.materials && b) (none_left x)

  pub single_at : (s : Scarce) → IsCounted k g.materials (λ x. false) s → (x : ℕ)
      → (has s.single x ≡ true) ↔ ((u : ℕ) × IsOnlyMaker g d x u)
  single_at s c x = (
    (λ h. one_to x
        (and_parts (nat_lt x g.materials) (is_single (left k x)) (sym (c.single x refl) ∙ h)).1),
    (λ m. c.single x refl
        ∙ and_from (nat_lt x g.materials) (is_single (left k x))
        (lt-ltb x g.materials (proper.output_known m.0 x m.1.makes)) (one_from x m.0 m.1)),
  )

  -- the first maker that is left of a material with one
  pub first_alone : (x u v : ℕ) → IsOnlyMaker g d x u → first (left k x) ≡ Some v → v ≡ u
  first_alone x u v h e = by (left k x) refl e
    where
      by : (xs : List ℕ) → left k x ≡ xs → first xs ≡ Some v → v ≡ u
      by [] s q = cc
      by (w ∷ ws) s q =
          let p =
          left_parts x w (ap (λ xs. has xs w) s
          ∙ or_left (w == w) (has ws w) (eq-eqb w w refl)) in
          let a : w ≡ u = h.alone w p.0 p.1 p.2 in
          let b : w ≡ v = cc in
          omega arith

  pub first_there : (x u : ℕ) → IsOnlyMaker g d x u → first (left k x) ≡ None → ⊥
  first_there x u h e = by (left k x) refl e
    where
      by : (xs : List ℕ) → left k x ≡ xs → first xs ≡ None → ⊥
      by [] s q =
          both_ways false refl (sym (ap (λ xs. has xs u) s) ∙ left_from x u h.makes h.remains)
      by (w ∷ ws) s q = let never : Some w ≡ None = q in cc

-- ---- a node after a step

pub out_grows : (g : Shape) (d : Node) (s : Step) (u : ℕ) → d.outside u ≡ true
    → (after g d s).outside u ≡ true
out_grows g d (raw v) u h = or_right (v == u) (d.outside u) h
out_grows g d (rival v) u h = or_right (v == u) (d.outside u) h
out_grows g d (starve x) u h = or_right (g.uses u x) (d.outside u) h
out_grows g d (loose w) u h = or_right (has w u) (d.outside u) h
out_grows g d (sole x v) u h = h

pub in_grows : (g : Shape) (d : Node) (s : Step) (u : ℕ) → d.inside u ≡ true
    → (after g d s).inside u ≡ true
in_grows g d (raw v) u h = h
in_grows g d (rival v) u h = h
in_grows g d (starve x) u h = h
in_grows g d (loose w) u h = h
in_grows g d (sole x v) u h = or_right (v == u) (d.inside u) h

pub gone_known : (g : Shape) (d : Node) (s : Step) (u : ℕ) → IsProper g → IsPossible g d s
    → (after g d s).outside u ≡ true → d.outside u ≡ false → u < g.units
gone_known g d (raw v) u proper p h o = elim (or_cases (v == u) (d.outside u) h) [
  | inl e ↦ subst (λ w. w < g.units) (eqb-true v u e) p.0
  | inr q ↦ absurd (both_ways (d.outside u) o q)
]
gone_known g d (rival v) u proper p h o = elim (or_cases (v == u) (d.outside u) h) [
  | inl e ↦ subst (λ w. w < g.units) (eqb-true v u e) p.0
  | inr q ↦ absurd (both_ways (d.outside u) o q)
]
gone_known g d (starve x) u proper p h o = elim (or_cases (g.uses u x) (d.outside u) h) [
  | inl e ↦ proper.user_known u x e
  | inr q ↦ absurd (both_ways (d.outside u) o q)
]
gone_known g d (loose w) u proper p h o = elim (or_cases (has w u) (d.outside u) h) [
  | inl e ↦ (p.1 u e).0
  | inr q ↦ absurd (both_ways (d.outside u) o q)
]
gone_known g d (sole x v) u proper p h o = absurd (both_ways (d.outside u) o h)

together : (a b : Bool) → (a ≡ true → b ≡ true) → (a || (b && not a)) ≡ b
together true b h = sym (h refl)
together false true h = refl
together false false h = refl

module _ (before units gone : List ℕ) (e : gone ≡ minus units before)
    (grown : IsWithin (has before) (has units)) where
  is_gone : (u : ℕ) → has gone u ≡ (has units u && not (has before u))
  is_gone u = ap (λ xs. has xs u) e ∙ has-minus units before u

  pub out_after : (taken : List ℕ) → ((u : ℕ) → has taken u ≡ has before u) → (u : ℕ)
      → has (taken ++ gone) u ≡ has units u
  out_after taken same u = has-append taken gone u
      ∙ (ap₂ (λ (a b : Bool). a || b) (same u) (is_gone u)
      ∙ together (has before u) (has units u) (grown u))

  pub gone_fresh : (taken : List ℕ) → ((u : ℕ) → has taken u ≡ has before u) → (u : ℕ)
      → has gone u ≡ true → has taken u ≡ false
  gone_fresh taken same u h =
      same u
      ∙ not-true (has before u)
      (and_parts (has units u) (not (has before u)) (sym (is_gone u) ∙ h)).1

  pub gone_parts : (u : ℕ) → has gone u ≡ true → (has units u ≡ true) × (has before u ≡ false)
  gone_parts u h = let p = and_parts (has units u) (not (has before u)) (sym (is_gone u) ∙ h) in
      (p.0, not-true (has before u) p.1)

  -- what the gone units do not use is used as before
  pub used_told : (g : Shape) (rest used : List ℕ) (d f : Node) → d.outside ≡ has before
      → f.outside ≡ has units → has used ≡ is_used g (remaining g d) → has rest ≡ remaining g f
      → IsTold (is_used g (has gone)) (is_used g (has rest)) used
  used_told g rest used d f od of u r x none =
      at (has used) (is_used g (remaining g d)) x u
      ∙ (same_tests (is_used g (remaining g d) x) (is_used g (remaining g f) x)
      (λ h.
      let m = is_used-some g (remaining g d) x h in
      let still = false_from_ne_true (f.outside m.0) (λ o.
      both_ways (is_used g (has gone) x) none
      (is_used-from g (has gone) m.0 x m.1
      (is_gone m.0
      ∙ and_from (has units m.0) (not (has before m.0))
      (sym (at f.outside (has units) m.0 of) ∙ o)
      (ap not (sym (at d.outside (has before) m.0 od) ∙ (remains_parts g d m.0 m.2).1)))
      m.3)) in
      is_used-from g (remaining g f) m.0 x m.1 (remains_from g f m.0 m.1 still) m.3)
      (is_used-within g (remaining g f) (remaining g d) back x)
      ∙ ap (λ (t : ℕ → Bool). is_used g t x) (sym r))
    where
      back : IsWithin (remaining g f) (remaining g d)
      back v h =
          let p = remains_parts g f v h in
          remains_from g d v p.0
          (at d.outside (has before) v od
          ∙ false_from_ne_true (has before v)
          (λ o. both_ways (f.outside v) p.1 (at f.outside (has units) v of ∙ grown v o)))

kept-same : (p q : ℕ → Bool) (xs : List ℕ) → ((v : ℕ) → has xs v ≡ true → p v ≡ q v)
    → kept p xs ≡ kept q xs
kept-same p q [] h = refl
kept-same p q (x ∷ xs) h =
    ap₂ (λ (b : Bool) (ys : List ℕ). cond b (x ∷ ys) ys)
    (h x (or_left (x == x) (has xs x) (eq-eqb x x refl)))
    (kept-same p q xs (λ v e. h v (or_right (x == v) (has xs v) e)))

-- of what the gone units do not make the makers are left as before
pub left_same : (g : Shape) (k : Candidates) (gone : List ℕ) (x : ℕ) → IsProper g
    → AreMakersOf g k.makers → is_made g (has gone) x ≡ false
    → left (record { makers = k.makers; taken = k.taken ++ gone }) x ≡ left k x
left_same g k gone x proper same none =
    kept-same (λ u. not (has (k.taken ++ gone) u)) (λ u. not (has k.taken u)) (makers_at k.makers x)
    (λ v h.
    let m : g.makes v x ≡ true = sym (same.makes x v) ∙ h in
    let apart =
    false_from_ne_true (has gone v)
    (λ e. both_ways (is_made g (has gone) x) none
    (is_made-from g (has gone) v x (proper.maker_known v x m) e m)) in
    ap not (has-append k.taken gone v
    ∙ (ap (λ b. has k.taken v || b) apart ∙ no_more (has k.taken v))))
  where
    no_more : (b : Bool) → (b || false) ≡ b
    no_more true = refl
    no_more false = refl

pub counted_told : (g : Shape) (k k' : Candidates) (gone : List ℕ) (s : Scarce) → IsProper g
    → AreMakersOf g k.makers → k' ≡ record { makers = k.makers; taken = k.taken ++ gone }
    → IsCounted k g.materials (λ x. false) s → IsCounted k' g.materials (is_made g (has gone)) s
counted_told g k k' gone s proper same e c = record {
  unmade = λ x none. c.unmade x refl
      ∙ ap (λ xs. nat_lt x g.materials && is_empty xs)
      (sym (ap (λ j. left j x) e ∙ left_same g k gone x proper same none));
  single = λ x none. c.single x refl
      ∙ ap (λ xs. nat_lt x g.materials && is_single xs)
      (sym (ap (λ j. left j x) e ∙ left_same g k gone x proper same none));
}

-- ---- units that lead to a product

path_reaches : (g : Shape) (s : ℕ → Bool) (reach : ℕ → Bool)
    → ((u : ℕ) → HasPath g s u → reach u ≡ true) → (u : ℕ) (path : List ℕ) → IsPath g s u path
    → IsPath g reach u path
path_reaches g s reach all u [] p = p
path_reaches g s reach all u (x ∷ []) p = (all u (record { path = x ∷ []; leads = p }), p.1, p.2)
path_reaches g s reach all u (x ∷ v ∷ rest) p = (
  all u (record { path = x ∷ v ∷ rest; leads = p }),
  p.1,
  p.2,
  path_reaches g s reach all v rest p.3,
)

pub reaching_leads : (g : Shape) (s reach : ℕ → Bool) → ((u : ℕ) → (reach u ≡ true) ↔ HasPath g s u)
    → AllLead g reach
reaching_leads g s reach is u h = let k =
    (is u).0 h in
    record { path = k.path; leads = path_reaches g s reach (λ v q. (is v).1 q) u k.path k.leads }

leads_from : (g : Shape) (s : ℕ → Bool) (u : ℕ) (path : List ℕ) → IsPath g s u path → s u ≡ true
leads_from g s u [] p = absurd p
leads_from g s u (x ∷ []) p = p.0
leads_from g s u (x ∷ v ∷ rest) p = p.0

pub leading_is : (g : Shape) (s : ℕ → Bool) → AllLead g s → (u : ℕ) → (s u ≡ true) ↔ HasPath g s u
leading_is g s all u = ((λ h. all u h), (λ h. leads_from g s u h.path h.leads))
