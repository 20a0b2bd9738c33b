-- The networks in turn: which come before a place, and what is known if those pass.
use Rattle.std.proofs.Common.{◌≡◌, ◌↔◌, ℕ, zero, suc, ◌+◌, ◌-◌, ◌<◌, ◌≤◌, Bool, true, false, ◌&&◌}
use Rattle.std.proofs.Common.{List, [], ◌∷◌, length, drop, get_or, refl, sym, ap, ◌∙◌, subst, arith}
use Rattle.std.proofs.Common.{IsTrue, ◌==◌, ◌||◌, ◌⊎◌, inl, inr, cond, Option, Some, None, ℤ, ◌*ℤ◌}
use Rattle.std.proofs.Common.{◌≤ℤ◌, Result, Ok, Err, OnOk, IfErr}
use Rattle.std.proofs.lemmas.List.{drop_all}
use Rattle.rank_laws.specs.number_sets.Sets.{has, IsWithin}
use Rattle.rank_laws.specs.problem_rules.Problem.{Problem}
use Rattle.rank_laws.specs.tree_rules.Claim.{Network, CostOver, IsFeasible}
use Rattle.rank_laws.specs.rank_rules.declared.why.RankWhy.{RankWhy}
use Rattle.rank_laws.specs.rank_rules.Networks.{cost_of, last_cost, to_undercut, RisesFrom}
use Rattle.rank_laws.specs.rank_rules.Networks.{AreAlike}
use Rattle.rank_laws.specs.rank_rules.Networks.{OrderFails}
use Rattle.rank_laws.specs.rank_rules.Networks.{IsNewTo, IsInOrder, ArePassing, NetworkFails}
use Rattle.rank_laws.specs.rank_rules.Networks.{IsFirstOff}
use Rattle.cert_check.proofs.Cited.{node_ahead}
use Rattle.rank_check.specs.Earlier.{earlier_on, earlier}

earlier_more : (i : ℕ) (before ws : List Network) (w : Network) → i < length ws → w ≡ get_or ws i w
    → earlier_on (suc i) before ws ≡ w ∷ earlier_on i before ws
earlier_more i before [] w lt e = absurd (omega arith)
earlier_more zero before (x ∷ xs) w lt e = ap (λ (y : Network). y ∷ before) (sym e)
earlier_more (suc i) before (x ∷ xs) w lt e = earlier_more i (x ∷ before) xs w (omega arith) e

pub earlier_next : (i j : ℕ) (ws : List Network) (w : Network) → j ≡ i + 1 → i < length ws
    → w ≡ get_or ws i w → earlier j ws ≡ w ∷ earlier i ws
earlier_next i j ws w is lt e = ap (λ (k : ℕ). earlier k ws) (let q : j ≡ suc i = omega arith in q)
    ∙ earlier_more i [] ws w lt e

-- the networks before place i pass, and those that are left decide about the whole
pub record IsOn (distinct : Bool) (p : Problem) (ws : List Network) (i : ℕ) : Type 0 where
  pub passes : ArePassing distinct p (earlier i ws) (drop i ws) → ArePassing distinct p [] ws
  pub fails : (k : ℕ) (why : RankWhy) → IsFirstOff distinct p (earlier i ws) (drop i ws) (suc k) why
      → IsFirstOff distinct p [] ws (suc (i + k)) why

pub on_start : (distinct : Bool) (p : Problem) (ws : List Network) → IsOn distinct p ws 0
on_start distinct p ws =
    record {
      passes = λ h. h;
      fails =
          λ k why h. subst (λ (n : ℕ). IsFirstOff distinct p [] ws (suc n) why)
          (let q : k ≡ 0 + k = omega arith in q) h;
    }

pub on_next : (distinct : Bool) (p : Problem) (ws : List Network) (i : ℕ) (w : Network)
    → i < length ws
    → w ≡ get_or ws i w → IsFeasible p w × IsInOrder distinct (earlier i ws) w
    → IsOn distinct p ws i → IsOn distinct p ws (i + 1)
on_next distinct p ws i w lt e h on =
    let front : earlier (i + 1) ws ≡ w ∷ earlier i ws = earlier_next i (i + 1) ws w refl lt e in
    let here : drop i ws ≡ w ∷ drop (i + 1) ws =
    node_ahead ws i w lt e
    ∙ ap (λ (k : ℕ). w ∷ drop k ws) (let q : suc i ≡ i + 1 = omega arith in q) in
    record {
      passes =
          λ rest. on.passes
          (subst (λ (us : List Network). ArePassing distinct p (earlier i ws) us) (sym here) (
            h.0,
            h.1,
            subst (λ (vs : List Network). ArePassing distinct p vs (drop (i + 1) ws)) front rest,
          ));
      fails = λ k why rest.
          subst (λ (n : ℕ). IsFirstOff distinct p [] ws (suc n) why)
          (let q : i + suc k ≡ i + 1 + k = omega arith in q)
          (on.fails (suc k) why
          (subst (λ (us : List Network). IsFirstOff distinct p (earlier i ws) us (suc (suc k)) why)
          (sym here) (
            h.0,
            h.1,
            subst (λ (vs : List Network). IsFirstOff distinct p vs (drop (i + 1) ws)
                (suc k) why) front
                rest,
          )));
    }

pub off_here : (distinct : Bool) (p : Problem) (ws : List Network) (i : ℕ) (w : Network)
    (why : RankWhy)
    → i < length ws → w ≡ get_or ws i w → NetworkFails distinct p (earlier i ws) w why
    → IsOn distinct p ws i
    → IsFirstOff distinct p [] ws (i + 1) why
off_here distinct p ws i w why lt e h on =
    subst (λ (n : ℕ). IsFirstOff distinct p [] ws n why) (let q : suc (i + 0)
    ≡ i + 1 = omega arith in q)
    (on.fails 0 why
    (subst (λ (us : List Network). IsFirstOff distinct p (earlier i ws) us (suc zero) why)
    (sym (node_ahead ws i w lt e)) h))

pub on_end : (distinct : Bool) (p : Problem) (ws : List Network) (i : ℕ) → length ws ≤ i
    → IsOn distinct p ws i
    → ArePassing distinct p [] ws
on_end distinct p ws i le on =
    on.passes
    (subst (λ (us : List Network). ArePassing distinct p (earlier i ws) us) (sym
    (drop_all i ws le)) tt)

-- ---- sets of units

-- the one and the other are within each other
pub same_both : (a b : Bool) (xs ys : List ℕ) → (IsTrue a ↔ IsWithin (has xs) (has ys))
    → (IsTrue b ↔ IsWithin (has ys) (has xs)) → IsTrue (a && b) ↔ ((u : ℕ) → has xs u ≡ has ys u)
same_both a b xs ys f g = (
  (λ h. let w = both a b h in λ u. same (has xs u) (has ys u) (f.0 w.0 u) (g.0 w.1 u)),
  (λ h. and a b (f.1 (λ u e. sym (h u) ∙ e)) (g.1 (λ u e. h u ∙ e))),
)
  where
    both : (c d : Bool) → IsTrue (c && d) → IsTrue c × IsTrue d
    both true true h = (h, h)
    both true false h = absurd cc
    both false d h = absurd cc

    and : (c d : Bool) → IsTrue c → IsTrue d → IsTrue (c && d)
    and true true h k = h
    and true false h k = k
    and false d h k = h

    same : (c d : Bool) → (c ≡ true → d ≡ true) → (d ≡ true → c ≡ true) → c ≡ d
    same true d h k = sym (h refl)
    same false true h k = k refl
    same false false h k = refl

-- ---- networks that are alike

pub both_hold : (a b : Bool) (P Q : Type 0) → (IsTrue a ↔ P) → (IsTrue b ↔ Q)
    → IsTrue (a && b) ↔ (P × Q)
both_hold true b P Q f g = ((λ h. (f.0 refl, g.0 h)), (λ h. g.1 h.1))
both_hold false b P Q f g = ((λ h. absurd cc), (λ h. absurd (let t = f.1 h.0 in cc)))

pub either_holds : (a b : Bool) (P Q : Type 0) → (IsTrue a ↔ P) → (IsTrue b ↔ Q)
    → IsTrue (a || b) ↔ (P ⊎ Q)
either_holds true b P Q f g = ((λ h. inl (f.0 refl)), (λ h. refl))
either_holds false b P Q f g = (
  (λ h. inr (g.0 h)),
  (λ h. elim h [ inl p ↦ absurd (let t = f.1 p in cc) | inr q ↦ g.1 q ]),
)

pub alike_as : (kind distinct b : Bool) (v w : Network) → distinct ≡ kind
    → (IsTrue b ↔ AreAlike kind v w) → IsTrue b ↔ AreAlike distinct v w
alike_as kind distinct b v w e f =
    subst (λ (k : Bool). IsTrue b ↔ AreAlike k v w) (sym e) f

-- ---- no earlier network is like it

pub record IsLeft (distinct : Bool) (ws : List Network) (w : Network) (at left : ℕ) : Type 0 where
  pub within : left ≤ at
  pub to : IsNewTo distinct (earlier left ws) w → IsNewTo distinct (earlier at ws) w
  pub from : IsNewTo distinct (earlier at ws) w → IsNewTo distinct (earlier left ws) w

pub left_all : (distinct : Bool) (ws : List Network) (w : Network) (at : ℕ)
    → IsLeft distinct ws w at at
left_all distinct ws w at = record { within = omega arith; to = λ h. h; from = λ h. h }

pub left_less : (distinct : Bool) (ws : List Network) (v w : Network) (at left : ℕ) → 0 < left
    → at < length ws → v ≡ get_or ws (left - 1) v → (AreAlike distinct v w → ⊥)
    → IsLeft distinct ws w at left → IsLeft distinct ws w at (left - 1)
left_less distinct ws v w at left some lt e apart is =
    let le : left ≤ at = is.within in
    let next : earlier left ws ≡ v ∷ earlier (left - 1) ws =
    earlier_next (left - 1) left ws v (omega arith) (omega arith) e in
    record {
      within = omega arith;
      to = λ h. is.to (subst (λ (vs : List Network). IsNewTo distinct vs w) (sym next) (apart, h));
      from = λ h. (subst (λ (vs : List Network). IsNewTo distinct vs w) next (is.from h)).1;
    }

pub left_same : (distinct : Bool) (ws : List Network) (v w : Network) (at left : ℕ) → 0 < left
    → at < length ws → v ≡ get_or ws (left - 1) v → AreAlike distinct v w
    → IsLeft distinct ws w at left → IsNewTo distinct (earlier at ws) w → ⊥
left_same distinct ws v w at left some lt e like is h =
    let le : left ≤ at = is.within in
    let next : earlier left ws ≡ v ∷ earlier (left - 1) ws =
    earlier_next (left - 1) left ws v (omega arith) (omega arith) e in
    (subst (λ (vs : List Network). IsNewTo distinct vs w) next (is.from h)).0 like

pub left_none : (distinct : Bool) (ws : List Network) (w : Network) (at left : ℕ) → left ≡ 0
    → IsLeft distinct ws w at left → IsNewTo distinct (earlier at ws) w
left_none distinct ws w at left e is =
    is.to (subst (λ (k : ℕ). IsNewTo distinct (earlier k ws) w) (sym e) tt)

-- ---- costs that do not fall

pub first_rises : (ws : List Network) (w : Network) (at : ℕ) → at ≡ 0 → RisesFrom (earlier at ws) w
first_rises ws w at e = subst (λ (k : ℕ). RisesFrom (earlier k ws) w) (sym e) tt

pub rises_from : (ws : List Network) (v w : Network) (at : ℕ) (b : Bool) → (at ≡ 0 → ⊥)
    → at < length ws → v ≡ get_or ws (at - 1) v → (IsTrue b ↔ RisesFrom (v ∷ []) w)
    → IsTrue b ↔ RisesFrom (earlier at ws) w
rises_from ws v w at b some lt e f =
    let next : earlier at ws ≡ v ∷ earlier (at - 1) ws =
    earlier_next (at - 1) at ws v (grind (arith, some)) (grind (arith, some, lt)) e in (
      (λ h. subst (λ (vs : List Network). RisesFrom vs w) (sym next) (f.0 h)),
      (λ h. f.1 (subst (λ (vs : List Network). RisesFrom vs w) next h)),
    )

-- ---- a network that passes as a claim

pub passes_whole : {A : Type 0} (distinct : Bool) (p : Problem) (before : List Network)
    (w : Network) (r : Result A RankWhy) → IsFeasible p w → OnOk r (IsInOrder distinct before w)
    → OnOk r (IsFeasible p w × IsInOrder distinct before w)
passes_whole distinct p before w (Ok x) feasible h = (feasible, h)
passes_whole distinct p before w (Err why) feasible h = tt

pub fails_whole : {A : Type 0} (distinct : Bool) (p : Problem) (before : List Network)
    (w : Network) (r : Result A RankWhy) → IsFeasible p w → IfErr r (OrderFails distinct before w)
    → IfErr r (NetworkFails distinct p before w)
fails_whole distinct p before w (Ok x) feasible h = tt
fails_whole distinct p before w (Err why) feasible h = inr (feasible, h)

-- ---- the last network

last_at : (ws : List Network) (w : Network) (place : ℕ) → place + 1 ≡ length ws
    → w ≡ get_or ws place w → last_cost ws ≡ Some (cost_of w)
last_at [] w place e is = absurd (omega arith)
last_at (x ∷ []) w zero e is = ap (λ (y : Network). Some (cost_of y)) (sym is)
last_at (x ∷ []) w (suc i) e is = absurd (omega arith)
last_at (x ∷ y ∷ ys) w zero e is = absurd (omega arith)
last_at (x ∷ y ∷ ys) w (suc i) e is = last_at (y ∷ ys) w i (omega arith) is

pub undercut_is : (count place : ℕ) (ws : List Network) (w : Network) (o : Option CostOver)
    → length ws ≡ count → place + 1 ≡ length ws → w ≡ get_or ws place w → o ≡ Some (cost_of w)
    → o ≡ to_undercut count ws
undercut_is count place ws w o full e is o_is =
    let same : (length ws == count) ≡ true = grind (arith, full) in
    o_is
    ∙ (sym (last_at ws w place e is) ∙ ap (λ (b : Bool). cond b (last_cost ws) None) (sym same))

-- ---- costs as they were asked for

pub reached_as : (b : Bool) (x a y d x' a' y' d' : ℤ) → x ≡ x' → a ≡ a' → y ≡ y' → d ≡ d'
    → (IsTrue b ↔ ((x *ℤ d) ≤ℤ (y *ℤ a))) → IsTrue b ↔ ((x' *ℤ d') ≤ℤ (y' *ℤ a'))
reached_as b x a y d x' a' y' d' ex ea ey ed f =
    subst (λ (k : ℤ). IsTrue b ↔ ((k *ℤ d') ≤ℤ (y' *ℤ a'))) ex
    (subst (λ (k : ℤ). IsTrue b ↔ ((x *ℤ d') ≤ℤ (y' *ℤ k))) ea
    (subst (λ (k : ℤ). IsTrue b ↔ ((x *ℤ d') ≤ℤ (k *ℤ a))) ey
    (subst (λ (k : ℤ). IsTrue b ↔ ((x *ℤ k) ≤ℤ (y *ℤ a))) ed f)))
