-- The order of listed networks: none costs more than the last, and no two are alike.
use Rattle.std.proofs.Common.{◌≡◌, ◌⊎◌, ℕ, zero, suc, ℤ, pos, ◌*ℤ◌, ◌≤ℤ◌, ◌<ℤ◌, Bool, true, false}
use Rattle.std.proofs.Common.{List, []}
use Rattle.std.proofs.Common.{◌∷◌, Option, Some, None, refl, sym, ap, ◌∙◌, subst, inl, inr, arith}
use Rattle.std.proofs.lemmas.Int.{ints, by_lt_z}
use Rattle.rank_rules.proofs.integer_laws.Cited.{ring_z, mul-le_left, cancel_le}
use Rattle.rank_rules.specs.number_sets.Sets.{has}
use Rattle.rank_rules.specs.problem_rules.Problem.{Problem}
use Rattle.rank_rules.specs.tree_rules.Claim.{Network, CostOver, IsAtLeast, IsFeasible}
use Rattle.tree_laws.proofs.Cited.{HasScale}
use Rattle.rank_rules.specs.Networks.{cost_of, network_at, numbered, IsListed, last_cost}
use Rattle.rank_rules.specs.Networks.{IsNoCheaper, AreAlike, IsNewTo, ArePassing}

-- x / a is at most y / b, and y / b at most z / c
pub at_least_too : (x a y b z c : ℤ) → pos 1 ≤ℤ a → pos 1 ≤ℤ b → pos 1 ≤ℤ c → (x *ℤ b) ≤ℤ (y *ℤ a)
    → (y *ℤ c) ≤ℤ (z *ℤ b) → (x *ℤ c) ≤ℤ (z *ℤ a)
at_least_too x a y b z c ha hb hc h k =
    let p : (c *ℤ (x *ℤ b)) ≤ℤ (c *ℤ (y *ℤ a)) =
    mul-le_left c (x *ℤ b) (y *ℤ a) h (omega (arith, ints)) in
    let q : (a *ℤ (y *ℤ c)) ≤ℤ (a *ℤ (z *ℤ b)) =
    mul-le_left a (y *ℤ c) (z *ℤ b) k (omega (arith, ints)) in
    let one : c *ℤ (x *ℤ b) ≡ b *ℤ (x *ℤ c) = omega (arith, ring_z) in
    let two : c *ℤ (y *ℤ a) ≡ a *ℤ (y *ℤ c) = omega (arith, ring_z) in
    let three : a *ℤ (z *ℤ b) ≡ b *ℤ (z *ℤ a) = omega (arith, ring_z) in
    let positive : pos 0 <ℤ b = omega (arith, ints) in
    cancel_le b (x *ℤ c) (z *ℤ a) positive (omega (arith, ints))

some_is : {X : Type 0} (x y : X) → Some x ≡ Some y → x ≡ y
some_is x y e = cc

none_is : {X : Type 0} (x : X) → None ≡ Some x → ⊥
none_is x e = absurd cc

-- ---- the last network

-- what the network w costs is at most what the last of the others does; if there is none, they cost
-- the same
abbrev pub AtMostLast : Network → Option CostOver → Type 0
AtMostLast w None = ⊥
AtMostLast w (Some last) = (pos 1 ≤ℤ last.d) × IsAtLeast (Some (cost_of w)) last.cost last.d

itself : (w : Network) → pos 1 ≤ℤ w.d → IsNoCheaper w w
itself w h = omega (arith, ints)

-- w comes before the networks vs, the first of which costs at least what w does
before_last : (distinct : Bool) (p : Problem) (earlier : List Network) (w v : Network)
    (vs : List Network) → pos 1 ≤ℤ w.d → IsNoCheaper w v → ArePassing distinct p earlier (v ∷ vs)
    → AtMostLast w (last_cost (v ∷ vs))
before_last distinct p earlier w v [] h rises a = (a.0.flows.positive, rises)
before_last distinct p earlier w v (u ∷ us) h rises a =
    before_last distinct p (v ∷ earlier) w u us h
    (at_least_too w.cost w.d v.cost v.d u.cost u.d h a.0.flows.positive a.2.0.flows.positive rises
    a.2.1.0)
    a.2

place_at_most : (distinct : Bool) (p : Problem) (earlier ws : List Network) (k : ℕ) (w : Network)
    → ArePassing distinct p earlier ws → network_at k ws ≡ Some w → AtMostLast w (last_cost ws)
place_at_most distinct p earlier [] k w a e = absurd (none_is w e)
place_at_most distinct p earlier (v ∷ []) zero w a e =
    subst (λ (x : Network). AtMostLast x (Some (cost_of v))) (some_is v w e)
    (a.0.flows.positive, itself v a.0.flows.positive)
place_at_most distinct p earlier (v ∷ u ∷ us) zero w a e =
    subst (λ (x : Network). AtMostLast x (last_cost (u ∷ us))) (some_is v w e)
    (before_last distinct p (v ∷ earlier) v u us a.0.flows.positive a.2.1.0 a.2)
place_at_most distinct p earlier (v ∷ []) (suc k) w a e = absurd (none_is w e)
place_at_most distinct p earlier (v ∷ u ∷ us) (suc k) w a e =
    place_at_most distinct p (v ∷ earlier) (u ∷ us) k w a.2 e

pub at_most_last : (distinct : Bool) (p : Problem) (ws : List Network) (k : ℕ) (w : Network)
    → ArePassing distinct p [] ws → numbered k ws ≡ Some w → AtMostLast w (last_cost ws)
at_most_last distinct p ws zero w a e = absurd (none_is w e)
at_most_last distinct p ws (suc k) w a e = place_at_most distinct p [] ws k w a e

-- each network costs at least what the one before it does
place_rises : (distinct : Bool) (p : Problem) (earlier ws : List Network) (k : ℕ) (v w : Network)
    → ArePassing distinct p earlier ws → network_at k ws ≡ Some v → network_at (suc k) ws ≡ Some w
    → IsNoCheaper v w
place_rises distinct p earlier [] k v w a d e = absurd (none_is v d)
place_rises distinct p earlier (x ∷ []) zero v w a d e = absurd (none_is w e)
place_rises distinct p earlier (x ∷ y ∷ ys) zero v w a d e =
    subst (λ (u : Network). IsNoCheaper u w) (some_is x v d)
    (subst (λ (u : Network). IsNoCheaper x u) (some_is y w e) a.2.1.0)
place_rises distinct p earlier (x ∷ xs) (suc k) v w a d e =
    place_rises distinct p (x ∷ earlier) xs k v w a.2 d e

pub next_rises : (distinct : Bool) (p : Problem) (ws : List Network) (k : ℕ) (v w : Network)
    → ArePassing distinct p [] ws → numbered k ws ≡ Some v → numbered (suc k) ws ≡ Some w
    → IsNoCheaper v w
next_rises distinct p ws zero v w a d e = absurd (none_is v d)
next_rises distinct p ws (suc k) v w a d e = place_rises distinct p [] ws k v w a d e

-- ---- scales

pub positive_scale : (p : Problem) (w : Network) → IsFeasible p w → HasScale (Some (cost_of w))
positive_scale p w f = let h : pos 1 ≤ℤ w.d = f.flows.positive in omega (arith, ints)

pub last_scale : (distinct : Bool) (p : Problem) (earlier ws : List Network)
    → ArePassing distinct p earlier ws → HasScale (last_cost ws)
last_scale distinct p earlier [] a = tt
last_scale distinct p earlier (w ∷ []) a = positive_scale p w a.0
last_scale distinct p earlier (w ∷ v ∷ vs) a = last_scale distinct p (w ∷ earlier) (v ∷ vs) a.2

-- ---- networks that are alike

-- of two networks with the same units one contains those of the other and costs no less
pub alike_if_same : (distinct : Bool) (v w : Network) → ((u : ℕ) → has v.units u ≡ has w.units u)
    → AreAlike distinct v w
alike_if_same false v w same = same
alike_if_same true v w same =
    by_lt_z (v.cost *ℤ w.d) (w.cost *ℤ v.d)
    (λ less. let no_more : (v.cost *ℤ w.d) ≤ℤ (w.cost *ℤ v.d) = omega (arith, ints, less) in
    inr ((λ u e. sym (same u) ∙ e), no_more))
    (λ no_less. inl ((λ u e. same u ∙ e), no_less))

turned : (distinct : Bool) (v w : Network) → AreAlike distinct v w → AreAlike distinct w v
turned false v w same = λ u. sym (same u)
turned true v w (inl r) = inr r
turned true v w (inr r) = inl r

-- the network w is among the others
abbrev IsAmong : Network → List Network → Type 0
IsAmong w [] = ⊥
IsAmong w (v ∷ vs) = (v ≡ w) ⊎ IsAmong w vs

not_new : (distinct : Bool) (vs : List Network) (v w : Network) → IsAmong v vs
    → IsNewTo distinct vs w → AreAlike distinct v w → ⊥
not_new distinct [] v w i new like = i
not_new distinct (x ∷ xs) v w (inl e) new like =
    new.0 (subst (λ (y : Network). AreAlike distinct y w) (sym e) like)
not_new distinct (x ∷ xs) v w (inr i) new like = not_new distinct xs v w i new.1 like

not_later : (distinct : Bool) (p : Problem) (earlier ws : List Network) (k : ℕ) (v w : Network)
    → IsAmong v earlier → ArePassing distinct p earlier ws → network_at k ws ≡ Some w
    → AreAlike distinct v w → ⊥
not_later distinct p earlier [] k v w i a e like = none_is w e
not_later distinct p earlier (x ∷ xs) zero v w i a e like =
    not_new distinct earlier v x i a.1.1
    (subst (λ (y : Network). AreAlike distinct v y) (sym (some_is x w e)) like)
not_later distinct p earlier (x ∷ xs) (suc k) v w i a e like =
    not_later distinct p (x ∷ earlier) xs k v w (inr i) a.2 e like

-- of two places whose networks are alike neither is the later one
place_one : (distinct : Bool) (p : Problem) (earlier ws : List Network) (j k : ℕ) (v w : Network)
    → ArePassing distinct p earlier ws → network_at j ws ≡ Some v → network_at k ws ≡ Some w
    → AreAlike distinct v w → j ≡ k
place_one distinct p earlier [] j k v w a d e like = absurd (none_is v d)
place_one distinct p earlier (x ∷ xs) zero zero v w a d e like = refl
place_one distinct p earlier (x ∷ xs) zero (suc k) v w a d e like =
    absurd (not_later distinct p (x ∷ earlier) xs k v w (inl (some_is x v d)) a.2 e like)
place_one distinct p earlier (x ∷ xs) (suc j) zero v w a d e like =
    absurd
    (not_later distinct p (x ∷ earlier) xs j w v (inl (some_is x w e)) a.2 d
    (turned distinct v w like))
place_one distinct p earlier (x ∷ xs) (suc j) (suc k) v w a d e like =
    ap suc (place_one distinct p (x ∷ earlier) xs j k v w a.2 d e like)

pub one_place : (distinct : Bool) (p : Problem) (ws : List Network) (j k : ℕ) (v w : Network)
    → ArePassing distinct p [] ws → numbered j ws ≡ Some v → numbered k ws ≡ Some w
    → AreAlike distinct v w → j ≡ k
one_place distinct p ws zero k v w a d e like = absurd (none_is v d)
one_place distinct p ws (suc j) zero v w a d e like = absurd (none_is w e)
one_place distinct p ws (suc j) (suc k) v w a d e like =
    ap suc (place_one distinct p [] ws j k v w a d e like)

pub one_network : (distinct : Bool) (p : Problem) (ws : List Network) (j k : ℕ) (v w : Network)
    → ArePassing distinct p [] ws → numbered j ws ≡ Some v → numbered k ws ≡ Some w
    → AreAlike distinct v w → v ≡ w
one_network distinct p ws j k v w a d e like =
    some_is v w
    (sym d
    ∙ (ap (λ (i : ℕ). numbered i ws) (one_place distinct p ws j k v w a d e like) ∙ e))

-- ---- listed units

place_listed : (ws : List Network) (k : ℕ) (w : Network) (s : ℕ → Bool) → network_at k ws ≡ Some w
    → ((u : ℕ) → s u ≡ has w.units u) → IsListed ws s
place_listed [] k w s e h = absurd (none_is w e)
place_listed (v ∷ vs) zero w s e h =
    inl (λ u. h u ∙ ap (λ (y : Network). has y.units u) (sym (some_is v w e)))
place_listed (v ∷ vs) (suc k) w s e h = inr (place_listed vs k w s e h)

pub is_listed : (ws : List Network) (k : ℕ) (w : Network) (s : ℕ → Bool) → numbered k ws ≡ Some w
    → ((u : ℕ) → s u ≡ has w.units u) → IsListed ws s
is_listed ws zero w s e h = absurd (none_is w e)
is_listed ws (suc k) w s e h = place_listed ws k w s e h

place_feasible : (distinct : Bool) (p : Problem) (earlier ws : List Network) (k : ℕ) (w : Network)
    → ArePassing distinct p earlier ws → network_at k ws ≡ Some w → IsFeasible p w
place_feasible distinct p earlier [] k w a e = absurd (none_is w e)
place_feasible distinct p earlier (v ∷ vs) zero w a e =
    subst (λ (x : Network). IsFeasible p x) (some_is v w e) a.0
place_feasible distinct p earlier (v ∷ vs) (suc k) w a e =
    place_feasible distinct p (v ∷ earlier) vs k w a.2 e

pub listed_feasible : (distinct : Bool) (p : Problem) (ws : List Network) (k : ℕ) (w : Network)
    → ArePassing distinct p [] ws → numbered k ws ≡ Some w → IsFeasible p w
listed_feasible distinct p ws zero w a e = absurd (none_is w e)
listed_feasible distinct p ws (suc k) w a e = place_feasible distinct p [] ws k w a e
