-- Makers that are led from node to node.
use Rattle.std.proofs.Common.{◌≡◌, ◌==◌, ℕ, zero, suc, ◌+◌, ◌<◌, ◌≤◌, Bool, true, false, not, ◌||◌}
use Rattle.std.proofs.Common.{◌&&◌, cond, List, [], ◌∷◌, ◌++◌, length, take, get_or, refl, sym, ap}
use Rattle.std.proofs.Common.{◌∙◌, subst, arith, inl, inr, eqb-true, eq-eqb}
use Rattle.std.specs.List.{prefix_len}
use Rattle.std.proofs.lemmas.List.{take_more, get_or-take, length-take-le}
use Rattle.std.proofs.lemmas.Bool.{both_ways, or_cases, or_left, or_right}
use Rattle.pgraph.specs.problem_rules.Each.{Each}
use Rattle.pgraph.specs.number_sets.Sets.{has, kept, minus, with_number}
use Rattle.pgraph.proofs.number_sets.Cited.{has-append, has-minus, has-with_number}
use Rattle.neutral_extension.specs.Candidates.{front_within, led}

pub Each-push : {X : Type 0} (P : X → Type 0) (xs : List X) (x : X) → Each P xs → P x
    → Each P (xs ++ x ∷ [])
Each-push P [] x h p = (p, tt)
Each-push P (y ∷ ys) x h p = (h.0, Each-push P ys x h.1 p)

-- the first units and one more
pub has_more : (xs : List ℕ) (i : ℕ) (u : ℕ) → i < length xs
    → has (take (i + 1) xs) u ≡ ((get_or xs i 0 == u) || has (take i xs) u)
has_more xs i u lt =
    ap (λ ys. has ys u) (take_more xs i 0 lt)
    ∙ (has-append (take i xs) (get_or xs i 0 ∷ []) u
    ∙ turned (has (take i xs) u) (get_or xs i 0 == u))
  where
    turned : (a b : Bool) → (a || (b || false)) ≡ (b || a)
    turned true true = refl
    turned true false = refl
    turned false true = refl
    turned false false = refl

-- the front is in the set
pub front_in : (set us : List ℕ) (u : ℕ) → has (front_within set us) u ≡ true → has set u ≡ true
front_in set [] u h = absurd (both_ways false refl h)
front_in set (v ∷ vs) u h = at (has set v) refl (front_in set vs u) h
  where
    one : (n : ℕ) → 1 + n ≡ suc n
    one n = omega arith

    at : (b : Bool) → has set v ≡ b → (has (front_within set vs) u ≡ true → has set u ≡ true)
        → has (take (cond b (1 + prefix_len (has set) vs) 0) (v ∷ vs)) u ≡ true → has set u ≡ true
    at true e rest k =
        elim
        (or_cases (v == u) (has (front_within set vs) u)
        (subst (λ n. has (take n (v ∷ vs)) u ≡ true) (one (prefix_len (has set) vs)) k)) [
          | inl q ↦ subst (λ w. has set w ≡ true) (eqb-true v u q) e
          | inr q ↦ rest q
        ]
    at false e rest k = absurd (both_ways false refl k)

pub led_has : (set us : List ℕ) (u : ℕ) → has (led set us) u ≡ has set u
led_has set us u =
    has-append (front_within set us) (minus set (front_within set us)) u
    ∙ (ap (λ b. has (front_within set us) u || b) (has-minus set (front_within set us) u)
    ∙ together (has (front_within set us) u) (has set u) (front_in set us u))
  where
    together : (a b : Bool) → (a ≡ true → b ≡ true) → (a || (b && not a)) ≡ b
    together true b h = sym (h refl)
    together false true h = refl
    together false false h = refl

-- ---- a unit that is read
module _ (order taken : List ℕ) (count k u : ℕ) (lt : k < count) (room : count ≤ length order)
    (ts : take count order ≡ taken) (is_u : u ≡ get_or order k 0) where
  pub read_is : get_or taken k 0 ≡ u
  read_is = ap (λ t. get_or t k 0) (sym ts) ∙ (get_or-take count order k 0 lt ∙ sym is_u)

  pub within : k < length taken
  within = let n = ap (λ t. length t) (sym ts) ∙ length-take-le count order room in
      omega (arith, n, lt)

  pub read_has : has taken u ≡ true
  read_has = subst (λ v. has taken v ≡ true) read_is (had taken k within)
    where
      had : (xs : List ℕ) (i : ℕ) → i < length xs → has xs (get_or xs i 0) ≡ true
      had [] i l = absurd (omega (arith, l))
      had (x ∷ xs) zero l = or_left (x == x) (has xs x) (eq-eqb x x refl)
      had (x ∷ xs) (suc i) l =
          or_right (x == get_or xs i 0) (has xs (get_or xs i 0)) (had xs i (omega (arith, l)))

  pub read_more : (set : List ℕ) → ((v : ℕ) → has set v ≡ has (take k taken) v) → (v : ℕ)
      → has (with_number u set) v ≡ has (take (k + 1) taken) v
  read_more set h v = has-with_number u set v
      ∙ (ap (λ b. (u == v) || b) (h v)
      ∙ sym (has_more taken k v within ∙ ap (λ w. (w == v) || has (take k taken) v) read_is))

  pub read_below : (n : ℕ) → ((v : ℕ) → has (take count order) v ≡ true → v < n) → u < n
  read_below n h = h u (subst (λ t. has t u ≡ true) (sym ts) read_has)

-- what is kept, and what else is in the set
pub led_by : (set us mid out : List ℕ) (n : ℕ) → n ≡ prefix_len (has set) us → mid ≡ take n us
    → ((u : ℕ) → has out u ≡ has mid u) → mid ++ minus set out ≡ led set us
led_by set us mid out n en em eo =
    ap (λ (t : ℕ → Bool). mid ++ kept t set) (λ i. λ u. not (eo u i))
    ∙ ap (λ xs. xs ++ minus set xs) (em ∙ ap (λ k. take k us) en)
