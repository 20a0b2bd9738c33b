-- Lists with the same items, by exchanges of two neighbours.
use Rattle.std.proofs.Common.{◌≡◌, ℕ, zero, suc, ◌<◌, List, [], ◌∷◌, ◌++◌, length, get_or, set}
use Rattle.std.proofs.Common.{IsPermutation, ap, subst, arith}
use Rattle.std.specs.Prelude.{swap}
use Rattle.std.proofs.lemmas.List.Sorted.{IsPermutation-keeps}
use Rattle.tree_text_laws.specs.problem_rules.Each.{Each}

pub data Reorders {X : Type 0} : List X → List X → Type 0 where
  stay : {xs : List X} → Reorders xs xs
  under : {x : X} {xs ys : List X} → Reorders xs ys → Reorders (x ∷ xs) (x ∷ ys)
  turn : {x y : X} {xs : List X} → Reorders (x ∷ y ∷ xs) (y ∷ x ∷ xs)
  next : {xs ys zs : List X} → Reorders xs ys → Reorders ys zs → Reorders xs zs

-- the list has x somewhere, and also the items of `rest`
pub record IsOut {X : Type 0} (x : X) (rest ys : List X) : Type 0 where
  pub front : List X
  pub back : List X
  pub is : ys ≡ front ++ x ∷ back
  pub others : Reorders rest (front ++ back)

module _ {X : Type 0} where
  pub turned_back : (xs ys : List X) → Reorders xs ys → Reorders ys xs
  turned_back xs ys stay = stay
  turned_back xs ys (under {xs = us} {ys = vs} r) = under (turned_back us vs r)
  turned_back xs ys turn = turn
  turned_back xs ys (next {ys = us} r s) = next (turned_back us ys s) (turned_back xs us r)

  -- ---- from a permutation

  -- the first item and item j in each other's place
  first_swapped : (x d : X) (xs : List X) (j : ℕ) → j < length xs
      → Reorders (x ∷ xs) (get_or xs j d ∷ set xs j x)
  first_swapped x d [] j lt = absurd (omega arith)
  first_swapped x d (y ∷ xs) zero lt = turn
  first_swapped x d (y ∷ xs) (suc j) lt =
      next turn (next (under (first_swapped x d xs j (omega arith))) turn)

  swapped : (d : X) (xs : List X) (i j : ℕ) → i < length xs → j < length xs
      → Reorders xs (set (set xs i (get_or xs j d)) j (get_or xs i d))
  swapped d [] i j p q = absurd (omega arith)
  swapped d (x ∷ xs) zero zero p q = stay
  swapped d (x ∷ xs) zero (suc j) p q = first_swapped x d xs j (omega arith)
  swapped d (x ∷ xs) (suc i) zero p q = first_swapped x d xs i (omega arith)
  swapped d (x ∷ xs) (suc i) (suc j) p q = under (swapped d xs i j (omega arith) (omega arith))

  at_swap : (xs : List X) (i j : ℕ) → i < length xs → j < length xs → Reorders xs (swap xs i j)
  at_swap [] i j p q = absurd (omega arith)
  at_swap (d ∷ xs) i j p q = swapped d (d ∷ xs) i j p q

  pub reorders : (xs ys : List X) → IsPermutation xs ys → Reorders xs ys
  reorders xs ys h =
      IsPermutation-keeps xs (λ (l : List X). Reorders xs l) stay
      (λ l i j p q r. next r (at_swap l i j p q)) ys h

  -- ---- what both lists have

  pub each_reordered : (P : X → Type 0) (xs ys : List X) → Reorders xs ys → Each P xs → Each P ys
  each_reordered P xs ys stay h = h
  each_reordered P xs ys (under {xs = us} {ys = vs} r) h = (h.0, each_reordered P us vs r h.1)
  each_reordered P xs ys turn h = (h.1.0, (h.0, h.1.1))
  each_reordered P xs ys (next {ys = us} r s) h =
      each_reordered P us ys s (each_reordered P xs us r h)

  pub each_front : (P : X → Type 0) (xs ys : List X) → Each P (xs ++ ys) → Each P xs
  each_front P [] ys h = tt
  each_front P (x ∷ xs) ys h = (h.0, each_front P xs ys h.1)

  pub none_left : (xs ys : List X) → Reorders xs ys → xs ≡ [] → ys ≡ []
  none_left xs ys stay e = e
  none_left xs ys (under r) e = absurd cc
  none_left xs ys turn e = absurd cc
  none_left xs ys (next {ys = us} r s) e = none_left us ys s (none_left xs us r e)

  -- ---- one item taken out

  taken_under : (h x : X) (us vs a b : List X) → Reorders us vs
      → ((c : List X) → us ≡ c ++ x ∷ b → IsOut x (c ++ b) vs) → h ∷ us ≡ a ++ x ∷ b
      → IsOut x (a ++ b) (h ∷ vs)
  taken_under h x us vs [] b r more e =
      let q : us ≡ b = cc in
      record {
        front = [];
        back = vs;
        is = cc;
        others = subst (λ (l : List X). Reorders l vs) q r;
      }
  taken_under h x us vs (c ∷ a) b r more e =
      let o = more a cc in
      let q : h ≡ c = cc in
      record {
        front = h ∷ o.front;
        back = o.back;
        is = ap (λ (l : List X). h ∷ l) o.is;
        others =
            subst (λ (k : X). Reorders (k ∷ (a ++ b)) (h ∷ (o.front ++ o.back))) q (under o.others);
      }

  taken_turned : (h k x : X) (us a b : List X) → h ∷ k ∷ us ≡ a ++ x ∷ b
      → IsOut x (a ++ b) (k ∷ h ∷ us)
  taken_turned h k x us [] b e =
      let q : k ∷ us ≡ b = cc in
      record {
        front = k ∷ [];
        back = us;
        is = cc;
        others = subst (λ (l : List X). Reorders l (k ∷ us)) q stay;
      }
  taken_turned h k x us (c ∷ []) b e =
      let q : h ∷ us ≡ c ∷ b = cc in
      record {
        front = [];
        back = h ∷ us;
        is = cc;
        others = subst (λ (l : List X). Reorders l (h ∷ us)) q stay;
      }
  taken_turned h k x us (c ∷ d ∷ a) b e =
      let q : h ∷ k ∷ (a ++ b) ≡ c ∷ d ∷ (a ++ b) = cc in
      record {
        front = k ∷ h ∷ a;
        back = b;
        is = cc;
        others = subst (λ (l : List X). Reorders l (k ∷ h ∷ (a ++ b))) q turn;
      }

  pub taken_out : (x : X) (xs ys a b : List X) → Reorders xs ys → xs ≡ a ++ x ∷ b
      → IsOut x (a ++ b) ys
  taken_out x xs ys a b stay e = record { front = a; back = b; is = e; others = stay }
  taken_out x xs ys a b (under {x = h} {xs = us} {ys = vs} r) e =
      taken_under h x us vs a b r (λ c q. taken_out x us vs c b r q) e
  taken_out x xs ys a b (turn {x = h} {y = k} {xs = us}) e = taken_turned h k x us a b e
  taken_out x xs ys a b (next {ys = us} r s) e =
      let o = taken_out x xs us a b r e in
      let q = taken_out x us ys o.front o.back s o.is in
      record { front = q.front; back = q.back; is = q.is; others = next o.others q.others }
