-- Insertion, removal and writing at a place, as inverses of one another; and what is true of each
-- item.
use Rattle.std.proofs.Common.{◌≡◌, ℕ, zero, suc, ◌<◌, ◌≤◌, Bool, false, List, [], ◌∷◌, length, map}
use Rattle.std.proofs.Common.{get_or, set, refl, ap, arith}
use Rattle.std.specs.List.{insert, remove, list_any}
use Rattle.std.proofs.lemmas.Bool.{or_parts, or_from}
use Rattle.edit_rules.specs.problem_rules.Each.{Each}

pub remove-insert : {X : Type 0} (xs : List X) (k : ℕ) (x : X) → k ≤ length xs
    → remove (insert xs k x) k ≡ xs
remove-insert xs zero x h = refl
remove-insert [] (suc k) x h = absurd (omega arith)
remove-insert (y ∷ ys) (suc k) x h = ap (λ zs. y ∷ zs) (remove-insert ys k x (omega arith))

pub insert-remove : {X : Type 0} (xs : List X) (k : ℕ) (d : X) → k < length xs
    → insert (remove xs k) k (get_or xs k d) ≡ xs
insert-remove [] k d h = absurd (omega arith)
insert-remove (y ∷ ys) zero d h = refl
insert-remove (y ∷ ys) (suc k) d h = ap (λ zs. y ∷ zs) (insert-remove ys k d (omega arith))

pub map-insert : {X Y : Type 0} (f : X → Y) (xs : List X) (k : ℕ) (x : X)
    → map f (insert xs k x) ≡ insert (map f xs) k (f x)
map-insert f xs zero x = refl
map-insert f [] (suc k) x = refl
map-insert f (y ∷ ys) (suc k) x = ap (λ zs. f y ∷ zs) (map-insert f ys k x)

pub map-remove : {X Y : Type 0} (f : X → Y) (xs : List X) (k : ℕ)
    → map f (remove xs k) ≡ remove (map f xs) k
map-remove f [] zero = refl
map-remove f [] (suc k) = refl
map-remove f (y ∷ ys) zero = refl
map-remove f (y ∷ ys) (suc k) = ap (λ zs. f y ∷ zs) (map-remove f ys k)

pub map-set_at : {X Y : Type 0} (f : X → Y) (xs : List X) (k : ℕ) (x : X)
    → map f (set xs k x) ≡ set (map f xs) k (f x)
map-set_at f [] zero x = refl
map-set_at f [] (suc k) x = refl
map-set_at f (y ∷ ys) zero x = refl
map-set_at f (y ∷ ys) (suc k) x = ap (λ zs. f y ∷ zs) (map-set_at f ys k x)

pub map-at : {X Y : Type 0} (f : X → Y) (xs : List X) (k : ℕ) (d : X)
    → get_or (map f xs) k (f d) ≡ f (get_or xs k d)
map-at f [] zero d = refl
map-at f [] (suc k) d = refl
map-at f (y ∷ ys) zero d = refl
map-at f (y ∷ ys) (suc k) d = map-at f ys k d

pub map_back : {X Y : Type 0} (f : X → Y) (g : Y → X) (xs : List X) → Each (λ x. g (f x) ≡ x) xs
    → map g (map f xs) ≡ xs
map_back f g [] h = refl
map_back f g (x ∷ xs) h = λ i. h.0 i ∷ map_back f g xs h.1 i

-- ---- each item

pub Each-at : {X : Type 0} (P : X → Type 0) (xs : List X) (k : ℕ) (d : X) → k < length xs
    → Each P xs → P (get_or xs k d)
Each-at P [] k d h e = absurd (omega arith)
Each-at P (x ∷ xs) zero d h e = e.0
Each-at P (x ∷ xs) (suc k) d h e = Each-at P xs k d (omega arith) e.1

pub Each-insert : {X : Type 0} (P : X → Type 0) (xs : List X) (k : ℕ) (x : X) → P x → Each P xs
    → Each P (insert xs k x)
Each-insert P xs zero x p e = (p, e)
Each-insert P [] (suc k) x p e = (p, e)
Each-insert P (y ∷ ys) (suc k) x p e = (e.0, Each-insert P ys k x p e.1)

pub Each-remove : {X : Type 0} (P : X → Type 0) (xs : List X) (k : ℕ) → Each P xs
    → Each P (remove xs k)
Each-remove P [] zero e = e
Each-remove P [] (suc k) e = e
Each-remove P (y ∷ ys) zero e = e.1
Each-remove P (y ∷ ys) (suc k) e = (e.0, Each-remove P ys k e.1)

pub Each-set : {X : Type 0} (P : X → Type 0) (xs : List X) (k : ℕ) (x : X) → P x → Each P xs
    → Each P (set xs k x)
Each-set P [] zero x p e = e
Each-set P [] (suc k) x p e = e
Each-set P (y ∷ ys) zero x p e = (p, e.1)
Each-set P (y ∷ ys) (suc k) x p e = (e.0, Each-set P ys k x p e.1)

pub Each-map : {X Y : Type 0} (P : X → Type 0) (Q : Y → Type 0) (f : X → Y) (xs : List X)
    → ((x : X) → P x → Q (f x)) → Each P xs → Each Q (map f xs)
Each-map P Q f [] h e = tt
Each-map P Q f (x ∷ xs) h e = (h x e.0, Each-map P Q f xs h e.1)

pub Each-both : {X : Type 0} (P Q R : X → Type 0) (xs : List X) → ((x : X) → P x → Q x → R x)
    → Each P xs → Each Q xs → Each R xs
Each-both P Q R [] h e f = tt
Each-both P Q R (x ∷ xs) h e f = (h x e.0 f.0, Each-both P Q R xs h e.1 f.1)

-- a test that no item passes
pub Each-from_none : {X : Type 0} (t : X → Bool) (xs : List X) → list_any t xs ≡ false
    → Each (λ x. t x ≡ false) xs
Each-from_none t [] e = tt
Each-from_none t (x ∷ xs) e = let h = or_parts (t x) (list_any t xs) e in
    (h.0, Each-from_none t xs h.1)

pub none_from_Each : {X : Type 0} (t : X → Bool) (xs : List X) → Each (λ x. t x ≡ false) xs
    → list_any t xs ≡ false
none_from_Each t [] e = refl
none_from_Each t (x ∷ xs) e = or_from (t x) (list_any t xs) e.0 (none_from_Each t xs e.1)
