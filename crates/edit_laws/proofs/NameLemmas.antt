-- Places of names, and names that are there once each.
use Rattle.std.proofs.Common.{◌≡◌, ℕ, zero, suc, ◌+◌, ◌<◌, ◌≤◌, Bool, true, false, cond, not, ◌||◌}
use Rattle.std.proofs.Common.{List, [], ◌∷◌, length, get_or, set, refl, sym, ap, ◌∙◌, arith}
use Rattle.std.specs.List.{insert, remove}
use Rattle.std.specs.Str.{bytes_eq}
use Rattle.std.proofs.lemmas.Slice.Eq.{bytes_eq-Decides}
use Rattle.std.proofs.lemmas.Bool.{or_parts, or_from, or_left, or_right, false≢true, both_ways}
use Rattle.std.proofs.lemmas.Bool.{false_from_ne_true}
use Rattle.edit_rules.specs.problem_rules.Names.{is_among, has_double}
use Rattle.edit_rules.specs.Place.{place_of}

-- the words of the rules, with the name first
abbrev pub knows : List ℕ → List (List ℕ) → Bool
knows name names = is_among names name

abbrev pub place : List ℕ → List (List ℕ) → ℕ
place name names = place_of names name

-- no name is there twice
abbrev pub AreApart : List (List ℕ) → Type 0
AreApart [] = Unit {0}
AreApart (x ∷ xs) = (knows x xs ≡ false) × AreApart xs

pub apart_from : (names : List (List ℕ)) → has_double names ≡ false → AreApart names
apart_from [] e = tt
apart_from (x ∷ xs) e = let p = or_parts (is_among xs x) (has_double xs) e in
    (p.0, apart_from xs p.1)

pub from_apart : (names : List (List ℕ)) → AreApart names → has_double names ≡ false
from_apart [] h = refl
from_apart (x ∷ xs) h = or_from (is_among xs x) (has_double xs) h.0 (from_apart xs h.1)

pub bytes_same : (a b : List ℕ) → bytes_eq a b ≡ true → a ≡ b
bytes_same a b e = (bytes_eq-Decides a b).0 e

pub same_bytes : (a : List ℕ) → bytes_eq a a ≡ true
same_bytes a = (bytes_eq-Decides a a).1 refl

pub other_bytes : (a b : List ℕ) → bytes_eq a b ≡ false → bytes_eq b a ≡ false
other_bytes a b e =
    false_from_ne_true (bytes_eq b a)
    (λ h. both_ways (bytes_eq a b) e ((bytes_eq-Decides a b).1 (sym (bytes_same b a h))))

-- the place of a name in a list whose first name is this one, or is not
pub place-here : (n x : List ℕ) (xs : List (List ℕ)) → bytes_eq x n ≡ true → place n (x ∷ xs) ≡ 0
place-here n x xs e = ap (λ b. cond (not b) (1 + place n xs) 0) e

after : (k : ℕ) → 1 + k ≡ suc k
after k = omega arith

pub place-later : (n x : List ℕ) (xs : List (List ℕ)) → bytes_eq x n ≡ false
    → place n (x ∷ xs) ≡ suc (place n xs)
place-later n x xs e = ap (λ b. cond (not b) (1 + place n xs) 0) e ∙ after (place n xs)

place_lt_at : (b t : Bool) (k m : ℕ) → (t ≡ true → k < m) → (b || t) ≡ true
    → cond (not b) (1 + k) 0 < suc m
place_lt_at true t k m ih e = omega arith
place_lt_at false t k m ih e = let h : k < m = ih e in omega arith

pub place-lt : (n : List ℕ) (ns : List (List ℕ)) → knows n ns ≡ true → place n ns < length ns
place-lt n [] e = absurd (false≢true e)
place-lt n (x ∷ xs) e =
    place_lt_at (bytes_eq x n) (knows n xs) (place n xs) (length xs) (place-lt n xs) e

get_or_place_at : (b t : Bool) (n x : List ℕ) (xs : List (List ℕ)) (k : ℕ) (d : List ℕ)
    → (b ≡ true → x ≡ n) → (t ≡ true → get_or xs k d ≡ n) → (b || t) ≡ true
    → get_or (x ∷ xs) (cond (not b) (1 + k) 0) d ≡ n
get_or_place_at true t n x xs k d q ih e = q refl
get_or_place_at false t n x xs k d q ih e = ap (λ j. get_or (x ∷ xs) j d) (after k) ∙ ih e

pub get_or-place : (n : List ℕ) (ns : List (List ℕ)) (d : List ℕ) → knows n ns ≡ true
    → get_or ns (place n ns) d ≡ n
get_or-place n [] d e = absurd (false≢true e)
get_or-place n (x ∷ xs) d e =
    get_or_place_at (bytes_eq x n) (knows n xs) n x xs (place n xs) d (bytes_same x n)
    (get_or-place n xs d) e

pub not_at : (x : List ℕ) (xs : List (List ℕ)) (k : ℕ) (d : List ℕ) → knows x xs ≡ false
    → k < length xs → bytes_eq (get_or xs k d) x ≡ false
not_at x [] k d e h = absurd (omega arith)
not_at x (y ∷ ys) zero d e h = (or_parts (bytes_eq y x) (knows x ys) e).0
not_at x (y ∷ ys) (suc k) d e h =
    not_at x ys k d (or_parts (bytes_eq y x) (knows x ys) e).1 (omega arith)

pub place-at : (ns : List (List ℕ)) (k : ℕ) (d : List ℕ) → AreApart ns → k < length ns
    → place (get_or ns k d) ns ≡ k
place-at [] k d a h = absurd (omega arith)
place-at (x ∷ xs) zero d a h = place-here x x xs (same_bytes x)
place-at (x ∷ xs) (suc k) d a h =
    let y = get_or xs k d in
    let less : k < length xs = omega arith in
    place-later y x xs (other_bytes y x (not_at x xs k d a.0 less))
    ∙ ap (λ j. suc j) (place-at xs k d a.1 less)

pub knows-at : (ns : List (List ℕ)) (k : ℕ) (d : List ℕ) → k < length ns
    → knows (get_or ns k d) ns ≡ true
knows-at [] k d h = absurd (omega arith)
knows-at (x ∷ xs) zero d h = or_left (bytes_eq x x) (knows x xs) (same_bytes x)
knows-at (x ∷ xs) (suc k) d h =
    or_right (bytes_eq x (get_or xs k d)) (knows (get_or xs k d) xs) (knows-at xs k d (omega arith))

-- ---- after an insertion

pub place-insert : (n : List ℕ) (ns : List (List ℕ)) (k : ℕ) → knows n ns ≡ false → k ≤ length ns
    → place n (insert ns k n) ≡ k
place-insert n ns zero e h = place-here n n ns (same_bytes n)
place-insert n [] (suc k) e h = absurd (omega arith)
place-insert n (y ∷ ys) (suc k) e h =
    let p = or_parts (bytes_eq y n) (knows n ys) e in
    place-later n y (insert ys k n) p.0 ∙ ap (λ j. suc j) (place-insert n ys k p.1 (omega arith))

pub knows-insert : (n : List ℕ) (ns : List (List ℕ)) (k : ℕ) → knows n (insert ns k n) ≡ true
knows-insert n ns zero = or_left (bytes_eq n n) (knows n ns) (same_bytes n)
knows-insert n [] (suc k) = or_left (bytes_eq n n) false (same_bytes n)
knows-insert n (y ∷ ys) (suc k) =
    or_right (bytes_eq y n) (knows n (insert ys k n)) (knows-insert n ys k)

pub not_inserted : (n x : List ℕ) (ns : List (List ℕ)) (k : ℕ) → bytes_eq x n ≡ false
    → knows n ns ≡ false → knows n (insert ns k x) ≡ false
not_inserted n x ns zero e h = or_from (bytes_eq x n) (knows n ns) e h
not_inserted n x [] (suc k) e h = or_from (bytes_eq x n) false e refl
not_inserted n x (y ∷ ys) (suc k) e h =
    let p = or_parts (bytes_eq y n) (knows n ys) h in
    or_from (bytes_eq y n) (knows n (insert ys k x)) p.0 (not_inserted n x ys k e p.1)

pub AreApart-insert : (x : List ℕ) (ns : List (List ℕ)) (k : ℕ) → knows x ns ≡ false → AreApart ns
    → AreApart (insert ns k x)
AreApart-insert x ns zero e a = (e, a)
AreApart-insert x [] (suc k) e a = (refl, tt)
AreApart-insert x (y ∷ ys) (suc k) e a =
    let p = or_parts (bytes_eq y x) (knows x ys) e in
    (not_inserted y x ys k (other_bytes y x p.0) a.0, AreApart-insert x ys k p.1 a.1)

-- ---- after a removal

pub not_removed : (n : List ℕ) (ns : List (List ℕ)) (k : ℕ) → knows n ns ≡ false
    → knows n (remove ns k) ≡ false
not_removed n [] zero e = refl
not_removed n [] (suc k) e = refl
not_removed n (y ∷ ys) zero e = (or_parts (bytes_eq y n) (knows n ys) e).1
not_removed n (y ∷ ys) (suc k) e =
    let p = or_parts (bytes_eq y n) (knows n ys) e in
    or_from (bytes_eq y n) (knows n (remove ys k)) p.0 (not_removed n ys k p.1)

pub AreApart-remove : (ns : List (List ℕ)) (k : ℕ) → AreApart ns → AreApart (remove ns k)
AreApart-remove [] zero a = a
AreApart-remove [] (suc k) a = a
AreApart-remove (y ∷ ys) zero a = a.1
AreApart-remove (y ∷ ys) (suc k) a = (not_removed y ys k a.0, AreApart-remove ys k a.1)

-- a name that was removed is gone
pub gone : (ns : List (List ℕ)) (k : ℕ) (d : List ℕ) → AreApart ns → k < length ns
    → knows (get_or ns k d) (remove ns k) ≡ false
gone [] k d a h = absurd (omega arith)
gone (y ∷ ys) zero d a h = a.0
gone (y ∷ ys) (suc k) d a h =
    let less : k < length ys = omega arith in
    or_from (bytes_eq y (get_or ys k d)) (knows (get_or ys k d) (remove ys k))
    (other_bytes (get_or ys k d) y (not_at y ys k d a.0 less)) (gone ys k d a.1 less)

-- ---- after a renaming

pub place-set : (n : List ℕ) (ns : List (List ℕ)) (k : ℕ) → knows n ns ≡ false → k < length ns
    → place n (set ns k n) ≡ k
place-set n [] k e h = absurd (omega arith)
place-set n (y ∷ ys) zero e h = place-here n n ys (same_bytes n)
place-set n (y ∷ ys) (suc k) e h =
    let p = or_parts (bytes_eq y n) (knows n ys) e in
    place-later n y (set ys k n) p.0 ∙ ap (λ j. suc j) (place-set n ys k p.1 (omega arith))

pub knows-set : (n : List ℕ) (ns : List (List ℕ)) (k : ℕ) → k < length ns
    → knows n (set ns k n) ≡ true
knows-set n [] k h = absurd (omega arith)
knows-set n (y ∷ ys) zero h = or_left (bytes_eq n n) (knows n ys) (same_bytes n)
knows-set n (y ∷ ys) (suc k) h =
    or_right (bytes_eq y n) (knows n (set ys k n)) (knows-set n ys k (omega arith))

pub not_set : (n x : List ℕ) (ns : List (List ℕ)) (k : ℕ) → bytes_eq x n ≡ false
    → knows n ns ≡ false → knows n (set ns k x) ≡ false
not_set n x [] zero e h = refl
not_set n x [] (suc k) e h = refl
not_set n x (y ∷ ys) zero e h =
    or_from (bytes_eq x n) (knows n ys) e (or_parts (bytes_eq y n) (knows n ys) h).1
not_set n x (y ∷ ys) (suc k) e h =
    let p = or_parts (bytes_eq y n) (knows n ys) h in
    or_from (bytes_eq y n) (knows n (set ys k x)) p.0 (not_set n x ys k e p.1)

pub AreApart-set : (x : List ℕ) (ns : List (List ℕ)) (k : ℕ) → knows x ns ≡ false → AreApart ns
    → AreApart (set ns k x)
AreApart-set x [] zero e a = a
AreApart-set x [] (suc k) e a = a
AreApart-set x (y ∷ ys) zero e a = ((or_parts (bytes_eq y x) (knows x ys) e).1, a.1)
AreApart-set x (y ∷ ys) (suc k) e a =
    let p = or_parts (bytes_eq y x) (knows x ys) e in
    (not_set y x ys k (other_bytes y x p.0) a.0, AreApart-set x ys k p.1 a.1)

-- the name that was there is gone
pub renamed : (x : List ℕ) (ns : List (List ℕ)) (k : ℕ) (d : List ℕ) → AreApart ns → k < length ns
    → knows x ns ≡ false → knows (get_or ns k d) (set ns k x) ≡ false
renamed x [] k d a h e = absurd (omega arith)
renamed x (y ∷ ys) zero d a h e =
    or_from (bytes_eq x y) (knows y ys) (other_bytes y x (or_parts (bytes_eq y x) (knows x ys) e).0)
    a.0
renamed x (y ∷ ys) (suc k) d a h e =
    let less : k < length ys = omega arith in
    let z = get_or ys k d in
    or_from (bytes_eq y z) (knows z (set ys k x)) (other_bytes z y (not_at y ys k d a.0 less))
    (renamed x ys k d a.1 less (or_parts (bytes_eq y x) (knows x ys) e).1)
