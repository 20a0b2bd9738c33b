-- The names of a set, one by one, the least number first.
use Rattle.std.proofs.Common.{◌≡◌, ◌==◌, ℕ, zero, suc, ◌+◌, ◌<◌, ◌≤◌, Bool, false, ◌||◌, List, []}
use Rattle.std.proofs.Common.{◌∷◌, ◌++◌, length, map, slice_index_or, refl, sym, ap, ◌∙◌, arith}
use Rattle.std.proofs.Common.{ne_eqb, eq-eqb}
use Rattle.std.specs.Prelude.{if◌then◌else◌}
use Rattle.std.proofs.lemmas.List.{append_assoc, append-nil, length-map}
use Rattle.std.proofs.lemmas.Bool.{or_left}
use Rattle.pns_text.specs.number_sets.Sets.{has, IsBelowAll}
use Rattle.pns_text.proofs.number_sets.Cited.{below_not_had}
use Rattle.studio_words.specs.studio_rules.Lines.{names_in, spaced_names}

names_same : (s t : ℕ → Bool) (k : ℕ) (ns : List (List ℕ))
    → ((i : ℕ) → k ≤ i → i < k + length ns → s i ≡ t i) → names_in s k ns ≡ names_in t k ns
names_same s t k [] h = refl
names_same s t k (n ∷ ns) h =
    ap (λ b. if b then n ∷ names_in s (k + 1) ns else names_in s (k + 1) ns)
    (h k (omega arith) (omega arith))
    ∙ ap (λ (rest : List (List ℕ)). if t k then n ∷ rest else rest)
    (names_same s t (k + 1) ns (λ i le lt. h i (omega (arith, le)) (omega (arith, lt))))

-- a set that begins with u and the rest of it have the same numbers but for u
same_but : (u : ℕ) (rest : List ℕ) (i : ℕ) → (u ≡ i → ⊥) → has (u ∷ rest) i ≡ has rest i
same_but u rest i ne = ap (λ b. b || has rest i) (ne_eqb u i ne)

-- the name of a number that the set does not have is none of its names
names_skip : (s : ℕ → Bool) (k : ℕ) (n : List ℕ) (ns : List (List ℕ)) → s k ≡ false
    → names_in s k (n ∷ ns) ≡ names_in s (k + 1) ns
names_skip s k n ns e = ap (λ b. if b then n ∷ names_in s (k + 1) ns else names_in s (k + 1) ns) e

-- the name of the least number comes first
named_first : {X : Type 0} (f : X → List ℕ) (xs : List X) (k j u : ℕ) (x d : X) (rest : List ℕ)
    → u ≡ k + j → j < length xs → x ≡ slice_index_or xs j d → IsBelowAll u rest
    → names_in (has (u ∷ rest)) k (map f xs) ≡ f x ∷ names_in (has rest) k (map f xs)
named_first f [] k j u x d rest eu lt is below = absurd (omega (arith, lt))
named_first f (y ∷ ys) k zero u x d rest eu lt is below =
    let at : u ≡ k = omega (arith, eu) in
    ap (λ b. if b then f y ∷ names_in (has (u ∷ rest)) (k + 1) (map f ys) else names_in
    (has (u ∷ rest)) (k + 1) (map f ys)) (or_left (u == k) (has rest k) (eq-eqb u k at))
    ∙ (ap (λ (names : List (List ℕ)). f y ∷ names)
    (names_same (has (u ∷ rest)) (has rest) (k + 1) (map f ys)
    (λ i le lt. same_but u rest i (λ e. omega (arith, at, le, e)))
    ∙ sym
    (names_skip (has rest) k (f y) (map f ys)
    (below_not_had u k rest (omega (arith, at)) below)))
    ∙ ap (λ w. f w ∷ names_in (has rest) k (map f (y ∷ ys))) (sym is))
named_first f (y ∷ ys) k (suc j) u x d rest eu lt is below =
    let behind : k < u = omega (arith, eu) in
    let none : has rest k ≡ false = below_not_had u k rest (omega (arith, behind)) below in
    names_skip (has (u ∷ rest)) k (f y) (map f ys)
    (same_but u rest k (λ e. omega (arith, behind, e)) ∙ none)
    ∙ (named_first f ys (k + 1) j u x d rest (omega (arith, eu)) (omega (arith, lt)) is below
    ∙ ap (λ (names : List (List ℕ)). f x ∷ names)
    (sym (names_skip (has rest) k (f y) (map f ys) none)))

names_none : (k : ℕ) (ns : List (List ℕ)) → names_in (has []) k ns ≡ []
names_none k [] = refl
names_none k (n ∷ ns) = names_none (k + 1) ns

-- the line goes on with the name of the least number
pub line_goes_on : {X : Type 0} (f : X → List ℕ) (xs : List X) (u : ℕ) (x : X)
    (rest before after : List ℕ) → u < length xs → x ≡ slice_index_or xs u x → IsBelowAll u rest
    → after ≡ before ++ 32 ∷ f x
    → after ++ spaced_names (names_in (has rest) 0 (map f xs)) ≡ before
    ++ spaced_names (names_in (has (u ∷ rest)) 0 (map f xs))
line_goes_on f xs u x rest before after lt is below e =
    ap (λ (bytes : List ℕ). bytes ++ spaced_names (names_in (has rest) 0 (map f xs))) e
    ∙ (append_assoc before (32 ∷ f x) (spaced_names (names_in (has rest) 0 (map f xs)))
    ∙ sym
    (ap (λ (names : List (List ℕ)). before ++ spaced_names names)
    (named_first f xs 0 u u x x rest (omega arith) lt is below)))

-- a number that names nothing adds nothing
pub line_same : {X : Type 0} (f : X → List ℕ) (xs : List X) (u : ℕ) (rest before : List ℕ)
    → length xs ≤ u
    → before ++ spaced_names (names_in (has rest) 0 (map f xs)) ≡ before
    ++ spaced_names (names_in (has (u ∷ rest)) 0 (map f xs))
line_same f xs u rest before le =
    ap (λ (names : List (List ℕ)). before ++ spaced_names names)
    (sym
    (names_same (has (u ∷ rest)) (has rest) 0 (map f xs)
    (λ i _ lt. same_but u rest i (λ e. let m =
    length-map xs f in omega (arith, le, lt, m, e)))))

pub line_ends : {X : Type 0} (f : X → List ℕ) (xs : List X) (bytes all : List ℕ) (left : List ℕ)
    → left ≡ [] → bytes ++ spaced_names (names_in (has left) 0 (map f xs)) ≡ all → bytes ≡ all
line_ends f xs bytes all left e h =
    sym (ap (λ (l : List ℕ). bytes ++ spaced_names (names_in (has l) 0 (map f xs))) e
    ∙ (ap (λ (names : List (List ℕ)). bytes ++ spaced_names names) (names_none 0 (map f xs))
    ∙ append-nil bytes)) ∙ h
