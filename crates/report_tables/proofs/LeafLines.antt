-- The lines of leaves.
use Rattle.std.proofs.Common.{◌≡◌, ℕ, zero, suc, List, [], ◌∷◌, ◌+◌, ◌<◌, take, drop}
use Rattle.std.proofs.Common.{get_or, length, refl, sym, ap, subst, ◌∙◌, true, false, ◌==◌}
use Rattle.std.proofs.Common.{eqb-true, arith}
use Rattle.std.specs.Prelude.{flat_map}
use Rattle.std.specs.List.{AllByRecursion}
use Rattle.std.proofs.lemmas.List.{length-map, drop_more}
use Rattle.text_lines.specs.problem_rules.Problem.{Problem}
use Rattle.cert_check.specs.tree_rules.Accepted.{Tree}
use Rattle.cert_check.specs.declared.open_leaf.OpenLeaf.{OpenLeaf}
use Rattle.report_amounts.specs.report_rules.Clash.{RefutedAt, leaf_lines, count_line, leaves_lines}
use Rattle.report_tables.specs.View.{leaf_of, leaves_of, IsGood}
use Rattle.report_tables.proofs.LeafLists.{all_taken}

pub some_leaves : (p : Problem) (ls : List RefutedAt) → (ls ≡ [] → ⊥)
    → count_line (length (take 10 ls)) (length ls) ∷ flat_map (leaf_lines p) (take 10 ls)
    ≡ leaves_lines p ls
some_leaves p [] h = absurd (h refl)
some_leaves p (l ∷ ls) h = refl

pub no_leaves : (p : Problem) (ls : List RefutedAt) → ls ≡ [] → [] ≡ leaves_lines p ls
no_leaves p ls e = ap (λ (l : List RefutedAt). leaves_lines p l) (sym e)

-- the leaf at a place, and those after it
pub leaf_ahead : (ts : Tree) (xs : List OpenLeaf) (i : ℕ) (x : OpenLeaf) → i < length xs
    → x ≡ get_or xs i x → leaves_of ts (drop i xs) ≡ leaf_of ts x ∷ leaves_of ts (drop (i + 1) xs)
leaf_ahead ts xs i x less is =
    ap (λ (ls : List OpenLeaf). leaves_of ts ls)
    (drop_more xs i x less ∙ ap (λ (y : OpenLeaf). y ∷ drop (i + 1) xs) (sym is))

none_of : (ts : Tree) (xs : List OpenLeaf) → leaves_of ts xs ≡ [] → xs ≡ []
none_of ts [] e = refl
none_of ts (x ∷ xs) e = cc

ten_of : (ts : Tree) (n : ℕ) (xs : List OpenLeaf)
    → leaves_of ts (take n xs) ≡ take n (leaves_of ts xs)
ten_of ts zero xs = refl
ten_of ts (suc n) [] = refl
ten_of ts (suc n) (x ∷ xs) = ap (λ (ls : List RefutedAt). leaf_of ts x ∷ ls) (ten_of ts n xs)

-- the leaves that are shown, by which the lines are all
pub clashes_are : (p : Problem) (ts : Tree) (xs shown : List OpenLeaf) → shown ≡ take 10 xs
    → (xs ≡ [] → ⊥)
    → count_line (length shown) (length xs) ∷ flat_map (leaf_lines p) (leaves_of ts shown)
    ≡ leaves_lines p (leaves_of ts xs)
clashes_are p ts xs shown e some =
    ap (λ (n : ℕ). count_line n (length xs) ∷ flat_map (leaf_lines p) (leaves_of ts shown)) few
    ∙ ap (λ (n : ℕ). count_line (length (take 10 (leaves_of ts xs))) n
    ∷ flat_map (leaf_lines p) (leaves_of ts shown)) all
    ∙ ap (λ (ls : List RefutedAt).
    count_line (length (take 10 (leaves_of ts xs))) (length (leaves_of ts xs))
    ∷ flat_map (leaf_lines p) ls) same
    ∙ some_leaves p (leaves_of ts xs) (λ none. some (none_of ts xs none))
  where
    same : leaves_of ts shown ≡ take 10 (leaves_of ts xs)
    same = ap (λ (ls : List OpenLeaf). leaves_of ts ls) e ∙ ten_of ts 10 xs

    all : length xs ≡ length (leaves_of ts xs)
    all = sym (length-map xs (leaf_of ts))

    few : length shown ≡ length (take 10 (leaves_of ts xs))
    few = sym (length-map shown (leaf_of ts)) ∙ ap (λ (ls : List RefutedAt). length ls) same

pub good_shown : (p : Problem) (ts : Tree) (xs shown : List OpenLeaf) → shown ≡ take 10 xs
    → AllByRecursion (IsGood p) (leaves_of ts xs) → AllByRecursion (IsGood p) (leaves_of ts shown)
good_shown p ts xs shown e good =
    subst (λ (ls : List RefutedAt). AllByRecursion (IsGood p) ls)
    (sym (ap (λ (ls : List OpenLeaf). leaves_of ts ls) e ∙ ten_of ts 10 xs))
    (all_taken (IsGood p) 10 (leaves_of ts xs) good)

pub empty_leaves : (p : Problem) (ts : Tree) (xs : List OpenLeaf) → (length xs == 0) ≡ true
    → [] ≡ leaves_lines p (leaves_of ts xs)
empty_leaves p ts [] e = refl
empty_leaves p ts (x ∷ xs) e =
    let f : length (x ∷ xs) ≡ 0 = eqb-true (length (x ∷ xs)) 0 e in
    absurd (omega arith)

pub some_leaf : (xs : List OpenLeaf) → (length xs == 0) ≡ false → xs ≡ [] → ⊥
some_leaf [] e f = let g : true ≡ false = e in cc
some_leaf (x ∷ xs) e f = cc
