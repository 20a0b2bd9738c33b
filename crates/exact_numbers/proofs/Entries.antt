-- The combined row, entry after entry.
use Rattle.std.proofs.Common.{◌≡◌, ℕ, refl, sym, ap, ◌∙◌, arith, pos, ℤ, ◌-ℤ◌, ◌*ℤ◌, ◌+◌, ◌-◌, ◌≤◌}
use Rattle.std.proofs.Common.{◌<◌, suc, List, [], ◌∷◌, take, drop, ◌++◌, set, get_or, length}
use Rattle.std.proofs.lemmas.List.{take_all, length-take-le, get_or-append_right, get_or-drop}
use Rattle.std.proofs.lemmas.List.{drop_all, append-nil, drop_more, take_more, set_at, append_assoc}
use Rattle.integer_laws.specs.Combined.{combined}

pub length-combined : (p q : ℤ) (row pivot : List ℤ) → length row ≡ length pivot
    → length (combined p q row pivot) ≡ length row
length-combined p q [] pivot e = refl
length-combined p q (x ∷ row) [] e = absurd (omega arith)
length-combined p q (x ∷ row) (y ∷ pivot) e = ap suc (length-combined p q row pivot (omega arith))

combined-push : (p q : ℤ) (row pivot : List ℤ) (x y : ℤ) → length row ≡ length pivot
    → combined p q (row ++ x ∷ []) (pivot ++ y ∷ []) ≡ combined p q row pivot ++ (p *ℤ x -ℤ q *ℤ y)
    ∷ []
combined-push p q [] [] x y e = refl
combined-push p q [] (b ∷ pivot) x y e = absurd (omega arith)
combined-push p q (a ∷ row) [] x y e = absurd (omega arith)
combined-push p q (a ∷ row) (b ∷ pivot) x y e =
    ap (λ rest. (p *ℤ a -ℤ q *ℤ b) ∷ rest) (combined-push p q row pivot x y (omega arith))

pub combined_left : (p q : ℤ) (old pivot new : List ℤ) (j : ℕ)
    → new ≡ combined p q (take j old) (take j pivot) ++ drop j old → length old ≡ length pivot
    → j < length old → get_or new j (pos 0) ≡ get_or old j (pos 0)
combined_left p q old pivot new j e same within =
    let t : length (take j old) ≡ j = length-take-le j old (omega arith) in
    let u : length (take j pivot) ≡ j = length-take-le j pivot (omega arith) in
    let m : length (combined p q (take j old) (take j pivot)) ≡ length (take j old) =
    length-combined p q (take j old) (take j pivot) (omega arith) in
    let zero_off : j - j ≡ 0 = omega arith in
    let sum_off : j + 0 ≡ j = omega arith in
    ap (λ xs. get_or xs j (pos 0)) e
    ∙ get_or-append_right (combined p q (take j old) (take j pivot)) (drop j old) j j (pos 0)
    (omega arith) (omega arith)
    ∙ ap (λ k. get_or (drop j old) k (pos 0)) zero_off ∙ get_or-drop j old 0 (pos 0)
    ∙ ap (λ k. get_or old k (pos 0)) sum_off

pub combined_more : (p q : ℤ) (old pivot new : List ℤ) (j : ℕ) (z : ℤ)
    → new ≡ combined p q (take j old) (take j pivot) ++ drop j old → length old ≡ length pivot
    → j < length old → z ≡ p *ℤ get_or old j (pos 0) -ℤ q *ℤ get_or pivot j (pos 0)
    → set new j z ≡ combined p q (take (j + 1) old) (take (j + 1) pivot) ++ drop (j + 1) old
combined_more p q old pivot new j z e same within v =
    let t : length (take j old) ≡ j = length-take-le j old (omega arith) in
    let u : length (take j pivot) ≡ j = length-take-le j pivot (omega arith) in
    let m : length (combined p q (take j old) (take j pivot)) ≡ length (take j old) =
    length-combined p q (take j old) (take j pivot) (omega arith) in
    let x = get_or old j (pos 0) in
    let y = get_or pivot j (pos 0) in
    let front = combined p q (take j old) (take j pivot) in
    let in_pivot : j < length pivot = omega arith in
    let a : set new j z ≡ set (front ++ x ∷ drop (j + 1) old) j z =
    ap (λ xs. set xs j z) (e ∙ ap (λ xs. front ++ xs) (drop_more old j (pos 0) within)) in
    let b : set (front ++ x ∷ drop (j + 1) old) j z ≡ front ++ z ∷ drop (j + 1) old =
    set_at front x (drop (j + 1) old) z j (omega arith) in
    let d : front ++ z ∷ drop (j + 1) old ≡ (front ++ z ∷ []) ++ drop (j + 1) old =
    sym (append_assoc front (z ∷ []) (drop (j + 1) old)) in
    let f : front ++ z ∷ [] ≡ combined p q (take (j + 1) old) (take (j + 1) pivot) =
    ap (λ w. front ++ w ∷ []) v
    ∙ sym (combined-push p q (take j old) (take j pivot) x y (omega arith))
    ∙ ap (λ xs. combined p q xs (take j pivot ++ y ∷ [])) (sym (take_more old j (pos 0) within))
    ∙ ap (λ ys. combined p q (take (j + 1) old) ys)
    (sym (take_more pivot j (pos 0) in_pivot)) in
    a ∙ b ∙ d ∙ ap (λ xs. xs ++ drop (j + 1) old) f

pub combined_all : (p q : ℤ) (old pivot new : List ℤ) (j : ℕ)
    → new ≡ combined p q (take j old) (take j pivot) ++ drop j old → length old ≡ length pivot
    → length old ≤ j → new ≡ combined p q old pivot
combined_all p q old pivot new j e same past =
    e ∙ ap (λ xs. combined p q xs (take j pivot) ++ drop j old) (take_all j old past)
    ∙ ap (λ xs. combined p q old xs ++ drop j old) (take_all j pivot (omega arith))
    ∙ ap (λ xs. combined p q old pivot ++ xs) (drop_all j old past)
    ∙ append-nil (combined p q old pivot)
