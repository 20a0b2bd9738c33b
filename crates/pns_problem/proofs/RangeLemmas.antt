-- A list that is made for a range of numbers, item by item.
use Rattle.std.proofs.Common.{◌≡◌, ℕ, ◌+◌, List, [], ◌∷◌, ◌++◌, map, ap, ◌∙◌, sym, append_assoc}
use Rattle.std.proofs.Common.{arith}
use Rattle.std.specs.List.{range_with_len}
use Rattle.std.proofs.lemmas.List.FromFn.{map-range_with_len_more}

pub made_more : {X : Type 0} (f : ℕ → X) (old before after : List X) (n : ℕ) (x : X)
    → before ≡ old ++ map f (range_with_len 0 n) → x ≡ f n → after ≡ before ++ x ∷ []
    → after ≡ old ++ map f (range_with_len 0 (n + 1))
made_more f old before after n x e h g =
    let more : map f (range_with_len 0 (n + 1)) ≡ map f (range_with_len 0 n) ++ f n ∷ [] =
    map-range_with_len_more f 0 n n (omega arith) in
    g ∙ (ap (λ l. l ++ x ∷ []) e
    ∙ (append_assoc old (map f (range_with_len 0 n)) (x ∷ [])
    ∙ ap (λ l. old ++ l) (ap (λ y. map f (range_with_len 0 n) ++ y ∷ []) h ∙ sym more)))
