-- Two maps, one after the other.
use Rattle.std.proofs.Common.{◌<◌, length, map, take, get_or, ◌≡◌, ℕ, ◌+◌, List, [], ◌∷◌, ◌++◌, ap}
use Rattle.std.proofs.Common.{◌∙◌}
use Rattle.std.proofs.lemmas.List.{map-append, take_more}

-- two maps over one more
pub maps_more : {A B C : Type 0} (f : B → C) (v : A → B) (xs : List A) (i : ℕ) (d : A)
    → i < length xs → map f (map v (take (i + 1) xs)) ≡ map f (map v (take i xs))
    ++ f (v (get_or xs i d)) ∷ []
maps_more {A} {B} f v xs i d lt =
    ap (λ (ys : List A). map f (map v ys)) (take_more xs i d lt)
    ∙ ap (map f) (map-append v (take i xs) (get_or xs i d ∷ []))
    ∙ map-append f (map v (take i xs)) (v (get_or xs i d) ∷ [])
