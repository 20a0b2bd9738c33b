-- Values along a walk.
use Rattle.std.proofs.Common.{◌≡◌, List, [], ◌∷◌, ◌++◌, map, sym, ap, ◌∙◌, append_assoc, append-nil}
use Rattle.std.specs.Prelude.{flat_map}

-- the list so far and the values that are left give the whole list
pub next_value : {X Y : Type 0} (value : Y → X) (left rest : List Y) (k : Y)
    (values new whole : List X) → left ≡ k ∷ rest → new ≡ values ++ value k ∷ []
    → values ++ map value left ≡ whole → new ++ map value rest ≡ whole
next_value value left rest k values new whole e f h =
    ap (λ xs. xs ++ map value rest) f ∙ append_assoc values (value k ∷ []) (map value rest)
    ∙ ap (λ ks. values ++ map value ks) (sym e) ∙ h

pub last_value : {X Y : Type 0} (value : Y → X) (left : List Y) (values whole : List X) → left ≡ []
    → values ++ map value left ≡ whole → values ≡ whole
last_value value left values whole e h =
    sym (append-nil values) ∙ ap (λ ks. values ++ map value ks) (sym e) ∙ h

-- the same with any number of values for each
pub next_values : {X Y : Type 0} (values_of : Y → List X) (left rest : List Y) (k : Y)
    (values new whole : List X) → left ≡ k ∷ rest → new ≡ values ++ values_of k
    → values ++ flat_map values_of left ≡ whole → new ++ flat_map values_of rest ≡ whole
next_values values_of left rest k values new whole e f h =
    ap (λ xs. xs ++ flat_map values_of rest) f
    ∙ append_assoc values (values_of k) (flat_map values_of rest)
    ∙ ap (λ ks. values ++ flat_map values_of ks) (sym e) ∙ h

pub last_values : {X Y : Type 0} (values_of : Y → List X) (left : List Y) (values whole : List X)
    → left ≡ [] → values ++ flat_map values_of left ≡ whole → values ≡ whole
last_values values_of left values whole e h =
    sym (append-nil values) ∙ ap (λ ks. values ++ flat_map values_of ks) (sym e) ∙ h
