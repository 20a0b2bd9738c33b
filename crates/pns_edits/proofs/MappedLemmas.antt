-- Lists that are changed item by item from the front, and lists of numbers that pass a test.
use Rattle.std.proofs.Common.{◌≡◌, ◌<◌, ◌+◌, ℕ, zero, suc, Bool, true, false, cond, List, [], ◌∷◌}
use Rattle.std.proofs.Common.{◌++◌, length, map, reverse, take, drop, get_or, set, refl, sym, ap}
use Rattle.std.proofs.Common.{◌∙◌, arith}
use Rattle.std.proofs.lemmas.List.{append-nil, map-append, reverse-append}
use Rattle.edit_laws.specs.number_sets.Sets.{listed}
use Rattle.edit_laws.specs.problem_rules.Problem.{Term, OperatingUnit, Exclusion}
use Rattle.edit_laws.specs.edit_rules.Numbering.{in_term, in_unit, in_exclusion}

changed_at : {X : Type 0} (f : X → X) (old : List X) (i : ℕ) (d : X) → i < length old
    → set (map f (take i old) ++ drop i old) i (f (get_or (map f (take i old) ++ drop i old) i d))
    ≡ map f (take (suc i) old) ++ drop (suc i) old
changed_at f [] i d less = absurd (omega arith)
changed_at f (x ∷ xs) zero d less = refl
changed_at f (x ∷ xs) (suc i) d less = ap (λ zs. f x ∷ zs) (changed_at f xs i d (omega arith))

pub changed_next : {X : Type 0} (f : X → X) (old now : List X) (i : ℕ) (d y : X) → i < length old
    → now ≡ map f (take i old) ++ drop i old → y ≡ f (get_or now i d)
    → set now i y ≡ map f (take (i + 1) old) ++ drop (i + 1) old
changed_next f old now i d y less so_far e =
    let next : suc i ≡ i + 1 = omega arith in
    ap (λ v. set now i v) e
    ∙ (ap (λ z. set z i (f (get_or z i d))) so_far
    ∙ (changed_at f old i d less ∙ ap (λ j. map f (take j old) ++ drop j old) next))

pub in_term_is : (f : ℕ → ℕ) (v t : Term) (m : ℕ) → v ≡ t → m ≡ f v.material
    → record v { material = m } ≡ in_term f t
in_term_is f v t m same is = (λ i. record v { material = is i }) ∙ ap (in_term f) same

pub in_unit_is : (f : ℕ → ℕ) (v u : OperatingUnit) (ins outs : List Term) → v ≡ u
    → ins ≡ map (in_term f) v.inputs → outs ≡ map (in_term f) v.outputs
    → record v { inputs = ins; outputs = outs } ≡ in_unit f u
in_unit_is f v u ins outs same ins_are outs_are =
    (λ i. record v { inputs = ins_are i; outputs = outs_are i }) ∙ ap (in_unit f) same

pub in_exclusion_is : (f : ℕ → ℕ) (v e : Exclusion) (us : List ℕ) → v ≡ e → us ≡ map f v.units
    → record v { units = us } ≡ in_exclusion f e
in_exclusion_is f v e us same are = (λ i. record v { units = are i }) ∙ ap (in_exclusion f) same

pub listed_none : (t : ℕ → Bool) → listed 0 t ≡ []
unfolding listed
listed_none t = refl

with_next : (b : Bool) (n : ℕ) (xs : List ℕ) → xs ++ cond b (n ∷ []) [] ≡ cond b (xs ++ n ∷ []) xs
with_next true n xs = refl
with_next false n xs = append-nil xs

pub listed_next : (n : ℕ) (t : ℕ → Bool)
    → listed (n + 1) t ≡ cond (t n) (listed n t ++ n ∷ []) (listed n t)
unfolding listed
listed_next n t = let next : n + 1 ≡ suc n =
    omega arith in ap (λ j. listed j t) next ∙ with_next (t n) n (listed n t)

pub map-reverse : {X Y : Type 0} (f : X → Y) (xs : List X) → map f (reverse xs) ≡ reverse (map f xs)
map-reverse f [] = refl
map-reverse f (x ∷ xs) =
    ap (map f) (reverse-append (x ∷ []) xs)
    ∙ (map-append f (reverse xs) (x ∷ [])
    ∙ (ap (λ z. z ++ f x ∷ []) (map-reverse f xs) ∙ sym (reverse-append (f x ∷ []) (map f xs))))
