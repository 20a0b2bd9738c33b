-- A token is found among names, or is none of them.
use Rattle.std.proofs.Common.{◌≡◌, ◌<◌, ◌≤◌, ◌+◌, ℕ, Bool, true, false, cond, nat_lt, List, [], ◌∷◌}
use Rattle.std.proofs.Common.{length, map, drop, get_or, Option, Some, None, Result, Ok, Err, IfOk}
use Rattle.std.proofs.Common.{refl, ap, sym, subst, ◌∙◌, arith}
use Rattle.std.specs.List.{position, position_or_len}
use Rattle.std.specs.Str.{bytes_eq, IsUtf8}
use Rattle.std.specs.Option.{ok_or}
use Rattle.std.proofs.lemmas.Bool.{lt-ltb, le-ltb, ltb-true}
use Rattle.std.proofs.lemmas.List.{at_drop_more, length-map}
use Rattle.std.proofs.lemmas.Bool.Decides.{nat_tests, same_from_decides}
use Rattle.std.proofs.lemmas.Slice.Eq.{bytes_eq-Decides}
use Rattle.tree_text_rules.specs.problem_rules.Each.{Each}
use Rattle.tree_text_rules.specs.problem_rules.Names.{is_name}
use Rattle.tree_text_rules.specs.problem_rules.Problem.{Problem, Material, OperatingUnit}
use Rattle.tree_text_rules.specs.problem_rules.WellFormed.{IsWellFormed}
use Rattle.text_lines.proofs.Cited.{name_utf8}
use Rattle.tree_text_rules.specs.Token.{told, unit_of, material_of}
use Rattle.tree_text_rules.specs.declared.TreeKind.{TreeKind}
use Rattle.tree_text_rules.specs.declared.TreeKind.TheVariants.{UnknownName}

module _ {X : Type 0} (name : X → List ℕ) (P : X → Type 0)
    (named : (x : X) → P x → is_name (name x) ≡ true) (token : List ℕ)
    (bad : ¬ (IsUtf8 token)) where
  other : (x : X) → P x → bytes_eq (name x) token ≡ false
  other x h =
      same_from_decides (bytes_eq (name x) token) false (bytes_eq-Decides (name x) token) (
        (λ (e : false ≡ true). absurd cc),
        (λ e. absurd (bad (subst IsUtf8 e (name_utf8 (name x) (named x h))))),
      )

  nowhere : (xs : List X) → Each P xs
      → position_or_len (λ word. bytes_eq word token) (map name xs) ≡ length (map name xs)
  nowhere [] h = refl
  nowhere (x ∷ xs) h = rw (other x h.0) (let e = nowhere xs h.1 in omega (arith, e))

  -- a text that is not UTF-8 is no name
  no_name : (xs : List X) → Each P xs → position (λ word. bytes_eq word token) (map name xs) ≡ None
  no_name xs h = let e = nowhere xs h in grind (arith, nat_tests)

-- a name that is looked up
told_or : (o : Option ℕ) → ok_or o UnknownName ≡ told UnknownName o
told_or None = refl
told_or (Some n) = refl

pub named : (names : List (List ℕ)) (text token : List ℕ) (o : Option ℕ) (r : Result ℕ TreeKind)
    → text ≡ token → o ≡ position (λ word. bytes_eq word text) names → r ≡ ok_or o UnknownName
    → r ≡ told UnknownName (position (λ name. bytes_eq name token) names)
named names text token o r same found given =
    given ∙ told_or o ∙ ap (told UnknownName) found
    ∙ ap (λ (t : List ℕ). told UnknownName (position (λ name. bytes_eq name t) names)) same

if_below : (b : Bool) (a n : ℕ) → nat_lt a n ≡ b
    → IfOk (told UnknownName (cond b (Some a) None)) (λ k. k < n)
if_below true a n e = ltb-true a n e
if_below false a n e = tt

pub named_below : {X : Type 0} (name : X → List ℕ) (xs : List X) (p : List ℕ → Bool)
    (r : Result ℕ TreeKind) → r ≡ told UnknownName (position p (map name xs))
    → IfOk r (λ n. n < length xs)
named_below name xs p r e =
    subst (λ (n : ℕ). IfOk r (λ k. k < n)) (length-map xs name)
    (subst (λ (r : Result ℕ TreeKind). IfOk r (λ k. k < length (map name xs))) (sym e)
    (if_below (nat_lt (position_or_len p (map name xs)) (length (map name xs)))
    (position_or_len p (map name xs)) (length (map name xs)) refl))

-- names that are looked through one by one
abbrev pub place_in : {X : Type 0} → (X → List ℕ) → List ℕ → List X → ℕ
place_in name token xs = position_or_len (λ word. bytes_eq word token) (map name xs)

module _ {X : Type 0} (name : X → List ℕ) (token : List ℕ) (xs : List X) (i n : ℕ)
    (so_far : n + place_in name token (drop i xs) ≡ place_in name token xs) where
  module _ (x : X) (lt : i < length xs) (is : x ≡ get_or xs i x) where
    at_item : place_in name token (drop i xs) ≡ place_in name token (x ∷ drop (i + 1) xs)
    at_item = at_drop_more (place_in name token) xs i x lt
        ∙ ap (λ (y : X). place_in name token (y ∷ drop (i + 1) xs)) (sym is)

    pub passed : bytes_eq (name x) token ≡ false
        → (n + 1) + place_in name token (drop (i + 1) xs) ≡ place_in name token xs
    passed other =
        let more : place_in name token (x ∷ drop (i + 1) xs) ≡ 1
        + place_in name token (drop (i + 1) xs) = rw other refl in
        omega (arith, at_item, more, so_far)

    pub found : n ≡ i → bytes_eq (name x) token ≡ true
        → told UnknownName (position (λ word. bytes_eq word token) (map name xs)) ≡ Ok n
    found here same =
        let none : place_in name token (x ∷ drop (i + 1) xs) ≡ 0 = rw same refl in
        let whole : place_in name token xs ≡ n = omega (arith, at_item, none, so_far) in
        let count = length-map xs name in
        rw (whole, lt-ltb n (length (map name xs)) (omega (arith, here, lt, count))) refl

  pub nowhere_in : n ≡ i → length xs ≤ i
      → told UnknownName (position (λ word. bytes_eq word token) (map name xs)) ≡ Err UnknownName
  nowhere_in here le =
      let count = length-map xs name in
      rw (le-ltb (place_in name token xs) (length (map name xs))
      (omega (arith, here, le, count, so_far))) refl

pub no_unit : (p : Problem) (token : List ℕ) → IsWellFormed p → ¬ (IsUtf8 token)
    → unit_of p token ≡ Err UnknownName
no_unit p token formed bad =
    ap (told UnknownName)
    (no_name (λ (x : OperatingUnit). x.name) _ (λ x h. h.named) token bad p.units
    formed.units_formed)

pub no_material : (p : Problem) (token : List ℕ) → IsWellFormed p → ¬ (IsUtf8 token)
    → material_of p token ≡ Err UnknownName
no_material p token formed bad =
    ap (told UnknownName)
    (no_name (λ (x : Material). x.name) _ (λ x h. h.named) token bad p.materials
    formed.materials_formed)
