-- The names of a set of units of a plant, and the units of these names.
use Rattle.std.proofs.Common.{◌≡◌, ◌≤◌, ◌<◌, ◌+◌, ◌==◌, ◌||◌, ◌∷◌, [], Bool, true}
use Rattle.std.proofs.Common.{false, if◌then◌else◌, ℕ, zero, suc, List, Option, Some, None}
use Rattle.std.proofs.Common.{length, map, not, nat_lt, slice_index_or, bytes_eq, refl, sym}
use Rattle.std.proofs.Common.{ap, ◌∙◌, subst, arith, ne_eqb, eqb-true, lt-ltb}
use Rattle.std.proofs.Common.{one-add}
use Rattle.std.specs.List.{list_any, list_all, position_or_len}
use Rattle.std.proofs.lemmas.Bool.{eqb-false, cond-true, cond-false, or_parts, or_left}
use Rattle.std.proofs.lemmas.Bool.{and_parts}
use Rattle.std.proofs.lemmas.List.{length-map, get_or-map}
use Rattle.studio.specs.number_sets.Sets.{has, IsSet, IsRising, IsBelowAll, AreBelow}
use Rattle.studio.proofs.number_sets.Cited.{same_sets, below_not_had}
use Rattle.studio.specs.problem_rules.Each.{Each}
use Rattle.studio.specs.problem_rules.Names.{is_name, is_among, has_double, continues_name}
use Rattle.studio.specs.problem_rules.Problem.{Problem, OperatingUnit, unit_names, no_unit}
use Rattle.studio.specs.problem_rules.WellFormed.{IsWellFormed, IsWellFormedUnit}
use Rattle.studio.proofs.problem_rules.Cited.{Each-at}
use Rattle.studio.proofs.text_laws.Cited.{not_mark, none_from_all, bytes_same, bytes_differ}
use Rattle.studio.specs.tree_text_rules.Line.{is_space}
use Rattle.studio.specs.tree_text_rules.Spelling.{unit_name}
use Rattle.studio.specs.studio_rules.Lines.{names_in}
use Rattle.studio.specs.studio_rules.Axioms.{number_of, is_unit, units_named}

-- ---- in file order

-- the names are those that f gives to the numbers from k on
abbrev AreNamed : (ℕ → List ℕ) → ℕ → List (List ℕ) → Type 0
AreNamed f k [] = Unit {0}
AreNamed f k (n ∷ ns) = (n ≡ f k) × AreNamed f (k + 1) ns

-- from k on the test is the set
abbrev AreSame : ℕ → (ℕ → Bool) → List ℕ → Type 0
AreSame k test s = (u : ℕ) → k ≤ u → test u ≡ has s u

-- each number of the set is one of the next so many from k on
abbrev AreBetween : ℕ → ℕ → List ℕ → Type 0
AreBetween k many [] = Unit {0}
AreBetween k many (u ∷ us) = (k ≤ u) × (u < k + many) × AreBetween k many us

narrow : (k many : ℕ) (u : ℕ) (us : List ℕ) → k ≤ u → IsBelowAll u us → AreBetween k (suc many) us
    → AreBetween (k + 1) many us
narrow k many u [] le below are = tt
narrow k many u (v ∷ us) le below are =
    (omega (arith, le, below.0), omega (arith, are.1), narrow k many u us le below.1 are.2)

test_off : (test : ℕ → Bool) (k : ℕ) (n : List ℕ) (ns : List (List ℕ)) → test k ≡ false
    → names_in test k (n ∷ ns) ≡ names_in test (k + 1) ns
test_off test k n ns off = ap (λ (b : Bool). if b then n ∷ names_in test
    (k + 1) ns else names_in test (k + 1) ns) off

test_on : (test : ℕ → Bool) (k : ℕ) (n : List ℕ) (ns : List (List ℕ)) → test k ≡ true
    → names_in test k (n ∷ ns) ≡ n ∷ names_in test (k + 1) ns
test_on test k n ns on = ap (λ (b : Bool). if b then n ∷ names_in test (k + 1) ns else names_in test
    (k + 1) ns) on

in_order : (f : ℕ → List ℕ) (test : ℕ → Bool) (k : ℕ) (ns : List (List ℕ)) (s : List ℕ)
    → AreNamed f k ns → AreSame k test s → IsRising s → AreBetween k (length ns) s
    → names_in test k ns ≡ map f s
in_order f test k [] [] named same rising between = refl
in_order f test k [] (u ∷ us) named same rising between = let a = between.0 in let b = between.1 in
    absurd (omega (arith, a, b))
in_order f test k (n ∷ ns) [] named same rising between =
    test_off test k n ns (same k (omega arith))
    ∙ in_order f test (k + 1) ns [] named.1 (λ u le. same u (omega (arith, le))) tt tt
in_order f test k (n ∷ ns) (u ∷ us) named same rising between =
    at (u == k) refl (λ s. in_order f test (k + 1) ns s named.1)
  where
    at : (b : Bool) → (u == k) ≡ b
        → ((s : List ℕ) → AreSame (k + 1) test s → IsRising s → AreBetween (k + 1) (length ns) s
        → names_in test (k + 1) ns ≡ map f s) → names_in test k (n ∷ ns) ≡ f u ∷ map f us
    at true e next =
        let is : u ≡ k = eqb-true u k e in
        test_on test k n ns (same k (omega arith) ∙ or_left (u == k) (has us k) e)
        ∙ (ap (λ (m : List ℕ). m ∷ names_in test (k + 1) ns) (named.0 ∙ ap f (sym is))
        ∙ ap (λ (ms : List (List ℕ)). f u ∷ ms)
        (next us (λ v le. same v (omega (arith, le))
        ∙ ap (λ (b : Bool). b || has us v)
        (ne_eqb u v (λ (q : u ≡ v). omega (arith, q, is, le)))) rising.1
        (narrow k (length ns) u us between.0 rising.0 between.2)))
    at false e next =
        let apart : u ≡ k → ⊥ = eqb-false u k e in
        let a : k ≤ u = between.0 in
        let above : k + 1 ≤ u = omega (arith, apart, a) in
        test_off test k n ns (same k (omega arith)
        ∙ (ap (λ (b : Bool). b || has us k) e ∙ below_not_had u k us a rising.0))
        ∙ next (u ∷ us) (λ v le. same v (omega (arith, le))) rising (
          above,
          (let b = between.1 in
              omega (arith, b)),
          narrow k (length ns) u us a rising.0 between.2,
        )

named_from : (f : ℕ → List ℕ) (k : ℕ) (ns : List (List ℕ))
    → ((i : ℕ) → i < length ns → slice_index_or ns i [] ≡ f (k + i)) → AreNamed f k ns
named_from f k [] at = tt
named_from f k (n ∷ ns) at = (
  at 0 (omega arith) ∙ ap f (omega arith),
  named_from f (k + 1) ns
      (λ i less. at (suc i) (omega (arith, less)) ∙ ap f (omega arith)),
)

between : (n : ℕ) (s : List ℕ) → AreBelow n s → AreBetween 0 n s
between n [] below = tt
between n (u ∷ us) below = (
  omega arith,
  (let b = below.0 in
      omega (arith, b)),
  between n us below.1,
)

-- the names of a set of units, in file order
pub names_of_set : (p : Problem) (s : List ℕ) → IsSet (length p.units) s
    → names_in (has s) 0 (unit_names p.units) ≡ map (unit_name p) s
names_of_set p s set =
    let many : length (unit_names p.units) ≡ length p.units =
    length-map p.units (λ (u : OperatingUnit). u.name) in
    in_order (unit_name p) (has s) 0 (unit_names p.units) s
    (named_from (unit_name p) 0 (unit_names p.units) (λ i less.
    get_or-map (λ (u : OperatingUnit). u.name) p.units i no_unit [] (omega (arith, less, many))
    ∙ ap (unit_name p) (omega arith)))
    (λ u le. refl) set.rising (subst (λ (n : ℕ). AreBetween 0 n s) (sym many)
    (between (length p.units) s set.below))

-- ---- the units of names

apart_at : (names : List (List ℕ)) (name : List ℕ) (k : ℕ) → is_among names name ≡ false
    → k < length names → bytes_eq name (slice_index_or names k []) ≡ false
apart_at [] name k off less = absurd (omega (arith, less))
apart_at (n ∷ ns) name zero off less =
    bytes_differ n name (or_parts (bytes_eq n name) (is_among ns name) off).0
apart_at (n ∷ ns) name (suc k) off less =
    apart_at ns name k (or_parts (bytes_eq n name) (is_among ns name) off).1 (omega (arith, less))

place_of : (names : List (List ℕ)) (k : ℕ) → has_double names ≡ false → k < length names
    → position_or_len (λ word. bytes_eq word (slice_index_or names k [])) names ≡ k
place_of [] k off less = absurd (omega (arith, less))
place_of (n ∷ ns) zero off less = cond-false (not (bytes_eq n n)) _ 0 (ap not (bytes_same n))
place_of (n ∷ ns) (suc k) off less =
    let parts = or_parts (is_among ns n) (has_double ns) off in
    cond-true (not (bytes_eq n (slice_index_or ns k [])))
    (1 + position_or_len (λ word. bytes_eq word (slice_index_or ns k [])) ns) 0
    (ap not (apart_at ns n k parts.0 (omega (arith, less))))
    ∙ (ap (λ (i : ℕ). 1 + i) (place_of ns k parts.1 (omega (arith, less))) ∙ one-add k)

number_is : (p : Problem) (u : ℕ) → IsWellFormed p → u < length p.units
    → number_of p (unit_name p u) ≡ Some u
number_is p u formed less =
    let many : length (unit_names p.units) ≡ length p.units =
    length-map p.units (λ (u : OperatingUnit). u.name) in
    let name : slice_index_or (unit_names p.units) u [] ≡ unit_name p u =
    get_or-map (λ (u : OperatingUnit). u.name) p.units u no_unit [] less in
    ap (number_of p) (sym name)
    ∙ (ap (λ n. if nat_lt n (length (unit_names p.units)) then Some n else None)
    (place_of (unit_names p.units) u formed.units_apart (omega (arith, less, many)))
    ∙ cond-true (nat_lt u (length (unit_names p.units))) (Some u) None
    (lt-ltb u (length (unit_names p.units)) (omega (arith, less, many))))

units_are : (p : Problem) (s : List ℕ) (u : ℕ) → IsWellFormed p → AreBelow (length p.units) s
    → units_named p (map (unit_name p) s) u ≡ has s u
units_are p [] u formed below = refl
units_are p (x ∷ xs) u formed below =
    ap (λ (o : Option ℕ). is_unit u o || units_named p (map (unit_name p) xs) u)
    (number_is p x formed below.0)
    ∙ ap (λ (b : Bool). (x == u) || b) (units_are p xs u formed below.1)

-- a set whose test is that of the names of another is that one
pub set_of_names : (p : Problem) (s us : List ℕ) → IsWellFormed p → IsSet (length p.units) s
    → IsSet (length p.units) us → has us ≡ units_named p (map (unit_name p) s) → us ≡ s
set_of_names p s us formed set other e =
    same_sets us s other.rising set.rising
    (λ u. ap (λ (test : ℕ → Bool). test u) e ∙ units_are p s u formed set.below)

-- ---- names have no space

abbrev pub IsSolid : List ℕ → Type 0
IsSolid token = list_any is_space token ≡ false

pub name_solid : (name : List ℕ) → is_name name ≡ true → IsSolid name
name_solid name is = none_from_all continues_name is_space
    (λ c h. not_mark continues_name 32 c refl h) name
    (and_parts _ (list_all continues_name name) is).1

pub names_solid : (p : Problem) (s : List ℕ) → IsWellFormed p → AreBelow (length p.units) s
    → Each IsSolid (map (unit_name p) s)
names_solid p [] formed below = tt
names_solid p (x ∷ xs) formed below =
    let unit = Each-at (IsWellFormedUnit (length p.materials)) p.units x no_unit below.0
    formed.units_formed in
    (name_solid (unit_name p x) unit.named, names_solid p xs formed below.1)
