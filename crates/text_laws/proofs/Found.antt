-- Names and numbers are found again in the lines of a canonical text.
use Rattle.std.proofs.Common.{◌≡◌, ◌<◌, ◌≤◌, ◌+◌, ◌||◌, ◌==◌, Bool, true, false, not, ℕ, zero, suc}
use Rattle.std.proofs.Common.{List, [], ◌∷◌, length, map, filter, bytes_eq, find, position, Option}
use Rattle.std.proofs.Common.{Some, None, unwrap_or, Result, ℤ, pos, refl, sym, ◌∙◌, ap, arith}
use Rattle.std.proofs.Common.{if◌then◌else◌, eqb-true, lt-ltb, ne_eqb, eq-eqb, one-add, ⊎_elim}
use Rattle.std.proofs.Common.{nat_lt, subst}
use Rattle.std.specs.List.{position_or_len}
use Rattle.std.specs.Result.{result_unwrap_or}
use Rattle.std.proofs.lemmas.Bool.{cond-true, cond-false, or_parts, or_left, or_right, cases_Bool}
use Rattle.std.proofs.lemmas.Bool.{true≢false, or_cases}
use Rattle.text_rules.specs.problem_rules.Each.{Each}
use Rattle.text_rules.specs.problem_rules.Names.{is_among, has_double}
use Rattle.text_rules.specs.problem_rules.Problem.{Term}
use Rattle.text_rules.specs.problem_rules.WellFormed.{IsWellFormedTerm, AreRisingFrom}
use Rattle.text_rules.specs.declared.TextKind.{TextKind}
use Rattle.text_rules.specs.declared.Section.{Section}
use Rattle.text_rules.specs.Line.{Placed, head_of}
use Rattle.text_rules.specs.Fault.{millionths}
use Rattle.text_rules.specs.Value.{term_from, numbers_among}
use Rattle.text_rules.specs.Canonical.{name_at}
use Rattle.text_laws.proofs.Each.{each-both, each-unmap, none_each}
use Rattle.text_laws.proofs.CanonicalParts.{entries, placed_at}
use Rattle.text_laws.proofs.Numbers.{has_number, rising_none, rising_within}
use Rattle.text_laws.proofs.Names.{bytes_same, bytes_differ}
use Rattle.text_laws.proofs.RatesLines.{name_at_apart, among_numbers, rate_text, pair, rate_reads}

-- the entries that items have in a section
module _ {A : Type 0} (section : Section) (text : A → List ℕ) where
  -- what is read of each
  pub entries_read : {B : Type 0} (read : List ℕ → B) (value : A → B) (n : ℕ) (xs : List A)
      → Each (λ x. read (text x) ≡ value x) xs
      → map (λ (line : Placed). read line.text) (entries section n (map text xs)) ≡ map value xs
  entries_read read value n [] each = refl
  entries_read {B} read value n (x ∷ xs) each =
      ap (λ (y : B). y ∷ map (λ (line : Placed). read line.text)
      (entries section (n + 1) (map text xs))) each.0
      ∙ ap (λ (ys : List B). value x ∷ ys) (entries_read read value (n + 1) xs each.1)

  module _ (name : A → List ℕ) where
    -- the line of its name is found
    abbrev pub IsFound : List Placed → A → Type 0
    IsFound lines x = (k : ℕ)
        × (find (λ (line : Placed). bytes_eq (head_of line.text) (name x)) lines
        ≡ Some (placed_at k section (text x)))

    pub each_found : (n : ℕ) (xs : List A) → Each (λ x. head_of (text x) ≡ name x) xs
        → has_double (map name xs) ≡ false → Each (IsFound (entries section n (map text xs))) xs
    each_found n [] named off = tt
    each_found n (x ∷ xs) named off =
        let parts : (is_among (map name xs) (name x) ≡ false) × (has_double (map name xs) ≡ false) =
        or_parts (is_among (map name xs) (name x)) (has_double (map name xs)) off in
        let others : Each (λ y. bytes_eq (name y) (name x) ≡ false) xs =
        each-unmap (λ word. bytes_eq word (name x) ≡ false) name xs
        (none_each (λ word. bytes_eq word (name x)) (map name xs) parts.0) in
        let lines : List Placed = entries section (n + 1) (map text xs) in
        let own : Option Placed = Some (placed_at n section (text x)) in (
          (
            n,
            cond-true (bytes_eq (head_of (text x)) (name x)) own
                (find (λ (line : Placed). bytes_eq (head_of line.text) (name x)) lines)
                (ap (λ (t : List ℕ). bytes_eq t (name x)) named.0 ∙ bytes_same (name x)),
          ),
          each-both (λ y. bytes_eq (name y) (name x) ≡ false) (IsFound lines)
              (IsFound (entries section n (map text (x ∷ xs))))
              (λ y differ found. (
                found.0,
                cond-false (bytes_eq (head_of (text x)) (name y)) own
                    (find (λ (line : Placed). bytes_eq (head_of line.text) (name y)) lines)
                    (ap (λ (t : List ℕ). bytes_eq t (name y)) named.0
                    ∙ bytes_differ (name y) (name x) differ)
                    ∙ found.1,
              ))
              xs others (each_found (n + 1) xs named.1 parts.1),
        )

    -- lines whose names are all among others
    pub none_apart : (names : List (List ℕ)) (n : ℕ) (xs : List A)
        → Each (λ x. head_of (text x) ≡ name x) xs → Each (λ x. is_among names (name x) ≡ true) xs
        → filter (λ (line : Placed). not (is_among names (head_of line.text)))
        (entries section n (map text xs)) ≡ []
    none_apart names n [] named each = refl
    none_apart names n (x ∷ xs) named each =
        let lines : List Placed = entries section (n + 1) (map text xs) in
        cond-false (not (is_among names (head_of (text x))))
        (placed_at n section (text x)
        ∷ filter (λ (line : Placed). not (is_among names (head_of line.text))) lines)
        (filter (λ (line : Placed). not (is_among names (head_of line.text))) lines)
        (ap (λ (t : List ℕ). not (is_among names t)) named.0 ∙ ap not each.0)
        ∙ none_apart names (n + 1) xs named.1 each.1

-- the number of a name
place_of : (names : List (List ℕ)) (k : ℕ) → has_double names ≡ false → k < length names
    → position_or_len (λ name. bytes_eq name (name_at names k)) names ≡ k
place_of [] k off lt = absurd (omega arith)
place_of (name ∷ names) zero off lt =
    cond-false (not (bytes_eq name name)) _ 0 (ap not (bytes_same name))
place_of (name ∷ names) (suc k) off lt =
    let other : bytes_eq name (name_at names k) ≡ false =
    name_at_apart (name ∷ names) 0 (suc k) off (omega arith) lt (λ e. absurd (omega arith)) in
    cond-true (not (bytes_eq name (name_at names k)))
    (1 + position_or_len (λ name. bytes_eq name (name_at names k)) names) 0 (ap not other)
    ∙ ap (λ n. 1 + n)
    (place_of names k ((or_parts (is_among names name) (has_double names) off).1) (omega arith))
    ∙ one-add k

pub position_of : (names : List (List ℕ)) (k : ℕ) → has_double names ≡ false → k < length names
    → position (λ name. bytes_eq name (name_at names k)) names ≡ Some k
position_of names k off lt =
    ap (λ n. if nat_lt n (length names) then Some n else None) (place_of names k off lt)
    ∙ cond-true (nat_lt k (length names)) (Some k) None (lt-ltb k (length names) lt)

-- terms are read back
term_back : (names : List (List ℕ)) → has_double names ≡ false → (t : Term)
    → IsWellFormedTerm (length names) t → term_from names (pair names t) ≡ t
term_back names off t good =
    ap (λ (o : Option ℕ). let e : Term =
    record { material = unwrap_or o 0; rate = millionths (rate_text t) } in e)
    (position_of names t.material off good.known)
    ∙ ap (λ (r : Result ℤ TextKind). let e : Term =
    record { material = t.material; rate = result_unwrap_or r (pos 0) } in e)
    (rate_reads (length names) t good)

pub terms_back : (names : List (List ℕ)) → has_double names ≡ false → (terms : List Term)
    → Each (IsWellFormedTerm (length names)) terms
    → map (term_from names) (map (pair names) terms) ≡ terms
terms_back names off [] goods = refl
terms_back names off (t ∷ terms) goods =
    ap (λ (e : Term). e ∷ map (term_from names) (map (pair names) terms))
    (term_back names off t goods.0)
    ∙ ap (λ (ts : List Term). t ∷ ts) (terms_back names off terms goods.1)

-- the numbers from k on that pass
abbrev pick : (ℕ → Bool) → ℕ → ℕ → List ℕ
pick test k zero = []
pick test k (suc n) = if test k then k ∷ pick test (k + 1) n else pick test (k + 1) n

pick_same : (p q : ℕ → Bool) (k n : ℕ) → ((j : ℕ) → k ≤ j → p j ≡ q j) → pick p k n ≡ pick q k n
pick_same p q k zero same = refl
pick_same p q k (suc n) same =
    ap (λ b. if b then k ∷ pick p (k + 1) n else pick p (k + 1) n) (same k (omega arith))
    ∙ ap (λ ks. if q k then k ∷ ks else ks) (pick_same p q (k + 1) n (λ j le. same j (omega arith)))

pick_none : (k n : ℕ) → pick (λ j. has_number j []) k n ≡ []
pick_none k zero = refl
pick_none k (suc n) = pick_none (k + 1) n

-- numbers that rise are those that pass
pick_rising : (k n top : ℕ) (ks : List ℕ) → top ≡ k + n → AreRisingFrom top k ks
    → pick (λ j. has_number j ks) k n ≡ ks
pick_rising k n top [] e rising = pick_none k n
pick_rising k zero top (h ∷ ks) e rising =
    let le : k ≤ h = rising.0 in
    let lt : h < top = rising.1 in
    absurd (omega arith)
pick_rising k (suc n) top (h ∷ ks) e rising =
    let le : k ≤ h = rising.0 in
    let lt : h < top = rising.1 in
    ⊎_elim
    (λ (same : (h == k) ≡ true).
    let eq : h ≡ k = eqb-true h k same in
    cond-true (has_number k (h ∷ ks)) (k ∷ pick (λ j. has_number j (h ∷ ks)) (k + 1) n)
    (pick (λ j. has_number j (h ∷ ks)) (k + 1) n) (or_left (h == k) (has_number k ks) same)
    ∙ ap (λ rest. k ∷ rest)
    (pick_same (λ j. has_number j (h ∷ ks)) (λ j. has_number j ks) (k + 1) n
    (λ j le. ap (λ b. b || has_number j ks) (ne_eqb h j (λ e. absurd (omega arith)))))
    ∙ ap (λ rest. k ∷ rest)
    (pick_rising (k + 1) n top ks (omega arith)
    (subst (λ m. AreRisingFrom top (m + 1) ks) eq rising.2))
    ∙ ap (λ m. m ∷ ks) (sym eq))
    (λ (other : (h == k) ≡ false).
    let ne : h ≡ k → ⊥ = λ eq. true≢false (sym (eq-eqb h k eq) ∙ other) in
    let above : AreRisingFrom top (k + 1) (h ∷ ks) = (omega (arith, ne), lt, rising.2) in
    cond-false (has_number k (h ∷ ks)) (k ∷ pick (λ j. has_number j (h ∷ ks)) (k + 1) n)
    (pick (λ j. has_number j (h ∷ ks)) (k + 1) n)
    (rising_none k top (k + 1) (h ∷ ks) (omega arith) above)
    ∙ pick_rising (k + 1) n top (h ∷ ks) (omega arith) above)
    (cases_Bool (h == k))

-- the numbers of the names that are among the words
among_pick : (words : List (List ℕ)) (test : ℕ → Bool) (k : ℕ) (names : List (List ℕ))
    → ((i : ℕ) → i < length names → is_among words (name_at names i) ≡ test (k + i))
    → numbers_among words k names ≡ pick test k (length names)
among_pick words test k [] says = refl
among_pick words test k (name ∷ names) says =
    ap (λ b. if b then k ∷ numbers_among words (k + 1) names else numbers_among words (k + 1) names)
    (says 0 (omega arith) ∙ ap test (omega arith))
    ∙ ap (λ ks. if test k then k ∷ ks else ks)
    (among_pick words test (k + 1) names
    (λ i lt. says (suc i) (omega arith) ∙ ap test (omega arith)))

has_among : (names : List (List ℕ)) (ks : List ℕ) (k : ℕ) → has_number k ks ≡ true
    → is_among (map (name_at names) ks) (name_at names k) ≡ true
has_among names [] k has = absurd (true≢false (sym has))
has_among names (j ∷ ks) k has = ⊎_elim
    (λ (same : (j == k) ≡ true). or_left _ _
    (ap (λ n. bytes_eq (name_at names n) (name_at names k)) (eqb-true j k same)
    ∙ bytes_same (name_at names k)))
    (λ (rest : has_number k ks ≡ true). or_right _ _ (has_among names ks k rest))
    (or_cases (j == k) (has_number k ks) has)

pub members_back : (names : List (List ℕ)) (ks : List ℕ) → has_double names ≡ false
    → AreRisingFrom (length names) 0 ks → numbers_among (map (name_at names) ks) 0 names ≡ ks
members_back names ks off rising =
    among_pick (map (name_at names) ks) (λ j. has_number j ks) 0 names
    (λ i lt. says i lt (has_number i ks) refl ∙ ap (λ j. has_number j ks) (omega arith))
    ∙ pick_rising 0 (length names) (length names) ks (omega arith) rising where
      says : (i : ℕ) → i < length names → (b : Bool) → has_number i ks ≡ b
          → is_among (map (name_at names) ks) (name_at names i) ≡ has_number i ks
      says i lt true has = has_among names ks i has ∙ sym has
      says i lt false has =
          among_numbers names off ks i (rising_within (length names) 0 ks rising) lt has ∙ sym has
