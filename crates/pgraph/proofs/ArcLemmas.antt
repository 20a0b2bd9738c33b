-- Arcs that are joined one by one, and the materials of a set of units.
use Rattle.std.proofs.Common.{◌≡◌, ◌≢◌, ℕ, zero, suc, ◌+◌, ◌<◌, ◌≤◌, ◌==◌, nat_lt, Bool, true}
use Rattle.std.proofs.Common.{false, not, cond, ◌&&◌, ◌||◌, List, [], ◌∷◌, ◌++◌, length, get_or}
use Rattle.std.proofs.Common.{set, take, Some, refl, sym, ap, ◌∙◌, subst, inl, inr, ◌⊎◌, arith}
use Rattle.std.proofs.Common.{eq-eqb, ne_eqb}
use Rattle.std.proofs.lemmas.Bool.{or_left, or_right, or_cases, and_parts, and_from, both_ways}
use Rattle.std.proofs.lemmas.Bool.{cases_eq, cases_lt, lt-ltb, le-ltb, eqb-false}
use Rattle.std.proofs.lemmas.Bool.{false_from_ne_true}
use Rattle.std.proofs.lemmas.List.{get_or_default, get_or_past, take_more, get_or-set_same}
use Rattle.std.proofs.lemmas.List.{get_or-set_other, get_or_read}
use Rattle.flow_rules.specs.number_sets.Sets.{has, first, with_number, kept, union, meet, IsWithin}
use Rattle.flow_rules.proofs.number_sets.Cited.{has-with_number, has-union, has-meet}
use Rattle.flow_rules.proofs.number_sets.Cited.{any_below-from}
use Rattle.flow_rules.proofs.number_sets.Cited.{any_below-some, same_tests}
use Rattle.flow_rules.specs.problem_rules.Problem.{Term, OperatingUnit, no_unit, terms_have}
use Rattle.pgraph.specs.declared.arcs.Side.{Side}
use Rattle.pgraph.specs.declared.arcs.Side.TheVariants.{Inputs, Outputs}
use Rattle.pgraph.specs.Arcs.{Arcs, materials_at, units_at, joins, joins_some, IsArcs}
use Rattle.pgraph.specs.Building.{terms_on, has_term}

-- one set of a list of sets gets a number more
put : (sets : List (List ℕ)) (i n : ℕ) (got new : List ℕ) → i < length sets
    → got ≡ get_or sets i got → new ≡ with_number n got → (j m : ℕ)
    → has (get_or (set sets i new) j []) m ≡ (((i == j) && (n == m)) || has (get_or sets j []) m)
put sets i n got new h read is j m = elim (cases_eq j i) [
  | inl e
      ↦ subst (λ k. has (get_or (set sets i new) k []) m
      ≡ (((i == k) && (n == m)) || has (get_or sets k []) m)) (sym e) here
  | inr ne ↦ ap (λ s. has s m) (get_or-set_other sets i j new [] ne)
      ∙ ap (λ b. (b && (n == m)) || has (get_or sets j []) m) (sym (ne_eqb i j (λ e. ne (sym e))))
]
  where
    here : has (get_or (set sets i new) i []) m
        ≡ (((i == i) && (n == m)) || has (get_or sets i []) m)
    here =
        ap (λ s. has s m) (get_or-set_same sets i new [] h ∙ is)
        ∙ (has-with_number n got m
        ∙ (ap (λ s. (n == m) || has s m) (get_or_read sets i got h read [])
        ∙ ap (λ b. (b && (n == m)) || has (get_or sets i []) m) (sym (eq-eqb i i refl))))

pub and_swap : (a b : Bool) → (a && b) ≡ (b && a)
and_swap true true = refl
and_swap true false = refl
and_swap false true = refl
and_swap false false = refl

module _ (a : Arcs) (u x : ℕ) (got_units got_materials units materials : List ℕ)
    (unit_here : u < length a.materials) (material_here : x < length a.units)
    (read_units : got_units ≡ get_or a.units x got_units)
    (read_materials : got_materials ≡ get_or a.materials u got_materials)
    (units_is : units ≡ with_number u got_units)
    (materials_is : materials ≡ with_number x got_materials) where
  abbrev pub after : Arcs
  after = record { materials = set a.materials u materials; units = set a.units x units }

  pub joined : (v y : ℕ) → joins after v y ≡ (((u == v) && (x == y)) || joins a v y)
  joined v y = put a.units x u got_units units material_here read_units units_is y v
      ∙ ap (λ b. b || joins a v y) (and_swap (x == y) (u == v))

  pub joined_ends : ((v y : ℕ) → has (materials_at a v) y ≡ joins a v y) → (v y : ℕ)
      → has (materials_at after v) y ≡ joins after v y
  joined_ends ends v y =
      put a.materials u x got_materials materials unit_here read_materials materials_is v y
      ∙ (ap (λ b. ((u == v) && (x == y)) || b) (ends v y) ∙ sym (joined v y))

-- ---- the terms of a unit

terms_have-append : (ts us : List Term) (x : ℕ)
    → terms_have (ts ++ us) x ≡ (terms_have ts x || terms_have us x)
terms_have-append [] us x = refl
terms_have-append (t ∷ ts) us x =
    elim (t.material == x) as (λ b. (b || terms_have (ts ++ us) x)
    ≡ ((b || terms_have ts x) || terms_have us x)) [
      | true ↦ refl
      | false ↦ terms_have-append ts us x
    ]

or_none : (b : Bool) → (b || false) ≡ b
or_none true = refl
or_none false = refl

terms_have-more : (ts : List Term) (i : ℕ) (d : Term) (x : ℕ) → i < length ts
    → terms_have (take (i + 1) ts) x
    ≡ (terms_have (take i ts) x || ((get_or ts i d).material == x))
terms_have-more ts i d x h =
    ap (λ us. terms_have us x) (take_more ts i d h)
    ∙ (terms_have-append (take i ts) (get_or ts i d ∷ []) x
    ∙ ap (λ b. terms_have (take i ts) x || b) (or_none ((get_or ts i d).material == x)))

pub terms_have-get : (ts : List Term) (j : ℕ) (d : Term) → j < length ts
    → terms_have ts (get_or ts j d).material ≡ true
terms_have-get [] j d h = absurd (omega arith)
terms_have-get (t ∷ ts) zero d h =
    or_left (t.material == t.material) (terms_have ts t.material)
    (eq-eqb t.material t.material refl)
terms_have-get (t ∷ ts) (suc j) d h =
    or_right (t.material == (get_or ts j d).material) (terms_have ts (get_or ts j d).material)
    (terms_have-get ts j d (omega arith))

join_more : (here term before old : Bool)
    → ((here && term) || ((here && before) || old)) ≡ ((here && (before || term)) || old)
join_more true true true old = refl
join_more true true false old = refl
join_more true false true old = refl
join_more true false false old = refl
join_more false term before old = refl

-- one term more
pub joined_more : (old before after : ℕ → ℕ → Bool) (u : ℕ) (ts : List Term) (i : ℕ) (d : Term)
    → i < length ts
    → ((v y : ℕ) → before v y ≡ (((u == v) && terms_have (take i ts) y) || old v y))
    → ((v y : ℕ) → after v y ≡ (((u == v) && ((get_or ts i d).material == y)) || before v y))
    → (v y : ℕ) → after v y ≡ (((u == v) && terms_have (take (i + 1) ts) y) || old v y)
joined_more old before later u ts i d h was is v y =
    is v y
    ∙ (ap (λ b. ((u == v) && ((get_or ts i d).material == y)) || b) (was v y)
    ∙ (join_more (u == v) ((get_or ts i d).material == y) (terms_have (take i ts) y) (old v y)
    ∙ ap (λ b. ((u == v) && b) || old v y) (sym (terms_have-more ts i d y h))))

-- ---- the units one after another

pub below_more : (x i : ℕ) (a : Bool) → (x == i) ≡ false
    → (nat_lt x i && a) ≡ (nat_lt x (i + 1) && a)
below_more x i a e = elim (cases_lt x i) [
  | inl lt ↦ rw (lt-ltb x i lt, lt-ltb x (i + 1) (omega arith)) refl
  | inr le ↦ let ne : x ≡ i → ⊥ = eqb-false x i e in
      rw (le-ltb x i le, le-ltb x (i + 1) (omega arith)) refl
]

pub unit_more : (side : Side) (us : List OperatingUnit) (u : ℕ) (d : OperatingUnit)
    (ts : List Term)
    (before after : ℕ → ℕ → Bool) → u < length us → ts ≡ terms_on side (get_or us u d)
    → ((v y : ℕ) → before v y ≡ (nat_lt v u && has_term side us v y))
    → ((v y : ℕ) → after v y ≡ (((u == v) && terms_have ts y) || before v y)) → (v y : ℕ)
    → after v y ≡ (nat_lt v (u + 1) && has_term side us v y)
unit_more side us u d ts before later lt terms was is v y = is v y ∙ at (cases_eq v u)
  where
    named : terms_have ts y ≡ has_term side us u y
    named =
        ap (λ xs. terms_have xs y) (terms ∙ ap (terms_on side) (get_or_default us u d no_unit lt))

    at : (v ≡ u) ⊎ (v ≢ u) → (((u == v) && terms_have ts y) || before v y)
        ≡ (nat_lt v (u + 1) && has_term side us v y)
    at (inl q) =
        subst (λ w. (((u == w) && terms_have ts y) || before w y)
        ≡ (nat_lt w (u + 1) && has_term side us w y)) (sym q)
        (rw (eq-eqb u u refl, was u y, le-ltb u u (omega arith), lt-ltb u (u + 1) (omega arith))
        (or_none (terms_have ts y) ∙ named))
    at (inr ne) =
        rw (ne_eqb u v (λ q. ne (sym q)))
        (was v y ∙ below_more v u (has_term side us v y) (ne_eqb v u ne))

-- a fact that is false from the end on counts below it alone
pub past_end : (n x : ℕ) (b : Bool) → (n ≤ x → b ≡ false) → (nat_lt x n && b) ≡ b
past_end n x b none = elim (cases_lt x n) [
  | inl lt ↦ rw (lt-ltb x n lt) refl
  | inr le ↦ rw (le-ltb x n le) (sym (none le))
]

no_terms : (side : Side) (y : ℕ) → terms_have (terms_on side no_unit) y ≡ false
no_terms Inputs y = refl
no_terms Outputs y = refl

pub no_term : (side : Side) (us : List OperatingUnit) (u y : ℕ) → length us ≤ u
    → has_term side us u y ≡ false
no_term side us u y le =
    ap (λ w. terms_have (terms_on side w) y) (get_or_past us u no_unit le) ∙ no_terms side y

-- ---- the materials of a set

pub joins_below : (a : Arcs) → IsArcs a → (u x : ℕ) → joins a u x ≡ true → u < length a.materials
joins_below a is u x e = elim (cases_lt u (length a.materials)) [
  | inl lt ↦ lt
  | inr le
      ↦ absurd
      (both_ways (has (materials_at a u) x)
      (ap (λ xs. has xs x) (get_or_past a.materials u [] le))
      (is.both_ends u x ∙ e))
]

pub joins_some-from : (a : Arcs) → IsArcs a → (o : ℕ → Bool) (u x : ℕ) → o u ≡ true
    → joins a u x ≡ true → joins_some a o x ≡ true
joins_some-from a is o u x e j =
    any_below-from (length a.materials) (λ v. o v && joins a v x) u (joins_below a is u x j)
    (and_from (o u) (joins a u x) e j)

pub joins_some-some : (a : Arcs) (o : ℕ → Bool) (x : ℕ) → joins_some a o x ≡ true → (u : ℕ)
    × (o u ≡ true) × (joins a u x ≡ true)
joins_some-some a o x e =
    let k = any_below-some (length a.materials) (λ v. o v && joins a v x) e in
    let p = and_parts (o k.0) (joins a k.0 x) k.2 in
    (k.0, p.0, p.1)

pub some_number : (xs : List ℕ) → (xs ≡ [] → ⊥) → (u : ℕ) × (has xs u ≡ true)
some_number [] h = absurd (h refl)
some_number (x ∷ xs) h = (x, or_left (x == x) (has xs x) (eq-eqb x x refl))

-- a meet that is empty or not
pub meets_none : (a : Arcs) → IsArcs a → (o : List ℕ) (x : ℕ) → meet (units_at a x) o ≡ []
    → joins_some a (has o) x ≡ false
meets_none a is o x e =
    false_from_ne_true (joins_some a (has o) x) (λ some.
    let k = joins_some-some a (has o) x some in
    both_ways (has (meet (units_at a x) o) k.0) (ap (λ zs. has zs k.0) e)
    (has-meet (units_at a x) o k.0 ∙ and_from (has (units_at a x) k.0) (has o k.0) k.2 k.1))

pub meets_some : (a : Arcs) → IsArcs a → (o : List ℕ) (x : ℕ) → (meet (units_at a x) o ≡ [] → ⊥)
    → joins_some a (has o) x ≡ true
meets_some a is o x ne =
    let k = some_number (meet (units_at a x) o) ne in
    let p =
    and_parts (has (units_at a x) k.0) (has o k.0)
    (sym (has-meet (units_at a x) o k.0) ∙ k.1) in
    joins_some-from a is (has o) k.0 x p.1 p.0

-- a list without its first number is shorter
length-kept : (t : ℕ → Bool) (xs : List ℕ) → length (kept t xs) ≤ length xs
length-kept t [] = omega arith
length-kept t (x ∷ xs) =
    elim (t x) as (λ b. length (cond b (x ∷ kept t xs) (kept t xs)) ≤ suc (length xs))
    [ true ↦ omega (arith, length-kept t xs) | false ↦ omega (arith, length-kept t xs) ]

pub first_shorter : (xs : List ℕ) (u : ℕ) → first xs ≡ Some u
    → length (kept (λ v. not (u == v)) xs) < length xs
first_shorter [] u e = cc
first_shorter (x ∷ xs) u e =
    let same : x ≡ u = cc in
    let gone : (u == x) ≡ true = eq-eqb u x (sym same) in
    rw gone (omega (arith, length-kept (λ v. not (u == v)) xs))

-- what a turn over the units of a set keeps
pub record IsGathered (a : Arcs) (set left found : ℕ → Bool) : Type 0 where
  pub within : IsWithin left set
  pub sound : (x : ℕ) → found x ≡ true → joins_some a set x ≡ true
  pub complete : (u x : ℕ) → set u ≡ true → left u ≡ false → joins a u x ≡ true → found x ≡ true

pub head_in_set : (a : Arcs) (set : ℕ → Bool) (left rest : List ℕ) (found : ℕ → Bool) (u : ℕ)
    → IsGathered a set (has left) found → left ≡ u ∷ rest → set u ≡ true
head_in_set a set left rest found u before head =
    before.within u (ap (λ xs. has xs u) head ∙ or_left (u == u) (has rest u) (eq-eqb u u refl))

module _ (a : Arcs) (is : IsArcs a) (set : ℕ → Bool) (left rest found materials : List ℕ) (u : ℕ)
    (before : IsGathered a set (has left) (has found)) (head : left ≡ u ∷ rest)
    (materials_is : has materials ≡ joins a u) where
  in_left : (v : ℕ) → has left v ≡ ((u == v) || has rest v)
  in_left v = ap (λ xs. has xs v) head

  pub gathered_more : IsGathered a set (has rest) (has (union found materials))
  gathered_more = record {
    within = λ v e. before.within v (in_left v ∙ or_right (u == v) (has rest v) e);
    sound =
        λ x e. elim
        (or_cases (has found x) (has materials x) (sym (has-union found materials x) ∙ e)) [
          | inl p ↦ before.sound x p
          | inr q
              ↦ joins_some-from a is set u x
              (head_in_set a set left rest (has found) u before head)
              (sym (ap (λ t. t x) materials_is) ∙ q)
        ];
    complete = λ v x e gone j.
        has-union found materials x ∙ elim (cases_eq u v) [
          | inl q
              ↦ or_right (has found x) (has materials x)
              (ap (λ t. t x) materials_is ∙ subst (λ w. joins a w x ≡ true) (sym q) j)
          | inr ne
              ↦ or_left (has found x) (has materials x)
              (before.complete v x e
              (in_left v ∙ (ap (λ b. b || has rest v) (ne_eqb u v ne) ∙ gone)) j)
        ];
  }

pub gathered_all : (a : Arcs) (set : ℕ → Bool) (left found : List ℕ) → left ≡ []
    → IsGathered a set (has left) (has found) → has found ≡ joins_some a set
gathered_all a set left found none g =
    λ i. λ x. same_tests (has found x) (joins_some a set x) (g.sound x) (λ e.
    let k = joins_some-some a set x e in
    g.complete k.0 x k.1 (ap (λ xs. has xs k.0) none) k.2) i

pub gathered_start : (a : Arcs) (set : ℕ → Bool) → IsGathered a set set (λ _. false)
gathered_start a set = record {
  within = λ u e. e;
  sound = λ x e. absurd (both_ways false refl e);
  complete = λ u x e gone j. absurd (both_ways (set u) gone e);
}
