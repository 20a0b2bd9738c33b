-- The sets that a graph takes from its problem, and the whole graph.
use Rattle.std.proofs.Common.{◌≡◌, ◌≢◌, ℕ, zero, suc, ◌+◌, ◌<◌, ◌≤◌, ◌==◌, nat_lt, Bool, true}
use Rattle.std.proofs.Common.{false, ◌&&◌, ◌||◌, List, [], ◌∷◌, ◌++◌, length, get_or, take, refl}
use Rattle.std.proofs.Common.{sym, ap, ◌∙◌, subst, inl, inr, ◌⊎◌, arith, eq-eqb, ne_eqb}
use Rattle.std.proofs.lemmas.Bool.{or_left, or_right, cases_eq, lt-ltb, le-ltb}
use Rattle.std.proofs.lemmas.List.{get_or_default, get_or_past, take_more}
use Rattle.flow_rules.specs.number_sets.Sets.{has, with_number}
use Rattle.flow_rules.proofs.number_sets.Cited.{has-append, has-with_number}
use Rattle.flow_rules.specs.problem_rules.Problem.{Problem, Material, OperatingUnit, Exclusion}
use Rattle.flow_rules.specs.problem_rules.Problem.{no_material}
use Rattle.flow_rules.specs.problem_rules.Problem.{no_exclusion, is_raw_material, is_product}
use Rattle.flow_rules.specs.problem_rules.WellFormed.{IsWellFormed}
use Rattle.flow_rules.specs.pns_rules.Shape.{IsProper, shape_of}
use Rattle.pgraph.specs.declared.arcs.Side.TheVariants.{Inputs, Outputs}
use Rattle.pgraph.specs.Arcs.{joins}
use Rattle.pgraph.specs.Tables.{Tables, shape, IsGraph}
use Rattle.pgraph.specs.Building.{has_term, is_raw_at, is_product_at, units_excluded}
use Rattle.pgraph.proofs.ArcLemmas.{below_more}

keep : (b c : Bool) → c ≡ false → ((b && true) || c) ≡ b
keep true c e = refl
keep false c e = e

drop_out : (b c : Bool) → ((b && false) || c) ≡ c
drop_out true c = refl
drop_out false c = refl

-- a set that is built by a count of the materials
pub counted : (t : ℕ → Bool) (x : ℕ) (b : Bool) (before after : ℕ → Bool) → b ≡ t x
    → ((y : ℕ) → before y ≡ (nat_lt y x && t y))
    → ((y : ℕ) → after y ≡ ((b && (x == y)) || before y)) → (y : ℕ)
    → after y ≡ (nat_lt y (x + 1) && t y)
counted t x b before after here was is y = is y ∙ at (cases_eq y x)
  where
    at : (y ≡ x) ⊎ (y ≢ x) → ((b && (x == y)) || before y) ≡ (nat_lt y (x + 1) && t y)
    at (inl q) = subst (λ w. ((b && (x == w)) || before w) ≡ (nat_lt w (x + 1) && t w)) (sym q)
        (rw (eq-eqb x x refl, was x, le-ltb x x (omega arith), lt-ltb x (x + 1) (omega arith))
        (keep b false refl ∙ here))
    at (inr ne) =
        rw (ne_eqb x y (λ q. ne (sym q)))
        (drop_out b (before y) ∙ (was y ∙ below_more y x (t y) (ne_eqb y x ne)))

pub raw_past : (ms : List Material) (x : ℕ) → length ms ≤ x → is_raw_at ms x ≡ false
raw_past ms x le = ap (λ (m : Material). is_raw_material m.kind) (get_or_past ms x no_material le)

pub product_past : (ms : List Material) (x : ℕ) → length ms ≤ x → is_product_at ms x ≡ false
product_past ms x le = ap (λ (m : Material). is_product m.kind) (get_or_past ms x no_material le)

-- ---- a list of units as a set

pub has-get : (us : List ℕ) (i d : ℕ) → i < length us → has us (get_or us i d) ≡ true
has-get [] i d h = absurd (omega arith)
has-get (u ∷ us) zero d h = or_left (u == u) (has us u) (eq-eqb u u refl)
has-get (u ∷ us) (suc i) d h =
    or_right (u == get_or us i d) (has us (get_or us i d)) (has-get us i d (omega arith))

or_last : (a b : Bool) → (a || b) ≡ (b || (a || false))
or_last true true = refl
or_last true false = refl
or_last false true = refl
or_last false false = refl

pub has-more : (us : List ℕ) (i d : ℕ) (set new : List ℕ) → i < length us
    → ((v : ℕ) → has set v ≡ has (take i us) v) → new ≡ with_number (get_or us i d) set → (v : ℕ)
    → has new v ≡ has (take (i + 1) us) v
has-more us i d set new h was is v =
    ap (λ xs. has xs v) is
    ∙ (has-with_number (get_or us i d) set v
    ∙ (ap (λ b. (get_or us i d == v) || b) (was v)
    ∙ (or_last (get_or us i d == v) (has (take i us) v)
    ∙ sym (ap (λ xs. has xs v) (take_more us i d h)
    ∙ has-append (take i us) (get_or us i d ∷ []) v))))

-- ---- the sets of the exclusions, one after another

get_or-last : (sets : List (List ℕ)) (new : List ℕ)
    → get_or (sets ++ new ∷ []) (length sets) [] ≡ new
get_or-last [] new = refl
get_or-last (s ∷ sets) new = get_or-last sets new

get_or-before : (sets : List (List ℕ)) (new : List ℕ) (k : ℕ) → k < length sets
    → get_or (sets ++ new ∷ []) k [] ≡ get_or sets k []
get_or-before [] new k h = absurd (omega arith)
get_or-before (s ∷ sets) new zero h = refl
get_or-before (s ∷ sets) new (suc k) h = get_or-before sets new k (omega arith)

pub set_more : (es : List Exclusion) (i : ℕ) (e : Exclusion) (sets : List (List ℕ)) (new : List ℕ)
    → i < length es → length sets ≡ i → has new ≡ has (get_or es i e).units
    → ((k u : ℕ) → k < i → has (get_or sets k []) u ≡ has (units_excluded es k) u) → (k u : ℕ)
    → k < i + 1 → has (get_or (sets ++ new ∷ []) k []) u ≡ has (units_excluded es k) u
set_more es i e sets new h count is before k u lt = elim (cases_eq k i) [
  | inl q ↦
      ap (λ xs. has xs u) (ap (λ j. get_or (sets ++ new ∷ []) j []) (q ∙ sym count)
      ∙ get_or-last sets new)
      ∙ (ap (λ t. t u) is
      ∙ ap (λ (x : Exclusion). has x.units u)
      (get_or_default es i e no_exclusion h ∙ ap (λ j. get_or es j no_exclusion) (sym q)))
  | inr ne ↦ let less : k < length sets =
      omega (arith, count) in ap (λ xs. has xs u) (get_or-before sets new k less)
      ∙ before k u (omega arith)
]

pub none_past : (es : List Exclusion) (sets : List (List ℕ)) (k u : ℕ) → length sets ≡ length es
    → length es ≤ k → has (get_or sets k []) u ≡ has (units_excluded es k) u
none_past es sets k u e le =
    ap (λ xs. has xs u) (get_or_past sets k [] (omega arith))
    ∙ sym (ap (λ (x : Exclusion). has x.units u) (get_or_past es k no_exclusion le))

-- ---- the whole graph

module _ (p : Problem) (ms : List Material) (us : List OperatingUnit) (es : List Exclusion)
    (same_ms : ms ≡ p.materials) (same_us : us ≡ p.units) (same_es : es ≡ p.exclusions) (t : Tables)
    (materials : length t.inputs.units ≡ length ms) (units : length t.inputs.materials ≡ length us)
    (exclusions : length t.exclusions ≡ length es)
    (raws : has t.raws ≡ is_raw_at ms) (products : has t.products ≡ is_product_at ms)
    (inputs : (u x : ℕ) → joins t.inputs u x ≡ has_term Inputs us u x)
    (outputs : (u x : ℕ) → joins t.outputs u x ≡ has_term Outputs us u x)
    (excluded : (k u : ℕ) → has (get_or t.exclusions k []) u ≡ has (units_excluded es k) u) where
  pub same_shape : shape t ≡ shape_of p
  same_shape = λ i. record {
    materials = (materials ∙ ap length same_ms) i;
    units = (units ∙ ap length same_us) i;
    raw = (raws ∙ ap is_raw_at same_ms) i;
    product = (products ∙ ap is_product_at same_ms) i;
    uses = λ u x. (inputs u x ∙ ap (λ ws. has_term Inputs ws u x) same_us) i;
    makes = λ u x. (outputs u x ∙ ap (λ ws. has_term Outputs ws u x) same_us) i;
    exclusions = (exclusions ∙ ap length same_es) i;
    excludes = λ k u. (excluded k u ∙ ap (λ ds. has (units_excluded ds k) u) same_es) i;
  }

  pub is_graph : IsProper (shape_of p) → IsWellFormed p → length t.outputs.units ≡ length ms
      → length t.outputs.materials ≡ length us → IsGraph t
  is_graph proper formed out_materials out_units = record {
    proper = subst IsProper (sym same_shape) proper;
    few_units = subst (λ n. n ≤ 128) (sym (units ∙ ap length same_us)) formed.few_units;
    few_materials = subst (λ n. n ≤ 256) (sym (materials ∙ ap length same_ms)) formed.few_materials;
    few_exclusions =
        subst (λ n. n ≤ 64) (sym (exclusions ∙ ap length same_es)) formed.few_exclusions;
    same_units = out_units ∙ sym units;
    same_materials = out_materials ∙ sym materials;
  }
