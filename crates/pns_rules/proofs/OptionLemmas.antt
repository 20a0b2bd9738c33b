-- The options of a material at a node, and the list of them.
use Rattle.std.proofs.Common.{◌==◌, ◌≡◌, ⊎_elim, ℕ, ◌<◌, nat_lt, true, false, not, ◌&&◌, List, []}
use Rattle.std.proofs.Common.{◌∷◌, ◌↔◌, refl, sym, ap, ◌∙◌, eq-eqb, ltb-true, lt-ltb}
use Rattle.std.proofs.lemmas.Bool.{cases_Bool, or_cases, or_left, or_right, and_from, and_parts}
use Rattle.std.proofs.lemmas.Bool.{both_ways, not-true, false_from_ne_true}
use Rattle.number_sets.specs.Sets.{has, IsSet, Avoids}
use Rattle.number_sets.specs.Options as sets
use Rattle.number_sets.proofs.Cited.{has-listed, IsSet-listed}
use Rattle.number_sets.proofs.Cited as lists
use Rattle.pns_rules.specs.Shape.{Shape, IsProper}
use Rattle.pns_rules.specs.Structure.{makers}
use Rattle.pns_rules.specs.Nodes.{Node, is_free, base_makers, free_makers, options, IsOption}

module _ (g : Shape) (n : Node) (x : ℕ) where
  base_parts : (u : ℕ) → has (base_makers g n x) u ≡ true → (u < g.units) × (n.inside u ≡ true)
      × (g.makes u x ≡ true)
  base_parts u e =
      let p =
      and_parts (nat_lt u g.units) (n.inside u && g.makes u x)
      (sym (has-listed g.units (makers g n.inside x) u) ∙ e) in
      let q = and_parts (n.inside u) (g.makes u x) p.1 in
      (ltb-true u g.units p.0, q.0, q.1)

  free_parts : (u : ℕ) → has (free_makers g n x) u ≡ true → (u < g.units) × (n.inside u ≡ false)
      × (n.outside u ≡ false) × (g.makes u x ≡ true)
  free_parts u e =
      let p =
      and_parts (nat_lt u g.units) (is_free g n u && g.makes u x)
      (sym (has-listed g.units (λ v. is_free g n v && g.makes v x) u) ∙ e) in
      let q = and_parts (is_free g n u) (g.makes u x) p.1 in
      let r = and_parts (not (n.inside u)) (not (n.outside u)) q.0 in
      (ltb-true u g.units p.0, not-true (n.inside u) r.0, not-true (n.outside u) r.1, q.1)

  base_from : (u : ℕ) → u < g.units → n.inside u ≡ true → g.makes u x ≡ true
      → has (base_makers g n x) u ≡ true
  base_from u lt i m = has-listed g.units (makers g n.inside x) u
      ∙ and_from (nat_lt u g.units) (n.inside u && g.makes u x) (lt-ltb u g.units lt)
      (and_from (n.inside u) (g.makes u x) i m)

  free_from : (u : ℕ) → u < g.units → n.inside u ≡ false → n.outside u ≡ false → g.makes u x ≡ true
      → has (free_makers g n x) u ≡ true
  free_from u lt i o m =
      has-listed g.units (λ v. is_free g n v && g.makes v x) u
      ∙ and_from (nat_lt u g.units) (is_free g n u && g.makes u x) (lt-ltb u g.units lt)
      (and_from (is_free g n u) (g.makes u x)
      (and_from (not (n.inside u)) (not (n.outside u)) (ap not i) (ap not o)) m)

  -- no maker is in the base and free
  pub makers_apart : Avoids (has (base_makers g n x)) (has (free_makers g n x))
  makers_apart u b f = both_ways (n.inside u) (free_parts u f).1 (base_parts u b).1

  pub base_set : IsSet g.units (base_makers g n x)
  base_set = IsSet-listed g.units (makers g n.inside x)

  pub free_set : IsSet g.units (free_makers g n x)
  free_set = IsSet-listed g.units (λ u. is_free g n u && g.makes u x)

  -- an option of the material is an option between the two
  pub option_between : (t : List ℕ) → IsOption g n x t
      → sets.IsOption (base_makers g n x) (free_makers g n x) t
  option_between t o = record {
    between = record {
      rising = o.rising;
      has_base = λ u e. let p = base_parts u e in
          o.has_base u (and_from (n.inside u) (g.makes u x) p.1 p.2);
      within = λ u e. let m = o.made_by u e in
          ⊎_elim
          (λ i. or_left (has (base_makers g n x) u) (has (free_makers g n x) u)
          (base_from u m.0 i m.1))
          (λ i. or_right (has (base_makers g n x) u) (has (free_makers g n x) u)
          (free_from u m.0 i m.2 m.1)) (cases_Bool (n.inside u));
    };
    some = λ e. both_ways (has t o.some.0) (ap (λ k. has k o.some.0) e) o.some.1;
  }

  module _ (proper : IsProper g) (apart : Avoids n.inside n.outside) where
    pub between_option : (t : List ℕ) → sets.IsOption (base_makers g n x) (free_makers g n x) t
        → IsOption g n x t
    between_option t o = record {
      rising = o.between.rising;
      has_base = λ u e. let p = and_parts (n.inside u) (g.makes u x) e in
          o.between.has_base u (base_from u (proper.maker_known u x p.1) p.0 p.1);
      made_by =
          λ u e. ⊎_elim (λ b. let p = base_parts u b in
          (p.0, p.2, false_from_ne_true (n.outside u) (apart u p.1)))
          (λ f. let p = free_parts u f in (p.0, p.3, p.2))
          (or_cases (has (base_makers g n x) u) (has (free_makers g n x) u) (o.between.within u e));
      some = member t o.some;
    }
      where
        member : (t : List ℕ) → (t ≡ [] → ⊥) → (u : ℕ) × (has t u ≡ true)
        member [] some = absurd (some refl)
        member (u ∷ us) some = (u, or_left (u == u) (has us u) (eq-eqb u u refl))

pub options_all : (g : Shape) (n : Node) (x : ℕ) (t : List ℕ) → IsProper g
    → Avoids n.inside n.outside → sets.IsIn t (options g n x) ↔ IsOption g n x t
options_all g n x t proper apart = (
  (λ h. between_option g n x proper apart t
      (lists.in_option g.units (base_makers g n x) (free_makers g n x) (base_set g n x)
      (free_set g n x) (makers_apart g n x) t h)),
  (λ o. lists.option_in g.units (base_makers g n x) (free_makers g n x) (base_set g n x)
      (free_set g n x) (makers_apart g n x) t (option_between g n x t o)),
)

pub options_ascend : (g : Shape) (n : Node) (x : ℕ) → sets.IsAscending (options g n x)
options_ascend g n x =
    lists.options_ascend g.units (base_makers g n x) (free_makers g n x) (base_set g n x)
    (free_set g n x) (makers_apart g n x)
