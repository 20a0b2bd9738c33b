-- Each proper shape has a maximal structure, the union of its solution structures. So a budget is
-- not below the limit if it is at least twice the number of sets of units.
use Rattle.std.proofs.Common.{◌≡◌, ℕ, suc, ◌^◌, ◌<◌, ◌≤◌, Bool, true, false, ◌||◌, List, [], ◌∷◌}
use Rattle.std.proofs.Common.{length, inl, inr, arith, refl, sym, subst}
use Rattle.std.specs.Prelude.{nat_lt}
use Rattle.std.proofs.Math.Path.{fun_ext}
use Rattle.std.proofs.Math.Nat.{pow-le-pow_right}
use Rattle.std.proofs.lemmas.Bool.{or_cases, or_left, or_right, and_parts, and_from, lt-ltb}
use Rattle.studio.specs.number_sets.Sets.{has, listed, Avoids}
use Rattle.studio.specs.number_sets.Options.{IsIn}
use Rattle.studio.proofs.number_sets.Cited.{same_tests, has-listed, IsRising-listed, length_listed}
use Rattle.studio.specs.problem_rules.Problem.{Problem}
use Rattle.studio.specs.problem_rules.Validity.{IsValid}
use Rattle.studio.specs.pns_rules.Shape.{Shape, IsProper, shape_of}
use Rattle.studio.specs.pns_rules.Structure.{is_made, is_used, mats, IsPath, Meets, IsStructure}
use Rattle.studio.specs.pns_rules.Structure.{IsAllowed}
use Rattle.studio.specs.pns_rules.Structure.{IsUnion}
use Rattle.studio.proofs.pns_rules.Cited.{proper_if_valid, is_made-from, is_used-from, is_made-some}
use Rattle.studio.proofs.pns_rules.Cited.{is_used-some, mats-within, structures_of, is_structure_in}
use Rattle.studio.proofs.pns_rules.Cited.{structure_is_in}
use Rattle.studio.specs.tree_rules.Proved.{IsBelowLimit}

-- whether some set of a list has the number
pub in_some : List (List ℕ) → ℕ → Bool
in_some [] u = false
in_some (t ∷ ts) u = has t u || in_some ts u

some_from : (ts : List (List ℕ)) (t : List ℕ) (u : ℕ) → IsIn t ts → has t u ≡ true
    → in_some ts u ≡ true
unfolding in_some
some_from [] t u i e = absurd i
some_from (s ∷ ts) t u (inl q) e =
    or_left (has s u) (in_some ts u) (subst (λ r. has r u ≡ true) q e)
some_from (s ∷ ts) t u (inr q) e = or_right (has s u) (in_some ts u) (some_from ts t u q e)

some_has : (ts : List (List ℕ)) (u : ℕ) → in_some ts u ≡ true
    → (t : List ℕ) × IsIn t ts × (has t u ≡ true)
unfolding in_some
some_has [] u e = absurd (let y : false ≡ true = e in cc)
some_has (s ∷ ts) u e =
    elim (or_cases (has s u) (in_some ts u) e) [
      | inl q ↦ (s, inl refl, q)
      | inr q ↦ let (t, i, k) = some_has ts u q in (t, inr i, k)
    ]

module _ (g : Shape) (proper : IsProper g) where
  -- the shape without its exclusions, which allows all its solution structures
  abbrev pub plain : Shape
  plain =
      record {
        materials = g.materials;
        units = g.units;
        raw = g.raw;
        product = g.product;
        uses =
            g.uses;
        makes = g.makes;
        exclusions = 0;
        excludes = λ k u. false;
      }

  plain_is_proper : IsProper plain
  plain_is_proper = record {
    product_known = proper.product_known;
    input_known = proper.input_known;
    output_known = proper.output_known;
    kinds_apart = proper.kinds_apart;
    user_known = proper.user_known;
    maker_known = proper.maker_known;
    excluded_known = λ k u e. absurd (let y : false ≡ true = e in cc);
    sides_apart = proper.sides_apart;
  }

  path_there : (o : ℕ → Bool) (u : ℕ) (path : List ℕ) → IsPath g o u path → IsPath plain o u path
  path_there o u [] h = h
  path_there o u (x ∷ []) h = h
  path_there o u (x ∷ v ∷ rest) h = (h.0, h.1, h.2, path_there o v rest h.3)

  path_back : (o : ℕ → Bool) (u : ℕ) (path : List ℕ) → IsPath plain o u path → IsPath g o u path
  path_back o u [] h = h
  path_back o u (x ∷ []) h = h
  path_back o u (x ∷ v ∷ rest) h = (h.0, h.1, h.2, path_back o v rest h.3)

  there : (m o : ℕ → Bool) → Meets g m o → IsStructure plain o
  there m o h = record {
    graph = λ x e. e;
    s1 = λ x e. h.s5 x (h.s1 x e);
    s2 = λ x e. h.s2 x (h.graph x e);
    s3 = h.s3;
    s4 = λ u e. let q = h.s4 u e in record { path = q.path; leads = path_there o u q.path q.leads };
    s5 = λ x e. e;
  }

  back : (o : ℕ → Bool) → IsStructure plain o → IsStructure g o
  back o h =
      record {
        graph = h.graph;
        s1 = h.s1;
        s2 = h.s2;
        s3 = h.s3;
        s4 = λ u e. let q =
            h.s4 u e in record { path = q.path; leads = path_back o u q.path q.leads };
        s5 = h.s5;
      }

  all_allowed : (o : ℕ → Bool) → IsAllowed plain o
  all_allowed o k c = let h = c.known in absurd (omega arith)

  abbrev pub union : ℕ → Bool
  union = in_some (structures_of plain)

  -- a set of units of the problem, as a list
  as_list : (o : ℕ → Bool) → ((u : ℕ) → o u ≡ true → u < g.units) → has (listed g.units o) ≡ o
  as_list o known = fun_ext (λ u. same_tests (has (listed g.units o) u) (o u)
      (λ e.
      (and_parts (nat_lt u g.units) (o u) (subst (λ b. b ≡ true) (has-listed g.units o u) e)).1)
      (λ e. subst (λ b. b ≡ true) (sym (has-listed g.units o u))
      (and_from (nat_lt u g.units) (o u) (lt-ltb u g.units (known u e)) e)))

  unit_there : (u : ℕ) → union u ≡ true
      → (m o : ℕ → Bool) × Meets g m o × Avoids o (λ v. false) × (o u ≡ true)
  unit_there u e =
      let (t, i, k) = some_has (structures_of plain) u e in
      let s = is_structure_in plain plain_is_proper t i in (
        mats g (has t),
        has t,
        back (has t) s.1,
        (λ v a b. absurd (let y : false ≡ true = b in cc)),
        k,
      )

  unit_back : (m o : ℕ → Bool) (u : ℕ) → Meets g m o → o u ≡ true → union u ≡ true
  unit_back m o u h e =
      let q = as_list o h.s3 in
      some_from (structures_of plain) (listed g.units o) u
      (structure_is_in plain plain_is_proper (listed g.units o) (IsRising-listed g.units o)
      (subst (λ s. IsStructure plain s) (sym q) (there m o h))
      (all_allowed (has (listed g.units o))))
      (subst (λ s. s u ≡ true) (sym q) e)

  material_there : (x : ℕ) → mats g union x ≡ true
      → (m o : ℕ → Bool) × Meets g m o × Avoids o (λ v. false) × (m x ≡ true)
  material_there x e =
      elim (or_cases (is_used g union x) (is_made g union x) e) [
        | inl a ↦ let (u, l, k, v) = is_used-some g union x a in
            let (m, o, h, w, r) = unit_there u k in (
              m,
              o,
              h,
              w,
              h.graph x (or_left (is_used g o x) (is_made g o x) (is_used-from g o u x l r v)),
            )
        | inr a ↦ let (u, l, k, v) = is_made-some g union x a in
            let (m, o, h, w, r) = unit_there u k in (
              m,
              o,
              h,
              w,
              h.graph x (or_right (is_used g o x) (is_made g o x) (is_made-from g o u x l r v)),
            )
      ]

  material_back : (m o : ℕ → Bool) (x : ℕ) → Meets g m o → m x ≡ true → mats g union x ≡ true
  material_back m o x h e = mats-within g o union (λ u k. unit_back m o u h k) x (h.s5 x e)

  pub union_exists : IsUnion g (λ u. false) union
  union_exists = record {
    unit_in = λ u. (unit_there u, λ q. unit_back q.0 q.1 u q.2 q.4);
    material_in = λ x. (material_there x, λ q. material_back q.0 q.1 x q.2 q.4);
  }

pub not_below_limit : (p : Problem) → IsValid p → (budget : ℕ) → 2 ^ suc (length p.units) ≤ budget
    → IsBelowLimit p budget → ⊥
not_below_limit p valid budget h below =
    let proper = proper_if_valid p valid in
    let l : budget < 2 ^ suc (length (listed (length p.units) (union (shape_of p) proper))) =
    below (union (shape_of p) proper) (union_exists (shape_of p) proper) in
    let k : length (listed (length p.units) (union (shape_of p) proper)) ≤ length p.units =
    length_listed (length p.units) (union (shape_of p) proper) in
    let m : 2 ^ suc (length (listed (length p.units) (union (shape_of p) proper)))
    ≤ 2 ^ suc (length p.units) = pow-le-pow_right (omega arith) (omega (arith, k)) in
    omega (arith, l, m, h)
