-- The units of a problem are migrated one after another.
use Rattle.std.proofs.Common.{◌≡◌, ◌<◌, ◌*ℤ◌, ◌==◌, ℕ, Bool, true, false, cond, not, List, [], ◌∷◌}
use Rattle.std.proofs.Common.{◌++◌, length, map, get_or, set, ℤ, pos, refl, sym, ap, ◌∙◌, subst}
use Rattle.std.proofs.Common.{arith}
use Rattle.std.specs.Prelude.{flat_map, unsigned_abs}
use Rattle.std.specs.List.{list_any}
use Rattle.std.specs.Ordering.{int_eq}
use Rattle.std.proofs.lemmas.List.{length-map, append_assoc}
use Rattle.std.proofs.lemmas.Bool.{or_parts, and_parts, not-false, not_from_true}
use Rattle.std.proofs.lemmas.Bool.Decides.{Decides-int_eq}
use Rattle.flow_rules.proofs.integer_laws.Cited.{mul-zero_z}
use Rattle.edit_rules.specs.problem_rules.Problem.{Problem, OperatingUnit, no_unit, unit_names}
use Rattle.edit_rules.specs.problem_rules.Each.{Each}
use Rattle.edit_rules.specs.Edit.{fix, proportional, investment}
use Rattle.edit_rules.specs.Effect.{with_unit}
use Rattle.edit_rules.specs.Inverse.{costs_no_investment}
use Rattle.edit_rules.specs.Migration.{has_payout, costs_nothing_yearly, unit_migration, migration}
use Rattle.edit_rules.specs.Place.{has_unit}
use Rattle.edit_rules.specs.Script.{LeadsTo}
use Rattle.edit_laws.proofs.ListLemmas.{map-at}
use Rattle.edit_laws.proofs.NameLemmas.{knows, place, AreApart, place-at, knows-at}
use Rattle.edit_laws.proofs.ScriptLemmas.{leads_through}
use Rattle.edit_laws.proofs.UndoLemmas.{no_amount}

-- the unit with its yearly costs as investment costs
abbrev pub moved : ℤ → OperatingUnit → OperatingUnit
moved years u = record u {
  fix = pos 0;
  proportional = pos 0;
  investment_fix = years *ℤ u.fix;
  investment_proportional = years *ℤ u.proportional;
}

pub record IsUninvested (u : OperatingUnit) : Type 0 where
  pub fix : u.investment_fix ≡ pos 0
  pub proportional : u.investment_proportional ≡ pos 0

pub uninvested : (us : List OperatingUnit)
    → list_any (λ (u : OperatingUnit). not (costs_no_investment u)) us ≡ false
    → Each IsUninvested us
uninvested [] e = tt
uninvested (u ∷ us) e =
    let p =
    or_parts (not (costs_no_investment u))
    (list_any (λ (u : OperatingUnit). not (costs_no_investment u)) us) e in
    let z =
    and_parts (unsigned_abs u.investment_fix == 0) (unsigned_abs u.investment_proportional == 0)
    (not-false (costs_no_investment u) p.0) in (
      record {
        fix = no_amount u.investment_fix z.0;
        proportional =
            no_amount u.investment_proportional z.1;
      },
      uninvested us p.1,
    )

pub record PaysOnce (p : Problem) : Type 0 where
  pub payout : p.payout ≡ pos 1
  pub units : Each IsUninvested p.units

pub pays_once : (p : Problem) → has_payout p ≡ false → PaysOnce p
pays_once p e =
    let h =
    or_parts (not (int_eq p.payout (pos 1)))
    (list_any (λ (u : OperatingUnit). not (costs_no_investment u)) p.units) e in
    record {
      payout = (Decides-int_eq p.payout (pos 1)).0 (not-false (int_eq p.payout (pos 1)) h.0);
      units = uninvested p.units h.1;
    }

-- ---- the unit after those that are done

get_or_middle : {X : Type 0} (done rest : List X) (x d : X)
    → get_or (done ++ x ∷ rest) (length done) d ≡ x
get_or_middle [] rest x d = refl
get_or_middle (y ∷ ys) rest x d = get_or_middle ys rest x d

set_middle : {X : Type 0} (done rest : List X) (x y : X)
    → set (done ++ x ∷ rest) (length done) y ≡ done ++ y ∷ rest
set_middle [] rest x y = refl
set_middle (z ∷ zs) rest x y = ap (λ l. z ∷ l) (set_middle zs rest x y)

length_middle : {X : Type 0} (done rest : List X) (x : X) → length done < length (done ++ x ∷ rest)
length_middle [] rest x = omega arith
length_middle (y ∷ ys) rest x = let h = length_middle ys rest x in omega arith

same_names : (done rest : List OperatingUnit) (u v : OperatingUnit) → v.name ≡ u.name
    → unit_names (done ++ v ∷ rest) ≡ unit_names (done ++ u ∷ rest)
same_names [] rest u v e = λ i. e i ∷ unit_names rest
same_names (d ∷ ds) rest u v e = ap (λ ns. d.name ∷ ns) (same_names ds rest u v e)

-- one edit of that unit: the problem knows it, and its effect is there alone
record IsEdited (p : Problem) (done rest : List OperatingUnit) (u : OperatingUnit)
    (n : List ℕ) : Type 0 where
  known : has_unit (record p { units = done ++ u ∷ rest }) n ≡ true
  there : (f : OperatingUnit → OperatingUnit)
      → with_unit (record p { units = done ++ u ∷ rest }) n f
      ≡ record p { units = done ++ f u ∷ rest }

edited : (p : Problem) (done rest : List OperatingUnit) (u : OperatingUnit) (n : List ℕ)
    → u.name ≡ n → AreApart (unit_names (done ++ u ∷ rest)) → IsEdited p done rest u n
edited p done rest u n is apart =
    let us = done ++ u ∷ rest in
    let ns = unit_names us in
    let k = length done in
    let less : k < length ns =
    subst (λ j. k < j) (sym (length-map us (λ (v : OperatingUnit). v.name)))
    (length_middle done rest u) in
    let name_is : get_or ns k [] ≡ n =
    map-at (λ (v : OperatingUnit). v.name) us k no_unit
    ∙ (ap (λ (v : OperatingUnit). v.name) (get_or_middle done rest u no_unit) ∙ is) in
    let here : place n ns ≡ k = ap (λ z. place z ns) (sym name_is) ∙ place-at ns k [] apart less in
    record {
      known = ap (λ z. knows z ns) (sym name_is) ∙ knows-at ns k [] less;
      there = λ f. (λ i. record p { units = set us (here i) (f (get_or us (here i) no_unit)) })
          ∙ ((λ i. record p { units = set us k (f (get_or_middle done rest u no_unit i)) })
          ∙ (λ i. record p { units = set_middle done rest u (f u) i }));
    }

nothing_moved : (years : ℤ) (u : OperatingUnit) → IsUninvested u → costs_nothing_yearly u ≡ true
    → u ≡ moved years u
nothing_moved years u h e =
    let z = and_parts (unsigned_abs u.fix == 0) (unsigned_abs u.proportional == 0) e in
    let f = no_amount u.fix z.0 in
    let c = no_amount u.proportional z.1 in
    let once : u.investment_fix ≡ years *ℤ u.fix =
    h.fix ∙ (sym (mul-zero_z years) ∙ ap (λ x. years *ℤ x) (sym f)) in
    let rate : u.investment_proportional ≡ years *ℤ u.proportional =
    h.proportional ∙ (sym (mul-zero_z years) ∙ ap (λ x. years *ℤ x) (sym c)) in
    λ i. record u {
      fix = f i;
      proportional = c i;
      investment_fix =
          once i;
      investment_proportional = rate i;
    }

three_edits : (years : ℤ) (p : Problem) (done rest : List OperatingUnit) (u : OperatingUnit)
    → AreApart (unit_names (done ++ u ∷ rest))
    → LeadsTo (record p { units = done ++ u ∷ rest })
    (fix u.name (pos 0) ∷ proportional u.name (pos 0)
    ∷ investment u.name (years *ℤ u.fix) (years *ℤ u.proportional) ∷ [])
    (record p { units = done ++ moved years u ∷ rest })
three_edits years p done rest u apart =
    let n = u.name in
    let v : OperatingUnit = record u { fix = pos 0 } in
    let w : OperatingUnit = record v { proportional = pos 0 } in
    let first = edited p done rest u n refl apart in
    let second =
    edited p done rest v n refl (subst AreApart (sym (same_names done rest u v refl)) apart) in
    let third =
    edited p done rest w n refl (subst AreApart (sym (same_names done rest u w refl)) apart) in
    let a : Problem = record p { units = done ++ u ∷ rest } in
    let b : Problem = record p { units = done ++ v ∷ rest } in
    let c : Problem = record p { units = done ++ w ∷ rest } in
    leads_through a b (record p { units = done ++ moved years u ∷ rest }) (fix n (pos 0) ∷ [])
    (proportional n (pos 0) ∷ investment n (years *ℤ u.fix) (years *ℤ u.proportional) ∷ [])
    (record {
      can = ((not_from_true _ first.known, tt), tt);
      same =
          first.there (λ x. record x { fix = pos 0 });
    })
    (leads_through b c (record p { units = done ++ moved years u ∷ rest })
    (proportional n (pos 0) ∷ []) (investment n (years *ℤ u.fix) (years *ℤ u.proportional) ∷ [])
    (record {
      can = ((not_from_true _ second.known, tt), tt);
      same =
          second.there (λ x. record x { proportional = pos 0 });
    })
    (record {
      can = ((not_from_true _ third.known, tt), tt);
      same =
          third.there
          (λ x. record x {
            investment_fix = years *ℤ u.fix;
            investment_proportional =
                years *ℤ u.proportional;
          });
    }))

unit_migrates : (b : Bool) (years : ℤ) (p : Problem) (done rest : List OperatingUnit)
    (u : OperatingUnit) → costs_nothing_yearly u ≡ b → IsUninvested u
    → AreApart (unit_names (done ++ u ∷ rest))
    → LeadsTo (record p { units = done ++ u ∷ rest })
    (cond b []
    (fix u.name (pos 0) ∷ proportional u.name (pos 0)
    ∷ investment u.name (years *ℤ u.fix) (years *ℤ u.proportional) ∷ []))
    (record p { units = done ++ moved years u ∷ rest })
unit_migrates true years p done rest u e h apart =
    record { can = tt; same = λ i. record p { units = done ++ nothing_moved years u h e i ∷ rest } }
unit_migrates false years p done rest u e h apart = three_edits years p done rest u apart

units_migrate : (years : ℤ) (p : Problem) (done us : List OperatingUnit) → Each IsUninvested us
    → AreApart (unit_names (done ++ us))
    → LeadsTo (record p { units = done ++ us }) (flat_map (unit_migration years) us)
    (record p { units = done ++ map (moved years) us })
units_migrate years p done [] h apart = record { can = tt; same = refl }
units_migrate years p done (u ∷ us) h apart =
    let m = moved years u in
    let one = unit_migrates (costs_nothing_yearly u) years p done us u refl h.0 apart in
    let front : (ys : List OperatingUnit) → (done ++ m ∷ []) ++ ys ≡ done ++ m ∷ ys =
    λ ys. append_assoc done (m ∷ []) ys in
    let still =
    subst AreApart (sym (ap unit_names (front us) ∙ same_names done us u m refl)) apart in
    let more = units_migrate years p (done ++ m ∷ []) us h.1 still in
    let moved_on =
    subst
    (λ (ys : List OperatingUnit). LeadsTo (record p { units = ys })
    (flat_map (unit_migration years) us)
    (record p { units = done ++ m ∷ map (moved years) us })) (front us)
    (subst
    (λ (ys : List OperatingUnit). LeadsTo (record p { units = (done ++ m ∷ []) ++ us })
    (flat_map (unit_migration years) us) (record p { units = ys }))
    (front (map (moved years) us)) more) in
    leads_through (record p { units = done ++ u ∷ us }) (record p { units = done ++ m ∷ us })
    (record p { units = done ++ m ∷ map (moved years) us }) (unit_migration years u)
    (flat_map (unit_migration years) us) one moved_on

-- the problem with years as its payout period, and each unit moved
abbrev pub migrated : ℤ → Problem → Problem
migrated years p = record p { units = map (moved years) p.units; payout = years }

pub migration_leads : (years : ℤ) (p : Problem) → Each IsUninvested p.units
    → AreApart (unit_names p.units) → LeadsTo p (migration years p) (migrated years p)
migration_leads years p h apart =
    let q : Problem = record p { payout = years } in
    let rest = units_migrate years q [] p.units h apart in
    record { can = (tt, rest.can); same = rest.same }
