-- Sets of units that the lines after a charge name.
use Rattle.std.proofs.Common.{◌≡◌, ◌<◌, ◌≤◌, ℕ, Bool, true, false, List, [], ◌∷◌, length, Option}
use Rattle.std.proofs.Common.{Some, None, IfSome, Result, Ok, Err, IfOk, IfErr, arith}
use Rattle.std.proofs.Common.{if◌then◌else◌}
use Rattle.std.proofs.lemmas.List.{length-map}
use Rattle.tree_text_rules.specs.problem_rules.Each.{Each}
use Rattle.tree_text_rules.specs.problem_rules.Problem.{Problem}
use Rattle.tree_text_rules.specs.flow_rules.Cover as rules
use Rattle.branch_tree.specs.pgraph.Kept.{IsKept, AreKept}
use Rattle.branch_tree.specs.pgraph.CoversView.{cover_of, covers_of}
use Rattle.branch_tree.specs.pgraph.declared.cover.Cover.{Cover}
use Rattle.tree_text_rules.specs.tree_rules.Known.{KnowsCover}
use Rattle.tree_text_rules.specs.Line.{Token}
use Rattle.tree_text_rules.specs.LineRead.{some_units}
use Rattle.tree_text_rules.specs.Token.{both, mapped, each, judged, unit_of, units_of, is_rising}
use Rattle.tree_text_rules.specs.declared.TreeKind.{TreeKind}
use Rattle.tree_text_rules.specs.declared.TreeKind.TheVariants.{Order}

-- ---- at least one unit is named

-- the units of one token or more
pub some_read : (p : Problem) (tokens : List Token) → 0 < length tokens
    → (r : Result (List ℕ) TreeKind) → IfOk r (λ us. units_of p tokens ≡ Ok us)
    → IfErr r (λ kind. units_of p tokens ≡ Err kind) → some_units p tokens ≡ r
some_read p [] some r ok fault = absurd (omega arith)
some_read p (token ∷ tokens) some (Ok us) ok fault = ok
some_read p (token ∷ tokens) some (Err kind) ok fault = fault

rising_some : (rises : Bool) (read us : List ℕ) → (read ≡ [] → ⊥)
    → (if rises then Ok read else Err Order) ≡ Ok us → us ≡ [] → ⊥
rising_some true read us some e none = some (let same : read ≡ [] = cc in same)
rising_some false read us some e none = absurd cc

first_some : (here : Result ℕ TreeKind) (rest : Result (List ℕ) TreeKind) (us : List ℕ)
    → judged is_rising Order (mapped (λ found. found.0 ∷ found.1) (both here rest)) ≡ Ok us
    → us ≡ [] → ⊥
first_some (Ok u) (Ok vs) us e none =
    rising_some (is_rising (u ∷ vs)) (u ∷ vs) us (λ same. absurd cc) e none
first_some (Ok u) (Err kind) us e none = absurd cc
first_some (Err kind) (Ok vs) us e none = absurd cc
first_some (Err kind) (Err other) us e none = absurd cc

units_some : (p : Problem) (tokens : List Token) (us : List ℕ) → 0 < length tokens
    → units_of p tokens ≡ Ok us → us ≡ [] → ⊥
units_some p [] us some e none = absurd (omega arith)
units_some p (token ∷ tokens) us some e none =
    first_some (unit_of p token) (each (unit_of p) tokens) us e none

pub some_known : (p : Problem) (tokens : List Token) → 0 < length tokens
    → (r : Result (List ℕ) TreeKind) → IfOk r (λ us. units_of p tokens ≡ Ok us)
    → IfOk r (λ us. us ≡ [] → ⊥)
some_known p tokens some (Ok us) ok = units_some p tokens us some ok
some_known p tokens some (Err kind) ok = tt

-- ---- sets of which the problem knows the units are kept

beside_kept : (units : ℕ) (o : Option ℕ) → units ≤ 128 → IfSome o (λ u. u < units)
    → IfSome o (λ u. u < 128)
beside_kept units None few known = tt
beside_kept units (Some u) few known = omega (arith, known)

each_kept : (p : Problem) (covers : List rules.Cover) → length p.units ≤ 128
    → Each (KnowsCover p) covers → Each IsKept covers
each_kept p [] few known = tt
each_kept p (c ∷ cs) few known = (
  record {
    in_range = known.0.weight;
    not_negative = known.0.not_negative;
    beside = beside_kept (length p.units) c.beside few known.0.beside;
  },
  each_kept p cs few known.1,
)

pub are_kept : (p : Problem) (covers : List Cover) → length p.units ≤ 128
    → length covers ≤ 1000000 → Each (KnowsCover p) (covers_of covers)
    → AreKept (covers_of covers)
are_kept p covers units few known = record {
  few = omega (arith, length-map covers cover_of);
  each = each_kept p (covers_of covers) units known;
}
