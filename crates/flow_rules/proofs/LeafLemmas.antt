-- A leaf that passes has no cause to be refused, and one that is refused has one.
use Rattle.std.proofs.Common.{◌≡◌, ◌∙◌, ℤ, sym, inl, inr}
use Rattle.pns_rules.specs.problem_rules.Problem.{Problem}
use Rattle.pns_rules.specs.Nodes.{Node}
use Rattle.flow_rules.specs.ChargeFacts.{Facts}
use Rattle.flow_rules.specs.declared.charge_why.ChargeWhy.{ChargeWhy}
use Rattle.flow_rules.specs.ChargeLeaf.{Handed, FailsFor, ChargePasses, ChargeFails}

pub holds : {W : Type 0} (Condition : Type 0) (cause : W) (Below : Type 0) (why : W) → Condition
    → (Below → ⊥) → FailsFor Condition cause Below why → ⊥
holds Condition cause Below why h k (inl f) = f.1 h
holds Condition cause Below why h k (inr f) = k f.1

pub one_of : {W : Type 0} (Condition : Type 0) (cause : W) (Below Other : Type 0) (why other : W)
    → (Below → Other → why ≡ other) → FailsFor Condition cause Below why
    → FailsFor Condition cause Other other → why ≡ other
one_of Condition cause Below Other why other k (inl f) (inl e) = f.0 ∙ sym e.0
one_of Condition cause Below Other why other k (inl f) (inr e) = absurd (f.1 e.0)
one_of Condition cause Below Other why other k (inr f) (inl e) = absurd (e.1 f.0)
one_of Condition cause Below Other why other k (inr f) (inr e) = k f.1 e.1

none : ⊥ → ⊥
none x = x

neither : (why other : ChargeWhy) → ⊥ → ⊥ → why ≡ other
neither why other x y = absurd x

pub passing_has_no_cause : (p : Problem) (C : Type 0) (R : ℤ → ℤ → Type 0) (n : Node) (f : Facts)
    (h : Handed) → ChargePasses p C R n f h → (why : ChargeWhy) → ChargeFails p C R n f h why → ⊥
passing_has_no_cause p C R n f h passes why fails =
    holds _ _ _ why (passes.scale, passes.each_row)
    (holds _ _ _ why passes.covered
    (holds _ _ _ why passes.formed
    (holds _ _ _ why passes.reaches none))) fails

pub cause_is_one : (p : Problem) (C : Type 0) (R : ℤ → ℤ → Type 0) (n : Node) (f : Facts)
    (h : Handed) (why other : ChargeWhy) → ChargeFails p C R n f h why
    → ChargeFails p C R n f h other → why ≡ other
cause_is_one p C R n f h why other =
    one_of _ _ _ _ why other
    (one_of _ _ _ _ why other
    (one_of _ _ _ _ why other
    (one_of _ _ _ _ why other (neither why other))))
