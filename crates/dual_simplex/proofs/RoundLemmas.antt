-- Numbers formed one after another: how far they are in range, and the first that is not.
use Rattle.std.proofs.Common.{◌≡◌, ℕ, zero, suc, ◌+◌, ◌<◌, ◌≤◌, inl, inr, ℤ, List, [], ◌∷◌, ◌++◌}
use Rattle.std.proofs.Common.{map, get_or, refl, sym, ◌∙◌, subst, append_assoc, arith}
use Rattle.std.specs.List.{range_with_len}
use Rattle.std.proofs.lemmas.Bool.Decides.{eqb_tells}
use Rattle.std.proofs.lemmas.List.{append-nil}
use Rattle.flow_program.specs.integer_laws.Range.{InRange}
use Rattle.flow_program.specs.flow_rules.Steps.{AreInRange, IsFirstPast}
use Rattle.flow_program.specs.flow_rules.ReadFlows.{Formed, sizes}
use Rattle.dual_simplex.specs.Reading.{IsFormedTo, IsFirstOut, size_steps}

pub in_range_both : (number : Formed → ℤ) (xs ys : List Formed) → AreInRange (map number xs)
    → AreInRange (map number ys) → AreInRange (map number (xs ++ ys))
in_range_both number [] ys h k = k
in_range_both number (x ∷ xs) ys h k = (h.0, in_range_both number xs ys h.1 k)

-- the first out of range after numbers that are in range
pub out_behind : (number : Formed → ℤ) (xs ys : List Formed) (f : Formed)
    → AreInRange (map number xs) → IsFirstOut number ys f → IsFirstOut number (xs ++ ys) f
out_behind number [] ys f h out = out
out_behind number (x ∷ xs) ys f h out =
    let more = out_behind number xs ys f h.1 out in
    record { at = suc more.at; past = (h.0, more.past); is = more.is }

out_before_at : (number : Formed → ℤ) (xs ys : List Formed) (f : Formed) (k : ℕ)
    → IsFirstPast (map number xs) k → get_or xs k f ≡ f → IsFirstPast (map number (xs ++ ys)) k
    × (get_or (xs ++ ys) k f ≡ f)
out_before_at number [] ys f k h e = absurd h
out_before_at number (x ∷ xs) ys f zero h e = (h, e)
out_before_at number (x ∷ xs) ys f (suc k) h e = let more =
    out_before_at number xs ys f k h.1 e in ((h.0, more.0), more.1)

-- what follows changes nothing
pub out_before : (number : Formed → ℤ) (xs ys : List Formed) (f : Formed) → IsFirstOut number xs f
    → IsFirstOut number (xs ++ ys) f
out_before number xs ys f out =
    let more = out_before_at number xs ys f out.at out.past out.is in
    record { at = out.at; past = more.0; is = more.1 }

pub out_here : (number : Formed → ℤ) (f : Formed) (rest : List Formed) → ¬ InRange (number f)
    → IsFirstOut number (f ∷ rest) f
out_here number f rest h = record { at = 0; past = h; is = refl }

-- numbers in range have no first out of range
pub never_out : (number : Formed → ℤ) (fs : List Formed) (k : ℕ) → AreInRange (map number fs)
    → IsFirstPast (map number fs) k → ⊥
never_out number [] k h p = p
never_out number (f ∷ fs) zero h p = p h.0
never_out number (f ∷ fs) (suc k) h p = never_out number fs k h.1 p.1

pub formed_none : (number : Formed → ℤ) (all rest : List Formed) → all ≡ rest
    → IsFormedTo number all rest
formed_none number all rest e = record { done = []; is = e; in_range = tt }

pub formed_more : (number : Formed → ℤ) (all xs rest : List Formed)
    → IsFormedTo number all (xs ++ rest) → AreInRange (map number xs) → IsFormedTo number all rest
formed_more number all xs rest h k = record {
  done = h.done ++ xs;
  is = h.is ∙ sym (append_assoc h.done xs rest);
  in_range = in_range_both number h.done xs h.in_range k;
}

pub formed_all : (number : Formed → ℤ) (all : List Formed) → IsFormedTo number all []
    → AreInRange (map number all)
formed_all number all h =
    subst (λ (fs : List Formed). AreInRange (map number fs)) (sym (h.is ∙ append-nil h.done))
    h.in_range

pub formed_both : (number : Formed → ℤ) (all rest : List Formed) → IsFormedTo number all rest
    → AreInRange (map number rest) → AreInRange (map number all)
formed_both number all rest h k =
    subst (λ (fs : List Formed). AreInRange (map number fs)) (sym h.is)
    (in_range_both number h.done rest h.in_range k)

pub formed_out : (number : Formed → ℤ) (all rest : List Formed) (f : Formed)
    → IsFormedTo number all rest → IsFirstOut number rest f → IsFirstOut number all f
formed_out number all rest f h out =
    subst (λ (fs : List Formed). IsFirstOut number fs f) (sym h.is)
    (out_behind number h.done rest f h.in_range out)

-- ---- the second round

-- the numbers of one unit among those of n units from a on
pub steps_in_range : (number : Formed → ℤ) (a n i : ℕ) → a ≤ i → i < a + n
    → AreInRange (map number (sizes (range_with_len a n))) → AreInRange (map number (size_steps i))
steps_in_range number a zero i h k range = absurd (omega arith)
steps_in_range number a (suc n) i h k range = elim (eqb_tells i a) [
  | inl (_, e)
      ↦ subst (λ (j : ℕ). AreInRange (map number (size_steps j))) (sym e)
      (range.0, (range.1.0, (range.1.1.0, tt)))
  | inr (_, e) ↦ steps_in_range number (a + 1) n i (omega arith) (omega arith) range.1.1.1
]
