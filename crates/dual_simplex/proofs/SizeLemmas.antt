-- The second round: the sizes, unit after unit.
use Rattle.std.proofs.Common.{◌≡◌, ℕ, suc, ◌+◌, ◌-◌, ◌<◌, ◌≤◌, true, false, ℤ, pos, ◌+ℤ◌, ◌*ℤ◌}
use Rattle.std.proofs.Common.{◌<ℤ◌, List, map, length, get_or, set, refl, sym, ap, ◌∙◌, subst}
use Rattle.std.proofs.Common.{arith, ◌≢◌, get_or-set_other, get_or-set_same, below_more}
use Rattle.std.specs.Prelude.{unsigned_abs, int_div, Option}
use Rattle.std.specs.Option.{SomeIff}
use Rattle.std.specs.Int.{◌∣◌}
use Rattle.std.specs.List.{range_with_len}
use Rattle.flow_program.specs.integer_laws.Lowest.{IsLowest}
use Rattle.flow_program.specs.integer_laws.Range.{InRange, AllInRange}
use Rattle.std.proofs.lemmas.List.{get_or_default}
use Rattle.std.proofs.lemmas.List.FromFn.{fill_by_all}
use Rattle.flow_program.proofs.integer_laws.Cited.{V, N, ◌⊗◌, ring}
use Rattle.flow_program.specs.flow_rules.Steps.{AreInRange}
use Rattle.flow_program.specs.flow_rules.LinearProgram.{LinearProgram}
use Rattle.flow_program.specs.flow_rules.ReadFlows.{Formed, FlowStep, Shift, Scaled, Total, sizes}
use Rattle.flow_program.specs.flow_rules.ReadFlows.{rounds, size}
use Rattle.flow_program.specs.flow_rules.ReadFlows.{size_above, AreRead, IsPastFlow}
use Rattle.dual_simplex.specs.Rows.{Rows, table, basis}
use Rattle.dual_simplex.specs.Choice.{columns_of}
use Rattle.dual_simplex.specs.Reading.{Reading, IsOwnPositive, IsFormedTo, IsFirstOut, formed_of}
use Rattle.dual_simplex.specs.Reading.{size_steps, second_round}
use Rattle.dual_simplex.proofs.ReadingLemmas.{some_reading}
use Rattle.dual_simplex.proofs.RoundLemmas.{formed_none, formed_more, formed_all, formed_both}
use Rattle.dual_simplex.proofs.RoundLemmas.{formed_out, out_before, never_out, steps_in_range}
use Rattle.dual_simplex.proofs.ValueLemmas.{value_same, own_divides}

-- ---- one unit

-- the part of a value that the denominator is divided by divides it
pub part_divides : (r : Rows) (i : ℕ) (den right own : ℤ) → i < r.units → IsOwnPositive r
    → basis r i ≡ true → IsLowest (table r i (columns_of r)) (table r i i) right own
    → ((p : LinearProgram) (v : Reading p r) → den ≡ v.den r.units)
    → unsigned_abs own ∣ unsigned_abs den
part_divides r i den right own h positive b low last =
    let some = some_reading r positive in
    let v = some.1 in
    subst (λ (x : ℤ). unsigned_abs own ∣ unsigned_abs x) (sym (last some.0 v))
    (subst (λ (x : ℤ). unsigned_abs x ∣ unsigned_abs (v.den r.units))
    (sym ((value_same v i right own h b (positive i h b) low).1)) (own_divides v i h))

last_same : {p : LinearProgram} {r : Rows} (v : Reading p r) → v.den r.units ≡ v.den p.units
last_same v = ap (λ (k : ℕ). v.den k) (sym v.size.units)

above_is : {p : LinearProgram} {r : Rows} (v : Reading p r) (i : ℕ) (den q right own : ℤ)
    → i < r.units → basis r i ≡ true → pos 0 <ℤ table r i i
    → IsLowest (table r i (columns_of r)) (table r i i) right own → den ≡ v.den r.units
    → q ≡ int_div den own → q *ℤ right ≡ size_above p v.own v.right v.den i
above_is {p} {r} v i den q right own h b positive low last e =
    let same = value_same v i right own h b positive low in
    let d : den ≡ v.den p.units = last ∙ last_same v in
    ap (λ (x : ℤ). x *ℤ right)
    (e ∙ (ap (λ (x : ℤ). int_div x own) d ∙ ap (λ (x : ℤ). int_div (v.den p.units) x) same.1))
    ∙ ap (λ (x : ℤ). int_div (v.den p.units) (v.own i) *ℤ x) same.0

pub above_found : {p : LinearProgram} {r : Rows} (v : Reading p r) (i : ℕ) (den q right own : ℤ)
    (found : Option ℤ) → i < r.units → basis r i ≡ true → pos 0 <ℤ table r i i
    → IsLowest (table r i (columns_of r)) (table r i i) right own → den ≡ v.den r.units
    → q ≡ int_div den own → SomeIff found (InRange (q *ℤ right)) (q *ℤ right)
    → SomeIff found (InRange (size_above p v.own v.right v.den i))
    (size_above p v.own v.right v.den i)
above_found {p} v i den q right own found h b positive low last e made =
    subst (λ (x : ℤ). SomeIff found (InRange x) x)
    (above_is v i den q right own h b positive low last e) made

nothing : (a b : ℤ) → b ≡ pos 0 → a *ℤ b ≡ pos 0
nothing a b e = ap (λ (x : ℤ). a *ℤ x) e ∙ ring (V a ⊗ N 0) (N 0) (omega arith)

pub above_outside : {p : LinearProgram} {r : Rows} (v : Reading p r) (i : ℕ) → i < r.units
    → basis r i ≡ false → size_above p v.own v.right v.den i ≡ pos 0
above_outside {p} v i h b = let inside : i < p.units =
    omega (arith, v.size.units) in
    nothing (int_div (v.den p.units) (v.own i)) (v.right i) (v.values.outside-right i inside b)

-- ---- its three numbers, which are shift, above and total

shift_is : {p : LinearProgram} {r : Rows} (v : Reading p r) (i : ℕ) (low den : ℤ) → low ≡ p.low i
    → den ≡ v.den r.units → low *ℤ den ≡ p.low i *ℤ v.den p.units
shift_is {p} v i low den e last = ap (λ (x : ℤ). x *ℤ den) e
    ∙ ap (λ (x : ℤ). p.low i *ℤ x) (last ∙ last_same v)

pub shift_out : {p : LinearProgram} {r : Rows} (v : Reading p r) (i : ℕ) (low den : ℤ)
    → low ≡ p.low i → den ≡ v.den r.units → ¬ InRange (low *ℤ den)
    → IsFirstOut (formed_of v) (size_steps i) (record { unit = i; step = Shift })
shift_out v i low den e last past =
    record {
      at = 0;
      past = subst (λ (x : ℤ). ¬ InRange x) (shift_is v i low den e last) past;
      is =
          refl;
    }

pub above_out : {p : LinearProgram} {r : Rows} (v : Reading p r) (i : ℕ) (low den shift : ℤ)
    → low ≡ p.low i → den ≡ v.den r.units → InRange (low *ℤ den) × (shift ≡ low *ℤ den)
    → ¬ InRange (size_above p v.own v.right v.den i)
    → IsFirstOut (formed_of v) (size_steps i) (record { unit = i; step = Scaled })
above_out v i low den shift e last made past =
    record { at = 1; past = (subst InRange (shift_is v i low den e last) made.0, past); is = refl }

size_is : {p : LinearProgram} {r : Rows} (v : Reading p r) (i : ℕ) (low den shift above : ℤ)
    → low ≡ p.low i → den ≡ v.den r.units → shift ≡ low *ℤ den
    → above ≡ size_above p v.own v.right v.den i → shift +ℤ above ≡ size p v.own v.right v.den i
size_is {p} v i low den shift above e last f g =
    ap (λ (x : ℤ). x +ℤ above) (f ∙ shift_is v i low den e last)
    ∙ ap (λ (x : ℤ). p.low i *ℤ v.den p.units +ℤ x) g

pub total_out : {p : LinearProgram} {r : Rows} (v : Reading p r) (i : ℕ) (low den shift above : ℤ)
    → low ≡ p.low i → den ≡ v.den r.units → InRange (low *ℤ den) × (shift ≡ low *ℤ den)
    → InRange (size_above p v.own v.right v.den i) × (above ≡ size_above p v.own v.right v.den i)
    → ¬ InRange (shift +ℤ above)
    → IsFirstOut (formed_of v) (size_steps i) (record { unit = i; step = Total })
total_out v i low den shift above e last made more past = record {
  at = 2;
  past = (
    subst InRange (shift_is v i low den e last) made.0,
    (
      more.0,
      subst (λ (x : ℤ). ¬ InRange x) (size_is v i low den shift above e last made.1 more.1) past,
    ),
  );
  is = refl;
}

pub size_found : {p : LinearProgram} {r : Rows} (v : Reading p r) (i : ℕ)
    (low den shift above total : ℤ) → low ≡ p.low i → den ≡ v.den r.units → shift ≡ low *ℤ den
    → above ≡ size_above p v.own v.right v.den i → total ≡ shift +ℤ above
    → total ≡ size p v.own v.right v.den i
size_found v i low den shift above total e last f g h =
    h ∙ size_is v i low den shift above e last f g

pub steps_found : {p : LinearProgram} {r : Rows} (v : Reading p r) (i : ℕ) (low den shift above : ℤ)
    → low ≡ p.low i → den ≡ v.den r.units → InRange (low *ℤ den) × (shift ≡ low *ℤ den)
    → InRange (size_above p v.own v.right v.den i) × (above ≡ size_above p v.own v.right v.den i)
    → InRange (shift +ℤ above) → AreInRange (map (formed_of v) (size_steps i))
steps_found v i low den shift above e last made more range = (
  subst InRange (shift_is v i low den e last) made.0,
  (more.0, (subst InRange (size_is v i low den shift above e last made.1 more.1) range, tt)),
)

-- ---- all units

-- the numbers of the units before i are in range
pub record IsSecondRound (p : LinearProgram) (r : Rows) (i : ℕ) : Type 0 where
  pub formed : (v : Reading p r) (m : ℕ) → i + m ≡ r.units
      → IsFormedTo (formed_of v) (second_round r) (sizes (range_with_len i m))

pub second_round_start : (p : LinearProgram) (r : Rows) → IsSecondRound p r 0
second_round_start p r = record {
  formed = λ v m e. let n : r.units ≡ m =
      omega arith in
      formed_none (formed_of v) (second_round r) (sizes (range_with_len 0 m))
      (ap (λ (k : ℕ). sizes (range_with_len 0 k)) n);
}

pub second_round_more : (p : LinearProgram) (r : Rows) (i : ℕ) → IsSecondRound p r i
    → ((v : Reading p r) → AreInRange (map (formed_of v) (size_steps i)))
    → IsSecondRound p r (i + 1)
second_round_more p r i so_far range = record {
  formed =
      λ v m e. formed_more (formed_of v) (second_round r) (size_steps i)
      (sizes (range_with_len (i + 1) m)) (so_far.formed v (suc m) (omega arith)) (range v);
}

pub second_round_end : (p : LinearProgram) (r : Rows) (i : ℕ) → i ≡ r.units → IsSecondRound p r i
    → (v : Reading p r) → AreInRange (map (formed_of v) (second_round r))
second_round_end p r i e so_far v =
    formed_all (formed_of v) (second_round r) (so_far.formed v 0 (omega arith))

pub second_round_past : (p : LinearProgram) (r : Rows) (i : ℕ) (step : FlowStep) → i < r.units
    → IsSecondRound p r i
    → ((v : Reading p r)
    → IsFirstOut (formed_of v) (size_steps i) (record { unit = i; step = step }))
    → (v : Reading p r)
    → IsFirstOut (formed_of v) (second_round r) (record { unit = i; step = step })
second_round_past p r i step h so_far out v =
    let m = r.units - suc i in
    formed_out (formed_of v) (second_round r) (sizes (range_with_len i (suc m)))
    (record { unit = i; step = step }) (so_far.formed v (suc m) (omega arith))
    (out_before (formed_of v) (size_steps i) (sizes (range_with_len (i + 1) m))
    (record { unit = i; step = step }) (out v))

-- if all are in range, none of a unit is out of it
pub never_past : {p : LinearProgram} {r : Rows} (v : Reading p r) (i : ℕ) (f : Formed) → i < r.units
    → AreInRange (map (formed_of v) (second_round r)) → IsFirstOut (formed_of v) (size_steps i) f
    → ⊥
never_past {p} {r} v i f h range out =
    never_out (formed_of v) (size_steps i) out.at
    (steps_in_range (formed_of v) 0 r.units i (omega arith) (omega arith) range) out.past

-- ---- the sizes, put one after another

pub record ArePut (p : LinearProgram) (r : Rows) (flows : List ℤ) (i : ℕ) : Type 0 where
  pub sizes : (v : Reading p r) (k : ℕ) → k < i
      → get_or flows k (pos 0) ≡ size p v.own v.right v.den k
  pub in_range : (k : ℕ) → k < i → InRange (get_or flows k (pos 0))

pub put_more : (p : LinearProgram) (r : Rows) (flows : List ℤ) (i : ℕ) (z : ℤ) → i < length flows
    → ((v : Reading p r) → z ≡ size p v.own v.right v.den i) → InRange z → ArePut p r flows i
    → ArePut p r (set flows i z) (i + 1)
put_more p r flows i z within e range put = record {
  sizes = λ v. below_more _ _
      (λ k h. let other : k ≢ i = omega arith in get_or-set_other flows i k z (pos 0) other
      ∙ put.sizes v k h)
      (get_or-set_same flows i z (pos 0) within ∙ e v);
  in_range = below_more _ _
      (λ k h. let other : k ≢ i = omega arith in
      subst InRange (sym (get_or-set_other flows i k z (pos 0) other)) (put.in_range k h))
      (subst InRange (sym (get_or-set_same flows i z (pos 0) within)) range);
}

pub put_in_range : (p : LinearProgram) (r : Rows) (flows : List ℤ) (i : ℕ) → length flows ≤ i
    → ArePut p r flows i → AllInRange flows
put_in_range p r flows i all put =
    λ k d within. subst InRange (get_or_default flows k (pos 0) d within)
    (put.in_range k (omega arith))

pub read_sizes : {p : LinearProgram} {r : Rows} (v : Reading p r) (flows : List ℤ)
    → length flows ≡ r.units
    → ((k : ℕ) → k < r.units → get_or flows k (pos 0) ≡ size p v.own v.right v.den k)
    → flows ≡ map (size p v.own v.right v.den) (range_with_len 0 p.units)
read_sizes {p} v flows len h =
    fill_by_all (size p v.own v.right v.den) flows p.units (pos 0) (len ∙ sym v.size.units)
    (λ k below. h k (omega (arith, v.size.units)))

-- ---- the reading

pub past_flow : {p : LinearProgram} {r : Rows} (v : Reading p r) (f : Formed)
    → IsFirstOut (formed_of v) (rounds p (basis r)) f
    → IsPastFlow p (basis r) (table r) f.unit f.step
past_flow v f out =
    record {
      own = v.own;
      right = v.right;
      den = v.den;
      values = v.values;
      at = out.at;
      past =
          out.past;
      is = out.is;
    }

pub are_read : {p : LinearProgram} {r : Rows} (v : Reading p r) (flows : List ℤ) (d : ℤ)
    → length flows ≡ r.units → IsFormedTo (formed_of v) (rounds p (basis r)) (second_round r)
    → AreInRange (map (formed_of v) (second_round r))
    → ((k : ℕ) → k < r.units → get_or flows k (pos 0) ≡ size p v.own v.right v.den k)
    → d ≡ v.den r.units → AreRead p (basis r) (table r) flows d
are_read {p} {r} v flows d len formed range is last = record {
  own = v.own;
  right = v.right;
  den = v.den;
  values = v.values;
  in_range = formed_both (formed_of v) (rounds p (basis r)) (second_round r) formed range;
  sizes_are = read_sizes v flows len is;
  d_is = last ∙ last_same v;
}
