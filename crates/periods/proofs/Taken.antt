-- Lines that are taken one by one.
use Rattle.std.proofs.Common.{◌≡◌, ◌<◌, ◌≤◌, ◌+◌, ◌++◌, ◌*◌, ◌==◌, ◌||◌, ℕ, zero, suc, Bool, true}
use Rattle.std.proofs.Common.{false, not, nat_lt, List, [], ◌∷◌, length, Option, Some, None, Result}
use Rattle.std.proofs.Common.{Ok, Err, refl, sym, subst, ap, ◌∙◌, arith, get_or, if◌then◌else◌}
use Rattle.std.proofs.Common.{length-append}
use Rattle.std.specs.Prelude.{slice_set}
use Rattle.std.specs.Option.{option_or}
use Rattle.std.specs.Vec.{with_item}
use Rattle.std.proofs.lemmas.List.{length-set}
use Rattle.std.proofs.lemmas.Bool.{le-ltb, ne_eqb}
use Rattle.plan_laws.specs.problem_rules.Problem.{Problem}
use Rattle.plan_laws.specs.plan_rules.declared.PlanKind.{PlanKind}
use Rattle.plan_laws.specs.plan_rules.declared.PlanKind.TheVariants.{BadLine, DoubleLine, TooWide}
use Rattle.plan_laws.specs.plan_rules.Line.{Entry, begins}
use Rattle.plan_laws.specs.plan_rules.Meaning.{entry_fault, at_line, lines_fault, count_fault}
use Rattle.plan_laws.specs.plan_rules.Meaning.{own_period}
use Rattle.plan_laws.specs.plan_rules.Meaning.{changed}
use Rattle.plan_laws.specs.plan_rules.Plan.{Period, Plan, is_too_wide}
use Rattle.plan_laws.specs.plan_rules.Read.{Fault, Line, Seen, is_begin, is_double, seen_after}
use Rattle.plan_laws.specs.plan_rules.Read.{placed}
use Rattle.plan_laws.specs.plan_rules.Read.{with_line, lines_read}
use Rattle.text_lines.specs.Lines.{Coming}
use Rattle.periods.specs.declared.line.Change.{Change}
use Rattle.periods.specs.declared.line.Change.TheVariants.{Price, Bounds}
use Rattle.periods.specs.declared.reading.Reading.{Reading}
use Rattle.periods.specs.View.{changes, entry_of}
use Rattle.edit_scripts.specs.Reads.{Reads}
use Rattle.text_lines.specs.declared.fault.LineFault.{LineFault}
use Rattle.periods.specs.declared.line.Entry as code
use Rattle.periods.specs.declared.line.Entry.TheVariants.{Begins}
use Rattle.periods.specs.Reading.{seen_of, resumed, judged, ended, go_on, read_on, HasTaken}
use Rattle.periods.proofs.Resumed.{begun, gone_on, wide_more, at_least, told_wide, ended_wide}

-- ---- a line that begins a period

pub some_begun : (n : ℕ) → 0 < n → not (n == 0) ≡ true
some_begun n some = ap not (ne_eqb n 0 (λ e. omega (arith, some, e)))

one_more : (periods : List Period) (q : Period) → 0 < length (periods ++ q ∷ [])
one_more periods q = let long = length-append periods (q ∷ []) in omega (arith, long)

pushed : (p : Problem) (behind number : ℕ) (fault : Option Fault) (periods : List Period)
    (rest : Result (List Line) Fault)
    → go_on p behind fault (periods ++ own_period p ∷ []) rest
    ≡ go_on p behind fault periods (with_line number (Ok begins) rest)
pushed p behind number fault periods (Ok lines) =
    ap (ended p behind (option_or fault (lines_fault p lines))) (begun p periods number lines)
pushed p behind number fault periods (Err first) = refl

pub begins_period : (p : Problem) (number : ℕ) (old new : Reading) → new.priced ≡ []
    → new.bounded ≡ [] → new.fault ≡ old.fault
    → new.periods.items ≡ old.periods.items ++ own_period p ∷ []
    → HasTaken p number (Ok begins) old new
begins_period p number old new priced bounded fault more = record {
  seen =
      λ i. record {
        started =
            (ap (λ (qs : List Period). not (length qs == 0)) more
            ∙ some_begun (length (old.periods.items ++ own_period p ∷ []))
            (one_more old.periods.items (own_period p))) i;
        priced = priced i;
        bounded = bounded i;
      };
  same = λ behind rest. ap (λ (f : Option Fault). go_on p behind f new.periods.items rest) fault
      ∙ ap (λ (qs : List Period). go_on p behind old.fault qs rest) more
      ∙ pushed p behind number old.fault old.periods.items rest;
}

neither : (a b : Bool) → a ≡ false → b ≡ false → (a || b) ≡ true → ⊥
neither true b e f h = cc
neither false b e f h = cc

some_wide : (u m n : ℕ) → u ≤ 128 → is_too_wide u m n ≡ true → 0 < n
some_wide u m zero few wide =
    absurd
    (neither (nat_lt 128 (u * (0 + 1))) (nat_lt 256 ((m + u) * 0 + u))
    (le-ltb 128 (u * (0 + 1)) (omega (arith, few)))
    (le-ltb 256 ((m + u) * 0 + u) (omega (arith, few))) wide)
some_wide u m (suc n) few wide = omega arith

module _ (p : Problem) (few : length p.units ≤ 128) (periods : List Period)
    (wide : is_too_wide (length p.units) (length p.materials) (length periods) ≡ true) where
  some_periods : 0 < length periods
  some_periods = some_wide (length p.units) (length p.materials) (length periods) few wide

  all_wide : (lines : List Line) → count_fault p (length (resumed p periods lines)) ≡ Some TooWide
  all_wide lines =
      let long = at_least p periods lines in
      told_wide p (length (resumed p periods lines)) (omega (arith, long, some_periods))
      (wide_more (length p.units) (length p.materials) (length periods)
      (length (resumed p periods lines)) long wide)

  not_pushed : (behind number : ℕ) (fault : Option Fault) (rest : Result (List Line) Fault)
      → go_on p behind fault periods rest
      ≡ go_on p behind fault periods (with_line number (Ok begins) rest)
  not_pushed behind number fault (Ok lines) =
      let line : Line = record { number = number; entry = begins } in
      ended_wide p behind (option_or fault (lines_fault p lines)) (resumed p periods lines)
      (resumed p periods (line ∷ lines)) (all_wide lines) (all_wide (line ∷ lines))
  not_pushed behind number fault (Err first) = refl

pub begins_none : (p : Problem) (number : ℕ) (old new : Reading) → length p.units ≤ 128
    → is_too_wide (length p.units) (length p.materials) (length old.periods.items) ≡ true
    → new.priced ≡ [] → new.bounded ≡ [] → new.fault ≡ old.fault
    → new.periods.items ≡ old.periods.items → HasTaken p number (Ok begins) old new
begins_none p number old new few wide priced bounded fault same = record {
  seen =
      λ i. record {
        started =
            (ap (λ (qs : List Period). not (length qs == 0)) same
            ∙ some_begun (length old.periods.items) (some_periods p few old.periods.items wide)) i;
        priced = priced i;
        bounded = bounded i;
      };
  same = λ behind rest. ap (λ (f : Option Fault). go_on p behind f new.periods.items rest) fault
      ∙ ap (λ (qs : List Period). go_on p behind old.fault qs rest) same
      ∙ not_pushed p few old.periods.items wide behind number old.fault rest;
}

-- ---- a line that changes a material

pub no_begin : (material : List ℕ) (change : Change) → is_begin (changes material change) ≡ false
no_begin material (Price price) = refl
no_begin material (Bounds lower upper) = refl

stands : (entry : Entry) (seen : Seen) → is_begin entry ≡ false → seen.started ≡ true
    → is_double seen entry ≡ false → placed seen (Ok entry) ≡ Ok entry
stands entry seen other started once =
    ap (λ b. if b then Ok entry
    else (if seen.started then (if is_double seen entry then Err DoubleLine else Ok entry)
    else Err BadLine)) other
    ∙ ap
    (λ b. if b then (if is_double seen entry then Err DoubleLine else Ok entry) else Err
    BadLine) started
    ∙ ap (λ b. if b then Err DoubleLine else Ok entry) once

pub is_once : (is_new twice : Bool) → is_new ≡ not twice → is_new ≡ true → twice ≡ false
is_once is_new true same new = cc
is_once is_new false same new = refl

fault_behind : (p : Problem) (behind number : ℕ) (entry : Entry) (kind : PlanKind)
    (fault : Option Fault) (periods after : List Period) (rest : Result (List Line) Fault)
    → entry_fault p entry ≡ Some kind
    → go_on p behind (option_or fault (Some (number, kind))) after rest
    ≡ go_on p behind fault periods (with_line number (Ok entry) rest)
fault_behind p behind number entry kind (Some fault) periods after (Ok lines) bad = refl
fault_behind p behind number entry kind None periods after (Ok lines) bad =
    ap (λ (k : Option PlanKind). ended p behind (at_line number k (lines_fault p lines))
    (resumed p periods (record { number = number; entry = entry } ∷ lines))) (sym bad)
fault_behind p behind number entry kind fault periods after (Err first) bad = refl

last_behind : (p : Problem) (behind number k : ℕ) (entry : Entry) (q d : Period)
    (fault : Option Fault) (periods : List Period) (rest : Result (List Line) Fault)
    → k + 1 ≡ length periods → is_begin entry ≡ false
    → entry_fault p entry ≡ None → q ≡ changed p (get_or periods k d) entry
    → go_on p behind fault (slice_set periods k q) rest
    ≡ go_on p behind fault periods (with_line number (Ok entry) rest)
last_behind p behind number k entry q d fault periods (Ok lines) last other good is =
    ap (λ (qs : List Period). ended p behind (option_or fault (lines_fault p lines)) qs)
    (gone_on p periods k number entry q d lines last other is)
    ∙ ap
    (λ (kind : Option PlanKind). ended p behind
    (option_or fault (at_line number kind (lines_fault p lines)))
    (resumed p periods (record { number = number; entry = entry } ∷ lines))) (sym good)
last_behind p behind number k entry q d fault periods (Err first) last other good is = refl

-- the names of the line are noted, and the last period changes
module _ (p : Problem) (number k : ℕ) (entry : Entry) (q : Period) (old noted : Reading)
    (some : 0 < length old.periods.items) (other : is_begin entry ≡ false)
    (once : is_double (seen_of old) entry ≡ false)
    (seen : seen_of noted ≡ seen_after (seen_of old) entry) (same : noted.periods ≡ old.periods)
    (fault : noted.fault ≡ old.fault) where
  abbrev with_last : Option Fault → Reading
  with_last f =
      record {
        periods = with_item noted.periods k q;
        priced = noted.priced;
        bounded =
            noted.bounded;
        fault = f;
      }

  stood : placed (seen_of old) (Ok entry) ≡ Ok entry
  stood = stands entry (seen_of old) other (some_begun (length old.periods.items) some) once

  places : (f : Option Fault)
      → ((behind : ℕ) (rest : Result (List Line) Fault)
      → go_on p behind f (slice_set noted.periods.items k q) rest
      ≡ go_on p behind old.fault old.periods.items (with_line number (Ok entry) rest))
      → HasTaken p number (Ok entry) old (with_last f)
  places f goes = record {
    seen =
        ap (λ (n : ℕ). record {
          started = not (n == 0);
          priced = noted.priced;
          bounded =
              noted.bounded;
        }) (length-set noted.periods.items k q) ∙ seen;
    same = λ behind rest. goes behind rest
        ∙ ap
        (λ (r : Result Entry PlanKind). go_on p behind old.fault old.periods.items
        (with_line number r rest)) (sym stood);
  }

  pub changes_well : (d : Period) → k + 1 ≡ length noted.periods.items → entry_fault p entry ≡ None
      → q ≡ changed p (get_or noted.periods.items k d) entry
      → HasTaken p number (Ok entry) old (with_last noted.fault)
  changes_well d last good is = places noted.fault (λ behind rest.
      last_behind p behind number k entry q d noted.fault noted.periods.items rest last other good
      is
      ∙ ap
      (λ (f : Option Fault). go_on p behind f noted.periods.items
      (with_line number (Ok entry) rest)) fault
      ∙ ap (λ (qs : List Period). go_on p behind old.fault qs (with_line number (Ok entry) rest))
      (λ i. (same i).items))

  pub changes_badly : (kind : PlanKind) (f : Option Fault) → entry_fault p entry ≡ Some kind
      → f ≡ option_or noted.fault (Some (number, kind))
      → HasTaken p number (Ok entry) old (with_last f)
  changes_badly kind f bad first = places f (λ behind rest.
      ap (λ (e : Option Fault). go_on p behind e (slice_set noted.periods.items k q) rest) first
      ∙ fault_behind p behind number entry kind noted.fault noted.periods.items
      (slice_set noted.periods.items k q) rest bad
      ∙ ap
      (λ (e : Option Fault). go_on p behind e noted.periods.items
      (with_line number (Ok entry) rest)) fault
      ∙ ap (λ (qs : List Period). go_on p behind old.fault qs (with_line number (Ok entry) rest))
      (λ i. (same i).items))

-- ---- after the last line

ends : (p : Problem) (behind : ℕ) (r : Reading) (coming : Coming) → coming.lines ≡ []
    → read_on p behind r coming ≡ ended p behind r.fault r.periods.items
ends p behind r coming none =
    ap (λ (texts : List (List ℕ)). go_on p behind r.fault r.periods.items
    (lines_read coming.number (seen_of r) texts)) none
    ∙ ap (λ (f : Option Fault). ended p behind f (resumed p r.periods.items [])) (no_later r.fault)
    ∙ ap (ended p behind r.fault) (all_ended r.periods.items)
  where
    no_later : (f : Option Fault) → option_or f None ≡ f
    no_later (Some fault) = refl
    no_later None = refl

    all_ended : (periods : List Period) → resumed p periods [] ≡ periods
    all_ended [] = refl
    all_ended (q ∷ []) = refl
    all_ended (q ∷ s ∷ ss) = ap (λ (qs : List Period). q ∷ qs) (all_ended (s ∷ ss))

module _ (p : Problem) (behind : ℕ) (r : Reading) (coming : Coming) (none : coming.lines ≡ []) where
  abbrev counted : Option PlanKind → Result Plan Fault
  counted kind = judged r.periods.items (at_line behind kind None)

  ends_good : r.fault ≡ None → read_on p behind r coming
      ≡ counted (count_fault p (length r.periods.items))
  ends_good is = ends p behind r coming none
      ∙ ap (λ (f : Option Fault). ended p behind f r.periods.items) is

  pub ends_well : (plan : Plan) → r.fault ≡ None → count_fault p (length r.periods.items) ≡ None
      → plan ≡ record { periods = r.periods.items } → read_on p behind r coming ≡ Ok plan
  ends_well plan is good same = ends_good is ∙ ap counted good ∙ ap (λ (q : Plan). Ok q) (sym same)

  pub ends_badly : (kind : PlanKind) → r.fault ≡ None
      → count_fault p (length r.periods.items) ≡ Some kind
      → read_on p behind r coming ≡ Err (behind, kind)
  ends_badly kind is bad = ends_good is ∙ ap counted bad

-- ---- a line that says that a period begins

pub says_begin : (said : Result Entry PlanKind) (r : Result code.Entry (LineFault PlanKind))
    → Reads entry_of said r → r ≡ Ok Begins → said ≡ Ok begins
says_begin said r reads is =
    subst (λ (s : Result code.Entry (LineFault PlanKind)). Reads entry_of said s) is reads
