-- Sets of units that are read one by one.
use Rattle.std.proofs.Common.{◌≡◌, ◌<◌, ◌+◌, ◌&&◌, ℕ, Bool, true, false, max, nat_lt, nat_le, List}
use Rattle.std.proofs.Common.{[], ◌∷◌, ◌++◌, Option, None, Ok, Err, refl, sym, ap, ◌∙◌, arith}
use Rattle.std.proofs.Common.{if◌then◌else◌}
use Rattle.std.specs.Borrow.{Bor}
use Rattle.std.specs.List.{list_all}
use Rattle.std.proofs.Math.Bool.{and_assoc, and-true}
use Rattle.std.proofs.lemmas.Bool.{and_parts, ltb-true}
use Rattle.std.proofs.lemmas.Bool.Decides.{nat_tests}
use Rattle.std.proofs.lemmas.List.Folds.{list_all-append}
use Rattle.tree_text_rules.specs.number_sets.Sets.{AreBelow, with_number}
use Rattle.tree_text_rules.specs.problem_rules.Problem.{Problem}
use Rattle.tree_text_rules.specs.Line.{Token}
use Rattle.tree_text_rules.specs.Token.{each, judged, unit_of, units_of, is_above_all, is_rising}
use Rattle.tree_text_rules.specs.declared.TreeKind.TheVariants.{Order}
use Rattle.tree_reading.specs.Joined.{joined}
use Rattle.tree_reading.specs.View.{tokens_in}
use Rattle.tree_reading.proofs.Joining.{joined_none}

-- whether a number is above all of a list
abbrev pub is_last : ℕ → List ℕ → Bool
is_last u us = list_all (λ x. nat_lt x u) us

-- The units that were read and the least number above them.
pub record IsFront (rises : Bool) (least : ℕ) (units read : List ℕ) : Type 0 where
  pub rising : is_rising read ≡ rises
  pub same : rises ≡ true → units ≡ read
  pub limit : (u : ℕ) → is_last u read ≡ nat_le least u

above_last : (x u : ℕ) (xs : List ℕ)
    → is_above_all x (xs ++ u ∷ []) ≡ (is_above_all x xs && nat_lt x u)
above_last x u [] = and-true (nat_lt x u)
above_last x u (y ∷ ys) = ap (λ b. nat_lt x y && b) (above_last x u ys)
    ∙ sym (and_assoc (nat_lt x y) (is_above_all x ys) (nat_lt x u))

rising_last : (u : ℕ) (us : List ℕ) → is_rising (us ++ u ∷ []) ≡ (is_rising us && is_last u us)
rising_last u [] = refl
rising_last u (x ∷ xs) =
    let above = above_last x u xs in
    let rest = rising_last u xs in
    grind (arith, nat_tests)

limits : (least u v : ℕ) → (nat_le least v && (nat_lt u v && true)) ≡ nat_le (max least (u + 1)) v
limits least u v = grind (arith, nat_tests)

-- a greater number comes last
with_last : (u : ℕ) (us : List ℕ) → is_last u us ≡ true → with_number u us ≡ us ++ u ∷ []
with_last u [] last = refl
with_last u (x ∷ xs) last =
    let both = and_parts (nat_lt x u) (is_last u xs) last in
    let lt = ltb-true x u both.0 in
    let rest = with_last u xs both.1 in
    grind (arith, nat_tests)

-- one more unit
pub one_on : (rises next : Bool) (least top u : ℕ) (units more read : List ℕ)
    → IsFront rises least units read → next ≡ (rises && nat_le least u) → top ≡ max least (u + 1)
    → more ≡ with_number u units
    → IsFront next top more (read ++ u ∷ [])
one_on rises next least top u units more read front e above taken = record {
  rising = rising_last u read ∙ ap (λ b. b && is_last u read) front.rising
      ∙ ap (λ b. rises && b) (front.limit u) ∙ sym e;
  same = λ on.
      let both = and_parts rises (nat_le least u) (sym e ∙ on) in
      taken ∙ ap (with_number u) (front.same both.0) ∙ with_last u read (front.limit u ∙ both.1);
  limit = λ v. list_all-append (λ x. nat_lt x v) read (u ∷ [])
      ∙ ap (λ b. b && (nat_lt u v && true)) (front.limit v) ∙ limits least u v
      ∙ ap (λ n. nat_le n v) (sym above);
}

pub below_more : (n u : ℕ) (us : List ℕ) → AreBelow n us → u < n → AreBelow n (us ++ u ∷ [])
below_more n u [] below lt = (lt, tt)
below_more n u (x ∷ xs) below lt = (below.0, below_more n u xs below.1 lt)

chosen : (rises : Bool) (units read : List ℕ) → (rises ≡ true → units ≡ read)
    → (if rises then Ok read else Err Order) ≡ (if rises then Ok units else Err Order)
chosen true units read same = ap (λ (us : List ℕ). Ok us) (sym (same refl))
chosen false units read same = refl

-- at the end
pub all_read : (p : Problem) (rises : Bool) (least : ℕ) (units read : List ℕ)
    (rest : Option (Bor (List ℕ))) (all : List Token) → IsFront rises least units read → rest ≡ None
    → joined (Ok read) (each (unit_of p) (tokens_in rest)) ≡ each (unit_of p) all
    → units_of p all ≡ (if rises then Ok units else Err Order)
all_read p rises least units read rest all front none whole =
    let here : each (unit_of p) all ≡ Ok read =
    sym whole ∙ ap (λ rest. joined (Ok read) (each (unit_of p) (tokens_in rest))) none
    ∙ joined_none (Ok read) in
    ap (judged is_rising Order) here ∙ ap (λ b. if b then Ok read else Err Order) front.rising
    ∙ chosen rises units read front.same
