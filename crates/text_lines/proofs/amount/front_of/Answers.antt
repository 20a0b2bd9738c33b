use Rattle.std.proofs.Common.{◌∷◌, ◌++◌, List, ℕ, refl, ap, sym, ◌∙◌, append_assoc, arith}
use Rattle.edit_rules.specs.text_rules.Amount.{number_from}
use Rattle.text_laws.proofs.Cited.{number-append}
use Rattle.text_lines.proofs.Fronts.{digits_pass, points_none, digits_count, behind_none}
use Rattle.text_lines.proofs.Fronts.{point_passes, point_one, point_count, point_behind}
use Rattle.text_lines.proofs.amount.front_of.Goals as goal

pub returns-in-Some : goal.returns-in-Some
returns-in-Some c =
    let front = c.digits_in_front-front in
    let behind = c.digits_in_front-number in
    let ds : List ℕ = front.result.1.now in
    let fs : List ℕ = behind.result.1.now in
    let one = point_one ds fs front.ensures.digits behind.ensures.digits in
    let most = front.ensures.few in
    let few = behind.ensures.few in
    record {
      part = ds ++ 46 ∷ fs;
      cut = front.ensures.cut
          ∙ ap (λ (t : List ℕ). ds ++ t)
          (c.in-Some.ensures.some ∙ ap (λ (t : List ℕ). 46 ∷ t) behind.ensures.cut)
          ∙ sym (append_assoc ds (46 ∷ fs) behind.result.2.now);
      passes = point_passes ds fs front.ensures.digits behind.ensures.digits;
      points = omega (arith, one);
      digits = point_count ds fs front.ensures.digits behind.ensures.digits;
      number = number-append 0 ds (46 ∷ fs) ∙ ap (λ n. number_from n fs) (sym front.ensures.value)
          ∙ sym behind.ensures.value;
      places = point_behind ds fs front.ensures.digits behind.ensures.digits;
      digit_ends = λ lt. behind.ensures.end (omega (arith, lt));
      point_ends = λ none. absurd (omega (arith, one, none));
      few = omega (arith, few);
    }

pub returns-in-None : goal.returns-in-None
returns-in-None c =
    let front = c.digits_in_front-front in
    let ds : List ℕ = front.result.1.now in
    let none = points_none ds front.ensures.digits in
    record {
      part = ds;
      cut = front.ensures.cut;
      passes = digits_pass ds front.ensures.digits;
      points = omega (arith, none);
      digits = digits_count ds front.ensures.digits;
      number = sym front.ensures.value;
      places = behind_none ds front.ensures.digits;
      digit_ends = front.ensures.end;
      point_ends = λ none. c.in-None.ensures.none refl;
      few = omega arith;
    }
