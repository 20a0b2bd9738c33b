-- Lines of a design, joined.
use Rattle.std.proofs.Common.{◌≡◌, ◌<◌, ◌≤◌, ◌+◌, ℕ, suc, ℤ, List, [], ◌∷◌, ◌++◌, length, drop}
use Rattle.std.proofs.Common.{get_or, codes, decimal, sym, ap, ◌∙◌, arith, append_assoc}
use Rattle.std.proofs.Common.{append-nil}
use Rattle.std.specs.Fmt.{signed_decimal}
use Rattle.std.proofs.Math.Seq.{drop-cons}
use Rattle.std.proofs.lemmas.Grind.{flat_map-append}
use Rattle.std.proofs.lemmas.List.{drop_all}
use Rattle.tree_text.specs.problem_rules.Problem.{Problem}
use Rattle.command_files.specs.plan_rules.Folded.{Run, Written}
use Rattle.command_files.specs.studio_rules.Lines.{line, text_of}
use Rattle.command_files.specs.studio_rules.DesignText.{spaced_units, spaced_numbers, built_lines}
use Rattle.command_files.specs.studio_rules.DesignText.{run_lines}
use Rattle.command_files.specs.studio_rules.DesignText.{runs_lines, design_lines}

rest_from : {A : Type 0} (xs : List A) (i : ℕ) (x : A) → i < length xs → x ≡ get_or xs i x
    → drop i xs ≡ x ∷ drop (i + 1) xs
rest_from {A} xs i x lt is =
    let next : suc i ≡ i + 1 = omega arith in
    drop-cons xs i x lt
    ∙ (ap (λ (y : A). y ∷ drop (suc i) xs) (sym is) ∙ ap (λ k. x ∷ drop k xs) next)

-- a number more
pub numbers_more : (all : List ℕ) (text more : List ℕ) (numbers : List ℤ) (i : ℕ) (z : ℤ)
    → i < length numbers → z ≡ get_or numbers i z → text ++ spaced_numbers (drop i numbers) ≡ all
    → more ≡ text ++ 32 ∷ signed_decimal z → more ++ spaced_numbers (drop (i + 1) numbers) ≡ all
numbers_more all text more numbers i z lt is before made =
    ap (λ t. t ++ spaced_numbers (drop (i + 1) numbers)) made
    ∙ (append_assoc text (32 ∷ signed_decimal z) (spaced_numbers (drop (i + 1) numbers))
    ∙ (ap (λ (zs : List ℤ). text ++ spaced_numbers zs) (sym (rest_from numbers i z lt is))
    ∙ before))

pub numbers_done : (all : List ℕ) (text : List ℕ) (numbers : List ℤ) (i : ℕ) → length numbers ≤ i
    → text ++ spaced_numbers (drop i numbers) ≡ all → text ≡ all
numbers_done all text numbers i le before =
    sym (append-nil text)
    ∙ (ap (λ (zs : List ℤ). text ++ spaced_numbers zs) (sym (drop_all i numbers le)) ∙ before)

module _ (p : Problem) where
  -- a period more
  pub runs_more : (all text more : List ℕ) (number : ℕ) (runs : List Run) (i : ℕ) (r : Run)
      → i < length runs → r ≡ get_or runs i r
      → text ++ text_of (runs_lines p number (drop i runs)) ≡ all
      → more ≡ text ++ text_of (run_lines p number r)
      → more ++ text_of (runs_lines p (number + 1) (drop (i + 1) runs)) ≡ all
  runs_more all text more number runs i r lt is before made =
      let rest : List (List ℕ) = runs_lines p (number + 1) (drop (i + 1) runs) in
      ap (λ t. t ++ text_of rest) made
      ∙ (append_assoc text (text_of (run_lines p number r)) (text_of rest)
      ∙ (ap (λ (t : List ℕ). text ++ t) (sym (flat_map-append line (run_lines p number r) rest))
      ∙ (ap (λ (rs : List Run). text ++ text_of (runs_lines p number rs))
      (sym (rest_from runs i r lt is)) ∙ before)))

  pub runs_done : (all text : List ℕ) (number : ℕ) (runs : List Run) (i : ℕ) → length runs ≤ i
      → text ++ text_of (runs_lines p number (drop i runs)) ≡ all → text ≡ all
  runs_done all text number runs i le before =
      sym (append-nil text)
      ∙ (ap (λ (rs : List Run). text ++ text_of (runs_lines p number rs)) (sym (drop_all i runs le))
      ∙ before)

  run_regrouped : (t q k f u n s z : List ℕ)
      → ((t ++ (q ++ (k ++ (f ++ u)))) ++ n) ++ ((f ++ s) ++ (z ++ f)) ≡ t
      ++ (((q ++ k) ++ f) ++ (((u ++ n) ++ f) ++ (((s ++ z) ++ f) ++ [])))
  run_regrouped t q k f u n s z = simp (append_assoc, append-nil)

  pub run_text : (text : List ℕ) (number : ℕ) (r : Run)
      → ((text ++ (codes "period " ++ (decimal number ++ 10 ∷ codes "units")))
      ++ spaced_units p r.units) ++ ((10 ∷ codes "sizes") ++ (spaced_numbers r.sizes ++ 10 ∷ []))
      ≡ text ++ text_of (run_lines p number r)
  run_text text number r =
      run_regrouped text (codes "period ") (decimal number) (10 ∷ []) (codes "units")
      (spaced_units p r.units) (codes "sizes") (spaced_numbers r.sizes)

  built_regrouped : (t b n f c d z k s : List ℕ)
      → (((t ++ b) ++ n) ++ (((f ++ c) ++ d) ++ z)) ++ ((f ++ k) ++ (s ++ f)) ≡ t
      ++ (((b ++ n) ++ f) ++ (((c ++ (d ++ z)) ++ f) ++ (((k ++ s) ++ f) ++ [])))
  built_regrouped t b n f c d z k s = simp (append_assoc, append-nil)

  pub built_text : (text : List ℕ) (x : Written)
      → (((text ++ codes "built") ++ spaced_units p x.built)
      ++ (((10 ∷ codes "capacities ") ++ signed_decimal x.d) ++ spaced_numbers x.capacities))
      ++ ((10 ∷ codes "cost ") ++ (signed_decimal x.cost ++ 10 ∷ [])) ≡ text
      ++ text_of (built_lines p x)
  built_text text x =
      built_regrouped text (codes "built") (spaced_units p x.built) (10 ∷ []) (codes "capacities ")
      (signed_decimal x.d) (spaced_numbers x.capacities) (codes "cost ") (signed_decimal x.cost)

  pub whole_text : (x : Written)
      → text_of (built_lines p x) ++ text_of (runs_lines p 1 x.runs) ≡ text_of (design_lines p x)
  whole_text x = sym (flat_map-append line (built_lines p x) (runs_lines p 1 x.runs))
