-- A node's line and its steps, both ways.
use Rattle.std.proofs.Common.{◌≡◌, ◌+◌, ℕ, suc, List, [], ◌∷◌, ◌++◌, length, map, Option, Some}
use Rattle.std.proofs.Common.{None, Result, Ok, refl, sym, ◌∙◌, ap, ap₂, subst, append_assoc}
use Rattle.std.proofs.Common.{append-nil, arith}
use Rattle.std.proofs.lemmas.List.{length-map}
use Rattle.tree_text_rules.specs.problem_rules.Each.{Each}
use Rattle.tree_text_rules.specs.problem_rules.Problem.{Problem}
use Rattle.tree_text_rules.specs.problem_rules.WellFormed.{IsWellFormed}
use Rattle.tree_text_rules.specs.pns_rules.Nodes as nodes
use Rattle.tree_text_rules.specs.tree_rules.Known.{AreUnits, KnowsStep}
use Rattle.tree_text_rules.specs.Line.{Line}
use Rattle.tree_text_rules.specs.LineRead.{step_read, option_read}
use Rattle.tree_text_rules.specs.Read.{Fault, Taken, Head, with_step, on_line, steps_taken}
use Rattle.tree_text_rules.specs.Read.{head_taken}
use Rattle.tree_text_rules.specs.Spelling.{step_line, option_line, head_lines}
use Rattle.tree_text_rules.specs.declared.TreeKind.{TreeKind}
use Rattle.tree_text_laws.specs.Fits.{FitsHead}
use Rattle.tree_text_laws.specs.Laws.{IsHeadOf}
use Rattle.tree_text_laws.specs.Codes.{line_of}
use Rattle.tree_text_laws.specs.Lines.{lines_said, BeginsNoStep}
use Rattle.tree_text_laws.proofs.NodeLines.{step_back, step_again, option_lines}
use Rattle.tree_text_laws.proofs.PartTexts.{good, good_is, on_line_ok, first_back, first_again}

module _ (p : Problem) (formed : IsWellFormed p) where
  -- steps after those of a head, and what follows them
  record TookSteps (head : Head) (number : ℕ) (lines : List Line) (taken : Taken Head) : Type
      0 where
    steps : List nodes.Step
    what_is : taken.what ≡ record { option = head.option; steps = head.steps ++ steps }
    lines_are : lines ≡ lines_said (map (step_line p) steps) ++ taken.behind
    number_is : taken.number ≡ number + length steps
    known : Each (KnowsStep p) steps
    stops : BeginsNoStep p taken.behind

  took_step : (head : Head) (number : ℕ) (line : Line) (lines : List Line) (s : nodes.Step)
      (taken : Taken Head) → line ≡ line_of (step_line p s) → KnowsStep p s
      → TookSteps (with_step head s) (suc number) lines taken
      → TookSteps head number (line ∷ lines) taken
  took_step head number line lines s taken e known t = record {
    steps = s ∷ t.steps;
    what_is = t.what_is
        ∙ ap (λ (ss : List nodes.Step). let h : Head =
        record { option = head.option; steps = ss } in h)
        (append_assoc head.steps (s ∷ []) t.steps);
    lines_are = ap₂ (λ (a : Line) (b : List Line). a ∷ b) e t.lines_are;
    number_is = omega (arith, t.number_is);
    known = (known, t.known);
    stops = t.stops;
  }

  took_none : (head : Head) (number : ℕ) (lines : List Line) (taken : Taken Head)
      → BeginsNoStep p lines → record { what = head; number = number; behind = lines } ≡ taken
      → TookSteps head number lines taken
  took_none head number lines taken stops is =
      subst (λ (t : Taken Head). TookSteps head number lines t) is record {
        steps = [];
        what_is =
            ap (λ (ss : List nodes.Step). let h : Head =
            record { option = head.option; steps = ss } in h) (sym (append-nil head.steps));
        lines_are = refl;
        number_is = omega arith;
        known = tt;
        stops = stops;
      }

  -- what is read of a line after a head
  abbrev steps_on : Head → ℕ → Line → List Line → Option (Result nodes.Step TreeKind)
      → Result (Taken Head) Fault
  steps_on head number line lines o = elim o [
    | None ↦ Ok (record { what = head; number = number; behind = line ∷ lines })
    | Some read
        ↦ on_line number read (λ step. steps_taken p (with_step head step) (suc number) lines)
  ]

  at_line : (head : Head) (number : ℕ) (line : Line) (lines : List Line) (taken : Taken Head)
      (o : Option (Result nodes.Step TreeKind)) → step_read p line ≡ o
      → ((h : Head) → steps_taken p h (suc number) lines ≡ Ok taken
      → TookSteps h (suc number) lines taken)
      → steps_on head number line lines o ≡ Ok taken → TookSteps head number (line ∷ lines) taken
  at_line head number line lines taken None is later e =
      took_none head number (line ∷ lines) taken is
      (good_is (record { what = head; number = number; behind = line ∷ lines }) taken e)
  at_line head number line lines taken (Some read) is later e =
      let o =
      on_line_ok number read (λ step. steps_taken p (with_step head step) (suc number) lines)
      taken e in
      let s =
      step_back p formed line o.0 (is ∙ ap (λ (x : Result nodes.Step TreeKind). Some x) o.1) in
      took_step head number line lines o.0 taken s.0 s.1 (later (with_step head o.0) o.2)

  steps_back : (lines : List Line) (head : Head) (number : ℕ) (taken : Taken Head)
      → steps_taken p head number lines ≡ Ok taken → TookSteps head number lines taken
  steps_back [] head number taken e =
      took_none head number [] taken tt
      (good_is (record { what = head; number = number; behind = [] }) taken e)
  steps_back (line ∷ lines) head number taken e =
      at_line head number line lines taken (step_read p line) refl
      (λ h f. steps_back lines h (suc number) taken f) e

  is_head : (option : List ℕ) (number : ℕ) (lines rest : List Line) (taken : Taken Head)
      → lines ≡ line_of (option_line p option) ∷ rest → AreUnits p option
      → TookSteps (record { option = option; steps = [] }) (suc number) rest taken
      → IsHeadOf p number lines taken
  is_head option number lines rest taken is set t =
      let own : taken.what ≡ record { option = option; steps = t.steps } = t.what_is in
      record {
        lines_are = is ∙ ap (λ (ls : List Line). line_of (option_line p option) ∷ ls) t.lines_are
            ∙ ap (λ (h : Head). lines_said (head_lines p h.option h.steps) ++ taken.behind)
            (sym own);
        number_is =
            let front : taken.number ≡ number + length (head_lines p option t.steps) =
            omega (arith, t.number_is, length-map t.steps (step_line p)) in
            front ∙ ap (λ (h : Head). number + length (head_lines p h.option h.steps)) (sym own);
        fits =
            subst (λ (h : Head). FitsHead p h) (sym own) (record { option = set; steps = t.known });
        stops = t.stops;
      }

  pub head_back : (number : ℕ) (lines : List Line) (taken : Taken Head)
      → head_taken p number lines ≡ Ok taken → IsHeadOf p number lines taken
  head_back number lines taken e =
      let a =
      first_back (option_read p) (option_line p) (AreUnits p) (option_lines p formed) number
      lines _ taken e in
      is_head a.what number lines a.rest taken a.lines_are a.fits
      (steps_back a.rest (record { option = a.what; steps = [] }) (suc number) taken a.reads)

  -- ---- what fits is read

  no_more : (head : Head) (number : ℕ) (behind : List Line) → BeginsNoStep p behind
      → steps_taken p head number behind
      ≡ Ok (record { what = head; number = number; behind = behind })
  no_more head number [] stops = refl
  no_more head number (line ∷ lines) stops = ap (steps_on head number line lines) stops

  steps_again : (ss : List nodes.Step) (head : Head) (number : ℕ) (behind : List Line)
      → Each (KnowsStep p) ss → BeginsNoStep p behind
      → steps_taken p head number (lines_said (map (step_line p) ss) ++ behind)
      ≡ Ok
      (record {
        what = record { option = head.option; steps = head.steps ++ ss };
        number =
            number + length ss;
        behind = behind;
      })
  steps_again [] head number behind known stops =
      no_more head number behind stops
      ∙ ap₂ (λ (ss : List nodes.Step) (n : ℕ). let h : Head =
      record { option = head.option; steps = ss } in
      good (let t : Taken Head = record { what = h; number = n; behind = behind } in t))
      (sym (append-nil head.steps)) (let e : number ≡ number + 0 = omega arith in e)
  steps_again (s ∷ ss) head number behind known stops =
      ap (steps_on head number (line_of (step_line p s))
      (lines_said (map (step_line p) ss) ++ behind)) (step_again p formed s known.0)
      ∙ steps_again ss (with_step head s) (suc number) behind known.1 stops
      ∙ ap₂ (λ (ss : List nodes.Step) (n : ℕ). let h : Head =
      record { option = head.option; steps = ss } in
      good (let t : Taken Head = record { what = h; number = n; behind = behind } in t))
      (append_assoc head.steps (s ∷ []) ss)
      (let e : suc number + length ss ≡ number + suc (length ss) = omega arith in e)

  pub head_again : (head : Head) (number : ℕ) (behind : List Line) → FitsHead p head
      → BeginsNoStep p behind
      → head_taken p number (lines_said (head_lines p head.option head.steps) ++ behind)
      ≡ Ok
      (record {
        what = head;
        number =
            number + length (head_lines p head.option head.steps);
        behind = behind;
      })
  head_again head number behind fits stops =
      let rest : List Line = lines_said (map (step_line p) head.steps) ++ behind in
      let count : suc number + length head.steps ≡ number
      + length (head_lines p head.option head.steps) =
      omega (arith, length-map head.steps (step_line p)) in
      first_again (option_read p) (option_line p) (AreUnits p) (option_lines p formed) number
      head.option rest
      (λ option lines. steps_taken p (record { option = option; steps = [] }) (suc number)
      lines) fits.option
      ∙ steps_again head.steps (record { option = head.option; steps = [] }) (suc number) behind
      fits.steps stops
      ∙ ap
      (λ (n : ℕ). good (let t : Taken Head =
      record { what = head; number = n; behind = behind } in t)) count
