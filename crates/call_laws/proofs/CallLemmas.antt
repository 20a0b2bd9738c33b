-- The laws over what calls print, over calls.
use Rattle.std.proofs.Common.{◌≡◌, ℕ, List, Option, Some, ap, ◌∙◌}
use Rattle.std.proofs.lemmas.Option.{IfSome_then}
use Rattle.studio.specs.problem_rules.Problem.{Problem}
use Rattle.studio.specs.edit_rules.Edit.{Edit}
use Rattle.studio.specs.tree_rules.Claim.{CostOver}
use Rattle.studio.specs.studio_rules.Command.{Editing, Expanding, Planning, Ranging, Solving}
use Rattle.studio.specs.studio_rules.declared.status.Status.TheVariants.{Done}
use Rattle.studio.specs.Calls.{CheckAcceptsSolved}
use Rattle.studio.proofs.Cited.{answered}
use Rattle.call_laws.specs.PeriodCalls.{CheckCertifiesPeriods}
use Rattle.call_laws.specs.Periods.{PeriodsAreCertified}
use Rattle.call_laws.specs.RangeCalls.{CallsCost, StableAgrees}
use Rattle.call_laws.specs.Ranges.{EditedCosts, RangesAreSolved}

-- what a call put out is what is kept of it
kept_text : (held : Option (Option (List ℕ))) (text other : List ℕ) → held ≡ Some (Some text)
    → text ≡ other → held ≡ Some (Some other)
kept_text held text other is same = is ∙ ap (λ (t : List ℕ). Some (Some t)) same

calls_cost : (bytes : List ℕ) (edit : Edit) (q : Problem) (much : CostOver)
    → EditedCosts bytes edit q much → CallsCost bytes edit q much
calls_cost bytes edit q much costs editing solving file script edited budget changed solved edits
    puts here is solves prints keeps =
    let e = answered editing (Editing file script) changed edits puts in
    let s = answered solving (Solving edited budget) solved solves prints in (
      s.lines,
      s.text_is,
      costs editing.shelf_before.held solving.shelf_before.held file script edited Done e.lines
          s.lines budget here is e.answers
          (kept_text (solving.shelf_before.held edited) changed _ keeps e.text_is) s.answers,
    )

pub stable_agrees : RangesAreSolved → StableAgrees
stable_agrees law ranging file bytes tree kind name budget text calls puts here =
    let r = answered ranging (Ranging file tree kind name budget) text calls puts in
    let x =
    law ranging.shelf_before.held file bytes tree kind name budget r.lines here r.answers in (
      r.lines,
      r.text_is,
      record {
        told = x.told;
        inside = λ v low high. calls_cost bytes _ _ _ (x.inside v low high);
        under = IfSome_then x.told.range.below x.under (λ n costs. calls_cost bytes _ _ _ costs);
        over = IfSome_then x.told.range.above x.over (λ n costs. calls_cost bytes _ _ _ costs);
      },
    )

pub check_certifies_periods : PeriodsAreCertified → CheckAcceptsSolved → CheckCertifiesPeriods
check_certifies_periods law accepts expanding solving planning checking file plan kept tree budget
    other bytes script wide solved planned expands puts here is solves prints keeps plans tells
    there its checks same holds =
    let e = answered expanding (Expanding file plan) wide expands puts in
    let s = answered solving (Solving kept budget) solved solves prints in
    let x = answered planning (Planning file plan other) planned plans tells in (
      record {
        solve_lines = s.lines;
        period_lines = x.lines;
        solved_is = s.text_is;
        planned_is = x.text_is;
        certifies =
            law expanding.shelf_before.held solving.shelf_before.held planning.shelf_before.held
            file bytes plan script kept budget other e.lines s.lines x.lines
            here is e.answers (kept_text (solving.shelf_before.held kept) wide _ keeps e.text_is)
            s.answers there its x.answers;
      },
      accepts solving checking kept tree budget solved solves prints checks
          (wide, solves.call.keeps.held kept ∙ keeps, same) holds,
    )
