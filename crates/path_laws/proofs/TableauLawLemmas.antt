-- The laws, in the words of their statements.
use Rattle.std.proofs.Common.{◌≡◌, ◌≢◌, ℕ, ◌<◌, ◌≤◌, true, false, arith, ap, sym, ◌∙◌}
use Rattle.flow_rules.specs.LinearProgram.{LinearProgram}
use Rattle.flow_rules.specs.Columns.{columns, scale_at}
use Rattle.path_laws.specs.TableauLaws.{TableauIsOne, StartIsTableau, StartIsComplete}
use Rattle.path_laws.specs.TableauLaws.{PivotKeepsIndependence, PivotKeepsTableau}
use Rattle.path_laws.specs.TableauLaws.{PivotKeepsSolutions}
use Rattle.path_laws.proofs.CombinationLemmas.{exchange_independent}
use Rattle.path_laws.proofs.UniqueLemmas.{row_unique}
use Rattle.path_laws.proofs.KeptLemmas.{pivot_tableau}
use Rattle.path_laws.proofs.SolutionLemmas.{pivot_complete}
use Rattle.path_laws.proofs.StartLemmas as start
use Rattle.path_laws.proofs.PivotLemmas.{exchanged-in, exchanged-other, turn_of}

pub tableau_is_one : TableauIsOne
tableau_is_one p b ind T U t u c k h l = row_unique p b c (T c) (U c) ind (t c h) (u c h) k l

pub start_is_tableau : StartIsTableau
start_is_tableau p T s = start.start_tableau p T s

pub start_is_complete : StartIsComplete
start_is_complete p T s = start.start_complete p T s

pub pivot_keeps_independence : PivotKeepsIndependence
pivot_keeps_independence p b b' T l e P ind t h next =
    let turn = turn_of p b T l e P t h in
    let el : e ≢ l = λ q. let y : true ≡ false = sym turn.was ∙ ap b (sym q) ∙ turn.outside in cc in
    exchange_independent p b b' l e P turn.outside (next e ∙ exchanged-in b l e el)
    (λ k n m. next k ∙ exchanged-other b l e k n m) turn.positive (within p e turn.column)
    turn.combination turn.own turn.clear ind
  where
    within : (p : LinearProgram) (k : ℕ) → k < columns p → k ≤ scale_at p
    within p k h = omega arith

pub pivot_keeps_tableau : PivotKeepsTableau
pivot_keeps_tableau p b b' T T' l e P t h v prims =
    let turn = turn_of p b T l e P t h in
    pivot_tableau p b b' T T' l e P v t turn.combination turn.clear turn.primitive prims

pub pivot_keeps_solutions : PivotKeepsSolutions
pivot_keeps_solutions p b b' T T' l e P t h v comp =
    pivot_complete p b b' T T' l e P v (turn_of p b T l e P t h).same comp
