use Rattle.std.proofs.Common.{◌≡◌, ◌≤◌, ℕ, not, List, ◌++◌, length, sym, ap, ◌∙◌, subst}
use Rattle.std.proofs.lemmas.List.Sums.{prefix_len-le-length}
use Rattle.std.proofs.lemmas.Bool.{and_parts, not-true}
use Rattle.pgraph.specs.number_sets.Sets.{has}
use Rattle.pgraph.proofs.number_sets.Cited.{has-minus}
use Rattle.neutral_extension.specs.Candidates.{Candidates, led}
use Rattle.neutral_extension.proofs.LeadLemmas.{led_by, led_has}
use Rattle.neutral_extension.proofs.makers.Makers.lead_to.Goals as goal

pub back-requires-clause-most : goal.back-requires-clause-most
back-requires-clause-most c =
    subst (λ n. n ≤ length c.args.self.now.taken) (sym c.front_within-front.ensures)
    (prefix_len-le-length (has c.args.out) c.args.self.now.taken)

pub take_out_all-requires-clause-fresh : goal.take_out_all-requires-clause-fresh
take_out_all-requires-clause-fresh c = λ u h.
    let p =
    and_parts (has c.args.out u) (not (has c.taken_out.result u))
    (sym (has-minus c.args.out c.taken_out.result u)
    ∙ (sym (ap (λ xs. has xs u) c.minus-missing.ensures) ∙ h)) in
    sym (c.taken_out.ensures u) ∙ not-true (has c.taken_out.result u) p.1

pub returns-clause-out : goal.returns-clause-out
returns-clause-out c =
    let us = c.args.self.now.taken in
    let led_to : c.take_out_all.new.makers.taken ≡ led c.args.out us
    = ap (λ (k : Candidates). k.taken) c.take_out_all.ensures
    ∙ (ap (λ (xs : List ℕ). c.back.new.self.taken ++ xs) c.minus-missing.ensures
    ∙ led_by c.args.out us c.back.new.self.taken c.taken_out.result c.front_within-front.result
    c.front_within-front.ensures (ap (λ (k : Candidates). k.taken) c.back.ensures)
    c.taken_out.ensures) in
    λ u. ap (λ (xs : List ℕ). has xs u) led_to ∙ led_has c.args.out us u
