use Rattle.std.proofs.Common.{◌≡◌, true, false, sym, arith}
use Rattle.std.specs.Str.{bytes_eq}
use Rattle.tree_text_rules.specs.problem_rules.Problem.{Exclusion}
use Rattle.tree_reading.proofs.Naming.{found, passed, nowhere_in}
use Rattle.tree_reading.proofs.name.exclusion_of.Goals as goal

pub returns-then-eq-clause-value : goal.returns-then-eq-clause-value
returns-then-eq-clause-value c =
    let here = c.looking.invariant in
    let same : bytes_eq c.exclusion-item.result.name c.args.token.now ≡ true =
    rw (← c.exclusion.view_is, ← c.as_bytes.ensures.value, ← c.eq.ensures) c.if-eq.true in
    rw (← c.exclusions-exclusions.ensures)
    (sym
    (found (λ (e : Exclusion). e.name) c.args.token.now c.exclusions-exclusions.result.now
    c.looking.exclusion-index c.looking.number here.none c.exclusion-item.result
    c.looking-test.true c.exclusion-item.is here.place same))

pub looking-preserved : goal.looking-preserved
looking-preserved c =
    let here = c.looking.invariant in
    let other : bytes_eq c.exclusion-item.result.name c.args.token.now ≡ false =
    rw (← c.exclusion.view_is, ← c.as_bytes.ensures.value, ← c.eq.ensures) c.if-eq.false in
    record {
      place = omega (arith, here.place);
      none =
          passed (λ (e : Exclusion). e.name) c.args.token.now c.exclusions-exclusions.result.now
          c.looking.exclusion-index c.looking.number here.none c.exclusion-item.result
          c.looking-test.true c.exclusion-item.is other;
    }

pub returns-clause-value : goal.returns-clause-value
returns-clause-value c =
    let here = c.looking.invariant in
    rw (← c.exclusions-exclusions.ensures)
    (sym
    (nowhere_in (λ (e : Exclusion). e.name) c.args.token.now c.exclusions-exclusions.result.now
    c.looking.exclusion-index c.looking.number here.none here.place c.looking-test.false))
