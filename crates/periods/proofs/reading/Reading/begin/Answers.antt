use Rattle.std.proofs.Common.{◌∷◌, [], ◌++◌, refl, ap, sym, ◌∙◌, ◌≡◌, length, arith}
use Rattle.plan_laws.specs.plan_rules.Plan.{Period, is_too_wide}
use Rattle.periods.proofs.Taken.{begins_none, begins_period}
use Rattle.periods.proofs.reading.Reading.begin.Goals as goal

pub returns-then-is_too_wide : goal.returns-then-is_too_wide
returns-then-is_too_wide c = λ number.
    let count : c.len.result ≡ length c.args.self.now.periods.items = omega arith in
    begins_none c.args.problem.now number c.args.self.now
    (record {
      periods = c.args.self.now.periods;
      priced = c.replace.new.dest;
      bounded =
          c.replace-2.new.dest;
      fault = c.args.self.now.fault;
    })
    c.is_valid.ensures.well_formed.few_units
    (ap (is_too_wide (length c.args.problem.now.units) (length c.args.problem.now.materials))
    (sym count) ∙ sym c.is_too_wide.ensures ∙ c.if-is_too_wide.true)
    (c.replace.ensures.after ∙ c.new.ensures) (c.replace-2.ensures.after ∙ c.new-2.ensures) refl
    refl

pub returns : goal.returns
returns c = λ number.
    begins_period c.args.problem.now number c.args.self.now
    (record {
      periods = c.push.new.self;
      priced = c.replace.new.dest;
      bounded =
          c.replace-2.new.dest;
      fault = c.args.self.now.fault;
    })
    (c.replace.ensures.after ∙ c.new.ensures) (c.replace-2.ensures.after ∙ c.new-2.ensures) refl
    (c.in_ok-push.ensures.items
    ∙ ap (λ (q : Period). c.args.self.now.periods.items ++ q ∷ []) c.in_ok-of.ensures)
