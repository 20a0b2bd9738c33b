use Rattle.std.proofs.Common.{◌≡◌, ◌-◌, false, arith, length, ap, sym, ◌∙◌}
use Rattle.plan_laws.specs.plan_rules.Meaning.{changed}
use Rattle.plan_laws.specs.plan_rules.Plan.{Period}
use Rattle.plan_laws.specs.plan_rules.Read.{is_double}
use Rattle.periods.specs.View.{changes}
use Rattle.periods.specs.Reading.{seen_of}
use Rattle.periods.proofs.Taken.{no_begin, is_once, changes_well, changes_badly}
use Rattle.periods.proofs.reading.Reading.change.Goals as goal

pub returns-in_default-clause-taken : goal.returns-in_default-clause-taken
returns-in_default-clause-taken c =
    let once : is_double (seen_of c.args.self.now) (changes c.args.material.now c.args.change)
    ≡ false = is_once c.in_ok-note.field-0 _ c.in_ok-note.ensures.new c.if-not-branch.false in
    let long : length c.note.new.self.periods.items ≡ length c.args.self.now.periods.items =
    λ i. length (c.note.ensures.periods i).items in
    changes_well c.args.problem.now c.args.number (c.len-last.result - 1)
    (changes c.args.material.now c.args.change) c.apply.new.period c.args.self.now
    c.note.new.self
    c.requires (no_begin c.args.material.now c.args.change) once (c.in_ok-note.ensures.seen once)
    c.note.ensures.periods c.note.ensures.fault
    c.index_mut.result.now (omega (arith, long)) (sym c.apply.ensures.fault ∙ c.in_default.is)
    (c.in_default.ensures.changed
    ∙ ap
    (λ (q : Period). changed c.args.problem.now q (changes c.args.material.now c.args.change))
    c.index_mut.ensures.value)

pub returns-clause-taken : goal.returns-clause-taken
returns-clause-taken c =
    let once : is_double (seen_of c.args.self.now) (changes c.args.material.now c.args.change)
    ≡ false = is_once c.in_ok-note.field-0 _ c.in_ok-note.ensures.new c.if-not-branch.false in
    changes_badly c.args.problem.now c.args.number (c.len-last.result - 1)
    (changes c.args.material.now c.args.change) c.apply.new.period c.args.self.now
    c.note.new.self
    c.requires (no_begin c.args.material.now c.args.change) once (c.in_ok-note.ensures.seen once)
    c.note.ensures.periods c.note.ensures.fault
    c.in-Some.kind c.or-self.result (sym c.apply.ensures.fault ∙ c.in-Some.is) c.or-self.ensures
