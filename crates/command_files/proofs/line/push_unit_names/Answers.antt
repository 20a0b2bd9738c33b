use Rattle.std.proofs.Common.{◌≡◌, ◌++◌, ◌∷◌, List, ℕ, subst, sym, ap, ◌∙◌}
use Rattle.pns_text.specs.number_sets.Sets.{has, IsSet}
use Rattle.pns_text.specs.problem_rules.Problem.{OperatingUnit, unit_names}
use Rattle.studio_words.specs.studio_rules.Lines.{spaced_names, names_in}
use Rattle.command_files.proofs.Names.{line_goes_on, line_same, line_ends}
use Rattle.command_files.proofs.line.push_unit_names.Goals as goal

pub loop-u-preserved-in-Continue-1 : goal.loop-u-preserved-in-Continue-1
loop-u-preserved-in-Continue-1 c =
    let inv = c.loop-u.invariant in
    let head = c.in-Some.ensures.steps in
    let before = subst (IsSet 128) head inv.is_set in
    let found = c.in-Some-get.ensures.lookup in
    let named : c.deref.result.now ≡ c.in-Some-get.unit.now.name =
    c.deref.ensures ∙ ap (λ (x : OperatingUnit). x.name) c.unit.view_is in
    record {
      is_set = record { rising = before.rising.1; below = before.below.1 };
      line =
          line_goes_on (λ (u : OperatingUnit). u.name) c.args.units.now c.in-Some.u
          c.in-Some-get.unit.now c.next.new.self c.loop-u.bytes.items c.push_name.new.bytes.items
          found.3.0 found.1 before.rising.0
          (c.in_ok-push_name.ensures
          ∙ ap (λ (name : List ℕ). c.loop-u.bytes.items ++ 32 ∷ name) named)
          ∙ (ap
          (λ (left : List ℕ). c.loop-u.bytes.items
          ++ spaced_names (names_in (has left) 0 (unit_names c.args.units.now))) (sym head)
          ∙ inv.line);
    }

pub loop-u-preserved : goal.loop-u-preserved
loop-u-preserved c =
    let inv = c.loop-u.invariant in
    let head = c.in-Some.ensures.steps in
    let before = subst (IsSet 128) head inv.is_set in
    record {
      is_set = record { rising = before.rising.1; below = before.below.1 };
      line =
          line_same (λ (u : OperatingUnit). u.name) c.args.units.now c.in-Some.u c.next.new.self
          c.loop-u.bytes.items c.in_default.ensures.lookup.3
          ∙ (ap
          (λ (left : List ℕ). c.loop-u.bytes.items
          ++ spaced_names (names_in (has left) 0 (unit_names c.args.units.now))) (sym head)
          ∙ inv.line);
    }

pub returns : goal.returns
returns c =
    line_ends (λ (u : OperatingUnit). u.name) c.args.units.now c.loop-u.bytes.items
    (c.args.bytes.now.items ++ spaced_names
    (names_in (has c.args.set) 0 (unit_names c.args.units.now)))
    c.loop-u.u-iterator c.in-None.ensures.steps.0 c.loop-u.invariant.line
