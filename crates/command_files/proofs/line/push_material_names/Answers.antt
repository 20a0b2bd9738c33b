use Rattle.std.proofs.Common.{◌≡◌, ◌++◌, ◌∷◌, List, ℕ, subst, sym, ap, ◌∙◌}
use Rattle.pns_text.specs.number_sets.Sets.{has, IsSet}
use Rattle.pns_text.specs.problem_rules.Problem.{Material, material_names}
use Rattle.studio_words.specs.studio_rules.Lines.{spaced_names, names_in}
use Rattle.command_files.proofs.Names.{line_goes_on, line_same, line_ends}
use Rattle.command_files.proofs.line.push_material_names.Goals as goal

pub loop-x-preserved-in-Continue-1 : goal.loop-x-preserved-in-Continue-1
loop-x-preserved-in-Continue-1 c =
    let inv = c.loop-x.invariant in
    let head = c.in-Some.ensures.steps in
    let before = subst (IsSet 256) head inv.is_set in
    let found = c.in-Some-get.ensures.lookup in
    let named : c.deref.result.now ≡ c.in-Some-get.material.now.name =
    c.deref.ensures ∙ ap (λ (x : Material). x.name) c.material.view_is in
    record {
      is_set = record { rising = before.rising.1; below = before.below.1 };
      line =
          line_goes_on (λ (m : Material). m.name) c.args.materials.now c.in-Some.x
          c.in-Some-get.material.now c.next.new.self c.loop-x.bytes.items
          c.push_name.new.bytes.items found.3.0 found.1 before.rising.0
          (c.in_ok-push_name.ensures
          ∙ ap (λ (name : List ℕ). c.loop-x.bytes.items ++ 32 ∷ name) named)
          ∙ (ap
          (λ (left : List ℕ). c.loop-x.bytes.items
          ++ spaced_names (names_in (has left) 0 (material_names c.args.materials.now)))
          (sym head) ∙ inv.line);
    }

pub loop-x-preserved : goal.loop-x-preserved
loop-x-preserved c =
    let inv = c.loop-x.invariant in
    let head = c.in-Some.ensures.steps in
    let before = subst (IsSet 256) head inv.is_set in
    record {
      is_set = record { rising = before.rising.1; below = before.below.1 };
      line =
          line_same (λ (m : Material). m.name) c.args.materials.now c.in-Some.x c.next.new.self
          c.loop-x.bytes.items c.in_default.ensures.lookup.3
          ∙ (ap
          (λ (left : List ℕ). c.loop-x.bytes.items
          ++ spaced_names (names_in (has left) 0 (material_names c.args.materials.now)))
          (sym head) ∙ inv.line);
    }

pub returns : goal.returns
returns c =
    line_ends (λ (m : Material). m.name) c.args.materials.now c.loop-x.bytes.items
    (c.args.bytes.now.items ++ spaced_names
    (names_in (has c.args.set) 0 (material_names c.args.materials.now)))
    c.loop-x.x-iterator c.in-None.ensures.steps.0 c.loop-x.invariant.line
