use Rattle.std.proofs.Common.{◌≤◌, ◌∙◌, length, arith}
use Rattle.network_commands.proofs.command_files.Cited.{HasRisen-later}
use Rattle.part_commands.proofs.Lines.{starved, ended, stopped, one_more}
use Rattle.part_commands.proofs.split.say_leaves.Goals as goal

pub returns-in_default : goal.returns-in_default
returns-in_default g c =
    starved c.args.leaves.now c.telling.leaf-index c.args.out.now c.telling.out
    c.telling.invariant.told c.telling.invariant.quiet c.telling.invariant.later _ _
    c.say_memory.ensures

pub returns-in_default-put_answer : goal.returns-in_default-put_answer
returns-in_default-put_answer g c =
    stopped c.args.leaves.now c.telling.leaf-index c.args.out.now c.telling.out
    c.telling.invariant.told _ c.leaf-item.result c.as_bytes.result.now c.telling-test.true
    c.leaf-item.is
    (HasRisen-later _ _ _ c.telling.invariant.later c.in_default-put_answer.ensures.cause)
    (c.as_bytes.ensures.value ∙ c.in-Ok.ensures) c.in_default-put_answer.ensures.err
    (c.put_answer.ensures.quiet ∙ c.telling.invariant.quiet)

pub telling-preserved : goal.telling-preserved
telling-preserved g c = record {
  told =
      one_more c.args.leaves.now c.telling.leaf-index c.args.out.now c.telling.out
      c.telling.invariant.told c.leaf-item.result c.as_bytes.result.now c.put_answer.new.out.out
      c.telling-test.true c.leaf-item.is (c.as_bytes.ensures.value ∙ c.in-Ok.ensures)
      c.in-Ok-put_answer.ensures.ok;
  later = let more = c.put_answer.ensures.later in let before =
      c.telling.invariant.later in omega (arith, more, before);
  quiet = c.put_answer.ensures.quiet ∙ c.telling.invariant.quiet;
}

pub returns : goal.returns
returns g c =
    ended c.args.leaves.now c.telling.leaf-index c.args.out.now c.telling.out
    c.telling.invariant.told c.telling.invariant.quiet c.telling.invariant.later _ _
    (let le : length c.args.leaves.now ≤ c.telling.leaf-index = omega arith in le) c.say.ensures
