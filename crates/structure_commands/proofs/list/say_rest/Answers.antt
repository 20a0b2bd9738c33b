use Rattle.std.proofs.Common.{◌≡◌, ◌≤◌, ◌+◌, ◌∷◌, ◌∙◌, [], refl, arith}
use Rattle.command_files.proofs.Cited.{HasRisen-later}
use Rattle.structure_commands.proofs.Listings.{ended, continued, none_gathered, gather_one}
use Rattle.structure_commands.proofs.Listings.{given_then, gathered_then, starved_waiting}
use Rattle.structure_commands.proofs.Listings.{stopped_waiting}
use Rattle.structure_commands.proofs.list.say_rest.Goals.{then-room-eq0+in-Ok-put_waiting}
use Rattle.structure_commands.proofs.list.say_rest.Goals.{else-room-eq0+else-len-ge8192}
use Rattle.structure_commands.proofs.list.say_rest.Goals as goal

pub giving-init : goal.giving-init
giving-init g c = record {
  gathered =
      none_gathered c.args.problem.now c.args.list.now _ _ _ c.new-bytes.ensures.items
      c.empty-last.ensures;
  later = omega arith;
  quiet = refl;
}

pub returns-in_default-put_waiting : goal.returns-in_default-put_waiting
returns-in_default-put_waiting g c =
    stopped_waiting c.args.problem.now c.args.count c.args.list.now c.giving.list c.giving.given _
    c.giving.out _ c.giving.last c.giving.invariant.gathered
    (let le : c.giving.given ≤ c.args.count = omega arith in le) c.put_waiting.new.out []
    (HasRisen-later _ _ _ c.giving.invariant.later c.in_default-put_waiting.ensures.cause)
    c.in_default.ensures.end c.in_default-put_waiting.ensures.err
    (c.in_default-put_waiting.ensures.quiet ∙ c.giving.invariant.quiet)

pub returns-in_default : goal.returns-in_default
returns-in_default g c =
    ended c.args.problem.now c.args.count c.args.list.now c.giving.list c.giving.given _ _
    c.giving.last
    (given_then c.args.problem.now c.args.list.now c.giving.list c.giving.given _ _ _ c.giving.last
    c.giving.invariant.gathered _ c.in-Ok.ensures.ok)
    (let le : c.giving.given ≤ c.args.count = omega arith in le)
    (c.in-Ok.ensures.quiet ∙ c.giving.invariant.quiet)
    (let a = c.giving.invariant.later in let b = c.in-Ok.ensures.later in omega (arith, a, b)) _
    _ c.in_default.ensures.end c.say.ensures

pub returns-in_default-push_line : goal.returns-in_default-push_line
returns-in_default-push_line g c =
    let ahead = c.is_one.ensures.exists in
    starved_waiting c.args.problem.now c.args.count c.args.list.now c.giving.list c.giving.given _ _
    _ c.giving.last c.giving.invariant.gathered
    (let le : c.giving.given ≤ c.args.count = omega arith in le)
    c.giving.invariant.quiet c.giving.invariant.later _ _ (c.in-Some.set ∷ ahead.0)
    ((c.in-Some.ensures.head ahead.0).0 ahead.1) c.say_memory.ensures

pub returns-in_default-put_waiting-2 : goal.returns-in_default-put_waiting-2
returns-in_default-put_waiting-2 g c =
    let ahead = c.is_one.ensures.exists in
    let test = c.giving-test.true in
    stopped_waiting c.args.problem.now c.args.count c.args.list.now c.next.new.list
    (c.giving.given + 1) _ c.giving.out _ c.in-Some.set
    (gather_one c.args.problem.now c.args.list.now c.giving.list c.giving.given _ _ _ c.giving.last
    c.giving.invariant.gathered c.next.new.list c.push_line.new.bytes.items c.in-Some.set
    c.in-Some.ensures.head c.in-Ok-push_line.ensures)
    (let le : c.giving.given + 1 ≤ c.args.count = omega (arith, test) in le)
    c.put_waiting-then-room-eq0.new.out ahead.0
    (HasRisen-later _ _ _ c.giving.invariant.later c.in_default-put_waiting-2.ensures.cause) ahead.1
    c.in_default-put_waiting-2.ensures.err
    (c.in_default-put_waiting-2.ensures.quiet ∙ c.giving.invariant.quiet)

pub giving-preserved : goal.giving-preserved
giving-preserved g c =
    let more =
    gather_one c.args.problem.now c.args.list.now c.giving.list c.giving.given _ _ _
    c.giving.last c.giving.invariant.gathered c.next.new.list c.push_line.new.bytes.items
    c.in-Some.set c.in-Some.ensures.head c.in-Ok-push_line.ensures in
    elim c.if-room-eq0.branch [
      | then-room-eq0+in-Ok-put_waiting w ↦ rw w.out-is (rw w.bytes-is (record {
        gathered =
            gathered_then c.args.problem.now c.args.list.now c.next.new.list (c.giving.given + 1) _
            _ _ c.in-Some.set more _ _ w.in-Ok-put_waiting.ensures.ok
            w.in-Ok-put_waiting.ensures.none;
        later = let a = c.giving.invariant.later in let b =
            w.in-Ok-put_waiting.ensures.later in omega (arith, a, b);
        quiet = w.in-Ok-put_waiting.ensures.quiet ∙ c.giving.invariant.quiet;
      }))
      | else-room-eq0+else-len-ge8192 w
          ↦ rw w.out-is
          (rw w.bytes-is
          (record {
            gathered = more;
            later = c.giving.invariant.later;
            quiet =
                c.giving.invariant.quiet;
          }))
    ]

pub returns-in_default-put_waiting-3 : goal.returns-in_default-put_waiting-3
returns-in_default-put_waiting-3 g c =
    let ahead = c.is_one-2.ensures.exists in
    stopped_waiting c.args.problem.now c.args.count c.args.list.now c.giving.list c.giving.given _
    c.giving.out _ c.giving.last c.giving.invariant.gathered
    (let le : c.giving.given ≤ c.args.count = omega arith in le) c.put_waiting-2.new.out ahead.0
    (HasRisen-later _ _ _ c.giving.invariant.later c.in_default-put_waiting-3.ensures.cause) ahead.1
    c.in_default-put_waiting-3.ensures.err
    (c.in_default-put_waiting-3.ensures.quiet ∙ c.giving.invariant.quiet)

pub returns-in_default-next : goal.returns-in_default-next
returns-in_default-next g c =
    ended c.args.problem.now c.args.count c.args.list.now c.giving.list c.giving.given _ _
    c.giving.last
    (given_then c.args.problem.now c.args.list.now c.giving.list c.giving.given _ _ _ c.giving.last
    c.giving.invariant.gathered _ c.in-Ok-put_waiting-2.ensures.ok)
    (let le : c.giving.given ≤ c.args.count = omega arith in le)
    (c.in-Ok-put_waiting-2.ensures.quiet ∙ c.giving.invariant.quiet)
    (let a = c.giving.invariant.later in let b =
    c.in-Ok-put_waiting-2.ensures.later in omega (arith, a, b)) _ _
    c.in_default-next.ensures.end c.say-in_default-next.ensures

pub returns : goal.returns
returns g c =
    let ahead = c.is_one-3.ensures.exists in
    continued c.args.problem.now c.args.count c.args.list.now c.giving.list c.giving.given _ _
    c.giving.last
    (given_then c.args.problem.now c.args.list.now c.giving.list c.giving.given _ _ _ c.giving.last
    c.giving.invariant.gathered _ c.in-Ok-put_waiting-2.ensures.ok)
    (let le : c.giving.given ≤ c.args.count = omega arith in le)
    (c.in-Ok-put_waiting-2.ensures.quiet ∙ c.giving.invariant.quiet)
    (let a = c.giving.invariant.later in let b =
    c.in-Ok-put_waiting-2.ensures.later in omega (arith, a, b)) _ _
    (let e : c.giving.given ≡ c.args.count = omega arith in e) c.in-Some-next.field-0 ahead.0
    ((c.in-Some-next.ensures.head ahead.0).0 ahead.1) c.say_more.ensures
