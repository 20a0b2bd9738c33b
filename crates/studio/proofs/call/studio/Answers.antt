use Rattle.std.proofs.Common.{map, string_bytes}
use Rattle.studio.proofs.Statuses.{usage_ends, no_form_ends, read_fault_ends, write_fault_ends}
use Rattle.studio.proofs.Statuses.{complete_ends, accepted_ends, ranked_ends, missing_ends}
use Rattle.studio.proofs.Finished.{finish_ends}
use Rattle.studio.proofs.Causes.{exact_ends}
use Rattle.studio.proofs.Noted.{finished_as, still_fault}
use Rattle.structure_commands.specs.studio_rules.Answers.{WordsSay}
use Rattle.studio.proofs.call.studio.Goals as goal

pub returns : goal.returns
returns g c =
    let words = map string_bytes c.args.words.now in
    let old = g.F.Shelf.state c.args.shelf.now in
    let new = g.F.Shelf.state c.run-status.new.shelf in
    let before = c.args.out.now in
    let mid = c.run-status.new.out in
    let after = c.note_fault.new.out in
    let noted = c.note_fault.ensures in
    record {
      ends =
          finished_as (WordsSay old new words) before mid after c.run-status.result
          c.run-status.ensures.ends noted;
      keeps = c.run-status.ensures.keeps.held;
      later = c.run-status.ensures.keeps.later;
      usage = usage_ends old new words before mid c.run-status.result c.run-status.ensures.ends;
      no_form = no_form_ends old new words before mid c.run-status.result c.run-status.ensures.ends;
      read_fault =
          read_fault_ends old new words before mid c.run-status.result c.run-status.ensures.ends;
      write_fault = λ is.
          still_fault before mid after c.run-status.result noted
          (write_fault_ends old new words before mid c.run-status.result c.run-status.ensures.ends
          is);
      missing = missing_ends old new words before mid c.run-status.result c.run-status.ensures.ends;
      exact =
          exact_ends c.parts_are_read_once.ensures old new words before mid c.run-status.result
          c.run-status.ensures.ends;
      complete = λ command is calm.
          complete_ends old new words before mid c.run-status.result c.run-status.ensures.ends
          command is (record {
            held = calm.held;
            read = calm.read;
            written =
                λ fault. calm.written
                (still_fault before mid after c.run-status.result noted fault);
          });
      finishes = finish_ends old new words before mid c.run-status.result c.run-status.ensures.ends;
      accepted =
          accepted_ends old new words before mid c.accepted_is_best.ensures c.run-status.result
          c.run-status.ensures.ends;
      ranked =
          ranked_ends old new words before mid c.accepted_are_best.ensures c.run-status.result
          c.run-status.ensures.ends;
    }
