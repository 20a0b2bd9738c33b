use Rattle.studio.proofs.Noted.{taken_of}
use Rattle.studio.proofs.call.show_fault.Goals as goal

pub returns : goal.returns
returns g c = record {
  taken =
      taken_of _ _ c.put_fault.result c.put_fault.ensures.ok c.put_fault.ensures.cause
      c.put_fault.ensures.err;
  later = c.put_fault.ensures.later;
  few = c.put_fault.ensures.few;
  quiet = c.put_fault.ensures.quiet;
}
