use Rattle.cert_check.proofs.CertWalkLemmas.{Expects}
use Rattle.cert_check.proofs.options.are_options.Given as goal

abbrev pub invariant-each : goal.invariant-each
invariant-each l = Expects l.base l.free l.found l.i l.expected
