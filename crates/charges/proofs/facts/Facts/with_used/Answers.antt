use Rattle.std.proofs.Common.{◌<◌, length, SFits, rules}
use Rattle.std.specs.Int.{w64}
use Rattle.std.proofs.lemmas.Int.{to_z-of_z}
use Rattle.flow_program.specs.Entry.{entry}
use Rattle.charges.specs.Known.{asked_of}
use Rattle.charges.proofs.OwnLemmas.{one_known}
use Rattle.charges.proofs.facts.Facts.with_used.Goals as goal

pub returns : goal.returns
returns c =
    let within : c.args.j < length c.args.self.now.used = search rules in
    let fits : SFits w64 c.args.amount = search rules in
    simp to_z-of_z (λ k. record {
      least = entry c.args.self.now.least;
      most = entry c.args.self.now.most;
      used = λ m. one_known c.args.self.now.used c.args.j c.args.amount within m k;
      demand = asked_of c.args.self.now.demand;
    })
