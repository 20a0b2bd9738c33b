use Rattle.std.proofs.Common.{◌<◌, length, None, SFits, rules}
use Rattle.std.specs.Prelude.{slice_index_or}
use Rattle.std.specs.Int.{w64}
use Rattle.std.proofs.lemmas.Int.{to_z-of_z}
use Rattle.flow_program.specs.Entry.{entry}
use Rattle.charges.specs.Known.{asked_of}
use Rattle.charges.proofs.OwnLemmas.{one_written}
use Rattle.charges.proofs.facts.Facts.with_most.Goals as goal

pub returns : goal.returns
returns c =
    let within : c.args.u < length c.args.self.now.most = search rules in
    let fits : SFits w64 c.args.size = search rules in
    simp to_z-of_z (λ k. record {
      least = entry c.args.self.now.least;
      most = λ i. one_written c.args.self.now.most c.args.u c.args.size within i k;
      used = λ j. slice_index_or c.args.self.now.used j None;
      demand = asked_of c.args.self.now.demand;
    })
