use Rattle.cert_check.proofs.Cited.{apart_is}
use Rattle.tree_text_laws.specs.pgraph.Tables.{shape}
use Rattle.tree_parts.proofs.SoundLemmas.{no_raw_made}
use Rattle.tree_parts.proofs.sound.make_no_raw.Goals as goal

pub returns : goal.returns
returns c =
    let apart = apart_is c.made.result c.raws.result c.meet.result c.meet.ensures in
    let raw =
    no_raw_made (shape c.args.graph.now) c.args.set c.made.result c.raws.result c.made.ensures
    c.raws.ensures c.requires in (
      (λ h. raw.0 (apart.0 (c.is_empty.ensures.0 h))),
      (λ h. c.is_empty.ensures.1 (apart.1 (raw.1 h))),
    )
