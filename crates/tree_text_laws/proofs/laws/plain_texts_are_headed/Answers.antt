use Rattle.std.proofs.Common.{[], ap, ◌∙◌}
use Rattle.tree_text_rules.specs.Read.{HeadedCertificate, read_headed_text}
use Rattle.tree_text_laws.proofs.laws.plain_texts_are_headed.Goals as goal

pub returns : goal.returns
returns c =
    λ p valid bytes d e.
    let s = c.read_texts_are_spelled.ensures p valid bytes d e in
    let whole : HeadedCertificate =
    record { claim = d.claim; head = []; tree = d.tree; tail = d.tail } in
    ap (read_headed_text p) s.text
    ∙ c.spelled_headed_texts_read.ensures p valid whole
    (record { claim = s.fits.claim; head = tt; tree = s.fits.tree; tail = s.fits.tail })
