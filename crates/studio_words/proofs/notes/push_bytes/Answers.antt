use Rattle.studio_words.proofs.Seconds.{second-push}
use Rattle.studio_words.proofs.notes.push_bytes.Goals as goal

pub pushing-preserved : goal.pushing-preserved
pushing-preserved c =
    rw c.in_ok-push.ensures.items
    (second-push _ _ c.pushing.invariant c.shown.ensures.from c.shown.ensures.to)
