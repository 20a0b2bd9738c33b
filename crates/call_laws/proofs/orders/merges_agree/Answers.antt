use Rattle.studio.proofs.Cited.{merged_reads}
use Rattle.call_laws.proofs.PartOrderLemmas.{merges_agree}
use Rattle.call_laws.proofs.orders.merges_agree.Goals as goal

pub returns : goal.returns
returns c =
    merges_agree c.order_is_free.ensures.many c.parts_are_read_once.ensures
    c.read_parts_are_spelled.ensures
    (merged_reads c.spelled_texts_read.ensures c.read_texts_are_spelled.ensures
    c.read_parts_are_spelled.ensures c.grafts_are_partial.ensures.tree c.open_leaves_stand.ensures
    c.open_leaves_decide.ensures.closed)
