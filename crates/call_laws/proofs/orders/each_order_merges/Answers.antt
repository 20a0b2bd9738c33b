use Rattle.studio.proofs.Cited.{merged_reads}
use Rattle.call_laws.proofs.PartOrderLemmas.{each_order_merges}
use Rattle.call_laws.proofs.orders.each_order_merges.Goals as goal

pub returns : goal.returns
returns c =
    each_order_merges c.order_is_free.ensures.many c.order_is_free.ensures.each
    c.parts_are_read_once.ensures c.read_parts_are_spelled.ensures
    (merged_reads c.spelled_texts_read.ensures c.read_texts_are_spelled.ensures
    c.read_parts_are_spelled.ensures c.grafts_are_partial.ensures.tree c.open_leaves_stand.ensures
    c.open_leaves_decide.ensures.closed)
    c.read_texts_are_spelled.ensures c.claim_has_one_fault.ensures.passes
    c.tree_has_one_fault.ensures.passes
