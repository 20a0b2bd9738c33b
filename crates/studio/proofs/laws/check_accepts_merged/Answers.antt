use Rattle.studio.proofs.Merged.{check_accepts_merged}
use Rattle.studio.proofs.laws.check_accepts_merged.Goals as goal

pub returns : goal.returns
returns c =
    check_accepts_merged c.spelled_texts_read.ensures c.read_texts_are_spelled.ensures
    c.read_parts_are_spelled.ensures c.grafts_are_partial.ensures.tree
    c.open_leaves_stand.ensures c.open_leaves_decide.ensures.closed
    (record {
      no_claim = c.claim_has_one_fault.ensures.passes;
      no_line = c.one_fault.ensures.passing;
      no_node = c.tree_has_one_fault_by.ensures.passes;
      plain = c.plain_texts_are_headed.ensures;
      empty = c.empty_head_is_none.ensures.proves;
    })
