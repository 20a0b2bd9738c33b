use Rattle.studio.proofs.Accepted.{solved_is_accepted}
use Rattle.studio.proofs.laws.solved_is_accepted.Goals as goal

pub returns : goal.returns
returns c =
    solved_is_accepted
    (record {
      no_claim = c.claim_has_one_fault.ensures.passes;
      no_line = c.one_fault.ensures.passing;
      no_node = c.tree_has_one_fault_by.ensures.passes;
      plain = c.plain_texts_are_headed.ensures;
      empty = c.empty_head_is_none.ensures.proves;
    })
