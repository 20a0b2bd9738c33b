use Rattle.searches.proofs.Counted.{tree_counted}
use Rattle.searches.specs.Solution.{certificate_of}
use Rattle.searches.proofs.headed.reads_back.Goals as goal

pub returns : goal.returns
returns c =
    c.spelled_headed_texts_read.ensures c.args.problem.now c.is_valid.ensures.valid
    (certificate_of c.args.network.now c.args.head.now c.args.tree.now)
    (record {
      claim = record { known = c.requires.network; kept = c.is_sized.ensures.kept };
      head = c.requires.head;
      tree =
          record {
            whole = c.is_tree.ensures;
            known = c.requires.tree;
            counted = tree_counted c.args.tree.now c.is_tree.ensures c.requires.few;
          };
      tail = record { known = tt; counted = tt };
    })
