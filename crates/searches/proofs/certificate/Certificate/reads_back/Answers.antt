use Rattle.std.proofs.Common.{subst}
use Rattle.tree_text.specs.tree_rules.Tree.{IsTree}
use Rattle.tree_text.specs.tree_text_rules.Read.{Certificate}
use Rattle.headed_search.specs.tree_text_laws.Fits.{KeepsClaim, CountsTail}
use Rattle.searches.proofs.Counted.{tree_counted}
use Rattle.searches.proofs.certificate.Certificate.reads_back.Goals as goal

pub returns : goal.returns
returns c =
    let q : Certificate = c.args.self.now in
    let whole : IsTree q.tree =
    subst (λ (d : Certificate). IsTree d.tree) c.self.view_is c.is_tree.ensures in
    c.spelled_texts_read.ensures c.args.problem.now c.is_valid.ensures.valid q
    (record {
      claim =
          record {
            known = c.requires.claim;
            kept =
                subst (λ (d : Certificate). KeepsClaim d.claim) c.self.view_is
                c.claim_is_kept.ensures;
          };
      tree =
          record {
            whole = whole;
            known = c.requires.tree;
            counted =
                tree_counted q.tree whole c.requires.few;
          };
      tail =
          record {
            known = c.requires.tail;
            counted =
                subst (λ (d : Certificate). CountsTail d.tail) c.self.view_is
                c.tail_is_counted.ensures;
          };
    })
