use Rattle.std.proofs.Common.{◌≡◌, ap, ◌∙◌}
use Rattle.link_lists.specs.Links.{next_of, prev_of, with_at}
use Rattle.link_lists.proofs.Vectors.{ring_more}
use Rattle.link_lists.proofs.links.rings.Goals as goal

pub loop-l-preserved : goal.loop-l-preserved
loop-l-preserved c =
    let l = c.loop-l.l in
    let set_next : next_of c.set_prev.new.links.items ≡ with_at (next_of c.loop-l.links.items) l l =
    c.set_prev.ensures.next ∙ c.set_next.ensures.next in
    let set_prev : prev_of c.set_prev.new.links.items ≡ with_at (prev_of c.loop-l.links.items) l l =
    c.set_prev.ensures.prev ∙ ap (λ f. with_at f l l) c.set_next.ensures.prev in
    record {
      length = c.set_prev.ensures.length ∙ (c.set_next.ensures.length ∙ c.loop-l.invariant.length);
      next = λ i lt. ap (λ f. f i) set_next
          ∙ ring_more (next_of c.loop-l.links.items) l c.loop-l.invariant.next i lt;
      prev = λ i lt. ap (λ f. f i) set_prev
          ∙ ring_more (prev_of c.loop-l.links.items) l c.loop-l.invariant.prev i lt;
    }
