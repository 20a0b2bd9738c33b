use Rattle.std.proofs.Common.{◌≡◌, length, map}
use Rattle.studio_rules.specs.TopicPages.{text_among}
use Rattle.studio_words.proofs.pages.text_among.Given as goal

-- the page is among those that are left exactly if it is among all
abbrev pub invariant-loop-pages : goal.invariant-loop-pages
invariant-loop-pages l =
    text_among (map (λ page. (page.0.now, page.1.now)) l.pages) l.topic
    ≡ text_among (map (λ page. (page.0.now, page.1.now)) l.initial.pages) l.topic

abbrev pub decreases-loop-pages : goal.decreases-loop-pages
decreases-loop-pages l = length l.pages
