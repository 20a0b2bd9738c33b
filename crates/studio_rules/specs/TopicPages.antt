-- The pages on what no command is: the format of a plant, and the kinds of faults.
use Rattle.std.specs.Prelude.{ℕ, List, [], ◌∷◌, Option, Some, None, map, if◌then◌else◌}
use Rattle.std.specs.Str.{bytes_eq}
use Rattle.studio_rules.specs.declared.topic_pages.TheConstants.{TOPIC_PAGES}

-- the first page on the topic, of pages with their topics
abbrev pub text_among : List (List ℕ × List ℕ) → List ℕ → Option (List ℕ)
text_among [] topic = None
text_among (page ∷ pages) topic =
    if bytes_eq page.0 topic then Some page.1 else text_among pages topic

unfoldable pub topic_text : List ℕ → Option (List ℕ)
topic_text = text_among (map (λ page. (page.0.now, page.1.now)) TOPIC_PAGES)
