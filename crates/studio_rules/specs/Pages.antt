-- The page on each topic: a command, by its first word, or another one.
use Rattle.std.specs.Prelude.{ℕ, List, Option, Some, None, codes, map, if◌then◌else◌}
use Rattle.std.specs.Str.{bytes_eq}
use Rattle.studio_rules.specs.TopicPages.{text_among, topic_text}
use Rattle.studio_rules.specs.declared.command_pages.TheConstants.{COMMAND_PAGES, STATUS_PAGE}

-- the page on a command
unfoldable pub command_text : List ℕ → Option (List ℕ)
command_text = text_among (map (λ page. (page.0.now, page.1.now)) COMMAND_PAGES)

-- the page on the statuses
unfoldable pub status_text : List ℕ
status_text = STATUS_PAGE.now

-- the text on a topic: a command, the statuses, the format of a plant or a kind of fault
abbrev pub text_or : Option (List ℕ) → Option (List ℕ) → Option (List ℕ)
text_or (Some text) other = Some text
text_or None other = other

abbrev pub page_text : List ℕ → Option (List ℕ)
page_text topic =
    if bytes_eq topic (codes "status") then Some status_text
    else text_or (command_text topic) (topic_text topic)
