-- Each page is a text of whole lines.
use Rattle.std.proofs.Common.{◌≡◌, ◌&&◌, ℕ, Bool, true, false, length, arith, List, [], ◌∷◌, Option}
use Rattle.std.proofs.Common.{Some, None, IfSome, map, refl, ap}
use Rattle.std.specs.Prelude.{◌==◌, codes, option_map, if◌then◌else◌}
use Rattle.std.proofs.lemmas.Bool.{false≢true, eqb-true}
use Rattle.std.specs.List.{list_all}
use Rattle.std.specs.Str.{bytes_eq}
use Rattle.studio_rules.specs.PageLines.{text_of, IsOfLines}
use Rattle.studio_rules.specs.Pages.{command_text, page_text, text_or, status_text}
use Rattle.studio_rules.specs.TopicPages.{text_among, topic_text}
use Rattle.studio_rules.specs.Overview.{overview, version}
use Rattle.studio_rules.specs.declared.command_pages.TheConstants.{COMMAND_PAGES, STATUS_PAGE}
use Rattle.studio_rules.specs.declared.command_pages.TheConstants.{OVERVIEW, VERSION}
use Rattle.studio_rules.specs.declared.topic_pages.TheConstants.{TOPIC_PAGES}

-- nothing follows the last line feed
abbrev is_whole : List ℕ → Bool
is_whole [] = true
is_whole (c ∷ []) = c == 10
is_whole (c ∷ d ∷ cs) = is_whole (d ∷ cs)

-- one byte more before the first line
longer : (c d : ℕ) (cs : List ℕ) → IsOfLines (d ∷ cs) → IsOfLines (c ∷ d ∷ cs)
longer c d cs ([], e) = absurd (omega (arith, ap length e))
longer c d cs (line ∷ lines, e) = ((c ∷ line) ∷ lines, ap (λ text. c ∷ text) e)

whole : (text : List ℕ) → is_whole text ≡ true → IsOfLines text
whole [] h = ([], refl)
whole (c ∷ []) h = ([] ∷ [], ap (λ d. d ∷ []) (eqb-true c 10 h))
whole (c ∷ d ∷ cs) h = longer c d cs (whole (d ∷ cs) h)

among_whole : (pages : List (List ℕ × List ℕ)) (topic : List ℕ)
    → list_all (λ page. is_whole page.1) pages ≡ true → IfSome (text_among pages topic) IsOfLines
among_whole [] topic h = tt
among_whole (page ∷ pages) topic h =
    at (bytes_eq page.0 topic) (is_whole page.1) refl h (among_whole pages topic)
  where
    at : (b a : Bool) → is_whole page.1 ≡ a → (a && list_all (λ page. is_whole page.1) pages) ≡ true
        → (list_all (λ page. is_whole page.1) pages ≡ true
        → IfSome (text_among pages topic) IsOfLines)
        → IfSome (if b then Some page.1 else text_among pages topic) IsOfLines
    at true true e h rest = whole page.1 e
    at false true e h rest = rest h
    at b false e h rest = absurd (false≢true h)

topics_whole : (topic : List ℕ) → IfSome (topic_text topic) IsOfLines
unfolding topic_text
topics_whole topic = among_whole (map (λ page. (page.0.now, page.1.now)) TOPIC_PAGES) topic refl

pub command_whole : (topic : List ℕ) → IfSome (command_text topic) IsOfLines
unfolding command_text
command_whole topic = among_whole (map (λ page. (page.0.now, page.1.now)) COMMAND_PAGES) topic refl

status_whole : IsOfLines status_text
unfolding status_text
status_whole = whole STATUS_PAGE.now refl

pub overview_whole : IsOfLines overview
unfolding overview
overview_whole = whole OVERVIEW.now refl

pub version_whole : IsOfLines version
unfolding version
version_whole = whole VERSION.now refl

or_whole : (x y : Option (List ℕ)) → IfSome x IsOfLines → IfSome y IsOfLines
    → IfSome (text_or x y) IsOfLines
or_whole (Some text) y p q = p
or_whole None y p q = q

either_whole : (b : Bool) (x y : Option (List ℕ)) → IfSome x IsOfLines → IfSome y IsOfLines
    → IfSome (if b then x else y) IsOfLines
either_whole true x y p q = p
either_whole false x y p q = q

pub page_whole : (topic : List ℕ) → IfSome (page_text topic) IsOfLines
page_whole topic =
    either_whole (bytes_eq topic (codes "status")) (Some status_text)
    (text_or (command_text topic) (topic_text topic)) status_whole
    (or_whole (command_text topic) (topic_text topic) (command_whole topic) (topics_whole topic))
