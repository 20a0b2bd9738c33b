-- The lines of a tail, to the end of a text, both ways.
use Rattle.std.proofs.Common.{◌≡◌, ℕ, suc, List, [], ◌∷◌, map, decimal, Ok, refl, ◌∙◌, ap, subst}
use Rattle.tree_text_rules.specs.problem_rules.Each.{Each}
use Rattle.tree_text_rules.specs.problem_rules.Problem.{Problem}
use Rattle.tree_text_rules.specs.problem_rules.WellFormed.{IsWellFormed}
use Rattle.tree_text_rules.specs.flow_rules.declared.place.Column.{Column}
use Rattle.tree_text_rules.specs.flow_rules.declared.place.Place.{Place}
use Rattle.tree_text_rules.specs.tree_rules.Known.{KnowsColumn}
use Rattle.tree_text_rules.specs.tree_rules.Tail as tails
use Rattle.tree_text_rules.specs.Line.{Token, Line, word_text}
use Rattle.tree_text_rules.specs.LineRead.{TailOpening, whole, spent, past, tail_opening_read}
use Rattle.tree_text_rules.specs.LineRead.{nonbasic_read, place_read, close_read}
use Rattle.tree_text_rules.specs.Read.{first_line, nothing_behind, close_taken, past_taken}
use Rattle.tree_text_rules.specs.Read.{tail_behind, tail_taken}
use Rattle.tree_text_rules.specs.Spelling.{column_text, place_fields, end_lines, tail_lines}
use Rattle.tree_text_rules.specs.declared.Word.TheVariants as words
use Rattle.tree_text_laws.specs.LineFits.{FitsPlace}
use Rattle.tree_text_laws.specs.Fits.{FitsTail}
use Rattle.tree_text_laws.proofs.PartTexts.{good_is, first_back, first_again}
use Rattle.tree_text_laws.specs.Codes.{line_of, IsToken}
use Rattle.tree_text_laws.specs.Lines.{BeginsNoSet}
use Rattle.tree_text_laws.proofs.NodeLines.{no_set}
use Rattle.tree_text_laws.proofs.TailLines.{tail_line, FitsTailOpening, tail_lines_of, close_line}
use Rattle.tree_text_laws.proofs.TailLines.{nonbasic_line, place_line}

-- ---- the last line

nothing_back : (t : tails.Tail) (number : ℕ) (lines : List Line) (tail : tails.Tail)
    → nothing_behind t number lines ≡ Ok tail → (lines ≡ []) × (t ≡ tail)
nothing_back t number [] tail e = (refl, good_is t tail e)
nothing_back t number (line ∷ lines) tail e = absurd cc

abbrev end_text : Unit {0} → List Token
end_text u = word_text words.End ∷ []

abbrev Plain : Unit {0} → Type 0
Plain u = Unit {0}

close_back : (t : tails.Tail) (number : ℕ) (lines : List Line) (tail : tails.Tail)
    → close_taken t number lines ≡ Ok tail → (lines ≡ map line_of end_lines) × (t ≡ tail)
close_back t number lines tail e =
    let a = first_back close_read end_text Plain close_line number lines _ tail e in
    let n = nothing_back t (suc number) a.rest tail a.reads in
    (a.lines_are ∙ ap (λ (rest : List Line). line_of (end_text tt) ∷ rest) n.0, n.1)

close_again : (t : tails.Tail) (number : ℕ) → close_taken t number (map line_of end_lines) ≡ Ok t
close_again t number =
    first_again close_read end_text Plain close_line number tt []
    (λ closed lines. nothing_behind t (suc number) lines) tt

module _ (p : Problem) (formed : IsWellFormed p) where
  abbrev Spells : List Line → tails.Tail → Type 0
  Spells lines tail = (lines ≡ map line_of (tail_lines p tail)) × FitsTail p tail

  -- ---- the place at which a number is out of range

  abbrev nonbasic_text : List Column → List Token
  nonbasic_text cs = word_text words.Nonbasic ∷ map (column_text p) cs

  abbrev place_text : Place → List Token
  place_text place = word_text words.Place ∷ place_fields p place

  record TookPast (node : ℕ) (lines : List Line) (tail : tails.Tail) : Type 0 where
    nonbasic : List Column
    place : Place
    tail_is : tails.past node nonbasic place ≡ tail
    lines_are : lines ≡ line_of (nonbasic_text nonbasic) ∷ line_of (place_text place)
        ∷ map line_of end_lines
    known : Each (KnowsColumn p) nonbasic
    fits : FitsPlace p place

  past_back : (node number : ℕ) (lines : List Line) (tail : tails.Tail)
      → past_taken p node number lines ≡ Ok tail → TookPast node lines tail
  past_back node number lines tail e =
      let a =
      first_back (nonbasic_read p) nonbasic_text (Each (KnowsColumn p)) (nonbasic_line p formed)
      number lines _ tail e in
      let b =
      first_back (place_read p) place_text (FitsPlace p) (place_line p formed) (suc number)
      a.rest _ tail a.reads in
      let c = close_back (tails.past node a.what b.what) (suc (suc number)) b.rest tail b.reads in
      record {
        nonbasic = a.what;
        place = b.what;
        tail_is = c.1;
        lines_are = a.lines_are
            ∙ ap (λ (rest : List Line). line_of (nonbasic_text a.what) ∷ rest)
            (b.lines_are ∙ ap (λ (rest : List Line). line_of (place_text b.what) ∷ rest) c.0);
        known = a.fits;
        fits = b.fits;
      }

  -- ---- what follows a tail's first line

  behind_back : (o : TailOpening) (number : ℕ) (lines rest : List Line) (tail : tails.Tail)
      → lines ≡ line_of (tail_line o) ∷ rest → FitsTailOpening o
      → tail_behind p o number rest ≡ Ok tail → Spells lines tail
  behind_back whole number lines rest tail is fits e =
      let n = nothing_back tails.whole number rest tail e in
      subst (λ (t : tails.Tail). Spells lines t) n.1 (
        is ∙ ap (λ (ls : List Line). line_of (tail_line whole) ∷ ls) n.0,
        record { known = tt; counted = tt },
      )
  behind_back (spent next options) number lines rest tail is fits e =
      let c = close_back (tails.spent next options) number rest tail e in
      subst (λ (t : tails.Tail). Spells lines t) c.1 (
        is ∙ ap (λ (ls : List Line). line_of (tail_line (spent next options)) ∷ ls) c.0,
        record { known = tt; counted = fits },
      )
  behind_back (past node) number lines rest tail is fits e =
      let t = past_back node number rest tail e in
      subst (λ (x : tails.Tail). Spells lines x) t.tail_is (
        is ∙ ap (λ (ls : List Line). line_of (tail_line (past node)) ∷ ls) t.lines_are,
        record { known = (t.known, t.fits.known); counted = (fits, t.fits.counted) },
      )

  pub tail_back : (number : ℕ) (lines : List Line) (tail : tails.Tail)
      → tail_taken p number lines ≡ Ok tail → (lines ≡ map line_of (tail_lines p tail))
      × FitsTail p tail
  tail_back number lines tail e =
      let a =
      first_back tail_opening_read tail_line FitsTailOpening tail_lines_of number lines _ tail
      e in
      behind_back a.what (suc number) lines a.rest tail a.lines_are a.fits a.reads

  opened : (o : TailOpening) (number : ℕ) (rest : List Line) → FitsTailOpening o
      → tail_taken p number (line_of (tail_line o) ∷ rest) ≡ tail_behind p o (suc number) rest
  opened o number rest fits =
      first_again tail_opening_read tail_line FitsTailOpening tail_lines_of number o rest
      (λ o lines. tail_behind p o (suc number) lines) fits

  past_again : (node : ℕ) (nonbasic : List Column) (place : Place) (number : ℕ)
      → Each (KnowsColumn p) nonbasic → FitsPlace p place
      → past_taken p node number
      (line_of (nonbasic_text nonbasic) ∷ line_of (place_text place) ∷ map line_of end_lines)
      ≡ Ok (tails.past node nonbasic place)
  past_again node nonbasic place number known fits =
      first_again (nonbasic_read p) nonbasic_text (Each (KnowsColumn p)) (nonbasic_line p formed)
      number nonbasic (line_of (place_text place) ∷ map line_of end_lines)
      (λ nonbasic lines. first_line (place_read p) (suc number) lines
      (λ place lines. close_taken (tails.past node nonbasic place) (suc (suc number)) lines))
      known
      ∙ first_again (place_read p) place_text (FitsPlace p) (place_line p formed) (suc number) place
      (map line_of end_lines)
      (λ place lines. close_taken (tails.past node nonbasic place) (suc (suc number)) lines)
      fits
      ∙ close_again (tails.past node nonbasic place) (suc (suc number))

  pub tail_again : (tail : tails.Tail) (number : ℕ) → FitsTail p tail
      → tail_taken p number (map line_of (tail_lines p tail)) ≡ Ok tail
  tail_again tails.whole number fits = opened whole number [] tt
  tail_again (tails.spent next options) number fits =
      opened (spent next options) number (map line_of end_lines) fits.counted
      ∙ close_again (tails.spent next options) (suc number)
  tail_again (tails.past node nonbasic place) number fits =
      opened (past node) number
      (line_of (nonbasic_text nonbasic) ∷ line_of (place_text place) ∷ map line_of end_lines)
      fits.counted.0
      ∙ past_again node nonbasic place (suc number) fits.known.0
      (record { known = fits.known.1; counted = fits.counted.1 })

  -- a tail begins with no set of a charge
  pub tail_no_set : (tail : tails.Tail) → FitsTail p tail
      → BeginsNoSet p (map line_of (tail_lines p tail))
  tail_no_set tails.whole fits = no_set p formed words.End [] tt (λ tokens. refl)
  tail_no_set (tails.spent next options) fits =
      no_set p formed words.Spent (decimal next ∷ decimal options ∷ [])
      (tail_lines_of.tokens (spent next options) fits.counted).1 (λ tokens. refl)
  tail_no_set (tails.past node nonbasic place) fits =
      no_set p formed words.Past (decimal node ∷ [])
      (tail_lines_of.tokens (past node) fits.counted.0).1 (λ tokens. refl)

  pub tail_tokens : (tail : tails.Tail) → FitsTail p tail → Each (Each IsToken) (tail_lines p tail)
  tail_tokens tails.whole fits = (close_line.tokens tt tt, tt)
  tail_tokens (tails.spent next options) fits =
      (tail_lines_of.tokens (spent next options) fits.counted, (close_line.tokens tt tt, tt))
  tail_tokens (tails.past node nonbasic place) fits = (
    tail_lines_of.tokens (past node) fits.counted.0,
    (
      (nonbasic_line p formed).tokens nonbasic fits.known.0,
      (
        (place_line p formed).tokens place
            (record { known = fits.known.1; counted = fits.counted.1 }),
        (close_line.tokens tt tt, tt),
      ),
    ),
  )
