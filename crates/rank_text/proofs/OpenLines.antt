-- Lines of a tree text in which each line `open` stands for that of its mark, and back.
use Rattle.std.proofs.Common.{◌≡◌, ◌+◌, Bool, true, false, ℕ, ℤ, suc, List, [], ◌∷◌, length, map}
use Rattle.std.proofs.Common.{decimal, Option, Some, None, Result, Ok, Err, refl, sym, ap, ap₂, ◌∙◌}
use Rattle.std.proofs.Common.{subst, arith}
use Rattle.std.specs.Fmt.{signed_decimal}
use Rattle.std.specs.Str.{bytes_eq}
use Rattle.std.proofs.lemmas.Slice.Eq.{bytes_eq-Decides}
use Rattle.tree_text_laws.specs.integer_laws.Range.{InRange}
use Rattle.tree_text_laws.specs.problem_rules.Each.{Each}
use Rattle.tree_text_laws.specs.tree_text_rules.Line.{Token, Line, tokens_of, behind_first}
use Rattle.tree_text_laws.specs.tree_text_rules.Line.{fields_of, word_text}
use Rattle.tree_text_laws.specs.tree_text_rules.LineRead.{one_and_more}
use Rattle.tree_text_laws.specs.tree_text_rules.Token.{both, mapped, number_of, children_of}
use Rattle.tree_text_laws.specs.tree_text_rules.Read.{Fault}
use Rattle.tree_text_laws.specs.tree_text_rules.declared.TreeKind.{TreeKind}
use Rattle.tree_text_laws.specs.tree_text_rules.declared.Word.TheVariants.{Open}
use Rattle.tree_text_laws.specs.Codes.{line_of, IsToken}
use Rattle.tree_text_laws.specs.Lines.{lines_said}
use Rattle.tree_text_laws.proofs.Cited.{on_line_ok, AreFields, mapped_ok, both_ok, formed_ok}
use Rattle.tree_text_laws.proofs.Cited.{formed_again, more_fields, number_code, children, all_each}
use Rattle.tree_text_laws.proofs.Cited.{each_all, tokens_said, formed_said, line_from}
use Rattle.rank_check.specs.rank_rules.Marked.{Mark, Name, first_mark, other_marks}
use Rattle.rank_check.specs.rank_rules.declared.naming.Naming.{Naming}
use Rattle.rank_check.specs.rank_rules.declared.naming.Naming.TheVariants.{Only, Within}
use Rattle.rank_check.specs.rank_rules.Opened.{is_first, begins_by, way_by, way_of, opened_by}
use Rattle.rank_check.specs.rank_rules.Opened.{opened, mark_by}
use Rattle.rank_check.specs.rank_rules.Opened.{mark_read_by, mark_read, named_read, with_marks}
use Rattle.rank_check.specs.rank_rules.Opened.{mark_before}
use Rattle.rank_check.specs.rank_rules.Opened.{marks_taken}
use Rattle.rank_check.specs.rank_rules.Spelling.{named_word, over_word, way_word}
use Rattle.rank_check.specs.rank_rules.Text.{FitsWay}
use Rattle.rank_text.specs.Fits.{FitsMark}

-- ---- the line of an open leaf

abbrev pub open_tokens : List Token
open_tokens = word_text Open ∷ []

abbrev pub mark_line : Mark → List Token
mark_line None = open_tokens
mark_line (Some m) =
    way_word m.way ∷ decimal m.network ∷ signed_decimal m.d ∷ map signed_decimal m.ys

abbrev scaled_fields : AreFields (one_and_more number_of number_of)
    (λ c. signed_decimal c.0 ∷ map signed_decimal c.1) (λ c. InRange c.0 × Each InRange c.1)
scaled_fields =
    more_fields number_of signed_decimal InRange number_code number_of signed_decimal InRange
    number_code

way_token : (way : Naming) → IsToken (way_word way)
way_token Only = record { some = refl; space = refl; feed = refl }
way_token Within = record { some = refl; space = refl; feed = refl }

open_is_token : IsToken (word_text Open)
open_is_token = record { some = refl; space = refl; feed = refl }

-- ---- lines, and a place for the line of each open leaf

-- the line names no network
abbrev pub IsUnnamed : List Token → Type 0
IsUnnamed line = (is_first named_word line ≡ false) × (is_first over_word line ≡ false)

-- a line of a tree text that is none of an open leaf
abbrev pub IsShut : List Token → Type 0
IsShut line = (is_first (word_text Open) line ≡ false) × IsUnnamed line

-- a line of an open leaf with a bound
pub record IsLow (line : List Token) : Type 0 where
  pub opens : is_first (word_text Open) line ≡ true
  pub not_named : IsUnnamed line
  pub more : line ≡ open_tokens → ⊥

-- a line that stands for itself, that of an open leaf, and that of an open leaf with a bound, which
-- names no network
pub data Spot : Type 0 where
  still : List Token → Spot
  place : Spot
  low : List Token → Spot

abbrev pub Form : Type 0
Form = List Spot

abbrev pub AreShut : Form → Type 0
AreShut [] = Unit {0}
AreShut (place ∷ form) = AreShut form
AreShut (still line ∷ form) = IsShut line × AreShut form
AreShut (low line ∷ form) = IsLow line × AreShut form

-- with the lines of these marks, and lines `open` after the last mark; so without marks the lines
-- of a tree text
abbrev pub filled : List Mark → Form → List (List Token)
filled ms [] = []
filled ms (place ∷ form) = mark_line (first_mark ms) ∷ filled (other_marks ms) form
filled ms (still line ∷ form) = line ∷ filled ms form
filled ms (low line ∷ form) = line ∷ filled (other_marks ms) form

abbrev pub places : Form → ℕ
places [] = 0
places (place ∷ form) = 1 + places form
places (still line ∷ form) = places form
places (low line ∷ form) = 1 + places form

-- no leaf with a bound names a network
abbrev pub AreOpen : List Mark → Form → Type 0
AreOpen ms [] = Unit {0}
AreOpen ms (place ∷ form) = AreOpen (other_marks ms) form
AreOpen ms (still line ∷ form) = AreOpen ms form
AreOpen ms (low line ∷ form) = (first_mark ms ≡ None) × AreOpen (other_marks ms) form

-- ---- which word a line begins with

begins_said : (word : Token) → bytes_eq [] word ≡ false → (line : List Token) → Each IsToken line
    → begins_by word (line_of line) ≡ is_first word line
begins_said word some [] each = some
begins_said word some (token ∷ tokens) each =
    ap (is_first word) (tokens_said token tokens each.0 each.1)

first_named : (word : Token) (tokens : List Token) → is_first word tokens ≡ true
    → tokens ≡ word ∷ behind_first tokens
first_named word [] b = absurd cc
first_named word (token ∷ tokens) b =
    ap (λ (t : Token). t ∷ tokens) ((bytes_eq-Decides token word).0 b)

-- the word of a line that names a network
abbrev word_of_way : Naming → Bool → Bool → Bool
word_of_way Only named over = named
word_of_way Within named over = over

way_is : (distinct named over : Bool) (way : Naming) → way_by distinct named over ≡ Some way
    → (word_of_way way named over ≡ true) × FitsWay distinct way
way_is distinct true over Only e = (refl, tt)
way_is distinct true over Within e = absurd cc
way_is true false true Only e = absurd cc
way_is true false true Within e = (refl, refl)
way_is true false false way e = absurd cc
way_is false false over way e = absurd cc

no_way : (distinct named over : Bool) → named ≡ false → over ≡ false
    → way_by distinct named over ≡ None
no_way distinct true over n o = absurd cc
no_way distinct false true n o = absurd cc
no_way true false false n o = refl
no_way false false false n o = refl

way_again : (distinct : Bool) (way : Naming) (tokens : List Token) → FitsWay distinct way
    → way_by distinct (is_first named_word (way_word way ∷ tokens))
    (is_first over_word (way_word way ∷ tokens)) ≡ Some way
way_again distinct Only tokens fits = refl
way_again distinct Within tokens fits = ap (λ (d : Bool). way_by d false true) fits

way_begins : (distinct : Bool) (way : Naming) (line : Line) → way_of distinct line ≡ Some way
    → begins_by (way_word way) line ≡ true
way_begins distinct Only line e =
    (way_is distinct (begins_by named_word line) (begins_by over_word line) Only e).0
way_begins distinct Within line e =
    (way_is distinct (begins_by named_word line) (begins_by over_word line) Within e).0

with_ok : (m : Mark) (read : Result (List Mark) Fault) (ms : List Mark)
    → with_marks (m ∷ []) read ≡ Ok ms → (rest : List Mark) × (read ≡ Ok rest) × (ms ≡ m ∷ rest)
with_ok m (Ok rest) ms e = (rest, refl, let q : m ∷ rest ≡ ms = cc in sym q)
with_ok m (Err fault) ms e = absurd cc

lines_apart : (l m : Line) (ls ms : List Line) → l ∷ ls ≡ m ∷ ms → (l ≡ m) × (ls ≡ ms)
lines_apart l m ls ms e = (cc, cc)

low_tokens : (l : List Token) → is_first (word_text Open) l ≡ true → Each IsToken l
    → tokens_of (line_of l) ≡ l
low_tokens [] opens each = absurd cc
low_tokens (token ∷ tokens) opens each = tokens_said token tokens each.0 each.1

-- ---- rankings, or lists of alternatives

module _ (distinct : Bool) where
  mark_tokens : (m : Mark) → FitsMark distinct m → Each IsToken (mark_line m)
  mark_tokens None fits = (open_is_token, tt)
  mark_tokens (Some n) fits = (
    way_token n.way,
    (
      children.token n.network fits.1,
      scaled_fields.tokens (n.d, n.ys) (fits.2, all_each n.ys fits.3),
    ),
  )

  mark_back : (way : Naming) → FitsWay distinct way → (tokens : List Token) (m : Mark)
      → mark_by way tokens ≡ Ok m
      → (way_word way ∷ tokens ≡ mark_line m) × FitsMark distinct m
  mark_back way may [] m e = absurd cc
  mark_back way may (token ∷ tokens) m e =
      let made =
      mapped_ok
      (λ found. Some (record { way = way; network = found.0; d = found.1.0; ys = found.1.1 }))
      (both (children_of token) (one_and_more number_of number_of tokens)) m e in
      let two = both_ok (children_of token) (one_and_more number_of number_of tokens) made.0 made.1
      in
      let here = children.back token made.0.0 two.0 in
      let rest = scaled_fields.back tokens made.0.1 two.1 in
      subst
      (λ (m : Mark). (way_word way ∷ token ∷ tokens ≡ mark_line m) × FitsMark distinct m)
      made.2 (
        ap₂ (λ (t : Token) (ts : List Token). way_word way ∷ t ∷ ts) here.0 rest.0,
        (may, here.1, rest.1.0, each_all made.0.1.1 rest.1.1),
      )

  named_back : (line : Line) (way : Naming) (m : Mark) → way_of distinct line ≡ Some way
      → named_read way line ≡ Ok m
      → (line ≡ line_of (mark_line m)) × FitsMark distinct m
  named_back line way m is e =
      let may =
      (way_is distinct (begins_by named_word line) (begins_by over_word line) way is).1 in
      let whole = formed_ok line (mark_by way (fields_of line)) m e in
      let back = mark_back way may (fields_of line) m whole.1 in (
        line_from line (mark_line m) whole.0
            (first_named (way_word way) (tokens_of line) (way_begins distinct way line is)
            ∙ back.0),
        back.1,
      )

  named_again : (n : Name) → FitsMark distinct (Some n)
      → named_read n.way (line_of (mark_line (Some n))) ≡ Ok (Some n)
  named_again n fits =
      let fields : List Token = decimal n.network ∷ signed_decimal n.d ∷ map signed_decimal n.ys in
      let line : Line = line_of (way_word n.way ∷ fields) in
      let each = mark_tokens (Some n) fits in
      formed_again line (mark_by n.way (fields_of line))
      (formed_said (way_word n.way) fields each.0 each.1)
      ∙ ap (λ (ts : List Token). mark_by n.way (behind_first ts))
      (tokens_said (way_word n.way) fields each.0 each.1)
      ∙ ap₂
      (λ (k : Result ℕ TreeKind) (s : Result (ℤ × List ℤ) TreeKind). mapped
      (λ found. Some (record { way = n.way; network = found.0; d = found.1.0; ys = found.1.1 }))
      (both k s))
      (children.again n.network fits.1)
      (scaled_fields.again (n.d, n.ys) (fits.2, all_each n.ys fits.3))

  -- ---- what a line is

  way_said : (line : List Token) → Each IsToken line
      → way_of distinct (line_of line)
      ≡ way_by distinct (is_first named_word line) (is_first over_word line)
  way_said line each =
      ap₂ (λ (n o : Bool). way_by distinct n o) (begins_said named_word refl line each)
      (begins_said over_word refl line each)

  way_unnamed : (line : List Token) → Each IsToken line → IsUnnamed line
      → way_of distinct (line_of line) ≡ None
  way_unnamed line each un = way_said line each
      ∙ no_way distinct (is_first named_word line) (is_first over_word line) un.0 un.1

  way_named : (n : Name) → FitsMark distinct (Some n)
      → way_of distinct (line_of (mark_line (Some n))) ≡ Some n.way
  way_named n fits = way_said (mark_line (Some n)) (mark_tokens (Some n) fits)
      ∙ way_again distinct n.way
      (decimal n.network ∷ signed_decimal n.d ∷ map signed_decimal n.ys) fits.0

  opened_unnamed : (line : List Token) → Each IsToken line → IsUnnamed line
      → opened distinct (line_of line) ≡ line_of line
  opened_unnamed line each un =
      ap (λ (w : Option Naming). opened_by w (line_of line)) (way_unnamed line each un)

  mark_unnamed : (line : List Token) (opens : Bool) → Each IsToken line → IsUnnamed line
      → is_first (word_text Open) line ≡ opens
      → mark_read distinct (line_of line) ≡ mark_read_by None opens (line_of line)
  mark_unnamed line opens each un is =
      ap₂ (λ (w : Option Naming) (b : Bool). mark_read_by w b (line_of line))
      (way_unnamed line each un) (begins_said (word_text Open) refl line each ∙ is)

  at_line : (number : ℕ) (line : Line) (lines : List Line) (read : Option (Result Mark TreeKind))
      → mark_read distinct line ≡ read → marks_taken distinct number (line ∷ lines)
      ≡ mark_before number read (marks_taken distinct (suc number) lines)
  at_line number line lines read e =
      ap
      (λ (r : Option (Result Mark TreeKind)). mark_before number r
      (marks_taken distinct (suc number) lines)) e

  mark_opened : (m : Mark) → FitsMark distinct m
      → opened distinct (line_of (mark_line m)) ≡ line_of open_tokens
  mark_opened None fits = opened_unnamed open_tokens (open_is_token, tt) (refl, refl)
  mark_opened (Some n) fits =
      ap (λ (w : Option Naming). opened_by w (line_of (mark_line (Some n)))) (way_named n fits)

  mark_is_read : (m : Mark) → FitsMark distinct m
      → mark_read distinct (line_of (mark_line m)) ≡ Some (Ok m)
  mark_is_read None fits =
      mark_unnamed open_tokens true (open_is_token, tt) (refl, refl) refl
  mark_is_read (Some n) fits =
      let line : Line = line_of (mark_line (Some n)) in
      ap (λ (w : Option Naming). mark_read_by w (begins_by (word_text Open) line) line)
      (way_named n fits)
      ∙ ap (λ (r : Result Mark TreeKind). Some r) (named_again n fits)

  -- ---- the lines with marks give the lines and the marks

  pub record Gives (ms : List Mark) (marked plain : List (List Token)) : Type 0 where
    pub opened_are : map (opened distinct) (lines_said marked) ≡ lines_said plain
    pub marks_are : (number : ℕ) → marks_taken distinct number (lines_said marked) ≡ Ok ms
    pub tokens : Each (Each IsToken) marked

  gives_open : {ms : List Mark} {marked plain : List (List Token)} (m : Mark) → FitsMark distinct m
      → Gives ms marked plain → Gives (m ∷ ms) (mark_line m ∷ marked) (open_tokens ∷ plain)
  gives_open {ms} {marked} {plain} m fits rest = record {
    opened_are = ap₂ (λ (l : Line) (ls : List Line). l ∷ ls) (mark_opened m fits) rest.opened_are;
    marks_are =
        λ number. at_line number (line_of (mark_line m)) (lines_said marked) (Some (Ok m))
        (mark_is_read m fits) ∙ ap (with_marks (m ∷ [])) (rest.marks_are (suc number));
    tokens = (mark_tokens m fits, rest.tokens);
  }

  gives_shut : {ms : List Mark} {marked plain : List (List Token)} (line : List Token)
      → Each IsToken line → IsShut line → Gives ms marked plain
      → Gives ms (line ∷ marked) (line ∷ plain)
  gives_shut {ms} {marked} {plain} line each shut rest = record {
    opened_are =
        ap₂ (λ (l : Line) (ls : List Line). l ∷ ls) (opened_unnamed line each shut.1)
        rest.opened_are;
    marks_are =
        λ number. at_line number (line_of line) (lines_said marked) None
        (mark_unnamed line false each shut.1 shut.0)
        ∙ rest.marks_are (suc number);
    tokens = (each, rest.tokens);
  }

  gives_low : {ms : List Mark} {marked plain : List (List Token)} (line : List Token) (m : Mark)
      → m ≡ None → Each IsToken line → IsLow line → Gives ms marked plain
      → Gives (m ∷ ms) (line ∷ marked) (line ∷ plain)
  gives_low {ms} {marked} {plain} line m none each is rest =
      subst (λ (n : Mark). Gives (n ∷ ms) (line ∷ marked) (line ∷ plain)) (sym none)
      record {
        opened_are =
            ap₂ (λ (l : Line) (ls : List Line). l ∷ ls) (opened_unnamed line each is.not_named)
            rest.opened_are;
        marks_are =
            λ number. at_line number (line_of line) (lines_said marked) (Some (Ok None))
            (mark_unnamed line true each is.not_named is.opens)
            ∙ ap (with_marks (None ∷ [])) (rest.marks_are (suc number));
        tokens = (each, rest.tokens);
      }

  pub gives : (form : Form) (ms : List Mark) → AreShut form → Each (Each IsToken) (filled [] form)
      → Each (FitsMark distinct) ms → length ms ≡ places form → AreOpen ms form
      → Gives ms (filled ms form) (filled [] form)
  gives [] [] shut each fits count opened =
      record { opened_are = refl; marks_are = λ number. refl; tokens = tt }
  gives [] (m ∷ ms) shut each fits count opened = absurd cc
  gives (place ∷ form) [] shut each fits count opened = absurd (omega (arith, count))
  gives (place ∷ form) (m ∷ ms) shut each fits count opened =
      gives_open m fits.0 (gives form ms shut each.1 fits.1 (omega (arith, count)) opened)
  gives (still line ∷ form) ms shut each fits count opened =
      gives_shut line each.0 shut.0 (gives form ms shut.1 each.1 fits count opened)
  gives (low line ∷ form) [] shut each fits count opened = absurd (omega (arith, count))
  gives (low line ∷ form) (m ∷ ms) shut each fits count opened =
      gives_low line m opened.0 each.0 shut.0
      (gives form ms shut.1 each.1 fits.1 (omega (arith, count)) opened.1)

  -- ---- lines whose lines of a tree text are these are the lines with marks

  pub record Comes (lines : List Line) (ms : List Mark) (form : Form) : Type 0 where
    pub lines_are : lines ≡ lines_said (filled ms form)
    pub fits : Each (FitsMark distinct) ms
    pub count : length ms ≡ places form
    pub opened : AreOpen ms form

  module _ (form : Form) (line : Line) (lines : List Line)
      (rest : (number : ℕ) (ms : List Mark) → marks_taken distinct number lines ≡ Ok ms
      → Comes lines ms form)
      (number : ℕ) (ms : List Mark)
      (read : marks_taken distinct number (line ∷ lines) ≡ Ok ms) where
    read_as : (r : Option (Result Mark TreeKind)) → mark_read distinct line ≡ r
        → mark_before number r (marks_taken distinct (suc number) lines) ≡ Ok ms
    read_as r e = sym (at_line number line lines r e) ∙ read

    -- one mark, and those of the lines after it
    comes_mark : (m : Mark) → FitsMark distinct m → line ≡ line_of (mark_line m)
        → with_marks (m ∷ []) (marks_taken distinct (suc number) lines) ≡ Ok ms
        → Comes (line ∷ lines) ms (place ∷ form)
    comes_mark m fits is e =
        let others = with_ok m (marks_taken distinct (suc number) lines) ms e in
        let r = rest (suc number) others.0 others.1 in
        let count = r.count in
        subst (λ (ns : List Mark). Comes (line ∷ lines) ns (place ∷ form)) (sym others.2)
        record {
          lines_are = ap₂ (λ (l : Line) (ls : List Line). l ∷ ls) is r.lines_are;
          fits =
              (fits, r.fits);
          count = omega (arith, count);
          opened = r.opened;
        }

    -- a line that names a network stands for `open`
    comes_open : (way : Option Naming) → way_of distinct line ≡ way
        → opened_by way line ≡ line_of open_tokens → Comes (line ∷ lines) ms (place ∷ form)
    comes_open (Some way) named is =
        let got =
        read_as (Some (named_read way line))
        (ap (λ (w : Option Naming). mark_read_by w (begins_by (word_text Open) line) line) named) in
        let on =
        on_line_ok number (named_read way line)
        (λ m. with_marks (m ∷ []) (marks_taken distinct (suc number) lines)) ms got in
        let back = named_back line way on.0 named on.1 in
        comes_mark on.0 back.1 back.0 on.2
    comes_open None named is =
        comes_mark None tt is
        (read_as (Some (Ok None)) (ap (mark_read distinct) is ∙ mark_is_read None tt))

    -- each other line stands for itself
    comes_shut : (l : List Token) → Each IsToken l → IsShut l → (way : Option Naming)
        → way_of distinct line ≡ way → opened_by way line ≡ line_of l
        → Comes (line ∷ lines) ms (still l ∷ form)
    comes_shut l each shut (Some way) named is =
        let yes : true ≡ false = ap (begins_by (word_text Open)) is
        ∙ begins_said (word_text Open) refl l each ∙ shut.0 in
        absurd cc
    comes_shut l each shut None named is =
        let r =
        rest (suc number) ms
        (read_as None (ap (mark_read distinct) is ∙ mark_unnamed l false each shut.1 shut.0)) in
        record {
          lines_are = ap₂ (λ (l : Line) (ls : List Line). l ∷ ls) is r.lines_are;
          fits =
              r.fits;
          count = r.count;
          opened = r.opened;
        }

    -- the line of an open leaf with a bound is open, and names no network
    comes_low : (l : List Token) → Each IsToken l → IsLow l → (way : Option Naming)
        → way_of distinct line ≡ way → opened_by way line ≡ line_of l
        → Comes (line ∷ lines) ms (low l ∷ form)
    comes_low l each is (Some way) named same =
        let texts : word_text Open ≡ (line_of l).text = ap (λ (x : Line). x.text) same in
        let tokens : open_tokens ≡ l =
        sym (tokens_said (word_text Open) [] open_is_token tt)
        ∙ ap (λ (t : List ℕ). tokens_of (record { text = t; ended = true })) texts
        ∙ low_tokens l is.opens each in
        absurd (is.more (sym tokens))
    comes_low l each is None named same =
        let others =
        with_ok None (marks_taken distinct (suc number) lines) ms
        (read_as (Some (Ok None))
        (ap (mark_read distinct) same ∙ mark_unnamed l true each is.not_named is.opens)) in
        let r = rest (suc number) others.0 others.1 in
        let count = r.count in
        subst (λ (ns : List Mark). Comes (line ∷ lines) ns (low l ∷ form)) (sym others.2)
        record {
          lines_are = ap₂ (λ (l : Line) (ls : List Line). l ∷ ls) same r.lines_are;
          fits =
              (tt, r.fits);
          count = omega (arith, count);
          opened = (refl, r.opened);
        }

  pub comes : (form : Form) (lines : List Line) → AreShut form
      → Each (Each IsToken) (filled [] form)
      → map (opened distinct) lines ≡ lines_said (filled [] form) → (number : ℕ) (ms : List Mark)
      → marks_taken distinct number lines ≡ Ok ms → Comes lines ms form
  comes [] [] shut each e number [] read =
      record { lines_are = refl; fits = tt; count = refl; opened = tt }
  comes [] [] shut each e number (m ∷ ms) read = absurd cc
  comes [] (line ∷ lines) shut each e number ms read = absurd cc
  comes (place ∷ form) [] shut each e number ms read = absurd cc
  comes (still l ∷ form) [] shut each e number ms read = absurd cc
  comes (low l ∷ form) [] shut each e number ms read = absurd cc
  comes (place ∷ form) (line ∷ lines) shut each e number ms read =
      let both =
      lines_apart (opened distinct line) (line_of open_tokens) (map (opened distinct) lines)
      (lines_said (filled [] form)) e in
      comes_open form line lines
      (λ number ms read. comes form lines shut each.1 both.1 number ms read) number ms read
      (way_of distinct line) refl both.0
  comes (still l ∷ form) (line ∷ lines) shut each e number ms read =
      let both =
      lines_apart (opened distinct line) (line_of l) (map (opened distinct) lines)
      (lines_said (filled [] form)) e in
      comes_shut form line lines
      (λ number ms read. comes form lines shut.1 each.1 both.1 number ms read) number ms read l
      each.0 shut.0 (way_of distinct line) refl both.0
  comes (low l ∷ form) (line ∷ lines) shut each e number ms read =
      let both =
      lines_apart (opened distinct line) (line_of l) (map (opened distinct) lines)
      (lines_said (filled [] form)) e in
      comes_low form line lines
      (λ number ms read. comes form lines shut.1 each.1 both.1 number ms read) number ms read l
      each.0 shut.0 (way_of distinct line) refl both.0
