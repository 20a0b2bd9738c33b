-- The text of a ranking reads as the ranking, and no other text does.
use Rattle.std.proofs.Common.{◌≡◌, ◌≤◌, ◌+◌, Bool, true, false, nat_le, ℕ, zero, suc, List, [], ◌∷◌}
use Rattle.std.proofs.Common.{◌++◌, length, map, flat_map, decimal, Some, None, Result, Ok, Err}
use Rattle.std.proofs.Common.{refl, sym, ap, ap₂, ◌∙◌, ◌&&◌, subst, arith, append_assoc}
use Rattle.std.proofs.Common.{if◌then◌else◌}
use Rattle.std.specs.Str.{bytes_eq}
use Rattle.std.proofs.lemmas.Bool.{leb-true, le-leb}
use Rattle.std.proofs.lemmas.List.{map-append}
use Rattle.std.proofs.lemmas.Slice.Eq.{bytes_eq-Decides}
use Rattle.tree_text_laws.specs.problem_rules.Each.{Each}
use Rattle.tree_text_laws.specs.problem_rules.Problem.{Problem}
use Rattle.tree_text_laws.specs.problem_rules.WellFormed.{IsWellFormed}
use Rattle.tree_text_laws.proofs.text_laws.Cited.{each-append, each-to}
use Rattle.tree_text_laws.specs.tree_rules.Claim.{Network}
use Rattle.tree_text_laws.specs.tree_rules.Accepted.{Tree}
use Rattle.tree_text_laws.specs.tree_rules.Tail.{Tail}
use Rattle.tree_text_laws.specs.tree_text_rules.Line.{Token, Line, lines_of, tokens_of}
use Rattle.tree_text_laws.specs.tree_text_rules.LineRead.{one}
use Rattle.tree_text_laws.specs.tree_text_rules.Read.{Fault, Taken, then_read, network_taken}
use Rattle.tree_text_laws.specs.tree_text_rules.Read.{tree_taken, tail_taken}
use Rattle.tree_text_laws.specs.tree_text_rules.Spelling as plain
use Rattle.tree_text_laws.specs.tree_text_rules.Token.{judged, count_of}
use Rattle.tree_text_laws.specs.tree_text_rules.declared.TreeKind.{TreeKind}
use Rattle.tree_text_laws.specs.tree_text_rules.declared.TreeKind.TheVariants.{FileType, BadLine}
use Rattle.tree_text_laws.specs.tree_text_rules.declared.TreeKind.TheVariants.{BadNumber}
use Rattle.tree_text_laws.specs.Codes.{line_of, IsToken, IsLineCode}
use Rattle.tree_text_laws.specs.LineFits.{IsCount, IsSomeCount}
use Rattle.tree_text_laws.proofs.Cited.{text_back, text_again, HasNoFeed, judged_ok, judged_again}
use Rattle.tree_text_laws.proofs.Cited.{formed_ok, formed_again, one_fields, counts, no_feed}
use Rattle.tree_text_laws.proofs.Cited.{tokens_said, formed_said, line_from, tail_no_set, good_is}
use Rattle.tree_text_laws.proofs.Cited.{on_line_ok, then_ok, first_back, first_again}
use Rattle.tree_text_laws.specs.Fits.{FitsNetwork, FitsTree, FitsTail}
use Rattle.tree_text_laws.specs.Lines.{lines_said, TakesJust, TakesBefore, ReadsJust, BeginsNoSet}
use Rattle.rank_check.specs.rank_rules.Marked.{Mark}
use Rattle.rank_check.specs.rank_rules.Text.{Text, AreNumbered, FitWays, AreBare}
use Rattle.rank_check.specs.rank_rules.Opened.{opened, marks_taken}
use Rattle.rank_check.specs.rank_rules.Read.{file_type_read, behind_word, word_read, count_read}
use Rattle.rank_check.specs.rank_rules.Read.{networks_read}
use Rattle.rank_check.specs.rank_rules.Read.{with_network, networks_taken, Grown, with_tail}
use Rattle.rank_check.specs.rank_rules.Read.{grown_taken}
use Rattle.rank_check.specs.rank_rules.Read.{put_together, behind_networks, is_distinct}
use Rattle.rank_check.specs.rank_rules.Read.{listed_taken}
use Rattle.rank_check.specs.rank_rules.Read.{asked_taken, rest_taken, lines_taken, read_text}
use Rattle.rank_check.specs.rank_rules.Spelling.{file_type, count_word, distinct_word}
use Rattle.rank_check.specs.rank_rules.Spelling.{networks_word}
use Rattle.rank_check.specs.rank_rules.Spelling.{grown_lines, distinct_lines, listed_lines}
use Rattle.rank_check.specs.rank_rules.Spelling.{rank_text_lines}
use Rattle.rank_check.specs.rank_rules.Spelling.{rank_text}
use Rattle.rank_text.specs.Fits.{Fits, FitsMark, opens}
use Rattle.rank_text.specs.Laws.{IsSpelled}
use Rattle.rank_text.proofs.OpenLines.{Gives}
use Rattle.rank_text.proofs.Shapes.{network_tokens, both_tokens, both_given, both_come}

-- marks that can be spelled are numbered, and name networks in ways that the list has
pub numbered : (distinct : Bool) (ms : List Mark) → Each (FitsMark distinct) ms → AreNumbered ms
numbered distinct [] fits = tt
numbered distinct (None ∷ ms) fits = numbered distinct ms fits.1
numbered distinct (Some n ∷ ms) fits = (fits.0.1.0, numbered distinct ms fits.1)

pub ways : (distinct : Bool) (ms : List Mark) → Each (FitsMark distinct) ms → FitWays distinct ms
ways distinct [] fits = tt
ways distinct (None ∷ ms) fits = ways distinct ms fits.1
ways distinct (Some n ∷ ms) fits = (fits.0.0, ways distinct ms fits.1)

-- ---- the counts

-- a word and a count that passes a test
module _ (word : Token) (word_is : IsToken word) (test : ℕ → Bool) (Passes : ℕ → Type 0)
    (passes : (n : ℕ) → IsCount n → test n ≡ true → Passes n)
    (known : (n : ℕ) → Passes n → IsCount n × (test n ≡ true)) where
  count_back : (tokens : List Token) (n : ℕ) → behind_word word count_of tokens ≡ Ok n
      → (tokens ≡ word ∷ decimal n ∷ []) × IsCount n
  count_back [] n e = absurd cc
  count_back (token ∷ tokens) n e = at (bytes_eq token word) refl e
    where
      at : (b : Bool) → bytes_eq token word ≡ b
          → (if b then one count_of tokens else Err BadLine) ≡ Ok n
          → (token ∷ tokens ≡ word ∷ decimal n ∷ []) × IsCount n
      at true is f =
          let back = (one_fields count_of decimal IsCount counts).back tokens n f in (
            ap₂ (λ (t : Token) (ts : List Token). t ∷ ts) ((bytes_eq-Decides token word).0 is)
                back.0,
            back.1,
          )
      at false is f = absurd cc

  counted_line : IsLineCode (λ line. judged test BadNumber (word_read word line))
      (λ n. word ∷ decimal n ∷ []) Passes
  counted_line = record {
    back = λ line n e.
        let judge = judged_ok test BadNumber (word_read word line) n e in
        let whole = formed_ok line (behind_word word count_of (tokens_of line)) n judge.0 in
        let back = count_back (tokens_of line) n whole.1 in
        (line_from line (word ∷ decimal n ∷ []) whole.0 back.0, passes n back.1 judge.1);
    again = λ n pass.
        let fits = known n pass in
        let each : Each IsToken (decimal n ∷ []) = (counts.token n fits.0, tt) in
        let line : Line = line_of (word ∷ decimal n ∷ []) in
        judged_again test BadNumber (word_read word line) n
        (formed_again line (behind_word word count_of (tokens_of line))
        (formed_said word (decimal n ∷ []) word_is each)
        ∙ ap (behind_word word count_of) (tokens_said word (decimal n ∷ []) word_is each)
        ∙ ap (λ (b : Bool). let r : Result ℕ TreeKind =
        (if b then one count_of (decimal n ∷ []) else Err BadLine) in r)
        ((bytes_eq-Decides word word).1 refl)
        ∙ counts.again n fits.0) fits.1;
    tokens = λ n pass. (word_is, (counts.token n (known n pass).0, tt));
  }

count_line : IsLineCode count_read (λ n. count_word ∷ decimal n ∷ []) IsSomeCount
count_line =
    counted_line count_word (record { some = refl; space = refl; feed = refl }) (nat_le 1)
    IsSomeCount
    (λ n fits e. (leb-true 1 n e, fits)) (λ n pass. (pass.1, le-leb 1 n pass.0))

networks_line : (count : ℕ) → IsCount count
    → IsLineCode (networks_read count) (λ k. networks_word ∷ decimal k ∷ []) (λ k. k ≤ count)
networks_line count in_range =
    counted_line networks_word (record { some = refl; space = refl; feed = refl })
    (λ k. nat_le k count) (λ k. k ≤ count)
    (λ k fits e. leb-true k count e) (λ k le. (omega (arith, le, in_range), le-leb k count le))

-- ---- the first line

type_back : (line : Line) (u : Unit {0}) → file_type_read line ≡ Ok u
    → line ≡ line_of (file_type ∷ [])
type_back line u e = at line.ended refl (bytes_eq line.text file_type) refl e
  where
    at : (ended : Bool) → line.ended ≡ ended → (same : Bool) → bytes_eq line.text file_type ≡ same
        → (if ended then (if same then Ok tt else Err FileType) else Err FileType) ≡ Ok u
        → line ≡ line_of (file_type ∷ [])
    at true ended true same f =
        ap₂ (λ (t : List ℕ) (b : Bool). let l : Line = record { text = t; ended = b } in l)
        ((bytes_eq-Decides line.text file_type).0 same) ended
    at true ended false same f = absurd cc
    at false ended same is f = absurd cc

-- ---- the line of a list of alternatives

distinct_back : (line : Line) → is_distinct line ≡ true → line ≡ line_of (distinct_word ∷ [])
distinct_back line e = at line.ended refl (bytes_eq line.text distinct_word) refl e
  where
    at : (ended : Bool) → line.ended ≡ ended → (same : Bool)
        → bytes_eq line.text distinct_word ≡ same → (ended && same) ≡ true
        → line ≡ line_of (distinct_word ∷ [])
    at true ended true same f =
        ap₂ (λ (t : List ℕ) (b : Bool). let l : Line = record { text = t; ended = b } in l)
        ((bytes_eq-Decides line.text distinct_word).0 same) ended
    at true ended false same f = absurd cc
    at false ended same is f = absurd cc

-- ---- both readings

together_ok : (count : ℕ) (distinct : Bool) (ws : List Network) (m : Result (List Mark) Fault)
    (g : Result Grown Fault) (t : Text) → put_together count distinct ws m g ≡ Ok t
    → (ms : List Mark) × (grown : Grown) × (m ≡ Ok ms) × (g ≡ Ok grown)
    × (t ≡ record {
      count = count;
      distinct = distinct;
      networks = ws;
      tree = grown.tree;
      marks = ms;
      tail =
          grown.tail;
    })
together_ok count distinct ws (Ok ms) (Ok grown) t e = (ms, grown, refl, refl, cc)
together_ok count distinct ws (Ok ms) (Err other) t e = absurd cc
together_ok count distinct ws (Err fault) (Ok grown) t e = absurd cc
together_ok count distinct ws (Err fault) (Err other) t e = absurd cc

tail_ok : (tree : Tree) (r : Result Tail Fault) (g : Grown) → with_tail tree r ≡ Ok g
    → (tail : Tail) × (r ≡ Ok tail) × (g ≡ record { tree = tree; tail = tail })
tail_ok tree (Ok tail) g e = (tail, refl, cc)
tail_ok tree (Err fault) g e = absurd cc

network_ok : (w : Network) (r : Result (Taken (List Network)) Fault) (taken : Taken (List Network))
    → with_network w r ≡ Ok taken
    → (rest : Taken (List Network)) × (r ≡ Ok rest)
    × (taken ≡ record { what = w ∷ rest.what; number = rest.number; behind = rest.behind })
network_ok w (Ok rest) taken e = (rest, refl, cc)
network_ok w (Err fault) taken e = absurd cc

module _ (p : Problem) (formed : IsWellFormed p)
    (trees : TakesBefore (BeginsNoSet p) (tree_taken p) (plain.tree_lines p) (FitsTree p))
    (tails : ReadsJust (tail_taken p) (plain.tail_lines p) (FitsTail p)) where
  -- ---- the tree and the tail

  abbrev plain_grown : Tree → Tail → List (List Token)
  plain_grown tree tail = plain.tree_lines p tree ++ plain.tail_lines p tail

  grown_again : (tree : Tree) (tail : Tail) (number : ℕ) → FitsTree p tree → FitsTail p tail
      → grown_taken p number (lines_said (plain_grown tree tail))
      ≡ Ok (record { tree = tree; tail = tail })
  grown_again tree tail number fits fits' =
      ap (grown_taken p number)
      (map-append line_of (plain.tree_lines p tree) (plain.tail_lines p tail))
      ∙ ap
      (λ (r : Result (Taken Tree) Fault). then_read r
      (λ tree number lines. with_tail tree (tail_taken p number lines)))
      (trees.takes tree number (lines_said (plain.tail_lines p tail)) fits
      (tail_no_set p formed tail fits'))
      ∙ ap (with_tail tree) (tails.reads tail (number + length (plain.tree_lines p tree)) fits')

  grown_back : (number : ℕ) (lines : List Line) (g : Grown) → grown_taken p number lines ≡ Ok g
      → (lines ≡ lines_said (plain_grown g.tree g.tail)) × FitsTree p g.tree × FitsTail p g.tail
  grown_back number lines g e =
      let one =
      then_ok (tree_taken p number lines)
      (λ tree number lines. with_tail tree (tail_taken p number lines)) g e in
      let two = tail_ok one.0.what (tail_taken p one.0.number one.0.behind) g one.2 in
      subst (λ (x : Grown). (lines ≡ lines_said (plain_grown x.tree x.tail)) × FitsTree p x.tree
      × FitsTail p x.tail) (sym two.2) (
        trees.lines_are number lines one.0 one.1
            ∙ ap (λ (ls : List Line). lines_said (plain.tree_lines p one.0.what) ++ ls)
            (tails.lines_are one.0.number one.0.behind two.0 two.1)
            ∙ sym (map-append line_of (plain.tree_lines p one.0.what) (plain.tail_lines p two.0)),
        trees.fits number lines one.0 one.1,
        tails.fits one.0.number one.0.behind two.0 two.1,
      )

  -- the lines after the networks
  pub record Behind (count : ℕ) (distinct : Bool) (ws : List Network) (lines : List Line)
      (t : Text) : Type 0 where
    pub is : t ≡ record {
      count = count;
      distinct = distinct;
      networks = ws;
      tree = t.tree;
      marks = t.marks;
      tail =
          t.tail;
    }
    pub lines_are : lines ≡ lines_said (grown_lines p t)
    pub tree : FitsTree p t.tree
    pub marks : Each (FitsMark distinct) t.marks
    pub marked : length t.marks ≡ opens t.tree
    pub bare : AreBare t.marks t.tree
    pub tail : FitsTail p t.tail

  pub behind_back : (count : ℕ) (distinct : Bool) (ws : List Network) (number : ℕ)
      (lines : List Line) (t : Text) → behind_networks p count distinct ws number lines ≡ Ok t
      → Behind count distinct ws lines t
  behind_back count distinct ws number lines t e =
      let both =
      together_ok count distinct ws (marks_taken distinct number lines)
      (grown_taken p number (map (opened distinct) lines)) t e in
      let ms = both.0 in
      let g = both.1 in
      let grown = grown_back number (map (opened distinct) lines) g both.3 in
      let come =
      both_come p distinct g.tree g.tail ms (both_tokens p formed g.tree g.tail grown.1 grown.2)
      lines number grown.0 both.2 in
      subst (λ (t : Text). Behind count distinct ws lines t) (sym both.4)
      record {
        is = refl;
        lines_are = come.0;
        tree = grown.1;
        marks = come.1;
        marked =
            come.2;
        bare = come.3;
        tail = grown.2;
      }

  module _ (networks : TakesJust (network_taken p) (plain.network_lines p) (FitsNetwork p)) where
    abbrev list_lines : List Network → List (List Token)
    list_lines ws = flat_map (plain.network_lines p) ws

    -- ---- networks

    list_then : (w : Network) (ws : List Network) (behind : List Line)
        → lines_said (list_lines (w ∷ ws)) ++ behind ≡ lines_said (plain.network_lines p w)
        ++ (lines_said (list_lines ws) ++ behind)
    list_then w ws behind =
        ap (λ (ls : List Line). ls ++ behind)
        (map-append line_of (plain.network_lines p w) (list_lines ws))
        ∙ append_assoc (lines_said (plain.network_lines p w)) (lines_said (list_lines ws)) behind

    list_again : (ws : List Network) (number : ℕ) (behind : List Line) → Each (FitsNetwork p) ws
        → (last : ℕ)
        × (networks_taken p (length ws) number (lines_said (list_lines ws) ++ behind)
        ≡ Ok (record { what = ws; number = last; behind = behind }))
    list_again [] number behind fits = (number, refl)
    list_again (w ∷ ws) number behind fits =
        let rest = list_again ws (number + length (plain.network_lines p w)) behind fits.1 in (
          rest.0,
          ap (networks_taken p (suc (length ws)) number) (list_then w ws behind)
              ∙ ap
              (λ (r : Result (Taken Network) Fault). then_read r
              (λ w number lines. with_network w (networks_taken p (length ws) number lines)))
              (networks.takes w number (lines_said (list_lines ws) ++ behind) fits.0)
              ∙ ap (with_network w) rest.1,
        )

    abbrev AreNetworks : ℕ → List Line → Taken (List Network) → Type 0
    AreNetworks k lines taken = (lines ≡ lines_said (list_lines taken.what) ++ taken.behind)
        × Each (FitsNetwork p) taken.what × (length taken.what ≡ k)

    list_back : (k number : ℕ) (lines : List Line) (taken : Taken (List Network))
        → networks_taken p k number lines ≡ Ok taken → AreNetworks k lines taken
    list_back zero number lines taken e =
        let none : Taken (List Network) = record { what = []; number = number; behind = lines } in
        subst (λ (t : Taken (List Network)). AreNetworks zero lines t) (good_is none taken e)
        (refl, tt, refl)
    list_back (suc k) number lines taken e =
        let first =
        then_ok (network_taken p number lines)
        (λ w number lines. with_network w (networks_taken p k number lines)) taken e in
        let w = first.0.what in
        let rest = network_ok w (networks_taken p k first.0.number first.0.behind) taken first.2 in
        let back = list_back k first.0.number first.0.behind rest.0 rest.1 in
        subst (λ (t : Taken (List Network)). AreNetworks (suc k) lines t) (sym rest.2) (
          networks.lines_are number lines first.0 first.1
              ∙ ap (λ (ls : List Line). lines_said (plain.network_lines p w) ++ ls) back.0
              ∙ sym (list_then w rest.0.what rest.0.behind),
          (networks.fits number lines first.0 first.1, back.1),
          ap suc back.2,
        )

    list_tokens : (ws : List Network) → Each (FitsNetwork p) ws
        → Each (Each IsToken) (list_lines ws)
    list_tokens [] fits = tt
    list_tokens (w ∷ ws) fits =
        each-append (Each IsToken) (plain.network_lines p w) (list_lines ws)
        (network_tokens p formed w fits.0) (list_tokens ws fits.1)

    -- ---- the lines after the first one, and how they are read

    abbrev asked_lines : Text → List (List Token)
    asked_lines t = distinct_lines t.distinct ++ listed_lines p t

    abbrev counted_lines : Text → List (List Token)
    counted_lines t = (count_word ∷ decimal t.count ∷ []) ∷ asked_lines t

    abbrev list_then_rest : ℕ → Bool → ℕ → ℕ → List Line → Result Text Fault
    list_then_rest count distinct number k lines =
        then_read (networks_taken p k (suc number) lines) (behind_networks p count distinct)

    abbrev asked_then : ℕ → List Line → Result Text Fault
    asked_then count lines = asked_taken p count 3 lines

    module _ (t : Text) (fits : Fits p t) where
      all_given : Gives t.distinct t.marks (grown_lines p t) (plain_grown t.tree t.tail)
      all_given =
          both_given p t.distinct t.tree t.tail t.marks
          (both_tokens p formed t.tree t.tail fits.tree fits.tail) fits.marks fits.marked fits.bare

      behind_again : (number : ℕ)
          → behind_networks p t.count t.distinct t.networks number (lines_said (grown_lines p t))
          ≡ Ok t
      behind_again number =
          ap₂ (λ (m : Result (List Mark) Fault) (g : Result Grown Fault). put_together t.count
          t.distinct t.networks m g)
          (all_given.marks_are number)
          (ap (grown_taken p number) all_given.opened_are
          ∙ grown_again t.tree t.tail number fits.tree fits.tail)

      listed_tokens : Each (Each IsToken) (listed_lines p t)
      listed_tokens = (
        (networks_line t.count fits.count.1).tokens (length t.networks) fits.within,
        each-append (Each IsToken) (list_lines t.networks) (grown_lines p t)
            (list_tokens t.networks fits.networks) all_given.tokens,
      )

      distinct_tokens : (distinct : Bool)
          → Each (Each IsToken) (distinct_lines distinct ++ listed_lines p t)
      distinct_tokens false = listed_tokens
      distinct_tokens true = (
        (record { some = refl; space = refl; feed = refl }, tt),
        listed_tokens,
      )

      all_tokens : Each (Each IsToken) (rank_text_lines p t)
      all_tokens = (
        (record { some = refl; space = refl; feed = refl }, tt),
        (count_line.tokens t.count fits.count, distinct_tokens t.distinct),
      )

      listed_again : (number : ℕ)
          → listed_taken p t.count t.distinct number (lines_said (listed_lines p t)) ≡ Ok t
      listed_again number =
          let found : List Line = lines_said (list_lines t.networks ++ grown_lines p t) in
          let list =
          list_again t.networks (suc number) (lines_said (grown_lines p t)) fits.networks in
          first_again (networks_read t.count) (λ k. networks_word ∷ decimal k ∷ [])
          (λ k. k ≤ t.count) (networks_line t.count fits.count.1) number (length t.networks) found
          (list_then_rest t.count t.distinct number) fits.within
          ∙ ap
          (λ (r : Result (Taken (List Network)) Fault). then_read r
          (behind_networks p t.count t.distinct))
          (ap (networks_taken p (length t.networks) (suc number))
          (map-append line_of (list_lines t.networks) (grown_lines p t)) ∙ list.1)
          ∙ behind_again list.0

      asked_again : (distinct : Bool) → t.distinct ≡ distinct → (number : ℕ)
          → asked_taken p t.count number
          (lines_said (distinct_lines distinct ++ listed_lines p t)) ≡ Ok t
      asked_again true is number =
          subst
          (λ (d : Bool). listed_taken p t.count d (suc number) (lines_said (listed_lines p t))
          ≡ Ok t)
          is (listed_again (suc number))
      asked_again false is number =
          subst
          (λ (d : Bool). listed_taken p t.count d number (lines_said (listed_lines p t)) ≡ Ok t)
          is (listed_again number)

      rest_again : rest_taken p 2 (lines_said (counted_lines t)) ≡ Ok t
      rest_again =
          first_again count_read (λ n. count_word ∷ decimal n ∷ []) IsSomeCount count_line 2 t.count
          (lines_said (asked_lines t)) asked_then fits.count
          ∙ asked_again t.distinct refl 3

      pub text_read : read_text p (rank_text p t) ≡ Ok t
      text_read =
          ap (lines_taken p)
          (text_again (rank_text_lines p t)
          (each-to (Each IsToken) HasNoFeed no_feed (rank_text_lines p t) all_tokens))
          ∙ rest_again

    -- ---- no other text does

    listed_back : (count : ℕ) → IsSomeCount count → (distinct : Bool) (number : ℕ)
        (lines : List Line) (t : Text) → listed_taken p count distinct number lines ≡ Ok t
        → (t.count ≡ count) × (t.distinct ≡ distinct)
        × (lines ≡ lines_said (listed_lines p t)) × Fits p t
    listed_back count some distinct number lines t e =
        let two =
        first_back (networks_read count) (λ k. networks_word ∷ decimal k ∷ [])
        (λ k. k ≤ count) (networks_line count some.1) number lines
        (list_then_rest count distinct number) t e in
        let three =
        then_ok (networks_taken p two.what (suc number) two.rest)
        (behind_networks p count distinct) t two.reads in
        let list = list_back two.what (suc number) two.rest three.0 three.1 in
        let ws = three.0.what in
        let back = behind_back count distinct ws three.0.number three.0.behind t three.2 in
        let few : length ws ≤ count = subst (λ (k : ℕ). k ≤ count) (sym list.2) two.fits in
        subst
        (λ (t : Text). (t.count ≡ count) × (t.distinct ≡ distinct)
        × (lines ≡ lines_said (listed_lines p t)) × Fits p t) (sym back.is) (
          refl,
          refl,
          two.lines_are
              ∙ ap₂ (λ (k : ℕ) (ls : List Line). line_of (networks_word ∷ decimal k ∷ []) ∷ ls)
              (sym list.2)
              (list.0 ∙ ap (λ (ls : List Line). lines_said (list_lines ws) ++ ls) back.lines_are
              ∙ sym (map-append line_of (list_lines ws) (grown_lines p t))),
          record {
            count = some;
            within = few;
            networks = list.1;
            tree = back.tree;
            marks =
                back.marks;
            marked = back.marked;
            bare = back.bare;
            tail = back.tail;
          },
        )

    asked_back : (count : ℕ) → IsSomeCount count → (number : ℕ) (lines : List Line) (t : Text)
        → asked_taken p count number lines ≡ Ok t
        → (t.count ≡ count) × (lines ≡ lines_said (asked_lines t)) × Fits p t
    asked_back count some number [] t e = absurd cc
    asked_back count some number (line ∷ lines) t e = at (is_distinct line) refl e
      where
        at : (b : Bool) → is_distinct line ≡ b
            → (if b then listed_taken p count true (suc number) lines
            else listed_taken p count false number (line ∷ lines)) ≡ Ok t
            → (t.count ≡ count) × (line ∷ lines ≡ lines_said (asked_lines t)) × Fits p t
        at true is f =
            let back = listed_back count some true (suc number) lines t f in (
              back.0,
              ap₂ (λ (l : Line) (ls : List Line). l ∷ ls) (distinct_back line is) back.2
                  ∙ ap (λ (d : Bool). lines_said (distinct_lines d ++ listed_lines p t))
                  (sym back.1),
              back.3,
            )
        at false is f =
            let back = listed_back count some false number (line ∷ lines) t f in (
              back.0,
              back.2
                  ∙ ap (λ (d : Bool). lines_said (distinct_lines d ++ listed_lines p t))
                  (sym back.1),
              back.3,
            )

    rest_back : (lines : List Line) (t : Text) → rest_taken p 2 lines ≡ Ok t
        → (lines ≡ lines_said (counted_lines t)) × Fits p t
    rest_back lines t e =
        let one =
        first_back count_read (λ n. count_word ∷ decimal n ∷ []) IsSomeCount count_line 2 lines
        asked_then t e in
        let back = asked_back one.what one.fits 3 one.rest t one.reads in (
          one.lines_are
              ∙ ap₂ (λ (n : ℕ) (ls : List Line). line_of (count_word ∷ decimal n ∷ []) ∷ ls)
              (sym back.0) back.1,
          back.2,
        )

    lines_back : (lines : List Line) (t : Text) → lines_taken p lines ≡ Ok t
        → (lines ≡ lines_said (rank_text_lines p t)) × Fits p t
    lines_back [] t e = absurd cc
    lines_back (line ∷ lines) t e =
        let one = on_line_ok 1 (file_type_read line) (λ read. rest_taken p 2 lines) t e in
        let back = rest_back lines t one.2 in
        (ap₂ (λ (l : Line) (ls : List Line). l ∷ ls) (type_back line one.0 one.1) back.0, back.1)

    pub text_spelled : (bytes : List ℕ) (t : Text) → read_text p bytes ≡ Ok t → IsSpelled p bytes t
    text_spelled bytes t e = let back =
        lines_back (lines_of bytes) t e in
        record { text = text_back bytes (rank_text_lines p t) back.0; fits = back.1 }
