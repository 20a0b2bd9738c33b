-- Pieces with marks between them: names, items and tokens of a printed line are found again.
use Rattle.std.proofs.Common.{◌≡◌, ◌<◌, ◌+◌, ◌||◌, ◌==◌, Bool, true, false, not, ℕ, suc, List, []}
use Rattle.std.proofs.Common.{◌∷◌, ◌++◌, length, map, filter, refl, ◌∙◌, ap, arith, length-append}
use Rattle.std.proofs.Common.{ne_eqb}
use Rattle.std.specs.List.{list_all, list_any, prefix_len, suffix_len, slice_split}
use Rattle.std.proofs.lemmas.Bool.{cond-true, and_left, and_right, or_from, or_parts, or_left}
use Rattle.text_rules.specs.Blanks.{is_blank, trim}
use Rattle.text_rules.specs.problem_rules.Names.{continues_name, is_name}
use Rattle.text_rules.specs.Line.{is_colon, head_of, tail_of, is_header}
use Rattle.text_rules.specs.Field.{items_of, tokens_of}
use Rattle.text_rules.specs.Canonical.{joined, spaced, named, item_line, token_text}
use Rattle.text_laws.proofs.PrintedAmount.{all_to}
use Rattle.text_laws.proofs.Cuts.{not_mark, none_from_all, none-append, before_mark, after_mark}
use Rattle.text_laws.proofs.Cuts.{any_mark, no_prefix, suffix_behind, suffix_none, prefix_none}
use Rattle.text_laws.proofs.Cuts.{trim_none, trim_space, joined_none, split_joined}
use Rattle.text_rules.specs.problem_rules.Each.{Each}
use Rattle.text_laws.proofs.Each.{each-map, each-to}
use Rattle.text_laws.proofs.PrintedLines.{IsLine}
use Rattle.text_laws.proofs.Words.{IsWord}

-- the bytes of names, numbers, keys and signs
abbrev pub is_piece_byte : ℕ → Bool
is_piece_byte c = continues_name c || c == 43 || c == 61 || c == 62

-- a piece of a line
pub record IsPiece (text : List ℕ) : Type 0 where
  pub all : list_all is_piece_byte text ≡ true
  pub some : 0 < length text

continues_piece : (c : ℕ) → continues_name c ≡ true → is_piece_byte c ≡ true
continues_piece c is = or_left _ _ (or_left _ _ (or_left (continues_name c) (c == 43) is))

pub word_piece : (text : List ℕ) → IsWord text → IsPiece text
word_piece text w =
    record { all = all_to continues_name is_piece_byte continues_piece text w.all; some = w.some }

-- what no piece byte passes, no piece has
pub piece_none : (q : ℕ → Bool) → ((c : ℕ) → is_piece_byte c ≡ true → q c ≡ false) → (text : List ℕ)
    → IsPiece text → list_any q text ≡ false
piece_none q each text is = none_from_all is_piece_byte q each text is.all

pub off_mark : (k : ℕ) → is_piece_byte k ≡ false → (c : ℕ) → is_piece_byte c ≡ true
    → (c == k) ≡ false
off_mark k off c is = not_mark is_piece_byte k c off is

pub no_blank : (c : ℕ) → is_piece_byte c ≡ true → is_blank c ≡ false
no_blank c is = or_from (c == 32) (c == 9) (off_mark 32 refl c is) (off_mark 9 refl c is)

-- a text that is not empty and ends without a blank, and one that begins so too
pub record IsEnd (text : List ℕ) : Type 0 where
  pub some : 0 < length text
  pub back : suffix_len is_blank text ≡ 0

end_behind : (front text : List ℕ) → IsEnd text → IsEnd (front ++ text)
end_behind front [] is = absurd (omega (arith, is.some))
end_behind front (x ∷ xs) is =
    record {
      some = omega (arith, length-append front (x ∷ xs));
      back =
          suffix_behind is_blank front x xs is.back;
    }

pub piece_end : (text : List ℕ) → IsPiece text → IsEnd text
piece_end text is =
    record {
      some = is.some;
      back =
          suffix_none is_blank text (piece_none is_blank no_blank text is);
    }

joined_end : (mark : ℕ) (piece : List ℕ) (pieces : List (List ℕ)) → IsEnd piece → Each IsEnd pieces
    → IsEnd (joined mark (piece ∷ pieces))
joined_end mark piece [] one each = one
joined_end mark piece (next ∷ pieces) one each =
    end_behind piece (mark ∷ joined mark (next ∷ pieces))
    (end_behind (mark ∷ []) (joined mark (next ∷ pieces))
    (joined_end mark next pieces each.0 each.1))

joined_front : (mark : ℕ) (piece : List ℕ) (pieces : List (List ℕ)) → IsPiece piece
    → prefix_len is_blank (joined mark (piece ∷ pieces)) ≡ 0
joined_front mark [] pieces is = absurd (omega (arith, is.some))
joined_front mark (c ∷ cs) [] is =
    prefix_none is_blank (c ∷ cs) (piece_none is_blank no_blank (c ∷ cs) is)
joined_front mark (c ∷ cs) (next ∷ pieces) is =
    no_prefix is_blank c (cs ++ mark ∷ joined mark (next ∷ pieces))
    ((or_parts (is_blank c) (list_any is_blank cs)
    (piece_none is_blank no_blank (c ∷ cs) is)).0)

-- items after spaces
abbrev behind_space : List ℕ → List ℕ
behind_space item = 32 ∷ item

spaced_none : (q : ℕ → Bool) → q 32 ≡ false → ((c : ℕ) → is_piece_byte c ≡ true → q c ≡ false)
    → (items : List (List ℕ)) → Each IsPiece items
    → Each (λ piece. list_any q piece ≡ false) (map behind_space items)
spaced_none q off each items pieces =
    each-map (λ piece. list_any q piece ≡ false) behind_space items
    (each-to IsPiece (λ item. list_any q (behind_space item) ≡ false)
    (λ item is. or_from (q 32) (list_any q item) off (piece_none q each item is)) items pieces)

trim_pieces : (items : List (List ℕ)) → Each IsPiece items
    → map trim (map behind_space items) ≡ items
trim_pieces [] each = refl
trim_pieces (item ∷ items) each =
    let bare : list_any is_blank item ≡ false = piece_none is_blank no_blank item each.0 in
    ap (λ t. t ∷ map trim (map behind_space items))
    (trim_space item (prefix_none is_blank item bare) (suffix_none is_blank item bare))
    ∙ ap (λ ts. item ∷ ts) (trim_pieces items each.1)

-- the text after a name and a colon
pub record IsTail (text : List ℕ) : Type 0 where
  pub some : 0 < length text
  pub front : prefix_len is_blank text ≡ 0
  pub back : suffix_len is_blank text ≡ 0
  pub feed : list_any (λ c. c == 10) text ≡ false
  pub ret : list_any (λ c. c == 13) text ≡ false
  pub sign : list_any (λ c. c == 35) text ≡ false

pub items_tail : (item : List ℕ) (items : List (List ℕ)) → IsPiece item → Each IsPiece items
    → IsTail (joined 44 (spaced (item ∷ items)))
items_tail item items one each =
    let ends : Each IsEnd (map behind_space items) =
    each-map IsEnd behind_space items
    (each-to IsPiece (λ t. IsEnd (behind_space t))
    (λ t is. end_behind (32 ∷ []) t (piece_end t is)) items each) in
    let end : IsEnd (joined 44 (spaced (item ∷ items))) =
    joined_end 44 item (map behind_space items) (piece_end item one) ends in
    record {
      some = end.some;
      front = joined_front 44 item (map behind_space items) one;
      back = end.back;
      feed =
          joined_none (λ c. c == 10) 44 (spaced (item ∷ items)) refl (
            piece_none (λ c. c == 10) (off_mark 10 refl) item one,
            spaced_none (λ c. c == 10) refl (off_mark 10 refl) items each,
          );
      ret =
          joined_none (λ c. c == 13) 44 (spaced (item ∷ items)) refl (
            piece_none (λ c. c == 13) (off_mark 13 refl) item one,
            spaced_none (λ c. c == 13) refl (off_mark 13 refl) items each,
          );
      sign =
          joined_none (λ c. c == 35) 44 (spaced (item ∷ items)) refl (
            piece_none (λ c. c == 35) (off_mark 35 refl) item one,
            spaced_none (λ c. c == 35) refl (off_mark 35 refl) items each,
          );
    }

pub tokens_tail : (token : List ℕ) (tokens : List (List ℕ)) → IsPiece token → Each IsPiece tokens
    → IsTail (joined 32 (token ∷ tokens))
tokens_tail token tokens one each =
    let end : IsEnd (joined 32 (token ∷ tokens)) =
    joined_end 32 token tokens (piece_end token one)
    (each-to IsPiece IsEnd piece_end tokens each) in
    let none : (q : ℕ → Bool) → q 32 ≡ false → ((c : ℕ) → is_piece_byte c ≡ true → q c ≡ false)
    → list_any q (joined 32 (token ∷ tokens)) ≡ false =
    λ q off other. joined_none q 32 (token ∷ tokens) off
    (each-to IsPiece (λ t. list_any q t ≡ false) (piece_none q other) (token ∷ tokens)
    (one, each)) in
    record {
      some = end.some;
      front = joined_front 32 token tokens one;
      back = end.back;
      feed = none (λ c. c == 10) refl (off_mark 10 refl);
      ret = none (λ c. c == 13) refl (off_mark 13 refl);
      sign = none (λ c. c == 35) refl (off_mark 35 refl);
    }

-- a line as it is printed that is no header and not empty
pub record IsEntry (text : List ℕ) : Type 0 where
  pub no_header : is_header text ≡ false
  pub long : (length text == 0) ≡ false
  pub line : IsLine text

pub piece_long : (text : List ℕ) → IsPiece text → (length text == 0) ≡ false
piece_long text is = let some : 0 < length text =
    is.some in ne_eqb (length text) 0 (λ e. absurd (omega arith))

pub piece_entry : (text : List ℕ) → IsPiece text → IsEntry text
piece_entry text is = record {
  no_header =
      and_left _ _
      (and_left (list_any is_colon text) (is_name (head_of text))
      (piece_none is_colon (off_mark 58 refl) text is));
  long = piece_long text is;
  line = record {
    feed = piece_none (λ c. c == 10) (off_mark 10 refl) text is;
    ret = piece_none (λ c. c == 13) (off_mark 13 refl) text is;
    sign = piece_none (λ c. c == 35) (off_mark 35 refl) text is;
    front = prefix_none is_blank text (piece_none is_blank no_blank text is);
    back = (piece_end text is).back;
  };
}

-- a name, a colon and a text
pub record IsNamed (name text : List ℕ) : Type 0 where
  pub head : head_of (named name text) ≡ name
  pub tail : tail_of (named name text) ≡ text
  pub colon : list_any is_colon (named name text) ≡ true
  pub entry : IsEntry (named name text)

pub named_apart : (name text : List ℕ) → IsWord name → IsTail text → IsNamed name text
named_apart name text word rest =
    let piece : IsPiece name = word_piece name word in
    let bare : list_any is_blank name ≡ false = piece_none is_blank no_blank name piece in
    let no_colon : list_any is_colon name ≡ false =
    piece_none is_colon (off_mark 58 refl) name piece in
    let tail : tail_of (named name text) ≡ text =
    ap trim (after_mark is_colon name 58 (32 ∷ text) no_colon refl)
    ∙ trim_space text rest.front rest.back in
    let size : length (named name text) ≡ length name + suc (suc (length text)) =
    length-append name (58 ∷ 32 ∷ text) in
    let none : (q : ℕ → Bool) → q 58 ≡ false → q 32 ≡ false → list_any q name ≡ false
    → list_any q text ≡ false → list_any q (named name text) ≡ false =
    λ q one two front back. none-append q name (58 ∷ 32 ∷ text) front
    (or_from (q 58) _ one (or_from (q 32) (list_any q text) two back)) in
    let end : IsEnd (named name text) =
    end_behind name (58 ∷ 32 ∷ text)
    (end_behind (58 ∷ 32 ∷ []) text (record { some = rest.some; back = rest.back })) in
    record {
      head = ap trim (before_mark is_colon name 58 (32 ∷ text) no_colon refl) ∙ trim_none name bare;
      tail = tail;
      colon = any_mark is_colon name 58 (32 ∷ text) refl;
      entry = record {
        no_header =
            and_right _ _ (ap (λ (t : List ℕ). length t == 0) tail
            ∙ ne_eqb (length text) 0 (λ e. absurd (omega (arith, e, rest.some))));
        long = ne_eqb (length (named name text)) 0 (λ e. absurd (omega (arith, e, size)));
        line = record {
          feed =
              none (λ c. c == 10) refl refl
              (piece_none (λ c. c == 10) (off_mark 10 refl) name piece) rest.feed;
          ret =
              none (λ c. c == 13) refl refl
              (piece_none (λ c. c == 13) (off_mark 13 refl) name piece) rest.ret;
          sign =
              none (λ c. c == 35) refl refl
              (piece_none (λ c. c == 35) (off_mark 35 refl) name piece) rest.sign;
          front = named_front name text piece;
          back = end.back;
        };
      };
    } where
      named_front : (name text : List ℕ) → IsPiece name → prefix_len is_blank (named name text) ≡ 0
      named_front [] text is = absurd (omega (arith, is.some))
      named_front (c ∷ cs) text is =
          no_prefix is_blank c (cs ++ 58 ∷ 32 ∷ text)
          ((or_parts (is_blank c) (list_any is_blank cs)
          (piece_none is_blank no_blank (c ∷ cs) is)).0)

-- the items of a line
pub items_apart : (name item : List ℕ) (items : List (List ℕ)) → IsWord name → IsPiece item
    → Each IsPiece items → items_of (item_line name (item ∷ items)) ≡ item ∷ items
items_apart name item items word one each =
    let text : List ℕ = joined 44 (spaced (item ∷ items)) in
    let is : IsNamed name text = named_apart name text word (items_tail item items one each) in
    cond-true (list_any is_colon (named name text))
    (map trim (slice_split (λ c. c == 44) (tail_of (named name text)))) [] is.colon
    ∙ ap (λ t. map trim (slice_split (λ c. c == 44) t)) is.tail
    ∙ ap (map trim)
    (split_joined (λ c. c == 44) 44 item (map behind_space items) refl
    (piece_none (λ c. c == 44) (off_mark 44 refl) item one)
    (spaced_none (λ c. c == 44) refl (off_mark 44 refl) items each))
    ∙ ap (λ t. t ∷ map trim (map behind_space items))
    (trim_none item (piece_none is_blank no_blank item one))
    ∙ ap (λ ts. item ∷ ts) (trim_pieces items each)

-- the tokens of a text
keep_pieces : (tokens : List (List ℕ)) → Each IsPiece tokens
    → filter (λ token. not (length token == 0)) tokens ≡ tokens
keep_pieces [] each = refl
keep_pieces (token ∷ tokens) each =
    let some : 0 < length token = each.0.some in
    cond-true (not (length token == 0)) (token ∷ filter (λ token. not (length token == 0)) tokens)
    (filter (λ token. not (length token == 0)) tokens)
    (ap not (ne_eqb (length token) 0 (λ e. absurd (omega arith))))
    ∙ ap (λ ts. token ∷ ts) (keep_pieces tokens each.1)

pub tokens_apart : (token : List ℕ) (tokens : List (List ℕ)) → IsPiece token → Each IsPiece tokens
    → tokens_of (token_text (token ∷ tokens)) ≡ token ∷ tokens
tokens_apart token tokens one each =
    ap (filter (λ token. not (length token == 0)))
    (split_joined is_blank 32 token tokens refl (piece_none is_blank no_blank token one)
    (each-to IsPiece (λ t. list_any is_blank t ≡ false) (piece_none is_blank no_blank) tokens
    each))
    ∙ keep_pieces (token ∷ tokens) (one, each)
