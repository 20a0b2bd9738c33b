-- Each edit without a fault of form is printed as a line that reads as it.
use Rattle.std.proofs.Common.{◌≡◌, ◌<◌, ◌≤◌, ◌+◌, true, false, not, ℕ, Option, Some, None, List, []}
use Rattle.std.proofs.Common.{◌∷◌, length, map, codes, decimal, Result, Ok, ℤ, pos, negsuc, int_lt}
use Rattle.std.proofs.Common.{unsigned_abs, refl, sym, ◌∙◌, ap, arith, length-append, ltb-true}
use Rattle.std.specs.List.{list_any}
use Rattle.std.proofs.lemmas.Bool.{true≢false}
use Rattle.edit_rules.specs.problem_rules.Each.{Each}
use Rattle.edit_rules.specs.problem_rules.Problem.{Kind, raw_material, intermediate, product}
use Rattle.edit_rules.specs.problem_rules.WellFormed.{IsInRange}
use Rattle.edit_rules.specs.text_rules.Canonical.{joined, kind_word}
use Rattle.edit_rules.specs.text_rules.Fault.{millionths}
use Rattle.edit_rules.specs.text_rules.Printed.{amount_bytes}
use Rattle.edit_rules.specs.text_rules.Value.{kind_of}
use Rattle.text_laws.proofs.Cited.{each-append, each-to, split_joined, name_word, amount_word}
use Rattle.edit_rules.specs.Edit.{NamedTerm, Edit, price, bounds, kind, capacity, fix, proportional}
use Rattle.edit_rules.specs.Edit.{rename_material, rename_unit, add_material, remove_material}
use Rattle.edit_rules.specs.Edit.{add_unit, remove_unit, exclude, unexclude, investment, payout}
use Rattle.edit_rules.specs.Formed.{IsName, IsPlace, IsFormed, script_of, lines_from}
use Rattle.edit_rules.specs.declared.EditKind.{EditKind}
use Rattle.edit_rules.specs.declared.EditKind.TheVariants as kinds
use Rattle.edit_rules.specs.declared.Word.{Word}
use Rattle.edit_rules.specs.declared.Word.TheVariants as words
use Rattle.edit_rules.specs.ScriptFault.{place_of, years_of, place_fault, name_fault, kind_fault}
use Rattle.edit_rules.specs.ScriptFault.{amount_fault, bound_fault, years_fault, names_fault}
use Rattle.edit_rules.specs.ScriptFault.{members_fault}
use Rattle.edit_rules.specs.Line.{file_type, is_space, tokens_of, word_text, word_named}
use Rattle.edit_rules.specs.Printed.{word_of, fields_of, edit_tokens, edit_line, side_tokens}
use Rattle.edit_rules.specs.Printed.{script_text}
use Rattle.edit_rules.specs.Read.{told, judged, edit_by, fields_read, worded_read, tokens_read}
use Rattle.edit_rules.specs.Read.{line_read, with_line, lines_read, text_read, read_script}
use Rattle.edit_rules.specs.Read.{with_sides}
use Rattle.edit_rules.specs.Term.{Pair, terms_fault, sides_fault, term_read}
use Rattle.edit_laws.proofs.ScriptLines.{IsLine, lines_back}
use Rattle.edit_laws.proofs.SidesRead.{pair_at, sides_back, terms_back, terms_clear, sides_clear}
use Rattle.edit_laws.proofs.SidesRead.{side_each}
use Rattle.edit_laws.proofs.Tokens.{IsToken, word_token, decimal_word, token_none, tokens_none}
use Rattle.edit_laws.proofs.TokensRead.{unless_true, least_none, name_none, names_none, kind_none}
use Rattle.edit_laws.proofs.TokensRead.{kind_back, millionths_back, amount_none, bound_none}
use Rattle.edit_laws.proofs.TokensRead.{bound_back, place_back, place_none, years_back, years_none}

-- what is read of tokens without a fault
clear : {A : Type 0} (faults : List (Option EditKind)) (value : A) → Each (λ k. k ≡ None) faults
    → judged faults value ≡ Ok value
clear faults value each = ap (λ (k : Option EditKind). told k value) (least_none faults each)

word_back : (word : Word) → word_named (word_text word) ≡ Some word
word_back words.Price = refl
word_back words.Bounds = refl
word_back words.Kind = refl
word_back words.Capacity = refl
word_back words.Fix = refl
word_back words.Proportional = refl
word_back words.RenameMaterial = refl
word_back words.RenameUnit = refl
word_back words.AddMaterial = refl
word_back words.RemoveMaterial = refl
word_back words.AddUnit = refl
word_back words.RemoveUnit = refl
word_back words.Exclude = refl
word_back words.Unexclude = refl
word_back words.Investment = refl
word_back words.Payout = refl

word_is : (word : Word) → IsToken (word_text word)
word_is words.Price = refl
word_is words.Bounds = refl
word_is words.Kind = refl
word_is words.Capacity = refl
word_is words.Fix = refl
word_is words.Proportional = refl
word_is words.RenameMaterial = refl
word_is words.RenameUnit = refl
word_is words.AddMaterial = refl
word_is words.RemoveMaterial = refl
word_is words.AddUnit = refl
word_is words.RemoveUnit = refl
word_is words.Exclude = refl
word_is words.Unexclude = refl
word_is words.Investment = refl
word_is words.Payout = refl

kind_is : (kind : Kind) → IsToken (kind_word kind)
kind_is raw_material = refl
kind_is intermediate = refl
kind_is product = refl

amount_is : (z : ℤ) → IsInRange z → IsToken (amount_bytes z)
amount_is z small = word_token (amount_bytes z) (amount_word z small)

name_is : (name : List ℕ) → IsName name → IsToken name
name_is name is = word_token name (name_word name is)

place_is : (n : ℕ) → IsPlace n → IsToken (decimal n)
place_is n is = word_token (decimal n) (decimal_word n (omega (arith, is)))

-- a number of years is printed without its sign
years_same : (years : ℤ) → int_lt (pos 0) years ≡ true → pos (unsigned_abs years) ≡ years
years_same (pos n) above = refl
years_same (negsuc n) above = absurd (true≢false (sym above))

years_some : (years : ℤ) → int_lt (pos 0) years ≡ true → 1 ≤ unsigned_abs years
years_some (pos n) above = ltb-true 0 n above
years_some (negsuc n) above = absurd (true≢false (sym above))

fields_each : (edit : Edit) → IsFormed edit → Each IsToken (fields_of edit)
fields_each (price m v) is = (name_is m is.0, (amount_is v is.1, tt))
fields_each (bounds m low high) is = (
  name_is m is.0,
  (amount_is low is.1.lower_bound.in_range, (amount_is high is.1.upper_bound.in_range, tt)),
)
fields_each (kind m k) is = (name_is m is, (kind_is k, tt))
fields_each (capacity u low high) is = (
  name_is u is.0,
  (amount_is low is.1.lower_bound.in_range, (amount_is high is.1.upper_bound.in_range, tt)),
)
fields_each (fix u v) is = (name_is u is.0, (amount_is v is.1.in_range, tt))
fields_each (proportional u v) is = (name_is u is.0, (amount_is v is.1, tt))
fields_each (rename_material a b) is = (name_is a is.0, (name_is b is.1, tt))
fields_each (rename_unit a b) is = (name_is a is.0, (name_is b is.1, tt))
fields_each (add_material at m k v low high) is = (
  place_is at is.place,
  (
    name_is m is.named,
    (
      kind_is k,
      (
        amount_is v is.price_in_range,
        (
          amount_is low is.bounds.lower_bound.in_range,
          (amount_is high is.bounds.upper_bound.in_range, tt),
        ),
      ),
    ),
  ),
)
fields_each (remove_material m) is = (name_is m is, tt)
fields_each (add_unit at u low high f c ins outs) is = (
  place_is at is.place,
  (
    name_is u is.named,
    (
      amount_is low is.bounds.lower_bound.in_range,
      (
        amount_is high is.bounds.upper_bound.in_range,
        (
          amount_is f is.fix_bound.in_range,
          (
            amount_is c is.proportional_in_range,
            (
              refl,
              each-append IsToken (side_tokens ins) (codes "=>" ∷ side_tokens outs)
                  (side_each ins is.sides.inputs_formed.terms_formed)
                  (refl, side_each outs is.sides.outputs_formed.terms_formed),
            ),
          ),
        ),
      ),
    ),
  ),
)
fields_each (remove_unit u) is = (name_is u is, tt)
fields_each (exclude at n us) is =
    (place_is at is.place, (name_is n is.named, each-to IsName IsToken name_is us is.members_named))
fields_each (unexclude n) is = (name_is n is, tt)
fields_each (investment u f c) is =
    (name_is u is.0, (amount_is f is.1.in_range, (amount_is c is.2, tt)))
fields_each (payout years) is = (
  word_token (decimal (unsigned_abs years))
      (decimal_word (unsigned_abs years) (let le = is.limit in omega (arith, le))),
  tt,
)

-- the fields of each edit
fields_back : (edit : Edit) → IsFormed edit → fields_read (word_of edit) (fields_of edit) ≡ Ok edit
fields_back (price m v) is =
    ap (edit_by (λ read. price read.0 read.1))
    (clear {A = List ℕ × ℤ} (name_fault m ∷ amount_fault (amount_bytes v) ∷ [])
    (m, millionths (amount_bytes v)) (name_none m is.0, (amount_none v is.1, tt)))
    ∙ ap (λ (z : ℤ). Ok (price m z)) (millionths_back v is.1)
fields_back (bounds m low high) is =
    ap (edit_by (λ read. bounds read.0 read.1.0 read.1.1))
    (clear {A = List ℕ × (ℤ × ℤ)}
    (name_fault m ∷ bound_fault (amount_bytes low) ∷ bound_fault (amount_bytes high) ∷ [])
    (m, (millionths (amount_bytes low), millionths (amount_bytes high))) (
      name_none m is.0,
      (bound_none low is.1.lower_bound, (bound_none high is.1.upper_bound, tt)),
    ))
    ∙ ap (λ (z : ℤ). Ok (bounds m z (millionths (amount_bytes high))))
    (bound_back low is.1.lower_bound)
    ∙ ap (λ (z : ℤ). Ok (bounds m low z)) (bound_back high is.1.upper_bound)
fields_back (kind m k) is =
    ap (edit_by (λ read. kind read.0 read.1))
    (clear {A = List ℕ × Kind} (name_fault m ∷ kind_fault (kind_word k) ∷ [])
    (m, kind_of (kind_word k)) (name_none m is, (kind_none k, tt)))
    ∙ ap (λ (j : Kind). Ok (kind m j)) (kind_back k)
fields_back (capacity m low high) is =
    ap (edit_by (λ read. capacity read.0 read.1.0 read.1.1))
    (clear {A = List ℕ × (ℤ × ℤ)}
    (name_fault m ∷ bound_fault (amount_bytes low) ∷ bound_fault (amount_bytes high) ∷ [])
    (m, (millionths (amount_bytes low), millionths (amount_bytes high))) (
      name_none m is.0,
      (bound_none low is.1.lower_bound, (bound_none high is.1.upper_bound, tt)),
    ))
    ∙ ap (λ (z : ℤ). Ok (capacity m z (millionths (amount_bytes high))))
    (bound_back low is.1.lower_bound)
    ∙ ap (λ (z : ℤ). Ok (capacity m low z)) (bound_back high is.1.upper_bound)
fields_back (fix u v) is =
    ap (edit_by (λ read. fix read.0 read.1))
    (clear {A = List ℕ × ℤ} (name_fault u ∷ bound_fault (amount_bytes v) ∷ [])
    (u, millionths (amount_bytes v)) (name_none u is.0, (bound_none v is.1, tt)))
    ∙ ap (λ (z : ℤ). Ok (fix u z)) (bound_back v is.1)
fields_back (proportional m v) is =
    ap (edit_by (λ read. proportional read.0 read.1))
    (clear {A = List ℕ × ℤ} (name_fault m ∷ amount_fault (amount_bytes v) ∷ [])
    (m, millionths (amount_bytes v)) (name_none m is.0, (amount_none v is.1, tt)))
    ∙ ap (λ (z : ℤ). Ok (proportional m z)) (millionths_back v is.1)
fields_back (rename_material a b) is =
    ap (edit_by (λ read. rename_material read.0 read.1))
    (clear {A = List ℕ × List ℕ} (name_fault a ∷ name_fault b ∷ []) (a, b)
    (name_none a is.0, (name_none b is.1, tt)))
fields_back (rename_unit a b) is =
    ap (edit_by (λ read. rename_unit read.0 read.1))
    (clear {A = List ℕ × List ℕ} (name_fault a ∷ name_fault b ∷ []) (a, b)
    (name_none a is.0, (name_none b is.1, tt)))
fields_back (add_material at m k v low high) is =
    clear (place_fault (decimal at) ∷ name_fault m ∷ kind_fault (kind_word k)
    ∷ amount_fault (amount_bytes v) ∷ bound_fault (amount_bytes low)
    ∷ bound_fault (amount_bytes high) ∷ [])
    (add_material (place_of (decimal at)) m (kind_of (kind_word k)) (millionths (amount_bytes v))
    (millionths (amount_bytes low)) (millionths (amount_bytes high))) (
      place_none at is.place,
      (
        name_none m is.named,
        (
          kind_none k,
          (
            amount_none v is.price_in_range,
            (bound_none low is.bounds.lower_bound, (bound_none high is.bounds.upper_bound, tt)),
          ),
        ),
      ),
    )
    ∙ ap
    (λ (n : ℕ). Ok
    (add_material n m (kind_of (kind_word k)) (millionths (amount_bytes v))
    (millionths (amount_bytes low)) (millionths (amount_bytes high)))) (place_back at is.place)
    ∙ ap
    (λ (j : Kind). Ok
    (add_material at m j (millionths (amount_bytes v)) (millionths (amount_bytes low))
    (millionths (amount_bytes high)))) (kind_back k)
    ∙ ap
    (λ (z : ℤ). Ok
    (add_material at m k z (millionths (amount_bytes low)) (millionths (amount_bytes high))))
    (millionths_back v is.price_in_range)
    ∙ ap (λ (z : ℤ). Ok (add_material at m k v z (millionths (amount_bytes high))))
    (bound_back low is.bounds.lower_bound)
    ∙ ap (λ (z : ℤ). Ok (add_material at m k v low z)) (bound_back high is.bounds.upper_bound)
fields_back (remove_material n) is =
    ap (edit_by remove_material) (clear (name_fault n ∷ []) n (name_none n is, tt))
fields_back (add_unit at u low high f c ins outs) is =
    let left : List Pair = map pair_at ins in
    let right : List Pair = map pair_at outs in
    let l : ℤ = millionths (amount_bytes low) in
    let h : ℤ = millionths (amount_bytes high) in
    let x : ℤ = millionths (amount_bytes f) in
    let y : ℤ = millionths (amount_bytes c) in
    let i : List NamedTerm = map term_read left in
    let o : List NamedTerm = map term_read right in
    ap (with_sides (decimal at) u (amount_bytes low) (amount_bytes high) (amount_bytes f)
    (amount_bytes c)) (sides_back ins outs is.sides)
    ∙ clear (place_fault (decimal at) ∷ name_fault u ∷ bound_fault (amount_bytes low)
    ∷ bound_fault (amount_bytes high) ∷ bound_fault (amount_bytes f)
    ∷ amount_fault (amount_bytes c) ∷ terms_fault left ∷ terms_fault right
    ∷ sides_fault left right ∷ [])
    (add_unit (place_of (decimal at)) u l h x y i o) (
      place_none at is.place,
      (
        name_none u is.named,
        (
          bound_none low is.bounds.lower_bound,
          (
            bound_none high is.bounds.upper_bound,
            (
              bound_none f is.fix_bound,
              (
                amount_none c is.proportional_in_range,
                (
                  terms_clear ins is.sides.inputs_formed.terms_formed,
                  (
                    terms_clear outs is.sides.outputs_formed.terms_formed,
                    (sides_clear ins outs is.sides, tt),
                  ),
                ),
              ),
            ),
          ),
        ),
      ),
    )
    ∙ ap (λ (n : ℕ). Ok (add_unit n u l h x y i o)) (place_back at is.place)
    ∙ ap (λ (z : ℤ). Ok (add_unit at u z h x y i o)) (bound_back low is.bounds.lower_bound)
    ∙ ap (λ (z : ℤ). Ok (add_unit at u low z x y i o)) (bound_back high is.bounds.upper_bound)
    ∙ ap (λ (z : ℤ). Ok (add_unit at u low high z y i o)) (bound_back f is.fix_bound)
    ∙ ap (λ (z : ℤ). Ok (add_unit at u low high f z i o))
    (millionths_back c is.proportional_in_range)
    ∙ ap (λ (ts : List NamedTerm). Ok (add_unit at u low high f c ts o))
    (terms_back ins is.sides.inputs_formed.terms_formed)
    ∙ ap (λ (ts : List NamedTerm). Ok (add_unit at u low high f c ins ts))
    (terms_back outs is.sides.outputs_formed.terms_formed)
fields_back (remove_unit n) is =
    ap (edit_by remove_unit) (clear (name_fault n ∷ []) n (name_none n is, tt))
fields_back (exclude at n []) is = absurd (let two = is.enough in omega (arith, two))
fields_back (exclude at n (a ∷ [])) is = absurd (let two = is.enough in omega (arith, two))
fields_back (exclude at n (a ∷ b ∷ us)) is =
    clear (place_fault (decimal at) ∷ name_fault n ∷ names_fault (a ∷ b ∷ us)
    ∷ members_fault (a ∷ b ∷ us) ∷ []) (exclude (place_of (decimal at)) n (a ∷ b ∷ us)) (
      place_none at is.place,
      (
        name_none n is.named,
        (
          names_none (a ∷ b ∷ us) is.members_named,
          (unless_true _ kinds.BadMembers (ap not is.once), tt),
        ),
      ),
    )
    ∙ ap (λ (k : ℕ). Ok (exclude k n (a ∷ b ∷ us))) (place_back at is.place)
fields_back (unexclude n) is =
    ap (edit_by unexclude) (clear (name_fault n ∷ []) n (name_none n is, tt))
fields_back (investment u f c) is =
    ap (edit_by (λ read. investment read.0 read.1.0 read.1.1))
    (clear {A = List ℕ × (ℤ × ℤ)}
    (name_fault u ∷ bound_fault (amount_bytes f) ∷ amount_fault (amount_bytes c) ∷ [])
    (u, (millionths (amount_bytes f), millionths (amount_bytes c)))
    (name_none u is.0, (bound_none f is.1, (amount_none c is.2, tt))))
    ∙ ap (λ (z : ℤ). Ok (investment u z (millionths (amount_bytes c)))) (bound_back f is.1)
    ∙ ap (λ (z : ℤ). Ok (investment u f z)) (millionths_back c is.2)
fields_back (payout years) is =
    let n : ℕ = unsigned_abs years in
    ap (edit_by (λ read. payout (pos read)))
    (clear (years_fault (decimal n) ∷ []) (years_of (decimal n))
    (years_none n (years_some years is.positive) is.limit, tt))
    ∙ ap (λ (k : ℕ). Ok (payout (pos k))) (years_back n is.limit)
    ∙ ap (λ (z : ℤ). Ok (payout z)) (years_same years is.positive)

-- its tokens, and its line
tokens_back : (edit : Edit) → IsFormed edit → tokens_of (edit_line edit) ≡ edit_tokens edit
tokens_back edit is =
    let none : (token : List ℕ) → IsToken token → list_any is_space token ≡ false =
    token_none 32 refl in
    split_joined is_space 32 (word_text (word_of edit)) (fields_of edit) refl
    (none (word_text (word_of edit)) (word_is (word_of edit)))
    (each-to IsToken (λ token. list_any is_space token ≡ false) none (fields_of edit)
    (fields_each edit is))

line_back : (edit : Edit) → IsFormed edit → line_read (edit_line edit) ≡ Ok edit
line_back edit is =
    ap tokens_read (tokens_back edit is)
    ∙ ap (λ (word : Option Word). worded_read word (fields_of edit)) (word_back (word_of edit))
    ∙ fields_back edit is

line_is : (edit : Edit) → IsFormed edit → IsLine (edit_line edit)
line_is edit is = record {
  feed = tokens_none 10 refl refl (edit_tokens edit) (word_is (word_of edit), fields_each edit is);
  ret = tokens_none 13 refl refl (edit_tokens edit) (word_is (word_of edit), fields_each edit is);
  sign = tokens_none 35 refl refl (edit_tokens edit) (word_is (word_of edit), fields_each edit is);
}

lines_are : (edits : List Edit) → Each IsFormed edits → Each IsLine (map edit_line edits)
lines_are [] each = tt
lines_are (edit ∷ edits) each = (line_is edit each.0, lines_are edits each.1)

word_some : (word : Word) → 0 < length (word_text word)
word_some words.Price = omega arith
word_some words.Bounds = omega arith
word_some words.Kind = omega arith
word_some words.Capacity = omega arith
word_some words.Fix = omega arith
word_some words.Proportional = omega arith
word_some words.RenameMaterial = omega arith
word_some words.RenameUnit = omega arith
word_some words.AddMaterial = omega arith
word_some words.RemoveMaterial = omega arith
word_some words.AddUnit = omega arith
word_some words.RemoveUnit = omega arith
word_some words.Exclude = omega arith
word_some words.Unexclude = omega arith
word_some words.Investment = omega arith
word_some words.Payout = omega arith

joined_long : (token : List ℕ) (tokens : List (List ℕ)) → 0 < length token
    → 0 < length (joined 32 (token ∷ tokens))
joined_long token [] some = some
joined_long token (next ∷ tokens) some =
    omega (arith, some, length-append token (32 ∷ joined 32 (next ∷ tokens)))

line_taken : (number : ℕ) (text : List ℕ) (texts : List (List ℕ)) → 0 < length text
    → lines_read number (text ∷ texts)
    ≡ with_line number (line_read text) (lines_read (number + 1) texts)
line_taken number [] texts some = absurd (omega arith)
line_taken number (c ∷ cs) texts some = refl

edits_back : (number : ℕ) (edits : List Edit) → Each IsFormed edits
    → lines_read number (map edit_line edits)
    ≡ Ok (record { edits = edits; lines = lines_from number edits })
edits_back number [] each = refl
edits_back number (edit ∷ edits) each =
    line_taken number (edit_line edit) (map edit_line edits)
    (joined_long (word_text (word_of edit)) (fields_of edit) (word_some (word_of edit)))
    ∙ ap
    (λ (r : Result Edit EditKind). with_line number r
    (lines_read (number + 1) (map edit_line edits))) (line_back edit each.0)
    ∙ ap (with_line number (Ok edit)) (edits_back (number + 1) edits each.1)

-- the whole text
pub scripts_back : (edits : List Edit) → Each IsFormed edits
    → read_script (script_text edits) ≡ Ok (script_of edits)
scripts_back edits each =
    ap text_read
    (lines_back (file_type ∷ map edit_line edits)
    (record { feed = refl; ret = refl; sign = refl }, lines_are edits each))
    ∙ edits_back 2 edits each
