-- What a loop has gathered of the elements that pass, with one more of them.
use Rattle.std.proofs.Common.{◌≡◌, ◌<◌, ◌+◌, ◌&&◌, Bool, true, false, not, cond, refl, ℕ, List, []}
use Rattle.std.proofs.Common.{◌∷◌, ◌++◌, length, get_or, take, drop, map, filter, find, option_map}
use Rattle.std.proofs.Common.{Option, Some, sym, ap, ◌∙◌, append_assoc, append-nil}
use Rattle.std.specs.Borrow.{Bor}
use Rattle.std.proofs.lemmas.List.{map-append, at_drop_more}
use Rattle.std.proofs.lemmas.List.Elements.{filter_more}
use Rattle.std.specs.Str.{bytes_eq}
use Rattle.text_lines.specs.problem_rules.Names.{is_among}
use Rattle.text_lines.specs.text_rules.declared.Section.TheVariants.{Defaults, Rates}
use Rattle.text_lines.specs.text_rules.Line.{Placed, head_of, is_at, lines_at}
use Rattle.text_lines.specs.text_rules.Value.{bare_lines, default_fields, value_at}
use Rattle.text_lines.specs.text_rules.Field.{key_of, value_of}
use Rattle.text_lines.specs.text_rules.Term.{Pair}
use Rattle.text_lines.specs.text_rules.Fault.{names_of}
use Rattle.text_lines.specs.View.{texts}
use Rattle.text_lines.specs.Terms.{term_view, terms_view}
use Rattle.text_lines.specs.declared.term.Term.{Term}
use Rattle.text_lines.proofs.Cited.{maps_more}

next : {X Y : Type 0} (f : X → Y) (p : X → Bool) (xs : List X) (i : ℕ) (x : X) (b : Bool)
    → i < length xs → x ≡ get_or xs i x → b ≡ p x
    → map f (filter p (take (i + 1) xs)) ≡ map f (filter p (take i xs))
    ++ map f (cond b (x ∷ []) [])
next {X} f p xs i x b lt is e =
    let passed : List X = filter p (take i xs) in
    ap (map f) (filter_more p xs i x lt)
    ∙ (λ k. map f (passed ++ cond (p (sym is k)) (sym is k ∷ []) []))
    ∙ ap (λ (b : Bool). map f (passed ++ cond b (x ∷ []) [])) (sym e)
    ∙ map-append f passed (cond b (x ∷ []) [])

-- after one that passes, with what was there before
pub one_more : {X Y : Type 0} (f : X → Y) (p : X → Bool) (xs : List X) (i : ℕ) (x : X)
    (before ys after : List Y) (y : Y) → i < length xs → x ≡ get_or xs i x → true ≡ p x
    → after ≡ ys ++ y ∷ [] → y ≡ f x
    → ys ≡ before ++ map f (filter p (take i xs))
    → after ≡ before ++ map f (filter p (take (i + 1) xs))
one_more {X} {Y} f p xs i x before ys after y lt is e pushed made kept =
    pushed
    ∙ (λ k. kept k ++ made k ∷ [])
    ∙ append_assoc before (map f (filter p (take i xs))) (f x ∷ [])
    ∙ ap (λ (ys : List Y). before ++ ys) (sym (next f p xs i x true lt is e))

-- after one that does not pass
pub none_more : {X Y : Type 0} (f : X → Y) (p : X → Bool) (xs : List X) (i : ℕ) (x : X)
    (before ys : List Y) → i < length xs → x ≡ get_or xs i x → false ≡ p x
    → ys ≡ before ++ map f (filter p (take i xs))
    → ys ≡ before ++ map f (filter p (take (i + 1) xs))
none_more {X} {Y} f p xs i x before ys lt is e kept =
    kept
    ∙ ap (λ (ys : List Y). before ++ ys)
    (sym (next f p xs i x false lt is e ∙ append-nil (map f (filter p (take i xs)))))

-- a text pushed
pub text_pushed : (before after : List (Bor (List ℕ))) (text : Bor (List ℕ))
    → after ≡ before ++ text ∷ [] → texts after ≡ texts before ++ text.now ∷ []
text_pushed before after text e = ap texts e
    ∙ map-append (λ (text : Bor (List ℕ)). text.now) before (text ∷ [])

-- after the name of a term
pub name_more : (terms : List Term) (i : ℕ) (d : Term) (before after : List (Bor (List ℕ)))
    → i < length terms → after ≡ before ++ (get_or terms i d).name ∷ []
    → texts before ≡ names_of (terms_view (take i terms))
    → texts after ≡ names_of (terms_view (take (i + 1) terms))
name_more terms i d before after lt pushed kept =
    text_pushed before after (get_or terms i d).name pushed
    ∙ ap (λ (names : List (List ℕ)). names ++ (get_or terms i d).name.now ∷ []) kept
    ∙ sym (maps_more (λ (term : Pair). term.1) term_view terms i d lt)

both_step : {X : Type 0} (b : Bool) (q : X → Bool) (x : X) (xs ys : List X) → filter q xs ≡ ys
    → filter q (cond b (x ∷ xs) xs) ≡ cond (b && q x) (x ∷ ys) ys
both_step {X} true q x xs ys e = ap (λ (ys : List X). cond (q x) (x ∷ ys) ys) e
both_step false q x xs ys e = e

both_pass : {X : Type 0} (p q : X → Bool) (xs : List X)
    → filter q (filter p xs) ≡ filter (λ x. p x && q x) xs
both_pass p q [] = refl
both_pass p q (x ∷ xs) =
    both_step (p x) q x (filter p xs) (filter (λ x. p x && q x) xs) (both_pass p q xs)

abbrev pub is_bare : List (List ℕ) → Placed → Bool
is_bare units line = is_at Rates line && not (is_among units (head_of line.text))

are_bare : (units : List (List ℕ)) (lines : List Placed)
    → bare_lines units lines ≡ filter (is_bare units) lines
are_bare units lines =
    both_pass (is_at Rates) (λ (line : Placed). not (is_among units (head_of line.text))) lines

-- after a line of rates of a unit without a line of its own, and after any other
pub bare_more : {Y : Type 0} (f : Placed → Y) (units : List (List ℕ)) (lines : List Placed) (i : ℕ)
    (line : Placed) (before ys after : List Y) (y : Y) → i < length lines
    → line ≡ get_or lines i line → true ≡ is_bare units line
    → after ≡ ys ++ y ∷ [] → y ≡ f line → ys ≡ before ++ map f (bare_lines units (take i lines))
    → after ≡ before ++ map f (bare_lines units (take (i + 1) lines))
bare_more f units lines i line before ys after y lt is e pushed made kept =
    one_more f (is_bare units) lines i line before ys after y lt is e pushed made
    (kept ∙ (λ k. before ++ map f (are_bare units (take i lines) k)))
    ∙ (λ k. before ++ map f (sym (are_bare units (take (i + 1) lines)) k))

pub not_bare : {Y : Type 0} (f : Placed → Y) (units : List (List ℕ)) (lines : List Placed) (i : ℕ)
    (line : Placed) (before ys : List Y) → i < length lines → line ≡ get_or lines i line
    → false ≡ is_bare units line
    → ys ≡ before ++ map f (bare_lines units (take i lines))
    → ys ≡ before ++ map f (bare_lines units (take (i + 1) lines))
not_bare f units lines i line before ys lt is e kept =
    none_more f (is_bare units) lines i line before ys lt is e
    (kept ∙ (λ k. before ++ map f (are_bare units (take i lines) k)))
    ∙ (λ k. before ++ map f (sym (are_bare units (take (i + 1) lines)) k))

-- a default as a key and a value; a line of another key is skipped
abbrev default_of : Placed → List ℕ × List ℕ
default_of line = (key_of line.text, value_of line.text)

skip : (b : Bool) (key : List ℕ) (line : Placed) (rest : List Placed)
    → (b && bytes_eq (key_of line.text) key) ≡ false
    → value_at key (map default_of (cond b (line ∷ rest) rest)) ≡ value_at key (map default_of rest)
skip false key line rest e = refl
skip true key line rest e =
    ap (λ (b : Bool). option_map (λ field. field.1)
    (cond b (Some (default_of line)) (find (λ field. bytes_eq field.0 key) (map default_of rest))))
    e

pub not_default : (key : List ℕ) (lines : List Placed) (i : ℕ) (line : Placed) → i < length lines
    → line ≡ get_or lines i line → (is_at Defaults line && bytes_eq (key_of line.text) key) ≡ false
    → value_at key (default_fields (drop (i + 1) lines))
    ≡ value_at key (default_fields (drop i lines))
not_default key lines i line lt is e =
    let seek : List Placed → Option (List ℕ) = λ lines. value_at key (default_fields lines) in
    sym (at_drop_more seek lines i line lt ∙ (λ k. seek (sym is k ∷ drop (i + 1) lines))
    ∙ skip (is_at Defaults line) key line (lines_at Defaults (drop (i + 1) lines)) e)
