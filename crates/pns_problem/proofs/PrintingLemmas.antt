-- Lines of the canonical text from the pieces that are appended one after another.
use Rattle.std.proofs.Common.{◌≡◌, ℕ, zero, suc, ◌+◌, ◌<◌, ◌≤◌, Bool, true, false, cond, List, []}
use Rattle.std.proofs.Common.{◌∷◌, ◌++◌, map, length, take, drop, get_or, ◌-◌, codes, refl, sym, ap}
use Rattle.std.proofs.Common.{◌∙◌, append_assoc, arith}
use Rattle.std.specs.Prelude.{unsigned_abs, ◌==◌, ℤ, decimal}
use Rattle.std.proofs.lemmas.List.{append-nil, take_all, drop_more}
use Rattle.text_rules.specs.problem_rules.Problem.{Term, OperatingUnit}
use Rattle.text_rules.specs.problem_rules.Validity.{is_empty}
use Rattle.text_rules.specs.Printed.{amount_bytes}
use Rattle.text_rules.specs.Canonical.{joined, spaced, named, item_line, field, term_tokens}
use Rattle.text_rules.specs.Canonical.{token_text, side_tokens, rates_tokens, name_at, payout_lines}
use Rattle.text_rules.specs.Canonical.{section_lines, exclusion_section}
use Rattle.pns_problem.proofs.Printed.{AreLinesPrinted}
use Rattle.pns_problem.specs.Printing.{printed, further, further_items, term_text, further_terms}

-- one piece after another
pub after : (old mid new x y : List ℕ) → mid ≡ old ++ x → new ≡ mid ++ y → new ≡ old ++ (x ++ y)
after old mid new x y e f = f ∙ (ap (λ l. l ++ y) e ∙ append_assoc old x y)

-- ---- items

pub three_further : (old t1 t2 t3 a b c : List ℕ) → t1 ≡ old ++ further a → t2 ≡ t1 ++ further b
    → t3 ≡ t2 ++ further c → t3 ≡ old ++ further_items (a ∷ b ∷ c ∷ [])
three_further old t1 t2 t3 a b c e f g =
    after old t1 t3 (further a) (further_items (b ∷ c ∷ [])) e
    (after t1 t2 t3 (further b) (further_items (c ∷ [])) f
    (g ∙ ap (λ l. t2 ++ l) (sym (append-nil (further c)))))

pub joined_spaced : (piece : List ℕ) (items : List (List ℕ))
    → joined 44 (piece ∷ map (λ next. 32 ∷ next) items) ≡ piece ++ further_items items
joined_spaced piece [] = sym (append-nil piece)
joined_spaced piece (item ∷ items) = ap (λ l. piece ++ 44 ∷ l) (joined_spaced (32 ∷ item) items)

-- a line of items is its name, the first item and the further ones
pub item_line_is : (name item : List ℕ) (items : List (List ℕ))
    → item_line name (item ∷ items) ≡ named name [] ++ (item ++ further_items items)
item_line_is name item items = ap (λ l. name ++ 58 ∷ 32 ∷ l) (joined_spaced item items)
    ∙ sym (append_assoc name (58 ∷ 32 ∷ []) (item ++ further_items items))

pub line_of_items : (old t1 t2 t3 name item : List ℕ) (items : List (List ℕ))
    → t1 ≡ old ++ named name [] → t2 ≡ t1 ++ item → t3 ≡ t2 ++ further_items items
    → t3 ≡ old ++ item_line name (item ∷ items)
line_of_items old t1 t2 t3 name item items e f g =
    after old t1 t3 (named name []) (item ++ further_items items) e
    (after t1 t2 t3 item (further_items items) f g)
    ∙ ap (λ l. old ++ l) (sym (item_line_is name item items))

pub further_items-append : (xs ys : List (List ℕ))
    → further_items (xs ++ ys) ≡ further_items xs ++ further_items ys
further_items-append [] ys = refl
further_items-append (x ∷ xs) ys = ap (λ l. further x ++ l) (further_items-append xs ys)
    ∙ sym (append_assoc (further x) (further_items xs) (further_items ys))

-- the same with further items in two parts
pub line_of_parts : (old t1 t2 t3 t4 name item : List ℕ) (xs ys zs : List (List ℕ))
    → t1 ≡ old ++ named name [] → t2 ≡ t1 ++ item → t3 ≡ t2 ++ further_items xs
    → t4 ≡ t3 ++ (further_items ys ++ further_items zs)
    → t4 ≡ old ++ item_line name (item ∷ xs ++ (ys ++ zs))
line_of_parts old t1 t2 t3 t4 name item xs ys zs e f g h =
    line_of_items old t1 t2 t4 name item (xs ++ (ys ++ zs)) e f
    (after t2 t3 t4 (further_items xs) (further_items ys ++ further_items zs) g h
    ∙ ap (λ l. t2 ++ l)
    (sym (further_items-append xs (ys ++ zs)
    ∙ ap (λ l. further_items xs ++ l) (further_items-append ys zs))))

-- ---- names

pub name_at-map : {X : Type 0} (name : X → List ℕ) (xs : List X) (k : ℕ) (x : X) → k < length xs
    → x ≡ get_or xs k x → name_at (map name xs) k ≡ name x
name_at-map name [] k x less is = absurd (omega arith)
name_at-map name (y ∷ ys) zero x less is = ap name (sym is)
name_at-map name (y ∷ ys) (suc k) x less is = name_at-map name ys k x (omega arith) is

-- ---- tokens

joined_append : (x y : List ℕ) (xs ys : List (List ℕ))
    → token_text ((x ∷ xs) ++ (y ∷ ys)) ≡ token_text (x ∷ xs) ++ 32 ∷ token_text (y ∷ ys)
joined_append x y [] ys = refl
joined_append x y (next ∷ xs) ys = ap (λ l. x ++ 32 ∷ l) (joined_append next y xs ys)
    ∙ sym (append_assoc x (32 ∷ token_text (next ∷ xs)) (32 ∷ token_text (y ∷ ys)))

pub token_text-append : (xs ys : List (List ℕ)) → 0 < length xs → 0 < length ys
    → token_text (xs ++ ys) ≡ token_text xs ++ 32 ∷ token_text ys
token_text-append [] ys h g = absurd (omega arith)
token_text-append (x ∷ xs) [] h g = absurd (omega arith)
token_text-append (x ∷ xs) (y ∷ ys) h g = joined_append x y xs ys

some_tokens : (names : List (List ℕ)) (t : Term) → 0 < length (term_tokens names t)
some_tokens names t = either (unsigned_abs t.rate == 1000000)
  where
    either : (b : Bool)
        → 0 < length
        (cond b (name_at names t.material ∷ [])
        (amount_bytes t.rate ∷ name_at names t.material ∷ []))
    either true = omega arith
    either false = omega arith

pub some_side : (names : List (List ℕ)) (t : Term) (ts : List Term)
    → 0 < length (side_tokens names (t ∷ ts))
some_side names t [] = some_tokens names t
some_side names t (u ∷ us) =
    longer (term_tokens names t) (codes "+" ∷ side_tokens names (u ∷ us)) (some_tokens names t)
  where
    longer : (xs ys : List (List ℕ)) → 0 < length xs → 0 < length (xs ++ ys)
    longer [] ys h = absurd (omega arith)
    longer (x ∷ xs) ys h = omega arith

pub term_text_is : (names : List (List ℕ)) (t : Term)
    → token_text (term_tokens names t) ≡ term_text names t
term_text_is names t = either (unsigned_abs t.rate == 1000000)
  where
    either : (b : Bool)
        → token_text
        (cond b (name_at names t.material ∷ [])
        (amount_bytes t.rate ∷ name_at names t.material ∷ []))
        ≡ cond b [] (amount_bytes t.rate ++ 32 ∷ []) ++ name_at names t.material
    either true = refl
    either false = sym (append_assoc (amount_bytes t.rate) (32 ∷ []) (name_at names t.material))

pub side_text : (names : List (List ℕ)) (t : Term) (ts : List Term)
    → token_text (side_tokens names (t ∷ ts)) ≡ term_text names t ++ further_terms names ts
side_text names t [] = term_text_is names t ∙ sym (append-nil (term_text names t))
side_text names t (u ∷ us) =
    let side = side_tokens names (u ∷ us) in
    token_text-append (term_tokens names t) (codes "+" ∷ side) (some_tokens names t) (omega arith)
    ∙ ((λ i. term_text_is names t i ++ 32
    ∷ token_text-append (codes "+" ∷ []) side (omega arith) (some_side names u us) i)
    ∙ ap (λ l. term_text names t ++ 32 ∷ 43 ∷ 32 ∷ l) (side_text names u us))

-- what a slice from 1 on has
abbrev pub rest_of : {X : Type 0} → List X → List X
rest_of xs = take (length xs - 1) (drop 1 xs)

-- a list whose first item is known
pub first_of_some : {X : Type 0} (xs : List X) (x : X) → 0 < length xs → x ≡ get_or xs 0 x
    → xs ≡ x ∷ rest_of xs
first_of_some [] x h is = absurd (omega arith)
first_of_some (y ∷ ys) x h is = λ i. sym is i ∷ sym (all_of (length (y ∷ ys) - 1) (omega arith)) i
  where
    all_of : (n : ℕ) → length ys ≤ n → take n ys ≡ ys
    all_of n h = take_all n ys h

pub some_if : (ts : List Term) → is_empty ts ≡ false → 0 < length ts
some_if [] e = cc
some_if (t ∷ ts) e = omega arith

pub side_of_terms : (names : List (List ℕ)) (terms : List Term) (t : Term) (old t1 t2 : List ℕ)
    → is_empty terms ≡ false → t ≡ get_or terms 0 t → t1 ≡ old ++ term_text names t
    → t2 ≡ t1 ++ further_terms names (rest_of terms)
    → t2 ≡ old ++ token_text (side_tokens names terms)
side_of_terms names terms t old t1 t2 some is e f =
    after old t1 t2 (term_text names t) (further_terms names (rest_of terms)) e f
    ∙ ap (λ l. old ++ l)
    (sym
    (ap (λ ts. token_text (side_tokens names ts))
    (first_of_some terms t (some_if terms some) is) ∙ side_text names t (rest_of terms)))

-- a line of rates
pub line_of_rates : (names : List (List ℕ)) (u : OperatingUnit) (name old t1 t2 t3 t4 : List ℕ)
    → name ≡ u.name → is_empty u.inputs ≡ false → is_empty u.outputs ≡ false
    → t1 ≡ old ++ named name [] → t2 ≡ t1 ++ token_text (side_tokens names u.inputs)
    → t3 ≡ t2 ++ 32 ∷ 61 ∷ 62 ∷ 32 ∷ [] → t4 ≡ t3 ++ token_text (side_tokens names u.outputs)
    → t4 ≡ old ++ named u.name (token_text (rates_tokens names u))
line_of_rates names u name old t1 t2 t3 t4 same ins outs e f g h =
    let left = token_text (side_tokens names u.inputs) in
    let right = token_text (side_tokens names u.outputs) in
    let text : token_text (rates_tokens names u) ≡ left ++ 32 ∷ 61 ∷ 62 ∷ 32 ∷ right =
    token_text-append (side_tokens names u.inputs) (codes "=>" ∷ side_tokens names u.outputs)
    (some u.inputs ins) (omega arith)
    ∙ ap (λ l. left ++ 32 ∷ l)
    (token_text-append (codes "=>" ∷ []) (side_tokens names u.outputs) (omega arith)
    (some u.outputs outs)) in
    after old t1 t4 (named name []) (left ++ (32 ∷ 61 ∷ 62 ∷ 32 ∷ right)) e
    (after t1 t2 t4 left (32 ∷ 61 ∷ 62 ∷ 32 ∷ right) f
    (after t2 t3 t4 (32 ∷ 61 ∷ 62 ∷ 32 ∷ []) right g h))
    ∙ ap (λ l. old ++ l) (append_assoc name (58 ∷ 32 ∷ []) (left ++ (32 ∷ 61 ∷ 62 ∷ 32 ∷ right))
    ∙ (λ i. same i ++ 58 ∷ 32 ∷ sym text i))
  where
    some : (ts : List Term) → is_empty ts ≡ false → 0 < length (side_tokens names ts)
    some [] e = cc
    some (t ∷ ts) e = some_side names t ts

-- ---- members

pub members_text : (names : List (List ℕ)) (members : List ℕ) (old t1 t2 : List ℕ)
    → 0 < length members → t1 ≡ old ++ name_at names (get_or members 0 0)
    → t2 ≡ t1 ++ further_items (map (name_at names) (rest_of members))
    → t2 ≡ old ++ joined 44 (spaced (map (name_at names) members))
members_text names [] old t1 t2 some e f = absurd (omega arith)
members_text names (u ∷ us) old t1 t2 some e f =
    let rest = map (name_at names) (rest_of (u ∷ us)) in
    after old t1 t2 (name_at names u) (further_items rest) e f
    ∙ ap (λ l. old ++ l)
    (sym
    (ap (λ ms. joined 44 (spaced (map (name_at names) ms))) (first_of_some (u ∷ us) u some refl)
    ∙ joined_spaced (name_at names u) rest))

pub line_after_name : (old t1 t2 name text : List ℕ) → t1 ≡ old ++ named name [] → t2 ≡ t1 ++ text
    → t2 ≡ old ++ named name text
line_after_name old t1 t2 name text e f =
    after old t1 t2 (named name []) text e f
    ∙ ap (λ l. old ++ l) (append_assoc name (58 ∷ 32 ∷ []) text)

-- ---- lines

module _ {X : Type 0} (line : X → List ℕ) (xs : List X) (k : ℕ) (x : X) (less : k < length xs)
    (is : x ≡ get_or xs k x) where
  ahead : drop k xs ≡ x ∷ drop (k + 1) xs
  ahead = drop_more xs k x less ∙ ap (λ y. y ∷ drop (k + 1) xs) (sym is)

  pub one_line : (old text t1 t2 : List ℕ) → t1 ≡ text ++ line x → t2 ≡ t1 ++ 10 ∷ []
      → AreLinesPrinted line xs k old text → AreLinesPrinted line xs (k + 1) old t2
  one_line old text t1 t2 e f h =
      let rest = printed (map line (drop (k + 1) xs)) in
      record {
        whole = ap (λ l. l ++ rest) (after text t1 t2 (line x) (10 ∷ []) e f)
            ∙ (append_assoc text (line x ++ 10 ∷ []) rest
            ∙ (ap (λ ys. text ++ printed (map line ys)) (sym ahead) ∙ h.whole));
      }

pub payout_text : (payout : ℤ) (old t1 t2 t3 : List ℕ) → (unsigned_abs payout == 1) ≡ false
    → t1 ≡ old ++ codes "\ndefaults:\npayout_period=" → t2 ≡ t1 ++ decimal (unsigned_abs payout)
    → t3 ≡ t2 ++ 10 ∷ [] → t3 ≡ old ++ printed (payout_lines payout)
payout_text payout old t1 t2 t3 not_one e f g =
    after old t1 t3 (codes "\ndefaults:\npayout_period=") (decimal (unsigned_abs payout) ++ 10 ∷ [])
    e (after t1 t2 t3 (decimal (unsigned_abs payout)) (10 ∷ []) f g)
    ∙ ap (λ l. old ++ l)
    (sym
    (ap (λ b. printed
    (cond b []
    (section_lines (codes "defaults")
    (field (codes "payout_period") (decimal (unsigned_abs payout)) ∷ [])))) not_one
    ∙ ap (λ l. codes "\ndefaults:\npayout_period=" ++ l)
    (append-nil (decimal (unsigned_abs payout) ++ 10 ∷ []))))

pub section_text : {X : Type 0} (line : X → List ℕ) (xs : List X) (old t1 t2 : List ℕ)
    → 0 < length xs → t1 ≡ old ++ codes "\nmutual_exclusions:\n" → t2 ≡ t1 ++ printed (map line xs)
    → t2 ≡ old ++ printed (exclusion_section (map line xs))
section_text line [] old t1 t2 some e f = absurd (omega arith)
section_text line (x ∷ xs) old t1 t2 some e f =
    after old t1 t2 (codes "\nmutual_exclusions:\n") (printed (map line (x ∷ xs))) e f
