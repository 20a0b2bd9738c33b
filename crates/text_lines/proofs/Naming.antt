-- Names in a table, and names that are there once.
use Rattle.std.proofs.Common.{◌≡◌, ◌<◌, ℕ, ◌+◌, Bool, true, false, cond, not, nat_lt, ◌||◌}
use Rattle.std.proofs.Common.{Option}
use Rattle.std.proofs.Common.{Some, None, List, [], ◌∷◌, ◌++◌, length, drop, get_or, refl, sym}
use Rattle.std.proofs.Common.{ap}
use Rattle.std.proofs.Common.{◌∙◌, if◌then◌else◌, append_assoc, append-nil}
use Rattle.std.specs.Borrow.{Bor}
use Rattle.std.specs.Str.{bytes_eq}
use Rattle.std.specs.List.{list_any, position, position_or_len}
use Rattle.std.proofs.Math.Bool.{or_assoc, or_comm}
use Rattle.std.proofs.lemmas.List.{length-map, map-append, at_drop_more}
use Rattle.std.proofs.lemmas.List.Folds.{list_any-append}
use Rattle.edit_rules.specs.problem_rules.Names.{is_among, has_double}
pub use Rattle.edit_rules.proofs.problem_rules.ItemLemmas.{bytes_eq-sym}
use Rattle.text_lines.specs.View.{texts}
use Rattle.edit_rules.specs.text_rules.Fault.{with_name}
use Rattle.text_lines.specs.Once.{once}

-- a table has the text if it is among the names
pub has_listed : (text : List ℕ) (keys : List (Bor (List ℕ)))
    → list_any (λ k. bytes_eq text k.now) keys ≡ is_among (texts keys) text
has_listed text [] = refl
has_listed text (k ∷ keys) = λ i. bytes_eq-sym text k.now i || has_listed text keys i

-- the number of a text in the table
position_or_len_listed : (text : List ℕ) (keys : List (Bor (List ℕ)))
    → position_or_len (λ k. bytes_eq text k.now) keys
    ≡ position_or_len (λ word. bytes_eq word text) (texts keys)
position_or_len_listed text [] = refl
position_or_len_listed text (k ∷ keys) =
    λ i. cond (not (bytes_eq-sym text k.now i)) (1 + position_or_len_listed text keys i) 0

pub position_listed : (text : List ℕ) (keys : List (Bor (List ℕ)))
    → position (λ k. bytes_eq text k.now) keys
    ≡ position (λ word. bytes_eq word text) (texts keys)
position_listed text keys =
    λ i. cond
    (nat_lt (position_or_len_listed text keys i)
    (sym (length-map keys (λ (k : Bor (List ℕ)). k.now)) i))
    (Some (position_or_len_listed text keys i)) None

texts_cond : (b : Bool) (keys : List (Bor (List ℕ))) (key : Bor (List ℕ))
    → texts (if b then keys else keys ++ key ∷ [])
    ≡ (if b then texts keys else texts keys ++ key.now ∷ [])
texts_cond true keys key = refl
texts_cond false keys key = map-append (λ (k : Bor (List ℕ)). k.now) keys (key ∷ [])

-- a name is added at the end if it is new
pub listed_with : (keys : List (Bor (List ℕ))) (key : Bor (List ℕ))
    → texts (if list_any (λ k. bytes_eq key.now k.now) keys then keys else keys ++ key ∷ [])
    ≡ with_name (texts keys) key.now
listed_with keys key =
    texts_cond (list_any (λ k. bytes_eq key.now k.now) keys) keys key
    ∙ ap (λ (b : Bool). if b then texts keys else texts keys ++ key.now ∷ [])
    (has_listed key.now keys)

-- names that are there once, after those that were seen
abbrev pub once_from : List (List ℕ) → List (List ℕ) → Option (List (List ℕ))
once_from seen [] = Some seen
once_from seen (name ∷ names) =
    if is_among seen name then None else once_from (with_name seen name) names

again : List (List ℕ) → List (List ℕ) → Bool
again seen names = list_any (is_among seen) names || has_double names

mix : (a r b s : Bool) → ((b || a) || (r || s)) ≡ ((a || r) || (b || s))
mix true r true s = refl
mix true r false s = refl
mix false r true s = or_comm true r
mix false r false s = refl

among_one : (seen : List (List ℕ)) (name x : List ℕ)
    → is_among (seen ++ name ∷ []) x ≡ (bytes_eq x name || is_among seen x)
among_one seen name x =
    list_any-append (λ word. bytes_eq word x) seen (name ∷ [])
    ∙ or_comm (is_among seen x) (bytes_eq name x || false)
    ∙ ap (λ (b : Bool). b || is_among seen x)
    (or_comm (bytes_eq name x) false ∙ bytes_eq-sym name x)

-- with one more name among those seen, a name is there again if it was seen before or is that name
any_more : (seen : List (List ℕ)) (name : List ℕ) (names : List (List ℕ))
    → list_any (is_among (seen ++ name ∷ [])) names
    ≡ (list_any (is_among seen) names || is_among names name)
any_more seen name [] = refl
any_more seen name (x ∷ names) =
    ap (λ (b : Bool). b || list_any (is_among (seen ++ name ∷ [])) names) (among_one seen name x)
    ∙ ap (λ (b : Bool). (bytes_eq x name || is_among seen x) || b) (any_more seen name names)
    ∙ mix (is_among seen x) (list_any (is_among seen) names) (bytes_eq x name)
    (is_among names name)

apart : (seen : List (List ℕ)) (name : List ℕ) (names : List (List ℕ))
    → again (seen ++ name ∷ []) names
    ≡ (list_any (is_among seen) names || (is_among names name || has_double names))
unfolding again
apart seen name names =
    ap (λ (b : Bool). b || has_double names) (any_more seen name names)
    ∙ or_assoc (list_any (is_among seen) names) (is_among names name) (has_double names)

once_step : (b : Bool) (seen : List (List ℕ)) (name : List ℕ) (names : List (List ℕ))
    → once_from (seen ++ name ∷ []) names
    ≡ (if again (seen ++ name ∷ []) names then None else Some ((seen ++ name ∷ []) ++ names))
    → (if b then None else once_from (if b then seen else seen ++ name ∷ []) names)
    ≡ (if ((b || list_any (is_among seen) names) || (is_among names name || has_double names))
    then None else Some (seen ++ name ∷ names))
once_step true seen name names e = refl
once_step false seen name names e =
    e ∙ ap (λ (b : Bool). if b then None else Some ((seen ++ name ∷ []) ++ names))
    (apart seen name names)
    ∙ ap
    (λ (all : List (List ℕ)).
    if (list_any (is_among seen) names || (is_among names name || has_double names)) then None
    else Some all) (append_assoc seen (name ∷ []) names)

once_all : (seen names : List (List ℕ))
    → once_from seen names ≡ (if again seen names then None else Some (seen ++ names))
unfolding again
once_all seen [] = ap Some (sym (append-nil seen))
once_all seen (name ∷ names) =
    once_step (is_among seen name) seen name names (once_all (seen ++ name ∷ []) names)

none_again : (names : List (List ℕ)) → list_any (is_among []) names ≡ false
none_again [] = refl
none_again (name ∷ names) = none_again names

pub once-all : (names : List (List ℕ)) → once_from [] names ≡ once names
unfolding again
once-all names = once_all [] names
    ∙ ap (λ (b : Bool). if (b || has_double names) then None else Some names) (none_again names)

-- a new name is added at the end
pub with_new : (b : Bool) (names : List (List ℕ)) (name : List ℕ) → b ≡ false
    → (if b then names else names ++ name ∷ []) ≡ names ++ name ∷ []
with_new true names name e = cc
with_new false names name e = refl

-- the next name, which is new or was seen before
next_name : (set : List (List ℕ)) (names : List (Bor (List ℕ))) (i : ℕ) (d : Bor (List ℕ))
    → i < length names
    → once_from set (texts (drop i names))
    ≡ (if is_among set (get_or names i d).now then None else once_from
    (with_name set (get_or names i d).now) (texts (drop (i + 1) names)))
next_name set names i d lt =
    at_drop_more (λ (rest : List (Bor (List ℕ))). once_from set (texts rest)) names i d lt

pub once_met : (set : List (List ℕ)) (names : List (Bor (List ℕ))) (i : ℕ) (d : Bor (List ℕ))
    (whole : Option (List (List ℕ))) → i < length names
    → false ≡ not (is_among set (get_or names i d).now)
    → once_from set (texts (drop i names)) ≡ whole → None ≡ whole
once_met set names i d whole lt met e =
    met_by (is_among set (get_or names i d).now) met (sym (next_name set names i d lt) ∙ e) where
      met_by : (b : Bool) → false ≡ not b
          → (if b then None else once_from (with_name set (get_or names i d).now)
          (texts (drop (i + 1) names))) ≡ whole → None ≡ whole
      met_by true met e = e
      met_by false met e = cc

pub once_new : (set next : List (List ℕ)) (names : List (Bor (List ℕ))) (i : ℕ) (d : Bor (List ℕ))
    (whole : Option (List (List ℕ))) → i < length names
    → true ≡ not (is_among set (get_or names i d).now)
    → next ≡ with_name set (get_or names i d).now → once_from set (texts (drop i names)) ≡ whole
    → once_from next (texts (drop (i + 1) names)) ≡ whole
once_new set next names i d whole lt new added e =
    new_by (is_among set (get_or names i d).now) new (sym (next_name set names i d lt) ∙ e) where
      new_by : (b : Bool) → true ≡ not b
          → (if b then None else once_from (with_name set (get_or names i d).now)
          (texts (drop (i + 1) names))) ≡ whole
          → once_from next (texts (drop (i + 1) names)) ≡ whole
      new_by true new e = cc
      new_by false new e =
          ap (λ (seen : List (List ℕ)). once_from seen (texts (drop (i + 1) names))) added ∙ e
