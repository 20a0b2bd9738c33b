-- Values and their texts: of one token, of the tokens after a line's first word, and of a line. A
-- reading gives a value for its text alone, and gives each value that fits.
use Rattle.std.proofs.Common.{◌≡◌, Bool, true, false, ℕ, nat_lt, List, [], ◌∷◌, map, Option, Some}
use Rattle.std.proofs.Common.{None, Result, Ok, Err, refl, sym, ap, ap₂, ◌∙◌, subst, ltb-true}
use Rattle.std.proofs.Common.{lt-ltb, if◌then◌else◌}
use Rattle.std.proofs.lemmas.Bool.{and_parts, and_from}
use Rattle.tree_text_rules.specs.number_sets.Sets.{IsBelowAll, IsRising}
use Rattle.tree_text_rules.specs.problem_rules.Each.{Each}
use Rattle.tree_text_rules.specs.Line.{Token, Line, is_formed, word_text, word_of, fields_of}
use Rattle.tree_text_rules.specs.LineRead.{formed, one, two, one_and_more, alone}
use Rattle.tree_text_rules.specs.Token.{both, mapped, each, judged, told, is_above_all, is_rising}
use Rattle.tree_text_rules.specs.declared.TreeKind.{TreeKind}
use Rattle.tree_text_rules.specs.declared.TreeKind.TheVariants.{BadLine}
use Rattle.tree_text_rules.specs.declared.Word.{Word}
use Rattle.tree_text_laws.specs.Codes.{line_of, IsToken, IsCode, IsLineCode}
use Rattle.tree_text_laws.proofs.Said.{says_word, word_is_token, line_back}

-- ---- what did not fail

abbrev pub done : {A : Type 0} → A → Result A TreeKind
done a = Ok a

pub done_is : {A : Type 0} (a b : A) → done a ≡ done b → a ≡ b
done_is a b e = cc

pub mapped_ok : {A B : Type 0} (f : A → B) (r : Result A TreeKind) (b : B) → mapped f r ≡ Ok b
    → (a : A) × (r ≡ Ok a) × (f a ≡ b)
mapped_ok f (Ok a) b e = (a, refl, done_is (f a) b e)
mapped_ok f (Err kind) b e = absurd cc

pub both_ok : {A B : Type 0} (r : Result A TreeKind) (s : Result B TreeKind) (c : A × B)
    → both r s ≡ Ok c → (r ≡ Ok c.0) × (s ≡ Ok c.1)
both_ok (Ok a) (Ok b) c e = let is : (a, b) ≡ c =
    done_is (a, b) c e in (ap (λ (d : _ × _). done d.0) is, ap (λ (d : _ × _). done d.1) is)
both_ok (Ok a) (Err kind) c e = absurd cc
both_ok (Err kind) (Ok b) c e = absurd cc
both_ok (Err kind) (Err other) c e = absurd cc

at_judged : {A : Type 0} (a b : A) (kind : TreeKind) (t : Bool)
    → (if t then done a else Err kind) ≡ Ok b → (t ≡ true) × (a ≡ b)
at_judged a b kind true e = (refl, done_is a b e)
at_judged a b kind false e = absurd cc

pub judged_ok : {A : Type 0} (test : A → Bool) (kind : TreeKind) (r : Result A TreeKind) (a : A)
    → judged test kind r ≡ Ok a → (r ≡ Ok a) × (test a ≡ true)
judged_ok test kind (Ok b) a e = let is =
    at_judged b a kind (test b) e in (ap done is.1, ap test (sym is.1) ∙ is.0)
judged_ok test kind (Err other) a e = absurd cc

pub judged_again : {A : Type 0} (test : A → Bool) (kind : TreeKind) (r : Result A TreeKind) (a : A)
    → r ≡ Ok a → test a ≡ true → judged test kind r ≡ Ok a
judged_again test kind r a e is = ap (judged test kind) e
    ∙ ap (λ (t : Bool). if t then done a else Err kind) is

pub told_ok : {A : Type 0} (kind : TreeKind) (o : Option A) (a : A) → told kind o ≡ Ok a
    → o ≡ Some a
told_ok kind (Some b) a e = ap (λ (c : _). Some c) (done_is b a e)
told_ok kind None a e = absurd cc

pub told_again : {A : Type 0} (kind : TreeKind) (o : Option A) (a : A) → o ≡ Some a
    → told kind o ≡ Ok a
told_again kind o a e = ap (told kind) e

pub formed_ok : {A : Type 0} (line : Line) (r : Result A TreeKind) (a : A) → formed line r ≡ Ok a
    → (is_formed line ≡ true) × (r ≡ Ok a)
formed_ok line r a e = at (is_formed line) e where
  at : (b : Bool) → (if b then r else Err BadLine) ≡ Ok a → (b ≡ true) × (r ≡ Ok a)
  at true e = (refl, e)
  at false e = absurd cc

pub formed_again : {A : Type 0} (line : Line) (r : Result A TreeKind) → is_formed line ≡ true
    → formed line r ≡ r
formed_again line r is = ap (λ (b : Bool). if b then r else Err BadLine) is

-- ---- the tokens after a first word

pub record AreFields {A : Type 0} (read : List Token → Result A TreeKind) (spell : A → List Token)
    (Fits : A → Type 0) : Type 0 where
  pub back : (tokens : List Token) (a : A) → read tokens ≡ Ok a → (tokens ≡ spell a) × Fits a
  pub again : (a : A) → Fits a → read (spell a) ≡ Ok a
  pub tokens : (a : A) → Fits a → Each IsToken (spell a)

module _ {A : Type 0} (read : Token → Result A TreeKind) (spell : A → Token) (Fits : A → Type 0)
    (code : IsCode read spell Fits) where
  one_back : (tokens : List Token) (a : A) → one read tokens ≡ Ok a → (tokens ≡ spell a ∷ [])
      × Fits a
  one_back (token ∷ []) a e = let b = code.back token a e in (ap (λ (t : Token). t ∷ []) b.0, b.1)
  one_back [] a e = absurd cc
  one_back (token ∷ next ∷ tokens) a e = absurd cc

  pub one_fields : AreFields (one read) (λ a. spell a ∷ []) Fits
  one_fields =
      record { back = one_back; again = code.again; tokens = λ a fits. (code.token a fits, tt) }

  each_back : (tokens : List Token) (found : List A) → each read tokens ≡ Ok found
      → (tokens ≡ map spell found) × Each Fits found
  each_back [] [] e = (refl, tt)
  each_back [] (a ∷ found) e = absurd cc
  each_back (token ∷ tokens) found e =
      let m =
      mapped_ok (λ (f : A × List A). f.0 ∷ f.1) (both (read token) (each read tokens)) found
      e in
      let b = both_ok (read token) (each read tokens) m.0 m.1 in
      let here = code.back token m.0.0 b.0 in
      let rest = each_back tokens m.0.1 b.1 in
      subst (λ (xs : List A). ((token ∷ tokens) ≡ map spell xs) × Each Fits xs) m.2
      (ap₂ (λ (t : Token) (ts : List Token). t ∷ ts) here.0 rest.0, (here.1, rest.1))

  each_again : (found : List A) → Each Fits found → each read (map spell found) ≡ Ok found
  each_again [] fits = refl
  each_again (a ∷ found) fits =
      ap (λ (r : Result A TreeKind). mapped (λ (f : A × List A). f.0 ∷ f.1)
      (both r (each read (map spell found)))) (code.again a fits.0)
      ∙ ap
      (λ (r : Result (List A) TreeKind). mapped (λ (f : A × List A). f.0 ∷ f.1)
      (both (done a) r)) (each_again found fits.1)

  each_token : (found : List A) → Each Fits found → Each IsToken (map spell found)
  each_token [] fits = tt
  each_token (a ∷ found) fits = (code.token a fits.0, each_token found fits.1)

  pub each_fields : AreFields (each read) (map spell) (Each Fits)
  each_fields = record { back = each_back; again = each_again; tokens = each_token }

module _ {A B : Type 0} (read : Token → Result A TreeKind) (spell : A → Token) (Fits : A → Type 0)
    (code : IsCode read spell Fits) (read' : Token → Result B TreeKind) (spell' : B → Token)
    (Fits' : B → Type 0) (code' : IsCode read' spell' Fits') where
  both_again : (a : A) (b : B) (r : Result A TreeKind) (s : Result B TreeKind) → r ≡ Ok a → s ≡ Ok b
      → both r s ≡ Ok (a, b)
  both_again a b r s e f = ap₂ (λ (x : Result A TreeKind) (y : Result B TreeKind). both x y) e f

  two_back : (tokens : List Token) (c : A × B) → two read read' tokens ≡ Ok c
      → (tokens ≡ spell c.0 ∷ spell' c.1 ∷ []) × (Fits c.0 × Fits' c.1)
  two_back (token ∷ next ∷ []) c e =
      let b = both_ok (read token) (read' next) c e in
      let here = code.back token c.0 b.0 in
      let rest = code'.back next c.1 b.1 in
      (ap₂ (λ (t u : Token). t ∷ u ∷ []) here.0 rest.0, (here.1, rest.1))
  two_back [] c e = absurd cc
  two_back (token ∷ []) c e = absurd cc
  two_back (token ∷ next ∷ more ∷ tokens) c e = absurd cc

  pub two_fields : AreFields (two read read') (λ c. spell c.0 ∷ spell' c.1 ∷ [])
      (λ c. Fits c.0 × Fits' c.1)
  two_fields = record {
    back = two_back;
    again =
        λ c fits. both_again c.0 c.1 (read (spell c.0)) (read' (spell' c.1)) (code.again c.0 fits.0)
        (code'.again c.1 fits.1);
    tokens = λ c fits. (code.token c.0 fits.0, (code'.token c.1 fits.1, tt));
  }

  more_back : (tokens : List Token) (c : A × List B) → one_and_more read read' tokens ≡ Ok c
      → (tokens ≡ spell c.0 ∷ map spell' c.1) × (Fits c.0 × Each Fits' c.1)
  more_back [] c e = absurd cc
  more_back (token ∷ tokens) c e =
      let b = both_ok (read token) (each read' tokens) c e in
      let here = code.back token c.0 b.0 in
      let rest = (each_fields read' spell' Fits' code').back tokens c.1 b.1 in
      (ap₂ (λ (t : Token) (ts : List Token). t ∷ ts) here.0 rest.0, (here.1, rest.1))

  pub more_fields : AreFields (one_and_more read read') (λ c. spell c.0 ∷ map spell' c.1)
      (λ c. Fits c.0 × Each Fits' c.1)
  more_fields = record {
    back = more_back;
    again =
        λ c fits. ap₂ (λ (x : Result A TreeKind) (y : Result (List B) TreeKind). both x y)
        (code.again c.0 fits.0) ((each_fields read' spell' Fits' code').again c.1 fits.1);
    tokens =
        λ c fits. (code.token c.0 fits.0, (each_fields read' spell' Fits' code').tokens c.1 fits.1);
  }

pub alone_ok : {A : Type 0} (a b : A) (tokens : List Token) → alone a tokens ≡ Ok b → (tokens ≡ [])
    × (a ≡ b)
alone_ok a b [] e = (refl, done_is a b e)
alone_ok a b (token ∷ tokens) e = absurd cc

-- ---- a line

-- what is read by a line's word and the tokens after it
pub record IsBy {A : Type 0} (by : Option Word → List Token → Result A TreeKind) (first : A → Word)
    (fields : A → List Token) (Fits : A → Type 0) : Type 0 where
  pub back : (word : Option Word) (tokens : List Token) (a : A) → by word tokens ≡ Ok a
      → (word ≡ Some (first a)) × (tokens ≡ fields a) × Fits a
  pub again : (a : A) → Fits a → by (Some (first a)) (fields a) ≡ Ok a
  pub tokens : (a : A) → Fits a → Each IsToken (fields a)

-- a line that has its form
pub line_is : (line : Line) (word : Word) (fields : List Token) → is_formed line ≡ true
    → word_of line ≡ Some word → fields_of line ≡ fields → line ≡ line_of (word_text word ∷ fields)
line_is line word fields form named e =
    line_back line word form named ∙ ap (λ (ts : List Token). line_of (word_text word ∷ ts)) e

module _ {A : Type 0} (by : Option Word → List Token → Result A TreeKind) (first : A → Word)
    (fields : A → List Token) (Fits : A → Type 0) (is : IsBy by first fields Fits) where
  abbrev read_by : Line → Result A TreeKind
  read_by line = formed line (by (word_of line) (fields_of line))

  by_back : (line : Line) (a : A) → read_by line ≡ Ok a
      → (line ≡ line_of (word_text (first a) ∷ fields a)) × Fits a
  by_back line a e =
      let f = formed_ok line (by (word_of line) (fields_of line)) a e in
      let b = is.back (word_of line) (fields_of line) a f.1 in
      (line_is line (first a) (fields a) f.0 b.0 b.1, b.2)

  by_again : (a : A) → Fits a → read_by (line_of (word_text (first a) ∷ fields a)) ≡ Ok a
  by_again a fits =
      let line : Line = line_of (word_text (first a) ∷ fields a) in
      let says = says_word (first a) (fields a) (is.tokens a fits) in
      formed_again line (by (word_of line) (fields_of line)) says.formed
      ∙ ap₂ (λ (w : Option Word) (ts : List Token). by w ts) says.word_is says.fields_are
      ∙ is.again a fits

  pub line_by : IsLineCode (λ line. formed line (by (word_of line) (fields_of line)))
      (λ a. word_text (first a) ∷ fields a) Fits
  line_by =
      record {
        back = by_back;
        again = by_again;
        tokens =
            λ a fits. (word_is_token (first a), is.tokens a fits);
      }

-- ---- rising numbers

above_back : (x : ℕ) (ys : List ℕ) → is_above_all x ys ≡ true → IsBelowAll x ys
above_back x [] e = tt
above_back x (y ∷ ys) e = let p = and_parts (nat_lt x y) (is_above_all x ys) e in
    (ltb-true x y p.0, above_back x ys p.1)

above_again : (x : ℕ) (ys : List ℕ) → IsBelowAll x ys → is_above_all x ys ≡ true
above_again x [] h = refl
above_again x (y ∷ ys) h =
    and_from (nat_lt x y) (is_above_all x ys) (lt-ltb x y h.0) (above_again x ys h.1)

pub rising_back : (xs : List ℕ) → is_rising xs ≡ true → IsRising xs
rising_back [] e = tt
rising_back (x ∷ xs) e = let p = and_parts (is_above_all x xs) (is_rising xs) e in
    (above_back x xs p.0, rising_back xs p.1)

pub rising_again : (xs : List ℕ) → IsRising xs → is_rising xs ≡ true
rising_again [] h = refl
rising_again (x ∷ xs) h =
    and_from (is_above_all x xs) (is_rising xs) (above_again x xs h.0) (rising_again xs h.1)
