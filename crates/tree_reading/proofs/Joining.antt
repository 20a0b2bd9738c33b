-- Values that are read one by one.
use Rattle.std.proofs.Common.{◌≡◌, List, [], ◌∷◌, Result, Ok, Err, refl, sym, ap, ◌∙◌, arith}
use Rattle.std.proofs.Common.{append_assoc, append-nil}
use Rattle.std.proofs.lemmas.Bool.Decides.{nat_tests}
use Rattle.tree_text_rules.specs.Line.{Token}
use Rattle.tree_text_rules.specs.Token.{lesser, both, mapped, each}
use Rattle.tree_text_rules.specs.declared.TreeKind.{TreeKind}
use Rattle.tree_reading.specs.Joined.{joined}

pub lesser_assoc : (a b c : TreeKind) → lesser (lesser a b) c ≡ lesser a (lesser b c)
lesser_assoc a b c = grind (arith, nat_tests)

pub one_more : {A : Type 0} (front : Result (List A) TreeKind) (here : Result A TreeKind)
    (rest : Result (List A) TreeKind)
    → joined (joined front (mapped (λ a. a ∷ []) here)) rest
    ≡ joined front (mapped (λ found. found.0 ∷ found.1) (both here rest))
one_more {A} (Ok vs) (Ok a) (Ok bs) = ap (λ (xs : List A). Ok xs) (append_assoc vs (a ∷ []) bs)
one_more (Ok vs) (Ok a) (Err k) = refl
one_more (Ok vs) (Err k) (Ok bs) = refl
one_more (Ok vs) (Err k) (Err l) = refl
one_more (Err j) (Ok a) (Ok bs) = refl
one_more (Err j) (Ok a) (Err k) = refl
one_more (Err j) (Err k) (Ok bs) = refl
one_more {A} (Err j) (Err k) (Err l) = ap (λ (kind : TreeKind). Err kind) (lesser_assoc j k l)

-- one token further
pub each_on : {A : Type 0} (read : Token → Result A TreeKind)
    (front next : Result (List A) TreeKind) (token : Token) (tokens all : List Token)
    (whole : Result (List A) TreeKind)
    → next ≡ joined front (mapped (λ a. a ∷ []) (read token)) → all ≡ token ∷ tokens
    → joined front (each read all) ≡ whole → joined next (each read tokens) ≡ whole
each_on {A} read front next token tokens all whole e cut before =
    ap (λ (r : Result (List A) TreeKind). joined r (each read tokens)) e
    ∙ one_more front (read token) (each read tokens)
    ∙ ap (λ (ts : List Token). joined front (each read ts)) (sym cut)
    ∙ before

pub joined_none : {A : Type 0} (front : Result (List A) TreeKind) → joined front (Ok []) ≡ front
joined_none {A} (Ok vs) = ap (λ (xs : List A). Ok xs) (append-nil vs)
joined_none (Err k) = refl

pub joined_first : {A : Type 0} (rest : Result (List A) TreeKind) → joined (Ok []) rest ≡ rest
joined_first (Ok vs) = refl
joined_first (Err k) = refl
