use Rattle.std.proofs.Common.{◌≡◌, ◌<◌, ◌≤◌, ◌∙◌, Bool, true, false, nat_le, nat_lt, ℕ, List}
use Rattle.std.proofs.Common.{Option, Some, None, is_some, if◌then◌else◌, length, refl, sym, ap}
use Rattle.std.proofs.Common.{arith}
use Rattle.std.proofs.lemmas.Bool.{le-leb, lt-leb, lt-ltb, le-ltb}
use Rattle.text_lines.specs.problem_rules.Names.{has_double}
use Rattle.text_lines.specs.View.{texts}
use Rattle.text_lines.proofs.Cited.{texts-long}
use Rattle.pns_text.proofs.exclusion_line.exclusion_kind.Goals as goal

is_double : (b : Bool) (items : List (List ℕ)) (found : Option (List (List ℕ)))
    → found ≡ (if b then None else Some items) → is_some found ≡ false → b ≡ true
is_double true items found e none = refl
is_double false items found e none = let off : true ≡ false = sym (ap is_some e) ∙ none in cc

no_double : (b : Bool) (items : List (List ℕ)) (found : Option (List (List ℕ)))
    → found ≡ (if b then None else Some items) → is_some found ≡ true → b ≡ false
no_double true items found e some = let off : false ≡ true = sym (ap is_some e) ∙ some in cc
no_double false items found e some = refl

pub returns-then-len-ge64 : goal.returns-then-len-ge64
returns-then-len-ge64 c =
    let le : 64 ≤ length c.args.names.now = let e = c.len.ensures in let le =
    c.if-len-ge64.true in omega (arith, e, le) in
    let many : nat_le 64 (length c.args.names.now) ≡ true =
    le-leb 64 (length c.args.names.now) le in
    rw (
      sym c.if-not-has_colon.ensures,
      sym c.if-some_empty.ensures,
      sym c.if-not-is_name.ensures,
      sym c.if-some_bad_name.ensures,
      many,
    ) refl

pub returns-then-has : goal.returns-then-has
returns-then-has c =
    let lt : length c.args.names.now < 64 = let e = c.len.ensures in let lt =
    c.if-len-ge64.false in omega (arith, e, lt) in
    let few : nat_le 64 (length c.args.names.now) ≡ false =
    lt-leb 64 (length c.args.names.now) lt in
    rw (
      sym c.if-not-has_colon.ensures,
      sym c.if-some_empty.ensures,
      sym c.if-not-is_name.ensures,
      sym c.if-some_bad_name.ensures,
      few,
      sym c.if-has.ensures,
    ) refl

pub returns-then-is_none : goal.returns-then-is_none
returns-then-is_none c =
    let lt : length c.args.names.now < 64 = let e = c.len.ensures in let lt =
    c.if-len-ge64.false in omega (arith, e, lt) in
    let few : nat_le 64 (length c.args.names.now) ≡ false =
    lt-leb 64 (length c.args.names.now) lt in
    let double : has_double (texts c.args.items.now) ≡ true =
    is_double _ _ c.in_ok-once.field-0 c.in_ok-once.ensures c.if-is_none.ensures in
    rw (
      sym c.if-not-has_colon.ensures,
      sym c.if-some_empty.ensures,
      sym c.if-not-is_name.ensures,
      sym c.if-some_bad_name.ensures,
      few,
      sym c.if-has.ensures,
      double,
    ) refl

pub returns-then-items-lt2 : goal.returns-then-items-lt2
returns-then-items-lt2 c =
    let lt : length c.args.names.now < 64 = let e = c.len.ensures in let lt =
    c.if-len-ge64.false in omega (arith, e, lt) in
    let few : nat_le 64 (length c.args.names.now) ≡ false =
    lt-leb 64 (length c.args.names.now) lt in
    let once : has_double (texts c.args.items.now) ≡ false =
    no_double _ _ c.in_ok-once.field-0 c.in_ok-once.ensures c.if-is_none.ensures in
    let short : nat_lt (length (texts c.args.items.now)) 2 ≡ true = let e =
    texts-long c.args.items.now in let lt =
    c.if-items-lt2.true in lt-ltb (length (texts c.args.items.now)) 2 (omega (arith, e, lt)) in
    rw (
      sym c.if-not-has_colon.ensures,
      sym c.if-some_empty.ensures,
      sym c.if-not-is_name.ensures,
      sym c.if-some_bad_name.ensures,
      few,
      sym c.if-has.ensures,
      once,
      short,
    ) refl

pub returns : goal.returns
returns c =
    let lt : length c.args.names.now < 64 = let e = c.len.ensures in let lt =
    c.if-len-ge64.false in omega (arith, e, lt) in
    let few : nat_le 64 (length c.args.names.now) ≡ false =
    lt-leb 64 (length c.args.names.now) lt in
    let once : has_double (texts c.args.items.now) ≡ false =
    no_double _ _ c.in_ok-once.field-0 c.in_ok-once.ensures c.if-is_none.ensures in
    let long : nat_lt (length (texts c.args.items.now)) 2 ≡ false = let e =
    texts-long c.args.items.now in let le =
    c.if-items-lt2.false in le-ltb (length (texts c.args.items.now)) 2 (omega (arith, e, le)) in
    rw (
      sym c.if-not-has_colon.ensures,
      sym c.if-some_empty.ensures,
      sym c.if-not-is_name.ensures,
      sym c.if-some_bad_name.ensures,
      few,
      sym c.if-has.ensures,
      once,
      long,
    ) refl
