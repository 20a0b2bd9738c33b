use Rattle.std.proofs.Common.{SFits, rules, ◌≡◌, ◌≤◌, ◌∙◌, refl, sym, subst, ap, ℕ, List, length}
use Rattle.std.proofs.Common.{take, arith}
use Rattle.std.specs.Prelude.{ℤ, All, Option, Some, None, IfNone, IfSome, Result, IfOk}
use Rattle.flow_program.specs.flow_rules.declared.place.Column.{Column}
use Rattle.dual_simplex.specs.declared.walk.PastPivot.{PastPivot}
use Rattle.flow_program.specs.flow_rules.LinearProgram.{linear_of}
use Rattle.dual_simplex.specs.Walk.{EndsFeasible, EndsRefuting}
use Rattle.std.specs.Int.{w128}
use Rattle.std.proofs.lemmas.Int.{to_z-of_z}
use Rattle.std.proofs.lemmas.List.{with_items_is}
use Rattle.dual_simplex.specs.Sizes.{IsSize}
use Rattle.dual_simplex.proofs.EndLemmas.{least_of, none_of}
use Rattle.dual_simplex.proofs.RoomLemmas.{room_stays}
use Rattle.dual_simplex.proofs.bench.Bench.least.Goals as goal

pub returns-in-Ok-None-clause-ends : goal.returns-in-Ok-None-clause-ends
returns-in-Ok-None-clause-ends c =
    let p = linear_of c.args.program.now in
    let put = c.put_nonbasic-self-inside in
    let columns =
    with_items_is c.self.inside.columns put.new.list
    (put.ensures.length ∙ c.deref_mut.ensures.len) in
    let outside = ap (λ (xs : List Column). take put.result xs) columns ∙ put.ensures.columns in
    let read = c.read_multipliers-self-inside in
    let r : SFits w128 read.result = search rules in
    let items =
    with_items_is c.self.inside.ys read.new.ys
    (read.ensures.length ∙ c.deref_mut-in-Ok-None.ensures.len) in
    let long : length read.new.ys ≡ c.self.inside.rows.most_rows =
    read.ensures.length ∙ ap length c.deref_mut-in-Ok-None.ensures.value
    ∙ c.self.invariant.ys_room in
    let walked = c.walk-end in
    let same = walked.ensures.room.most_rows in
    let fit = c.are_rows.ensures.rows_fit in
    let room : walked.new.rows.rows ≤ length read.new.ys = omega (arith, long, same, fit) in
    let none =
    subst
    (λ (a : Result (Option ℕ) PastPivot). IfOk a
    (λ end. IfNone end (EndsFeasible p walked.new.rows))) c.in-Ok-None.is
    walked.ensures.least in
    let is : c.in-Ok-None.field-0 ≡ None = search rules in
    let feasible = subst (λ (o : Option ℕ). IfNone o (EndsFeasible p walked.new.rows)) is none in
    simp to_z-of_z
    (least_of c.args.program.now walked.new.rows _ read.result _ read.new.ys _ _ _ items room
    feasible outside read.ensures.are read.ensures.scale_in_range read.ensures.in_range)

pub returns-in-Ok-Some-clause-ends : goal.returns-in-Ok-Some-clause-ends
returns-in-Ok-Some-clause-ends c =
    let p = linear_of c.args.program.now in
    let put = c.put_nonbasic-self-inside in
    let columns =
    with_items_is c.self.inside.columns put.new.list
    (put.ensures.length ∙ c.deref_mut.ensures.len) in
    let outside = ap (λ (xs : List Column). take put.result xs) columns ∙ put.ensures.columns in
    let read = c.read_refutation in
    let items =
    with_items_is c.self.inside.ys read.new.ys
    (read.ensures.length ∙ c.deref_mut-in-Ok-Some.ensures.len) in
    let long : length read.new.ys ≡ c.self.inside.rows.most_rows =
    read.ensures.length ∙ ap length c.deref_mut-in-Ok-Some.ensures.value
    ∙ c.self.invariant.ys_room in
    let walked = c.walk-end in
    let same = walked.ensures.room.most_rows in
    let fit = c.are_rows.ensures.rows_fit in
    let room : walked.new.rows.rows ≤ length read.new.ys = omega (arith, long, same, fit) in
    let some =
    subst
    (λ (a : Result (Option ℕ) PastPivot). IfOk a
    (λ end. IfSome end (λ row. EndsRefuting p walked.new.rows row))) c.in-Ok-Some.is
    walked.ensures.none in
    let is : c.in-Ok-Some.field-0 ≡ Some c.in-Ok-Some.row = search rules in
    let refuting =
    subst (λ (o : Option ℕ). IfSome o (λ row. EndsRefuting p walked.new.rows row)) is some in
    none_of c.args.program.now walked.new.rows _ c.self.inside.d _ read.new.ys c.in-Ok-Some.row
    c.column_at-self-inside.result _ _ items room refuting c.column_at-self-inside.ensures
    outside read.ensures.are read.ensures.in_range

pub invariant_of-self : goal.invariant_of-self
invariant_of-self c =
    let put = c.put_nonbasic-self-inside in
    let columns =
    with_items_is c.self.inside.columns put.new.list
    (put.ensures.length ∙ c.deref_mut.ensures.len) in
    let was = put.ensures.length ∙ ap (λ (xs : List Column). length xs) c.deref_mut.ensures.value in
    let count = put.ensures.count in
    room_stays c.self.inside.rows c.walk-end.new.rows c.self.invariant c.walk-end.ensures.room
    (ap (λ (xs : List Column). length xs) columns ∙ was)
    (omega (arith, put.ensures.length, was, count)) refl refl c.self.invariant.sizes_are

pub invariant_of-self-in-Ok-None : goal.invariant_of-self-in-Ok-None
invariant_of-self-in-Ok-None c =
    let put = c.put_nonbasic-self-inside in
    let columns =
    with_items_is c.self.inside.columns put.new.list
    (put.ensures.length ∙ c.deref_mut.ensures.len) in
    let was = put.ensures.length ∙ ap (λ (xs : List Column). length xs) c.deref_mut.ensures.value in
    let count = put.ensures.count in
    let read = c.read_multipliers-self-inside in
    let items =
    with_items_is c.self.inside.ys read.new.ys
    (read.ensures.length ∙ c.deref_mut-in-Ok-None.ensures.len) in
    let rounded = c.put_sizes in
    let sizes =
    with_items_is c.self.inside.sizes rounded.new.sizes
    (rounded.ensures.length ∙ c.deref_mut-in-Ok-None-2.ensures.len) in
    room_stays c.self.inside.rows c.walk-end.new.rows c.self.invariant c.walk-end.ensures.room
    (ap (λ (xs : List Column). length xs) columns ∙ was)
    (omega (arith, put.ensures.length, was, count))
    (ap (λ (xs : List ℤ). length xs) items ∙ read.ensures.length
    ∙ ap (λ (xs : List ℤ). length xs) c.deref_mut-in-Ok-None.ensures.value)
    (ap (λ (xs : List ℤ). length xs) sizes ∙ rounded.ensures.length
    ∙ ap (λ (xs : List ℤ). length xs) c.deref_mut-in-Ok-None-2.ensures.value)
    (subst (All IsSize) (sym sizes) rounded.ensures.sizes)

pub invariant_of-self-in-Ok-Some : goal.invariant_of-self-in-Ok-Some
invariant_of-self-in-Ok-Some c =
    let put = c.put_nonbasic-self-inside in
    let columns =
    with_items_is c.self.inside.columns put.new.list
    (put.ensures.length ∙ c.deref_mut.ensures.len) in
    let was = put.ensures.length ∙ ap (λ (xs : List Column). length xs) c.deref_mut.ensures.value in
    let count = put.ensures.count in
    let read = c.read_refutation in
    let items =
    with_items_is c.self.inside.ys read.new.ys
    (read.ensures.length ∙ c.deref_mut-in-Ok-Some.ensures.len) in
    room_stays c.self.inside.rows c.walk-end.new.rows c.self.invariant c.walk-end.ensures.room
    (ap (λ (xs : List Column). length xs) columns ∙ was)
    (omega (arith, put.ensures.length, was, count))
    (ap (λ (xs : List ℤ). length xs) items ∙ read.ensures.length
    ∙ ap (λ (xs : List ℤ). length xs) c.deref_mut-in-Ok-Some.ensures.value) refl
    c.self.invariant.sizes_are
