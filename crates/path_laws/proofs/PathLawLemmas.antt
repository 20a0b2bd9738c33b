-- The laws, in the words of their statements.
use Rattle.path_laws.specs.PathLaws.{TableauIsOne, NextIsOne, PathIsOne, LastIsOne}
use Rattle.path_laws.specs.PathLaws.{BasisIsOfColumns, FeasibleIsLast, RefutingIsLast, PastIsLast}
use Rattle.path_laws.specs.PathLaws.{StartIsFirstPhase, FirstPhaseSkips, FirstPhasePivots}
use Rattle.path_laws.specs.PathLaws.{FirstPhaseGoesOn, FirstPhaseEnds, ExchangeReaches}
use Rattle.path_laws.specs.PathLaws.{CostsAreNotNegative, VectorsKeepRising, ValuesRiseByPivots}
use Rattle.path_laws.specs.PathLaws.{RankRises, ColumnsAreOrdered, ColumnsDiffer}
use Rattle.std.specs.Prelude.{suc}
use Rattle.flow_rules.specs.Columns.{columns, right_at, scale_at}
use Rattle.flow_rules.specs.Vectors.{value_top, value_bottom}
use Rattle.path_laws.proofs.TableauLawLemmas.{pivot_keeps_tableau}
use Rattle.path_laws.proofs.FirstKindLemmas.{start_first_phase, first_phase_skip, first_phase_kind}
use Rattle.path_laws.proofs.FirstKindLemmas.{first_phase_exchange, first_phase_rising}
use Rattle.path_laws.proofs.LastLemmas.{last_same, agree, feasible_is_last, refuting_is_last}
use Rattle.path_laws.proofs.LastLemmas.{past_is_last_here, feasible_no_pivot, refuting_no_pivot}
use Rattle.path_laws.proofs.LeastLemmas.{before_trans, never_level}
use Rattle.path_laws.proofs.OnePathLemmas.{follows_same}
use Rattle.path_laws.proofs.PathLemmas.{reaches_sound, reaches_same}
use Rattle.path_laws.proofs.SecondKindLemmas.{costs_not_negative, rises, exchange_reaches}
use Rattle.path_laws.proofs.ValueLemmas.{rank_rises}

pub tableau_is_one : TableauIsOne
tableau_is_one p n b r T U t u c k h l = agree p n b r T U t u c k h l

pub next_is_one : NextIsOne
next_is_one p n b r b' b'' f g k = let s =
    reaches_sound p n b r in follows_same p b b' b'' s.scale s.independent f g k

pub path_is_one : PathIsOne
path_is_one p n b c r s k = reaches_same p n b c r s k

pub last_is_one : LastIsOne
last_is_one p b c l m k = last_same p b c l m k

pub basis_is_of_columns : BasisIsOfColumns
basis_is_of_columns p n b r = let s = reaches_sound p n b r in (s.scale, s.right, s.inside)

pub feasible_last : FeasibleIsLast
feasible_last p n b r T t f =
    (feasible_is_last p n b r T t f, λ U u l e P h. feasible_no_pivot p n b r T U t u f l e P h)

pub refuting_last : RefutingIsLast
refuting_last p n b r T t row f = (
  refuting_is_last p n b r T t row f,
  λ U u l e P h. refuting_no_pivot p n b r T U t u row f l e P h,
)

pub past_last : PastIsLast
past_last p n b r T t l e c k which s = past_is_last_here p n b r T t l e c k which s

pub start_is_first_phase : StartIsFirstPhase
start_is_first_phase p T s = start_first_phase p T s

pub first_phase_skips : FirstPhaseSkips
first_phase_skips p b T u h c ph = first_phase_skip p b T u h c ph

pub first_phase_pivots : FirstPhasePivots
first_phase_pivots p b T u h ph neg = first_phase_kind p b T u h ph neg

pub first_phase_goes_on : FirstPhaseGoesOn
first_phase_goes_on p b b' T T' u h hs t ph neg v prims =
    first_phase_exchange p b b' T T' u h hs t ph neg v prims

pub first_phase_ends : FirstPhaseEnds
first_phase_ends p b T ph j h f = first_phase_rising p b T ph j h f

pub exchange_goes_on : ExchangeReaches
exchange_goes_on p n b b' T T' l e P r t x = (
  exchange_reaches p n b b' T T' l e P r t x,
  pivot_keeps_tableau p b b' T T' l e P t x.has_pivot x.pivoted x.primitive,
)

pub costs_are_not_negative : CostsAreNotNegative
costs_are_not_negative p n b T r t rising k h = costs_not_negative p n b T r t rising k h

pub vectors_keep_rising : VectorsKeepRising
vectors_keep_rising p n b b' T T' l e P r t rising x =
    (rises p n b b' T T' l e P x.has_pivot r t rising x.pivoted).0

pub values_rise_by_pivots : ValuesRiseByPivots
values_rise_by_pivots p n b b' T T' l e P r t rising x =
    (rises p n b b' T T' l e P x.has_pivot r t rising x.pivoted).1

pub rank_rises_too : RankRises
rank_rises_too p b b' T T' m w w' r =
    rank_rises m (suc (columns p)) (value_top b T (scale_at p) (right_at p))
    (value_bottom b T (scale_at p)) (value_top b' T' (scale_at p) (right_at p))
    (value_bottom b' T' (scale_at p)) w w' r

pub columns_are_ordered : ColumnsAreOrdered
columns_are_ordered n a b c f g h pa pb pc r s = before_trans n a b c f g h pa pb pc r s

pub columns_differ : ColumnsDiffer
columns_differ b T scale i j x y h n p e = never_level b T scale i j x y h n p e
