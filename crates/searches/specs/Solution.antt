-- What a search finds, if it may look for a head.
use Rattle.std.specs.Prelude.{ℕ, List}
use Rattle.tree_text.specs.problem_rules.Problem.{Problem}
use Rattle.tree_text.specs.tree_rules.Claim as claims
use Rattle.tree_text.specs.tree_rules.Accepted.{Tree, first_node}
use Rattle.tree_text.specs.tree_rules.Tail.{whole}
use Rattle.tree_text.specs.tree_rules.Head.{HeadLine}
use Rattle.tree_text.specs.tree_text_rules.Read.{HeadedCertificate}
use Rattle.headed_search.specs.abb_search.Found.{IsFound}
use Rattle.command_files.specs.studio_rules.Solve.{SolvesBy}
use Rattle.searches.specs.declared.solves_search.Solution.{Solution}
use Rattle.searches.specs.declared.solves_search.Solution.TheVariants.{Plain, WithHead}

abbrev pub IsSolution : Problem → ℕ → Solution → Type 0
IsSolution p budget (Plain found) = IsFound p first_node budget found
IsSolution p budget (WithHead h) = SolvesBy p (claims.network h.network) h.head h.tree

-- the certificate of a network with a head and a tree
abbrev pub certificate_of : claims.Network → List HeadLine → Tree → HeadedCertificate
certificate_of w head tree =
    record { claim = claims.network w; head = head; tree = tree; tail = whole }
