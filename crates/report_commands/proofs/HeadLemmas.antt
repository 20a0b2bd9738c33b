-- What is said of a tree that may have a head: a head without lines changes nothing.
use Rattle.std.proofs.Common.{◌≡◌, true, false, ℕ, List, [], ◌∷◌}
use Rattle.rank_text.specs.problem_rules.Problem.{Problem}
use Rattle.rank_text.specs.tree_rules.Claim.{Claim}
use Rattle.rank_text.specs.tree_rules.Accepted.{Tree}
use Rattle.rank_text.specs.tree_rules.Head.{HeadLine}
use Rattle.json_text.specs.report_rules.HeadedVerdict.{is_plain}
use Rattle.network_commands.specs.studio_rules.Json.{JsonSays, JsonSaysBy, HeadedJsonSays}

pub plain_says : (p : Problem) (claim : Claim) (head : List HeadLine) (tree : Tree)
    (lines : List (List ℕ)) → is_plain head ≡ true → JsonSays p claim tree lines
    → HeadedJsonSays p claim head tree lines
plain_says p claim [] tree lines plain says = says
plain_says p claim (line ∷ head) tree lines plain says = let e : false ≡ true = plain in cc

pub headed_says : (p : Problem) (claim : Claim) (head : List HeadLine) (tree : Tree)
    (lines : List (List ℕ)) → is_plain head ≡ false → JsonSaysBy p claim head tree lines
    → HeadedJsonSays p claim head tree lines
headed_says p claim [] tree lines plain says = let e : true ≡ false = plain in cc
headed_says p claim (line ∷ head) tree lines plain says = says
