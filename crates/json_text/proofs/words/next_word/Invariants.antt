use Rattle.std.proofs.Common.{◌≡◌}
use Rattle.json_text.specs.View.{words_in}
use Rattle.tree_reading.specs.View.{size_in}
use Rattle.json_text.proofs.words.next_word.Given as goal

-- what is left has the words of the whole
abbrev pub invariant-looking : goal.invariant-looking
invariant-looking l = words_in l.rest ≡ words_in l.fn.fields

abbrev pub decreases-looking : goal.decreases-looking
decreases-looking l = size_in l.rest
