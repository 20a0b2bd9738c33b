use Rattle.std.proofs.Common.{sym, ◌∙◌, ap}
use Rattle.tree_text_rules.specs.Read.{read_text}
use Rattle.tree_text_laws.proofs.PartTexts.{good_is}
use Rattle.tree_text_laws.proofs.laws.texts_tell.Goals as goal

pub returns : goal.returns
returns c =
    λ p valid x y one two same. good_is x y
    (sym (c.spelled_texts_read.ensures p valid x one) ∙ ap (read_text p) same
    ∙ c.spelled_texts_read.ensures p valid y two)
