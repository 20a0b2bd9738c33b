use Rattle.std.proofs.Common.{length}
use Rattle.std.proofs.lemmas.Bool.{ltb-true, ltb-false}
use Rattle.studio_words.proofs.Within.{short_form, long_form}
use Rattle.studio_words.proofs.command.form_of.Goals.{in_default-via-then-words-lt1}
use Rattle.studio_words.proofs.command.form_of.Goals.{in_default-via-else-words-lt1+else-words-lt2+else-words-lt3+else-words-lt4+else-words-lt5+else-words-lt6+else-words-lt7}
use Rattle.studio_words.proofs.command.form_of.Goals as goal

pub returns-in_default : goal.returns-in_default
returns-in_default c = elim c.in_default.branch [
  | in_default-via-then-words-lt1 w
      ↦ short_form c.args.words.now
      (ltb-true (length c.args.words.now) 1 w.if-words-lt1-1.true)
  | in_default-via-else-words-lt1+else-words-lt2+else-words-lt3+else-words-lt4+else-words-lt5+else-words-lt6+else-words-lt7 w ↦ long_form c.args.words.now (ltb-false (length c.args.words.now) 7 w.if-words-lt7-1.false)
]
