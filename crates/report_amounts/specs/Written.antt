-- What a writer of `csv` with its default settings has written, if no record is begun.
use Rattle.std.specs.Prelude.{◌≡◌, ℕ, false, List, Option, Some}
use Rattle.csv.specs.Writing.{default_writer, writer_setup, fields_written, has_written}
use Rattle.csv.specs.Writing.{text_written}
use Rattle.csv.specs.declared.writer.Writer.{Writer}

pub record HasWritten {W : Type 0} (contents : W → Option (List ℕ)) (writer : Writer W)
    (bytes : List ℕ) : Type 0 where
  pub setup : writer_setup writer ≡ default_writer
  pub between : fields_written writer ≡ 0
  pub fresh : has_written writer ≡ false
  pub text : text_written contents writer ≡ Some bytes
