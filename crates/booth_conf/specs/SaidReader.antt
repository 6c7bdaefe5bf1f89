-- The result of reading a line. The proofs show that it is the line's content.
use Rattle.std.specs.Prelude.{ℕ, List, Option, Some, None}
use Rattle.booth_conf.specs.LineReader.{Reading, line_read}
use Rattle.booth_conf.specs.LineReader as reads
use Rattle.booth_conf.specs.Keys.{key_named}
use Rattle.booth_conf.specs.ValueReader.{setting_in}
use Rattle.booth_conf.specs.declared.keys.ConfKey.{ConfKey}
use Rattle.booth_conf.specs.declared.line_meaning.Said.{Said}
use Rattle.booth_conf.specs.declared.line_meaning.Said.TheVariants.{Empty, Broken, Unknown, Pair}

abbrev pub said_by : List ℕ → Option ConfKey → Said
said_by value None = Unknown
said_by value (Some key) = Pair key (setting_in key value)

abbrev pub said_of : Reading → Said
said_of reads.Empty = Empty
said_of (reads.Pair name value) = said_by value (key_named name)
said_of reads.Broken = Broken

abbrev pub said : List ℕ → Said
said line = said_of (line_read line)
