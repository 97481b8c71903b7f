-- The buffer that a table writes a message into, before a slot keeps the message. Assumes nothing.
use Rattle.std.specs.Prelude.{ℕ, List, replicate}

-- the 1,200 bytes that a call of the table is given to write a message into
unfoldable pub blank : List ℕ
blank = replicate 1200 0
