-- What an event wrote, out of the buffer that it wrote it into. Assumes nothing.
use Rattle.std.proofs.Common.{◌≡◌, ℕ, ◌+◌, List, length, take, drop, sym, ap, ◌∙◌}
use Rattle.std.proofs.lemmas.List.{take_at}
use Rattle.message.specs.Buffer.{overwritten}

pub written_back : (buffer bytes after : List ℕ) (n : ℕ) → n ≡ length bytes → after ≡ overwritten buffer 0 bytes → take n after ≡ bytes
written_back buffer bytes after n long is = ap (take n) is ∙ take_at bytes (drop (0 + length bytes) buffer) n (sym long)
