-- What a call sees of a store whose fields it works on. Assumes nothing.
use Rattle.std.proofs.Common.{◌≡◌}
use Rattle.table.specs.View.{View}

-- the view that the fields make, as a goal's view_is has it on its left
abbrev pub view_in : {v w : View} → v ≡ w → View
view_in {v} {w} is = v
