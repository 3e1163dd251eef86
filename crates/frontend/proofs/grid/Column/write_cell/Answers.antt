use Rattle.std.proofs.Output.{has_written_of_eq}
use Rattle.frontend.proofs.Aligned.{left_is, right_is}
use Rattle.frontend.proofs.grid.Column.write_cell.Goals as goal

pub returns-in-Left : goal.returns-in-Left
returns-in-Left g c =
    record { prints = λ p ok. has_written_of_eq _ _ _ _ _ (left_is _ _ _ c.laid_out.ensures c.in-Left.is c.requires) (c.write.ensures.writes p ok) }

pub returns-in-Right : goal.returns-in-Right
returns-in-Right g c =
    record { prints = λ p ok. has_written_of_eq _ _ _ _ _ (right_is _ _ _ c.laid_out-in-Right.ensures c.in-Right.is c.requires) (c.write-in-Right.ensures.writes p ok) }
