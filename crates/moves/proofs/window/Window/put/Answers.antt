-- One end is stored, and counted.
use Rattle.moves.proofs.PassingSteps.{passed-one}
use Rattle.moves.proofs.window.Window.put.Goals as goal

pub returns : goal.returns
returns c = passed-one c.put_board.ensures
