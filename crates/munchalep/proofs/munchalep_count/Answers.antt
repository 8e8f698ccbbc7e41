-- What `answer_number` requires, that the ends are few enough for one number.
use Rattle.std.proofs.Common.{rules, ◌≡◌, ◌∙◌}
use Rattle.ints.specs.Refusals.{told, told_with}
use Rattle.position.specs.Board.{checkers}
use Rattle.moves.proofs.Entries.{count-carries}
use Rattle.munchalep.proofs.munchalep_count.Goals as goal

pub answer_number-requires : goal.answer_number-requires
answer_number-requires c =
    let e : told_with c.map_err.result ≡ told c.count.result = search rules in
    rw (e ∙ c.count.ensures) (count-carries checkers c.args.board.now c.args.die1 c.args.die2)
