-- The refusal of the entries, or the key.
use Rattle.std.proofs.Common.{rules, ◌≡◌, ap, ◌∙◌, Err}
use Rattle.position.specs.Board.{checkers}
use Rattle.position.proofs.Answering.{passed, refused-by}
use Rattle.key.specs.Key.{key_told}
use Rattle.key.proofs.Answers.{key-refused, key-answered}
use Rattle.key.proofs.encode.Goals as goal

pub returns-in_err-check : goal.returns-in_err-check
returns-in_err-check c =
    let why = c.in_err-check.field-0.0.why in
    let e : c.from_residual.result ≡ Err why = search rules in
    ap key_told e ∙ key-refused checkers c.args.b why (refused-by c.check.ensures c.in_err-check.was)

pub returns : goal.returns
returns c = key-answered checkers c.args.b (passed c.check.ensures c.in_ok-check.was).ok c.written.result c.written.ensures
