use Rattle.phrases.proofs.Printed.{plain_shows, shows_then, shows_decimal}
use Rattle.explain.proofs.faults.fault.Goals as goal

pub returns-then-is_empty : goal.returns-then-is_empty
returns-then-is_empty c = plain_shows c.part.ensures tt

pub returns-then-line-gt-MAX_DIGITS : goal.returns-then-line-gt-MAX_DIGITS
returns-then-line-gt-MAX_DIGITS c = plain_shows c.part-then-line-gt-MAX_DIGITS.ensures tt

pub returns-in-None : goal.returns-in-None
returns-in-None c = shows_then (plain_shows c.part-odd.ensures tt) (shows_decimal c.decimal.ensures)
