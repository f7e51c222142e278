use Rattle.phrases.proofs.Printed.{plain_shows, byte_shown, shows_wrote, shows_decimal}
use Rattle.phrases.proofs.saying.mark.Goals as goal

pub returns-in-36 : goal.returns-in-36
returns-in-36 c = plain_shows c.part.ensures c.requires.plain_words

pub returns-in-35 : goal.returns-in-35
returns-in-35 c = shows_decimal c.decimal.ensures

pub returns-in-64 : goal.returns-in-64
returns-in-64 c = shows_decimal c.decimal-in-64.ensures

pub returns-in-37 : goal.returns-in-37
returns-in-37 c = shows_decimal c.decimal-in-37.ensures

pub returns-in_default : goal.returns-in_default
returns-in_default c = shows_wrote c.byte.ensures (byte_shown _ c.requires.plain_mark)
