use Rattle.frame.proofs.Steps.{bytes_of}
use borrow.Author.Rules.{rules}
use Rattle.frame.proofs.TextPart.bytes.Goals as goal

pub returns : goal.returns
returns c = let both = let a = c.args in
    bytes_of a.frame.now _ a.self.at c.wide.result a.self.length (search rules) c.wide.ensures c.bytes.ensures in record { result_value = both.0; result_len_bound = both.1 }
