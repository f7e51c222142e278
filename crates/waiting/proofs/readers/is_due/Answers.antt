use Rattle.std.proofs.Common.{rules, tests, ◌≡◌}
use Rattle.state.specs.Values.{name_of}
use Rattle.waiting.proofs.Reading as reading
use Rattle.waiting.proofs.readers.is_due.Goals as goal

pub returns : goal.returns
returns c =
    let h : c.is_some_and.result ≡ reading.is_past c.args.at c.expiry.result = search (rules, tests) in
    reading.told h (reading.due_read (name_of c.args.name.bytes) c.args.work.now c.args.j c.args.at c.expiry.result c.expiry.ensures)
