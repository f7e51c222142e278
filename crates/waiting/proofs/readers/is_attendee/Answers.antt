use Rattle.std.proofs.Common.{◌≡◌, rules, tests}
use Rattle.state.specs.Values.{name_of}
use Rattle.waiting.proofs.Reading as reading
use Rattle.waiting.proofs.readers.is_attendee.Goals as goal

pub returns : goal.returns
returns c =
    let h : c.is_some_and.result ≡ reading.is_one c.entry_byte.result = search (rules, tests) in
    reading.told h (reading.role_read (name_of c.args.name.bytes) c.args.work.now c.entry_byte.result c.args.j c.requires.named.ok c.entry_byte.ensures)
