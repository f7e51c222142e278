use Rattle.std.proofs.Common.{◌≡◌, ◌+◌, length, take}
use Rattle.lines.specs.Lines.{digits, Puts}
use Rattle.lines.proofs.put_digits.Given as goal

abbrev pub invariant-loop-b : goal.invariant-loop-b
invariant-loop-b l = (l.next ≡ l.at + (l.b-index + l.b-index)) × (length l.text ≡ length l.initial.text) × Puts (digits (take l.b-index l.bytes)) l.initial.text l.text l.at l.next
