use Rattle.std.proofs.Common.{◌≡◌, ◌-◌, ◌<◌, ◌^◌, drop}
use Rattle.format.specs.Format.{digits}
use Rattle.reader.proofs.Reader.number.Given as goal

abbrev pub invariant-loop-b : goal.invariant-loop-b
invariant-loop-b l = record {
  known : l.value < 256 ^ l.b-index;
  rest : digits l.w 0 l.self.rest.now ≡ digits (l.w - l.b-index) l.value (drop l.b-index l.self.rest.now);
}
