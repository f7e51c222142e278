use Rattle.std.proofs.Common.{◌+◌, ◌*◌, rules, arith}
use Rattle.sender_turns.specs.Sender.{mills, calls}
use Rattle.sender_bytes.specs.Bytes.{call_bytes, lane_bytes}
use Rattle.sender_bytes.specs.Read.{call_in}
use Rattle.sender_bytes.proofs.PlaceLaws.{made}
use Rattle.sender_bytes.proofs.read.calls_in.Goals as goal

pub returns : goal.returns
returns c = made _ call_bytes call_in c.args.bytes.now _ (λ i. mills * lane_bytes + 1 + i * call_bytes) (λ i. omega arith) (λ i y q k. search rules) calls _ c.from_fn.ensures.items
