use Rattle.std.proofs.Common.{◌*◌, rules, arith}
use Rattle.sender_turns.specs.Sender.{mills}
use Rattle.sender_bytes.specs.Bytes.{lane_bytes}
use Rattle.sender_bytes.specs.Read.{lane_in}
use Rattle.sender_bytes.proofs.PlaceLaws.{made}
use Rattle.sender_bytes.proofs.read.lanes_in.Goals as goal

pub returns : goal.returns
returns c = made _ lane_bytes lane_in c.args.bytes.now _ (λ i. i * lane_bytes) (λ i. omega arith) (λ i y q k. search rules) mills _ c.from_fn.ensures.items
