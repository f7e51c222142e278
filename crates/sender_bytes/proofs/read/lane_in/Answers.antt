use Rattle.std.proofs.Common.{◌+◌, ◌*◌, rules, arith}
use Rattle.sender_turns.specs.Sender.{lane_size}
use Rattle.sender_bytes.specs.Bytes.{number_bytes}
use Rattle.sender_bytes.specs.Read.{number_in}
use Rattle.sender_bytes.proofs.PlaceLaws.{made, lane_is}
use Rattle.sender_bytes.proofs.read.lane_in.Goals as goal

pub returns : goal.returns
unfolding number_in
returns c = lane_is c.args.at c.args.bytes.now _ _ (made _ number_bytes number_in c.args.bytes.now _ (λ i. c.args.at + 1 + i * number_bytes) (λ i. omega arith) (λ i y q k. search rules) lane_size _ c.from_fn.ensures.items) c.from.ensures
