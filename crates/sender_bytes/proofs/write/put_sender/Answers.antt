use Rattle.std.proofs.Common.{arith}
use Rattle.sender_bytes.proofs.PlaceLaws.{out_fits, turn_fits}
use Rattle.sender_bytes.proofs.write.put_sender.Goals as goal

pub overflow_cast-bytes : goal.overflow_cast-bytes
overflow_cast-bytes c = omega (arith, out_fits c.args.sender.now c.requires.1)

pub overflow_cast-bytes-2 : goal.overflow_cast-bytes-2
overflow_cast-bytes-2 c = omega (arith, turn_fits c.args.sender.now c.requires.1)
