use Rattle.frame.specs.Meaning.{text_in}
use Rattle.queues.proofs.Writers as writers
use Rattle.queues.proofs.writing.put_id.Goals as goal

pub text-end-requires : goal.text-end-requires
text-end-requires c = writers.short_id _ _ c.bytes-text.ensures.result_value c.requires.1

pub returns : goal.returns
returns c = writers.id_filled (text_in c.args.frame.now c.args.id) c.requires.0 c.requires.1 c.bytes-text.ensures.result_value c.start.ensures c.text-end.ensures
