use Rattle.observe.proofs.Reading as reading
use Rattle.observe.proofs.reads.doubt.Goals as goal

pub is_open-requires : goal.is_open-requires
is_open-requires c = (c.learn-q.ensures.does c.args.out.now).state c.requires.has_state

pub doubt_in_pass-requires : goal.doubt_in_pass-requires
doubt_in_pass-requires c = record { has_state = (c.learn-q.ensures.does c.args.out.now).state c.requires.has_state; named = c.requires.named }

pub returns-then-is_open : goal.returns-then-is_open
returns-then-is_open c = reading.doubt_open _ c.learn-q.ensures c.is_open.ensures c.if-is_open.true c.doubt_in_pass.ensures

pub asks-requires : goal.asks-requires
asks-requires c = record { has_state = (c.learn-q.ensures.does c.args.out.now).state c.requires.has_state; named = c.requires.named }

pub returns-then-asks : goal.returns-then-asks
returns-then-asks c = reading.doubt_asked _ c.args.out.now c.learn-q.ensures c.is_open.ensures c.if-is_open.false c.asks.ensures c.if-asks.true

pub request_read-requires : goal.request_read-requires
request_read-requires c = record { has_state = (c.learn-q.ensures.does c.args.out.now).state c.requires.has_state; named = (c.requires.named, c.requires.named) }

pub returns : goal.returns
returns c = reading.doubt_again _ c.learn-q.ensures c.is_open.ensures c.if-is_open.false c.asks.ensures c.if-asks.false c.request_read.ensures
