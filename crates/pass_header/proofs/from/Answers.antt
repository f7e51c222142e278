use native.Mathlib.Omega.{arith}
use Rattle.pass_header.proofs.Laws as laws
use Rattle.pass_header.proofs.from.Goals as goal

pub text_at-requires : goal.text_at-requires
text_at-requires c = let l = c.requires.keeps.long in (omega arith, laws.from_short c.args.work.now c.requires)

pub text_at-requires-in_default : goal.text_at-requires-in_default
text_at-requires-in_default c = let l = c.requires.keeps.long in (omega arith, laws.from_short c.args.work.now c.requires)

pub returns-in-0-clause-reads : goal.returns-in-0-clause-reads
returns-in-0-clause-reads c = laws.from_start c.args.work.now c.in-0.is

pub returns-in-1 : goal.returns-in-1
returns-in-1 c = record {
  reads = laws.from_since c.args.work.now c.text_at.result.now c.text_at.ensures c.in-1.is;
  short = laws.text_short c.args.work.now c.text_at.result.now c.requires c.text_at.ensures;
}

pub returns-in_default : goal.returns-in_default
returns-in_default c = record {
  reads = laws.from_continue c.args.work.now c.text_at-in_default.result.now c.text_at-in_default.ensures (omega arith) (omega arith);
  short = laws.text_short c.args.work.now c.text_at-in_default.result.now c.requires c.text_at-in_default.ensures;
}
