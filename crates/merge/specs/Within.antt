-- What is written where so many bytes are always room enough. Assumes nothing.
use Rattle.std.specs.Prelude.{ℕ, ◌+◌, ◌≤◌, ◌≡◌, List, true, length}
use Rattle.pens.specs.Writing.{Wrote}
use Rattle.pens.specs.declared.Pen.{Pen}

pub record WroteWithin (most : ℕ) (before after : List ℕ) (p q : Pen) (x : List ℕ) : Type 0 where
  pub wrote : Wrote before after p q x
  pub enough : p.ok ≡ true → p.at + most ≤ length before → q.ok ≡ true
