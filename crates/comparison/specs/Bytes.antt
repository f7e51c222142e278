-- Encoded parts: compared, judged, and taken out of the bytes around them. Assumes nothing.
use Rattle.std.specs.Prelude.{ℕ, ◌-◌, List, [], Bool, true, false, take, drop, Some}
use Rattle.format.specs.Format.{Format}
use Rattle.model.specs.Maps.{same_text}
use Rattle.model.specs.Merge as merge
use Rattle.model.specs.Merge.{to_ascii_lowercase}
use Rattle.comparison.specs.declared.Verdict.{Verdict}
use Rattle.comparison.specs.declared.Verdict.TheVariants.{Theirs, Ours, Conflict, Refused}

-- whether two texts are equal but for ASCII case
unfoldable pub same_folded : List ℕ → List ℕ → Bool
same_folded a b = same_text (to_ascii_lowercase a) (to_ascii_lowercase b)

-- what an answer of `verdict_of` stands for
abbrev pub meant_verdict : Verdict → merge.Verdict
meant_verdict Theirs = merge.Verdict.Theirs
meant_verdict Ours = merge.Verdict.Ours
meant_verdict Conflict = merge.Verdict.Conflict
meant_verdict Refused = merge.Verdict.Refused

-- the bytes of bytes are the bytes themselves: `merge.verdict raw` is fn verdict of a unit's encoded parts
abbrev pub raw : Format (List ℕ)
raw = record { Ok = λ b. Unit {0}; enc = λ b. b; dec = λ b. Some (b, []) }

-- the bytes from one place to another
abbrev pub span : List ℕ → ℕ → ℕ → List ℕ
span s from to = take (to - from) (drop from s)

abbrev pub is_ours : merge.Verdict → Bool
is_ours merge.Verdict.Theirs = false
is_ours merge.Verdict.Ours = true
is_ours merge.Verdict.Conflict = false
is_ours merge.Verdict.Refused = false

abbrev pub is_conflict : merge.Verdict → Bool
is_conflict merge.Verdict.Theirs = false
is_conflict merge.Verdict.Ours = false
is_conflict merge.Verdict.Conflict = true
is_conflict merge.Verdict.Refused = false

abbrev pub is_refused : merge.Verdict → Bool
is_refused merge.Verdict.Theirs = false
is_refused merge.Verdict.Ours = false
is_refused merge.Verdict.Conflict = false
is_refused merge.Verdict.Refused = true
