-- What `two_clerks` returns and leaves in the lent buffers, for all bytes. Assumes nothing.
use Rattle.std.specs.Prelude.{ℕ, ◌-◌, ◌≡◌, List, ◌++◌, Bool, ◌&&◌, eqb, length}
use Rattle.spans.specs.Bytes.{zeros}
use Rattle.model.specs.Maps.{when◌then◌else◌}
use Rattle.model.specs.Formats.{Bytes}
use Rattle.clerks_model.specs.Answer.{Answer, two_clerks}
use Rattle.clerks_bytes.specs.Writes.{line_bytes, work_bytes, Front}
use Rattle.clerks_bytes.specs.declared.Told.{Told}

pub record Returned : Type 0 where
  -- 0, or the refusal's number
  pub code : ℕ
  -- how many bytes of each buffer its line takes
  pub one_length : ℕ
  pub two_length : ℕ
  -- the buffers as they are left
  pub one : Bytes
  pub two : Bytes
  pub work : Bytes

-- a line, and zeros behind it
unfoldable pub filled : Bytes → Bytes
filled line = line ++ zeros (line_bytes - length line)

-- a refused frame leaves zeros; the work buffer is always left so
unfoldable pub returned : Answer → Returned
returned (Answer.Refused n) = record { code = n; one_length = 0; two_length = 0; one = zeros line_bytes; two = zeros line_bytes; work = zeros work_bytes }
returned (Answer.Lines a b) = record { code = 0; one_length = length a; two_length = length b; one = filled a; two = filled b; work = zeros work_bytes }

unfoldable pub lengths_right : (one two work : Bytes) → Bool
lengths_right one two work = eqb (length one) line_bytes && eqb (length two) line_bytes && eqb (length work) work_bytes

-- a buffer of a wrong length is refused first, and nothing is touched
abbrev pub wrong_length : ℕ
wrong_length = 1

unfoldable pub asked : (frame one two work : Bytes) → Returned
asked frame one two work =
    when lengths_right one two work then returned (two_clerks frame)
    else record { code = wrong_length; one_length = 0; two_length = 0; one = one; two = two; work = work }

-- what `judge` leaves of two buffers
abbrev pub Filled : Answer → (one two one' two' : List ℕ) → Told → Type 0
Filled (Answer.Refused n) one two one' two' r = (r ≡ record { code = n; one = 0; two = 0 }) × (one' ≡ one) × (two' ≡ two)
Filled (Answer.Lines a b) one two one' two' r = (r.code ≡ 0) × Front a one one' r.one × Front b two two' r.two

abbrev pub Fills : (frame one two one' two' : List ℕ) → Told → Type 0
Fills frame = Filled (two_clerks frame)
