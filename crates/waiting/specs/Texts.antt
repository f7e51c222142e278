-- Texts one behind the other, each a length byte and its bytes: where one ends, and where n of them end. Assumes nothing.
use Rattle.std.specs.Prelude.{ℕ, zero, suc, ◌+◌, List, length, get_or, ltb}
use Rattle.model.specs.Maps.{when◌then◌else◌}

-- past the end of the bytes nothing stands
unfoldable pub text_end : List ℕ → ℕ → ℕ
text_end s at = when ltb at (length s) then at + (1 + get_or s at 0) else at

unfoldable pub texts_end : ℕ → List ℕ → ℕ → ℕ
texts_end zero s at = at
texts_end (suc n) s at = texts_end n s (text_end s at)
