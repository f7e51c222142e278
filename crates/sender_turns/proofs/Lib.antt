-- Turns, lanes, and the mill that is found from the turn on.
pub mod Turns
-- What every use leaves, that it grants once at most, and what frees nothing.
pub mod Settled
-- Numbers stay below a bound.
pub mod Numbered
-- A sender is settled, with numbers below a bound, exactly where such uses of a fresh one lead to it.
pub mod Reached
-- Within the next eight grants.
pub mod Fair
-- A mill's order of requests is kept, and a mill alone may have all four calls.
pub mod Order
-- The theorems of specs/Claims.antt.
pub mod Theorems
-- The theorem of specs/Uses.antt: of lists of uses of the code.
pub mod CodeTheorems
-- The sender as the code holds it, changed in one place.
pub mod LaidLaws
-- What the functions cite.
pub mod StepLaws
-- What enter, reply and resume cite.
pub mod UseLaws
