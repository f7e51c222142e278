-- RFC 3629's examples, computed. Assumes nothing.
use mathlib.Core.Path.{refl}
use Rattle.format.specs.Utf8.{is_text, chars, after, following}
use Rattle.format.specs.Examples.{Examples}

pub examples : Examples
unfolding is_text chars after following
examples = record {
  not_identical = refl;
  hangugeo = refl;
  nihongo = refl;
  stump = refl;
  overlong_nul = refl;
  overlong_dot = refl;
  surrogates = refl;
  last = refl;
  past_last = refl;
  cut_short = refl;
}
